-- `has_field`: a field with the name.
use Rattle.std.proofs.Common.{◌<◌, ◌∙◌, ℕ, Bor, List, arith, length, sym}
use Rattle.std.specs.Str.{bytes_eq}
use Rattle.td_details.proofs.Seeking.{seen_here}
use Rattle.td_details.proofs.asked.has_field.Goals as goal

pub returns-then-eq : goal.returns-then-eq
returns-then-eq c =
    let fields : List (Bor (List ℕ)) = c.args.fields.now in
    let within : c.loop-other.other-index < length fields = omega (arith, c.loop-other-test.true) in
    seen_here (bytes_eq c.args.name.now) (λ (f : Bor (List ℕ)). f.now) fields
    c.loop-other.other-index _ within (sym c.eq.ensures ∙ c.if-eq.true)
