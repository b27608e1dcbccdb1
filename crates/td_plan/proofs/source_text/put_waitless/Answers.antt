-- `put_waitless`: its loop.
use Rattle.std.proofs.Common.{◌≡◌, ℕ, ◌+◌, ◌<◌, ◌++◌, ◌∷◌, [], List, get_or, length, map}
use Rattle.std.proofs.Common.{string_bytes}
use Rattle.std.proofs.Common.{take}
use Rattle.std.specs.Borrow.{Bor}
use Rattle.std.proofs.lemmas.List.{get_or_default}
use Rattle.td_text.specs.Lines.{text_of}
use Rattle.td_rows.specs.declared.key.Key.{Key}
use Rattle.td_plan.specs.Lines.{no_wait_line}
use Rattle.td_plan.proofs.SourcePlaces.{text-more}
use Rattle.td_plan.proofs.SourceTexts.{line-more}
use Rattle.td_plan.proofs.source_text.put_waitless.Goals as goal

next : (F : Bor (List ℕ) → List ℕ) (xs : List (Bor (List ℕ))) (i : ℕ) (d : Bor (List ℕ))
    → i < length xs → text_of (map F (take (i + 1) xs))
    ≡ text_of (map F (take i xs)) ++ (F (get_or xs i d) ++ 10 ∷ [])
next F xs i d low =
    line-more F xs i (get_or xs i d) low (get_or_default xs i d (get_or xs i d) low)

pub loop-on-preserved : goal.loop-on-preserved
loop-on-preserved c =
    let k : Key = record { source = c.args.source.now; arch = c.args.arch.now } in
    text-more (string_bytes c.args.out.now) (string_bytes c.loop-on.out)
    (string_bytes c.put_no_wait.new.out) _ _ _ c.loop-on.invariant
    c.in_ok-put_no_wait.ensures.ok
    (next (λ (on : Bor (List ℕ)). no_wait_line k on.now) c.args.waitless.now c.loop-on.on-index _
    c.loop-on-test.true)
