-- `Archive::open_at`: the clause `rows` and the call of `from_lines`.
use Rattle.std.proofs.Common.{◌≡◌, None, Some, option_map, slice_get, sym, ap, ◌∙◌, refl}
use Rattle.std.specs.Prelude.{ℕ, Bool, Option, if◌then◌else◌}
use Rattle.td_relation.specs.Arch.{ArchWords}
use Rattle.td_relation.specs.Table.{place_of}
use Rattle.td_rows.specs.declared.key.Key.{Key}
use Rattle.td_rows.proofs.NoteLines.{has_newline-Without}
use Rattle.td_text.proofs.Words.{Without-arch}
use Rattle.td_indices.specs.Archive.{Contents, is_of, places_from, source_named}
use Rattle.td_indices.specs.Opening.{greatest_at, opening_of, opening_row}
use Rattle.td_indices.specs.Sources.{KeptSource, source_of}
use Rattle.td_indices.proofs.Greatest.{row_found}
use Rattle.td_indices.proofs.OpeningRows.{opened}
use Rattle.td_indices.proofs.OwnPlaces.{place_of_named}
use Rattle.td_indices.proofs.archive.Archive.open_at.Goals as goal

pub from_lines-requires-clause-arch : goal.from_lines-requires-clause-arch
from_lines-requires-clause-arch c =
    has_newline-Without c.name.result.now
    (Without-arch 10 c.name.result.now refl c.name.ensures.legal)

pub returns-in-Ok-clause-rows : goal.returns-in-Ok-clause-rows
returns-in-Ok-clause-rows c =
    let a = c.args.self.now in
    let place = c.args.place in
    let key = c.in_ok-key.key in
    let s : KeptSource = source_of (c.args.name, c.args.sourced.now) in
    let numbers = c.of-numbers.result.now in
    let named : option_map (λ (w : ArchWords). w.name) (slice_get a.table place)
    ≡ Some c.name.result.now =
    sym (ap (λ (b : Contents). option_map (λ (w : ArchWords). w.name) (slice_get b.table place))
    c.self.view_is) ∙ c.name.ensures.name in
    let here : source_named a key.source ≡ Some s =
    ap (λ (k : Key). source_named a k.source) c.in_ok-key.ensures ∙ c.requires.named in
    let at : place_of a.table key.arch ≡ Some place =
    ap (λ (k : Key). place_of a.table k.arch) c.in_ok-key.ensures
    ∙ place_of_named a.table place c.name.result.now c.requires.apart named in
    let its : numbers ≡ places_from (is_of s.head.name) 0 a.binaries =
    c.of-numbers.ensures ∙ c.self.invariant.0 c.args.name.now
    ∙ ap (λ (b : Contents). places_from (is_of s.head.name) 0 b.binaries) c.self.view_is in
    let best : c.greatest_number-best.result
    ≡ greatest_at a.binaries s.head.parts place None numbers =
    c.greatest_number-best.ensures
    ∙ ap (λ (b : Contents). greatest_at b.binaries s.head.parts place None numbers)
    c.self.view_is in
    let opens : Some c.opening.result ≡ opening_row a key =
    ap Some c.opening.ensures ∙ ap (λ (n : Option ℕ). Some (opening_of n)) best
    ∙ sym (ap (λ (b : Bool).
    if b then Some (opening_of (greatest_at a.binaries s.head.parts place None numbers)) else None)
    c.requires.has)
    ∙ row_found a key s numbers place here at its in
    opened a c.args.rows.now.entries c.insert.new.self.entries c.args.name.now c.name.result.now
    place key c.opening.result named c.in_ok-key.ensures opens c.in-Ok.ensures.entries
