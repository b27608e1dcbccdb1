-- The marks of stanzas, one more at a time.
use Rattle.std.proofs.Common.{◌≡◌, ℕ, ◌+◌, List, [], ◌∷◌, ◌++◌, Some}
use Rattle.std.proofs.Common.{take, map, slice_get, sym, ap, ◌∙◌, append_assoc}
use Rattle.std.proofs.lemmas.List.{map-append}
use Rattle.regex.specs.Patterns.{Re}
use Rattle.td_rows.proofs.Lists.{take-next}
use Rattle.td_stanza.specs.Field.{Entry}
use Rattle.td_query.specs.declared.mark.Mark.{Mark}
use Rattle.td_query.specs.Marks.{MarkBetween, mark_by}
use Rattle.td_query.specs.Tracking.{Tracking}

-- the marks of some stanzas and the mark of the next are those of one stanza more
pub marks-more : {fields : List Entry} {new : List Mark} {m : Mark} (patterns : List Re)
    (t : Tracking) (all : List (List Entry)) (from i : ℕ) (old : List Mark)
    → slice_get all i ≡ Some fields → MarkBetween (mark_by patterns t) all from i old
    → new ≡ old ++ m ∷ [] → m ≡ mark_by patterns t fields
    → MarkBetween (mark_by patterns t) all from (i + 1) new
marks-more {fields} {m = m} patterns t all from i old at so_far pushed is =
    let front = map (mark_by patterns t) (take from all) in
    rw (take-next all i fields at, map-append (mark_by patterns t) (take i all) (fields ∷ []))
    (ap (λ l. front ++ l) pushed ∙ sym (append_assoc front old (m ∷ []))
    ∙ ap (λ l. l ++ m ∷ []) so_far
    ∙ ap (λ b. map (mark_by patterns t) (take i all) ++ b ∷ []) is)
