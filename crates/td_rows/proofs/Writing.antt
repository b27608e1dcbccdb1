-- Rows that are written line by line, and read again.
use Rattle.std.proofs.Common.{◌≡◌, ℕ, ◌+◌, is_some, true, List, [], ◌∷◌, ◌++◌}
use Rattle.std.proofs.Common.{map, take, Some, slice_get, refl, sym, ap, subst, ◌∙◌, arith}
use Rattle.std.proofs.Common.{append-nil, append_assoc}
use Rattle.std.specs.Prelude.{decimal}
use Rattle.std.specs.Fmt.{signed_decimal}
use Rattle.std.specs.List.{filter, AllByRecursion}
use Rattle.std.proofs.lemmas.Grind.{flat_map-append}
use Rattle.std.proofs.lemmas.List.{map-append}
use Rattle.std.proofs.lemmas.List.Elements.{filter-append}
use Rattle.std.proofs.Common.{lit<}
use Rattle.td_text.specs.Cut.{Without}
use Rattle.td_text.specs.Lines.{lines_of, text_of}
use Rattle.td_text.proofs.Cut.{Without-append}
use Rattle.td_text.proofs.Lines.{lines_of-text_of}
use Rattle.td_text.proofs.Numbers.{Without-decimal}
use Rattle.td_text.proofs.SignedNumbers.{Without-signed_decimal}
use Rattle.td_rows.proofs.NoteLines.{lack_extra, lack_text}
use Rattle.td_rows.specs.declared.key.Key.{Key}
use Rattle.td_rows.specs.declared.row.Row.{Row}
use Rattle.td_rows.specs.Keys.{ascending}
use Rattle.td_rows.specs.Table.{Table, keys_of}
use Rattle.td_rows.specs.KeyText.{key_text}
use Rattle.td_rows.specs.StateWord.{state_word}
use Rattle.td_rows.specs.Notes.{extra_part, text_part, notes}
use Rattle.td_rows.specs.RowLine.{row_words, row_line}
use Rattle.td_rows.specs.StateFile.{is_filled, Opens, Fresh, IsStateFile}
use Rattle.td_rows.specs.StateWriting.{state_text, OpensInLines, IsOpening}
use Rattle.td_rows.proofs.Inserts.{row_of-before}
use Rattle.td_rows.proofs.KeyTexts.{key_lacks_newline}
use Rattle.td_rows.proofs.Lists.{take-next}
use Rattle.td_rows.proofs.StateTexts.{names-row_of}
use Rattle.td_rows.proofs.StateWords.{state_lacks_newline}

-- ---- one row more

pub state_text-push : (t : Table) (p : Key × Row)
    → state_text (t ++ p ∷ []) ≡ (state_text t ++ row_line p) ++ 10 ∷ []
state_text-push t p =
    ap text_of (map-append row_line t (p ∷ []))
    ∙ flat_map-append (λ line. line ++ 10 ∷ []) (map row_line t) (row_line p ∷ [])
    ∙ ap (λ (l : List ℕ). state_text t ++ l) (append-nil (row_line p ++ 10 ∷ []))
    ∙ sym (append_assoc (state_text t) (row_line p) (10 ∷ []))

-- the text so far, once the row with a number is written
pub state_text-next : (t : Table) (n : ℕ) (p : Key × Row) → slice_get t n ≡ Some p
    → state_text (take (n + 1) t) ≡ (state_text (take n t) ++ row_line p) ++ 10 ∷ []
state_text-next t n p at = ap state_text (take-next t n p at) ∙ state_text-push (take n t) p

-- ---- no newline stands in a line

line_lacks : (p : Key × Row) → OpensInLines p → Without 10 (row_line p)
line_lacks p h =
    let fits = h.opens.fits in
    let row = p.1 in
    let texts : Without 10 (notes (row.extra, row.dep_wait)) =
    Without-append 10 (extra_part row.extra) (text_part row.dep_wait)
    (lack_extra row.extra (let small = fits.texts in omega arith) h.extra)
    (lack_text row.dep_wait h.dep_wait) in
    let number : Without 10 (decimal row.number ++ notes (row.extra, row.dep_wait)) =
    Without-append 10 (decimal row.number) _
    (Without-decimal 10 row.number (lit< tt) (let le = fits.number in omega arith)) texts in
    let numbers : Without 10
    (signed_decimal row.priority ++ 32 ∷ (decimal row.number ++ notes (row.extra, row.dep_wait))) =
    Without-append 10 (signed_decimal row.priority) _
    (Without-signed_decimal 10 9999 row.priority (lit< tt) (λ z. omega arith)
    (lit< tt) fits.priority) ((λ z. omega arith), number) in
    let words : Without 10 (row_words row) =
    Without-append 10 (state_word row.state) _ (state_lacks_newline row.state fits.state)
    ((λ z. omega arith), numbers) in
    Without-append 10 (key_text p.0) _ (key_lacks_newline p.0 fits.key) ((λ z. omega arith), words)

lines_lack : (t : Table) → AllByRecursion OpensInLines t
    → AllByRecursion (Without 10) (map row_line t)
lines_lack [] h = tt
lines_lack (p ∷ t) h = (line_lacks p h.0, lines_lack t h.1)

-- ---- what is written is a state file

row_line-filled : (p : Key × Row) → is_filled (row_line p) ≡ true
row_line-filled p = by p.0.source
  where
    by : (s : List ℕ) → is_filled ((s ++ 47 ∷ p.0.arch) ++ 32 ∷ row_words p.1) ≡ true
    by [] = refl
    by (x ∷ s) = refl

filter-filled : (t : Table) → filter is_filled (map row_line t) ≡ map row_line t
filter-filled [] = refl
filter-filled (p ∷ t) =
    let some = row_line-filled p in
    rw some (ap (λ (l : List (List ℕ)). row_line p ∷ l) (filter-filled t))

opens_each : (t : Table) → AllByRecursion OpensInLines t → AllByRecursion Opens t
opens_each [] h = tt
opens_each (p ∷ t) h = (h.0.opens, opens_each t h.1)

fresh_each : (seen t : Table) → ascending (keys_of (seen ++ t)) ≡ true → Fresh seen t
fresh_each seen [] up = tt
fresh_each seen (p ∷ t) up = (
  names-row_of seen p.0 ∙ ap (λ o. is_some o) (row_of-before seen p.0 p.1 t up),
  fresh_each (seen ++ p ∷ []) t
      (subst (λ (u : Table). ascending (keys_of u) ≡ true) (sym (append_assoc seen (p ∷ []) t)) up),
)

pub read_again : (t : Table) → IsOpening t → IsStateFile (lines_of (state_text t)) t
read_again t h =
    let lines : lines_of (state_text t) ≡ map row_line t ++ [] ∷ [] =
    lines_of-text_of (map row_line t) (lines_lack t h.rows) in
    record {
      rows = t;
      written = record {
        spelled = ap (filter is_filled) lines ∙ filter-append is_filled (map row_line t) ([] ∷ [])
            ∙ append-nil (filter is_filled (map row_line t)) ∙ filter-filled t;
        opening = opens_each t h.rows;
        fresh = fresh_each [] t h.rising;
        limited = h.limited;
      };
      same = λ k. refl;
      rising = h.rising;
    }
