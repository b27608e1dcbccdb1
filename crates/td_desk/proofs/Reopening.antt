-- A journal's text has the marks of its journal, and a book that is opened with it has no changes
-- yet.
use Rattle.std.proofs.Common.{◌≡◌, ℕ, suc, ◌+◌, ◌-◌, ◌<◌, ◌^◌, Bool, true, false, not, ◌&&◌, ◌||◌}
use Rattle.std.proofs.Common.{◌==◌, List, [], ◌∷◌, ◌++◌, map, length, refl, sym, subst, Some, ap}
use Rattle.std.proofs.Common.{◌∙◌, arith}
use Rattle.std.proofs.Common.{append_assoc, append-nil, length-append, if◌then◌else◌, ne_eqb, lit<}
use Rattle.std.specs.Prelude.{decimal, replicate}
use Rattle.std.specs.List.{AllByRecursion, cons_option}
use Rattle.std.proofs.lemmas.List.{length-map, map-append}
use Rattle.std.proofs.lemmas.Option.{same_Some}
use Rattle.atomic_table.specs.Seated.{TableId}
use Rattle.td_text.specs.Cut.{Without}
use Rattle.td_text.proofs.Cut.{Without-right}
use Rattle.td_text.proofs.Numbers.{Without-decimal}
use Rattle.td_rows.specs.declared.key.Key.{Key}
use Rattle.td_rows.specs.declared.state.State.{State}
use Rattle.td_rows.specs.declared.state.State.TheVariants.{NeedsBuild, Building, Built, Uploaded}
use Rattle.td_rows.specs.declared.state.State.TheVariants.{Installed, DepWait, BdUninstallable}
use Rattle.td_rows.specs.declared.state.State.TheVariants.{BuildAttempted, Failed, NotForUs}
use Rattle.td_rows.specs.Table.{Table}
use Rattle.td_journal.specs.declared.entry.Entry.{Entry}
use Rattle.td_journal.specs.declared.entry.Mark.{Mark}
use Rattle.td_journal.specs.declared.entry.Mark.TheVariants.{Standing, Undone}
use Rattle.td_journal.specs.declared.entry.Marked.{Marked}
use Rattle.td_journal.specs.declared.version.Version.{Version}
use Rattle.td_journal.specs.Entries.{is_standing, standing_entry}
use Rattle.td_journal.specs.EntryFits.{IsLine}
use Rattle.td_journal.specs.Header.{header_of}
use Rattle.td_journal.specs.JournalFile.{IsJournalText}
use Rattle.td_journal.specs.JournalText.{entry_line, entry_lines, mark_sign, kind_word, kind_notes}
use Rattle.td_journal.specs.JournalText.{spaced_keys}
use Rattle.td_rows.specs.Notes.{notes}
use Rattle.td_journal.proofs.EntryLines.{line_lacks}
use Rattle.td_journal.proofs.JournalFiles.{header_lacks, texts_are_one}
use Rattle.td_supply.specs.Supply.{Stock}
use Rattle.td_core.specs.History.{History, rows_of, history_of}
use Rattle.td_book.specs.Desk.{BookModel}
use Rattle.td_book.specs.Reopening.{return_in, returns_of, given_back, IsReopened}
use Rattle.td_desk.specs.declared.place.Place.{Place}
use Rattle.td_desk.specs.declared.place.Place.TheVariants.{Number, Sign, Rest}
use Rattle.td_desk.specs.Changes.{changes_from, still_undone, undone_since}
use Rattle.td_desk.specs.GoingOn.{GoesOn}
use Rattle.td_desk.proofs.GoingOn.{goes_on-same}
use Rattle.td_desk.specs.Marks.{IsNamedJournal, mark_at, mark_of, marks_from, marks_in}
use Rattle.td_desk.specs.Marks.{place_behind}
use Rattle.td_desk.specs.declared.tick.Tick.{Tick}
use Rattle.td_desk.specs.inner.Begun.{IsBegun}
use Rattle.td_desk.specs.inner.Ticks.{AreBegun, begun_at, unticked}
use Rattle.td_desk.proofs.Counting.{changes-append, still-append}

-- ---- 1. the marks of a text

in_rest : (a rest : List ℕ) → Without 10 a
    → marks_from Rest (a ++ 10 ∷ rest) ≡ marks_from Number rest
in_rest [] rest w = refl
in_rest (x ∷ a) rest w =
    ap (λ b. marks_from (if b then Number else Rest) (a ++ 10 ∷ rest)) (ne_eqb x 10 w.0)
    ∙ in_rest a rest w.1

in_number : (a rest : List ℕ) → Without 32 a
    → marks_from Number (a ++ 32 ∷ rest) ≡ marks_from Sign rest
in_number [] rest w = refl
in_number (x ∷ a) rest w =
    ap (λ b. marks_from (if b then Sign else Number) (a ++ 32 ∷ rest)) (ne_eqb x 32 w.0)
    ∙ in_number a rest w.1

at_sign : (k : Mark) (rest : List ℕ)
    → marks_from Sign (mark_sign k ++ rest) ≡ k ∷ marks_from Rest rest
at_sign Standing rest = refl
at_sign Undone rest = refl

-- the line of an entry, and what follows it
abbrev behind_mark : Marked → List ℕ
behind_mark m =
    32 ∷ (kind_word m.entry.kind ++ (spaced_keys m.entry.keys ++ notes (kind_notes m.entry.kind)))

one_line : (v : Version) (n : ℕ) (m : Marked) (rest : List ℕ) → n < 2 ^ 64 → IsLine v m
    → marks_from Number (entry_line n m ++ 10 ∷ rest) ≡ m.mark ∷ marks_from Number rest
one_line v n m rest small h =
    let whole : Without 10 (entry_line n m) = line_lacks v n m small h in
    let sign : Without 10 (mark_sign m.mark ++ behind_mark m) =
    (Without-right 10 (decimal n) (32 ∷ (mark_sign m.mark ++ behind_mark m)) whole).1 in
    ap (marks_from Number)
    (append_assoc (decimal n) (32 ∷ (mark_sign m.mark ++ behind_mark m)) (10 ∷ rest))
    ∙ in_number (decimal n) ((mark_sign m.mark ++ behind_mark m) ++ 10 ∷ rest)
    (Without-decimal 32 n (lit< tt) small)
    ∙ ap (marks_from Sign) (append_assoc (mark_sign m.mark) (behind_mark m) (10 ∷ rest))
    ∙ at_sign m.mark (behind_mark m ++ 10 ∷ rest)
    ∙ ap (λ (l : List Mark). m.mark ∷ l)
    (in_rest (behind_mark m) rest (Without-right 10 (mark_sign m.mark) (behind_mark m) sign))

in_lines : (v : Version) (n : ℕ) (ms : List Marked) → n + length (entry_lines n ms) < 2 ^ 64
    → AllByRecursion (IsLine v) ms → marks_from Number (entry_lines n ms) ≡ map (λ m. m.mark) ms
in_lines v n [] small h = refl
in_lines v n (m ∷ ms) small h =
    one_line v n m (entry_lines (n + 1) ms) (omega arith) h.0
    ∙ ap (λ (l : List Mark). m.mark ∷ l)
    (in_lines v (n + 1) ms
    (omega (arith, length-append (entry_line n m) (10 ∷ entry_lines (n + 1) ms))) h.1)

pub marks_told : (opening : Table) (text : List ℕ) (ms : List Marked) → length text < 2 ^ 64
    → IsJournalText opening text ms → marks_in text ≡ map (λ m. m.mark) ms
marks_told opening text ms small j =
    ap (marks_from Rest) j.spelled
    ∙ in_rest (header_of j.version) (entry_lines 1 ms) (header_lacks j.version)
    ∙ in_lines j.version 1 ms
    (omega (
      arith,
      ap length j.spelled,
      length-append (header_of j.version) (10 ∷ entry_lines 1 ms),
    )) j.entries.lines

-- ---- 2. nothing is changed yet

stays : (k : Mark) → (is_standing k || not (is_standing k)) ≡ true
stays Standing = refl
stays Undone = refl

own_still : (ms : List Marked) → still_undone ms (map (λ m. m.mark) ms) ≡ true
own_still [] = refl
own_still (m ∷ ms) = (λ i. stays m.mark i && own_still ms i)

not_since : (n : ℕ) (k : Mark) → undone_since n (is_standing k) k ≡ []
not_since n Standing = refl
not_since n Undone = refl

own_none : (n : ℕ) (ms : List Marked) → changes_from n ms (map (λ m. m.mark) ms) ≡ []
own_none n [] = refl
own_none n (m ∷ ms) = (λ i. not_since n m.mark i ++ own_none (suc n) ms i)

-- what is given back is no clerk's
return_none : (n : ℕ) (k : Key) (s : State) (es : List Entry)
    → ((i : ℕ) → changes_from i (map standing_entry es) [] ≡ [])
    → changes_from n (map standing_entry (cons_option (return_in k s) es)) [] ≡ []
return_none n k NeedsBuild es h = h n
return_none n k (Building b) es h = h (suc n)
return_none n k Built es h = h n
return_none n k Uploaded es h = h n
return_none n k Installed es h = h n
return_none n k DepWait es h = h n
return_none n k BdUninstallable es h = h n
return_none n k BuildAttempted es h = h n
return_none n k Failed es h = h n
return_none n k NotForUs es h = h n

returns_none : (n : ℕ) (t : Table) → changes_from n (map standing_entry (returns_of t)) [] ≡ []
returns_none n [] = refl
returns_none n (p ∷ t) = return_none n p.0 p.1.state (returns_of t) (λ i. returns_none i t)

begun_with : (h : History)
    → (still_undone (given_back h).journal (map (λ m. m.mark) h.journal) ≡ true)
    × (changes_from 1 (given_back h).journal (map (λ m. m.mark) h.journal) ≡ [])
begun_with h =
    let os = map (λ m. m.mark) h.journal in
    let more = map standing_entry (returns_of (rows_of h)) in
    let still = own_still h.journal in (
      still-append h.journal more os still,
      changes-append 1 h.journal more os still
          ∙ (λ i. own_none 1 h.journal i ++ returns_none (1 + length h.journal) (rows_of h) i),
    )

pub begun_book : (opening : Table) (text : List ℕ) (table : TableId) (stock : Stock) (builders : ℕ)
    (b : BookModel) → length text < 2 ^ 64 → IsReopened opening text table stock builders b
    → IsBegun table
    (record { rows = opening; stock = stock; builders = builders; journal = Some text })
    (marks_in text) b
begun_book opening text table stock builders b small r =
    let os = marks_told opening text r.journal small r.reads in
    let h = history_of opening r.journal in
    let now : b.history.journal ≡ (given_back h).journal =
    ap (λ (x : BookModel). x.history.journal) r.is in
    let all = begun_with h in
    record {
      at = ap (λ (x : BookModel). x.fixed.table) r.is;
      over = ap (λ (x : BookModel). x.history.opening) r.is;
      stocked = ap (λ (x : BookModel). x.fixed.stock) r.is;
      staffed = ap (λ (x : BookModel). x.fixed.builders) r.is;
      began = λ other before is reads.
          subst (λ ms. GoesOn (given_back (history_of opening ms)).journal b.history.journal)
          (texts_are_one opening text r.journal before small r.reads
          (subst (λ t. IsJournalText opening t before) (sym (same_Some text other is)) reads))
          (goes_on-same (given_back h).journal b.history.journal now);
      still = (λ i. still_undone (now i) (os i)) ∙ all.0;
      none = (λ i. changes_from 1 (now i) (os i)) ∙ all.1;
    }

pub begun_named : (opening : Table) (text : List ℕ) (table : TableId) (stock : Stock)
    (builders : ℕ) (b : BookModel) → length text < 2 ^ 64
    → IsReopened opening text table stock builders b → IsNamedJournal (marks_in text) opening text
begun_named opening text table stock builders b small r = record {
  journal = r.journal;
  reads = r.reads;
  are = marks_told opening text r.journal small r.reads;
}

-- ticks that are those of the entries of the opening
pub begun_few : (os : List Mark) (ts : List Tick) → ts ≡ map begun_at os → AreBegun os 0 ts
begun_few os ts is =
    let none : length ts - length os ≡ 0 = omega (arith, ap length is, length-map os begun_at) in (
      is ∙ sym (append-nil (map begun_at os))
          ∙ ap (λ (k : ℕ). map begun_at os ++ replicate k unticked) (sym none),
      omega arith,
    )

-- ---- 3. the ticks that are made of a text

pub begun_mark : (c : ℕ)
    → (let t : Tick = record { made = true; undone = c == 45 } in t) ≡ begun_at (mark_of c)
begun_mark c = at (c == 45)
  where
    at : (b : Bool) → (let t : Tick = record { made = true; undone = b } in t)
        ≡ begun_at (if b then Undone else Standing)
    at true = refl
    at false = refl

pub next_byte : (ts new : List Tick) (p q : Place) (rest after : List ℕ) (c : ℕ) (whole : List Tick)
    → rest ≡ c ∷ after → new ≡ ts ++ map begun_at (mark_at p c) → q ≡ place_behind p c
    → ts ++ map begun_at (marks_from p rest) ≡ whole
    → new ++ map begun_at (marks_from q after) ≡ whole
next_byte ts new p q rest after c whole is one at h =
    let more = map begun_at (marks_from (place_behind p c) after) in
    (λ i. one i ++ map begun_at (marks_from (at i) after))
    ∙ append_assoc ts (map begun_at (mark_at p c)) more
    ∙ ap (λ (l : List Tick). ts ++ l)
    (sym (map-append begun_at (mark_at p c) (marks_from (place_behind p c) after)))
    ∙ ap (λ (l : List ℕ). ts ++ map begun_at (marks_from p l)) (sym is)
    ∙ h

pub last_byte : (ts : List Tick) (p : Place) (rest : List ℕ) (whole : List Tick) → rest ≡ []
    → ts ++ map begun_at (marks_from p rest) ≡ whole → ts ≡ whole
last_byte ts p rest whole none h =
    sym (append-nil ts) ∙ ap (λ (l : List ℕ). ts ++ map begun_at (marks_from p l)) (sym none) ∙ h
