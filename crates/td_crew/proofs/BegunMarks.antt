-- The marks of a journal's text say as much of a book's changes as those of the history from which
-- the script starts: what is given back at its opening is no clerk's, and isn't undone.
use Rattle.std.proofs.Common.{◌≡◌, ℕ, suc, Bool, true, false, not, ◌&&◌, ◌||◌}
use Rattle.std.proofs.Common.{List, [], ◌∷◌, ◌++◌, map, length, take, refl, sym, subst, ap, ◌∙◌}
use Rattle.std.proofs.Common.{Option, Some, None, if◌then◌else◌}
use Rattle.std.specs.List.{AllByRecursion, cons_option}
use Rattle.std.proofs.lemmas.List.{length-map}
use Rattle.td_rows.specs.declared.key.Key.{Key}
use Rattle.td_rows.specs.declared.state.State.{State}
use Rattle.td_rows.specs.declared.state.State.TheVariants.{NeedsBuild, Building, Built, Uploaded}
use Rattle.td_rows.specs.declared.state.State.TheVariants.{Installed, DepWait, BdUninstallable}
use Rattle.td_rows.specs.declared.state.State.TheVariants.{BuildAttempted, Failed, NotForUs}
use Rattle.td_rows.specs.Table.{Table}
use Rattle.td_journal.specs.declared.entry.Entry.{Entry}
use Rattle.td_journal.specs.declared.entry.Mark.{Mark}
use Rattle.td_journal.specs.declared.entry.Marked.{Marked}
use Rattle.td_journal.specs.Entries.{is_standing, standing_entry}
use Rattle.td_core.specs.History.{History, history_of, rows_of}
use Rattle.td_book.specs.Reopening.{return_in, returns_of}
use Rattle.td_book.specs.Seen.{is_desks}
use Rattle.td_desk.specs.declared.receipt.Receipt.{Receipt}
use Rattle.td_desk.specs.Changes.{changes_at, changes_from, made_by, still_undone, undone_since}
use Rattle.td_desk.specs.GoingOn.{GoesOn}
use Rattle.td_desk.specs.Receipts.{made_of}
use Rattle.td_desk.proofs.Reopening.{marks_told}
use Rattle.td_script.specs.Openings.{IsBegun}
use Rattle.td_crew.specs.CrewText.{IsShort, marks_begun}
use Rattle.td_crew.proofs.Heads.{first_of, rest_of}

abbrev marks : List Marked → List Mark
marks ms = map (λ m. m.mark) ms

abbrev entries : List Marked → List Entry
entries ms = map (λ m. m.entry) ms

-- the entry is a claim, or the end of a build
abbrev IsNoDesks : Entry → Type 0
IsNoDesks e = is_desks e.kind ≡ false

-- ---- 1. what is given back

return_other : (k : Key) (s : State) (es : List Entry) → AllByRecursion IsNoDesks es
    → AllByRecursion IsNoDesks (cons_option (return_in k s) es)
return_other k NeedsBuild es h = h
return_other k (Building b) es h = (refl, h)
return_other k Built es h = h
return_other k Uploaded es h = h
return_other k Installed es h = h
return_other k DepWait es h = h
return_other k BdUninstallable es h = h
return_other k BuildAttempted es h = h
return_other k Failed es h = h
return_other k NotForUs es h = h

returns_other : (t : Table) → AllByRecursion IsNoDesks (returns_of t)
returns_other [] = tt
returns_other (p ∷ t) = return_other p.0 p.1.state (returns_of t) (returns_other t)

-- ---- 2. journals that go on

-- the first entries of a journal are these
abbrev StartsWith : List Entry → List Marked → Type 0
StartsWith [] ms = Unit {0}
StartsWith (e ∷ es) [] = ⊥
StartsWith (e ∷ es) (x ∷ ms) = (x.entry ≡ e) × StartsWith es ms

StartsWith-take : (es : List Entry) (ms : List Marked) → take (length es) (entries ms) ≡ es
    → StartsWith es ms
StartsWith-take [] ms on = tt
StartsWith-take (e ∷ es) [] on = absurd (let h = on in cc)
StartsWith-take (e ∷ es) (x ∷ ms) on =
    (ap (first_of e) on, StartsWith-take es ms (ap rest_of on))

StartsWith-on : (before ms : List Marked) → GoesOn before ms → StartsWith (entries before) ms
StartsWith-on before ms on =
    StartsWith-take (entries before) ms
    (ap (λ (n : ℕ). take n (entries ms)) (length-map before (λ m. m.entry)) ∙ on)

-- ---- 3. changes

-- an entry that is no desk's is no change; only its undo is one
one_since : (n : ℕ) (x : Marked) (e : Entry) → x.entry ≡ e → IsNoDesks e
    → made_by n x.entry.kind x.entry.keys ++ undone_since n true x.mark
    ≡ undone_since n true x.mark
one_since n x e same other =
    ap (λ (b : Bool).
    (if b then made_of n x.entry.kind x.entry.keys ∷ [] else []) ++ undone_since n true x.mark)
    (ap (λ (y : Entry). is_desks y.kind) same ∙ other)

changes-more : (n : ℕ) (ms : List Marked) (more : List Entry)
    → StartsWith (entries (map standing_entry more)) ms → AllByRecursion IsNoDesks more
    → changes_from n ms [] ≡ changes_from n ms (marks (map standing_entry more))
changes-more n ms [] on other = refl
changes-more n [] (e ∷ more) on other = absurd on
changes-more n (x ∷ ms) (e ∷ more) on other =
    (λ i. one_since n x e on.0 other.0 i ++ changes-more (suc n) ms more on.1 other.1 i)

changes-begun : (n : ℕ) (ms first : List Marked) (more : List Entry)
    → StartsWith (entries (first ++ map standing_entry more)) ms → AllByRecursion IsNoDesks more
    → changes_from n ms (marks first) ≡ changes_from n ms (marks (first ++ map standing_entry more))
changes-begun n ms [] more on other = changes-more n ms more on other
changes-begun n [] (f ∷ first) more on other = absurd on
changes-begun n (x ∷ ms) (f ∷ first) more on other =
    ap (λ (l : List Receipt). changes_at n (Some f.mark) x ++ l)
    (changes-begun (suc n) ms first more on.1 other)

still-more : (ms : List Marked) (more : List Entry)
    → StartsWith (entries (map standing_entry more)) ms
    → still_undone ms (marks (map standing_entry more)) ≡ true
still-more ms [] on = refl
still-more [] (e ∷ more) on = absurd on
still-more (x ∷ ms) (e ∷ more) on = still-more ms more on.1

and_more : (a b c : Bool) → a && b ≡ true → (b ≡ true → c ≡ true) → a && c ≡ true
and_more true b c h f = f h
and_more false b c h f = h

still-begun : (ms first : List Marked) (more : List Entry)
    → StartsWith (entries (first ++ map standing_entry more)) ms
    → still_undone ms (marks first) ≡ true
    → still_undone ms (marks (first ++ map standing_entry more)) ≡ true
still-begun ms [] more on still = still-more ms more on
still-begun [] (f ∷ first) more on still = still
still-begun (x ∷ ms) (f ∷ first) more on still =
    and_more (is_standing f.mark || not (is_standing x.mark)) (still_undone ms (marks first))
    (still_undone ms (marks (first ++ map standing_entry more))) still
    (still-begun ms first more on.1)

-- ---- 4. where a script begins

pub changes_told : (given : Option (List ℕ)) (rows : Table) (h : History) (ms : List Marked)
    → IsShort given → IsBegun given rows h → GoesOn h.journal ms
    → changes_from 1 ms (marks_begun given) ≡ changes_from 1 ms (marks h.journal)
changes_told None rows h ms short is on =
    ap (λ (x : History). changes_from 1 ms (marks x.journal)) (sym is)
changes_told (Some text) rows h ms short (before, reads, is) on =
    let more = returns_of (rows_of (history_of rows before)) in
    let front = subst (λ (x : History). GoesOn x.journal ms) is on in
    ap (changes_from 1 ms) (marks_told rows text before short reads)
    ∙ changes-begun 1 ms before more (StartsWith-on (before ++ map standing_entry more) ms front)
    (returns_other (rows_of (history_of rows before)))
    ∙ ap (λ (x : History). changes_from 1 ms (marks x.journal)) (sym is)

pub still_told : (given : Option (List ℕ)) (rows : Table) (h : History) (ms : List Marked)
    → IsShort given → IsBegun given rows h → GoesOn h.journal ms
    → still_undone ms (marks_begun given) ≡ true → still_undone ms (marks h.journal) ≡ true
still_told None rows h ms short is on still =
    ap (λ (x : History). still_undone ms (marks x.journal)) is
still_told (Some text) rows h ms short (before, reads, is) on still =
    let more = returns_of (rows_of (history_of rows before)) in
    let front = subst (λ (x : History). GoesOn x.journal ms) is on in
    ap (λ (x : History). still_undone ms (marks x.journal)) is
    ∙ still-begun ms before more (StartsWith-on (before ++ map standing_entry more) ms front)
    (ap (still_undone ms) (sym (marks_told rows text before short reads)) ∙ still)
