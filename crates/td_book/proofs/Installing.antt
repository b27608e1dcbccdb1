-- What an entry, and its undo, do to what is Installed.
use Rattle.std.proofs.Common.{◌≡◌, ◌↔◌, ℕ, ◌-◌, Bool, true, false, not, List}
use Rattle.std.proofs.Common.{Option, Some, None, if◌then◌else◌, option_map}
use Rattle.std.proofs.Common.{ap, refl, sym, subst, ◌∙◌}
use Rattle.std.proofs.lemmas.Bool.{and_parts}
use Rattle.std.proofs.lemmas.Option.{none-some, same_Some}
use Rattle.td_rows.specs.declared.key.Key.{Key}
use Rattle.td_rows.specs.declared.row.Row.{Row}
use Rattle.td_rows.specs.declared.state.State.{State}
use Rattle.td_rows.specs.declared.state.State.TheVariants.{Installed}
use Rattle.td_rows.specs.declared.kind.Kind.{Kind}
use Rattle.td_rows.specs.declared.kind.Kind.TheVariants.{Gb, Nmu, Bp, Dw, Claim, Outcome as Ended}
use Rattle.td_rows.specs.declared.kind.Kind.TheVariants.{Arrive, Sweep}
use Rattle.td_rows.specs.declared.outcome.Outcome.{Outcome}
use Rattle.td_rows.specs.declared.outcome.Outcome.TheVariants as ends
use Rattle.td_rows.specs.Keys.{names, ascending}
use Rattle.td_rows.specs.Meaning.{applies, means}
use Rattle.td_rows.specs.States.{gives_back, waits_for, is_installed, is_queued, is_building_by}
use Rattle.td_rows.specs.States.{is_coming, is_waiting}
use Rattle.td_rows.specs.Table.{Table, row_of, keys_of, meant, applied, fits, AppliesOn}
use Rattle.td_rows.proofs.Tables.{row_of-each_row, applies-fits}
use Rattle.td_journal.specs.declared.entry.Entry.{Entry}
use Rattle.td_journal.specs.declared.entry.Mark.TheVariants.{Undone}
use Rattle.td_journal.specs.declared.entry.Marked.{Marked}
use Rattle.td_journal.specs.Entries.{standing_entry, entry_at}
use Rattle.td_journal.proofs.LastEntry.{entry_at-last}
use Rattle.td_core.specs.History.{History, rows_of}
use Rattle.td_core.proofs.Staying.{entry_at-undone}
use Rattle.td_core.proofs.Worlds.{rows_of-with_entry}
use Rattle.td_book.specs.Watching.{is_there, tally}
use Rattle.td_book.specs.inner.Tallies.{AreChanged, AreTallied, IsEntered, IsTakenBack}
use Rattle.td_book.specs.inner.Tallies.{made_installed, was_there}
use Rattle.td_book.proofs.Steps.{up_now}
use Rattle.td_book.proofs.Tallies.{tally-each_row}

-- ---- 1. states that aren't Installed

-- a row of which a test holds that doesn't hold of an Installed row
uninstalled-where : (test : State → Bool) → test Installed ≡ false → (s : State) → test s ≡ true
    → is_installed s ≡ false
uninstalled-where test other Installed h = absurd (let bad : true ≡ false = sym h ∙ other in cc)
uninstalled-where test other s h = refl

-- ---- 2. kinds: a rebuild takes Installed away, an arrival gives it, and no other changes it

makes : (kind : Kind) (there : Bool) (row : Row) → made_installed kind ≡ Some there
    → applies kind row ≡ true
    → (is_installed row.state ≡ not there) × (is_installed (means kind row).state ≡ there)
makes (Nmu n e m) false row is a = ((and_parts (is_installed row.state) _ a).0, refl)
makes Arrive true row is a = (uninstalled-where is_coming refl row.state a, refl)
makes kind there row is a = absurd (cc)

stays : (kind : Kind) (row : Row) → made_installed kind ≡ None → applies kind row ≡ true
    → is_installed (means kind row).state ≡ is_installed row.state
stays Gb row none a = sym (uninstalled-where gives_back refl row.state a)
stays (Nmu n e m) row none a = absurd (cc)
stays (Bp p) row none a = refl
stays (Dw x) row none a = sym (uninstalled-where waits_for refl row.state a)
stays (Claim b) row none a = sym (uninstalled-where is_queued refl row.state a)
stays (Ended b o) row none a =
    ended o ∙ sym (uninstalled-where (is_building_by b) refl row.state a)
  where
    ended : (o : Outcome) → is_installed (means (Ended b o) row).state ≡ false
    ended ends.Built = refl
    ended o = refl
stays Arrive row none a = absurd (cc)
stays Sweep row none a = sym (uninstalled-where is_waiting refl row.state a)

-- ---- 3. the counts over an entry, and over an undo

made_row : (there named : Bool) (m r : Row)
    → (named ≡ true → (is_installed r.state ≡ not there) × (is_installed m.state ≡ there))
    → (if named then not there else is_installed (if named then m else r).state)
    ≡ is_installed r.state
made_row there true m r h = sym (h refl).0
made_row there false m r h = refl

back_row : (there named : Bool) (m r : Row)
    → (named ≡ true → (is_installed r.state ≡ not there) × (is_installed m.state ≡ there))
    → is_installed (if named then m else r).state
    ≡ (if named then not (not there) else is_installed r.state)
back_row true true m r h = (h refl).1
back_row false true m r h = (h refl).1
back_row there false m r h = refl

same_row : (named : Bool) (m r : Row)
    → (named ≡ true → is_installed m.state ≡ is_installed r.state)
    → is_installed (if named then m else r).state ≡ is_installed r.state
same_row true m r h = h refl
same_row false m r h = refl

on_row : (kind : Kind) (keys : List Key) (t : Table) (k : Key) (r : Row) → AppliesOn t kind keys
    → row_of t k ≡ Some r → names keys k ≡ true → applies kind r ≡ true
on_row kind keys t k r all found named = applies-fits t kind k r found (all k named)

-- the rows of the keys, before and after
row_fit : (t : Table) (kind : Kind) (k : Key) → fits t kind k ≡ true
    → (r : Row) × (row_of t k ≡ Some r) × (applies kind r ≡ true)
row_fit t kind k fit = of (row_of t k) refl
  where
    of : (o : Option Row) → row_of t k ≡ o
        → (r : Row) × (row_of t k ≡ Some r) × (applies kind r ≡ true)
    of (Some r) e = (r, e, applies-fits t kind k r e fit)
    of None e =
        let bad : false ≡ true =
        sym (ap (λ (o : Option Row).
        elim o as (λ _. Bool) [ Some r ↦ applies kind r | None ↦ false ]) e) ∙ fit in absurd (cc)

meant_row : (kind : Kind) (keys : List Key) (t : Table) (k : Key) (r : Row) → row_of t k ≡ Some r
    → names keys k ≡ true → row_of (applied kind keys t) k ≡ Some (means kind r)
meant_row kind keys t k r found named =
    row_of-each_row (meant kind keys) t k ∙ ap (option_map (meant kind keys k)) found
    ∙ ap (λ (b : Bool). Some (if b then means kind r else r)) named

made-changed : (kind : Kind) (there : Bool) (keys : List Key) (t : Table) (counts : List ℕ)
    (ws : List (Option ℕ)) → made_installed kind ≡ Some there → ascending (keys_of t) ≡ true
    → AppliesOn t kind keys → AreTallied is_there counts ws t
    → AreChanged there keys counts ws (applied kind keys t)
made-changed kind there keys t counts ws is up all tallied = record {
  all = record {
    each = λ k named. let fit = row_fit t kind k (all k named) in (
      means kind fit.0,
      meant_row kind keys t k fit.0 fit.1 named,
      (makes kind there fit.0 is fit.2).1,
    );
  };
  tallied = record {
    each =
        λ g lt. tallied.each g lt
        ∙ sym (tally-each_row (meant kind keys) (was_there there keys) is_there g ws t up
        (λ k r found. made_row there (names keys k) (means kind r) r (λ named.
        makes kind there r is (on_row kind keys t k r all found named))));
  };
}

back-changed : (kind : Kind) (there : Bool) (keys : List Key) (t : Table) (counts : List ℕ)
    (ws : List (Option ℕ)) → made_installed kind ≡ Some there → ascending (keys_of t) ≡ true
    → AppliesOn t kind keys → AreTallied is_there counts ws (applied kind keys t)
    → AreChanged (not there) keys counts ws t
back-changed kind there keys t counts ws is up all tallied = record {
  all = record {
    each = λ k named. let fit = row_fit t kind k (all k named) in
        (fit.0, fit.1, (makes kind there fit.0 is fit.2).0);
  };
  tallied = record {
    each =
        λ g lt. tallied.each g lt
        ∙ tally-each_row (meant kind keys) is_there (was_there (not there) keys) g ws t up
        (λ k r found. back_row there (names keys k) (means kind r) r (λ named.
        makes kind there r is (on_row kind keys t k r all found named)));
  };
}

-- a kind that leaves it
same-tallied : (kind : Kind) (keys : List Key) (counts : List ℕ) (ws : List (Option ℕ))
    (t u : Table) → u ≡ applied kind keys t → made_installed kind ≡ None
    → ascending (keys_of t) ≡ true → AppliesOn t kind keys
    → AreTallied is_there counts ws t ↔ AreTallied is_there counts ws u
same-tallied kind keys counts ws t u is none up all =
    let same : (g : ℕ) → tally is_there g ws u ≡ tally is_there g ws t = λ g.
    ap (tally is_there g ws) is ∙ tally-each_row (meant kind keys) is_there is_there g ws t up
    (λ k r found. same_row (names keys k) (means kind r) r (λ named.
    stays kind r none (on_row kind keys t k r all found named))) in (
      λ h. record { each = λ g lt. h.each g lt ∙ sym (same g) },
      λ h. record { each = λ g lt. h.each g lt ∙ same g },
    )

-- ---- 6. an entry that was made

at_entered : (n : ℕ) (now : History) (counts : List ℕ) (ws : List (Option ℕ))
    (e : IsEntered n now counts ws) → entry_at now.journal n ≡ Some (standing_entry e.entry)
at_entered n now counts ws e =
    (λ j. entry_at (e.appended.history j).journal (e.appended.number j))
    ∙ entry_at-last e.before.journal (standing_entry e.entry)

entered-is : (n : ℕ) (now : History) (counts : List ℕ) (ws : List (Option ℕ)) (m : Marked)
    (ms : List Marked) (e : IsEntered n now counts ws) → ms ≡ now.journal → Some m ≡ entry_at ms n
    → m.entry ≡ e.entry
entered-is n now counts ws m ms e read got =
    ap (λ (x : Marked). x.entry)
    (same_Some m (standing_entry e.entry)
    (got ∙ ap (λ (xs : List Marked). entry_at xs n) read ∙ at_entered n now counts ws e))

rows_entered : (n : ℕ) (now : History) (counts : List ℕ) (ws : List (Option ℕ))
    (e : IsEntered n now counts ws)
    → rows_of now ≡ applied e.entry.kind e.entry.keys (rows_of e.before)
rows_entered n now counts ws e =
    ap rows_of e.appended.history ∙ rows_of-with_entry e.before e.entry

-- the same of an equal entry's keys, and of equal rows
changed_as : (there : Bool) (keys : List Key) (counts : List ℕ) (ws : List (Option ℕ)) (t u : Table)
    (a b : Entry) → a ≡ b → keys ≡ a.keys → t ≡ u → AreChanged there b.keys counts ws u
    → AreChanged there keys counts ws t
changed_as there keys counts ws t u a b same are rows h =
    subst (λ (ks : List Key). AreChanged there ks counts ws t)
    (sym (are ∙ ap (λ (x : Entry). x.keys) same))
    (subst (AreChanged there b.keys counts ws) (sym rows) h)

pub entered-changed : (n : ℕ) (now : History) (counts : List ℕ) (ws : List (Option ℕ)) (m : Marked)
    (ms : List Marked) (there : Bool) (keys : List Key) (t : Table) → IsEntered n now counts ws
    → ms ≡ now.journal → Some m ≡ entry_at ms n → made_installed m.entry.kind ≡ Some there
    → keys ≡ m.entry.keys → t ≡ rows_of now → AreChanged there keys counts ws t
entered-changed n now counts ws m ms there keys t e read got made are rows =
    let same = entered-is n now counts ws m ms e read got in
    changed_as there keys counts ws t (applied e.entry.kind e.entry.keys (rows_of e.before)) m.entry
    e.entry same are (rows ∙ rows_entered n now counts ws e)
    (made-changed e.entry.kind there e.entry.keys (rows_of e.before) counts ws
    (ap (λ (x : Entry). made_installed x.kind) (sym same) ∙ made) (up_now e.before e.rising)
    e.applies e.tallied)

pub entered-same : (n : ℕ) (now : History) (counts : List ℕ) (ws : List (Option ℕ)) (m : Marked)
    (ms : List Marked) → IsEntered n now counts ws → ms ≡ now.journal → Some m ≡ entry_at ms n
    → made_installed m.entry.kind ≡ None → AreTallied is_there counts ws (rows_of now)
entered-same n now counts ws m ms e read got none =
    let same = entered-is n now counts ws m ms e read got in
    (same-tallied e.entry.kind e.entry.keys counts ws (rows_of e.before) (rows_of now)
    (rows_entered n now counts ws e) (ap (λ (x : Entry). made_installed x.kind) (sym same) ∙ none)
    (up_now e.before e.rising) e.applies).0 e.tallied

-- ---- 7. an entry that was undone

at_taken : (n : ℕ) (now : History) (counts : List ℕ) (ws : List (Option ℕ))
    (e : IsTakenBack n now counts ws)
    → entry_at now.journal n ≡ Some (record e.marked { mark = Undone })
at_taken n now counts ws e =
    ap (λ (h : History). entry_at h.journal n) e.is
    ∙ entry_at-undone e.before.journal n e.marked e.there

pub taken-none : (n : ℕ) (now : History) (counts : List ℕ) (ws : List (Option ℕ))
    (ms : List Marked) → IsTakenBack n now counts ws → ms ≡ now.journal → None ≡ entry_at ms n → ⊥
taken-none n now counts ws ms e read got =
    none-some (record e.marked { mark = Undone })
    (got ∙ ap (λ (xs : List Marked). entry_at xs n) read ∙ at_taken n now counts ws e)

taken-is : (n : ℕ) (now : History) (counts : List ℕ) (ws : List (Option ℕ)) (m : Marked)
    (ms : List Marked) (e : IsTakenBack n now counts ws) → ms ≡ now.journal → Some m ≡ entry_at ms n
    → m.entry ≡ e.marked.entry
taken-is n now counts ws m ms e read got =
    ap (λ (x : Marked). x.entry)
    (same_Some m (record e.marked { mark = Undone })
    (got ∙ ap (λ (xs : List Marked). entry_at xs n) read ∙ at_taken n now counts ws e))

-- the rows now are those that the undo leaves
on_taken : (n : ℕ) (now : History) (counts : List ℕ) (ws : List (Option ℕ))
    (e : IsTakenBack n now counts ws)
    → AppliesOn (rows_of now) e.marked.entry.kind e.marked.entry.keys
on_taken n now counts ws e =
    subst (λ (h : History). AppliesOn (rows_of h) e.marked.entry.kind e.marked.entry.keys)
    (sym e.is) e.redone.applies

rows_taken : (n : ℕ) (now : History) (counts : List ℕ) (ws : List (Option ℕ))
    (e : IsTakenBack n now counts ws)
    → rows_of e.before ≡ applied e.marked.entry.kind e.marked.entry.keys (rows_of now)
rows_taken n now counts ws e =
    e.redone.rows ∙ ap
    (λ (h : History). applied e.marked.entry.kind e.marked.entry.keys (rows_of h)) (sym e.is)

up_taken : (n : ℕ) (now : History) (counts : List ℕ) (ws : List (Option ℕ))
    (e : IsTakenBack n now counts ws) → ascending (keys_of (rows_of now)) ≡ true
up_taken n now counts ws e =
    up_now now (ap (λ (h : History). ascending (keys_of h.opening)) e.is ∙ e.rising)

pub taken-changed : (n : ℕ) (now : History) (counts : List ℕ) (ws : List (Option ℕ)) (m : Marked)
    (ms : List Marked) (there : Bool) (keys : List Key) (t : Table) → IsTakenBack n now counts ws
    → ms ≡ now.journal → Some m ≡ entry_at ms n → made_installed m.entry.kind ≡ Some there
    → keys ≡ m.entry.keys → t ≡ rows_of now → AreChanged (not there) keys counts ws t
taken-changed n now counts ws m ms there keys t e read got made are rows =
    let same = taken-is n now counts ws m ms e read got in
    changed_as (not there) keys counts ws t (rows_of now) m.entry e.marked.entry same are rows
    (back-changed e.marked.entry.kind there e.marked.entry.keys (rows_of now) counts ws
    (ap (λ (x : Entry). made_installed x.kind) (sym same) ∙ made) (up_taken n now counts ws e)
    (on_taken n now counts ws e)
    (subst (AreTallied is_there counts ws) (rows_taken n now counts ws e) e.tallied))

pub taken-same : (n : ℕ) (now : History) (counts : List ℕ) (ws : List (Option ℕ)) (m : Marked)
    (ms : List Marked) → IsTakenBack n now counts ws → ms ≡ now.journal → Some m ≡ entry_at ms n
    → made_installed m.entry.kind ≡ None → AreTallied is_there counts ws (rows_of now)
taken-same n now counts ws m ms e read got none =
    let same = taken-is n now counts ws m ms e read got in
    (same-tallied e.marked.entry.kind e.marked.entry.keys counts ws (rows_of now) (rows_of e.before)
    (rows_taken n now counts ws e) (ap (λ (x : Entry). made_installed x.kind) (sym same) ∙ none)
    (up_taken n now counts ws e) (on_taken n now counts ws e)).1 e.tallied
