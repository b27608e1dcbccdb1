-- The history that a reopening leaves is one with which a book opens.
use Rattle.std.proofs.Common.{◌≡◌, ℕ, zero, suc, ◌+◌, ◌<◌, ◌≤◌, true, List, [], ◌∷◌, Option, Some}
use Rattle.std.proofs.Common.{None, length, ap, refl, sym, subst, ◌∙◌, arith}
use Rattle.std.specs.List.{AllByRecursion}
use Rattle.td_rows.specs.declared.key.Key.{Key}
use Rattle.td_rows.specs.declared.row.Row.{Row}
use Rattle.td_rows.specs.declared.state.State.{State}
use Rattle.td_rows.specs.Keys.{ascending}
use Rattle.td_rows.specs.Table.{Table, keys_of, AppliesOn}
use Rattle.td_journal.specs.declared.entry.Entry.{Entry}
use Rattle.td_journal.specs.declared.entry.Marked.{Marked}
use Rattle.td_journal.specs.declared.version.Version.{Version}
use Rattle.td_journal.specs.Entries.{standing, standing_entry}
use Rattle.td_journal.specs.EntryFits.{IsLine}
use Rattle.td_journal.specs.IsKeys.{IsKeys}
use Rattle.td_journal.specs.Journaled.{EachHasKeys}
use Rattle.td_journal.specs.Replay.{replay, Lawful}
use Rattle.td_journal.proofs.Agreeing.{EachHasKeys-push}
use Rattle.td_journal.proofs.Undoing.{standing-append, Lawful-push}
use Rattle.td_core.specs.History.{History, rows_of, with_entry, history_of}
use Rattle.td_core.proofs.Worlds.{one_key}
use Rattle.td_book.specs.Desk.{BookModel}
use Rattle.td_book.specs.Reopening.{return_in, given_back}
use Rattle.td_book.proofs.Returns.{AreLeft, IsLeft, returned, left_first, left_next, left_none}
use Rattle.td_book.proofs.Returns.{none_left, left_applies, gives_back_one, gives_back_none}
use Rattle.td_book.proofs.Returns.{length-rows}
use Rattle.td_book.proofs.Steps.{some_at}
use Rattle.td_steps.specs.Openings.{MayOpen}
use Rattle.td_steps.specs.Reopenings.{Reopened, ReopeningsAreSteps, ReopenedBooksAreSteps}
use Rattle.td_steps.specs.Reopenings.{ReopenedAreReplayed}
use Rattle.td_steps.proofs.Openings.{histories_open}
use Rattle.td_steps.proofs.Books.{entries_stay}
use Rattle.td_steps.proofs.Calls.{calls_are_steps}
use Rattle.td_steps.proofs.Lawful.{all-sound}

-- ---- 1. one row after the other is given back

-- what holds of the history on the way
record Kept (h : History) : Type 0 where
  rising : ascending (keys_of h.opening) ≡ true
  lawful : Lawful h.opening (standing h.journal)
  keys : EachHasKeys h.journal

kept-entry : (h : History) (e : Entry) → Kept h → AppliesOn (rows_of h) e.kind e.keys
    → IsKeys e.keys → Kept (with_entry h e)
kept-entry h e g applies keys = record {
  rising = g.rising;
  lawful = subst (Lawful h.opening) (sym (standing-append h.journal (standing_entry e ∷ [])))
      (Lawful-push h.opening (standing h.journal) e g.lawful applies);
  keys = EachHasKeys-push h.journal (standing_entry e) g.keys keys;
}

return-keys : (k : Key) (s : State) (e : Entry) → return_in k s ≡ Some e → IsKeys e.keys
return-keys k s e h = subst (λ (x : Entry). IsKeys x.keys) (sym (returned k s e h).is) (one_key k)

-- the history after the row with a number
record Next (first : History) (i : ℕ) : Type 0 where
  now : History
  left : AreLeft first now (i + 1)
  kept : Kept now

next : (first now : History) (i : ℕ) → AreLeft first now i → Kept now → i < length (rows_of now)
    → Next first i
next first now i l g within =
    let here = some_at (rows_of now) i within in
    at here.0 here.1 (λ o is. record { key = here.0; row = here.1; at = here.2; is = is })
    (return_in here.0 here.1.state) refl
  where
    at : (k : Key) (row : Row)
        → ((o : Option Entry) → o ≡ return_in k row.state → IsLeft (rows_of now) i o)
        → (o : Option Entry) → return_in k row.state ≡ o → Next first i
    at k row is_left None is =
        record {
          now = now;
          left =
              left_next first now now i l g.rising (gives_back_none now i (is_left None (sym is)));
          kept = g;
        }
    at k row is_left (Some e) is =
        let here = is_left (Some e) (sym is) in
        record {
          now = with_entry now e;
          left = left_next first now (with_entry now e) i l g.rising
              (gives_back_one now (with_entry now e) i e here refl);
          kept = kept-entry now e g (left_applies now i e g.rising here)
              (return-keys k row.state e is);
        }

size-now : (first now : History) (i : ℕ) → AreLeft first now i
    → length (rows_of now) ≡ length first.opening
size-now first now i l = length-rows now ∙ ap (λ (t : Table). length t) l.opening

each-given : (n : ℕ) (first now : History) (i : ℕ) → i + n ≡ length first.opening
    → AreLeft first now i → Kept now → MayOpen (given_back first)
each-given zero first now i all l g =
    let size = size-now first now i l in
    let past : length (rows_of now) ≤ i = omega (arith, all, size) in
    subst MayOpen (left_none first now i l past)
    (record {
      rising = g.rising;
      lawful = g.lawful;
      keys = g.keys;
      idle = none_left first now i l past;
    })
each-given (suc n) first now i all l g =
    let size = size-now first now i l in
    let x = next first now i l g (omega (arith, all, size)) in
    each-given n first x.now (i + 1) (omega (arith, all)) x.left x.kept

-- ---- 2. the journal of a text

line-keys : (v : Version) (ms : List Marked) → AllByRecursion (IsLine v) ms → EachHasKeys ms
line-keys v [] each = tt
line-keys v (m ∷ ms) each = (each.0.fits.rising, line-keys v ms each.1)

-- what is known of a reopened book's history
record Taken (opening : Table) (book : BookModel) : Type 0 where
  same : book.history.opening ≡ opening
  may : MayOpen book.history

taken : (opening : Table) (book : BookModel) → ascending (keys_of opening) ≡ true
    → Reopened opening book → Taken opening book
taken opening book up r =
    let is = r.4 in
    let first = history_of opening is.journal in
    let now : book.history ≡ given_back first = ap (λ (b : BookModel). b.history) is.is in
    let kept : Kept first =
    record {
      rising = up;
      lawful = is.reads.entries.lawful;
      keys = line-keys is.reads.version is.journal is.reads.entries.lines;
    } in
    let all : 0 + length opening ≡ length opening = omega arith in
    record {
      same = ap (λ (h : History). h.opening) now;
      may = subst MayOpen (sym now)
          (each-given (length opening) first first 0 all (left_first first) kept);
    }

-- ---- 3. the laws

pub reopenings_are_steps : ReopeningsAreSteps
reopenings_are_steps opening book up r =
    histories_open book.history book.fixed (taken opening book up r).may

pub reopened_books_are_steps : ReopenedBooksAreSteps
reopened_books_are_steps opening book new calls up r d v runs =
    calls_are_steps v calls book new ((reopenings_are_steps opening book up r).leads v runs).1 d

pub reopened_are_replayed : ReopenedAreReplayed
reopened_are_replayed opening book new calls up r d =
    let t = taken opening book up r in
    let same : new.history.opening ≡ opening = (entries_stay calls book new d).opening ∙ t.same in
    record {
      rows = ap (λ (o : Table). replay o (standing new.history.journal)) same;
      lawful = subst (λ (o : Table). Lawful o (standing new.history.journal)) same
          (all-sound calls book new d (record { up = t.may.rising; lawful = t.may.lawful })).lawful;
    }
