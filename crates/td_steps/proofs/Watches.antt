-- A watch leaves the history and the seat, and makes no move.
use Rattle.std.proofs.Common.{◌≡◌, ℕ, List, [], Result, Ok, Err, inl, inr, ap, refl, sym, subst}
use Rattle.td_board.specs.Seats.{DeskModel}
use Rattle.td_book.specs.declared.watching.WatchRefusal.{WatchRefusal}
use Rattle.td_book.specs.declared.watching.WatchRefusal.TheVariants.{NoSuchRow, Twice, BadGroup}
use Rattle.td_book.specs.declared.watching.WatchRefusal.TheVariants.{NoMemory}
use Rattle.td_book.specs.AtRest.{IsAtRest}
use Rattle.td_book.specs.Desk.{BookModel}
use Rattle.td_rows.specs.declared.key.Key.{Key}
use Rattle.td_book.specs.WatchCalls.{WatchOutcome, with_watch}
use Rattle.td_book.specs.Watching.{WatchView, watch_of}
use Rattle.td_steps.specs.Sees.{resting}
use Rattle.td_steps.specs.Watches.{IsAside, WatchesStayAside, WatchesAreRefusedForReasons}
use Rattle.td_steps.specs.Watches.{WatchMoves, WatchesAreSteps}
use Rattle.td_steps.proofs.Parts.{leads-none, Moved, moved-on}
use Rattle.td_steps.proofs.Tries.{made-none}

-- the seat of a book serves the book with another watch
still-rests : (seat : DeskModel) (b : BookModel) (w : WatchView) → IsAtRest seat b
    → IsAtRest seat (with_watch b w)
still-rests seat b w rest =
    record {
      table = rest.table;
      builders = rest.builders;
      rows = rest.rows;
      served = rest.served;
      noted = rest.noted;
      tries = rest.tries;
    }

refused : (old new : BookModel) (r : WatchRefusal) → new ≡ old → IsAside old new (Err r)
refused old new r same = record {
  history = ap (λ (b : BookModel). b.history) same;
  seat = λ seat rest. subst (IsAtRest seat) (sym same) rest;
  refused = same;
}

pub watches_stay_aside : WatchesStayAside
watches_stay_aside groups given old new (Ok u) d = record {
  history = ap (λ (b : BookModel). b.history) d.1;
  seat = λ seat rest. subst (IsAtRest seat) (sym d.1)
      (still-rests seat old (watch_of old.history.opening groups given) rest);
  refused = tt;
}
watches_stay_aside groups given old new (Err (NoSuchRow k)) d = refused old new (NoSuchRow k) d.1
watches_stay_aside groups given old new (Err (Twice k)) d = refused old new (Twice k) d.1
watches_stay_aside groups given old new (Err (BadGroup k)) d = refused old new (BadGroup k) d.1
watches_stay_aside groups given old new (Err NoMemory) d = refused old new NoMemory d

pub watches_are_refused_for_reasons : WatchesAreRefusedForReasons
watches_are_refused_for_reasons groups given old new (Ok u) d =
    record { free = λ none. tt; stopped = λ r some. absurd (let e = d.0 in cc) }
watches_are_refused_for_reasons groups given old new (Err (NoSuchRow k)) d =
    record {
      free = λ none. absurd (let e = d.0 in cc);
      stopped = λ r some. inl (let e = d.0 in cc);
    }
watches_are_refused_for_reasons groups given old new (Err (Twice k)) d =
    record {
      free = λ none. absurd (let e = d.0 in cc);
      stopped = λ r some. inl (let e = d.0 in cc);
    }
watches_are_refused_for_reasons groups given old new (Err (BadGroup k)) d =
    record {
      free = λ none. absurd (let e = d.0 in cc);
      stopped = λ r some. inl (let e = d.0 in cc);
    }
watches_are_refused_for_reasons groups given old new (Err NoMemory) d =
    record { free = λ none. refl; stopped = λ r some. inr refl }

watch-still : (old new : BookModel) → new.tries ≡ old.tries → resting new ≡ resting old
    → Moved old new WatchMoves
watch-still old new untried same = record {
  moves = [];
  are = refl;
  made = made-none old new untried;
  leads = leads-none (resting old) (resting new) (sym same);
}

pub watch-moved : (groups : ℕ) (given : List (Key × ℕ)) (old new : BookModel)
    (result : Result (Unit {0}) WatchRefusal) → WatchOutcome groups given old new result
    → Moved old new WatchMoves
watch-moved groups given old new (Ok u) d =
    watch-still old new (ap (λ (b : BookModel). b.tries) d.1) (ap resting d.1)
watch-moved groups given old new (Err (NoSuchRow k)) d =
    watch-still old new (ap (λ (b : BookModel). b.tries) d.1) (ap resting d.1)
watch-moved groups given old new (Err (Twice k)) d =
    watch-still old new (ap (λ (b : BookModel). b.tries) d.1) (ap resting d.1)
watch-moved groups given old new (Err (BadGroup k)) d =
    watch-still old new (ap (λ (b : BookModel). b.tries) d.1) (ap resting d.1)
watch-moved groups given old new (Err NoMemory) d =
    watch-still old new (ap (λ (b : BookModel). b.tries) d) (ap resting d)

pub watches_are_steps : WatchesAreSteps
watches_are_steps w groups given old new result sees d =
    moved-on w old new WatchMoves sees (watch-moved groups given old new result d)
