-- Offers, one row after another.
use Rattle.std.proofs.Common.{◌≡◌, ℕ, zero, suc, ◌+◌, true, false, List, [], ◌∷◌, ◌++◌, Some, length}
use Rattle.std.proofs.Common.{take, drop, set, slice_get, ap, refl, sym, ◌∙◌, add-one, append-nil}
use Rattle.std.proofs.Common.{append_assoc}
use Rattle.td_board.specs.declared.views.RowView.{RowView}
use Rattle.td_board.specs.declared.views.RowView.TheVariants.{Out}
use Rattle.td_board.specs.declared.views.DeskTry.{DeskTry}
use Rattle.td_board.specs.declared.views.DeskTry.TheVariants.{Offered}
use Rattle.td_rows.specs.declared.key.Key.{Key}
use Rattle.td_rows.specs.Keys.{names, ascending}
use Rattle.td_rows.specs.Table.{keys_of}
use Rattle.td_rows.proofs.Lists.{drop-next}
use Rattle.td_core.specs.History.{rows_of}
use Rattle.td_core.specs.Refusals.{is_queued_at}
use Rattle.td_book.specs.Seen.{seen_off}
use Rattle.td_book.specs.Desk.{InnerModel}
use Rattle.td_book.specs.Calls.{OutAt}
use Rattle.td_book.specs.Tries.{offers_for}
use Rattle.td_book.proofs.Seeing.{offered_off, idle_off}
use Rattle.td_book.proofs.Steps.{idle_row, unnamed_after}
use Rattle.td_book.proofs.Tries.{offers_for-out, offers_for-idle, offers_for-append}

-- the row of the key at a place is offered again
pub offer_step : (named : List Key) (i n : ℕ) (k : Key) (old new : InnerModel)
    → slice_get named i ≡ Some k → ascending named ≡ true
    → ascending (keys_of (rows_of old.books.history)) ≡ true
    → old.view ≡ seen_off (drop i named) (rows_of old.books.history)
    → OutAt (rows_of old.books.history) k n
    → new ≡ (record old { view = set old.view n Out; tries = old.tries ++ Offered n ∷ [] })
    → new ≡ (record old {
      view = seen_off (drop (i + 1) named) (rows_of old.books.history);
      tries = old.tries ++ offers_for (rows_of old.books.history) (take 1 (drop i named));
    })
offer_step named i n k old new at rise up view out is =
    let t = rows_of old.books.history in
    let now : set old.view n Out ≡ seen_off (drop (i + 1) named) t =
    ap (λ (v : List RowView). set v n Out)
    (view ∙ ap (λ (ks : List Key). seen_off ks t) (drop-next named i k at))
    ∙ offered_off (drop (i + 1) named) t n k out.row up out.at
    (ap (λ (j : ℕ). names (drop j named) k) (add-one i) ∙ unnamed_after named i k rise at)
    out.out in
    let told : Offered n ∷ [] ≡ offers_for t (take 1 (drop i named)) =
    sym (offers_for-out t k n up out)
    ∙ ap (offers_for t) (sym (ap (λ (ks : List Key). take 1 ks) (drop-next named i k at))) in
    is ∙ (λ j. record old { view = now j; tries = old.tries ++ told j })

pub pass_step : (named : List Key) (i : ℕ) (k : Key) (old new : InnerModel)
    → slice_get named i ≡ Some k → ascending (keys_of (rows_of old.books.history)) ≡ true
    → old.view ≡ seen_off (drop i named) (rows_of old.books.history)
    → is_queued_at (rows_of old.books.history) k ≡ false → new ≡ old
    → new ≡ (record old {
      view = seen_off (drop (i + 1) named) (rows_of old.books.history);
      tries = old.tries ++ offers_for (rows_of old.books.history) (take 1 (drop i named));
    })
pass_step named i k old new at up view idle is =
    let t = rows_of old.books.history in
    let told : [] ≡ offers_for t (take 1 (drop i named)) =
    sym (offers_for-idle t k idle)
    ∙ ap (offers_for t) (sym (ap (λ (ks : List Key). take 1 ks) (drop-next named i k at))) in
    is ∙ (λ j. record old {
      view = (view ∙ ap (λ (ks : List Key). seen_off ks t) (drop-next named i k at)
          ∙ idle_off (drop (i + 1) named) t k up (idle_row t k idle)) j;
      tries = (sym (append-nil old.tries) ∙ ap (λ (l : List DeskTry). old.tries ++ l) told) j;
    })

take_more : (ks : List Key) (i : ℕ) → take i ks ++ take 1 (drop i ks) ≡ take (suc i) ks
take_more [] zero = refl
take_more [] (suc i) = refl
take_more (k ∷ ks) zero = refl
take_more (k ∷ ks) (suc i) = ap (λ (l : List Key). k ∷ l) (take_more ks i)

-- so many of the keys' rows are offered again
abbrev pub offered_some : List Key → ℕ → InnerModel → InnerModel
offered_some named i m = record m {
  view = seen_off (drop i named) (rows_of m.books.history);
  tries = m.tries ++ offers_for (rows_of m.books.history) (take i named);
}

-- none is
pub offered_none : (named : List Key) (m : InnerModel)
    → m.view ≡ seen_off named (rows_of m.books.history) → m ≡ offered_some named 0 m
offered_none named m view = λ j. record m { view = view j; tries = sym (append-nil m.tries) j }

-- one more is
pub offered_more : (named : List Key) (i : ℕ) (first old new : InnerModel)
    → old ≡ offered_some named i first
    → new ≡ (record old {
      view = seen_off (drop (i + 1) named) (rows_of old.books.history);
      tries = old.tries ++ offers_for (rows_of old.books.history) (take 1 (drop i named));
    }) → new ≡ offered_some named (i + 1) first
offered_more named i first old new was is =
    let t = rows_of first.books.history in
    let some : List DeskTry = offers_for t (take i named) in
    let one : List DeskTry = offers_for t (take 1 (drop i named)) in
    let all : some ++ one ≡ offers_for t (take (i + 1) named) =
    sym (offers_for-append t (take i named) (take 1 (drop i named)))
    ∙ ap (offers_for t) (take_more named i ∙ ap (λ (n : ℕ). take n named) (sym (add-one i))) in
    let next : InnerModel → InnerModel = λ m. record m {
      view = seen_off (drop (i + 1) named) (rows_of m.books.history);
      tries = m.tries ++ offers_for (rows_of m.books.history) (take 1 (drop i named));
    } in
    is ∙ ap next was
    ∙ (λ j. record first {
      view = seen_off (drop (i + 1) named) t;
      tries = (append_assoc first.tries some one
          ∙ ap (λ (l : List DeskTry). first.tries ++ l) all) j;
    })

whole : (ks : List Key) → (take (length ks) ks ≡ ks) × (drop (length ks) ks ≡ [])
whole [] = (refl, refl)
whole (k ∷ ks) = let rest = whole ks in (ap (λ (l : List Key). k ∷ l) rest.0, rest.1)

-- all are
pub offered_all : (named : List Key) (i : ℕ) (m n : InnerModel) → i ≡ length named
    → n ≡ offered_some named i m
    → n ≡ (record m {
      view = seen_off [] (rows_of m.books.history);
      tries = m.tries ++ offers_for (rows_of m.books.history) named;
    })
offered_all named i m n end is =
    let t = rows_of m.books.history in
    let keys = whole named in
    is ∙ ap (λ (x : ℕ). offered_some named x m) end
    ∙ (λ j. record m {
      view = seen_off (keys.1 j) t;
      tries = m.tries ++ offers_for t (keys.0 j);
    })
