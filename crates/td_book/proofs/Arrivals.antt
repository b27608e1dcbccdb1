-- What the desk knows after an arrival, and after a sweep.
use Rattle.std.proofs.Common.{◌≡◌, ◌≢◌, true, List, [], ◌∷◌, ◌++◌, Some, ap, refl, sym, subst}
use Rattle.std.proofs.Common.{◌∙◌}
use Rattle.td_board.specs.declared.views.RowView.{RowView}
use Rattle.std.specs.Prelude.{ℕ, Result, Ok, Err, IfOk, OnErr}
use Rattle.td_rows.specs.declared.key.Key.{Key}
use Rattle.td_rows.specs.declared.row.Row.{Row}
use Rattle.td_rows.specs.declared.kind.Kind.TheVariants.{Arrive, Sweep}
use Rattle.td_rows.specs.Keys.{ascending}
use Rattle.td_rows.specs.Meaning.{applies}
use Rattle.td_rows.specs.Table.{row_of, AppliesOn, keys_of}
use Rattle.td_core.specs.Books.{BooksView}
use Rattle.td_core.specs.History.{History, rows_of, with_entry, IsAppended}
use Rattle.td_core.specs.Offers.{supply_now, freed}
use Rattle.td_core.proofs.Freeing.{ascending-freed, AppliesOn-freed}
use Rattle.td_core.proofs.WorldSteps.{AppliesOn-one}
use Rattle.td_core.proofs.Worlds.{rows_of-with_entry}
use Rattle.td_book.specs.declared.book.Book.TheInside.{Inside}
use Rattle.td_book.specs.Watching.{kept_in}
use Rattle.td_book.specs.Seen.{seen_off}
use Rattle.td_book.specs.Arriving.{freed_now, swept_now, SweepOutcome}
use Rattle.td_book.specs.Desk.{InnerModel, book_of, Stays}
use Rattle.td_book.specs.Tries.{offers_for}
use Rattle.td_book.proofs.Seeing.{desks_off, arrive_off, waiting_off}
use Rattle.td_book.proofs.Steps.{up_now, stays_fixed}

-- what was read of a book's inside is so of the inside
pub rising_inside : (read now : Inside) → read ≡ now
    → ascending (keys_of read.inner.books.history.opening) ≡ true
    → ascending (keys_of now.inner.books.history.opening) ≡ true
rising_inside read now is up =
    ap (λ (s : Inside). ascending (keys_of s.inner.books.history.opening)) (sym is) ∙ up

-- so the keys that were found are those that a sweep of the book frees
pub freed_inside : (keys : List Key) (kept : BooksView) (read now : Inside) → read ≡ now
    → kept ≡ kept_in read.inner.books
    → keys ≡ freed (supply_now kept.stock kept.history) (rows_of kept.history)
    → keys ≡ freed_now (book_of now.inner)
freed_inside keys kept read now is same told =
    told ∙ ap (λ (k : BooksView). freed (supply_now k.stock k.history) (rows_of k.history))
    (same ∙ ap (λ (x : Inside). kept_in x.inner.books) is)

-- they rise, and it applies on all of them
pub sweeps_inside : (keys : List Key) (kept : BooksView) (read now : Inside) → read ≡ now
    → ascending (keys_of read.inner.books.history.opening) ≡ true → kept ≡ kept_in read.inner.books
    → keys ≡ freed (supply_now kept.stock kept.history) (rows_of kept.history)
    → (ascending keys ≡ true) × AppliesOn (rows_of now.inner.books.history) Sweep keys
sweeps_inside keys kept read now is up same told =
    let b = now.inner.books in
    let s = supply_now b.stock b.history in
    let t = rows_of b.history in
    let rising = up_now b.history (rising_inside read now is up) in
    let are : keys ≡ freed s t = freed_inside keys kept read now is same told in (
      ap ascending are ∙ ascending-freed s t rising,
      subst (AppliesOn t Sweep) (sym are) (AppliesOn-freed s t rising),
    )

-- the desk knows as much after an arrival
pub arrived_view : {E : Type 0} (a b : InnerModel) (k : Key) (row : Row) (r : Result ℕ E)
    → ascending (keys_of a.books.history.opening) ≡ true
    → row_of (rows_of a.books.history) k ≡ Some row → applies Arrive row ≡ true
    → a.view ≡ seen_off [] (rows_of a.books.history)
    → IfOk r (IsAppended a.books.history (record { kind = Arrive; keys = k ∷ [] }) b.books.history)
    → OnErr r (b.books.history ≡ a.books.history) → b.view ≡ a.view
    → b.view ≡ seen_off [] (rows_of b.books.history)
arrived_view a b k row (Ok x) up found fit rest ok err same =
    let t = rows_of a.books.history in
    let fits_all : AppliesOn t Arrive (k ∷ []) = AppliesOn-one t Arrive k row found fit in
    same ∙ rest ∙ sym (arrive_off (k ∷ []) t (up_now a.books.history up) fits_all)
    ∙ ap (seen_off [])
    (sym (rows_of-with_entry a.books.history (record { kind = Arrive; keys = k ∷ [] })))
    ∙ ap (λ (h : History). seen_off [] (rows_of h)) (sym ok.history)
arrived_view a b k row (Err x) up found fit rest ok err same =
    same ∙ rest ∙ ap (λ (h : History). seen_off [] (rows_of h)) (sym err)

-- the rows that a sweep frees aren't offered yet
pub swept_view : (a b : InnerModel) (keys : List Key)
    → ascending (keys_of a.books.history.opening) ≡ true
    → AppliesOn (rows_of a.books.history) Sweep keys
    → a.view ≡ seen_off [] (rows_of a.books.history)
    → b.books.history ≡ with_entry a.books.history (record { kind = Sweep; keys = keys })
    → b.view ≡ a.view → b.view ≡ seen_off keys (rows_of b.books.history)
swept_view a b keys up fit rest ok same =
    let t = rows_of a.books.history in
    let rising = up_now a.books.history up in
    same ∙ rest ∙ waiting_off keys t rising fit
    ∙ sym (desks_off keys keys Sweep t rising refl fit (λ has k named. named))
    ∙ ap (seen_off keys)
    (sym (rows_of-with_entry a.books.history (record { kind = Sweep; keys = keys })))
    ∙ ap (λ (h : History). seen_off keys (rows_of h)) (sym ok)

-- a sweep's entry, and then the offers
pub swept_so : (a b e : InnerModel) (keys offered : List Key) (n : ℕ) (v : List RowView)
    → keys ≡ freed_now (book_of a) → keys ≢ []
    → IsAppended a.books.history (record { kind = Sweep; keys = keys }) b.books.history n
    → Stays a b → b.tries ≡ a.tries → offered ≡ keys
    → e ≡ (record b {
      view = v;
      tries = b.tries ++ offers_for (rows_of b.books.history) offered;
    }) → SweepOutcome (book_of a) (book_of e) (Ok (Some n))
swept_so a b e keys offered n v are some made stays untried same is =
    let now : b.books.history ≡ swept_now (book_of a) =
    made.history
    ∙ ap (λ (ks : List Key). with_entry a.books.history (record { kind = Sweep; keys = ks }))
    are in (
      (λ none. some (are ∙ none)),
      ap book_of is ∙ (λ j. record {
        history = now j;
        fixed = stays_fixed a b stays j;
        tries = untried j ++ offers_for (rows_of (now j)) ((same ∙ are) j);
      }),
      made.number,
    )
