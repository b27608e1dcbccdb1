-- Counts, row by row and group by group.
use Rattle.std.proofs.Common.{◌≡◌, ◌<◌, ◌+◌, ◌∷◌, ◌++◌, [], ℕ, zero, suc, List, Bool, true, false}
use Rattle.std.proofs.Common.{Some, count_by, get_or, length, slice_get, take, refl, sym, ap, ◌∙◌}
use Rattle.std.proofs.Common.{arith}
use Rattle.std.specs.Prelude.{IfSome}
use Rattle.std.proofs.lemmas.List.{get_or_append_left, get_or_push}
use Rattle.std.proofs.lemmas.List.Sums.{count_by_more_yes, count_by_more_no}
use Rattle.std.proofs.lemmas.Option.{get_or_from_slice_get}
use borrow.Author.Count.{below_more}
use Rattle.td_rows.specs.declared.key.Key.{Key}
use Rattle.td_rows.specs.declared.row.Row.{Row}
use Rattle.td_rows.specs.Table.{Table}

-- the row with a number, and what a test says of it
a-row : (p : Key × Row → Bool) (t : Table) (n : ℕ) (b : Bool) → n < length t
    → IfSome (slice_get t n) (λ r. b ≡ p r)
    → (r : Key × Row) × (slice_get t n ≡ Some r) × (b ≡ p r)
a-row p [] n b within h = absurd (omega arith)
a-row p (r ∷ t) zero b within h = (r, refl, h)
a-row p (r ∷ t) (suc n) b within h = a-row p t n b (omega arith) h

-- one row more that passes
pub one_more : (p : Key × Row → Bool) (t : Table) (n : ℕ) → n < length t
    → IfSome (slice_get t n) (λ r. true ≡ p r)
    → count_by p (take (n + 1) t) ≡ count_by p (take n t) + 1
one_more p t n within h =
    let row = a-row p t n true within h in
    count_by_more_yes p t n row.0 within
    (ap p (get_or_from_slice_get t n row.0 row.0 row.1) ∙ sym row.2)

-- one row more that doesn't
pub no_more : (p : Key × Row → Bool) (t : Table) (n : ℕ) → n < length t
    → IfSome (slice_get t n) (λ r. false ≡ p r)
    → count_by p (take (n + 1) t) ≡ count_by p (take n t)
no_more p t n within h =
    let row = a-row p t n false within h in
    count_by_more_no p t n row.0 within
    (ap p (get_or_from_slice_get t n row.0 row.0 row.1) ∙ sym row.2)

-- the count of one group more
pub one_group_more : (f : ℕ → ℕ) (counts : List ℕ) (n count : ℕ) → length counts ≡ n
    → count ≡ f n → ((k : ℕ) → k < n → get_or counts k 0 ≡ f k)
    → (k : ℕ) → k < n + 1 → get_or (counts ++ count ∷ []) k 0 ≡ f k
one_group_more f counts n count len is before =
    below_more (λ k. get_or (counts ++ count ∷ []) k 0 ≡ f k) n
    (λ k lt. get_or_append_left counts (count ∷ []) 0 k (omega (arith, len)) ∙ before k lt)
    (get_or_push counts count 0 n len ∙ is)
