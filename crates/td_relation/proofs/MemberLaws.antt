-- Members, seen through what their alternatives ask.
use Rattle.std.proofs.Common.{◌≡◌, ℕ, suc, Bool}
use Rattle.std.proofs.Common.{true, false, cond, not, eqb, ◌&&◌, ◌||◌, List, [], ◌∷◌, map, length}
use Rattle.std.proofs.Common.{drop, refl, sym, ap, ◌∙◌}
use Rattle.std.specs.List.{list_any, filter}
use Rattle.td_text.proofs.Chain.{list_any-map}
use Rattle.td_relation.specs.declared.relation.Alternative.{Alternative}
use Rattle.td_relation.specs.Arch.{ArchWords, matches}
use Rattle.td_relation.specs.ArchList.{bare, counts, is_negated}
use Rattle.td_relation.specs.Asked.{Asked, asked}
use Rattle.td_relation.specs.Meeting.{active, alternative_met, member_met}
use Rattle.td_relation.specs.Members.{chunked}
use Rattle.td_relation.specs.Offers.{Offered}

-- a member is met where it has no active alternative, or an active one that is met
pub member_met-by : (offers : List ℕ → List Offered) (place : ℕ) (a : ArchWords)
    (m : List Alternative) (has met : Bool)
    → has ≡ list_any (λ x. active a (asked x)) m
    → met ≡ list_any (λ x. active a (asked x) && alternative_met offers place (asked x)) m
    → (not has || met) ≡ member_met offers place a (map asked m)
member_met-by offers place a m has met h k =
    ap (λ (b : Bool). not b || met) (h ∙ sym (list_any-map (λ (x : Asked). active a x) asked m))
    ∙ ap (λ (b : Bool). not (list_any (λ (x : Asked). active a x) (map asked m)) || b)
    (k ∙ sym (list_any-map (λ (x : Asked). active a x && alternative_met offers place x) asked m))

-- a test of the filled pieces
list_any-filter : {A : Type 0} (keep test : A → Bool) (xs : List A)
    → list_any test (filter keep xs) ≡ list_any (λ x. keep x && test x) xs
list_any-filter keep test [] = refl
list_any-filter keep test (x ∷ xs) = by (keep x) (list_any-filter keep test xs)
  where
    by : (b : Bool) → list_any test (filter keep xs) ≡ list_any (λ y. keep y && test y) xs
        → list_any test (cond b (x ∷ filter keep xs) (filter keep xs))
        ≡ ((b && test x) || list_any (λ y. keep y && test y) xs)
    by true h = ap (λ (b : Bool). test x || b) h
    by false h = h

abbrev Filled : List ℕ → Bool
Filled w = not (eqb (length w) 0)

-- what a list counts, from the tests of its pieces
pub counts-by : (a : ArchWords) (pieces : List (List ℕ)) (negated matched : Bool)
    → negated ≡ list_any (λ w. not (eqb (length w) 0) && is_negated w) pieces
    → matched ≡ list_any (λ w. not (eqb (length w) 0) && matches a (bare w)) pieces
    → cond negated (not matched) matched ≡ counts a (filter (λ w. not (eqb (length w) 0)) pieces)
counts-by a pieces negated matched h k =
    let n = h ∙ sym (list_any-filter Filled is_negated pieces) in
    let m = k ∙ sym (list_any-filter Filled (λ w. matches a (bare w)) pieces) in
    ap (λ (b : Bool). cond b (not matched) matched) n
    ∙ ap (λ (b : Bool). cond (list_any is_negated (filter Filled pieces)) (not b) b) m

-- ---- members one behind the other

-- there are as many pieces as lengths
pub length-chunked : {A : Type 0} (sizes : List ℕ) (xs : List A)
    → length (chunked sizes xs) ≡ length sizes
length-chunked [] xs = refl
length-chunked (n ∷ sizes) xs = ap suc (length-chunked sizes (drop n xs))

-- a test of each element of each piece, through a view
pub any_of_maps : {A B : Type 0} (test : B → Bool) (view : A → B) (ms : List (List A))
    → list_any (λ m. list_any test m) (map (λ m. map view m) ms)
    ≡ list_any (λ m. list_any (λ x. test (view x)) m) ms
any_of_maps test view [] = refl
any_of_maps test view (m ∷ ms) =
    ap (λ (b : Bool). b || list_any (λ n. list_any test n) (map (λ n. map view n) ms))
    (list_any-map test view m)
    ∙ ap (λ (b : Bool). list_any (λ x. test (view x)) m || b) (any_of_maps test view ms)
