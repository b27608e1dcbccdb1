-- Names and their numbers.
use Rattle.std.proofs.Common.{◌≡◌, ◌<◌, ◌≤◌, ◌+◌, ◌||◌, ℕ, zero, suc, Bool, true, false, not}
use Rattle.std.proofs.Common.{List, [], ◌∷◌, ◌++◌, Some, None, length, take, get_or}
use Rattle.std.proofs.Common.{slice_get, if◌then◌else◌, refl, sym, ap, subst, ◌∙◌, arith}
use Rattle.std.specs.Borrow.{Bor}
use Rattle.std.specs.List.{list_any}
use Rattle.std.specs.Str.{bytes_eq}
use Rattle.std.proofs.lemmas.Bool.{or_right}
use Rattle.std.proofs.lemmas.List.{take_all}
use Rattle.std.proofs.lemmas.List.Folds.{list_any_more}
use Rattle.std.proofs.lemmas.Slice.Eq.{bytes_eq-Decides}
use Rattle.td_text.proofs.Anywhere.{any-push}
use Rattle.td_text.proofs.SameTexts.{same_text}
use Rattle.td_waves.specs.Edges.{name_at}
use Rattle.td_waves.specs.Named.{is_among, is_other, number_among}
use Rattle.td_waves.proofs.Passing.{first_place, no_place}

itself : (a : List ℕ) → bytes_eq a a ≡ true
itself a = (bytes_eq-Decides a a).1 refl

absorb : (a b : Bool) → (b ≡ true → a ≡ true) → a ≡ (a || b)
absorb true b h = refl
absorb false true h = h refl
absorb false false h = refl

inserted_by : (b : Bool) (ks : List (Bor (List ℕ))) (k : Bor (List ℕ)) (q : List ℕ)
    → list_any (λ n. bytes_eq k.now n.now) ks ≡ b
    → is_among (if b then ks else ks ++ k ∷ []) q ≡ (is_among ks q || bytes_eq q k.now)
inserted_by true ks k q e = absorb (is_among ks q) (bytes_eq q k.now)
    (λ h. subst (λ x. is_among ks x ≡ true) (sym (same_text q k.now h)) e)
inserted_by false ks k q e = any-push (λ n. bytes_eq q n.now) ks k

-- a name put among others, unless it is there
pub inserted : (ks : List (Bor (List ℕ))) (k : Bor (List ℕ)) (q : List ℕ)
    → is_among (if list_any (λ n. bytes_eq k.now n.now) ks then ks else ks ++ k ∷ []) q
    ≡ (is_among ks q || bytes_eq q k.now)
inserted ks k q = inserted_by (list_any (λ n. bytes_eq k.now n.now) ks) ks k q refl

pub among_more : (names : List (Bor (List ℕ))) (i : ℕ) (d : Bor (List ℕ)) (q : List ℕ)
    (now old : Bool) → i < length names → now ≡ (old || bytes_eq q (get_or names i d).now)
    → old ≡ is_among (take i names) q → now ≡ is_among (take (i + 1) names) q
among_more names i d q now old lt e h = e ∙ ap (λ b. b || bytes_eq q (get_or names i d).now) h
    ∙ sym (list_any_more (λ n. bytes_eq q n.now) names i d lt)

pub among_all : (names : List (Bor (List ℕ))) (i : ℕ) (q : List ℕ) → length names ≤ i
    → is_among (take i names) q ≡ is_among names q
among_all names i q le = ap (λ l. is_among l q) (take_all i names le)

-- ---- the name with a number

pub name_is : (names : List (Bor (List ℕ))) (n : ℕ) (k : Bor (List ℕ)) → slice_get names n ≡ Some k
    → name_at names n ≡ k.now
name_is [] n k e = absurd cc
name_is (x ∷ xs) zero k e = let same : x ≡ k = cc in ap (λ (b : Bor (List ℕ)). b.now) same
name_is (x ∷ xs) (suc n) k e = name_is xs n k e

pub among_at : (names : List (Bor (List ℕ))) (n : ℕ) → n < length names
    → is_among names (name_at names n) ≡ true
among_at [] n lt = absurd (omega arith)
among_at (x ∷ xs) zero lt = ap (λ b. b || is_among xs x.now) (itself x.now)
among_at (x ∷ xs) (suc n) lt = or_right (bytes_eq (name_at xs n) x.now)
    (is_among xs (name_at xs n)) (among_at xs n (omega arith))

pub other_is : (names : List (Bor (List ℕ))) (own : List ℕ) (n : ℕ) → n < length names
    → is_other names own n ≡ not (bytes_eq own (name_at names n))
other_is [] own n lt = absurd (omega arith)
other_is (x ∷ xs) own zero lt = refl
other_is (x ∷ xs) own (suc n) lt = other_is xs own n (omega arith)

-- the number that is found for a name
pub record Numbered (names : List (Bor (List ℕ))) (q : List ℕ) : Type 0 where
  pub number : ℕ
  pub found : number_among names q ≡ Some number
  pub within : number < length names
  pub named : name_at names number ≡ q

pub number_of : (names : List (Bor (List ℕ))) (q : List ℕ) → is_among names q ≡ true
    → Numbered names q
number_of names q h =
    let r = first_place (λ n. bytes_eq q n.now) names h in
    record {
      number = r.0;
      found = r.1;
      within = r.2;
      named = name_is names r.0 r.3.item r.3.there ∙ sym (same_text q r.3.item.now r.3.passes);
    }

pub no_number : (names : List (Bor (List ℕ))) (q : List ℕ) → is_among names q ≡ false
    → number_among names q ≡ None
no_number names q h = no_place (λ n. bytes_eq q n.now) names h
