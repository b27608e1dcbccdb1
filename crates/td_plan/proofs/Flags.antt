-- Nodes that are taken one by one, and their flags.
use Rattle.std.proofs.Common.{◌≡◌, ◌⊎◌, ◌+◌, ◌<◌, ◌++◌, ◌∷◌, [], ◌∙◌, ℕ, Bool, false}
use Rattle.std.proofs.Common.{List, length, set, get_or, cond, inl, inr, sym, ap, subst}
use Rattle.std.proofs.Common.{arith}
use Rattle.std.proofs.Common.{get_or-set_same, get_or-set_other, length-set}
use Rattle.std.specs.List.{Contains}
use Rattle.std.proofs.lemmas.Bool.{cases_eq, false≢true}
use Rattle.std.proofs.lemmas.List.{length_push}
use Rattle.std.proofs.Math.ListN.{get_or-append}
use Rattle.std.proofs.lemmas.List.Elements.{Contains-push, Contains-push_cases}
use Rattle.std.proofs.lemmas.List.Elements.{Contains-append_left}
use Rattle.std.proofs.lemmas.List.Sums.{sum_by-set}
use Rattle.td_plan.specs.inner.Lists.{AreTakenOf, IsSet, count_set}

-- a flag that was cleared isn't set
pub cleared : (flags : List Bool) (b : ℕ) → b < length flags → ¬ IsSet (set flags b false) b
cleared flags b lt is = false≢true (sym (get_or-set_same flags b false false lt) ∙ is)

-- another flag is as it was
pub other-was : (flags : List Bool) (b n : ℕ) → b < length flags → IsSet (set flags b false) n
    → IsSet flags n × ¬ (n ≡ b)
other-was flags b n lt is = elim (cases_eq n b) [
  | inl same ↦ absurd (cleared flags b lt (subst (λ k. IsSet (set flags b false) k) same is))
  | inr apart ↦ (sym (get_or-set_other flags b n false false apart) ∙ is, apart)
]

pub other-stays : (flags : List Bool) (b n : ℕ) → ¬ (n ≡ b) → IsSet flags n
    → IsSet (set flags b false) n
other-stays flags b n apart is = get_or-set_other flags b n false false apart ∙ is

-- one flag less is set
pub one-less : (flags : List Bool) (b : ℕ) → b < length flags → IsSet flags b
    → count_set (set flags b false) + 1 ≡ count_set flags
one-less flags b lt is =
    let f : Bool → ℕ = λ flag. cond flag 1 0 in
    let by = sum_by-set f flags b false false lt in
    let one : f (get_or flags b false) ≡ 1 = ap f is in
    omega (arith, by, one)

-- ---- one node more whose flag is set

module _ (ws old : List ℕ) (flags : List Bool) (nodes : List ℕ) (left : List Bool) (b : ℕ)
    (so : AreTakenOf ws old flags nodes left) where
  still-more : (n : ℕ) → b < length left → Contains nodes n ⊎ IsSet left n
      → Contains (nodes ++ b ∷ []) n ⊎ IsSet (set left b false) n
  still-more n lt (inl mine) = inl (Contains-append_left nodes (b ∷ []) n mine)
  still-more n lt (inr is) = elim (cases_eq n b) [
    | inl same ↦
        inl (subst (λ k. Contains (nodes ++ b ∷ []) k) (sym same) (Contains-push nodes b))
    | inr apart ↦ inr (other-stays left b n apart is)
  ]

  apart-more : (n : ℕ) → b < length left → IsSet (set left b false) n
      → Contains nodes n ⊎ (b ≡ n) → ⊥
  apart-more n lt is (inl mine) = so.taken.apart n (other-was left b n lt is).0 mine
  apart-more n lt is (inr same) = (other-was left b n lt is).1 (sym same)

  all-more : (n : ℕ) → IsSet flags n → Contains ws n ⊎ (b ≡ n) → Contains (nodes ++ b ∷ []) n
  all-more n is (inl mine) = Contains-append_left nodes (b ∷ []) n (so.all n mine is)
  all-more n is (inr same) = subst (λ k. Contains (nodes ++ b ∷ []) k) same (Contains-push nodes b)

  widened : (n : ℕ) → Contains old n ⊎ (Contains ws n × IsSet flags n)
      → Contains old n ⊎ (Contains (ws ++ b ∷ []) n × IsSet flags n)
  widened n (inl mine) = inl mine
  widened n (inr both) = inr ((Contains-append_left ws (b ∷ []) n both.0, both.1))

  only-more : (n : ℕ) → IsSet left b → Contains nodes n ⊎ (b ≡ n)
      → Contains old n ⊎ (Contains (ws ++ b ∷ []) n × IsSet flags n)
  only-more n is (inl mine) = widened n (so.only n mine)
  only-more n is (inr same) =
      subst (λ k. Contains old k ⊎ (Contains (ws ++ b ∷ []) k × IsSet flags k)) same
      (inr ((Contains-push ws b, so.taken.was b is)))

  pub taken-more : b < length left → IsSet left b
      → AreTakenOf (ws ++ b ∷ []) old flags (nodes ++ b ∷ []) (set left b false)
  taken-more lt is = record {
    taken = record {
      more = λ k below. get_or-append nodes (b ∷ []) 0 k (omega (arith, so.taken.long))
          ∙ so.taken.more k below;
      long = omega (arith, so.taken.long, length_push nodes b);
      apart = λ n left_is mine.
          apart-more n lt left_is (Contains-push_cases nodes b n mine);
      was = λ n left_is. so.taken.was n (other-was left b n lt left_is).0;
      still = λ n was. still-more n lt (so.taken.still n was);
      counted =
          omega (arith, one-less left b lt is, so.taken.counted, length_push nodes b);
      len = length-set left b false ∙ so.taken.len;
    };
    all = λ n mine was. all-more n was (Contains-push_cases ws b n mine);
    only = λ n mine. only-more n is (Contains-push_cases nodes b n mine);
  }

  -- ---- one node more whose flag isn't set

  found-still : (n : ℕ) → get_or left b false ≡ false → b ≡ n → Contains nodes n ⊎ IsSet left n
      → Contains nodes n
  found-still n off same (inl mine) = mine
  found-still n off same (inr is) = absurd (false≢true (sym off ∙ subst (λ k. IsSet left k)
      (sym same) is))

  all-same : (n : ℕ) → get_or left b false ≡ false → IsSet flags n → Contains ws n ⊎ (b ≡ n)
      → Contains nodes n
  all-same n off is (inl mine) = so.all n mine is
  all-same n off is (inr same) = found-still n off same (so.taken.still n is)

  pub taken-same : get_or left b false ≡ false → AreTakenOf (ws ++ b ∷ []) old flags nodes left
  taken-same off = record {
    taken = so.taken;
    all = λ n mine is. all-same n off is (Contains-push_cases ws b n mine);
    only = λ n mine. widened n (so.only n mine);
  }
