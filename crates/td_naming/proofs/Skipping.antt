-- The skips of a command over plain values.
use Rattle.std.proofs.Common.{◌≡◌, ℕ, zero, suc, ◌<◌, ◌++◌, length, take, drop, set, get_or, subst}
use Rattle.std.proofs.Common.{arith, Bool, true, false, ◌&&◌, not, List, [], ◌∷◌, filter, map}
use Rattle.std.proofs.Common.{if◌then◌else◌, ap, refl, sym, ◌∙◌}
use Rattle.td_rows.specs.declared.key.Key.{Key}
use Rattle.td_rows.specs.declared.kind.Kind.{Kind}
use Rattle.td_rows.specs.Table.{Table, fits}
use Rattle.td_rows.specs.declared.state.State.TheVariants.{NeedsBuild}
use Rattle.td_naming.specs.declared.skips.SkipReason.TheVariants as why
use Rattle.td_naming.specs.Skips.{state_at, skip_at, is_skipped, skips_of, doubt, is_left, renewed}
use Rattle.td_naming.specs.Skips.{left_of}

left_same : (p : Key → Bool) (t : Table) (kind : Kind) (k : Key)
    → is_left t kind (doubt p k) ≡ is_skipped p t kind k
left_same p t kind k =
    elim (p k) as (λ b. is_left t kind
    (record { key = k; reason = if b then why.State NeedsBuild else why.Version })
    ≡ not (b && fits t kind k)) [ true ↦ refl | false ↦ refl ]

renewed_same : (p : Key → Bool) (t : Table) (k : Key) → renewed t (doubt p k) ≡ skip_at p t k
renewed_same p t k =
    elim (p k) as (λ b. renewed t
    (record { key = k; reason = if b then why.State NeedsBuild else why.Version })
    ≡ (record { key = k; reason = if b then why.State (state_at t k) else why.Version })) [
      | true ↦
          refl
      | false ↦ refl
    ]

-- what is left of the doubts are the skips
pub left_skips : (p : Key → Bool) (t : Table) (kind : Kind) (named : List Key)
    → left_of kind (map (doubt p) named) t ≡ skips_of p kind named t
left_skips p t kind [] = refl
left_skips p t kind (k ∷ ks) =
    ap (λ b. map (renewed t)
    (if b then doubt p k ∷ filter (is_left t kind) (map (doubt p) ks)
    else filter (is_left t kind) (map (doubt p) ks))) (left_same p t kind k)
    ∙ elim (is_skipped p t kind k) as (λ b.
    map (renewed t) (if b then doubt p k ∷ filter (is_left t kind) (map (doubt p) ks)
    else filter (is_left t kind) (map (doubt p) ks))
    ≡ map (skip_at p t)
    (if b then k ∷ filter (is_skipped p t kind) ks else filter (is_skipped p t kind) ks)) [
      | true ↦ λ j. renewed_same p t k j ∷ left_skips p t kind ks j
      | false ↦ left_skips p t kind ks
    ]

changed : {A : Type 0} (f : A → A) (xs : List A) (i : ℕ) (x : A)
    → i < length (map f (take i xs) ++ drop i xs) → x ≡ get_or (map f (take i xs) ++ drop i xs) i x
    → set (map f (take i xs) ++ drop i xs) i (f x) ≡ map f (take (suc i) xs) ++ drop (suc i) xs
changed f [] zero x h is = absurd (omega arith)
changed f [] (suc i) x h is = absurd (omega arith)
changed f (y ∷ xs) zero x h is = ap (λ z. f z ∷ xs) is
changed f (y ∷ xs) (suc i) x h is = ap (λ zs. f y ∷ zs) (changed f xs i x (omega arith) is)

-- one element more is changed in place
pub set_mapped : {A : Type 0} (f : A → A) (xs ys : List A) (i n : ℕ) (x : A) → n ≡ suc i
    → ys ≡ map f (take i xs) ++ drop i xs → i < length ys → x ≡ get_or ys i x
    → set ys i (f x) ≡ map f (take n xs) ++ drop n xs
set_mapped f xs ys i n x next is within at =
    ap (λ zs. set zs i (f x)) is
    ∙ changed f xs i x (subst (λ zs. i < length zs) is within) (at ∙ ap (λ zs. get_or zs i x) is)
    ∙ ap (λ k. map f (take k xs) ++ drop k xs) (sym next)
