-- The order of versions is a total preorder:
-- lists that are made equally long are compared place by place.
use Rattle.std.proofs.Common.{◌≡◌, ◌≢◌, ℕ, zero, suc, ◌+◌, ◌≤◌, List, [], ◌∷◌, length, refl, sym}
use Rattle.std.proofs.Common.{ap, ◌∙◌, false, arith}
use Rattle.std.specs.Prelude.{codes, Some, None}
use Rattle.std.specs.Cmp.{IsTotalOrder}
use Rattle.std.specs.Cmp.Lexicographic.{slice_cmp}
use Rattle.std.specs.Ordering.{is_gt, ordering_then, ordering_reverse}
use Rattle.std.specs.declared.cmp.Ordering.{Ordering}
use Rattle.std.specs.declared.cmp.Ordering.TheVariants.{Less, Equal, Greater}
use Rattle.std.proofs.lemmas.Cmp.{on_total, then_total, lists_total, nat_cmp_total}
use Rattle.std.proofs.lemmas.Cmp.{nat_list_cmp_total, tied_itself, upto}
use Rattle.td_version.specs.Order.{Pair, marks, number, pair_cmp, nothing, pairs, pairs_cmp}
use Rattle.td_version.specs.Order.{part_cmp, revision_or_zero, version_cmp}
use Rattle.td_text.specs.Cut.{cut}
use Rattle.td_version.specs.Reading.{pieces, cut_last, epoch_at, revision_at, judged}
use Rattle.td_version.specs.Laws.{IsReflexive, IsTotal, IsTransitive, SomeTextsAreEqualInOrder}
use Rattle.td_version.proofs.Outcomes.{read_found}

pub pair_total : IsTotalOrder pair_cmp
pair_total = then_total (on_total marks nat_list_cmp_total) (on_total number nat_cmp_total)

-- as many pairs
pad : ℕ → List Pair → List Pair
pad zero ps = ps
pad (suc n) [] = nothing ∷ pad n []
pad (suc n) (p ∷ ps) = p ∷ pad n ps

as_padded : (n : ℕ) (a b : List Pair) → length a ≤ n → length b ≤ n
    → pairs_cmp a b ≡ slice_cmp pair_cmp (pad n a) (pad n b)
unfolding pairs_cmp pad
as_padded zero [] [] h k = refl
as_padded zero [] (q ∷ qs) h k = absurd (omega arith)
as_padded zero (p ∷ ps) b h k = absurd (omega arith)
as_padded (suc n) [] [] h k = as_padded n [] [] (omega arith) (omega arith)
as_padded (suc n) [] (q ∷ qs) h k =
    ap (ordering_then (pair_cmp nothing q)) (as_padded n [] qs (omega arith) (omega arith))
as_padded (suc n) (p ∷ ps) [] h k =
    ap (ordering_then (pair_cmp p nothing)) (as_padded n ps [] (omega arith) (omega arith))
as_padded (suc n) (p ∷ ps) (q ∷ qs) h k =
    ap (ordering_then (pair_cmp p q)) (as_padded n ps qs (omega arith) (omega arith))

padded_total : (n : ℕ) → IsTotalOrder (λ a b. slice_cmp pair_cmp (pad n a) (pad n b))
padded_total n = on_total (pad n) (lists_total pair_total)

pub pairs_total : IsTotalOrder pairs_cmp
pairs_total = record {
  antisymm = λ a b.
      as_padded (length a + length b) a b (omega arith) (omega arith)
      ∙ (padded_total (length a + length b)).antisymm a b
      ∙ ap ordering_reverse (sym (as_padded (length a + length b) b a (omega arith) (omega arith)));
  trans = λ a b d p q.
      as_padded (length a + length b + length d) a d (omega arith) (omega arith)
      ∙ (padded_total (length a + length b + length d)).trans a b d
      (sym (as_padded (length a + length b + length d) a b (omega arith) (omega arith)) ∙ p)
      (sym (as_padded (length a + length b + length d) b d (omega arith) (omega arith)) ∙ q);
  congr = λ a b d p.
      as_padded (length a + length b + length d) a d (omega arith) (omega arith)
      ∙ (padded_total (length a + length b + length d)).congr a b d
      (sym (as_padded (length a + length b + length d) a b (omega arith) (omega arith)) ∙ p)
      ∙ sym (as_padded (length a + length b + length d) b d (omega arith) (omega arith));
}

pub part_total : IsTotalOrder part_cmp
part_total = on_total pairs pairs_total

-- a part is equal to itself
pub part_reflexive : (a b : List ℕ) → a ≡ b → Equal ≡ part_cmp a b
part_reflexive a b is = sym (tied_itself part_total a) ∙ ap (part_cmp a) is

pub version_total : IsTotalOrder version_cmp
version_total =
    then_total (on_total (λ p. p.epoch) nat_cmp_total)
    (then_total (on_total (λ p. p.upstream) part_total)
    (on_total (λ p. revision_or_zero p.revision) part_total))

-- ---- the laws in plain words

pub version_reflexive : IsReflexive
version_reflexive a = tied_itself version_total a

pub version_turns : IsTotal
version_turns a b = version_total.antisymm b a

not_gt : (o : Ordering) → o ≢ Greater → is_gt o ≡ false
not_gt Less h = refl
not_gt Equal h = refl
not_gt Greater h = absurd (h refl)

gt_not : (o : Ordering) → is_gt o ≡ false → o ≢ Greater
gt_not o h e = absurd (let f = sym h ∙ ap is_gt e in cc)

pub version_transitive : IsTransitive
version_transitive a b d p q =
    gt_not (version_cmp a d)
    (upto version_total a b d (not_gt (version_cmp a b) p) (not_gt (version_cmp b d) q))

-- `1.0` and `1.0-0`
pub coarse : SomeTextsAreEqualInOrder
unfolding pairs pairs_cmp pieces cut cut_last epoch_at revision_at judged
coarse = record {
  one = codes "1.0";
  other = codes "1.0-0";
  differ = λ e. (let l = ap length e in absurd (omega arith));
  a = record { epoch = 0; upstream = codes "1.0"; revision = None };
  b = record { epoch = 0; upstream = codes "1.0"; revision = Some (codes "0") };
  reads_one =
      read_found (codes "1.0") (record { epoch = 0; upstream = codes "1.0"; revision = None }) refl;
  reads_other = read_found (codes "1.0-0")
      (record { epoch = 0; upstream = codes "1.0"; revision = Some (codes "0") }) refl;
  equal = refl;
}
