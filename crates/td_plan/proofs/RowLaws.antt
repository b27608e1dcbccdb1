-- Rows that are in a plan's lines.
use Rattle.std.proofs.Common.{◌≡◌, ◌∙◌, ◌&&◌, not, ℕ, Bool, List}
use Rattle.std.proofs.Common.{filter, inl, inr, refl, ap, arith}
use Rattle.std.proofs.Common.{[], ◌∷◌, cond}
use Rattle.std.specs.List.{count_by}
use Rattle.std.proofs.lemmas.Bool.{and_from, and_right, cases_Bool}
use Rattle.std.proofs.lemmas.Bool.{not_from_false, not_from_true}
use Rattle.std.proofs.lemmas.List.Sums.{sum_by-cons}
use Rattle.td_plan.specs.Due.{has_due, is_due, is_wanted}
use Rattle.td_plan.specs.PartLaws.{DueSourcesAreAll, FirstsAreLeast}
use Rattle.td_plan.specs.PartLaws.{WantedRowsAreToldOnce}
use Rattle.td_plan.specs.Placing.{is_place_before}
use Rattle.td_plan.proofs.InOrders.{first-least, order-count}

pub firsts-are-least : FirstsAreLeast
firsts-are-least = λ name test bs b is. first-least name test bs b is

pub wanted-rows-are-told-once : WantedRowsAreToldOnce
wanted-rows-are-told-once = λ p s place wanted. elim (cases_Bool (is_due p s place)) [
  | inl due ↦ inl ((
    due,
    and_right (is_wanted p s place) (not (is_due p s place))
        (not_from_true (is_due p s place) due),
  ))
  | inr off ↦ inr ((
    and_from (is_wanted p s place) (not (is_due p s place)) wanted
        (not_from_false (is_due p s place) off),
    off,
  ))
]

-- what passes a first test is counted by both
filter-count : {X : Type 0} (first test : X → Bool) (xs : List X)
    → count_by test (filter first xs) ≡ count_by (λ s. first s && test s) xs
filter-count first test [] = refl
filter-count {X} first test (x ∷ xs) =
    let one : X → ℕ = λ s. cond (test s) 1 0 in
    let both : X → ℕ = λ s. cond (first s && test s) 1 0 in
    elim (cases_Bool (first x)) [
      | inl passes ↦
          let kept : filter first (x ∷ xs) ≡ x ∷ filter first xs =
          ap (λ b. cond b (x ∷ filter first xs) (filter first xs)) passes in
          let bit : both x ≡ one x = ap (λ b. cond (b && test x) 1 0) passes in
          ap (λ ys. count_by test ys) kept
          ∙ omega (
            arith,
            sum_by-cons one x (filter first xs),
            sum_by-cons both x xs,
            bit,
            filter-count first test xs,
          )
      | inr fails ↦
          let kept : filter first (x ∷ xs) ≡ filter first xs =
          ap (λ b. cond b (x ∷ filter first xs) (filter first xs)) fails in
          let bit : both x ≡ 0 = ap (λ b. cond (b && test x) 1 0) fails in
          ap (λ ys. count_by test ys) kept
          ∙ omega (
            arith,
            sum_by-cons both x xs,
            bit,
            filter-count first test xs,
          )
    ]

pub due-sources-are-all : DueSourcesAreAll
due-sources-are-all = λ p x test.
    order-count (is_place_before x) test (filter (has_due p) p.archive.sources)
    ∙ filter-count (has_due p) test p.archive.sources
