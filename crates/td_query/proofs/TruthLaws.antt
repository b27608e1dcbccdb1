-- The truth of several parts.
use Rattle.std.proofs.Common.{◌≡◌, ℕ, suc, ◌+◌, ◌<◌, ◌≤◌, not, Bool, ◌&&◌, ◌||◌, List, [], ◌∷◌}
use Rattle.std.proofs.Common.{length, get_or, drop, map, refl, sym, ap, ◌∙◌, add-one}
use Rattle.std.proofs.lemmas.List.{drop_all}
use Rattle.std.proofs.Math.Bool.{and-true, or-false}
use Rattle.std.proofs.Math.Seq.{drop-cons}
use Rattle.regex.specs.Patterns.{Re}
use Rattle.td_stanza.specs.Field.{Entry}
use Rattle.td_query.specs.declared.query.Joint.{Joint}
use Rattle.td_query.specs.declared.query.Joint.TheVariants.{And, Or}
use Rattle.td_query.specs.declared.query.Query.{Query}
use Rattle.td_query.specs.Query.{Shape, joined, shape_of}
use Rattle.td_query.specs.Truth.{truth}
use Rattle.td_query.specs.inner.Settling.{settling}

module _ (patterns : List Re) (fields : List Entry) where
  -- what a part and the parts after it come to
  abbrev both : Joint → Bool → Bool → Bool
  both And a b = a && b
  both Or a b = a || b

  first : (joint : Joint) (x : Shape) (xs : List Shape)
      → truth patterns fields (joined joint (x ∷ xs))
      ≡ both joint (truth patterns fields x) (truth patterns fields (joined joint xs))
  first And x [] = sym (and-true (truth patterns fields x))
  first And x (y ∷ ys) = refl
  first Or x [] = sym (or-false (truth patterns fields x))
  first Or x (y ∷ ys) = refl

  settled : (joint : Joint) (b : Bool) → both joint (settling joint) b ≡ settling joint
  settled And b = refl
  settled Or b = refl

  passed : (joint : Joint) (b : Bool) → both joint (not (settling joint)) b ≡ b
  passed And b = refl
  passed Or b = refl

  none : (joint : Joint) → truth patterns fields (joined joint []) ≡ not (settling joint)
  none And = refl
  none Or = refl

  -- what parts come to
  abbrev pub hold : Joint → List Query → Bool
  hold joint parts = truth patterns fields (joined joint (map shape_of parts))

  next : (joint : Joint) (parts : List Query) (i : ℕ) (q : Query) → i < length parts
      → q ≡ get_or parts i q → hold joint (drop i parts)
      ≡ both joint (truth patterns fields (shape_of q)) (hold joint (drop (i + 1) parts))
  next joint parts i q h is =
      rw (drop-cons parts i q h, ← is, add-one)
      (first joint (shape_of q) (map shape_of (drop (suc i) parts)))

  -- a part that settles the answer gives it
  pub part_settles : (joint : Joint) (parts : List Query) (i : ℕ) (q : Query) → i < length parts
      → q ≡ get_or parts i q → hold joint (drop i parts) ≡ hold joint parts
      → truth patterns fields (shape_of q) ≡ settling joint → settling joint ≡ hold joint parts
  part_settles joint parts i q h is decides e =
      sym (sym decides ∙ next joint parts i q h is
      ∙ ap (λ (b : Bool). both joint b (hold joint (drop (i + 1) parts))) e
      ∙ settled joint (hold joint (drop (i + 1) parts)))

  -- a part that doesn't settle the answer leaves it to the parts after it
  pub part_passes : (joint : Joint) (parts : List Query) (i : ℕ) (q : Query) → i < length parts
      → q ≡ get_or parts i q → hold joint (drop i parts) ≡ hold joint parts
      → truth patterns fields (shape_of q) ≡ not (settling joint)
      → hold joint (drop (i + 1) parts) ≡ hold joint parts
  part_passes joint parts i q h is decides e =
      sym (passed joint (hold joint (drop (i + 1) parts)))
      ∙ ap (λ (b : Bool). both joint b (hold joint (drop (i + 1) parts))) (sym e)
      ∙ sym (next joint parts i q h is) ∙ decides

  -- if no part is left, no part has settled the answer
  pub parts_done : (joint : Joint) (parts : List Query) (i : ℕ) → length parts ≤ i
      → hold joint (drop i parts) ≡ hold joint parts → not (settling joint) ≡ hold joint parts
  parts_done joint parts i h decides =
      sym (none joint) ∙ ap (hold joint) (sym (drop_all i parts h)) ∙ decides
