-- What the status of a row means.
use Rattle.std.proofs.Common.{◌≡◌, ◌↔◌, ℕ, zero, suc, ◌<◌, ◌&&◌, Bool, true, false, List, [], ◌∷◌}
use Rattle.std.proofs.Common.{length, get_or, refl, sym, ap, ◌∙◌, inl, inr, arith}
use Rattle.std.specs.Prelude.{IsTrue}
use Rattle.std.specs.List.{Contains, list_any}
use Rattle.std.proofs.lemmas.Bool.{false≢true, or_cases}
use Rattle.regex.specs.Patterns.{Re}
use Rattle.td_indices.specs.Archive.{Contents, is_of_on}
use Rattle.td_indices.specs.Kept.{KeptBinary}
use Rattle.td_indices.specs.Sources.{KeptSource}
use Rattle.td_indices.specs.Stanzas.{package_fields, source_fields}
use Rattle.td_query.specs.Query.{Shape}
use Rattle.td_query.specs.Statuses.{row_satisfies, status_where}
use Rattle.td_query.specs.StatusLaws.{IsGraded, RowsAloneHaveAStatus, RowsAreGradedByTheirStanzas}
use Rattle.td_query.specs.StatusLaws.{RowsSatisfyByAStanza, SomeSatisfies}
use Rattle.td_query.specs.Truth.{truth}
use Rattle.td_query.proofs.Meanings.{and_is, or_from}
use Rattle.td_query.proofs.RowStatuses.{status_nowhere}

-- ---- 1. some item

any_to : {A : Type 0} (f : A → Bool) (xs : List A) → IsTrue (list_any f xs)
    → (x : A) × Contains xs x × IsTrue (f x)
any_to f [] h = absurd (false≢true h)
any_to f (x ∷ xs) h =
    elim (or_cases (f x) (list_any f xs) h) [
      | inl here ↦ (x, (0, omega arith, refl), here)
      | inr later ↦ (let r = any_to f xs later in
          (r.0, (suc r.1.0, omega (arith, r.1.1), r.1.2), r.2))
    ]

any_at : {A : Type 0} (f : A → Bool) (xs : List A) (k : ℕ) (x : A) → k < length xs
    → get_or xs k x ≡ x → IsTrue (f x) → IsTrue (list_any f xs)
any_at f [] k x lt at h = absurd (omega arith)
any_at f (y ∷ ys) zero x lt at h = or_from (f y) (list_any f ys) (inl (ap f at ∙ h))
any_at f (y ∷ ys) (suc k) x lt at h =
    or_from (f y) (list_any f ys) (inr (any_at f ys k x (omega arith) at h))

-- ---- 2. some stanza of a row

module _ (a : Contents) (patterns : List Re) (query : Shape) (s : KeptSource) (place : ℕ) where
  abbrev test : KeptBinary → Bool
  test b = is_of_on s.head.name place b && truth patterns (package_fields a b) query

  to_stanza : IsTrue (row_satisfies a patterns query s place)
      → SomeSatisfies a patterns query s place
  to_stanza h =
      elim (or_cases (truth patterns (source_fields a s) query) (list_any test a.binaries) h) [
        | inl own ↦ (source_fields a s, inl refl, own)
        | inr some ↦
            (let r = any_to test a.binaries some in
            let p = (and_is (is_of_on s.head.name place r.0)
            (truth patterns (package_fields a r.0) query)).0 r.2 in
            (package_fields a r.0, inr (r.0, r.1, p.0, refl), p.1))
      ]

  from_stanza : SomeSatisfies a patterns query s place
      → IsTrue (row_satisfies a patterns query s place)
  from_stanza some =
      or_from (truth patterns (source_fields a s) query) (list_any test a.binaries) (elim some.1 [
        | inl own ↦ inl (ap (λ fields. truth patterns fields query) (sym own) ∙ some.2)
        | inr of ↦
            inr (any_at test a.binaries of.1.0 of.0 of.1.1 of.1.2
            ((and_is (is_of_on s.head.name place of.0)
            (truth patterns (package_fields a of.0) query)).1
            (of.2, ap (λ fields. truth patterns fields query) (sym of.3) ∙ some.2)))
      ])

pub by_a_stanza : RowsSatisfyByAStanza
by_a_stanza a patterns query s place =
    (to_stanza a patterns query s place, from_stanza a patterns query s place)

-- ---- 3. grades

no_of : {P : Type 0} (b : Bool) → IsTrue b ↔ P → b ≡ false → ¬ P
no_of b says fails p = false≢true (sym fails ∙ says.1 p)

module _ {F G B : Type 0} where
  grade : (f g b : Bool) → IsTrue f ↔ F → IsTrue g ↔ G → IsTrue b ↔ B
      → IsGraded F G B (status_where f g b)
  grade false g b sf sg sb = record {
    none = (λ e. no_of false sf refl, λ n. refl);
    good = (λ e. absurd (cc), λ p. absurd (no_of false sf refl p.0));
    bad = (λ e. absurd (cc), λ p. absurd (no_of false sf refl p.0));
    partial = (λ e. absurd (cc), λ p. absurd (no_of false sf refl p.0));
    unknown = (λ e. absurd (cc), λ p. absurd (no_of false sf refl p.0));
  }
  grade true true true sf sg sb = record {
    none = (λ e. absurd (cc), λ n. absurd (n (sf.0 refl)));
    good = (λ e. absurd (cc), λ p. absurd (p.2 (sb.0 refl)));
    bad = (λ e. absurd (cc), λ p. absurd (p.1 (sg.0 refl)));
    partial = (λ e. (sf.0 refl, sg.0 refl, sb.0 refl), λ p. refl);
    unknown = (λ e. absurd (cc), λ p. absurd (p.1 (sg.0 refl)));
  }
  grade true true false sf sg sb = record {
    none = (λ e. absurd (cc), λ n. absurd (n (sf.0 refl)));
    good = (λ e. (sf.0 refl, sg.0 refl, no_of false sb refl), λ p. refl);
    bad = (λ e. absurd (cc), λ p. absurd (p.1 (sg.0 refl)));
    partial = (λ e. absurd (cc), λ p. absurd (no_of false sb refl p.2));
    unknown = (λ e. absurd (cc), λ p. absurd (p.1 (sg.0 refl)));
  }
  grade true false true sf sg sb = record {
    none = (λ e. absurd (cc), λ n. absurd (n (sf.0 refl)));
    good = (λ e. absurd (cc), λ p. absurd (p.2 (sb.0 refl)));
    bad = (λ e. (sf.0 refl, no_of false sg refl, sb.0 refl), λ p. refl);
    partial = (λ e. absurd (cc), λ p. absurd (no_of false sg refl p.1));
    unknown = (λ e. absurd (cc), λ p. absurd (p.2 (sb.0 refl)));
  }
  grade true false false sf sg sb = record {
    none = (λ e. absurd (cc), λ n. absurd (n (sf.0 refl)));
    good = (λ e. absurd (cc), λ p. absurd (no_of false sg refl p.1));
    bad = (λ e. absurd (cc), λ p. absurd (no_of false sb refl p.2));
    partial = (λ e. absurd (cc), λ p. absurd (no_of false sg refl p.1));
    unknown = (λ e. (sf.0 refl, no_of false sg refl, no_of false sb refl), λ p. refl);
  }

pub graded_rows : RowsAreGradedByTheirStanzas
graded_rows a t source place s at there =
    rw (at, there) (grade (row_satisfies a t.patterns t.affected s place)
    (row_satisfies a t.patterns t.good s place) (row_satisfies a t.patterns t.bad s place)
    (by_a_stanza a t.patterns t.affected s place) (by_a_stanza a t.patterns t.good s place)
    (by_a_stanza a t.patterns t.bad s place))

pub rows_alone : RowsAloneHaveAStatus
rows_alone a t source place none = sym (status_nowhere a t source place none)
