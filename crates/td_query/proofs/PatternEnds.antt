-- Where a pattern ends.
use Rattle.std.proofs.Common.{◌≡◌, ◌⊎◌, ℕ, ◌+◌, Bool, true, false, not, eqb, ◌&&◌, List, [], ◌∷◌}
use Rattle.std.proofs.Common.{◌++◌}
use Rattle.std.proofs.Common.{take, drop, Option, None, Some, option_map, refl, sym, ap, subst, ◌∙◌}
use Rattle.std.proofs.Common.{inl, inr, add-one}
use Rattle.std.specs.Prelude.{if◌then◌else◌}
use Rattle.std.proofs.lemmas.Bool.{false≢true}
use Rattle.std.proofs.lemmas.Bool.Decides.{eqb_tells}
use Rattle.td_query.specs.TokenRules.{EndsInBackslash, PatternsEndAtTheirSlash}
use Rattle.td_query.specs.Tokens.{pattern_end}

-- ---- 1. the two parts, byte by byte

abbrev pub Parts : Type 0
Parts = Option (List ℕ × List ℕ)

-- the two parts, with one byte more at the front of the first
abbrev pub more : ℕ → Parts → Parts
more x o = option_map (λ p. (x ∷ p.0, p.1)) o

-- what is before the closing slash and after it; the flag says if a backslash is before the text
abbrev pub parts : Bool → List ℕ → Parts
parts escaped [] = None
parts escaped (x ∷ t) =
    if eqb x 47 && not escaped then Some ([], t) else more x (parts (eqb x 92) t)

abbrev pub at : List ℕ → Option ℕ → Parts
at t o = option_map (λ n. (take n t, drop 1 (drop n t))) o

at_next : (x : ℕ) (t : List ℕ) (o : Option ℕ)
    → at (x ∷ t) (option_map (λ n. n + 1) o) ≡ more x (at t o)
at_next x t None = refl
at_next x t (Some n) = rw add-one refl

pub at_end : (escaped : Bool) (t : List ℕ) → at t (pattern_end escaped t) ≡ parts escaped t
unfolding pattern_end
at_end escaped [] = refl
at_end escaped (x ∷ t) = by (eqb x 47 && not escaped) (at_end (eqb x 92) t)
  where
    by : (b : Bool) → at t (pattern_end (eqb x 92) t) ≡ parts (eqb x 92) t → at (x ∷ t)
        (if b then Some 0 else option_map (λ n. n + 1) (pattern_end (eqb x 92) t))
        ≡ (if b then Some ([], t) else more x (parts (eqb x 92) t))
    by true h = refl
    by false h = at_next x t (pattern_end (eqb x 92) t) ∙ ap (more x) h

-- ---- 2. what is before the slash

-- a text ends in a backslash, or it is empty and comes after one
abbrev Escaped : Bool → List ℕ → Type 0
Escaped escaped t = ((t ≡ []) × (escaped ≡ true)) ⊎ EndsInBackslash t

abbrev IsBetween : Bool → List ℕ → Type 0
IsBetween escaped raw =
    ((front back : List ℕ) → raw ≡ front ++ 47 ∷ back → Escaped escaped front)
    × (Escaped escaped raw → ⊥)

-- a text whose end is escaped stays so with one byte more at its front
ends_later : (escaped : Bool) (x : ℕ) (t : List ℕ) → Escaped (eqb x 92) t → Escaped escaped (x ∷ t)
ends_later escaped x t (inl h) =
    elim (eqb_tells x 92) [
      | inl is ↦ (let same : x ∷ t ≡ [] ++ 92 ∷ [] = rw (is.1, h.0) refl in inr ([], same))
      | inr other ↦ absurd (false≢true (sym other.0 ∙ h.1))
    ]
ends_later escaped x t (inr h) =
    let same : x ∷ t ≡ (x ∷ h.0) ++ 92 ∷ [] = ap (λ (l : List ℕ). x ∷ l) h.1 in inr (x ∷ h.0, same)

-- a text whose end is escaped stays so without its first byte
ends_sooner : (escaped : Bool) (x : ℕ) (t : List ℕ) → Escaped escaped (x ∷ t) → Escaped (eqb x 92) t
ends_sooner escaped x t (inl h) = absurd (let no : x ∷ t ≡ [] = h.0 in cc)
ends_sooner escaped x t (inr ([], is)) =
    let last : x ≡ 92 = cc in
    let none : t ≡ [] = cc in
    let test : eqb x 92 ≡ true = rw last refl in
    inl (none, test)
ends_sooner escaped x t (inr (y ∷ front, is)) =
    let rest : t ≡ front ++ 92 ∷ [] = cc in inr (front, rest)

-- a byte that closes no pattern may come before what is between slashes
between_more : (escaped : Bool) (x : ℕ) (raw : List ℕ) → (eqb x 47 && not escaped) ≡ false
    → IsBetween (eqb x 92) raw → IsBetween escaped (x ∷ raw)
between_more escaped x raw goes is = (
  λ front back here. slashes front back here,
  λ bad. is.1 (ends_sooner escaped x raw bad),
)
  where
    first : (e : Bool) → (eqb x 47 && not e) ≡ false → x ≡ 47 → e ≡ true
    first true g slash = refl
    first false g slash = absurd (let yes : (eqb x 47 && true) ≡ true = rw slash refl in
        false≢true (sym g ∙ yes))

    slashes : (front back : List ℕ) → x ∷ raw ≡ front ++ 47 ∷ back → Escaped escaped front
    slashes [] back here = let slash : x ≡ 47 = cc in inl (refl, first escaped goes slash)
    slashes (y ∷ front) back here =
        let same : x ≡ y = cc in
        let later : raw ≡ front ++ 47 ∷ back = cc in
        subst (λ (z : ℕ). Escaped escaped (z ∷ front)) same
        (ends_later escaped x front (is.0 front back later))

between_less : (escaped : Bool) (x : ℕ) (raw : List ℕ) → IsBetween escaped (x ∷ raw)
    → IsBetween (eqb x 92) raw
between_less escaped x raw is = (
  λ front back here. ends_sooner escaped x front
      (is.0 (x ∷ front) back (ap (λ (l : List ℕ). x ∷ l) here)),
  λ bad. is.1 (ends_later escaped x raw bad),
)

goes_on : (escaped : Bool) (x : ℕ) (raw : List ℕ) → IsBetween escaped (x ∷ raw)
    → (eqb x 47 && not escaped) ≡ false
goes_on true x raw is = elim (eqb x 47) as (λ b. (b && false) ≡ false)
    [ true ↦ refl | false ↦ refl ]
goes_on false x raw is =
    elim (eqb_tells x 47) [
      | inl slash ↦ (let here : x ∷ raw ≡ [] ++ 47 ∷ raw = rw slash.1 refl in
          absurd (empty (is.0 [] raw here)))
      | inr other ↦ rw other.0 refl
    ]
  where
    empty : Escaped false [] → ⊥
    empty (inl h) = false≢true h.1
    empty (inr ([], is)) = let no : [] ≡ 92 ∷ [] = is in cc
    empty (inr (y ∷ front, is)) = let no : [] ≡ y ∷ (front ++ 92 ∷ []) = is in cc

-- ---- 3. both ways

-- the two parts of a pair
abbrev first_part : Parts → List ℕ
first_part None = []
first_part (Some p) = p.0

abbrev second_part : Parts → List ℕ
second_part None = []
second_part (Some p) = p.1

pair_is : (t u v w : List ℕ) → ◌≡◌ {A = Parts} (Some (t, u)) (Some (v, w)) → (t ≡ v) × (u ≡ w)
pair_is t u v w e = (ap first_part e, ap second_part e)

pub split : (escaped : Bool) (t raw rest : List ℕ) → parts escaped t ≡ Some (raw, rest)
    → (t ≡ raw ++ 47 ∷ rest) × IsBetween escaped raw
split escaped [] raw rest h = absurd (cc)
split escaped (x ∷ t) raw rest h =
    by (eqb x 47 && not escaped) refl h (λ r s g. split (eqb x 92) t r s g)
  where
    closes : (e : Bool) → (eqb x 47 && not e) ≡ true → (x ≡ 47) × (e ≡ false)
    closes false g = elim (eqb_tells x 47) [
      | inl is ↦ (is.1, refl)
      | inr other ↦ absurd (false≢true (sym (rw other.0 refl) ∙ g))
    ]
    closes true g = absurd (let no : (eqb x 47 && false) ≡ false =
        elim (eqb x 47) as (λ b. (b && false) ≡ false) [ true ↦ refl | false ↦ refl ] in
        false≢true (sym no ∙ g))

    empty : Escaped escaped [] → escaped ≡ false → ⊥
    empty (inl h) free = false≢true (sym free ∙ h.1)
    empty (inr ([], is)) free = let bad : [] ≡ 92 ∷ [] = is in cc
    empty (inr (y ∷ front, is)) free = let bad : [] ≡ y ∷ (front ++ 92 ∷ []) = is in cc

    nowhere : (front back : List ℕ) → [] ≡ front ++ 47 ∷ back → Escaped escaped front
    nowhere [] back h = absurd (cc)
    nowhere (y ∷ front) back h = absurd (cc)

    later : (o : Parts) → parts (eqb x 92) t ≡ o → more x o ≡ Some (raw, rest)
        → (eqb x 47 && not escaped) ≡ false
        → ((r s : List ℕ) → parts (eqb x 92) t ≡ Some (r, s)
        → (t ≡ r ++ 47 ∷ s) × IsBetween (eqb x 92) r)
        → (x ∷ t ≡ raw ++ 47 ∷ rest) × IsBetween escaped raw
    later None is h g less = absurd (cc)
    later (Some p) is h g less =
        let same = pair_is (x ∷ p.0) p.1 raw rest h in
        let front : x ∷ p.0 ≡ raw = same.0 in
        let behind : p.1 ≡ rest = same.1 in
        let known : (t ≡ p.0 ++ 47 ∷ p.1) × IsBetween (eqb x 92) p.0 =
        less p.0 p.1 is in (
          subst (λ (r : List ℕ). x ∷ t ≡ raw ++ 47 ∷ r) behind
              (subst (λ (l : List ℕ). x ∷ t ≡ l ++ 47 ∷ p.1) front
              (ap (λ (l : List ℕ). x ∷ l) known.0)),
          subst (IsBetween escaped) front (between_more escaped x p.0 g known.1),
        )

    by : (b : Bool) → (eqb x 47 && not escaped) ≡ b
        → (if b then Some ([], t) else more x (parts (eqb x 92) t)) ≡ Some (raw, rest)
        → ((r s : List ℕ) → parts (eqb x 92) t ≡ Some (r, s)
        → (t ≡ r ++ 47 ∷ s) × IsBetween (eqb x 92) r)
        → (x ∷ t ≡ raw ++ 47 ∷ rest) × IsBetween escaped raw
    by true g h less =
        let same = pair_is [] t raw rest h in
        let none : [] ≡ raw = same.0 in
        let behind : t ≡ rest = same.1 in
        let slash : (x ≡ 47) × (escaped ≡ false) = closes escaped g in (
          subst (λ (l : List ℕ). x ∷ t ≡ l ++ 47 ∷ rest) none (rw (slash.0, behind) refl),
          subst (IsBetween escaped) none (nowhere, λ bad. empty bad slash.1),
        )
    by false g h less = later (parts (eqb x 92) t) refl h g less

joined : (escaped : Bool) (raw rest : List ℕ) → IsBetween escaped raw
    → parts escaped (raw ++ 47 ∷ rest) ≡ Some (raw, rest)
joined true [] rest is = absurd (is.1 (inl (refl, refl)))
joined false [] rest is = refl
joined escaped (x ∷ raw) rest is =
    rw (goes_on escaped x raw is)
    (ap (more x) (joined (eqb x 92) raw rest (between_less escaped x raw is)))

-- ---- 4. patterns with no backslash before them

plain : (t : List ℕ) → Escaped false t → EndsInBackslash t
plain t (inl h) = absurd (false≢true h.1)
plain t (inr h) = h

pub patterns_end : PatternsEndAtTheirSlash
patterns_end t raw rest = (
  λ h. let known : (t ≡ raw ++ 47 ∷ rest) × IsBetween false raw =
      split false t raw rest (sym (at_end false t) ∙ h) in (
        known.0,
        (λ front back here. plain front (known.1.0 front back here), λ bad. known.1.1 (inr bad)),
      ),
  λ h. at_end false t ∙ ap (parts false) h.0
      ∙ joined false raw rest (
        λ front back here. inr (h.1.0 front back here),
        λ bad. h.1.1 (plain raw bad),
      ),
)
