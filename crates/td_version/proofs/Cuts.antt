-- A text that is cut at its first or its last byte c.
use Rattle.std.proofs.Common.{◌≡◌, ◌≢◌, ℕ, ◌+◌, ◌<◌, ◌≤◌, List, [], ◌∷◌, ◌++◌, length, take, drop}
use Rattle.std.proofs.Common.{Option, Some, None, option_map, refl, sym, ap, ◌∙◌, inl, inr}
use Rattle.std.specs.Prelude.{MatchOption}
use Rattle.std.specs.Str.Pattern.{RFindsChar}
use Rattle.std.proofs.lemmas.Bool.{eq-eqb, ne_eqb}
use Rattle.std.proofs.lemmas.Bool.Decides.{eqb_tells}
use Rattle.std.proofs.lemmas.List.{take-append-drop}
use Rattle.std.proofs.lemmas.Str.Pattern.{drop_at_char, NoCharPasses-char}
use denote.Ref.{Bor}
use Rattle.td_text.specs.Chain.{◌>>=◌}
use Rattle.td_text.specs.Cut.{Without, cut}
use Rattle.td_text.proofs.Cut.{Without-from_index}
use Rattle.td_version.specs.Reading.{cut_here, cut_last}

-- how a text was cut at the first c
abbrev pub IsFirstCut : ℕ → List ℕ → Option (List ℕ × List ℕ) → Type 0
IsFirstCut c t None = Without c t
IsFirstCut c t (Some p) = (t ≡ p.0 ++ c ∷ p.1) × Without c p.0

first_onto : (c x : ℕ) (t : List ℕ) (o : Option (List ℕ × List ℕ)) → x ≢ c → IsFirstCut c t o
    → IsFirstCut c (x ∷ t) (o >>= λ p. Some (x ∷ p.0, p.1))
first_onto c x t None ne h = (ne, h)
first_onto c x t (Some p) ne h = (ap (λ (l : List ℕ). x ∷ l) h.0, (ne, h.1))

pub cut_is : (c : ℕ) (t : List ℕ) → IsFirstCut c t (cut c t)
unfolding cut
cut_is c [] = tt
cut_is c (x ∷ t) =
    elim (eqb_tells x c) [
      | inl is ↦ rw is.0 (ap (λ (b : ℕ). b ∷ t) is.1, tt)
      | inr other ↦ rw other.0 (first_onto c x t (cut c t) other.1 (cut_is c t))
    ]

-- ---- at the last

pub cut_last_none : (c : ℕ) (t : List ℕ) → Without c t → cut_last c t ≡ None
unfolding cut_last
cut_last_none c [] w = refl
cut_last_none c (x ∷ t) w = rw (cut_last_none c t w.1, ne_eqb x c w.0) refl

pub cut_last-at : (c : ℕ) (a b : List ℕ) → Without c b → cut_last c (a ++ c ∷ b) ≡ Some (a, b)
unfolding cut_last
cut_last-at c [] b w = rw (cut_last_none c b w, eq-eqb c c refl) refl
cut_last-at c (x ∷ a) b w = rw (cut_last-at c a b w) refl

abbrev pub IsLastCut : ℕ → List ℕ → Option (List ℕ × List ℕ) → Type 0
IsLastCut c t None = Without c t
IsLastCut c t (Some p) = (t ≡ p.0 ++ c ∷ p.1) × Without c p.1

last_onto : (c x : ℕ) (t : List ℕ) (o : Option (List ℕ × List ℕ)) → IsLastCut c t o
    → IsLastCut c (x ∷ t) (cut_here c x t o)
last_onto c x t None h =
    elim (eqb_tells x c) [
      | inl is ↦ rw is.0 (ap (λ (b : ℕ). b ∷ t) is.1, h)
      | inr other ↦ rw other.0 (other.1, h)
    ]
last_onto c x t (Some p) h = (ap (λ (l : List ℕ). x ∷ l) h.0, h.1)

pub cut_last_is : (c : ℕ) (t : List ℕ) → IsLastCut c t (cut_last c t)
unfolding cut_last
cut_last_is c [] = tt
cut_last_is c (x ∷ t) = last_onto c x t (cut_last c t) (cut_last_is c t)

-- the clause of `rsplit_once` at a character
abbrev pub IsRsplitOnceResult : ℕ → List ℕ → Option (Bor (List ℕ) × Bor (List ℕ)) → Type 0
IsRsplitOnceResult c bs r =
    MatchOption r (RFindsChar c bs None)
    (λ x. (i : ℕ) × (j : ℕ) × RFindsChar c bs (Some (i, j)) × (x.0.now ≡ take i bs)
    × (x.1.now ≡ drop j bs) × (i ≤ j) × (length x.0.now ≡ i) × (length x.1.now + j ≡ length bs))

-- what `rsplit_once` gives is the text cut at the last c
pub cut_last-from_split : (c : ℕ) (t : List ℕ) (r : Option (Bor (List ℕ) × Bor (List ℕ))) → c < 128
    → IsRsplitOnceResult c t r → option_map (λ x. (x.0.now, x.1.now)) r ≡ cut_last c t
cut_last-from_split c t None small s =
    sym (cut_last_none c t (Without-from_index c t (λ i lt. NoCharPasses-char c t i s small lt)))
cut_last-from_split c t (Some x) small s =
    let whole : t ≡ x.0.now ++ c ∷ x.1.now =
    sym (take-append-drop s.0 t)
    ∙ ap (λ (l : List ℕ). take s.0 t ++ l) (drop_at_char c t s.0 s.1 s.2.1 small)
    ∙ ap (λ (l : List ℕ). l ++ c ∷ drop s.1 t) (sym s.3)
    ∙ ap (λ (l : List ℕ). x.0.now ++ c ∷ l) (sym s.4) in
    let none : Without c x.1.now =
    Without-from_index c x.1.now (λ i lt.
    rw s.4 (NoCharPasses-char c (drop s.1 t) i s.2.0 small (let lt' = rw s.4 at lt in lt'))) in
    sym (ap (cut_last c) whole ∙ cut_last-at c x.0.now x.1.now none)
