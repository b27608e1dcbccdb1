-- The last word that speaks of a name decides.
use Rattle.std.proofs.Common.{◌≡◌, ◌⊎◌, inl, inr, ℕ, Bool, true, false, not, cond, ◌||◌, ◌&&◌, List}
use Rattle.std.proofs.Common.{[], ◌∷◌, ◌++◌, refl, sym, ap, subst}
use Rattle.std.specs.List.{fold, list_any}
use Rattle.std.specs.Str.{bytes_eq}
use Rattle.std.specs.Prelude.{codes}
use Rattle.td_text.specs.Cut.{strip}
use Rattle.td_wbread.specs.declared.word.Word.{Word}
use Rattle.td_wbread.specs.Archs.{chosen_with, is_chosen, passes}
use Rattle.td_wbread.specs.ChoiceLaws.{ChoiceIsExact, LastChooses, chooses, takes_away}

module _ (name : List ℕ) where
  abbrev removal : Word → Bool
  removal w = passes (λ t. bytes_eq t name) (strip (codes "-") w.text)

  abbrev from : Bool → List Word → Bool
  from c words = fold (λ chosen w. chosen_with name chosen w.text) c words

  abbrev taken : List Word → Bool
  taken words = list_any (λ w. takes_away name w.text) words

  decided : (c : Bool) (words : List Word) → from c words ≡ true
      → LastChooses words name ⊎ ((c ≡ true) × (taken words ≡ false))
  decided c [] h = inr (h, refl)
  decided c (x ∷ words) h = go (decided (chosen_with name c x.text) words h)
    where
      by : (v r : Bool) → chooses name x.text ≡ v → cond v true (cond r false c) ≡ true
          → taken words ≡ false
          → LastChooses (x ∷ words) name ⊎ ((c ≡ true) × (((not v && r) || taken words) ≡ false))
      by true r is e none = inl
          (record { before = []; word = x; after = words; joined = refl; chosen = is; kept = none })
      by false true is e none = absurd cc
      by false false is e none = inr (e, none)

      go : LastChooses words name ⊎ ((chosen_with name c x.text ≡ true) × (taken words ≡ false))
          → LastChooses (x ∷ words) name ⊎ ((c ≡ true) × (taken (x ∷ words) ≡ false))
      go (inl l) =
          inl (record {
            before = x ∷ l.before;
            word = l.word;
            after = l.after;
            joined = ap (λ (ws : List Word). x ∷ ws) l.joined;
            chosen = l.chosen;
            kept = l.kept;
          })
      go (inr p) = by (chooses name x.text) (removal x) refl p.0 p.1

  keeps : (words : List Word) → taken words ≡ false → from true words ≡ true
  keeps [] none = refl
  keeps (x ∷ words) none = by (chooses name x.text) (removal x) none
      (λ (g : taken words ≡ false). keeps words g)
    where
      by : (v r : Bool) → ((not v && r) || taken words) ≡ false → (taken words ≡ false
          → from true words ≡ true) → from (cond v true (cond r false true)) words ≡ true
      by true r g later = later g
      by false true g later = absurd cc
      by false false g later = later g

  chosen_then : (c : Bool) (before : List Word) (word : Word) (after : List Word)
      → chooses name word.text ≡ true → taken after ≡ false → from c (before ++ word ∷ after) ≡ true
  chosen_then c [] word after is none = by (chooses name word.text) is
    where
      by : (v : Bool) → v ≡ true → from (cond v true (cond (removal word) false c)) after ≡ true
      by true h = keeps after none
      by false h = absurd cc
  chosen_then c (x ∷ before) word after is none =
      chosen_then (chosen_with name c x.text) before word after is none

  last_found : (words : List Word) → from false words ≡ true → LastChooses words name
  last_found words h = go (decided false words h)
    where
      go : LastChooses words name ⊎ ((false ≡ true) × (taken words ≡ false))
          → LastChooses words name
      go (inl l) = l
      go (inr p) = let e = p.0 in absurd cc

pub choice_exact : ChoiceIsExact
choice_exact = λ words name. (
  last_found name words,
  λ l. subst (λ (ws : List Word). is_chosen ws name ≡ true) (sym l.joined)
      (chosen_then name false l.before l.word l.after l.chosen l.kept),
)
