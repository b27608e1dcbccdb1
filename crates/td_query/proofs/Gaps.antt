-- Whitespace and comments, and what comes after them.
use Rattle.std.proofs.Common.{◌≡◌, ◌≢◌, ◌⊎◌, ℕ, zero, suc, ◌+◌, ◌≤◌, true, false}
use Rattle.std.proofs.Common.{List, [], ◌∷◌, ◌++◌, length, length-append, Option, Some, None}
use Rattle.std.proofs.Common.{option_map, refl, sym, ap, subst, ◌∙◌, inl, inr, append_assoc}
use Rattle.std.proofs.Common.{append-nil}
use Rattle.std.proofs.Common.{arith}
use Rattle.std.specs.Prelude.{codes}
use Rattle.std.proofs.lemmas.Bool.{cases_Bool}
use Rattle.std.proofs.lemmas.Bool.Decides.{eqb_tells}
use Rattle.td_text.specs.Chain.{◌>>=◌}
use Rattle.td_text.specs.Cut.{Without, cut}
use Rattle.td_text.specs.Runs.{is_space}
use Rattle.td_text.proofs.Cut.{cut_found}
use Rattle.td_query.specs.QuerySpelling.{IsGap, no_gap, space_gap, comment_gap, IsLastGap}
use Rattle.td_query.specs.QuerySpelling.{closed_gap, open_gap, Stands}
use Rattle.td_query.specs.SpellingLaws.{GapsAreExact, LastGapsAreExact}
use Rattle.td_query.specs.Tokens.{skipped, skipped_in}
use Rattle.td_query.proofs.Skips.{comment, skipped_all, skipped-space}
use Rattle.td_query.proofs.TokenRules.{comments_are_skipped, last_comments_are_skipped}
use Rattle.td_query.proofs.TokenRules.{others_are_kept}

-- ---- 1. a gap is skipped

pub gap_skipped : {gap : List ℕ} (t : List ℕ) → IsGap gap → skipped (gap ++ t) ≡ skipped t
gap_skipped t no_gap = refl
gap_skipped t (space_gap x gap is h) = skipped-space x (gap ++ t) is ∙ gap_skipped t h
gap_skipped t (comment_gap words gap none h) =
    ap (λ (l : List ℕ). skipped (35 ∷ l)) (append_assoc words (10 ∷ gap) t)
    ∙ comments_are_skipped words (gap ++ t) none ∙ gap_skipped t h

-- the bytes after a gap are the first that aren't skipped
pub stands_comes : (x : ℕ) (word t rest : List ℕ) → is_space x ≡ false → x ≢ 35
    → Stands (x ∷ word) t rest → skipped t ≡ (x ∷ word) ++ rest
stands_comes x word t rest space hash h =
    ap (λ (l : List ℕ). skipped l) h.spelled
    ∙ gap_skipped ((x ∷ word) ++ rest) h.between
    ∙ others_are_kept x (word ++ rest) space hash

pub stands_room : (bytes t rest : List ℕ) → Stands bytes t rest
    → length bytes + length rest ≤ length t
stands_room bytes t rest h =
    let whole : length t ≡ length (h.gap ++ (bytes ++ rest)) =
    ap (λ (l : List ℕ). length l) h.spelled in
    let front = length-append h.gap (bytes ++ rest) in
    let back = length-append bytes rest in
    omega arith

-- ---- 2. what is skipped is a gap

-- a text that is a gap, and then what isn't skipped
pub record IsFronted (t : List ℕ) : Type 0 where
  pub gap : List ℕ
  pub between : IsGap gap
  pub spelled : t ≡ gap ++ skipped t

-- a text that is skipped as a whole, and ends in an open comment
pub record IsOpen (t : List ℕ) : Type 0 where
  pub none : skipped t ≡ []
  pub gap : List ℕ
  pub between : IsGap gap
  pub words : List ℕ
  pub lacks : Without 10 words
  pub spelled : t ≡ gap ++ 35 ∷ words

abbrev Cut : Type 0
Cut = Option (List ℕ × List ℕ)

none_left : (x : ℕ) (o : Cut)
    → ◌≡◌ {A = Cut} (◌>>=◌ {B = List ℕ × List ℕ} o (λ p. Some (x ∷ p.0, p.1))) None → o ≡ None
none_left x None e = refl
none_left x (Some p) e =
    absurd (let bad : ◌≡◌ {A = Cut} (Some (x ∷ p.0, p.1)) None = e in cc)

pub cut_lacks : (c : ℕ) (t : List ℕ) → cut c t ≡ None → Without c t
unfolding cut
cut_lacks c [] e = tt
cut_lacks c (x ∷ t) e =
    elim (eqb_tells x c) [
      | inl is ↦ absurd (let bad : ◌≡◌ {A = Cut} (Some ([], t)) None = sym (rw is.0 refl) ∙ e in cc)
      | inr other ↦
          (let left : ◌≡◌ {A = Cut}
          (◌>>=◌ {B = List ℕ × List ℕ} (cut c t) (λ p. Some (x ∷ p.0, p.1))) None =
          sym (rw other.0 refl) ∙ e in
          (other.1, cut_lacks c t (none_left x (cut c t) left)))
    ]

-- a comment is skipped up to the end of its line
hash_skipped : (t : List ℕ) (o : Option (List ℕ × List ℕ)) → cut 10 t ≡ o
    → skipped (35 ∷ t) ≡ skipped_all (option_map (λ (p : List ℕ × List ℕ). p.1) o)
unfolding skipped_in
hash_skipped t o e =
    comment t
    ∙ ap (λ (c : Option (List ℕ × List ℕ)).
    skipped_all (option_map (λ (p : List ℕ × List ℕ). p.1) c)) e

module _ (x : ℕ) (t : List ℕ) where
  spaced : is_space x ≡ true → IsFronted t ⊎ IsOpen t → IsFronted (x ∷ t) ⊎ IsOpen (x ∷ t)
  spaced is (inl h) =
      inl (record {
        gap = x ∷ h.gap;
        between = space_gap x h.gap is h.between;
        spelled = ap (λ (l : List ℕ). x ∷ l) h.spelled
            ∙ ap (λ (l : List ℕ). x ∷ (h.gap ++ l)) (sym (skipped-space x t is));
      })
  spaced is (inr h) =
      inr (record {
        none = skipped-space x t is ∙ h.none;
        gap = x ∷ h.gap;
        between = space_gap x h.gap is h.between;
        words = h.words;
        lacks = h.lacks;
        spelled = ap (λ (l : List ℕ). x ∷ l) h.spelled;
      })

  plain : is_space x ≡ false → x ≢ 35 → IsFronted (x ∷ t) ⊎ IsOpen (x ∷ t)
  plain space hash = inl (record {
    gap = [];
    between = no_gap;
    spelled = sym (others_are_kept x t space hash);
  })

-- if what follows a comment is fronted or open, the comment with it is, too
commented : (t words u : List ℕ) → t ≡ words ++ 10 ∷ u → Without 10 words
    → skipped (35 ∷ t) ≡ skipped u → IsFronted u ⊎ IsOpen u
    → IsFronted (35 ∷ t) ⊎ IsOpen (35 ∷ t)
commented t words u is none same (inl h) =
    inl (record {
      gap = codes "#" ++ (words ++ 10 ∷ h.gap);
      between = comment_gap words h.gap none h.between;
      spelled = ap (λ (l : List ℕ). 35 ∷ l) is
          ∙ ap (λ (l : List ℕ). 35 ∷ (words ++ 10 ∷ l)) h.spelled
          ∙ ap (λ (l : List ℕ). 35 ∷ (words ++ 10 ∷ (h.gap ++ l))) (sym same)
          ∙ ap (λ (l : List ℕ). 35 ∷ l)
          (sym (append_assoc words (10 ∷ h.gap) (skipped (35 ∷ t))));
    })
commented t words u is none same (inr h) =
    inr (record {
      none = same ∙ h.none;
      gap = codes "#" ++ (words ++ 10 ∷ h.gap);
      between = comment_gap words h.gap none h.between;
      words = h.words;
      lacks = h.lacks;
      spelled = ap (λ (l : List ℕ). 35 ∷ l) is
          ∙ ap (λ (l : List ℕ). 35 ∷ (words ++ 10 ∷ l)) h.spelled
          ∙ ap (λ (l : List ℕ). 35 ∷ l)
          (sym (append_assoc words (10 ∷ h.gap) (35 ∷ h.words)));
    })

hashed : (n : ℕ) (t : List ℕ) (o : Option (List ℕ × List ℕ)) → cut 10 t ≡ o → length t ≤ n
    → ((u : List ℕ) → length u ≤ n → IsFronted u ⊎ IsOpen u)
    → IsFronted (35 ∷ t) ⊎ IsOpen (35 ∷ t)
hashed n t None is room later =
    inr (record {
      none = hash_skipped t None is;
      gap = [];
      between = no_gap;
      words = t;
      lacks = cut_lacks 10 t is;
      spelled = refl;
    })
hashed n t (Some p) is room later =
    let found = cut_found 10 t p is in
    let whole : length t ≡ length (p.0 ++ 10 ∷ p.1) = ap (λ (l : List ℕ). length l) found.0 in
    let parts = length-append p.0 (10 ∷ p.1) in
    let less : length p.1 ≤ n = omega arith in
    commented t p.0 p.1 found.0 found.1 (hash_skipped t (Some p) is) (later p.1 less)

by_first : (n : ℕ) (x : ℕ) (t : List ℕ) → length t ≤ n
    → ((u : List ℕ) → length u ≤ n → IsFronted u ⊎ IsOpen u)
    → IsFronted (x ∷ t) ⊎ IsOpen (x ∷ t)
by_first n x t room later =
    elim (cases_Bool (is_space x)) [
      | inl is ↦ spaced x t is (later t room)
      | inr space ↦
          elim (eqb_tells x 35) [
            | inl hash ↦ rw hash.1 (hashed n t (cut 10 t) refl room later)
            | inr other ↦ plain x t space other.1
          ]
    ]

front_in : (n : ℕ) (t : List ℕ) → length t ≤ n → IsFronted t ⊎ IsOpen t
unfolding skipped_in
front_in n [] room = inl (record { gap = []; between = no_gap; spelled = refl })
front_in zero (x ∷ t) room = absurd (omega arith)
front_in (suc n) (x ∷ t) room =
    by_first n x t (omega arith) (λ u less. front_in n u less)

pub front_of : (t : List ℕ) → IsFronted t ⊎ IsOpen t
front_of t = front_in (length t) t (omega arith)

-- what isn't skipped comes after a gap
pub comes_stands : (x : ℕ) (word t rest : List ℕ) → skipped t ≡ (x ∷ word) ++ rest
    → Stands (x ∷ word) t rest
comes_stands x word t rest e =
    elim (front_of t) [
      | inl h ↦ record {
        gap = h.gap;
        between = h.between;
        spelled = h.spelled ∙ ap (λ (l : List ℕ). h.gap ++ l) e;
      }
      | inr h ↦ absurd (let bad : [] ≡ x ∷ (word ++ rest) = sym h.none ∙ e in cc)
    ]

-- ---- 3. both ways

pub gaps_are_exact : GapsAreExact
gaps_are_exact x t rest space hash = (
  λ e. comes_stands x [] t rest e,
  λ h. stands_comes x [] t rest space hash h,
)

last_found : (t : List ℕ) → skipped t ≡ [] → IsLastGap t
last_found t none =
    elim (front_of t) [
      | inl h ↦
          (let all : t ≡ h.gap ++ [] = h.spelled ∙ ap (λ (l : List ℕ). h.gap ++ l) none in
          whole h.gap h.between all)
      | inr h ↦ open_gap h.gap h.words h.between h.lacks h.spelled
    ]
  where
    whole : (gap : List ℕ) → IsGap gap → t ≡ gap ++ [] → IsLastGap t
    whole gap is all = closed_gap (subst IsGap (sym (all ∙ append-nil gap)) is)

last_skipped : (t : List ℕ) → IsLastGap t → skipped t ≡ []
unfolding skipped_in
last_skipped t (closed_gap h) =
    ap (λ (l : List ℕ). skipped l) (sym (append-nil t)) ∙ gap_skipped [] h
last_skipped t (open_gap gap words h none is) =
    ap (λ (l : List ℕ). skipped l) is ∙ gap_skipped (codes "#" ++ words) h
    ∙ last_comments_are_skipped words none

pub last_gaps_are_exact : LastGapsAreExact
last_gaps_are_exact t = (last_found t, last_skipped t)
