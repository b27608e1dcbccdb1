-- The words of a text, and the lists that they are.
use Rattle.std.proofs.Common.{◌≡◌, ◌≢◌, ℕ, Bool, true, false, cond, not, eqb, ltb, ◌||◌, List, []}
use Rattle.std.proofs.Common.{◌∷◌, ◌++◌, length, map, Some, refl, sym, ap, subst, ◌∙◌, inl, inr}
use Rattle.std.proofs.Common.{arith}
use Rattle.std.specs.Prelude.{IsTrue}
use Rattle.std.specs.List.{list_all, slice_split, onto_first, AllByRecursion}
use Rattle.std.proofs.lemmas.Bool.{cases_Bool, and_parts, and_from, eqb-true, ne_eqb, or_parts}
use Rattle.td_text.specs.Cut.{Without}
use Rattle.td_text.specs.Words.{is_arch}
use Rattle.td_text.proofs.Chain.{not-true}
use Rattle.td_text.proofs.Cut.{Without-left, Without-right}
use Rattle.td_text.specs.Runs.{is_space}
use Rattle.td_relation.specs.ArchList.{words, is_negated, bare}
use Rattle.td_relation.specs.RelationGrammar.{is_negated_word, is_arch_list, is_profile}
use Rattle.td_relation.specs.RelationGrammar.{is_profile_list}
use Rattle.td_relation.specs.RelationWriting.{WrittenArchs, WrittenProfile, marked, profile_text}
use Rattle.td_relation.specs.RelationWriting.{is_profile_byte, is_profile_name, ArchsFit}
use Rattle.td_relation.specs.RelationWriting.{ProfilesFit}
use Rattle.td_relation.specs.Spacing.{AreWords, EndsAWord}
use Rattle.td_relation.proofs.WordTexts.{filled}

-- ---- words

-- bytes that aren't whitespace
abbrev pub Plain : List ℕ → Type 0
Plain w = AllByRecursion (λ b. is_space b ≡ false) w

pub record AreFound (ws : List (List ℕ)) (text : List ℕ) : Type 0 where
  pub spaced : AreWords ws text
  pub plain : AllByRecursion Plain ws

-- a text at its first whitespace
pub record IsSplit (t : List ℕ) : Type 0 where
  pub first : List ℕ
  pub more : List (List ℕ)
  pub rest : List ℕ
  pub cut : slice_split is_space t ≡ first ∷ more
  pub joined : t ≡ first ++ rest
  pub plain : Plain first
  pub ends : EndsAWord rest
  pub later : AreFound (filled more) rest

first_found : (first : List ℕ) (more : List (List ℕ)) (rest t : List ℕ) → t ≡ first ++ rest
    → Plain first → EndsAWord rest → AreFound (filled more) rest
    → AreFound (filled (first ∷ more)) t
first_found [] more rest t joined plain ends later =
    subst (AreFound (filled more)) (sym joined) later
first_found (x ∷ first) more rest t joined plain ends later =
    let some : eqb (length (x ∷ first)) 0 ≡ false =
    ne_eqb (length (x ∷ first)) 0 (λ e. omega arith) in
    rw some (record {
      spaced = ([], rest, joined, refl, ends, later.spaced);
      plain = (plain, later.plain);
    })

space_more : (x : ℕ) (ws : List (List ℕ)) (t : List ℕ) → is_space x ≡ true → AreWords ws t
    → AreWords ws (x ∷ t)
space_more x [] t h is = and_from (is_space x) (list_all is_space t) h is
space_more x (w ∷ ws) t h (space, rest, joined, blank, ends, more) = (
  x ∷ space,
  rest,
  ap (λ (l : List ℕ). x ∷ l) joined,
  and_from (is_space x) (list_all is_space space) h blank,
  ends,
  more,
)

split : (t : List ℕ) → IsSplit t
split [] =
    record {
      first = [];
      more = [];
      rest = [];
      cut = refl;
      joined = refl;
      plain = tt;
      ends = tt;
      later = record { spaced = refl; plain = tt };
    }
split (x ∷ t) = by (split t) (is_space x) refl
  where
    by : IsSplit t → (b : Bool) → is_space x ≡ b → IsSplit (x ∷ t)
    by s true is =
        let found = first_found s.first s.more s.rest t s.joined s.plain s.ends s.later in
        record {
          first = [];
          more = s.first ∷ s.more;
          rest = x ∷ t;
          cut = ap (λ (b : Bool).
              cond b ([] ∷ slice_split is_space t) (onto_first x (slice_split is_space t))) is
              ∙ ap (λ (l : List (List ℕ)). [] ∷ l) s.cut;
          joined = refl;
          plain = tt;
          ends = is;
          later = record {
            spaced = space_more x (filled (s.first ∷ s.more)) t is found.spaced;
            plain = found.plain;
          };
        }
    by s false is =
        record {
          first = x ∷ s.first;
          more = s.more;
          rest = s.rest;
          cut = ap (λ (b : Bool).
              cond b ([] ∷ slice_split is_space t) (onto_first x (slice_split is_space t))) is
              ∙ ap (onto_first x) s.cut;
          joined = ap (λ (l : List ℕ). x ∷ l) s.joined;
          plain = (is, s.plain);
          ends = s.ends;
          later = s.later;
        }

pub words_found : (t : List ℕ) → AreFound (words t) t
words_found t =
    let s = split t in
    subst (λ (l : List (List ℕ)). AreFound (filled l) t) (sym s.cut)
    (first_found s.first s.more s.rest t s.joined s.plain s.ends s.later)

-- what the text lacks its words lack
pub words_lack : (c : ℕ) (ws : List (List ℕ)) (t : List ℕ) → Without c t → AreWords ws t
    → AllByRecursion (λ w. Without c w) ws
words_lack c [] t lacks is = tt
words_lack c (w ∷ ws) t lacks (space, rest, joined, blank, ends, more) =
    let on = Without-right c space (w ++ rest) (subst (Without c) joined lacks) in
    (Without-left c w rest on, words_lack c ws rest (Without-right c w rest on) more)

-- ---- architecture lists

filled_list : {A : Type 0} (xs : List A) → ltb 0 (length xs) ≡ true → xs ≢ []
filled_list [] h = absurd cc
filled_list (x ∷ xs) h = λ e. (let low = ap length e in omega arith)

pub or_second : (a b : Bool) → (a || b) ≡ true → a ≡ false → b ≡ true
or_second true b h k = absurd cc
or_second false b h k = h

plain_each : (ws : List (List ℕ)) → list_all is_arch ws ≡ true
    → AllByRecursion (λ n. IsTrue (is_arch n)) ws
plain_each [] h = tt
plain_each (w ∷ ws) h =
    let p = and_parts (is_arch w) (list_all is_arch ws) h in (p.0, plain_each ws p.1)

plain_marked : (ws : List (List ℕ)) → ws ≡ map (marked false) ws
plain_marked [] = refl
plain_marked (w ∷ ws) = ap (λ (l : List (List ℕ)). w ∷ l) (plain_marked ws)

marked_bare : (w : List ℕ) → is_negated w ≡ true → w ≡ marked true (bare w)
marked_bare [] h = absurd cc
marked_bare (b ∷ w) h = let e = eqb-true b 33 h in rw h (ap (λ (x : ℕ). x ∷ w) e)

negated_each : (ws : List (List ℕ)) → list_all (is_negated_word is_arch) ws ≡ true
    → AllByRecursion (λ n. IsTrue (is_arch n)) (map bare ws)
negated_each [] h = tt
negated_each (w ∷ ws) h =
    let p = and_parts (is_negated_word is_arch w) (list_all (is_negated_word is_arch) ws) h in
    ((and_parts (is_negated w) (is_arch (bare w)) p.0).1, negated_each ws p.1)

negated_marked : (ws : List (List ℕ)) → list_all (is_negated_word is_arch) ws ≡ true
    → ws ≡ map (marked true) (map bare ws)
negated_marked [] h = refl
negated_marked (w ∷ ws) h =
    let p = and_parts (is_negated_word is_arch w) (list_all (is_negated_word is_arch) ws) h in
    let first = marked_bare w (and_parts (is_negated w) (is_arch (bare w)) p.0).0 in
    ap (λ (x : List ℕ). x ∷ ws) first
    ∙ ap (λ (l : List (List ℕ)). marked true (bare w) ∷ l) (negated_marked ws p.1)

length_bare : (ws : List (List ℕ)) → ws ≢ [] → map bare ws ≢ []
length_bare [] h = absurd (h refl)
length_bare (w ∷ ws) h = λ e. (let low = ap length e in omega arith)

pub record IsArchList (ws : List (List ℕ)) : Type 0 where
  pub list : WrittenArchs
  pub fits : ArchsFit (Some list)
  pub are : ws ≡ map (marked list.negated) list.names

pub arch_list_found : (ws : List (List ℕ)) → is_arch_list ws ≡ true → IsArchList ws
arch_list_found ws h =
    let p = and_parts (ltb 0 (length ws))
    (list_all is_arch ws || list_all (is_negated_word is_arch) ws) h in
    elim (cases_Bool (list_all is_arch ws)) [
      | inl plain ↦
          record {
            list = record { negated = false; names = ws };
            fits = (filled_list ws p.0, plain_each ws plain);
            are = plain_marked ws;
          }
      | inr other ↦ (
          let negated =
          or_second (list_all is_arch ws) (list_all (is_negated_word is_arch) ws) p.1 other in
          record {
            list = record { negated = true; names = map bare ws };
            fits = (length_bare ws (filled_list ws p.0), negated_each ws negated);
            are = negated_marked ws negated;
          }
          )
    ]

-- ---- profile lists

profile_of : List ℕ → WrittenProfile
profile_of w = record { negated = is_negated w; name = bare w }

profile_again : (w : List ℕ) → w ≡ profile_text (profile_of w)
unfolding profile_of
profile_again [] = refl
profile_again (b ∷ w) = by (eqb b 33) refl
  where
    by : (c : Bool) → eqb b 33 ≡ c → b ∷ w ≡ marked c (cond c w (b ∷ w))
    by true is = ap (λ (x : ℕ). x ∷ w) (eqb-true b 33 is)
    by false is = refl

-- what each byte of a word does each byte of it does without its mark
bare_keeps : (P : ℕ → Type 0) (w : List ℕ) → AllByRecursion P w → AllByRecursion P (bare w)
bare_keeps P [] h = tt
bare_keeps P (b ∷ w) h = by (eqb b 33)
  where
    by : (c : Bool) → AllByRecursion P (cond c w (b ∷ w))
    by true = h.1
    by false = h

-- the bytes that a profile's name hasn't
pub record Lacks (w : List ℕ) : Type 0 where
  pub comma : Without 44 w
  pub greater : Without 62 w
  pub bar : Without 124 w

name_bytes : (w : List ℕ) → list_all (λ b. not (eqb b 60 || eqb b 33)) w ≡ true → Plain w → Lacks w
    → list_all is_profile_byte w ≡ true
name_bytes [] h plain lacks = refl
name_bytes (x ∷ w) h plain lacks =
    let p =
    and_parts (not (eqb x 60 || eqb x 33)) (list_all (λ b. not (eqb b 60 || eqb b 33)) w) h in
    let out = or_parts (eqb x 60) (eqb x 33) (not-true (eqb x 60 || eqb x 33) p.0) in
    let space = plain.0 in
    let less = out.0 in
    let mark = out.1 in
    let comma : eqb x 44 ≡ false = ne_eqb x 44 lacks.comma.0 in
    let greater : eqb x 62 ≡ false = ne_eqb x 62 lacks.greater.0 in
    let bar : eqb x 124 ≡ false = ne_eqb x 124 lacks.bar.0 in
    let first : is_profile_byte x ≡ true = rw (space, mark, comma, less, greater, bar) refl in
    and_from (is_profile_byte x) (list_all is_profile_byte w) first
    (name_bytes w p.1 plain.1
    (record { comma = lacks.comma.1; greater = lacks.greater.1; bar = lacks.bar.1 }))

name_legal : (w : List ℕ) → is_profile (bare w) ≡ true → Plain w → Lacks w
    → is_profile_name (bare w) ≡ true
name_legal w h plain lacks =
    let p = and_parts (ltb 0 (length (bare w)))
    (list_all (λ b. not (eqb b 60 || eqb b 33)) (bare w)) h in
    and_from _ _ p.0
    (name_bytes (bare w) p.1 (bare_keeps (λ b. is_space b ≡ false) w plain) (record {
      comma = bare_keeps (λ x. x ≢ 44) w lacks.comma;
      greater = bare_keeps (λ x. x ≢ 62) w lacks.greater;
      bar = bare_keeps (λ x. x ≢ 124) w lacks.bar;
    }))

each_profile : (ws : List (List ℕ)) → list_all (λ w. is_profile (bare w)) ws ≡ true
    → AllByRecursion Plain ws → AllByRecursion (λ w. Without 44 w) ws
    → AllByRecursion (λ w. Without 62 w) ws → AllByRecursion (λ w. Without 124 w) ws
    → AllByRecursion (λ p. IsTrue (is_profile_name p.name)) (map profile_of ws)
unfolding profile_of
each_profile [] h plain a b c = tt
each_profile (w ∷ ws) h plain a b c =
    let p = and_parts (is_profile (bare w)) (list_all (λ v. is_profile (bare v)) ws) h in (
      name_legal w p.0 plain.0 (record { comma = a.0; greater = b.0; bar = c.0 }),
      each_profile ws p.1 plain.1 a.1 b.1 c.1,
    )

profiles_again : (ws : List (List ℕ)) → ws ≡ map profile_text (map profile_of ws)
profiles_again [] = refl
profiles_again (w ∷ ws) =
    ap (λ (x : List ℕ). x ∷ ws) (profile_again w)
    ∙ ap (λ (l : List (List ℕ)). profile_text (profile_of w) ∷ l) (profiles_again ws)

some_profiles : (ws : List (List ℕ)) → ws ≢ [] → map profile_of ws ≢ []
some_profiles [] h = absurd (h refl)
some_profiles (w ∷ ws) h = λ e. (let low = ap length e in omega arith)

pub record IsProfileList (inside : List ℕ) : Type 0 where
  pub list : List WrittenProfile
  pub fits : ProfilesFit list
  pub are : words inside ≡ map profile_text list

pub profile_list_found : (inside : List ℕ) → is_profile_list (words inside) ≡ true → Lacks inside
    → IsProfileList inside
profile_list_found inside h lacks =
    let p = and_parts (ltb 0 (length (words inside)))
    (list_all (λ w. is_profile (bare w)) (words inside)) h in
    let found = words_found inside in
    let names = each_profile (words inside) p.1 found.plain
    (words_lack 44 (words inside) inside lacks.comma found.spaced)
    (words_lack 62 (words inside) inside lacks.greater found.spaced)
    (words_lack 124 (words inside) inside lacks.bar found.spaced) in
    record {
      list = map profile_of (words inside);
      fits = (some_profiles (words inside) (filled_list (words inside) p.0), names);
      are = profiles_again (words inside);
    }
