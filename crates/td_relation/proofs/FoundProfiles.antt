-- The build profile lists of a text that is read as an alternative.
use Rattle.std.proofs.Common.{◌≡◌, ◌≢◌, ◌⊎◌, ℕ, Bool, true, false, cond, eqb, ◌||◌, List, [], ◌∷◌}
use Rattle.std.proofs.Common.{◌++◌, map, Option, Some, None, Ok, refl, sym, ap, subst, ◌∙◌}
use Rattle.std.proofs.Common.{append_assoc, inl, inr}
use Rattle.std.specs.Prelude.{codes}
use Rattle.std.specs.List.{list_all, list_any, slice_split, onto_first, join_with_byte}
use Rattle.std.specs.List.{AllByRecursion}
use Rattle.std.proofs.Math.Bool.{or_assoc, or-false}
use Rattle.std.proofs.lemmas.Bool.{eqb-false}
use Rattle.std.proofs.lemmas.List.Splits.{join_with_byte-slice_split}
use Rattle.td_text.specs.Cut.{Without, strip}
use Rattle.td_text.specs.Lines.{on_ok}
use Rattle.td_text.proofs.Chain.{ok_is, on_ok_parts, when_some}
use Rattle.td_text.proofs.Cut.{Without-right}
use Rattle.td_text.proofs.Prefix.{strip_found}
use Rattle.td_relation.specs.declared.relation_fault.RelationFault.{RelationFault}
use Rattle.td_relation.specs.declared.relation_fault.RelationFault.TheVariants.{BadProfile}
use Rattle.td_text.specs.Runs.{is_space, run, trimmed, is_blank}
use Rattle.td_relation.specs.ArchList.{words}
use Rattle.td_relation.specs.RelationGrammar.{is_profile_list, profile_list, profile_piece}
use Rattle.td_relation.specs.RelationGrammar.{holds_unprofiled, over, or_fault, profile_step, ended}
use Rattle.td_relation.specs.RelationGrammar.{unprofiled_at}
use Rattle.td_relation.specs.RelationWriting.{WrittenProfile, profile_text, ProfilesFit}
use Rattle.td_relation.specs.RelationWriting.{hold_unprofiled}
use Rattle.td_relation.specs.Spacing.{AreWords, SpacedProfiles, profiles_then, ProfilesAreSpaced}
use Rattle.td_text.proofs.Blanks.{is_blank-behind}
use Rattle.td_text.proofs.RunTexts.{run_joined}
use Rattle.td_relation.proofs.FoundParts.{space_blank}
use Rattle.td_relation.proofs.FoundWords.{Lacks, profile_list_found, words_found}
use Rattle.td_relation.proofs.WordTexts.{holds-again}

-- ---- what pieces lack

onto_lack : (c x : ℕ) (ps : List (List ℕ)) → x ≢ c → AllByRecursion (λ p. Without c p) ps
    → AllByRecursion (λ p. Without c p) (onto_first x ps)
onto_lack c x [] out h = ((out, tt), tt)
onto_lack c x (p ∷ ps) out h = ((out, h.0), h.1)

-- what the text lacks
pub pieces_lack : (test : ℕ → Bool) (c : ℕ) (t : List ℕ) → Without c t
    → AllByRecursion (λ p. Without c p) (slice_split test t)
pieces_lack test c [] h = (tt, tt)
pieces_lack test c (x ∷ t) h = by (test x) (pieces_lack test c t h.1)
  where
    by : (b : Bool) → AllByRecursion (λ p. Without c p) (slice_split test t) → AllByRecursion
        (λ p. Without c p) (cond b ([] ∷ slice_split test t) (onto_first x (slice_split test t)))
    by true later = (tt, later)
    by false later = onto_lack c x (slice_split test t) h.0 later

-- and the byte at which it is cut
pub own_lack : (c : ℕ) (t : List ℕ)
    → AllByRecursion (λ p. Without c p) (slice_split (λ b. eqb b c) t)
own_lack c [] = (tt, tt)
own_lack c (x ∷ t) = by (eqb x c) refl (own_lack c t)
  where
    by : (b : Bool) → eqb x c ≡ b → AllByRecursion (λ p. Without c p) (slice_split (λ b. eqb b c) t)
        → AllByRecursion (λ p. Without c p)
        (cond b ([] ∷ slice_split (λ b. eqb b c) t) (onto_first x (slice_split (λ b. eqb b c) t)))
    by true is later = (tt, later)
    by false is later = onto_lack c x (slice_split (λ b. eqb b c) t) (eqb-false x c is) later

lack_all : (ps : List (List ℕ)) → AllByRecursion (λ p. Without 44 p) ps → AllByRecursion
    (λ p. Without 62 p) ps → AllByRecursion (λ p. Without 124 p) ps → AllByRecursion Lacks ps
lack_all [] a b c = tt
lack_all (p ∷ ps) a b c =
    (record { comma = a.0; greater = b.0; bar = c.0 }, lack_all ps a.1 b.1 c.1)

-- ---- one list

abbrev holds : List WrittenProfile → Bool
holds l = list_all (λ p. p.negated) l

pub record IsPiece (p : List ℕ) (h : Bool) : Type 0 where
  pub list : List WrittenProfile
  pub space : List ℕ
  pub inside : List ℕ
  pub joined : p ≡ space ++ 60 ∷ inside
  pub blank : is_blank space ≡ true
  pub fits : ProfilesFit list
  pub spaced : AreWords (map profile_text list) inside
  pub asks : h ≡ holds list

piece_found : (p : List ℕ) (h : Bool) → Lacks p → profile_piece p ≡ Some h → IsPiece p h
unfolding profile_piece
piece_found p h lacks e = by (strip (codes "<") (trimmed p)) refl e
  where
    by : (o : Option (List ℕ)) → strip (codes "<") (trimmed p) ≡ o → profile_list o ≡ Some h
        → IsPiece p h
    by None none k = absurd cc
    by (Some inside) is k =
        let w = when_some (is_profile_list (words inside)) (holds_unprofiled (words inside)) h k in
        let joined : p ≡ run is_space p ++ 60 ∷ inside =
        run_joined is_space p ∙ ap (λ (u : List ℕ). run is_space p ++ u)
        (strip_found (codes "<") (trimmed p) inside is) in
        let inner = λ (c : ℕ) (l : Without c p).
        (Without-right c (run is_space p) (60 ∷ inside) (subst (Without c) joined l)).1 in
        let found = profile_list_found inside w.0
        (record {
          comma = inner 44 lacks.comma;
          greater = inner 62 lacks.greater;
          bar = inner 124 lacks.bar;
        }) in
        record {
          list = found.list;
          space = run is_space p;
          inside = inside;
          joined = joined;
          blank = space_blank p;
          fits = found.fits;
          spaced = subst (λ (ws : List (List ℕ)). AreWords ws inside) found.are
              (words_found inside).spaced;
          asks = sym w.1 ∙ ap holds_unprofiled found.are ∙ holds-again found.list found.fits;
        }

-- what a step says
pub record IsStep (seen : Bool) (p : List ℕ) (x : Bool × Bool) : Type 0 where
  pub holding : Bool
  pub piece : IsPiece p holding
  pub is : x ≡ (seen || holding, false)

step_found : (seen : Bool) (p : List ℕ) (x : Bool × Bool) → Lacks p → profile_step (seen, false) p
    ≡ Ok x → ((is_blank p ≡ true) × (x ≡ (seen, true))) ⊎ IsStep seen p x
step_found seen p x lacks e = by (is_blank p) refl e
  where
    piece_by : (o : Option Bool) → profile_piece p ≡ o
        → on_ok (or_fault BadProfile o) (λ h. Ok (seen || h, false)) ≡ Ok x → IsStep seen p x
    piece_by None none k = absurd cc
    piece_by (Some h) is k =
        record {
          holding = h;
          piece = piece_found p h lacks is;
          is = sym (ok_is RelationFault (seen || h, false) x k);
        }

    by : (b : Bool) → is_blank p ≡ b
        → cond b (Ok (seen, true)) (on_ok (or_fault BadProfile (profile_piece p)) (λ h. Ok
        (seen || h, false))) ≡ Ok x → ((is_blank p ≡ true) × (x ≡ (seen, true))) ⊎ IsStep seen p x
    by true is k = inl (is, sym (ok_is RelationFault (seen, true) x k))
    by false is k = inr (piece_by (profile_piece p) refl k)

-- ---- lists one behind the other

-- lists of which this is asked, in a text which need not be trimmed
pub record AreAsked (asked : List (List WrittenProfile) → Bool) (t : List ℕ) (u : Bool)
    : Type 0 where
  pub lists : List SpacedProfiles
  pub back : List ℕ
  pub joined : t ≡ profiles_then lists back
  pub fits : AllByRecursion ProfilesFit (map (λ l. l.list) lists)
  pub spaced : AllByRecursion ProfilesAreSpaced lists
  pub blank : is_blank back ≡ true
  pub asks : u ≡ asked (map (λ l. l.list) lists)

-- lists behind others, of which one may hold
abbrev ArePieces : List ℕ → Bool → Bool → Type 0
ArePieces t seen u = AreAsked (λ lists. seen || list_any holds lists) t u

-- all lists of an alternative
abbrev pub AreLists : List ℕ → Bool → Type 0
AreLists t u = AreAsked hold_unprofiled t u

not_ended : (a b : Bool) → ◌≡◌ {A = Bool × Bool} (a, false) (b, true) → ⊥
not_ended a b e = let bad : false ≡ true = ap (λ (p : Bool × Bool). p.1) e in absurd cc

pieces_found : (p : List ℕ) (ps : List (List ℕ)) (seen u : Bool) → AllByRecursion Lacks (p ∷ ps)
    → over profile_step (seen, false) (p ∷ ps) ≡ Ok (u, true)
    → ArePieces (join_with_byte 62 (p ∷ ps)) seen u
unfolding over
pieces_found p [] seen u lacks e =
    let a = on_ok_parts (profile_step (seen, false) p) (λ more. Ok more) (u, true) e in
    let same : a.0 ≡ (u, true) = ok_is RelationFault a.0 (u, true) a.2 in
    elim (step_found seen p a.0 lacks.0 a.1) [
      | inl blank ↦
          record {
            lists = [];
            back = p;
            joined = refl;
            fits = tt;
            spaced = tt;
            blank = blank.0;
            asks = ap (λ (x : Bool × Bool). x.0) (sym same ∙ blank.1) ∙ sym (or-false seen);
          }
      | inr list ↦ absurd (not_ended (seen || list.holding) u (sym list.is ∙ same))
    ]
pieces_found p (q ∷ qs) seen u lacks e =
    let a = on_ok_parts (profile_step (seen, false) p) (λ more. over profile_step more (q ∷ qs))
    (u, true) e in
    elim (step_found seen p a.0 lacks.0 a.1) [
      | inl blank ↦
          absurd (let bad : over profile_step (seen, true) (q ∷ qs) ≡ Ok (u, true) =
          subst (λ (x : Bool × Bool). over profile_step x (q ∷ qs) ≡ Ok (u, true)) blank.1 a.2 in
          cc)
      | inr list ↦
          joins list (pieces_found q qs (seen || list.holding) u lacks.1
          (subst (λ (x : Bool × Bool). over profile_step x (q ∷ qs) ≡ Ok (u, true)) list.is a.2))
    ]
  where
    joins : {x : Bool × Bool} (s : IsStep seen p x) → ArePieces (join_with_byte 62 (q ∷ qs))
        (seen || s.holding) u → ArePieces (join_with_byte 62 (p ∷ q ∷ qs)) seen u
    joins s r =
        let l = s.piece in
        record {
          lists = record { list = l.list; before = l.space; inside = l.inside } ∷ r.lists;
          back = r.back;
          joined = ap (λ (t : List ℕ). t ++ 62 ∷ join_with_byte 62 (q ∷ qs)) l.joined
              ∙ append_assoc l.space (60 ∷ l.inside) (62 ∷ join_with_byte 62 (q ∷ qs))
              ∙ ap (λ (t : List ℕ). l.space ++ 60 ∷ (l.inside ++ 62 ∷ t)) r.joined;
          fits = (l.fits, r.fits);
          spaced = ((l.blank, l.spaced), r.spaced);
          blank = r.blank;
          asks = r.asks ∙ or_assoc seen s.holding (list_any holds (map (λ l. l.list) r.lists))
              ∙ ap (λ (b : Bool). seen || (b || list_any holds (map (λ l. l.list) r.lists))) l.asks;
        }

some_lists : (t : List ℕ) (u : Bool) (lists : List SpacedProfiles) (back : List ℕ)
    → is_blank t ≡ false → t ≡ profiles_then lists back
    → AllByRecursion ProfilesFit (map (λ l. l.list) lists) → AllByRecursion ProfilesAreSpaced lists
    → is_blank back ≡ true → u ≡ list_any holds (map (λ l. l.list) lists) → AreLists t u
some_lists t u [] back other joined fits spaced blank asks =
    absurd (let bad : false ≡ true = sym other ∙ ap is_blank joined ∙ blank in cc)
some_lists t u (l ∷ ls) back other joined fits spaced blank asks =
    record {
      lists = l ∷ ls;
      back = back;
      joined = joined;
      fits = fits;
      spaced = spaced;
      blank = blank;
      asks = asks;
    }

ended_found : (x : Bool × Bool) (u : Bool) → ended x ≡ Ok u → x ≡ (u, true)
ended_found (seen, true) u e = ap (λ (b : Bool). (b, true)) (ok_is RelationFault seen u e)
ended_found (seen, false) u e = absurd cc

pub unprofiled_found : (t : List ℕ) (u : Bool) → Without 44 t → Without 124 t
    → unprofiled_at t ≡ Ok u → AreLists t u
unfolding unprofiled_at over
unprofiled_found t u comma bar e = by (is_blank t) refl e
  where
    over_found : (ps : List (List ℕ)) → slice_split (λ b. eqb b 62) t ≡ ps → is_blank t ≡ false
        → AllByRecursion Lacks ps → over profile_step (false, false) ps ≡ Ok (u, true)
        → AreLists t u
    over_found [] is other lacks k =
        absurd (not_ended false u (ok_is RelationFault (false, false) (u, true) k))
    over_found (p ∷ ps) is other lacks k =
        let r = pieces_found p ps false u lacks k in
        let whole : t ≡ join_with_byte 62 (p ∷ ps) =
        sym (join_with_byte-slice_split 62 t) ∙ ap (join_with_byte 62) is in
        some_lists t u r.lists r.back other (whole ∙ r.joined) r.fits r.spaced r.blank r.asks

    by : (b : Bool) → is_blank t ≡ b → cond b (Ok true) (on_ok (over profile_step (false, false)
        (slice_split (λ b. eqb b 62) t)) ended) ≡ Ok u → AreLists t u
    by true is k =
        record {
          lists = [];
          back = t;
          joined = refl;
          fits = tt;
          spaced = tt;
          blank = is;
          asks = sym (ok_is RelationFault true u k);
        }
    by false is k =
        let a = on_ok_parts (over profile_step (false, false) (slice_split (λ b. eqb b 62) t)) ended
        u k in
        let lacks = lack_all (slice_split (λ b. eqb b 62) t)
        (pieces_lack (λ b. eqb b 62) 44 t comma) (own_lack 62 t)
        (pieces_lack (λ b. eqb b 62) 124 t bar) in
        over_found (slice_split (λ b. eqb b 62) t) refl is lacks
        (a.1 ∙ ap (λ (x : Bool × Bool). Ok x) (ended_found a.0 u a.2))

-- with whitespace in front
behind_space : (space t : List ℕ) (u : Bool) (lists : List SpacedProfiles) (back : List ℕ)
    → is_blank space ≡ true → t ≡ profiles_then lists back
    → AllByRecursion ProfilesFit (map (λ l. l.list) lists) → AllByRecursion ProfilesAreSpaced lists
    → is_blank back ≡ true → u ≡ hold_unprofiled (map (λ l. l.list) lists) → AreLists (space ++ t) u
behind_space space t u [] back wide joined fits spaced blank asks =
    record {
      lists = [];
      back = space ++ back;
      joined = ap (λ (x : List ℕ). space ++ x) joined;
      fits = tt;
      spaced = tt;
      blank = is_blank-behind space back wide ∙ blank;
      asks = asks;
    }
behind_space space t u (l ∷ ls) back wide joined fits spaced blank asks = record {
  lists = record { list = l.list; before = space ++ l.before; inside = l.inside } ∷ ls;
  back = back;
  joined = ap (λ (x : List ℕ). space ++ x) joined
      ∙ sym (append_assoc space l.before (60 ∷ (l.inside ++ 62 ∷ profiles_then ls back)));
  fits = fits;
  spaced = ((is_blank-behind space l.before wide ∙ spaced.0.0, spaced.0.1), spaced.1);
  blank = blank;
  asks = asks;
}

pub lists_behind : (space t : List ℕ) (u : Bool) → is_blank space ≡ true → AreLists t u
    → AreLists (space ++ t) u
lists_behind space t u wide r =
    behind_space space t u r.lists r.back wide r.joined r.fits r.spaced r.blank r.asks
