-- The first fault of a text is the one that its reading has.
use Rattle.std.proofs.Common.{◌≡◌, ◌⊎◌, ℕ, Bool, true, false, cond, eqb, List, [], ◌∷◌, ◌++◌}
use Rattle.std.proofs.Common.{Result, Ok, Err, refl, sym, ap, subst, ◌∙◌, inl, inr}
use Rattle.std.specs.List.{AllByRecursion}
use Rattle.td_text.specs.Cut.{Without}
use Rattle.td_text.specs.Lines.{on_ok, pieces_of}
use Rattle.td_text.specs.Runs.{is_blank}
use Rattle.td_text.proofs.Chain.{ok_is, on_ok_parts}
use Rattle.td_relation.specs.declared.relation_fault.RelationFault.{RelationFault}
use Rattle.td_relation.specs.declared.relation_fault.RelationFault.TheVariants.{Empty}
use Rattle.td_relation.specs.Asked.{Asked}
use Rattle.td_relation.specs.RelationGrammar.{alternative_at, alternative_step, member_at}
use Rattle.td_relation.specs.RelationGrammar.{member_step, over, relation_at, some_members}
use Rattle.td_relation.specs.RelationWriting.{alternative_asked}
use Rattle.td_relation.specs.RelationFaults.{FirstFaultsAreExact, FirstFaultsAreOne, HasFault}
use Rattle.td_relation.specs.RelationFaults.{IsAlternativeText, IsFirst, IsFirstFault, IsMemberText}
use Rattle.td_relation.specs.RelationFaults.{MemberHasFault, RelationOrFault, RelationsHaveNoFault}
use Rattle.td_relation.specs.Spacing.{IsRelation, unspaced}
use Rattle.td_relation.proofs.AlternativeFaults.{alternative_faulty, err_is, fault_again, not_both}
use Rattle.td_relation.proofs.EmptyRelations.{empty_relations_are_exact}
use Rattle.td_relation.proofs.FoundProfiles.{own_lack, pieces_lack}
use Rattle.td_relation.proofs.FoundRelations.{IsInner, alternative_found, inner_all, one_found}
use Rattle.td_relation.proofs.FoundRelations.{relations_are_exact}
use Rattle.td_relation.proofs.MemberTexts.{member_step-filled}
use Rattle.td_relation.proofs.SpacedRelations.{asked_of, piece_again, step_again}

-- ---- a reading over pieces that fails

-- the first piece at which it does
record FailsAt {S : Type 0} (step : S → List ℕ → Result S RelationFault) (seen : S)
    (pieces : List (List ℕ)) (e : RelationFault) : Type 0 where
  before : List (List ℕ)
  piece : List ℕ
  after : List (List ℕ)
  state : S
  parts : pieces ≡ before ++ piece ∷ after
  passed : over step seen before ≡ Ok state
  fails : step state piece ≡ Err e

fails_at : {S : Type 0} (step : S → List ℕ → Result S RelationFault) (pieces : List (List ℕ))
    (seen : S) (e : RelationFault) → over step seen pieces ≡ Err e → FailsAt step seen pieces e
unfolding over
fails_at step [] seen e h = absurd (not_both seen e h)
fails_at {S} step (p ∷ ps) seen e h =
    by (step seen p) refl h
    (λ (more : S) (k : over step more ps ≡ Err e). fails_at step ps more e k)
  where
    by : (r : Result S RelationFault) → step seen p ≡ r
        → on_ok r (λ more. over step more ps) ≡ Err e
        → ((more : S) → over step more ps ≡ Err e → FailsAt step more ps e)
        → FailsAt step seen (p ∷ ps) e
    by (Err d) is k later =
        record {
          before = [];
          piece = p;
          after = ps;
          state = seen;
          parts = refl;
          passed = refl;
          fails = is ∙ k;
        }
    by (Ok more) is k later =
        let f = later more k in
        record {
          before = p ∷ f.before;
          piece = f.piece;
          after = f.after;
          state = f.state;
          parts = ap (λ (l : List (List ℕ)). p ∷ l) f.parts;
          passed = ap (λ r. on_ok r (λ next. over step next f.before)) is ∙ f.passed;
          fails = f.fails;
        }

fails_again : {S : Type 0} (step : S → List ℕ → Result S RelationFault) (before : List (List ℕ))
    (piece : List ℕ) (after : List (List ℕ)) (seen state : S) (e : RelationFault)
    → over step seen before ≡ Ok state → step state piece ≡ Err e
    → over step seen (before ++ piece ∷ after) ≡ Err e
unfolding over
fails_again step [] piece after seen state e passed fails =
    let same : seen ≡ state = ok_is RelationFault seen state passed in
    ap (λ r. on_ok r (λ more. over step more after)) (ap (λ s. step s piece) same ∙ fails)
fails_again {S} step (p ∷ ps) piece after seen state e passed fails =
    by (step seen p) passed
    (λ (more : S) (k : over step more ps ≡ Ok state).
    fails_again step ps piece after more state e k fails)
  where
    by : (r : Result S RelationFault) → on_ok r (λ more. over step more ps) ≡ Ok state
        → ((more : S) → over step more ps ≡ Ok state
        → over step more (ps ++ piece ∷ after) ≡ Err e)
        → on_ok r (λ more. over step more (ps ++ piece ∷ after)) ≡ Err e
    by (Ok more) k later = later more k
    by (Err d) k later = absurd (not_both state d (sym k))

-- what is read and then made into something fails as the reading does
first_fails : {A B : Type 0} (r : Result A RelationFault) (f : A → B) (e : RelationFault)
    → on_ok r (λ x. Ok (f x)) ≡ Err e → r ≡ Err e
first_fails (Ok x) f e h = absurd (not_both (f x) e h)
first_fails {A} {B} (Err d) f e h =
    ap (λ (y : RelationFault). Err y) (err_is {A = B} d e h)

front_all : (P : List ℕ → Type 0) (before after : List (List ℕ))
    → AllByRecursion P (before ++ after) → AllByRecursion P before
front_all P [] after h = tt
front_all P (p ∷ ps) after h = (h.0, front_all P ps after h.1)

back_all : (P : List ℕ → Type 0) (before after : List (List ℕ))
    → AllByRecursion P (before ++ after) → AllByRecursion P after
back_all P [] after h = h
back_all P (p ∷ ps) after h = back_all P ps after h.1

-- ---- a member

alternatives_sound : (ps : List (List ℕ)) (seen state : List Asked) → AllByRecursion IsInner ps
    → over alternative_step seen ps ≡ Ok state → AllByRecursion IsAlternativeText ps
unfolding over
alternatives_sound [] seen state inner h = tt
alternatives_sound (p ∷ ps) seen state inner h =
    let a = on_ok_parts (alternative_step seen p) (λ more. over alternative_step more ps) state h in
    let b = on_ok_parts (alternative_at p) (λ x. Ok (seen ++ x ∷ [])) a.0 a.1 in
    let r = alternative_found p b.0 inner.0 b.1 in
    ((r.written, r.spaced, r.spelled), alternatives_sound ps a.0 state inner.1 a.2)

alternatives_pass : (ps : List (List ℕ)) (seen : List Asked)
    → AllByRecursion IsAlternativeText ps
    → (state : List Asked) × (over alternative_step seen ps ≡ Ok state)
unfolding over
alternatives_pass [] seen h = (seen, refl)
alternatives_pass (p ∷ ps) seen ((a, spaced, spelled), hs) =
    let more = seen ++ alternative_asked (unspaced a) ∷ [] in
    let one : alternative_step seen p ≡ Ok more =
    ap (alternative_step seen) spelled ∙ piece_again seen a spaced in
    let later = alternatives_pass ps more hs in
    (later.0, ap (λ r. on_ok r (λ next. over alternative_step next ps)) one ∙ later.1)

pieces_inner : (t : List ℕ) → Without 44 t → AllByRecursion IsInner (pieces_of 124 t)
pieces_inner t comma =
    inner_all (pieces_of 124 t) (pieces_lack (λ b. eqb b 124) 44 t comma) (own_lack 124 t)

member_faulty : (t : List ℕ) → Without 44 t → (e : RelationFault) → member_at t ≡ Err e
    → IsFirst IsAlternativeText (λ text. HasFault text e) (pieces_of 124 t)
member_faulty t comma e h =
    let f = fails_at alternative_step (pieces_of 124 t) [] e h in
    let inner = subst (AllByRecursion IsInner) f.parts (pieces_inner t comma) in
    let own = (back_all IsInner f.before (f.piece ∷ f.after) inner).0 in
    record {
      before = f.before;
      piece = f.piece;
      after = f.after;
      parts = f.parts;
      sound = alternatives_sound f.before [] f.state
          (front_all IsInner f.before (f.piece ∷ f.after) inner) f.passed;
      faulty = alternative_faulty f.piece own.comma own.bar e
          (first_fails (alternative_at f.piece) (λ x. f.state ++ x ∷ []) e f.fails);
    }

member_fails : (t : List ℕ) → Without 44 t → (e : RelationFault)
    → IsFirst IsAlternativeText (λ text. HasFault text e) (pieces_of 124 t) → member_at t ≡ Err e
member_fails t comma e i =
    let inner = subst (AllByRecursion IsInner) i.parts (pieces_inner t comma) in
    let own = (back_all IsInner i.before (i.piece ∷ i.after) inner).0 in
    let p = alternatives_pass i.before [] i.sound in
    ap (over alternative_step []) i.parts
    ∙ fails_again alternative_step i.before i.piece i.after [] p.0 e p.1
    (ap (λ r. on_ok r (λ x. Ok (p.0 ++ x ∷ [])))
    (fault_again i.piece own.comma own.bar e i.faulty))

-- ---- a text

members_sound : (ps : List (List ℕ)) (seen state : List (List Asked))
    → AllByRecursion (λ p. Without 44 p) ps → over member_step seen ps ≡ Ok state
    → AllByRecursion IsMemberText ps
unfolding over
members_sound [] seen state lacks h = tt
members_sound (p ∷ ps) seen state lacks h =
    let a = on_ok_parts (member_step seen p) (λ more. over member_step more ps) state h in
    let m = one_found p seen a.0 lacks.0 a.1 in
    ((m.member, m.spaced, m.spelled), members_sound ps a.0 state lacks.1 a.2)

members_pass : (ps : List (List ℕ)) (seen : List (List Asked)) → AllByRecursion IsMemberText ps
    → (state : List (List Asked)) × (over member_step seen ps ≡ Ok state)
unfolding over
members_pass [] seen h = (seen, refl)
members_pass (p ∷ ps) seen ((m, spaced, spelled), hs) =
    let more = seen ++ asked_of (m ∷ []) in
    let one : member_step seen p ≡ Ok more =
    ap (member_step seen) spelled ∙ step_again seen m spaced in
    let later = members_pass ps more hs in
    (later.0, ap (λ r. on_ok r (λ next. over member_step next ps)) one ∙ later.1)

step_faulty : (seen : List (List Asked)) (p : List ℕ) → Without 44 p → (e : RelationFault)
    → member_step seen p ≡ Err e → MemberHasFault e p
step_faulty seen p comma e h = by (is_blank p) refl h
  where
    by : (b : Bool) → is_blank p ≡ b
        → cond b (Ok seen) (on_ok (member_at p) (λ m. Ok (seen ++ m ∷ []))) ≡ Err e
        → MemberHasFault e p
    by true is k = absurd (not_both seen e k)
    by false is k =
        (is, member_faulty p comma e (first_fails (member_at p) (λ m. seen ++ m ∷ []) e k))

faulty_text : (text : List ℕ) (e : RelationFault)
    → over member_step [] (pieces_of 44 text) ≡ Err e
    → IsFirst IsMemberText (MemberHasFault e) (pieces_of 44 text)
faulty_text text e h =
    let f = fails_at member_step (pieces_of 44 text) [] e h in
    let lacks = subst (AllByRecursion (λ p. Without 44 p)) f.parts (own_lack 44 text) in
    let own = (back_all (λ p. Without 44 p) f.before (f.piece ∷ f.after) lacks).0 in
    record {
      before = f.before;
      piece = f.piece;
      after = f.after;
      parts = f.parts;
      sound = members_sound f.before [] f.state
          (front_all (λ p. Without 44 p) f.before (f.piece ∷ f.after) lacks) f.passed;
      faulty = step_faulty f.state f.piece own e f.fails;
    }

text_fails : (text : List ℕ) (e : RelationFault)
    → IsFirst IsMemberText (MemberHasFault e) (pieces_of 44 text)
    → over member_step [] (pieces_of 44 text) ≡ Err e
text_fails text e i =
    let lacks = subst (AllByRecursion (λ p. Without 44 p)) i.parts (own_lack 44 text) in
    let own = (back_all (λ p. Without 44 p) i.before (i.piece ∷ i.after) lacks).0 in
    let p = members_pass i.before [] i.sound in
    ap (over member_step []) i.parts
    ∙ fails_again member_step i.before i.piece i.after [] p.0 e p.1
    (member_step-filled p.0 i.piece i.faulty.0
    ∙ ap (λ r. on_ok r (λ m. Ok (p.0 ++ m ∷ []))) (member_fails i.piece own e i.faulty.1))

none_there : (ms : List (List Asked)) (e : RelationFault) → some_members ms ≡ Err e → e ≡ Empty
none_there [] e h = sym (err_is {A = List (List Asked)} Empty e h)
none_there (m ∷ ms) e h = absurd (not_both {A = List (List Asked)} (m ∷ ms) e h)

refused : (text : List ℕ) (e : RelationFault) → relation_at text ≡ Err e → IsFirstFault text e
unfolding relation_at
refused text e h = by (over member_step [] (pieces_of 44 text)) refl h
  where
    by : (r : Result (List (List Asked)) RelationFault)
        → over member_step [] (pieces_of 44 text) ≡ r → on_ok r some_members ≡ Err e
        → IsFirstFault text e
    by (Err d) is k =
        let same : d ≡ e = err_is {A = List (List Asked)} d e k in
        inl (faulty_text text e (is ∙ ap (λ (x : RelationFault). Err x) same))
    by (Ok ms) is k =
        let same = none_there ms e k in
        inr (
          same,
          (empty_relations_are_exact text).0 (h ∙ ap (λ (x : RelationFault). Err x) same),
        )

refused_again : (text : List ℕ) (e : RelationFault) → IsFirstFault text e → relation_at text ≡ Err e
unfolding relation_at
refused_again text e (inl i) = ap (λ r. on_ok r some_members) (text_fails text e i)
refused_again text e (inr (same, all)) =
    (empty_relations_are_exact text).1 all ∙ ap (λ (x : RelationFault). Err x) (sym same)

-- ---- the laws

pub first_faults_are_exact : FirstFaultsAreExact
first_faults_are_exact text e = (refused text e, refused_again text e)

pub first_faults_are_one : FirstFaultsAreOne
first_faults_are_one text e f a b =
    err_is {A = List (List Asked)} e f (sym (refused_again text e a) ∙ refused_again text f b)

pub relation_or_fault : RelationOrFault
relation_or_fault text = by (relation_at text) refl
  where
    by : (r : Result (List (List Asked)) RelationFault) → relation_at text ≡ r
        → ((asked : List (List Asked)) × IsRelation text asked)
        ⊎ ((fault : RelationFault) × IsFirstFault text fault)
    by (Ok asked) is = inl (asked, (relations_are_exact text asked).0 is)
    by (Err e) is = inr (e, refused text e is)

pub relations_have_no_fault : RelationsHaveNoFault
relations_have_no_fault text asked e h i =
    not_both asked e (sym ((relations_are_exact text asked).1 h) ∙ refused_again text e i)
