-- A text is refused as empty if and only if it has only commas and whitespace.
use Rattle.std.proofs.Common.{◌≡◌, ◌⊎◌, ℕ, ◌+◌, ◌<◌, ◌==◌, ◌||◌, ◌&&◌, Bool, true, false, cond, eqb, List}
use Rattle.std.proofs.Common.{[], ◌∷◌, ◌++◌, length, Option, Some, None, Result, Ok, Err, refl, sym, ap}
use Rattle.std.proofs.Common.{subst, ◌∙◌, inl, inr, arith, length-append}
use Rattle.std.specs.List.{list_all, slice_split, onto_first}
use Rattle.td_text.specs.Lines.{on_ok}
use Rattle.td_text.specs.Runs.{is_blank, is_space, run, behind, trimmed}
use Rattle.td_text.specs.Cut.{strip}
use Rattle.td_text.proofs.Chain.{on_ok_parts}
use Rattle.std.specs.Prelude.{codes}
use Rattle.td_version.specs.Version.{Parts}
use Rattle.td_version.specs.Reading.{reading}
use Rattle.td_version.specs.declared.version.VersionFault.{VersionFault}
use Rattle.td_relation.specs.declared.relation.Operator.{Operator}
use Rattle.td_relation.specs.declared.relation_fault.RelationFault.{RelationFault}
use Rattle.td_relation.specs.declared.relation_fault.RelationFault.TheVariants.{BadName}
use Rattle.td_relation.specs.declared.relation_fault.RelationFault.TheVariants.{BadOperator}
use Rattle.td_relation.specs.declared.relation_fault.RelationFault.TheVariants.{BadVersion}
use Rattle.td_relation.specs.declared.relation_fault.RelationFault.TheVariants.{BadArchList}
use Rattle.td_relation.specs.declared.relation_fault.RelationFault.TheVariants.{BadProfile, Empty}
use Rattle.td_relation.specs.Asked.{Asked, Bound}
use Rattle.td_relation.specs.EmptyRelations.{EmptyRelationsAreExact, parts_members}
use Rattle.td_relation.specs.RelationGrammar.{alternative_at, alternative_step, archs_at, closed}
use Rattle.td_relation.specs.RelationGrammar.{ended, ends_a_restriction, is_version_byte, member_at}
use Rattle.td_relation.specs.RelationGrammar.{is_operator_byte, member_step, name_at, operator_at}
use Rattle.td_relation.specs.RelationGrammar.{or_fault, over, profile_piece, profile_step}
use Rattle.td_relation.specs.RelationGrammar.{relation_at, restricted, restriction_at, some_members}
use Rattle.td_relation.specs.RelationGrammar.{unprofiled_at, version_at}

-- ---- no alternative is empty

-- the fault is another one, if there is one
abbrev Filled : {A : Type 0} → Result A RelationFault → Type 0
Filled r = r ≡ Err Empty → ⊥

filled_ok : {A : Type 0} (x : A) → Filled (Ok x)
filled_ok {A} x h = (let bad : ◌≡◌ {A = Result A RelationFault} (Ok x) (Err Empty) = h in cc)

filled_chain : {A B : Type 0} (r : Result A RelationFault) (f : A → Result B RelationFault)
    → Filled r → ((x : A) → Filled (f x)) → Filled (on_ok r f)
filled_chain (Ok x) f first next h = next x h
filled_chain {A} {B} (Err d) f first next h =
    let same : d ≡ Empty =
    (let k : ◌≡◌ {A = Result B RelationFault} (Err d) (Err Empty) = h in cc) in
    first (ap (λ (e : RelationFault). Err e) same)

filled_over : {S : Type 0} (step : S → List ℕ → Result S RelationFault)
    → ((seen : S) (piece : List ℕ) → Filled (step seen piece)) → (pieces : List (List ℕ)) (seen : S)
    → Filled (over step seen pieces)
unfolding over
filled_over step each [] seen = filled_ok seen
filled_over step each (piece ∷ pieces) seen =
    filled_chain (step seen piece) _ (each seen piece) (λ more. filled_over step each pieces more)

bad_name : {A : Type 0} (o : Option A) → Filled (or_fault BadName o)
bad_name None = λ h. cc
bad_name (Some x) = filled_ok x

bad_archs : {A : Type 0} (o : Option A) → Filled (or_fault BadArchList o)
bad_archs None = λ h. cc
bad_archs (Some x) = filled_ok x

bad_profile : {A : Type 0} (o : Option A) → Filled (or_fault BadProfile o)
bad_profile None = λ h. cc
bad_profile (Some x) = filled_ok x

filled_closed : (operator : Operator) (r : Result Parts VersionFault) (o : Option (List ℕ))
    → Filled (closed operator r o)
filled_closed operator (Err fault) o = λ h. cc
filled_closed operator (Ok version) None = λ h. cc
filled_closed operator (Ok version) (Some rest) = by (ends_a_restriction (trimmed rest))
  where
    by : (b : Bool) → Filled {A = Option Bound × List ℕ} (cond b
        (Ok (Some (record { operator = operator; version = version }), trimmed rest))
        (Err BadArchList))
    by true = filled_ok _
    by false = λ h. cc

filled_version : (o : Option Operator) (text : List ℕ) → Filled (version_at o text)
filled_version None text = λ h. cc
filled_version (Some operator) text =
    filled_closed operator (reading (run is_version_byte (trimmed text)))
    (strip (codes ")") (trimmed (behind is_version_byte (trimmed text))))

filled_restricted : (text : List ℕ) (o : Option (List ℕ)) → Filled (restricted text o)
filled_restricted text None = filled_ok _
filled_restricted text (Some inside) =
    filled_version (operator_at (run is_operator_byte (trimmed inside)))
    (behind is_operator_byte (trimmed inside))

filled_step : (seen : Bool × Bool) (piece : List ℕ) → Filled (profile_step seen piece)
filled_step seen piece = by seen.1 (is_blank piece)
  where
    by : (u b : Bool) → Filled {A = Bool × Bool} (cond u (Err BadProfile) (cond b (Ok (seen.0, true))
        (on_ok (or_fault BadProfile (profile_piece piece))
        (λ holds. Ok (seen.0 || holds, false)))))
    by true b = λ h. cc
    by false true = filled_ok _
    by false false =
        filled_chain (or_fault BadProfile (profile_piece piece)) _
        (bad_profile (profile_piece piece)) (λ holds. filled_ok _)

filled_ended : (seen : Bool × Bool) → Filled (ended seen)
filled_ended seen = by seen.1
  where
    by : (b : Bool) → Filled (cond b (Ok seen.0) (Err BadProfile))
    by true = filled_ok seen.0
    by false = λ h. cc

filled_profiles : (text : List ℕ) → Filled (unprofiled_at text)
unfolding unprofiled_at
filled_profiles text = by (is_blank text)
  where
    by : (b : Bool) → Filled (cond b (Ok true)
        (on_ok (over profile_step (false, false) (slice_split (λ b. b == 62) text)) ended))
    by true = filled_ok true
    by false =
        filled_chain (over profile_step (false, false) (slice_split (λ b. b == 62) text)) ended
        (filled_over profile_step filled_step (slice_split (λ b. b == 62) text) (false, false))
        filled_ended

filled_alternative : (text : List ℕ) → Filled (alternative_at text)
unfolding alternative_at restriction_at
filled_alternative text =
    filled_chain (or_fault BadName (name_at text)) _ (bad_name (name_at text)) (λ name.
    filled_chain (restriction_at name.1) _ (filled_restricted name.1 (strip (codes "(") name.1))
    (λ restriction.
    filled_chain (or_fault BadArchList (archs_at restriction.1)) _
    (bad_archs (archs_at restriction.1)) (λ archs.
    filled_chain (unprofiled_at archs.1) _ (filled_profiles archs.1) (λ unprofiled. filled_ok _))))

filled_member : (text : List ℕ) → Filled (member_at text)
filled_member text =
    filled_over alternative_step (λ seen piece.
    filled_chain (alternative_at piece) _ (filled_alternative piece) (λ a. filled_ok _))
    (slice_split (λ b. b == 124) text) []

filled_members : (seen : List (List Asked)) (piece : List ℕ) → Filled (member_step seen piece)
filled_members seen piece = by (is_blank piece)
  where
    by : (b : Bool) → Filled (cond b (Ok seen)
        (on_ok (member_at piece) (λ m. Ok (seen ++ m ∷ []))))
    by true = filled_ok seen
    by false = filled_chain (member_at piece) _ (filled_member piece) (λ m. filled_ok _)

-- ---- what blank pieces give

blank_gives : (pieces : List (List ℕ)) (seen : List (List Asked))
    → list_all is_blank pieces ≡ true → over member_step seen pieces ≡ Ok seen
unfolding over
blank_gives [] seen h = refl
blank_gives (piece ∷ pieces) seen h = by (is_blank piece) h (blank_gives pieces seen)
  where
    by : (b : Bool) → (b && list_all is_blank pieces) ≡ true
        → (list_all is_blank pieces ≡ true → over member_step seen pieces ≡ Ok seen)
        → on_ok (cond b (Ok seen) (on_ok (member_at piece) (λ m. Ok (seen ++ m ∷ []))))
        (λ more. over member_step more pieces) ≡ Ok seen
    by true g later = later g
    by false g later = absurd cc

members_same : (x y : List (List Asked))
    → ◌≡◌ {A = Result (List (List Asked)) RelationFault} (Ok x) (Ok y) → x ≡ y
members_same x y h = cc

-- the pieces are blank, or there are more members than before
gives_more : (pieces : List (List ℕ)) (seen more : List (List Asked))
    → over member_step seen pieces ≡ Ok more
    → ((list_all is_blank pieces ≡ true) × (seen ≡ more)) ⊎ (length seen < length more)
unfolding over
gives_more [] seen more h = inl (refl, members_same seen more h)
gives_more (piece ∷ pieces) seen more h =
    by (is_blank piece) h (λ (next : List (List Asked)). gives_more pieces next more)
  where
    by : (b : Bool) → on_ok (cond b (Ok seen) (on_ok (member_at piece) (λ m. Ok (seen ++ m ∷ []))))
        (λ next. over member_step next pieces) ≡ Ok more
        → ((next : List (List Asked)) → over member_step next pieces ≡ Ok more
        → ((list_all is_blank pieces ≡ true) × (next ≡ more)) ⊎ (length next < length more))
        → (((b && list_all is_blank pieces) ≡ true) × (seen ≡ more)) ⊎ (length seen < length more)
    by true g later = later seen g
    by false g later =
        let p = on_ok_parts (on_ok (member_at piece) (λ m. Ok (seen ++ m ∷ [])))
        (λ next. over member_step next pieces) more g in
        let q = on_ok_parts (member_at piece) (λ m. Ok (seen ++ m ∷ [])) p.0 p.1 in
        let grown : length p.0 ≡ length seen + 1 =
        ap length (sym (members_same (seen ++ q.0 ∷ []) p.0 q.2))
        ∙ length-append seen (q.0 ∷ []) in
        elim (later p.0 p.2) [
          | inl same ↦ inr (omega (arith, grown, ap length same.1))
          | inr less ↦ inr (omega (arith, grown, less))
        ]

-- ---- the bytes

blank_first : (x : ℕ) (ps : List (List ℕ))
    → list_all is_blank (onto_first x ps) ≡ (is_space x && list_all is_blank ps)
blank_first x [] = by (is_space x)
  where
    by : (b : Bool) → ((b && true) && true) ≡ (b && true)
    by true = refl
    by false = refl
blank_first x (p ∷ ps) = by (is_space x)
  where
    by : (b : Bool) → ((b && is_blank p) && list_all is_blank ps)
        ≡ (b && (is_blank p && list_all is_blank ps))
    by true = refl
    by false = refl

pieces_blank : (t : List ℕ)
    → list_all is_blank (slice_split (λ b. b == 44) t) ≡ list_all parts_members t
pieces_blank [] = refl
pieces_blank (x ∷ t) = by (x == 44) (pieces_blank t)
  where
    by : (b : Bool) → list_all is_blank (slice_split (λ b. b == 44) t) ≡ list_all parts_members t
        → list_all is_blank (cond b ([] ∷ slice_split (λ b. b == 44) t)
        (onto_first x (slice_split (λ b. b == 44) t)))
        ≡ ((b || is_space x) && list_all parts_members t)
    by true later = later
    by false later = blank_first x (slice_split (λ b. b == 44) t)
        ∙ ap (λ (r : Bool). is_space x && r) later

-- ---- both directions

none_left : (members : List (List Asked)) → some_members members ≡ Err Empty → members ≡ []
none_left [] h = refl
none_left (m ∷ ms) h =
    absurd (filled_ok {A = List (List Asked)} (m ∷ ms) h)

pub empty_relations_are_exact : EmptyRelationsAreExact
unfolding relation_at
empty_relations_are_exact text = (
  λ e. sym (pieces_blank text) ∙ found (over member_step [] (slice_split (λ b. b == 44) text)) refl e,
  λ all. ap (λ r. on_ok r some_members)
      (blank_gives (slice_split (λ b. b == 44) text) [] (pieces_blank text ∙ all)),
)
  where
    found : (r : Result (List (List Asked)) RelationFault)
        → over member_step [] (slice_split (λ b. b == 44) text) ≡ r
        → on_ok r some_members ≡ Err Empty
        → list_all is_blank (slice_split (λ b. b == 44) text) ≡ true
    found (Err d) is e =
        absurd (filled_over member_step filled_members (slice_split (λ b. b == 44) text) []
        (is ∙ e))
    found (Ok members) is e =
        let none = none_left members e in
        elim (gives_more (slice_split (λ b. b == 44) text) [] members is) [
          | inl blank ↦ blank.0
          | inr less ↦ absurd (omega (arith, less, ap length none))
        ]
