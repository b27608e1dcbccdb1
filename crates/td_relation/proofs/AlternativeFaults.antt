-- The fault of an alternative's text is the one that its reading has.
use Rattle.std.proofs.Common.{◌≡◌, ◌⊎◌, ℕ, Bool, true, false, cond, eqb, ◌||◌, List, [], ◌∷◌, ◌++◌}
use Rattle.std.proofs.Common.{Option, Some, None, Result, Ok, Err, refl, sym, ap, subst, ◌∙◌}
use Rattle.std.proofs.Common.{inl, inr}
use Rattle.std.specs.Prelude.{codes}
use Rattle.std.specs.List.{slice_split}
use Rattle.td_text.specs.Cut.{Without, strip}
use Rattle.td_text.specs.Lines.{on_ok}
use Rattle.td_text.specs.Runs.{is_space, run, behind, trimmed, is_blank}
use Rattle.td_text.proofs.Cut.{Without-right}
use Rattle.td_text.proofs.Prefix.{strip_found}
use Rattle.td_text.proofs.RunTexts.{Stops, run_joined}
use Rattle.td_relation.specs.declared.relation.Operator.{Operator}
use Rattle.td_relation.specs.declared.relation_fault.RelationFault.{RelationFault}
use Rattle.td_relation.specs.declared.relation_fault.RelationFault.TheVariants.{BadName}
use Rattle.td_relation.specs.declared.relation_fault.RelationFault.TheVariants.{BadOperator}
use Rattle.td_relation.specs.declared.relation_fault.RelationFault.TheVariants.{BadVersion}
use Rattle.td_relation.specs.declared.relation_fault.RelationFault.TheVariants.{BadArchList}
use Rattle.td_relation.specs.declared.relation_fault.RelationFault.TheVariants.{BadProfile, Empty}
use Rattle.td_relation.specs.declared.relation_fault.RelationFault.TheVariants.{NoMemory}
use Rattle.td_relation.specs.Asked.{Asked, Bound}
use Rattle.td_relation.specs.RelationGrammar.{alternative_at, archs_at, ended, ends_a_restriction}
use Rattle.td_relation.specs.RelationGrammar.{is_operator_byte, name_at, operator_at, or_fault}
use Rattle.td_relation.specs.RelationGrammar.{over}
use Rattle.td_relation.specs.RelationGrammar.{profile_piece, profile_step, restriction_at}
use Rattle.td_relation.specs.RelationGrammar.{unprofiled_at, version_at}
use Rattle.td_relation.specs.RelationWriting.{operator_text, qualifier_part}
use Rattle.td_relation.specs.RelationFaults.{HasName, HasOperator, HasVersion, IsFollowed}
use Rattle.td_relation.specs.RelationFaults.{MayBeRestricted, HasArchs, MayHaveArchs, AreProfiles}
use Rattle.td_relation.specs.RelationFaults.{HasFault}
use Rattle.td_relation.proofs.FaultParts.{apart, archs_read, archs_tell, followed_reads}
use Rattle.td_relation.proofs.FaultParts.{followed_tells, list_end_stops, name_end_stops}
use Rattle.td_relation.proofs.FaultParts.{name_reads}
use Rattle.td_relation.proofs.FaultParts.{name_tells, opened, operator_reads, operator_tells}
use Rattle.td_relation.proofs.FaultParts.{restriction_closes, restriction_reads, version_tells}
use Rattle.td_relation.proofs.FoundParts.{space_blank}
use Rattle.td_relation.proofs.FoundProfiles.{lists_behind, unprofiled_found}
use Rattle.td_relation.proofs.SpacedParts.{lists_trimmed}
use Rattle.td_relation.proofs.SpacedProfiles.{unprofiled_again}

-- ---- results

pub err_is : {A : Type 0} (x y : RelationFault)
    → ◌≡◌ {A = Result A RelationFault} (Err x) (Err y) → x ≡ y
err_is x y e = cc

pub not_both : {A : Type 0} (x : A) (y : RelationFault)
    → ◌≡◌ {A = Result A RelationFault} (Ok x) (Err y) → ⊥
not_both {A} x y e = (let bad : ◌≡◌ {A = Result A RelationFault} (Ok x) (Err y) = e in cc)

-- ---- the profile lists fail with one fault

-- the only fault that there may be
abbrev Only : {A : Type 0} → RelationFault → Result A RelationFault → Type 0
Only d r = (e : RelationFault) → r ≡ Err e → e ≡ d

only_ok : {A : Type 0} (d : RelationFault) (x : A) → Only d (Ok x)
only_ok d x e h = absurd (not_both x e h)

only_err : {A : Type 0} (d : RelationFault) → Only {A = A} d (Err d)
only_err {A} d e h = sym (err_is {A = A} d e h)

only_chain : {A B : Type 0} (d : RelationFault) (r : Result A RelationFault)
    (f : A → Result B RelationFault) → Only d r → ((x : A) → Only d (f x)) → Only d (on_ok r f)
only_chain d (Ok x) f first next = next x
only_chain {A} {B} d (Err g) f first next =
    λ e h. first e (ap (λ (y : RelationFault). Err y) (err_is {A = B} g e h))

only_over : {S : Type 0} (d : RelationFault) (step : S → List ℕ → Result S RelationFault)
    → ((seen : S) (piece : List ℕ) → Only d (step seen piece)) → (pieces : List (List ℕ)) (seen : S)
    → Only d (over step seen pieces)
unfolding over
only_over d step each [] seen = only_ok d seen
only_over d step each (piece ∷ pieces) seen =
    only_chain d (step seen piece) _ (each seen piece) (λ more. only_over d step each pieces more)

only_piece : (o : Option Bool) → Only BadProfile (or_fault BadProfile o)
only_piece None = only_err BadProfile
only_piece (Some x) = only_ok BadProfile x

only_step : (seen : Bool × Bool) (piece : List ℕ) → Only BadProfile (profile_step seen piece)
only_step seen piece = by seen.1 (is_blank piece)
  where
    by : (u b : Bool) → Only {A = Bool × Bool} BadProfile (cond u (Err BadProfile)
        (cond b (Ok (seen.0, true)) (on_ok (or_fault BadProfile (profile_piece piece))
        (λ holds. Ok (seen.0 || holds, false)))))
    by true b = only_err BadProfile
    by false true = only_ok BadProfile (seen.0, true)
    by false false =
        only_chain BadProfile (or_fault BadProfile (profile_piece piece)) _
        (only_piece (profile_piece piece)) (λ holds. only_ok BadProfile (seen.0 || holds, false))

only_ended : (seen : Bool × Bool) → Only BadProfile (ended seen)
only_ended seen = by seen.1
  where
    by : (b : Bool) → Only BadProfile (cond b (Ok seen.0) (Err BadProfile))
    by true = only_ok BadProfile seen.0
    by false = only_err BadProfile

only_profiles : (text : List ℕ) → Only BadProfile (unprofiled_at text)
unfolding unprofiled_at
only_profiles text = by (is_blank text)
  where
    by : (b : Bool) → Only BadProfile (cond b (Ok true)
        (on_ok (over profile_step (false, false) (slice_split (λ b. eqb b 62) text)) ended))
    by true = only_ok BadProfile true
    by false =
        only_chain BadProfile
        (over profile_step (false, false) (slice_split (λ b. eqb b 62) text)) ended
        (only_over BadProfile profile_step only_step (slice_split (λ b. eqb b 62) text)
        (false, false)) only_ended

-- ---- the profile lists

profiles_read : (t : List ℕ) → AreProfiles t
    → (holds : Bool) × (unprofiled_at (trimmed t) ≡ Ok holds)
profiles_read t p = (
  _,
  ap unprofiled_at (ap trimmed p.joined ∙ lists_trimmed p.lists p.back p.spaced p.blank)
      ∙ unprofiled_again p.lists p.back p.fits p.spaced p.blank,
)

profiles_tell : (t : List ℕ) → Without 44 t → Without 124 t
    → AreProfiles t ⊎ (unprofiled_at (trimmed t) ≡ Err BadProfile)
profiles_tell t comma bar = by (unprofiled_at (trimmed t)) refl
  where
    inner : (c : ℕ) → Without c t → Without c (trimmed t)
    inner c w = Without-right c (run is_space t) (trimmed t)
        (subst (Without c) (run_joined is_space t) w)

    by : (r : Result Bool RelationFault) → unprofiled_at (trimmed t) ≡ r
        → AreProfiles t ⊎ (unprofiled_at (trimmed t) ≡ Err BadProfile)
    by (Ok u) is =
        let l = lists_behind (run is_space t) (trimmed t) u (space_blank t)
        (unprofiled_found (trimmed t) u (inner 44 comma) (inner 124 bar) is) in
        inl (record {
          lists = l.lists;
          back = l.back;
          joined = run_joined is_space t ∙ l.joined;
          fits = l.fits;
          spaced = l.spaced;
          blank = l.blank;
        })
    by (Err e) is =
        inr (is ∙ ap (λ (d : RelationFault). Err d) (only_profiles (trimmed t) e is))

-- ---- the bytes that what is left has not

module _ (c : ℕ) where
  name_lacks : (t rest : List ℕ) → HasName t rest → Without c t → Without c rest
  name_lacks t rest n w =
      let on = n.space ++ rest in
      let behind_name = qualifier_part n.qualifier ++ on in
      Without-right c n.space rest
      (Without-right c (qualifier_part n.qualifier) on
      (Without-right c n.name behind_name
      (Without-right c n.front (n.name ++ behind_name) (subst (Without c) n.joined w))))

  operator_lacks : (t rest : List ℕ) → HasOperator t rest → Without c t → Without c rest
  operator_lacks t rest o w =
      Without-right c (operator_text o.operator) rest
      (Without-right c o.space (operator_text o.operator ++ rest) (subst (Without c) o.joined w))

  version_lacks : (t rest : List ℕ) → HasVersion t rest → Without c t → Without c rest
  version_lacks t rest v w =
      let on = v.end ++ 41 ∷ rest in
      (Without-right c v.end (41 ∷ rest)
      (Without-right c v.version on
      (Without-right c v.space (v.version ++ on) (subst (Without c) v.joined w)))).1

  restriction_lacks : (t rest : List ℕ) → MayBeRestricted t rest → Without c t → Without c rest
  restriction_lacks t rest (inl none) w = subst (Without c) none.1 w
  restriction_lacks t rest (inr b) w =
      Without-right c b.followed.space rest (subst (Without c) b.followed.joined
      (version_lacks b.asked b.on b.version
      (operator_lacks b.inside b.asked b.operator (subst (Without c) b.opened w).1)))

  archs_lack : (t rest : List ℕ) → MayHaveArchs t rest → Without c t → Without c rest
  archs_lack t rest (inl none) w = subst (Without c) none.1 w
  archs_lack t rest (inr (inside, at, l)) w =
      (Without-right c l.inside (93 ∷ rest)
      (subst (Without c) l.joined (subst (Without c) at w).1)).1

-- what follows a name and a restriction begins with no whitespace
restricted_ends : (t named rest : List ℕ) → HasName t named → MayBeRestricted named rest
    → Stops is_space rest
restricted_ends t named rest n (inl none) =
    subst (Stops is_space) none.1 (name_end_stops is_space named refl refl refl n.ends)
restricted_ends t named rest n (inr b) = list_end_stops rest b.followed.ends

-- ---- how far an alternative is read

at_name : (t : List ℕ) → name_at t ≡ None → alternative_at t ≡ Err BadName
unfolding alternative_at
at_name t a = rw a refl

at_restriction : (t name rest : List ℕ) (e : RelationFault) → name_at t ≡ Some (name, rest)
    → restriction_at rest ≡ Err e → alternative_at t ≡ Err e
unfolding alternative_at
at_restriction t name rest e a b = rw (a, b) refl

at_archs : (t name rest more : List ℕ) (bound : Option Bound) → name_at t ≡ Some (name, rest)
    → restriction_at rest ≡ Ok (bound, more) → archs_at more ≡ None
    → alternative_at t ≡ Err BadArchList
unfolding alternative_at
at_archs t name rest more bound a b d = rw (a, b, d) refl

at_profiles : (t name rest more last : List ℕ) (bound : Option Bound)
    (list : Option (List (List ℕ))) (e : RelationFault) → name_at t ≡ Some (name, rest)
    → restriction_at rest ≡ Ok (bound, more) → archs_at more ≡ Some (list, last)
    → unprofiled_at last ≡ Err e → alternative_at t ≡ Err e
unfolding alternative_at
at_profiles t name rest more last bound list e a b d f = rw (a, b, d, f) refl

at_end : (t name rest more last : List ℕ) (bound : Option Bound)
    (list : Option (List (List ℕ))) (holds : Bool) → name_at t ≡ Some (name, rest)
    → restriction_at rest ≡ Ok (bound, more) → archs_at more ≡ Some (list, last)
    → unprofiled_at last ≡ Ok holds → (x : Asked) × (alternative_at t ≡ Ok x)
unfolding alternative_at
at_end t name rest more last bound list holds a b d f = (
  record { name = name; restriction = bound; archs = list; unprofiled = holds },
  rw (a, b, d, f) refl,
)

-- ---- what a restriction is read as where it fails

bad_operator : (inside : List ℕ)
    → operator_at (run is_operator_byte (trimmed inside)) ≡ None
    → restriction_at (40 ∷ inside) ≡ Err BadOperator
bad_operator inside none =
    opened inside ∙ ap (λ (o : Option Operator).
    version_at o (behind is_operator_byte (trimmed inside))) none

by_operator : (inside asked : List ℕ) (o : HasOperator inside asked)
    → restriction_at (40 ∷ inside) ≡ version_at (Some o.operator) asked
by_operator inside asked o =
    let r = operator_reads inside asked o in
    opened inside ∙ ap (λ (p : Option Operator).
    version_at p (behind is_operator_byte (trimmed inside))) r.0
    ∙ ap (version_at (Some o.operator)) r.1

bad_end : (inside asked on : List ℕ) → HasOperator inside asked → HasVersion asked on
    → ends_a_restriction (trimmed on) ≡ false → restriction_at (40 ∷ inside) ≡ Err BadArchList
bad_end inside asked on o v other =
    let bound : Bound = record { operator = o.operator; version = v.parts } in
    by_operator inside asked o ∙ restriction_closes o.operator asked on v
    ∙ ap (λ (y : Bool). cond y (Ok (Some bound, trimmed on)) (Err BadArchList)) other

no_operator : (t rest : List ℕ) → operator_at (run is_operator_byte (trimmed t)) ≡ None
    → ¬ HasOperator t rest
no_operator t rest none o =
    absurd (let bad : None ≡ Some o.operator = sym none ∙ (operator_reads t rest o).0 in cc)

closes_or_not : (b : Bool) (x : Option Bound × List ℕ)
    → cond b (Ok x) (Err BadArchList) ≡ Err BadVersion → ⊥
closes_or_not true x e = absurd cc
closes_or_not false x e = absurd cc

no_version : (t rest : List ℕ) (o : Operator) → version_at (Some o) t ≡ Err BadVersion
    → ¬ HasVersion t rest
no_version t rest o bad v =
    closes_or_not (ends_a_restriction (trimmed rest))
    (Some (record { operator = o; version = v.parts }), trimmed rest)
    (sym (restriction_closes o t rest v) ∙ bad)

not_followed : (t rest : List ℕ) → ends_a_restriction (trimmed t) ≡ false → ¬ IsFollowed t rest
not_followed t rest other f =
    absurd (let bad : false ≡ true =
    sym other ∙ ap ends_a_restriction (followed_reads t rest f) ∙ f.ends in cc)

-- ---- what stands at a fault

-- a restriction, if there is one, and what follows; or the fault
restriction_tells : (t named : List ℕ) → HasName t named
    → ((rest : List ℕ) × MayBeRestricted named rest)
    ⊎ ((e : RelationFault) × (restriction_at named ≡ Err e) × HasFault t e)
restriction_tells t named n = by (strip (codes "(") named) refl
  where
    inner : (inside : List ℕ) → named ≡ 40 ∷ inside
        → ((rest : List ℕ) × MayBeRestricted named rest)
        ⊎ ((e : RelationFault) × (restriction_at named ≡ Err e) × HasFault t e)
    inner inside at =
        let m : HasName t (40 ∷ inside) = subst (HasName t) at n in
        elim (operator_tells inside) [
          | inr none ↦
              inr (
                BadOperator,
                ap restriction_at at ∙ bad_operator inside none,
                (inside, m, λ rest. no_operator inside rest none),
              )
          | inl o ↦ elim (version_tells o.0) [
            | inr bad ↦
                inr (
                  BadVersion,
                  ap restriction_at at ∙ by_operator inside o.0 o.1 ∙ bad o.1.operator,
                  (
                    inside,
                    o.0,
                    m,
                    o.1,
                    λ rest.
                        no_version o.0 rest o.1.operator (bad o.1.operator),
                  ),
                )
            | inl v ↦ elim (followed_tells v.0) [
              | inl f ↦
                  inl (
                    trimmed v.0,
                    inr (record {
                      inside = inside;
                      asked = o.0;
                      on = v.0;
                      opened = at;
                      operator = o.1;
                      version = v.1;
                      followed = f;
                    }),
                  )
              | inr other ↦
                  inr (
                    BadArchList,
                    ap restriction_at at ∙ bad_end inside o.0 v.0 o.1 v.1 other,
                    inl (
                      inside,
                      o.0,
                      v.0,
                      m,
                      o.1,
                      v.1,
                      λ rest.
                          not_followed v.0 rest other,
                    ),
                  )
            ]
          ]
        ]

    by : (o : Option (List ℕ)) → strip (codes "(") named ≡ o
        → ((rest : List ℕ) × MayBeRestricted named rest)
        ⊎ ((e : RelationFault) × (restriction_at named ≡ Err e) × HasFault t e)
    by None is = inl (named, inl (apart 40 named is, refl))
    by (Some inside) is = inner inside (strip_found (codes "(") named inside is)

no_archs : (inside rest : List ℕ) → archs_at (91 ∷ inside) ≡ None → ¬ HasArchs inside rest
no_archs inside rest none l =
    let r = archs_read (91 ∷ inside) rest refl (inr (inside, refl, l)) in
    absurd (let bad : None ≡ Some (r.0, trimmed rest) = sym none ∙ r.1 in cc)

-- an architecture list, if there is one, and what follows; or the fault
archs_follow : (t named text : List ℕ) → HasName t named → MayBeRestricted named text
    → ((rest : List ℕ) × MayHaveArchs text rest) ⊎ ((archs_at text ≡ None) × HasFault t BadArchList)
archs_follow t named text n r = by (strip (codes "[") text) refl
  where
    inner : (inside : List ℕ) → text ≡ 91 ∷ inside → ((rest : List ℕ) × MayHaveArchs text rest)
        ⊎ ((archs_at text ≡ None) × HasFault t BadArchList)
    inner inside at =
        elim (archs_tell inside) [
          | inl l ↦ inl (l.0, inr (inside, at, l.1))
          | inr none ↦
              inr (
                ap archs_at at ∙ none,
                inr (
                  named,
                  inside,
                  n,
                  subst (MayBeRestricted named) at r,
                  λ rest.
                      no_archs inside rest none,
                ),
              )
        ]

    by : (o : Option (List ℕ)) → strip (codes "[") text ≡ o
        → ((rest : List ℕ) × MayHaveArchs text rest)
        ⊎ ((archs_at text ≡ None) × HasFault t BadArchList)
    by None is = inl (text, inl (apart 91 text is, refl))
    by (Some inside) is = inner inside (strip_found (codes "[") text inside is)

no_profiles : (t : List ℕ) → unprofiled_at (trimmed t) ≡ Err BadProfile → ¬ AreProfiles t
no_profiles t bad p = let r = profiles_read t p in not_both r.0 BadProfile (sym r.1 ∙ bad)

no_name : (t rest : List ℕ) → name_at t ≡ None → ¬ HasName t rest
no_name t rest none n =
    absurd (let bad : None ≡ Some (n.name, rest) = sym none ∙ name_reads t rest n in cc)

-- ---- both directions

module _ (t : List ℕ) (comma : Without 44 t) (bar : Without 124 t) where
  lacks : (c : ℕ) (named restricted rest : List ℕ) → HasName t named
      → MayBeRestricted named restricted → MayHaveArchs restricted rest → Without c t
      → Without c rest
  lacks c named restricted rest n r l w =
      archs_lack c restricted rest l (restriction_lacks c named restricted r
      (name_lacks c t named n w))

  pub alternative_faulty : (e : RelationFault) → alternative_at t ≡ Err e → HasFault t e
  alternative_faulty e h =
      elim (name_tells t) [
        | inr none ↦
            subst (HasFault t) (err_is {A = Asked} BadName e (sym (at_name t none) ∙ h))
            (λ rest. no_name t rest none)
        | inl n ↦ elim (restriction_tells t n.0 n.1) [
          | inr bad ↦
              subst (HasFault t) (err_is {A = Asked} bad.0 e
              (sym (at_restriction t n.1.name n.0 bad.0 (name_reads t n.0 n.1) bad.1) ∙ h)) bad.2
          | inl r ↦ elim (archs_follow t n.0 r.0 n.1 r.1) [
            | inr bad ↦
                let b = restriction_reads n.0 r.0 r.1 in
                subst (HasFault t) (err_is {A = Asked} BadArchList e
                (sym (at_archs t n.1.name n.0 r.0 b.0 (name_reads t n.0 n.1) b.1 bad.0) ∙ h))
                bad.1
            | inl l ↦
                let b = restriction_reads n.0 r.0 r.1 in
                let a = archs_read r.0 l.0 (restricted_ends t n.0 r.0 n.1 r.1) l.1 in
                elim (profiles_tell l.0 (lacks 44 n.0 r.0 l.0 n.1 r.1 l.1 comma)
                (lacks 124 n.0 r.0 l.0 n.1 r.1 l.1 bar)) [
                  | inr bad ↦
                      subst (HasFault t) (err_is {A = Asked} BadProfile e
                      (sym (at_profiles t n.1.name n.0 r.0 (trimmed l.0) b.0 a.0 BadProfile
                      (name_reads t n.0 n.1) b.1 a.1 bad) ∙ h))
                      (n.0, r.0, l.0, n.1, r.1, l.1, no_profiles l.0 bad)
                  | inl p ↦
                      let u = profiles_read l.0 p in
                      let x = at_end t n.1.name n.0 r.0 (trimmed l.0) b.0 a.0 u.0
                      (name_reads t n.0 n.1) b.1 a.1 u.1 in
                      absurd (not_both x.0 e (sym x.1 ∙ h))
                ]
          ]
        ]
      ]

  pub fault_again : (e : RelationFault) → HasFault t e → alternative_at t ≡ Err e
  fault_again BadName h =
      elim (name_tells t) [
        | inr none ↦ at_name t none
        | inl n ↦ absurd (h n.0 n.1)
      ]
  fault_again BadOperator (inside, n, absent) =
      elim (operator_tells inside) [
        | inr none ↦
            at_restriction t n.name (40 ∷ inside) BadOperator (name_reads t (40 ∷ inside) n)
            (bad_operator inside none)
        | inl o ↦ absurd (absent o.0 o.1)
      ]
  fault_again BadVersion (inside, asked, n, o, absent) =
      elim (version_tells asked) [
        | inr bad ↦
            at_restriction t n.name (40 ∷ inside) BadVersion (name_reads t (40 ∷ inside) n)
            (by_operator inside asked o ∙ bad o.operator)
        | inl v ↦ absurd (absent v.0 v.1)
      ]
  fault_again BadArchList (inl (inside, asked, on, n, o, v, absent)) =
      elim (followed_tells on) [
        | inr other ↦
            at_restriction t n.name (40 ∷ inside) BadArchList (name_reads t (40 ∷ inside) n)
            (bad_end inside asked on o v other)
        | inl f ↦ absurd (absent (trimmed on) f)
      ]
  fault_again BadArchList (inr (named, inside, n, r, absent)) =
      elim (archs_tell inside) [
        | inr none ↦
            let b = restriction_reads named (91 ∷ inside) r in
            at_archs t n.name named (91 ∷ inside) b.0 (name_reads t named n) b.1 none
        | inl l ↦ absurd (absent l.0 l.1)
      ]
  fault_again BadProfile (named, restricted, rest, n, r, l, absent) =
      elim (profiles_tell rest (lacks 44 named restricted rest n r l comma)
      (lacks 124 named restricted rest n r l bar)) [
        | inr bad ↦
            let b = restriction_reads named restricted r in
            let a = archs_read restricted rest (restricted_ends t named restricted n r) l in
            at_profiles t n.name named restricted (trimmed rest) b.0 a.0 BadProfile
            (name_reads t named n) b.1 a.1 bad
        | inl p ↦ absurd (absent p)
      ]
  fault_again Empty h = absurd h
  fault_again NoMemory h = absurd h
