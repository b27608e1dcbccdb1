-- A text that is read as a relation is one, written with some whitespace.
use Rattle.std.proofs.Common.{◌≡◌, ◌≢◌, ℕ, Bool, true, false, cond, eqb, List, [], ◌∷◌, ◌++◌, map}
use Rattle.std.proofs.Common.{Option, Some, None, option_map, Ok, refl, sym, ap, subst, ◌∙◌}
use Rattle.std.proofs.Common.{append_assoc, append-nil, inl, inr}
use Rattle.std.specs.List.{slice_split, onto_first, join_with_byte, AllByRecursion}
use Rattle.std.proofs.lemmas.List.Splits.{join_with_byte-slice_split}
use Rattle.td_text.specs.Cut.{Without}
use Rattle.td_text.specs.Lines.{on_ok}
use Rattle.td_text.proofs.Chain.{ok_is, on_ok_parts}
use Rattle.td_text.proofs.Cut.{Without-right}
use Rattle.td_relation.specs.declared.relation_fault.RelationFault.{RelationFault}
use Rattle.td_relation.specs.declared.relation_fault.RelationFault.TheVariants.{BadName}
use Rattle.td_relation.specs.declared.relation_fault.RelationFault.TheVariants.{BadArchList}
use Rattle.td_text.specs.Runs.{is_space, run, is_blank}
use Rattle.td_relation.specs.Asked.{Asked, Bound}
use Rattle.td_relation.specs.RelationGrammar.{alternative_at, alternative_step, archs_at, member_at}
use Rattle.td_relation.specs.RelationGrammar.{member_step, name_at, or_fault, over, relation_at}
use Rattle.td_relation.specs.RelationGrammar.{restriction_at, some_members, unprofiled_at}
use Rattle.td_relation.specs.RelationWriting.{alternative_asked, bound_asked, marked, operator_text}
use Rattle.td_relation.specs.RelationWriting.{qualifier_part, ArchsFit, BoundFits}
use Rattle.td_relation.specs.Spacing.{SpacedBound, SpacedArchs, SpacedAlternative}
use Rattle.td_relation.specs.Spacing.{SpacedMember, Filled, Blank, ArchsAreSpaced, BoundIsSpaced}
use Rattle.td_relation.specs.Spacing.{IsRelation, IsSpaced, MemberIsSpaced}
use Rattle.td_relation.specs.Spacing.{RelationsAreExact, archs_then, bound_then}
use Rattle.td_relation.specs.Spacing.{spaced_alternative, spaced_member, spaced_relation, unspaced}
use Rattle.td_relation.proofs.FoundParts.{archs_found, name_found, on_is, or_fault_found}
use Rattle.td_relation.proofs.FoundParts.{restriction_found, space_blank}
use Rattle.td_relation.proofs.FoundProfiles.{AreLists, lists_behind, own_lack, pieces_lack}
use Rattle.td_relation.proofs.FoundProfiles.{unprofiled_found}
use Rattle.td_relation.proofs.SpacedRelations.{asked_of, spaced_relations_are_read, one_more}

-- ---- what follows the name

-- no comma and no bar
pub record IsInner (t : List ℕ) : Type 0 where
  pub comma : Without 44 t
  pub bar : Without 124 t

inner_right : (a b : List ℕ) → IsInner (a ++ b) → IsInner b
inner_right a b h =
    record { comma = Without-right 44 a b h.comma; bar = Without-right 124 a b h.bar }

-- an architecture list, if there is one, and build profile lists behind it
pub record AreArchs (t : List ℕ) (archs : Option (List (List ℕ))) (u : Bool) : Type 0 where
  pub list : Option SpacedArchs
  pub behind : List ℕ
  pub joined : t ≡ archs_then list behind
  pub fits : ArchsFit (option_map (λ l. l.list) list)
  pub spaced : ArchsAreSpaced list
  pub asks : archs
      ≡ option_map (λ w. map (marked w.negated) w.names) (option_map (λ l. l.list) list)
  pub after : AreLists behind u

archs_behind : (space t rest : List ℕ) (archs : Option (List (List ℕ))) (u : Bool)
    → is_blank space ≡ true → IsInner t → archs_at t ≡ Some (archs, rest)
    → unprofiled_at rest ≡ Ok u → AreArchs (space ++ t) archs u
archs_behind space t rest archs u wide inner e k =
    elim (archs_found t (archs, rest) e) [
      | inl none ↦ (
          let same : t ≡ rest = none.1 in
          let there = subst IsInner same inner in
          record {
            list = None;
            behind = space ++ t;
            joined = refl;
            fits = tt;
            spaced = tt;
            asks = none.0;
            after = lists_behind space t u wide
                (subst (λ (x : List ℕ). AreLists x u) (sym same)
                (unprofiled_found rest u there.comma there.bar k));
          }
          )
      | inr l ↦ (
          let on = on_is l.on rest l.is in
          let shown = subst IsInner l.joined inner in
          let past : IsInner (93 ∷ l.on) =
          inner_right l.inside (93 ∷ l.on) (record { comma = shown.comma.1; bar = shown.bar.1 }) in
          let there : IsInner rest =
          inner_right (run is_space l.on) rest
          (subst IsInner on (record { comma = past.comma.1; bar = past.bar.1 })) in
          record {
            list = Some (record { list = l.list; before = space; inside = l.inside });
            behind = run is_space l.on ++ rest;
            joined = ap (λ (x : List ℕ). space ++ x) l.joined
                ∙ ap (λ (x : List ℕ). space ++ 91 ∷ (l.inside ++ 93 ∷ x)) on;
            fits = l.fits;
            spaced = (wide, l.spaced);
            asks = l.asks;
            after = lists_behind (run is_space l.on) rest u (space_blank l.on)
                (unprofiled_found rest u there.comma there.bar k);
          }
          )
    ]

-- a restriction, if there is one, and an architecture list and build profile lists behind it
pub record IsTail (t : List ℕ) (restriction : Option Bound) (archs : Option (List (List ℕ)))
    (u : Bool) : Type 0 where
  pub bound : Option SpacedBound
  pub behind : List ℕ
  pub joined : t ≡ bound_then bound behind
  pub fits : BoundFits (option_map (λ b. b.bound) bound)
  pub spaced : BoundIsSpaced bound
  pub asks : restriction ≡ option_map bound_asked (option_map (λ b. b.bound) bound)
  pub after : AreArchs behind archs u

tail_behind : (space t more rest : List ℕ) (restriction : Option Bound)
    (archs : Option (List (List ℕ))) (u : Bool) → is_blank space ≡ true → IsInner t
    → restriction_at t ≡ Ok (restriction, more) → archs_at more ≡ Some (archs, rest)
    → unprofiled_at rest ≡ Ok u → IsTail (space ++ t) restriction archs u
tail_behind space t more rest restriction archs u wide inner e f k =
    elim (restriction_found t (restriction, more) e) [
      | inl none ↦ (
          let same : t ≡ more = none.1 in
          record {
            bound = None;
            behind = space ++ t;
            joined = refl;
            fits = tt;
            spaced = tt;
            asks = none.0;
            after = archs_behind space t rest archs u wide inner (ap archs_at same ∙ f) k;
          }
          )
      | inr b ↦ (
          let on = on_is b.on more b.is in
          let shown = subst IsInner b.joined inner in
          let ending = b.before_end ++ 41 ∷ b.on in
          let version = b.version ++ ending in
          let spaced_version = b.before_version ++ version in
          let operator = operator_text b.operator ++ spaced_version in
          let inside : IsInner (b.before_operator ++ operator) =
          record { comma = shown.comma.1; bar = shown.bar.1 } in
          let past = inner_right b.before_end (41 ∷ b.on)
          (inner_right b.version ending
          (inner_right b.before_version version
          (inner_right (operator_text b.operator) spaced_version
          (inner_right b.before_operator operator inside)))) in
          let there : IsInner more =
          inner_right (run is_space b.on) more
          (subst IsInner on (record { comma = past.comma.1; bar = past.bar.1 })) in
          record {
            bound = Some (record {
              bound = record { operator = b.operator; version = b.version; parts = b.parts };
              before = space;
              before_operator = b.before_operator;
              before_version = b.before_version;
              before_end = b.before_end;
            });
            behind = run is_space b.on ++ more;
            joined = ap (λ (x : List ℕ). space ++ x) b.joined
                ∙ ap (λ (x : List ℕ). space ++ 40
                ∷ (b.before_operator ++ (operator_text b.operator
                ++ (b.before_version ++ (b.version ++ (b.before_end ++ 41 ∷ x)))))) on;
            fits = b.readable;
            spaced = (wide, b.blank_operator, b.blank_version, b.blank_end);
            asks = b.asks;
            after = archs_behind (run is_space b.on) more rest archs u (space_blank b.on) there f k;
          }
          )
    ]

-- ---- an alternative

pub record IsAlternative (t : List ℕ) (x : Asked) : Type 0 where
  pub written : SpacedAlternative
  pub spaced : IsSpaced written
  pub spelled : t ≡ spaced_alternative written
  pub asks : x ≡ alternative_asked (unspaced written)

pub alternative_found : (t : List ℕ) (x : Asked) → IsInner t → alternative_at t ≡ Ok x
    → IsAlternative t x
unfolding alternative_at
alternative_found t x inner e =
    let name = on_ok_parts (or_fault BadName (name_at t)) _ x e in
    let restriction = on_ok_parts (restriction_at name.0.1) _ x name.2 in
    let archs = on_ok_parts (or_fault BadArchList (archs_at restriction.0.1)) _ x restriction.2 in
    let unprofiled = on_ok_parts (unprofiled_at archs.0.1) _ x archs.2 in
    let n = name_found t name.0 (or_fault_found BadName (name_at t) name.0 name.1) in
    let on = on_is n.on name.0.1 n.is in
    let behind_name = qualifier_part n.qualifier ++ n.on in
    let past : IsInner n.on =
    inner_right (qualifier_part n.qualifier) n.on
    (inner_right name.0.0 behind_name
    (inner_right n.front (name.0.0 ++ behind_name) (subst IsInner n.joined inner))) in
    let there : IsInner name.0.1 =
    inner_right (run is_space n.on) name.0.1 (subst IsInner on past) in
    let tail = tail_behind (run is_space n.on) name.0.1 restriction.0.1 archs.0.1 restriction.0.0
    archs.0.0 unprofiled.0 (space_blank n.on) there restriction.1
    (or_fault_found BadArchList (archs_at restriction.0.1) archs.0 archs.1) unprofiled.1 in
    let list = tail.after in
    let profiles = list.after in
    let made : Asked = record {
      name = name.0.0;
      restriction = restriction.0.0;
      archs = archs.0.0;
      unprofiled = unprofiled.0;
    } in
    let same : made ≡ x = ok_is RelationFault made x unprofiled.2 in
    let written : SpacedAlternative =
    record {
      front = n.front;
      name = name.0.0;
      qualifier = n.qualifier;
      bound = tail.bound;
      archs = list.list;
      profiles = profiles.lists;
      back = profiles.back;
    } in
    let asks : made ≡ alternative_asked (unspaced written) =
    λ i. record {
      name = name.0.0;
      restriction = tail.asks i;
      archs = list.asks i;
      unprofiled = profiles.asks i;
    } in
    record {
      written = written;
      spaced = record {
        fits =
            record {
              name = n.legal;
              qualifier = n.fits;
              bound = tail.fits;
              archs = list.fits;
              profiles = profiles.fits;
            };
        front = n.blank;
        bound = tail.spaced;
        archs = list.spaced;
        profiles = profiles.spaced;
        back = profiles.blank;
      };
      spelled = n.joined ∙ ap
          (λ (y : List ℕ). n.front ++ (name.0.0 ++ (qualifier_part n.qualifier ++ y)))
          (on ∙ tail.joined ∙ ap (bound_then tail.bound)
          (list.joined ∙ ap (archs_then list.list) profiles.joined));
      asks = sym same ∙ asks;
    }

-- ---- members

-- alternatives, in a text with bars between them
pub record IsMember (t : List ℕ) (seen total : List Asked) : Type 0 where
  pub written : List SpacedAlternative
  pub some : written ≢ []
  pub spaced : AllByRecursion IsSpaced written
  pub spelled : t ≡ spaced_member (Filled written)
  pub asks : total ≡ seen ++ map alternative_asked (map unspaced written)

filled_list : {A : Type 0} (x : A) (xs : List A) → x ∷ xs ≢ []
filled_list x xs e = absurd cc

alternatives_found : (p : List ℕ) (ps : List (List ℕ)) (seen total : List Asked)
    → AllByRecursion IsInner (p ∷ ps) → over alternative_step seen (p ∷ ps) ≡ Ok total
    → IsMember (join_with_byte 124 (p ∷ ps)) seen total
unfolding over
alternatives_found p [] seen total inner e =
    let a = on_ok_parts (alternative_step seen p) (λ more. Ok more) total e in
    let b = on_ok_parts (alternative_at p) (λ x. Ok (seen ++ x ∷ [])) a.0 a.1 in
    let r = alternative_found p b.0 inner.0 b.1 in
    record {
      written = r.written ∷ [];
      some = filled_list r.written [];
      spaced = (r.spaced, tt);
      spelled = r.spelled ∙ sym (append-nil (spaced_alternative r.written));
      asks = sym (ok_is RelationFault (seen ++ b.0 ∷ []) a.0 b.2
          ∙ ok_is RelationFault a.0 total a.2) ∙ ap (λ (x : Asked). seen ++ x ∷ []) r.asks;
    }
alternatives_found p (q ∷ qs) seen total inner e =
    let a = on_ok_parts (alternative_step seen p) (λ more. over alternative_step more (q ∷ qs))
    total e in
    let b = on_ok_parts (alternative_at p) (λ x. Ok (seen ++ x ∷ [])) a.0 a.1 in
    let r = alternative_found p b.0 inner.0 b.1 in
    let later = alternatives_found q qs a.0 total inner.1 a.2 in
    joins r later (sym (ok_is RelationFault (seen ++ b.0 ∷ []) a.0 b.2))
  where
    joins : {x : Asked} {more : List Asked} (r : IsAlternative p x)
        (later : IsMember (join_with_byte 124 (q ∷ qs)) more total) → more ≡ seen ++ x ∷ []
        → IsMember (join_with_byte 124 (p ∷ q ∷ qs)) seen total
    joins r later is =
        by r later.written later.some later.spaced later.spelled
        (later.asks ∙ ap (λ (l : List Asked).
        l ++ map alternative_asked (map unspaced later.written))
        (is ∙ ap (λ (y : Asked). seen ++ y ∷ []) r.asks)
        ∙ append_assoc seen (alternative_asked (unspaced r.written) ∷ [])
        (map alternative_asked (map unspaced later.written)))
      where
        by : {x : Asked} (r : IsAlternative p x) (w : List SpacedAlternative) → w ≢ []
            → AllByRecursion IsSpaced w → join_with_byte 124 (q ∷ qs) ≡ spaced_member (Filled w)
            → total ≡ seen ++ map alternative_asked (map unspaced (r.written ∷ w))
            → IsMember (join_with_byte 124 (p ∷ q ∷ qs)) seen total
        by r [] some spaced spelled asks = absurd (some refl)
        by r (v ∷ w) some spaced spelled asks = record {
          written = r.written ∷ v ∷ w;
          some = filled_list r.written (v ∷ w);
          spaced = (r.spaced, spaced);
          spelled = ap (λ (y : List ℕ). y ++ 124 ∷ join_with_byte 124 (q ∷ qs)) r.spelled
              ∙ ap (λ (y : List ℕ). spaced_alternative r.written ++ 124 ∷ y) spelled;
          asks = asks;
        }

pub inner_all : (ps : List (List ℕ)) → AllByRecursion (λ p. Without 44 p) ps
    → AllByRecursion (λ p. Without 124 p) ps → AllByRecursion IsInner ps
inner_all [] a b = tt
inner_all (p ∷ ps) a b = (record { comma = a.0; bar = b.0 }, inner_all ps a.1 b.1)

no_pieces : (test : ℕ → Bool) (t : List ℕ) → slice_split test t ≢ []
no_pieces test [] e = absurd cc
no_pieces test (x ∷ t) e = by (test x) (slice_split test t) e
  where
    by : (b : Bool) (ps : List (List ℕ)) → cond b ([] ∷ ps) (onto_first x ps) ≡ [] → ⊥
    by true ps k = absurd cc
    by false [] k = absurd cc
    by false (p ∷ ps) k = absurd cc

member_found : (t : List ℕ) (m : List Asked) → Without 44 t → member_at t ≡ Ok m → IsMember t [] m
member_found t m comma e =
    by (slice_split (λ b. eqb b 124) t) refl
    (inner_all (slice_split (λ b. eqb b 124) t) (pieces_lack (λ b. eqb b 124) 44 t comma)
    (own_lack 124 t)) e
  where
    by : (ps : List (List ℕ)) → slice_split (λ b. eqb b 124) t ≡ ps → AllByRecursion IsInner ps
        → over alternative_step [] ps ≡ Ok m → IsMember t [] m
    by [] is inner k = absurd (no_pieces (λ b. eqb b 124) t is)
    by (p ∷ ps) is inner k =
        let whole : join_with_byte 124 (p ∷ ps) ≡ t =
        ap (join_with_byte 124) (sym is) ∙ join_with_byte-slice_split 124 t in
        subst (λ (x : List ℕ). IsMember x [] m) whole (alternatives_found p ps [] m inner k)

-- ---- a relation

pub record IsOne (p : List ℕ) (seen more : List (List Asked)) : Type 0 where
  pub member : SpacedMember
  pub spaced : MemberIsSpaced member
  pub spelled : p ≡ spaced_member member
  pub asks : more ≡ seen ++ asked_of (member ∷ [])

pub one_found : (p : List ℕ) (seen more : List (List Asked)) → Without 44 p
    → member_step seen p ≡ Ok more → IsOne p seen more
one_found p seen more comma e = by (is_blank p) refl e
  where
    by : (b : Bool) → is_blank p ≡ b → cond b (Ok seen)
        (on_ok (member_at p) (λ m. Ok (seen ++ m ∷ []))) ≡ Ok more → IsOne p seen more
    by true is k =
        record {
          member = Blank p;
          spaced = is;
          spelled = refl;
          asks = sym (ok_is RelationFault seen more k) ∙ sym (append-nil seen);
        }
    by false is k =
        let a = on_ok_parts (member_at p) (λ m. Ok (seen ++ m ∷ [])) more k in
        let m = member_found p a.0 comma a.1 in
        record {
          member = Filled m.written;
          spaced = (m.some, m.spaced);
          spelled = m.spelled;
          asks = sym (ok_is RelationFault (seen ++ a.0 ∷ []) more a.2)
              ∙ ap (λ (x : List Asked). seen ++ x ∷ []) m.asks;
        }

pub record AreMembers (t : List ℕ) (seen total : List (List Asked)) : Type 0 where
  pub first : SpacedMember
  pub others : List SpacedMember
  pub spaced : AllByRecursion MemberIsSpaced (first ∷ others)
  pub spelled : t ≡ spaced_relation (first ∷ others)
  pub asks : total ≡ seen ++ asked_of (first ∷ others)

members_found : (p : List ℕ) (ps : List (List ℕ)) (seen total : List (List Asked))
    → AllByRecursion (λ p. Without 44 p) (p ∷ ps) → over member_step seen (p ∷ ps) ≡ Ok total
    → AreMembers (join_with_byte 44 (p ∷ ps)) seen total
unfolding over
members_found p [] seen total comma e =
    let a = on_ok_parts (member_step seen p) (λ more. Ok more) total e in
    let m = one_found p seen a.0 comma.0 a.1 in
    record {
      first = m.member;
      others = [];
      spaced = (m.spaced, tt);
      spelled = m.spelled ∙ sym (append-nil (spaced_member m.member));
      asks = sym (ok_is RelationFault a.0 total a.2) ∙ m.asks;
    }
members_found p (q ∷ qs) seen total comma e =
    let a = on_ok_parts (member_step seen p) (λ more. over member_step more (q ∷ qs)) total e in
    let m = one_found p seen a.0 comma.0 a.1 in
    let later = members_found q qs a.0 total comma.1 a.2 in
    let rest = later.first ∷ later.others in
    record {
      first = m.member;
      others = rest;
      spaced = (m.spaced, later.spaced);
      spelled = ap (λ (y : List ℕ). y ++ 44 ∷ join_with_byte 44 (q ∷ qs)) m.spelled
          ∙ ap (λ (y : List ℕ). spaced_member m.member ++ 44 ∷ y) later.spelled;
      asks = later.asks ∙ ap (λ (l : List (List Asked)). l ++ asked_of rest) m.asks
          ∙ append_assoc seen (asked_of (m.member ∷ [])) (asked_of rest)
          ∙ ap (λ (l : List (List Asked)). seen ++ l) (one_more m.member rest);
    }

some_found : (ms asked : List (List Asked)) → some_members ms ≡ Ok asked
    → (ms ≡ asked) × (asked ≢ [])
some_found [] asked e = absurd cc
some_found (m ∷ ms) asked e =
    let same : m ∷ ms ≡ asked = ok_is RelationFault (m ∷ ms) asked e in
    (same, λ none. filled_list m ms (same ∙ none))

found : (text : List ℕ) (asked : List (List Asked)) → relation_at text ≡ Ok asked
    → IsRelation text asked
unfolding relation_at
found text asked e =
    let a =
    on_ok_parts (over member_step [] (slice_split (λ b. eqb b 44) text)) some_members asked e in
    let some = some_found a.0 asked a.2 in
    by (slice_split (λ b. eqb b 44) text) refl (own_lack 44 text)
    (a.1 ∙ ap (λ (x : List (List Asked)). Ok x) some.0) some.1
  where
    by : (ps : List (List ℕ)) → slice_split (λ b. eqb b 44) text ≡ ps → AllByRecursion (λ p.
        Without 44 p) ps → over member_step [] ps ≡ Ok asked → asked ≢ [] → IsRelation text asked
    by [] is comma k some = absurd (no_pieces (λ b. eqb b 44) text is)
    by (p ∷ ps) is comma k some =
        let m = members_found p ps [] asked comma k in
        let whole : text ≡ join_with_byte 44 (p ∷ ps) =
        sym (join_with_byte-slice_split 44 text) ∙ ap (join_with_byte 44) is in
        let asks : asked ≡ asked_of (m.first ∷ m.others) = m.asks in
        record {
          written = m.first ∷ m.others;
          spaced = (m.spaced, λ none. some (asks ∙ ap (map (λ m. map alternative_asked m)) none));
          spelled = whole ∙ m.spelled;
          asks = asks;
        }

again : (text : List ℕ) (asked : List (List Asked)) → IsRelation text asked
    → relation_at text ≡ Ok asked
again text asked h =
    ap relation_at h.spelled ∙ spaced_relations_are_read h.written h.spaced
    ∙ ap (λ (x : List (List Asked)). Ok x) (sym h.asks)

pub relations_are_exact : RelationsAreExact
relations_are_exact text asked = (found text asked, again text asked)
