-- What each part of an alternative is read as: where it is there, and where it isn't.
use Rattle.std.proofs.Common.{◌≡◌, ◌⊎◌, ℕ, ◌+◌, suc, Bool, true, false, cond, eqb, ◌&&◌, ◌||◌, List}
use Rattle.std.proofs.Common.{[], ◌∷◌, ◌++◌, length, map, Option, Some, None, Result, Ok, Err}
use Rattle.std.proofs.Common.{refl, sym, ap, subst, ◌∙◌, inl, inr, arith}
use Rattle.std.specs.Prelude.{codes, slice_index}
use Rattle.std.specs.List.{prefix_len}
use Rattle.std.proofs.Common.{drop}
use Rattle.std.proofs.lemmas.Bool.{cases_Bool, and_parts, ne_eqb, eqb-false}
use Rattle.std.proofs.lemmas.Bool.Decides.{eqb_tells}
use Rattle.td_text.specs.Cut.{cut, strip}
use Rattle.td_text.specs.Runs.{is_space, run, behind, trimmed}
use Rattle.td_text.specs.Words.{is_name_byte, is_arch_byte, is_name}
use Rattle.td_text.proofs.Blanks.{Stops-blank, trimmed_behind}
use Rattle.td_text.proofs.Chain.{when_some}
use Rattle.td_text.proofs.Cut.{cut_found}
use Rattle.td_text.proofs.Prefix.{strip_again, strip_found}
use Rattle.td_text.proofs.RunTexts.{Stops, NoSpace, run_again, behind_again, run_joined}
use Rattle.td_version.specs.Reading.{reading}
use Rattle.td_version.specs.Version.{Parts}
use Rattle.td_version.specs.declared.version.VersionFault.{VersionFault}
use Rattle.td_version.proofs.Outcomes.{read_found}
use Rattle.td_relation.specs.declared.relation.Operator.{Operator}
use Rattle.td_relation.specs.declared.relation_fault.RelationFault.TheVariants.{BadVersion}
use Rattle.td_relation.specs.declared.relation_fault.RelationFault.TheVariants.{BadArchList}
use Rattle.td_relation.specs.ArchList.{words}
use Rattle.td_relation.specs.Asked.{Bound}
use Rattle.td_relation.specs.RelationGrammar.{ends_a_name, unqualified, named, name_at}
use Rattle.td_relation.specs.RelationGrammar.{is_operator_byte, operator_at, is_version_byte}
use Rattle.td_relation.specs.RelationGrammar.{ends_a_restriction, closed, version_at, restricted}
use Rattle.td_relation.specs.RelationGrammar.{restriction_at, is_arch_list, listed, bracketed}
use Rattle.td_relation.specs.RelationGrammar.{archs_at}
use Rattle.td_relation.specs.RelationWriting.{operator_text, marked, qualifier_part}
use Rattle.td_relation.specs.RelationFaults.{GoesOnWithout, HasName, HasOperator, HasVersion}
use Rattle.td_relation.specs.RelationFaults.{IsFollowed, MayBeRestricted, HasArchs}
use Rattle.td_relation.specs.RelationFaults.{MayHaveArchs}
use Rattle.td_relation.specs.Spacing.{AreWords}
use Rattle.td_relation.proofs.FoundParts.{name_found, on_is, operator_found, space_blank}
use Rattle.td_relation.proofs.FoundWords.{arch_list_found, or_second, words_found}
use Rattle.td_relation.proofs.SpacedParts.{list_again, name_again, operator_bytes, operator_first}
use Rattle.td_relation.proofs.SpacedParts.{operator_read, version_reads}
use Rattle.td_relation.proofs.WordTexts.{arch_no_space, name_no_space}

-- ---- what a text goes on with

pub stops : (kind : ℕ → Bool) (t : List ℕ) → GoesOnWithout kind t → Stops kind t
stops kind [] h = tt
stops kind (x ∷ t) h = h

goes_on : (kind : ℕ → Bool) (t : List ℕ) → Stops kind t → GoesOnWithout kind t
goes_on kind [] h = tt
goes_on kind (x ∷ t) h = h

-- a run ends before a byte of another kind
behind_stops : (test : ℕ → Bool) (t : List ℕ) → Stops test (behind test t)
behind_stops test [] = tt
behind_stops test (x ∷ t) = by (test x) refl (behind_stops test t)
  where
    by : (v : Bool) → test x ≡ v → Stops test (behind test t)
        → Stops test (drop (cond v (1 + prefix_len test t) 0) (x ∷ t))
    by true is later =
        let e : 1 + prefix_len test t ≡ suc (prefix_len test t) = omega arith in
        subst (λ (n : ℕ). Stops test (drop n (x ∷ t))) (sym e) later
    by false is later = is

-- no such byte begins the text, where it isn't stripped
pub apart : (c : ℕ) (t : List ℕ) → strip (c ∷ []) t ≡ None → GoesOnWithout (λ b. eqb b c) t
unfolding strip
apart c [] e = tt
apart c (x ∷ t) e = by (eqb c x) refl e
  where
    by : (v : Bool) → eqb c x ≡ v → cond v (Some t) None ≡ None → eqb x c ≡ false
    by true is k = absurd cc
    by false is k = ne_eqb x c (λ same. eqb-false c x is (sym same))

not_stripped : (c : ℕ) (t : List ℕ) → GoesOnWithout (λ b. eqb b c) t → strip (c ∷ []) t ≡ None
unfolding strip
not_stripped c [] h = refl
not_stripped c (x ∷ t) h =
    let other : eqb c x ≡ false = ne_eqb c x (λ same. eqb-false x c h (sym same)) in rw other refl

-- a byte that begins a part passes no test that these don't pass
opens : (test : ℕ → Bool) (x : ℕ) → test 40 ≡ false → test 91 ≡ false → test 60 ≡ false
    → (eqb x 40 || (eqb x 91 || eqb x 60)) ≡ true → test x ≡ false
opens test x a b c h =
    elim (eqb_tells x 40) [
      | inl is ↦ ap test is.1 ∙ a
      | inr out ↦ elim (eqb_tells x 91) [
        | inl is ↦ ap test is.1 ∙ b
        | inr other ↦
            let k : eqb x 60 ≡ true = or_second (eqb x 91) (eqb x 60)
            (or_second (eqb x 40) (eqb x 91 || eqb x 60) h out.0) other.0 in
            elim (eqb_tells x 60) [
              | inl is ↦ ap test is.1 ∙ c
              | inr none ↦ absurd (let bad : false ≡ true = sym none.0 ∙ k in cc)
            ]
      ]
    ]

pub name_end_stops : (test : ℕ → Bool) (t : List ℕ) → test 40 ≡ false → test 91 ≡ false
    → test 60 ≡ false → ends_a_name t ≡ true → Stops test t
name_end_stops test [] a b c h = tt
name_end_stops test (x ∷ t) a b c h =
    let some : eqb (length (x ∷ t)) 0 ≡ false = ne_eqb (length (x ∷ t)) 0 (λ e. omega arith) in
    opens test x a b c
    (or_second (eqb (length (x ∷ t)) 0) (eqb x 40 || (eqb x 91 || eqb x 60)) h some)

wide : (a d r : Bool) → (a || r) ≡ true → (a || (d || r)) ≡ true
wide true d r h = refl
wide false true r h = refl
wide false false r h = h

pub list_end_stops : (t : List ℕ) → ends_a_restriction t ≡ true → Stops is_space t
list_end_stops t h =
    name_end_stops is_space t refl refl refl
    (wide (eqb (length t) 0) (eqb (slice_index t 0) 40)
    (eqb (slice_index t 0) 91 || eqb (slice_index t 0) 60) h)

-- ---- the name

colon_no_space : NoSpace (eqb 58)
colon_no_space = record { space = refl; tab = refl; newline = refl }

pub name_reads : (t rest : List ℕ) (n : HasName t rest) → name_at t ≡ Some (n.name, rest)
name_reads t rest n =
    let on = n.space ++ rest in
    let bare : trimmed on ≡ rest = trimmed_behind n.space rest n.apart
    (name_end_stops is_space rest refl refl refl n.ends) in
    let ends = λ (test : ℕ → Bool) (lacks : NoSpace test) (a : test 40 ≡ false)
    (b : test 91 ≡ false) (c : test 60 ≡ false).
    Stops-blank test n.space rest lacks n.apart (name_end_stops test rest a b c n.ends) in
    ap name_at n.joined
    ∙ name_again n.front n.name n.qualifier on n.blank n.legal n.fits
    (ends is_name_byte name_no_space refl refl refl)
    (ends is_arch_byte arch_no_space refl refl refl)
    (ends (eqb 58) colon_no_space refl refl refl) (ap ends_a_name bare ∙ n.ends)
    ∙ ap (λ (u : List ℕ). Some (n.name, u)) bare

name_ended : (t : List ℕ) (p : List ℕ × List ℕ) → name_at t ≡ Some p → ends_a_name p.1 ≡ true
unfolding name_at
name_ended t p e = by (unqualified (behind is_name_byte (trimmed t))) e
  where
    by : (o : Option (List ℕ)) → named (run is_name_byte (trimmed t)) o ≡ Some p
        → ends_a_name p.1 ≡ true
    by None k = absurd cc
    by (Some on) k =
        let w = when_some (is_name (run is_name_byte (trimmed t)) && ends_a_name (trimmed on))
        (run is_name_byte (trimmed t), trimmed on) p k in
        ap (λ (r : List ℕ × List ℕ). ends_a_name r.1) (sym w.1)
        ∙ (and_parts (is_name (run is_name_byte (trimmed t))) (ends_a_name (trimmed on)) w.0).1

pub name_tells : (t : List ℕ) → ((rest : List ℕ) × HasName t rest) ⊎ (name_at t ≡ None)
name_tells t = by (name_at t) refl
  where
    by : (o : Option (List ℕ × List ℕ)) → name_at t ≡ o
        → ((rest : List ℕ) × HasName t rest) ⊎ (name_at t ≡ None)
    by None is = inr is
    by (Some p) is =
        let n = name_found t p is in
        inl (
          p.1,
          record {
            front = n.front;
            name = p.0;
            qualifier = n.qualifier;
            space = run is_space n.on;
            joined = n.joined ∙ ap
                (λ (u : List ℕ). n.front ++ (p.0 ++ (qualifier_part n.qualifier ++ u)))
                (on_is n.on p.1 n.is);
            blank = n.blank;
            legal = n.legal;
            fits = n.fits;
            apart = space_blank n.on;
            ends = name_ended t p is;
          },
        )

-- ---- the operator

-- what a restriction is read as by what stands behind its `(`
pub opened : (inside : List ℕ) → restriction_at (40 ∷ inside)
    ≡ version_at (operator_at (run is_operator_byte (trimmed inside)))
    (behind is_operator_byte (trimmed inside))
unfolding restriction_at
opened inside = ap (restricted (40 ∷ inside)) (strip_again (codes "(") inside)

pub operator_reads : (t rest : List ℕ) (o : HasOperator t rest)
    → (operator_at (run is_operator_byte (trimmed t)) ≡ Some o.operator)
    × (behind is_operator_byte (trimmed t) ≡ rest)
operator_reads t rest o =
    let text = operator_text o.operator in
    let bare : trimmed t ≡ text ++ rest = ap trimmed o.joined
    ∙ trimmed_behind o.space (text ++ rest) o.blank (operator_first o.operator rest) in
    let ends : Stops is_operator_byte rest = stops is_operator_byte rest o.ends in
    let bytes = operator_bytes o.operator in (
      ap (λ (u : List ℕ). operator_at (run is_operator_byte u)) bare
          ∙ ap operator_at (run_again is_operator_byte text rest bytes ends)
          ∙ operator_read o.operator,
      ap (behind is_operator_byte) bare ∙ behind_again is_operator_byte text rest bytes ends,
    )

pub operator_tells : (t : List ℕ) → ((rest : List ℕ) × HasOperator t rest)
    ⊎ (operator_at (run is_operator_byte (trimmed t)) ≡ None)
operator_tells t = by (operator_at (run is_operator_byte (trimmed t))) refl
  where
    by : (o : Option Operator) → operator_at (run is_operator_byte (trimmed t)) ≡ o
        → ((rest : List ℕ) × HasOperator t rest)
        ⊎ (operator_at (run is_operator_byte (trimmed t)) ≡ None)
    by None is = inr is
    by (Some o) is =
        inl (
          behind is_operator_byte (trimmed t),
          record {
            operator = o;
            space = run is_space t;
            joined = run_joined is_space t
                ∙ ap (λ (u : List ℕ). run is_space t ++ u)
                (run_joined is_operator_byte (trimmed t)
                ∙ ap (λ (u : List ℕ). u ++ behind is_operator_byte (trimmed t))
                (operator_found (run is_operator_byte (trimmed t)) o is));
            blank = space_blank t;
            ends = goes_on is_operator_byte (behind is_operator_byte (trimmed t))
                (behind_stops is_operator_byte (trimmed t));
          },
        )

-- ---- the version

pub restriction_closes : (o : Operator) (t rest : List ℕ) (v : HasVersion t rest)
    → version_at (Some o) t
    ≡ cond (ends_a_restriction (trimmed rest))
    (Ok (Some (record { operator = o; version = v.parts }), trimmed rest)) (Err BadArchList)
restriction_closes o t rest v =
    ap (version_at (Some o)) v.joined
    ∙ version_reads o v.space v.version v.end rest v.parts v.blank v.blank_end v.legal

pub version_tells : (t : List ℕ) → ((rest : List ℕ) × HasVersion t rest)
    ⊎ ((o : Operator) → version_at (Some o) t ≡ Err BadVersion)
version_tells t =
    by (reading (run is_version_byte (trimmed t)))
    (strip (codes ")") (trimmed (behind is_version_byte (trimmed t)))) refl refl
  where
    by : (r : Result Parts VersionFault) (o : Option (List ℕ))
        → reading (run is_version_byte (trimmed t)) ≡ r
        → strip (codes ")") (trimmed (behind is_version_byte (trimmed t))) ≡ o
        → ((rest : List ℕ) × HasVersion t rest)
        ⊎ ((o : Operator) → version_at (Some o) t ≡ Err BadVersion)
    by (Err fault) o read is =
        inr (λ operator. ap (λ r. closed operator r
        (strip (codes ")") (trimmed (behind is_version_byte (trimmed t))))) read)
    by (Ok parts) None read is =
        inr (λ operator. ap (λ r. closed operator r
        (strip (codes ")") (trimmed (behind is_version_byte (trimmed t))))) read
        ∙ ap (closed operator (Ok parts)) is)
    by (Ok parts) (Some on) read is =
        inl (
          on,
          record {
            version = run is_version_byte (trimmed t);
            parts = parts;
            space = run is_space t;
            end = run is_space (behind is_version_byte (trimmed t));
            joined = run_joined is_space t
                ∙ ap (λ (u : List ℕ). run is_space t ++ u)
                (run_joined is_version_byte (trimmed t)
                ∙ ap (λ (u : List ℕ). run is_version_byte (trimmed t) ++ u)
                (run_joined is_space (behind is_version_byte (trimmed t))
                ∙ ap (λ (u : List ℕ). run is_space (behind is_version_byte (trimmed t)) ++ u)
                (strip_found (codes ")") (trimmed (behind is_version_byte (trimmed t))) on is)));
            blank = space_blank t;
            blank_end = space_blank (behind is_version_byte (trimmed t));
            legal = read_found (run is_version_byte (trimmed t)) parts read;
          },
        )

pub followed_reads : (t rest : List ℕ) → IsFollowed t rest → trimmed t ≡ rest
followed_reads t rest f =
    ap trimmed f.joined ∙ trimmed_behind f.space rest f.blank (list_end_stops rest f.ends)

pub followed_tells : (t : List ℕ)
    → IsFollowed t (trimmed t) ⊎ (ends_a_restriction (trimmed t) ≡ false)
followed_tells t =
    elim (cases_Bool (ends_a_restriction (trimmed t))) [
      | inl is ↦
          inl (record {
            space = run is_space t;
            joined = run_joined is_space t;
            blank = space_blank t;
            ends = is;
          })
      | inr other ↦ inr other
    ]

-- ---- the restriction

pub restriction_reads : (t rest : List ℕ) → MayBeRestricted t rest
    → (bound : Option Bound) × (restriction_at t ≡ Ok (bound, rest))
unfolding restriction_at
restriction_reads t rest (inl none) = (
  None,
  ap (restricted t) (not_stripped 40 t none.0) ∙ ap (λ (u : List ℕ). Ok (None, u)) none.1,
)
restriction_reads t rest (inr b) =
    let o = operator_reads b.inside b.asked b.operator in
    let operator = b.operator.operator in
    let bound : Bound = record { operator = operator; version = b.version.parts } in
    let bare : trimmed b.on ≡ rest = followed_reads b.on rest b.followed in (
      Some bound,
      ap restriction_at b.opened ∙ opened b.inside
          ∙ ap (λ (x : Option Operator). version_at x (behind is_operator_byte (trimmed b.inside)))
          o.0
          ∙ ap (version_at (Some operator)) o.1
          ∙ restriction_closes operator b.asked b.on b.version
          ∙ ap (λ (u : List ℕ). cond (ends_a_restriction u) (Ok (Some bound, u)) (Err BadArchList))
          bare
          ∙ ap (λ (y : Bool). cond y (Ok (Some bound, rest)) (Err BadArchList)) b.followed.ends,
    )

-- ---- the architecture list

-- a text that begins with no whitespace
unspaced_again : (t : List ℕ) → Stops is_space t → trimmed t ≡ t
unspaced_again t h = trimmed_behind [] t refl h

pub archs_read : (t rest : List ℕ) → Stops is_space t → MayHaveArchs t rest
    → (list : Option (List (List ℕ))) × (archs_at t ≡ Some (list, trimmed rest))
unfolding archs_at
archs_read t rest ends (inl none) = (
  None,
  ap (bracketed t) (not_stripped 91 t none.0)
      ∙ ap (λ (u : List ℕ). Some (None, u)) (sym (unspaced_again t ends) ∙ ap trimmed none.1),
)
archs_read t rest ends (inr (inside, at, l)) = (
  Some (map (marked l.list.negated) l.list.names),
  ap archs_at (at ∙ ap (λ (u : List ℕ). 91 ∷ u) l.joined)
      ∙ list_again l.list l.inside rest l.fits l.spaced,
)

-- what a list is read as by what stands behind its `[`
bracket : (inside : List ℕ) → archs_at (91 ∷ inside) ≡ listed (cut 93 inside)
unfolding archs_at
bracket inside = ap (bracketed (91 ∷ inside)) (strip_again (codes "[") inside)

pub archs_tell : (inside : List ℕ)
    → ((rest : List ℕ) × HasArchs inside rest) ⊎ (archs_at (91 ∷ inside) ≡ None)
archs_tell inside = by (cut 93 inside) refl
  where
    by : (o : Option (List ℕ × List ℕ)) → cut 93 inside ≡ o
        → ((rest : List ℕ) × HasArchs inside rest) ⊎ (archs_at (91 ∷ inside) ≡ None)
    by None is = inr (bracket inside ∙ ap listed is)
    by (Some q) is =
        elim (cases_Bool (is_arch_list (words q.0))) [
          | inl met ↦
              let list = arch_list_found (words q.0) met in
              inl (
                q.1,
                record {
                  list = list.list;
                  inside = q.0;
                  joined = (cut_found 93 inside q is).0;
                  fits = list.fits;
                  spaced =
                      subst (λ (ws : List (List ℕ)). AreWords ws q.0) list.are
                      (words_found q.0).spaced;
                },
              )
          | inr unmet ↦
              inr (bracket inside ∙ ap listed is ∙ ap (λ (y : Bool).
              cond y (Some (Some (words q.0), trimmed q.1)) None) unmet)
        ]
