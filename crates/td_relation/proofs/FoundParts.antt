-- The parts of a text that is read as an alternative.
use Rattle.std.proofs.Common.{◌≡◌, ◌⊎◌, ℕ, Bool, true, cond, ltb, ◌&&◌, List, ◌∷◌, ◌++◌, length}
use Rattle.std.proofs.Common.{map, Option, Some, None, Result, Ok, Err, refl, sym, ap, subst, ◌∙◌}
use Rattle.std.proofs.Common.{inl, inr}
use Rattle.std.specs.Prelude.{codes}
use Rattle.std.specs.List.{list_all}
use Rattle.std.proofs.lemmas.Bool.{cases_Bool, and_parts, and_from}
use Rattle.td_text.specs.Cut.{cut, strip}
use Rattle.td_text.specs.Words.{is_name_byte, is_arch_byte, is_name}
use Rattle.td_text.proofs.Chain.{ok_is, or_word, some_is, when_some}
use Rattle.td_text.proofs.Cut.{cut_found}
use Rattle.td_text.proofs.Prefix.{strip_found}
use Rattle.td_version.specs.Grammar.{IsVersion}
use Rattle.td_version.specs.Reading.{reading}
use Rattle.td_version.specs.Version.{Parts}
use Rattle.td_version.specs.declared.version.VersionFault.{VersionFault}
use Rattle.td_version.proofs.Outcomes.{read_found}
use Rattle.td_relation.specs.declared.relation.Operator.{Operator}
use Rattle.td_relation.specs.declared.relation.Operator.TheVariants.{Earlier, EarlierOrEqual, Equal}
use Rattle.td_relation.specs.declared.relation.Operator.TheVariants.{LaterOrEqual, Later}
use Rattle.td_relation.specs.declared.relation_fault.RelationFault.{RelationFault}
use Rattle.td_relation.specs.declared.relation_fault.RelationFault.TheVariants.{BadArchList}
use Rattle.td_text.specs.Runs.{is_space, run, behind, trimmed, is_blank}
use Rattle.td_text.proofs.RunTexts.{run_passes, run_joined}
use Rattle.td_relation.specs.ArchList.{words}
use Rattle.td_relation.specs.Asked.{Bound}
use Rattle.td_relation.specs.RelationGrammar.{ends_a_name, after_colon, unqualified, named, name_at}
use Rattle.td_relation.specs.RelationGrammar.{is_operator_byte, operator_at, is_version_byte}
use Rattle.td_relation.specs.RelationGrammar.{ends_a_restriction, closed, version_at, restricted}
use Rattle.td_relation.specs.RelationGrammar.{restriction_at, is_arch_list, listed, bracketed}
use Rattle.td_relation.specs.RelationGrammar.{archs_at, or_fault}
use Rattle.td_relation.specs.RelationWriting.{WrittenArchs, operator_text, marked, qualifier_part}
use Rattle.td_relation.specs.RelationWriting.{QualifierFits, ArchsFit}
use Rattle.td_relation.specs.Spacing.{AreWords}
use Rattle.td_relation.proofs.FoundWords.{arch_list_found, words_found}

-- ---- runs

pub space_blank : (t : List ℕ) → is_blank (run is_space t) ≡ true
space_blank t = run_passes is_space t

-- a text is its whitespace in front, and what follows that
pub on_is : (on rest : List ℕ) → trimmed on ≡ rest → on ≡ run is_space on ++ rest
on_is on rest is = run_joined is_space on ∙ ap (λ (t : List ℕ). run is_space on ++ t) is

pub or_fault_found : {A : Type 0} (fault : RelationFault) (o : Option A) (x : A)
    → or_fault fault o ≡ Ok x → o ≡ Some x
or_fault_found fault None x e = absurd cc
or_fault_found fault (Some y) x e = ap (λ z. Some z) (ok_is RelationFault y x e)

-- ---- the name

pub record IsQualified (t rest : List ℕ) : Type 0 where
  pub qualifier : Option (List ℕ)
  pub fits : QualifierFits qualifier
  pub joined : t ≡ qualifier_part qualifier ++ rest

qualified_found : (t rest : List ℕ) → unqualified t ≡ Some rest → IsQualified t rest
unfolding unqualified
qualified_found t rest e = by (strip (codes ":") t) refl e
  where
    by : (o : Option (List ℕ)) → strip (codes ":") t ≡ o → after_colon t o ≡ Some rest
        → IsQualified t rest
    by None none k = record { qualifier = None; fits = tt; joined = some_is t rest k }
    by (Some word) is k =
        let w =
        when_some (ltb 0 (length (run is_arch_byte word))) (behind is_arch_byte word) rest k in
        record {
          qualifier = Some (run is_arch_byte word);
          fits = and_from (ltb 0 (length (run is_arch_byte word)))
              (list_all is_arch_byte (run is_arch_byte word)) w.0 (run_passes is_arch_byte word);
          joined = strip_found (codes ":") t word is
              ∙ ap (λ (u : List ℕ). 58 ∷ u)
              (run_joined is_arch_byte word ∙ ap (λ (u : List ℕ). run is_arch_byte word ++ u) w.1);
        }

pub record IsNamed (t name rest : List ℕ) : Type 0 where
  pub front : List ℕ
  pub qualifier : Option (List ℕ)
  pub on : List ℕ
  pub joined : t ≡ front ++ (name ++ (qualifier_part qualifier ++ on))
  pub blank : is_blank front ≡ true
  pub legal : is_name name ≡ true
  pub fits : QualifierFits qualifier
  pub is : trimmed on ≡ rest

pub name_found : (t : List ℕ) (p : List ℕ × List ℕ) → name_at t ≡ Some p → IsNamed t p.0 p.1
unfolding name_at
name_found t p e = by (unqualified (behind is_name_byte (trimmed t))) refl e
  where
    by : (o : Option (List ℕ)) → unqualified (behind is_name_byte (trimmed t)) ≡ o
        → named (run is_name_byte (trimmed t)) o ≡ Some p → IsNamed t p.0 p.1
    by None none k = absurd cc
    by (Some on) is k =
        let w = when_some (is_name (run is_name_byte (trimmed t)) && ends_a_name (trimmed on))
        (run is_name_byte (trimmed t), trimmed on) p k in
        let q = qualified_found (behind is_name_byte (trimmed t)) on is in
        subst (λ (r : List ℕ × List ℕ). IsNamed t r.0 r.1) w.1 (record {
          front = run is_space t;
          qualifier = q.qualifier;
          on = on;
          joined = run_joined is_space t
              ∙ ap (λ (u : List ℕ). run is_space t ++ u)
              (run_joined is_name_byte (trimmed t)
              ∙ ap (λ (u : List ℕ). run is_name_byte (trimmed t) ++ u) q.joined);
          blank = space_blank t;
          legal =
              (and_parts (is_name (run is_name_byte (trimmed t))) (ends_a_name (trimmed on)) w.0).0;
          fits = q.fits;
          is = refl;
        })

-- ---- the restriction

pub operator_found : (t : List ℕ) (o : Operator) → operator_at t ≡ Some o → t ≡ operator_text o
unfolding operator_at
operator_found t o e =
    (or_word operator_text (λ _. Unit {0}) t o Earlier _ tt
    (or_word operator_text (λ _. Unit {0}) t o EarlierOrEqual _ tt
    (or_word operator_text (λ _. Unit {0}) t o Equal _ tt
    (or_word operator_text (λ _. Unit {0}) t o LaterOrEqual _ tt
    (or_word operator_text (λ _. Unit {0}) t o Later None tt (λ none. absurd cc))))) e).0

pub record IsBound (t : List ℕ) (restriction : Option Bound) (rest : List ℕ) : Type 0 where
  pub operator : Operator
  pub version : List ℕ
  pub parts : Parts
  pub before_operator : List ℕ
  pub before_version : List ℕ
  pub before_end : List ℕ
  pub on : List ℕ
  pub joined : t ≡ 40 ∷ (before_operator
      ++ (operator_text operator ++ (before_version ++ (version ++ (before_end ++ 41 ∷ on)))))
  pub blank_operator : is_blank before_operator ≡ true
  pub blank_version : is_blank before_version ≡ true
  pub blank_end : is_blank before_end ≡ true
  pub readable : IsVersion version parts
  pub asks : restriction ≡ Some (record { operator = operator; version = parts })
  pub is : trimmed on ≡ rest

-- a version, its `)`, and what follows
pub record IsClosed (operator : Operator) (t : List ℕ) (restriction : Option Bound)
    (rest : List ℕ) : Type 0 where
  pub version : List ℕ
  pub parts : Parts
  pub before_version : List ℕ
  pub before_end : List ℕ
  pub on : List ℕ
  pub joined : t ≡ before_version ++ (version ++ (before_end ++ 41 ∷ on))
  pub blank_version : is_blank before_version ≡ true
  pub blank_end : is_blank before_end ≡ true
  pub readable : IsVersion version parts
  pub asks : restriction ≡ Some (record { operator = operator; version = parts })
  pub is : trimmed on ≡ rest

version_found : (operator : Operator) (t : List ℕ) (p : Option Bound × List ℕ)
    → version_at (Some operator) t ≡ Ok p → IsClosed operator t p.0 p.1
version_found operator t p e =
    by (reading (run is_version_byte (trimmed t)))
    (strip (codes ")") (trimmed (behind is_version_byte (trimmed t)))) refl refl e
  where
    by : (r : Result Parts VersionFault) (o : Option (List ℕ))
        → reading (run is_version_byte (trimmed t)) ≡ r → strip (codes ")")
        (trimmed (behind is_version_byte (trimmed t))) ≡ o → closed operator r o ≡ Ok p
        → IsClosed operator t p.0 p.1
    by (Err fault) o read is k = absurd cc
    by (Ok parts) None read is k = absurd cc
    by (Ok parts) (Some on) read is k =
        elim (cases_Bool (ends_a_restriction (trimmed on))) [
          | inl ends ↦ (
              let bound : Bound = record { operator = operator; version = parts } in
              let made : Option Bound × List ℕ = (Some bound, trimmed on) in
              let same : made ≡ p = ok_is RelationFault made p
              (subst (λ (b : Bool). cond b
              (Ok (Some (record { operator = operator; version = parts }), trimmed on))
              (Err BadArchList) ≡ Ok p) ends k) in
              subst (λ (r : Option Bound × List ℕ). IsClosed operator t r.0 r.1) same (record {
                version = run is_version_byte (trimmed t);
                parts = parts;
                before_version = run is_space t;
                before_end = run is_space (behind is_version_byte (trimmed t));
                on = on;
                joined = run_joined is_space t
                    ∙ ap (λ (u : List ℕ). run is_space t ++ u)
                    (run_joined is_version_byte (trimmed t)
                    ∙ ap (λ (u : List ℕ). run is_version_byte (trimmed t) ++ u)
                    (run_joined is_space (behind is_version_byte (trimmed t))
                    ∙ ap (λ (u : List ℕ). run is_space (behind is_version_byte (trimmed t)) ++ u)
                    (strip_found (codes ")") (trimmed (behind is_version_byte (trimmed t))) on
                    is)));
                blank_version = space_blank t;
                blank_end = space_blank (behind is_version_byte (trimmed t));
                readable = read_found (run is_version_byte (trimmed t)) parts read;
                asks = refl;
                is = refl;
              })
              )
          | inr other ↦
              absurd (let bad : ◌≡◌ {A = Result (Option Bound × List ℕ) RelationFault}
              (Err BadArchList) (Ok p) =
              subst (λ (b : Bool). cond b
              (Ok (Some (record { operator = operator; version = parts }), trimmed on))
              (Err BadArchList) ≡ Ok p) other k in cc)
        ]

pub restriction_found : (t : List ℕ) (p : Option Bound × List ℕ) → restriction_at t ≡ Ok p
    → ((p.0 ≡ None) × (t ≡ p.1)) ⊎ IsBound t p.0 p.1
unfolding restriction_at
restriction_found t p e = by (strip (codes "(") t) refl e
  where
    inside_found : (inside : List ℕ) (o : Option Operator) → t ≡ 40 ∷ inside
        → operator_at (run is_operator_byte (trimmed inside)) ≡ o
        → version_at o (behind is_operator_byte (trimmed inside)) ≡ Ok p → IsBound t p.0 p.1
    inside_found inside None at is k = absurd cc
    inside_found inside (Some operator) at is k =
        let c = version_found operator (behind is_operator_byte (trimmed inside)) p k in
        let text = operator_found (run is_operator_byte (trimmed inside)) operator is in
        record {
          operator = operator;
          version = c.version;
          parts = c.parts;
          before_operator = run is_space inside;
          before_version = c.before_version;
          before_end = c.before_end;
          on = c.on;
          joined = at ∙ ap (λ (u : List ℕ). 40 ∷ u)
              (run_joined is_space inside
              ∙ ap (λ (u : List ℕ). run is_space inside ++ u)
              (run_joined is_operator_byte (trimmed inside)
              ∙ ap (λ (u : List ℕ). u ++ behind is_operator_byte (trimmed inside)) text
              ∙ ap (λ (u : List ℕ). operator_text operator ++ u) c.joined));
          blank_operator = space_blank inside;
          blank_version = c.blank_version;
          blank_end = c.blank_end;
          readable = c.readable;
          asks = c.asks;
          is = c.is;
        }

    by : (o : Option (List ℕ)) → strip
        (codes "(") t ≡ o → restricted t o ≡ Ok p → ((p.0 ≡ None) × (t ≡ p.1)) ⊎ IsBound t p.0 p.1
    by None none k =
        let same : (None, t) ≡ p = ok_is RelationFault (None, t) p k in
        inl (
          ap (λ (r : Option Bound × List ℕ). r.0) (sym same),
          ap (λ (r : Option Bound × List ℕ). r.1) same,
        )
    by (Some inside) is k =
        inr (inside_found inside (operator_at (run is_operator_byte (trimmed inside)))
        (strip_found (codes "(") t inside is) refl k)

-- ---- the architecture list

pub record IsList (t : List ℕ) (archs : Option (List (List ℕ))) (rest : List ℕ) : Type 0 where
  pub list : WrittenArchs
  pub inside : List ℕ
  pub on : List ℕ
  pub joined : t ≡ 91 ∷ (inside ++ 93 ∷ on)
  pub fits : ArchsFit (Some list)
  pub spaced : AreWords (map (marked list.negated) list.names) inside
  pub asks : archs ≡ Some (map (marked list.negated) list.names)
  pub is : trimmed on ≡ rest

pub archs_found : (t : List ℕ) (p : Option (List (List ℕ)) × List ℕ) → archs_at t ≡ Some p
    → ((p.0 ≡ None) × (t ≡ p.1)) ⊎ IsList t p.0 p.1
unfolding archs_at
archs_found t p e = by (strip (codes "[") t) refl e
  where
    inside_found : (inside : List ℕ) (o : Option (List ℕ × List ℕ)) → t ≡ 91 ∷ inside
        → cut 93 inside ≡ o → listed o ≡ Some p → IsList t p.0 p.1
    inside_found inside None at is k = absurd cc
    inside_found inside (Some q) at is k =
        let w = when_some (is_arch_list (words q.0)) (Some (words q.0), trimmed q.1) p k in
        let list = arch_list_found (words q.0) w.0 in
        subst (λ (r : Option (List (List ℕ)) × List ℕ). IsList t r.0 r.1) w.1 (record {
          list = list.list;
          inside = q.0;
          on = q.1;
          joined = at ∙ ap (λ (u : List ℕ). 91 ∷ u) (cut_found 93 inside q is).0;
          fits = list.fits;
          spaced =
              subst (λ (ws : List (List ℕ)). AreWords ws q.0) list.are (words_found q.0).spaced;
          asks = ap (λ (ws : List (List ℕ)). Some ws) list.are;
          is = refl;
        })

    by : (o : Option (List ℕ)) → strip
        (codes "[") t ≡ o → bracketed t o ≡ Some p → ((p.0 ≡ None) × (t ≡ p.1)) ⊎ IsList t p.0 p.1
    by None none k =
        let same : (None, t) ≡ p = some_is (None, t) p k in
        inl (
          ap (λ (r : Option (List (List ℕ)) × List ℕ). r.0) (sym same),
          ap (λ (r : Option (List (List ℕ)) × List ℕ). r.1) same,
        )
    by (Some inside) is k =
        inr (inside_found inside (cut 93 inside) (strip_found (codes "[") t inside is) refl k)
