-- Where the numbers of affected sources stand, there stand the sources.
use Rattle.std.proofs.Common.{◌≡◌, ℕ, true, List, Option, Some}
use Rattle.std.proofs.Common.{None, length, nat_lt, sym, subst, ◌∙◌, inl, inr, arith}
use Rattle.std.specs.Borrow.{Bor}
use Rattle.std.specs.Global.{Vec}
use Rattle.std.specs.Option.{option_map_or}
use Rattle.std.proofs.lemmas.Bool.{and_from, and_parts, cases_Bool, false≢true, lt-ltb}
use Rattle.std.proofs.lemmas.List.{length-map}
use Rattle.td_text.proofs.Chain.{no_value}
use Rattle.td_indices.specs.Archive.{Contents}
use Rattle.td_waves.specs.declared.level.Level.{Level}
use Rattle.td_waves.specs.declared.level.Level.TheVariants.{At}
use Rattle.td_waves.specs.declared.placing.Levelling.{Levelling}
use Rattle.td_waves.specs.BuildsOn.{builds_on}
use Rattle.td_waves.specs.Edges.{AreEdges, name_at}
use Rattle.td_waves.specs.Graph.{BuildsOn as GraphBuildsOn, IsNode, bases_of, lists}
use Rattle.td_waves.specs.Levelling.{level_of}
use Rattle.td_waves.specs.Levels.{IsDepth, IsOn, StandsAt}
use Rattle.td_waves.specs.Named.{is_among, number_among}
use Rattle.td_waves.specs.Waves.{BuildsOn, IsAffected, level_among}
use Rattle.td_waves.proofs.Along.{StandFor}
use Rattle.td_waves.proofs.Names.{among_at, no_number, number_of}
use Rattle.td_waves.proofs.SameLevel.{is_affected, same_level, stands-for}
use Rattle.td_waves.proofs.Passing.{Contains-has, has-Contains}

stand_for : (a : Contents) (affected keys : List (Bor (List ℕ))) (graph : List (Vec ℕ))
    → ((q : List ℕ) → is_among keys q ≡ is_among affected q) → AreEdges a keys graph
    → StandFor (IsAffected affected) (BuildsOn a) (IsNode (lists graph))
    (GraphBuildsOn (lists graph)) (name_at keys)
stand_for a affected keys graph same edges =
    let size : length (lists graph) ≡ length keys = length-map graph (λ (v : Vec ℕ). v.items)
    ∙ edges.all in
    record {
      affected = λ i n. sym (same (name_at keys i)) ∙ among_at keys i (omega (arith, n, size));
      onto = λ x ax.
          let r = number_of keys x (same x ∙ ax) in
          (r.number, omega (arith, r.within, size), r.named);
      same = λ i j ni nj.
          let its = edges.edges i (omega (arith, ni, size)) j in
          let b = builds_on a (name_at keys i) (name_at keys j) in
          let below : nat_lt j (length keys) ≡ true =
          lt-ltb j (length keys) (omega (arith, nj, size)) in (
            λ h. (and_parts (nat_lt j (length keys)) b
                (sym its ∙ Contains-has (bases_of (lists graph) i) j h)).1,
            λ h. has-Contains (bases_of (lists graph) i) j
                (its ∙ and_from (nat_lt j (length keys)) b below h),
          );
    }

pub sources_stand : (a : Contents) (affected keys : List (Bor (List ℕ))) (graph : List (Vec ℕ))
    (levels : Levelling) → ((q : List ℕ) → is_among keys q ≡ is_among affected q)
    → AreEdges a keys graph
    → ((node : ℕ) → StandsAt (IsNode (lists graph)) (GraphBuildsOn (lists graph)) node
    (level_of levels node))
    → (source : List ℕ) → StandsAt (IsAffected affected) (BuildsOn a) source
    (level_among keys levels source)
sources_stand a affected keys graph levels same edges stand source =
    let size : length (lists graph) ≡ length keys = length-map graph (λ (v : Vec ℕ). v.items)
    ∙ edges.all in
    elim (cases_Bool (is_among keys source)) [
      | inl is ↦
          let r = number_of keys source is in
          let here = stands-for (IsAffected affected) (BuildsOn a) (IsNode (lists graph))
          (GraphBuildsOn (lists graph)) (name_at keys)
          (stand_for a affected keys graph same edges) r.number (level_of levels r.number)
          (omega (arith, r.within, size)) (stand r.number) in
          subst (λ o. StandsAt (IsAffected affected) (BuildsOn a) source
          (option_map_or (level_of levels) o None)) (sym r.found)
          (subst (λ x. StandsAt (IsAffected affected) (BuildsOn a) x (level_of levels r.number))
          r.named here)
      | inr other ↦
          subst (λ o. StandsAt (IsAffected affected) (BuildsOn a) source
          (option_map_or (level_of levels) o None)) (sym (no_number keys source other))
          (λ h. false≢true (sym other ∙ same source ∙ h))
    ]

of_number : (f : ℕ → Option Level) (o : Option ℕ) (l : Level) → option_map_or f o None ≡ Some l
    → (i : ℕ) × (f i ≡ Some l)
of_number f None l e = no_value l e
of_number f (Some i) l e = (i, e)

pub sources_deep : (a : Contents) (affected keys : List (Bor (List ℕ))) (graph : List (Vec ℕ))
    (levels : Levelling) → ((q : List ℕ) → is_among keys q ≡ is_among affected q)
    → AreEdges a keys graph
    → ((node : ℕ) → StandsAt (IsNode (lists graph)) (GraphBuildsOn (lists graph)) node
    (level_of levels node)) → IsDepth (level_of levels) levels.depth
    → IsDepth (level_among keys levels) levels.depth
sources_deep a affected keys graph levels same edges stand deep = record {
  within = λ source k e. let r = of_number (level_of levels) (number_among keys source) (At k) e in
      deep.within r.0 k r.1;
  reached = λ k some le.
      let r = deep.reached k some le in
      let on : IsOn (IsNode (lists graph)) (GraphBuildsOn (lists graph)) k r.0 =
      subst (λ o. StandsAt (IsNode (lists graph)) (GraphBuildsOn (lists graph)) r.0 o) r.1
      (stand r.0) in
      let node = is_affected (IsNode (lists graph)) (GraphBuildsOn (lists graph)) k r.0 on in
      let there = stands-for (IsAffected affected) (BuildsOn a) (IsNode (lists graph))
      (GraphBuildsOn (lists graph)) (name_at keys) (stand_for a affected keys graph same edges)
      r.0 (Some (At k)) node on in (
        name_at keys r.0,
        same_level (IsAffected affected) (BuildsOn a) (name_at keys r.0)
            (level_among keys levels (name_at keys r.0)) k
            (sources_stand a affected keys graph levels same edges stand (name_at keys r.0)) there,
      );
}
