-- The lists of the affected sources, made number by number.
use Rattle.std.proofs.Common.{◌≡◌, ◌&&◌, ◌<◌, ◌+◌, ◌∷◌, ℕ, zero, suc, List, [], length, map, nat_lt}
use Rattle.std.proofs.Common.{IfOk, Result, Ok, Err, MatchResult, refl, ap, ◌∙◌, arith}
use Rattle.std.specs.Prelude.{slice_index_or}
use Rattle.std.specs.Borrow.{Bor}
use Rattle.std.specs.Global.{Vec}
use Rattle.std.specs.List.{All, AllZip, range_with_len}
use Rattle.std.specs.declared.alloc.AllocError.{AllocError}
use Rattle.std.proofs.lemmas.List.FromFn.{get_or-range_with_len, length-range_with_len}
use Rattle.std.proofs.lemmas.Result.{IfOk-weaker}
use Rattle.td_indices.specs.Archive.{Contents}
use Rattle.td_waves.specs.BuildsOn.{builds_on}
use Rattle.td_waves.specs.Edges.{AreBases, AreEdges, name_at}
use Rattle.td_waves.specs.Graph.{bases_of, lists}
use Rattle.td_waves.proofs.Graphs.{in_range}

-- what holds where there is something holds of an `Ok`
pub ok_where : {T E : Type 0} (r : Result T E) (P : T → Type 0) (Q : E → Type 0) (R : T → Type 0)
    → MatchResult r P Q → ((v : T) → P v → R v) → IfOk r R
ok_where (Ok v) P Q R m so = so v m
ok_where (Err e) P Q R m so = tt

module _ (a : Contents) (names : List (Bor (List ℕ))) (P : ℕ → Result (Vec ℕ) AllocError → Type 0)
    (so : (n : ℕ) (v : Vec ℕ) → P n (Ok v) → AreBases a names n v.items) where
  -- as many lists as numbers
  as_many : (ns : List ℕ) (graph : List (Vec ℕ)) → AllZip P ns (map Ok graph)
      → length graph ≡ length ns
  as_many [] [] made = refl
  as_many [] (v ∷ graph) made = absurd made
  as_many (n ∷ ns) [] made = absurd made
  as_many (n ∷ ns) (v ∷ graph) made = ap suc (as_many ns graph made.1)

  -- the list at a place is that of the number there
  bases_at : (ns : List ℕ) (graph : List (Vec ℕ)) → AllZip P ns (map Ok graph) → (s : ℕ)
      → s < length ns → AreBases a names (slice_index_or ns s 0) (bases_of (lists graph) s)
  bases_at [] graph made s lt = absurd (omega arith)
  bases_at (n ∷ ns) [] made s lt = absurd made
  bases_at (n ∷ ns) (v ∷ graph) made zero lt = so n v made.0
  bases_at (n ∷ ns) (v ∷ graph) made (suc s) lt = bases_at ns graph made.1 s (omega arith)

  -- those of all numbers
  pub edges_made : (ns : List ℕ) (graph : List (Vec ℕ)) → ns ≡ range_with_len 0 (length names)
      → AllZip P ns (map Ok graph) → AreEdges a names graph
  edges_made ns graph all made =
      let count = length names in
      let size : length ns ≡ count = ap length all ∙ length-range_with_len 0 count in
      record {
        all = as_many ns graph made ∙ size;
        edges = λ s lt t.
            let own : 0 + s ≡ s = omega arith in
            let number : slice_index_or ns s 0 ≡ s = ap (λ (l : List ℕ). slice_index_or l s 0) all
            ∙ get_or-range_with_len 0 count s 0 lt ∙ own in
            bases_at ns graph made s (omega (arith, size, lt)) t
            ∙ ap (λ (k : ℕ). nat_lt t count && builds_on a (name_at names k) (name_at names t))
            number;
      }

-- what the lists have is in range
pub made_within : (a : Contents) (names : List (Bor (List ℕ)))
    (made : Result (Vec (Vec ℕ)) AllocError) → IfOk made (λ graph. AreEdges a names graph.items)
    → IfOk made (λ graph. All (λ bases. All (λ b. b < length graph.items) bases.items) graph.items)
made_within a names made =
    IfOk-weaker made (λ graph. AreEdges a names graph.items)
    (λ graph. All (λ bases. All (λ b. b < length graph.items) bases.items) graph.items)
    (λ graph all. in_range (λ s t. builds_on a (name_at names s) (name_at names t)) graph.items
    (length names) all.all (λ s t lt. all.edges s lt t))
