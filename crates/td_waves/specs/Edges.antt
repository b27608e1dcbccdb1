-- The affected sources by number, and which of them build on which. This project's own.
use Rattle.std.specs.Prelude.{◌≡◌, ◌<◌, ◌&&◌, ℕ, List, [], length, nat_lt, slice_index_or}
use Rattle.std.specs.Borrow.{Bor}
use Rattle.std.specs.Global.{Vec}
use Rattle.td_indices.specs.Archive.{Contents}
use Rattle.td_waves.specs.Asking.{has}
use Rattle.td_waves.specs.BuildsOn.{builds_on}
use Rattle.td_waves.specs.Graph.{bases_of, lists}
use Rattle.td_waves.specs.Named.{texts}

-- the name with a number
abbrev pub name_at : List (Bor (List ℕ)) → ℕ → List ℕ
name_at names number = slice_index_or (texts names) number []

-- numbers are those of the names on whose sources the source of the name with a number builds
abbrev pub AreBases : Contents → List (Bor (List ℕ)) → ℕ → List ℕ → Type 0
AreBases a names number bases = (t : ℕ) → has t bases
    ≡ (nat_lt t (length names) && builds_on a (name_at names number) (name_at names t))

-- a graph has for each name the numbers of those on whose sources its source builds
pub record AreEdges (a : Contents) (names : List (Bor (List ℕ)))
    (graph : List (Vec ℕ)) : Type 0 where
  pub all : length graph ≡ length names
  pub edges : (s : ℕ) → s < length names → AreBases a names s (bases_of (lists graph) s)
