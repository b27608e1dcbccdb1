-- Words that match, and rows counted source by source.
use Rattle.std.proofs.Common.{◌≡◌, ℕ, ◌+◌, List, ◌∷◌, Some, drop}
use Rattle.std.proofs.Common.{slice_get, option_map, ap, ◌∙◌, arith}
use Rattle.std.specs.Borrow.{Bor}
use Rattle.std.proofs.lemmas.List.Sums.{sum_by-cons}
use Rattle.td_rows.proofs.Lists.{drop-next, slice_get-map}
use Rattle.td_relation.specs.Arch.{ArchWords}
use Rattle.td_indices.specs.declared.sourced.Sourced.{Sourced}
use Rattle.td_indices.specs.Rows.{rows_of, row_count}
use Rattle.td_indices.specs.Sources.{source_of, sources_of}

-- the sources that are left, from the one with a number on
pub sources_left : (es : List (Bor (List ℕ) × Sourced)) (n : ℕ) (p : Bor (List ℕ) × Sourced)
    → slice_get es n ≡ Some p → drop n (sources_of es) ≡ source_of p ∷ drop (n + 1) (sources_of es)
sources_left es n p at =
    drop-next (sources_of es) n (source_of p)
    (slice_get-map source_of es n ∙ ap (option_map source_of) at)

-- the rows with those of one source more
pub rows_counted : (table : List ArchWords) (es : List (Bor (List ℕ) × Sourced)) (n rows own : ℕ)
    (p : Bor (List ℕ) × Sourced) → slice_get es n ≡ Some p → own ≡ rows_of table (source_of p)
    → rows + row_count table (drop n (sources_of es)) ≡ row_count table (sources_of es)
    → (rows + own) + row_count table (drop (n + 1) (sources_of es))
    ≡ row_count table (sources_of es)
rows_counted table es n rows own p at is h =
    let left : row_count table (drop n (sources_of es))
    ≡ rows_of table (source_of p) + row_count table (drop (n + 1) (sources_of es)) =
    ap (row_count table) (sources_left es n p at)
    ∙ sum_by-cons (rows_of table) (source_of p) (drop (n + 1) (sources_of es)) in
    omega arith
