-- How a rebuild suffix is found. proofs/Rebuilds.antt joins it to what a rebuild is.
-- This project's own.
use Rattle.std.specs.Prelude.{ℕ, ◌==◌, ◌||◌, List, Option, Some, None, length, codes, if◌then◌else◌}
use Rattle.td_text.specs.Limits.{max_rebuild}
use Rattle.td_text.specs.Chain.{◌>>=◌}
use Rattle.td_text.specs.Cut.{strip}
use Rattle.td_text.specs.Numbers.{number_at}
use Rattle.td_version.specs.Reading.{cut_last}

-- a base that isn't empty and a number from 1 to 9999, where the last plus stands between them
unfoldable pub rebuild_at : List ℕ → Option (List ℕ × ℕ)
rebuild_at text = do
  p ← cut_last 43 text
  digits ← strip (codes "b") p.1
  n ← number_at max_rebuild digits
  if (length p.0 == 0) || (n == 0) then None else Some (p.0, n)
