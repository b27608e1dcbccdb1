-- The version of a binary rebuild: its base, and `+bN` for the Nth rebuild (Developer's Reference
-- 5.10.2.1, "Recompilation, or binary-only NMU").
use Rattle.std.specs.Prelude.{◌≡◌, ◌≢◌, ℕ, zero, suc, ◌<◌, ◌≤◌, List, [], ◌++◌, length, codes}
use Rattle.std.specs.Prelude.{decimal}
use Rattle.td_text.specs.Limits.{max_rebuild}

-- what the Nth rebuild appends: nothing before the first
abbrev pub rebuild_suffix : ℕ → List ℕ
rebuild_suffix zero = []
rebuild_suffix (suc n) = codes "+b" ++ decimal (suc n)

-- this base with this rebuild number
abbrev pub rebuild_text : List ℕ → ℕ → List ℕ
rebuild_text base n = base ++ rebuild_suffix n

-- The text ends in no rebuild suffix: it is no rebuild of a base that isn't empty (the limit is
-- this project's).
abbrev pub EndsInNoRebuild : List ℕ → Type 0
EndsInNoRebuild text =
    (base : List ℕ) (n : ℕ) → 0 < length base → 0 < n → n ≤ max_rebuild → text ≢ rebuild_text base n

-- The text is this base with this rebuild number. Where the number is 0 the base is the whole
-- text, and ends in no rebuild suffix.
pub record IsRebuild (text base : List ℕ) (n : ℕ) : Type 0 where
  pub spelled : text ≡ rebuild_text base n
  pub bounded : n ≤ max_rebuild
  pub based : 0 < n → 0 < length base
  pub plain : n ≡ 0 → EndsInNoRebuild base
