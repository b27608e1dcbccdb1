-- The rebuild number that `split_rebuild` gives, as a function of the text.
use Rattle.std.proofs.Common.{◌≡◌, ℕ, List, Option, Some, None, refl, sym, ◌∙◌}
use Rattle.td_version.specs.Rebuild.{IsRebuild}
use Rattle.td_version.specs.Splitting.{rebuild_at}
use Rattle.td_version.proofs.Rebuilds.{found_some, found_none}
use Rattle.td_indices.specs.Opening.{rebuild_number}

-- what is the rebuild of a text is the one found
pub rebuild_number-is : (text : List ℕ) (n : ℕ)
    → ((base : List ℕ) (m : ℕ) → IsRebuild text base m → n ≡ m) → n ≡ rebuild_number text
rebuild_number-is text n only = by (rebuild_at text) refl
  where
    by : (o : Option (List ℕ × ℕ)) → rebuild_at text ≡ o → n ≡ rebuild_number text
    by None e = only text 0 (found_none text e) ∙ sym (rw e refl)
    by (Some p) e = only p.0 p.1 (found_some text p.0 p.1 e) ∙ sym (rw e refl)
