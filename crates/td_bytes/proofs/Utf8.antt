-- A front that is known to be UTF-8 grows.
use Rattle.std.proofs.Common.{◌≤◌, ◌+◌, ℕ, List, ◌++◌, length, take, drop, sym, subst}
use Rattle.std.specs.Str.{IsUtf8}
use Rattle.std.proofs.lemmas.List.{take-append-le}
use Rattle.std.proofs.lemmas.Str.{IsUtf8-append}
use Rattle.std.proofs.Math.Seq.{take-add}

-- a UTF-8 front, with UTF-8 after it once more bytes came, is a longer UTF-8 front
pub IsUtf8-further : (bs more : List ℕ) (n k : ℕ) → n ≤ length bs → IsUtf8 (take n bs)
    → IsUtf8 (take k (drop n (bs ++ more))) → IsUtf8 (take (n + k) (bs ++ more))
IsUtf8-further bs more n k within known found =
    subst IsUtf8 (sym (take-add n k (bs ++ more)))
    (IsUtf8-append _ _ (subst IsUtf8 (sym (take-append-le n bs more within)) known) found)
