-- Runs of ASCII bytes end where a text may be cut, and whitespace and names are ASCII.
use Rattle.std.proofs.Common.{◌≡◌, ℕ, ◌+◌, ◌<◌, Bool, true, false, cond, List, [], ◌∷◌, refl, arith}
use Rattle.std.specs.List.{prefix_len}
use Rattle.std.specs.Str.{IsUtf8, IsCharBoundary}
use Rattle.std.proofs.lemmas.Str.{IsCharBoundary-start, IsCharBoundary-after_ascii}
use Rattle.std.proofs.lemmas.Str.{IsCharBoundary-from_rest, IsUtf8-drop}
use Rattle.std.proofs.lemmas.Bool.Decides.{nat_tests}
use Rattle.td_text.specs.Words.{is_name_byte, is_arch_byte}
use Rattle.td_text.specs.Runs.{is_space}

pub boundary_run : (test : ℕ → Bool) → ((b : ℕ) → test b ≡ true → b < 128) → (bs : List ℕ)
    → IsUtf8 bs → IsCharBoundary bs (prefix_len test bs)
boundary_run test small [] u = IsCharBoundary-start [] u
boundary_run test small (x ∷ xs) u = by (test x) refl (λ v. boundary_run test small xs v)
  where
    by : (b : Bool) → test x ≡ b → (IsUtf8 xs → IsCharBoundary xs (prefix_len test xs))
        → IsCharBoundary (x ∷ xs) (cond b (1 + prefix_len test xs) 0)
    by false h later = IsCharBoundary-start (x ∷ xs) u
    by true h later =
        let front : IsCharBoundary (x ∷ xs) 1 =
        IsCharBoundary-after_ascii (x ∷ xs) 0 u (omega arith) (small x h) in
        let rest : IsUtf8 xs = IsUtf8-drop (x ∷ xs) 1 u front in
        IsCharBoundary-from_rest (x ∷ xs) 1 (prefix_len test xs) (omega arith) (later rest)

pub space_is_ascii : (b : ℕ) → is_space b ≡ true → b < 128
space_is_ascii b h = grind (arith, nat_tests)

pub name_is_ascii : (b : ℕ) → is_name_byte b ≡ true → b < 128
name_is_ascii b h = grind (arith, nat_tests)

pub arch_is_ascii : (b : ℕ) → is_arch_byte b ≡ true → b < 128
arch_is_ascii b h = grind (arith, nat_tests)
