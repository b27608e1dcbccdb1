-- Operators and versions are ASCII.
use Rattle.std.proofs.Common.{◌≡◌, ℕ, ◌<◌, true, arith}
use Rattle.std.proofs.lemmas.Bool.Decides.{nat_tests}
use Rattle.td_relation.specs.RelationGrammar.{is_operator_byte, is_version_byte}

pub operator_is_ascii : (b : ℕ) → is_operator_byte b ≡ true → b < 128
operator_is_ascii b h = grind (arith, nat_tests)

pub version_is_ascii : (b : ℕ) → is_version_byte b ≡ true → b < 128
version_is_ascii b h = grind (arith, nat_tests)
