-- Runs of a key's bytes.
use Rattle.std.proofs.Common.{◌≡◌, ℕ, ◌<◌, true, arith}
use Rattle.std.proofs.lemmas.Bool.Decides.{nat_tests}
use Rattle.td_query.specs.Tokens.{is_key_byte}

pub key_is_ascii : (b : ℕ) → is_key_byte b ≡ true → b < 128
key_is_ascii b h = grind (arith, nat_tests)
