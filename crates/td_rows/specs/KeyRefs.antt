-- A key by its two texts is hashed and compared as the key is: laws that a look-up asks for.
-- This project's own.
use Rattle.std.proofs.Common.{◌≡◌, ℕ, true, List, ◌++◌, ap, sym}
use Rattle.std.specs.Bool.{◌==◌}
use Rattle.std.specs.Cmp.Lexicographic.{pointwise, same_text}
use Rattle.std.specs.Hash as fed
use Rattle.std.proofs.lemmas.Bool.{and_parts}
use Rattle.td_rows.specs.declared.key.Key.{Key}
use Rattle.td_rows.specs.Keys.{same_key}

-- keys with the same two texts are one
pub one_key : (a b : Key) → same_key a b ≡ true → a ≡ b
one_key a b h =
    let both = and_parts (pointwise ◌==◌ a.source b.source) (pointwise ◌==◌ a.arch b.arch) h in
    let sources : a.source ≡ b.source = same_text a.source b.source (sym both.0) in
    let archs : a.arch ≡ b.arch = same_text a.arch b.arch (sym both.1) in
    λ i. record { source = sources i; arch = archs i }

-- two texts are hashed as the key that has them
pub hashed_alike : (source arch : List ℕ) (k : Key) → same_key (record {
  source =
      source;
  arch = arch;
}) k ≡ true
    → fed.str source ++ fed.str arch ≡ fed.str k.source ++ fed.str k.arch
hashed_alike source arch k is =
    ap (λ (q : Key). fed.str q.source ++ fed.str q.arch) (one_key (record {
      source =
          source;
      arch = arch;
    }) k is)

-- a key that is the same as two texts is the same as no other
pub compared_alike : (q x y : Key) → same_key q x ≡ true → same_key q y ≡ same_key x y
compared_alike q x y is = ap (λ (z : Key). same_key z y) (one_key q x is)
