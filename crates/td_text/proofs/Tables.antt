-- A table of the bytes of a kind, held against their definition at each byte by computing.
use Rattle.std.proofs.Common.{◌≡◌, ℕ, zero, suc, ◌<◌, Bool, true, false, ◌&&◌, not, nat_eq, get_or}
use Rattle.std.proofs.Common.{List, refl, arith, inl, inr}
use Rattle.std.specs.Bool.{beq}
use Rattle.std.proofs.lemmas.Bool.{cases_eq}

-- the two tests agree below n
unfoldable pub agree_below : (ℕ → Bool) → (ℕ → Bool) → ℕ → Bool
agree_below f g zero = true
agree_below f g (suc n) = beq (f n) (g n) && agree_below f g n

both_of : (x y rest : Bool) → (beq x y && rest) ≡ true → (x ≡ y) × (rest ≡ true)
both_of true true rest h = (refl, h)
both_of true false rest h = cc
both_of false true rest h = cc
both_of false false rest h = (refl, h)

agree_at : (f g : ℕ → Bool) (n : ℕ) → agree_below f g n ≡ true → (b : ℕ) → b < n → f b ≡ g b
unfolding agree_below
agree_at f g zero h b lt = absurd (omega arith)
agree_at f g (suc n) h b lt =
    let both = both_of (f n) (g n) (agree_below f g n) h in
    elim (cases_eq b n) [
      | inl same ↦ rw same both.0
      | inr other ↦ agree_at f g n both.1 b (omega arith)
    ]

-- the table has 0 at a byte that isn't of the kind
abbrev pub in_table : List ℕ → ℕ → Bool
in_table table b = not (nat_eq (get_or table b 0) 0)

pub in_table-is : (table : List ℕ) (kind : ℕ → Bool) (b : ℕ) → b < 256
    → agree_below (in_table table) kind 256 ≡ true → in_table table b ≡ kind b
in_table-is table kind b low h = agree_at (in_table table) kind 256 h b low
