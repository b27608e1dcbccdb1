-- A chain of readings: each goes on with what the one before it gave. This project's own.
use Rattle.std.specs.Prelude.{Option, Some, None}

-- what `?` goes on with; `do x ← a; b` stands for `a >>= λ x. b`
infixl 10 ◌>>=◌
abbrev pub ◌>>=◌ : {A B : Type 0} → Option A → (A → Option B) → Option B
None >>= f = None
(Some x) >>= f = f x
