-- Texts that stand for values, and what it means to read them exactly. This project's own.
use Rattle.std.specs.Prelude.{◌≡◌, ℕ, List, Option, Some}

-- reading gives a value if and only if the text is the spelling of that value, and the value fits:
-- what is found is spelled so and fits, and what fits is read again from its spelling
pub record Exact {V : Type 0} (read : List ℕ → Option V) (spell : V → List ℕ)
    (Fits : V → Type 0) : Type 0 where
  pub found : (text : List ℕ) (v : V) → read text ≡ Some v → (text ≡ spell v) × Fits v
  pub again : (v : V) → Fits v → read (spell v) ≡ Some v
