-- Empty texts, as their length tells them.
use Rattle.std.proofs.Common.{◌≡◌, ℕ, suc, ◌<◌, true, false, eqb, List, [], ◌∷◌, length, refl}
use Rattle.std.proofs.Common.{arith}
use Rattle.std.specs.Prelude.{◌≢◌}
use Rattle.std.proofs.lemmas.Bool.{eqb-true}

pub some_text : (t : List ℕ) → eqb (length t) 0 ≡ false → t ≢ []
some_text [] h is = absurd cc
some_text (x ∷ t) h is = absurd cc

pub length_some : (t : List ℕ) → t ≢ [] → 0 < length t
length_some [] some = absurd (some refl)
length_some (x ∷ t) some = omega arith

pub no_text : (t : List ℕ) → eqb (length t) 0 ≡ true → t ≡ []
no_text [] h = refl
no_text (x ∷ t) h = absurd (let none = eqb-true (suc (length t)) 0 h in omega arith)
