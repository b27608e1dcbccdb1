-- Bytes that stand for themselves, and quotes at the front of a text.
use Rattle.std.proofs.Common.{◌≡◌, ℕ, ◌<◌, Bool, true, false, cond, eqb, ◌||◌, List, [], ◌∷◌, Some}
use Rattle.std.proofs.Common.{None, length, refl, arith, get_or}
use Rattle.std.specs.List.{prefix_len}
use Rattle.std.specs.Str.{IsCharBoundary}
use Rattle.std.proofs.lemmas.List.Sums.{prefix_len-le-length, prefix_len_stops}
use Rattle.std.proofs.lemmas.Bool.Decides.{nat_tests}
use Rattle.td_text.specs.Cut.{strip}
use Rattle.td_wbread.specs.Words.{is_plain}
use Rattle.td_wbread.specs.Taking.{IsUnquoted}

-- where all bytes that fail a test are ASCII, a text may be cut before the first of them
pub boundary_before : (test : ℕ → Bool) → ((b : ℕ) → test b ≡ false → b < 128) → (bs : List ℕ)
    → IsCharBoundary bs (prefix_len test bs)
boundary_before test small bs = (
  prefix_len-le-length test bs,
  λ (inside : prefix_len test bs < length bs) high.
      let low : get_or bs (prefix_len test bs) 0 < 128 =
      small _ (prefix_len_stops test bs 0 inside) in
      absurd (omega arith),
)

pub others_are_ascii : (b : ℕ) → is_plain b ≡ false → b < 128
others_are_ascii b h = grind (arith, nat_tests)

none_of : (b : ℕ) (text : List ℕ) (x y : Bool) → None ≡ cond x (Some text) None
    → None ≡ cond y (Some text) None → (y || x) ≡ false
none_of b text true y a d = absurd cc
none_of b text false true a d = absurd cc
none_of b text false false a d = refl

pub none_opens : (text : List ℕ) → None ≡ strip (39 ∷ []) text → None ≡ strip (34 ∷ []) text
    → IsUnquoted text
unfolding strip
none_opens [] a d = tt
none_opens (b ∷ text) a d = grind (arith, none_of b text (eqb 39 b) (eqb 34 b) a d, nat_tests)
