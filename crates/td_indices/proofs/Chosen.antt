-- Sources that are chosen by flags, one more at a time.
use Rattle.std.proofs.Common.{◌≡◌, ℕ, zero, suc, ◌+◌, ◌<◌, arith, Bool, true, false, List, [], ◌∷◌, ◌++◌}
use Rattle.std.proofs.Common.{Option, Some, None, length, slice_get, take, add-one}
use Rattle.std.proofs.Common.{if◌then◌else◌, refl, ap, ◌∙◌}
use Rattle.td_text.proofs.Chain.{some_is}
use Rattle.td_rows.proofs.Lists.{take-next}
use Rattle.td_indices.specs.Choosing.{chosen, flagged, is_chosen}
use Rattle.td_indices.specs.Sources.{KeptSource}

-- the source itself, where it is chosen
abbrev pub if_chosen : Bool → KeptSource → List KeptSource
if_chosen b s = if b then s ∷ [] else []

put-first : (b c : Bool) (s x : KeptSource) (old : List KeptSource) (new : List KeptSource)
    → new ≡ old ++ if_chosen c x
    → (if b then s ∷ new else new) ≡ (if b then s ∷ old else old) ++ if_chosen c x
put-first true c s x old new is = ap (λ (l : List KeptSource). s ∷ l) is
put-first false c s x old new is = is

flagged-next : (flags : List Bool) (sources : List KeptSource) (n : ℕ) (s : KeptSource)
    → slice_get sources n ≡ Some s
    → flagged flags (take (suc n) sources)
    ≡ flagged flags (take n sources) ++ if_chosen (is_chosen (Some flags) n) s
flagged-next [] sources n s at = refl
flagged-next (flag ∷ flags) [] n s at = absurd (let bad : None ≡ Some s = at in cc)
flagged-next (flag ∷ flags) (x ∷ sources) zero s at =
    ap (λ (y : KeptSource). if flag then y ∷ flagged flags [] else flagged flags []) (some_is x s at)
    ∙ by flags flag
  where
    by : (rest : List Bool) (b : Bool)
        → (if b then s ∷ flagged rest [] else flagged rest []) ≡ if_chosen b s
    by [] true = refl
    by [] false = refl
    by (r ∷ rest) true = refl
    by (r ∷ rest) false = refl
flagged-next (flag ∷ flags) (x ∷ sources) (suc n) s at =
    put-first flag (is_chosen (Some flags) n) x s (flagged flags (take n sources))
    (flagged flags (take (suc n) sources)) (flagged-next flags sources n s at)

pub chosen-next : (flags : Option (List Bool)) (sources : List KeptSource) (n : ℕ) (s : KeptSource)
    → slice_get sources n ≡ Some s
    → chosen flags (take (n + 1) sources)
    ≡ chosen flags (take n sources) ++ if_chosen (is_chosen flags n) s
chosen-next None sources n s at = take-next sources n s at
chosen-next (Some flags) sources n s at =
    rw add-one (flagged-next flags sources n s at)

pub chosen-start : (flags : Option (List Bool)) → chosen flags [] ≡ []
chosen-start None = refl
chosen-start (Some []) = refl
chosen-start (Some (flag ∷ flags)) = refl

-- the item with a number
pub there : (sources : List KeptSource) (n : ℕ) → n < length sources
    → (s : KeptSource) × (slice_get sources n ≡ Some s)
there [] n within = absurd (omega arith)
there (s ∷ sources) zero within = (s, refl)
there (s ∷ sources) (suc n) within = there sources n (omega arith)
