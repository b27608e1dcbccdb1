-- `are_sound`: each stanza was looked at by its number.
use Rattle.std.proofs.Common.{◌≡◌, ◌<◌, ◌+◌, ◌-◌, ◌∙◌, ℕ, List, Bool, true, false, ap, refl}
use Rattle.std.proofs.Common.{subst, length, arith}
use Rattle.std.specs.Prelude.{MatchBool, slice_index_or}
use Rattle.std.specs.List.{All, Any, range_with_len}
use Rattle.std.proofs.lemmas.List.FromFn.{get_or-range_with_len, length-range_with_len}
use Rattle.rayon.specs.Numbers.{nat_range}
use Rattle.td_stanza.specs.Field.{Entry}
use Rattle.td_indices.specs.inner.Sound.{IsSoundAt}
use Rattle.td_indices.proofs.soundness.are_sound.Goals as goal

-- where the answer at each number is yes, so it is at one of them
each_sound : (stanzas : List (List Entry)) (answer : Bool) (numbers : List ℕ) (number : ℕ)
    → numbers ≡ range_with_len 0 (length stanzas) → answer ≡ true
    → MatchBool answer (All (λ n. true ≡ true → IsSoundAt stanzas n) numbers)
    (Any (λ n. false ≡ true → IsSoundAt stanzas n) numbers) → number < length stanzas
    → IsSoundAt stanzas number
each_sound stanzas false numbers number all is passed within = absurd cc
each_sound stanzas true numbers number all is passed within =
    let long : number < length numbers =
    omega (arith, within, ap length all ∙ length-range_with_len 0 (length stanzas)) in
    let own : 0 + number ≡ number = omega arith in
    let at : slice_index_or numbers number 0 ≡ number =
    ap (λ (l : List ℕ). slice_index_or l number 0) all
    ∙ get_or-range_with_len 0 (length stanzas) number 0 within ∙ own in
    subst (IsSoundAt stanzas) at (passed number 0 long refl)

pub returns : goal.returns
returns g c =
    let stanzas = c.args.stanzas.now in
    let ends = c.into_par_iter.ensures in
    let made = c.all.ensures in
    let whole : c.len.result - 0 ≡ c.len.result = omega arith in
    let chain = rw c.with_min_len.ensures.base at made.1 in
    let places : made.0 ≡ range_with_len 0 (length stanzas) =
    chain ∙ (λ i. nat_range (ends.0 i) (ends.1 i))
    ∙ ap (range_with_len 0) (whole ∙ c.len.ensures) in
    λ is number within. each_sound stanzas c.all.result made.0 number places is made.2 within
