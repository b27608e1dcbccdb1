-- A state is read exactly from its word.
use Rattle.std.proofs.Common.{◌≡◌, ℕ, ◌-◌, ◌^◌, ◌<◌, true, List, ◌++◌, Some, refl, ap, subst, ◌∙◌}
use Rattle.std.proofs.Common.{arith, lit<}
use Rattle.std.specs.Prelude.{codes, decimal, nat_lt}
use Rattle.std.specs.List.{list_all}
use Rattle.std.proofs.lemmas.Bool.Decides.{nat_tests}
use Rattle.td_text.specs.Chain.{◌>>=◌}
use Rattle.td_text.specs.Cut.{Without, strip}
use Rattle.td_text.specs.Exact.{Exact}
use Rattle.td_text.specs.Numbers.{number_at}
use Rattle.td_text.proofs.Chain.{chained, some_is, or_word}
use Rattle.td_text.proofs.Cut.{Without-append, Without-from_test}
use Rattle.td_text.proofs.Numbers.{number_exact, Without-decimal}
use Rattle.td_text.proofs.Prefix.{strip_again, strip_found}
use Rattle.td_rows.specs.declared.state.State.{State}
use Rattle.td_rows.specs.declared.state.State.TheVariants.{NeedsBuild, Building, Built, Uploaded}
use Rattle.td_rows.specs.declared.state.State.TheVariants.{Installed, DepWait, BdUninstallable}
use Rattle.td_rows.specs.declared.state.State.TheVariants.{BuildAttempted, Failed, NotForUs}
use Rattle.td_rows.specs.StateWord.{state_word, StateFits, state_at}

abbrev IsWordOf : List ℕ → State → Type 0
IsWordOf t s = (t ≡ state_word s) × StateFits s

building_found : (t : List ℕ) (s : State) → (strip (codes "Building=") t >>= λ digits.
    number_at (2 ^ 64 - 1) digits >>= λ n. Some (Building n)) ≡ Some s → IsWordOf t s
building_found t s e =
    let a = chained _ _ _ e in
    let b = chained _ _ _ a.2 in
    let n = (number_exact (2 ^ 64 - 1) (lit< tt)).found a.0 b.0 b.1 in
    subst (λ (y : State). IsWordOf t y) (some_is (Building b.0) s b.2) (
      strip_found (codes "Building=") t a.0 a.1 ∙ ap (λ (d : List ℕ). codes "Building=" ++ d) n.0,
      omega arith,
    )

state_found : (t : List ℕ) (s : State) → state_at t ≡ Some s → (t ≡ state_word s) × StateFits s
unfolding state_at
state_found t s e =
    or_word state_word StateFits t s NeedsBuild _ tt (
    or_word state_word StateFits t s Built _ tt (
    or_word state_word StateFits t s Uploaded _ tt (
    or_word state_word StateFits t s Installed _ tt (
    or_word state_word StateFits t s DepWait _ tt (
    or_word state_word StateFits t s BdUninstallable _ tt (
    or_word state_word StateFits t s BuildAttempted _ tt (
    or_word state_word StateFits t s Failed _ tt (
    or_word state_word StateFits t s NotForUs _ tt (building_found t s))))))))) e

state_again : (s : State) → StateFits s → state_at (state_word s) ≡ Some s
unfolding state_at
state_again NeedsBuild h = refl
state_again (Building n) h =
    rw (
      strip_again (codes "Building=") (decimal n),
      (number_exact (2 ^ 64 - 1) (lit< tt)).again n (omega arith),
    ) refl
state_again Built h = refl
state_again Uploaded h = refl
state_again Installed h = refl
state_again DepWait h = refl
state_again BdUninstallable h = refl
state_again BuildAttempted h = refl
state_again Failed h = refl
state_again NotForUs h = refl

pub state_exact : Exact state_at state_word StateFits
state_exact = record { found = state_found; again = state_again }

-- no byte below the letters, digits and signs of the words stands in a state's word
state_word_lacks : (c : ℕ) → c < 33 → (s : State) → StateFits s → Without c (state_word s)
state_word_lacks c low = words
  where
    above : (t : List ℕ) → list_all (λ x. nat_lt 32 x) t ≡ true → Without c t
    above t h = Without-from_test (λ x. nat_lt 32 x) c t (grind (arith, nat_tests)) h

    words : (s : State) → StateFits s → Without c (state_word s)
    words NeedsBuild h = above (state_word NeedsBuild) refl
    words (Building n) h =
        Without-append c (codes "Building=") (decimal n) (above (codes "Building=") refl)
        (Without-decimal c n (omega arith) h)
    words Built h = above (state_word Built) refl
    words Uploaded h = above (state_word Uploaded) refl
    words Installed h = above (state_word Installed) refl
    words DepWait h = above (state_word DepWait) refl
    words BdUninstallable h = above (state_word BdUninstallable) refl
    words BuildAttempted h = above (state_word BuildAttempted) refl
    words Failed h = above (state_word Failed) refl
    words NotForUs h = above (state_word NotForUs) refl

pub state_lacks_space : (s : State) → StateFits s → Without 32 (state_word s)
state_lacks_space = state_word_lacks 32 (omega arith)

pub state_lacks_newline : (s : State) → StateFits s → Without 10 (state_word s)
state_lacks_newline = state_word_lacks 10 (omega arith)
