-- `take_held`: the clauses `key` and `stays`.
use Rattle.std.proofs.Common.{◌≡◌, ℕ, ◌-◌, ◌<◌, List, Some, None, length, get_or, slice_get, ap}
use Rattle.std.proofs.Common.{refl, sym, ◌∙◌}
use Rattle.std.proofs.lemmas.Option.{slice_get-get_or}
use Rattle.td_rows.specs.declared.key.Key.{Key}
use Rattle.td_core.specs.declared.step.Hand.{Hand}
use Rattle.td_core.specs.declared.step.Hand.TheVariants.{Free, Holding, Finished}
use Rattle.td_core.specs.Worlds.{held_in}
use Rattle.td_core.proofs.Phases.{set-same}
use Rattle.td_core.proofs.stepping.take_held.Goals as goal

-- a hand that holds no row
none_held : (h : Hand) → ((k : Key) → h ≡ Holding k → ⊥) → None ≡ held_in (Some h)
none_held Free other = refl
none_held (Holding k) other = absurd (other k refl)
none_held (Finished k o) other = refl

-- the hand that was taken out stands there
there : (hands : List Hand) (i : ℕ) (h taken : Hand) → i < length hands → taken ≡ h
    → h ≡ get_or hands i h → slice_get hands i ≡ Some taken
there hands i h taken within was is =
    slice_get-get_or hands i h within ∙ ap (λ (x : Hand). Some x) (sym is ∙ sym was)

pub returns-in_default-clause-key : goal.returns-in_default-clause-key
returns-in_default-clause-key c =
    none_held c.replace.result c.in_default.not-Holding
    ∙ ap held_in (sym (there c.args.hands.now.items (c.args.builder - 1) c.index_mut-hand.result.now
    c.replace.result c.requires.within.1 c.replace.ensures.value c.index_mut-hand.ensures.value))

pub returns-in_default-clause-stays : goal.returns-in_default-clause-stays
returns-in_default-clause-stays c =
    set-same c.args.hands.now.items (c.args.builder - 1) c.replace.result
    (there c.args.hands.now.items (c.args.builder - 1) c.index_mut-hand.result.now c.replace.result
    c.requires.within.1 c.replace.ensures.value c.index_mut-hand.ensures.value)
