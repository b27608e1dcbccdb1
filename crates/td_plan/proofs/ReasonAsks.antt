-- What a source asks for anywhere, by what it asks for at each place.
use Rattle.std.proofs.Common.{◌≡◌, ◌∙◌, ℕ, ◌<◌, Bool, true, List, [], Some, ap, arith, length, refl}
use Rattle.std.proofs.Common.{slice_get, subst, sym}
use Rattle.std.specs.Global.{Vec}
use Rattle.std.specs.List.{Contains, list_any}
use Rattle.std.proofs.lemmas.List.{get_or-map}
use Rattle.std.proofs.lemmas.Option.{get_or_from_slice_get, slice_get_within}
use Rattle.td_indices.specs.Archive.{Contents}
use Rattle.td_plan.specs.declared.asks.Ask.{Ask}
use Rattle.td_plan.specs.declared.movers.Mover.{Mover}
use Rattle.td_plan.specs.inner.Askers.{AreAsksOf}
use Rattle.td_plan.specs.inner.Asking.{IsByOwner, asks_at}
use Rattle.td_plan.specs.inner.Bases.{AreAsksAnywhere, IsAskAnywhere, any_asked}
use Rattle.td_plan.specs.inner.Movers.{has_moving_motion}
use Rattle.td_plan.specs.inner.Waiters.{kept_of}
use Rattle.td_plan.proofs.AskedFor.{ask-is, ask-itself, same_ask}
use Rattle.td_plan.proofs.Chosen.{any-again, any-found}
use Rattle.td_plan.proofs.Picked.{has-numbered, numbered-has}
use Rattle.td_plan.proofs.Waiters.{at-below}

module _ (a : Contents) (ms : List Mover) (own : ℕ) (m : Mover) (asks : List (Vec Ask))
    (of : AreAsksOf a ms own m asks)
    (source : slice_get a.sources m.number ≡ Some (kept_of m))
    (moves : has_moving_motion m ≡ true) (all : List Ask)
    (same : (test : Ask → Bool) → list_any test all ≡ any_asked test asks)
    (in_order : IsByOwner all) where
  at-place : (place : ℕ) (list : Vec Ask) → slice_get asks place ≡ Some list
      → asks_at asks place ≡ list.items
  at-place place list at =
      get_or-map (λ (v : Vec Ask). v.items) asks place list [] (slice_get_within asks place list at)
      ∙ ap (λ (v : Vec Ask). v.items) (get_or_from_slice_get asks place list list at)

  long : length asks ≡ length a.table
  long = of.len (kept_of m) source moves

  each-is : (ask : Ask) → Contains all ask → IsAskAnywhere a ms own (kept_of m) ask
  each-is ask has =
      let list = any-found (λ (v : Vec Ask). list_any (same_ask ask) v.items) asks
      (sym (same (same_ask ask))
      ∙ any-again (same_ask ask) all ask has (ask-itself ask ask refl)) in
      let mine = any-found (same_ask ask) list.0.items list.2 in
      let place = has-numbered asks list.0 list.1 in
      let within : place.0 < length a.table =
      omega (arith, long, slice_get_within asks place.0 list.0 place.1) in
      let there : Contains (asks_at asks place.0) ask =
      subst (λ (l : List Ask). Contains l ask) (sym (at-place place.0 list.0 place.1))
      (subst (Contains list.0.items) (sym (ask-is ask mine.0 mine.2)) mine.1) in
      record {
        place = place.0;
        within = within;
        is = (of.at (kept_of m) place.0 source moves within).each ask there;
      }

  is-each : (ask : Ask) → IsAskAnywhere a ms own (kept_of m) ask → Contains all ask
  is-each ask h =
      let low : h.place < length asks = omega (arith, long, h.within) in
      let list = at-below asks h.place low in
      let there = (of.at (kept_of m) h.place source moves h.within).all ask h.is in
      let mine : Contains list.0.items ask =
      subst (λ (l : List Ask). Contains l ask) (at-place h.place list.0 list.1) there in
      let found = any-found (same_ask ask) all (same (same_ask ask)
      ∙ any-again (λ (v : Vec Ask). list_any (same_ask ask) v.items) asks list.0
      (numbered-has asks h.place list.0 list.1)
      (any-again (same_ask ask) list.0.items ask mine (ask-itself ask ask refl))) in
      subst (Contains all) (sym (ask-is ask found.0 found.2)) found.1

  pub are-anywhere : AreAsksAnywhere a ms own (kept_of m) all
  are-anywhere = record { each = each-is; all = is-each; in_order = in_order }
