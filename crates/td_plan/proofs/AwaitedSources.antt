-- A row waits for each source for which it is to wait, and for nothing else.
use Rattle.std.proofs.Common.{◌≡◌, ◌⊎◌, ℕ, ◌<◌, ◌&&◌, not, Bool, true, false, IsTrue, List, length}
use Rattle.std.proofs.Common.{Option, Some, None, refl, sym, ap, ◌∙◌, inl, inr}
use Rattle.std.specs.Prelude.{filter, is_none}
use Rattle.std.specs.List.{Contains, filter_map}
use Rattle.std.proofs.lemmas.Bool.{and_from, false_from_ne_true, false≢true, not-true}
use Rattle.std.proofs.lemmas.Bool.{not_from_false}
use Rattle.std.proofs.lemmas.Option.{cond_some}
use Rattle.td_text.proofs.Anywhere.{any-below}
use Rattle.td_version.specs.Version.{Parts}
use Rattle.td_indices.specs.Kept.{KeptBinary}
use Rattle.td_indices.specs.Sources.{KeptSource}
use Rattle.td_plan.specs.AwaitedLaws.{IsWaitFor, WaitsAreAll, WaitsFor}
use Rattle.td_plan.specs.BuildsThere.{builds_there}
use Rattle.td_plan.specs.Due.{arrival_number, is_moving, moves}
use Rattle.td_plan.specs.InOrder.{is_before}
use Rattle.td_plan.specs.Packages.{arrival_base, is_written, own_package, present_package}
use Rattle.td_plan.specs.Placing.{Placing}
use Rattle.td_plan.specs.Plan.{is_beside}
use Rattle.td_plan.specs.Premises.{Premises}
use Rattle.td_plan.specs.Waits.{Wait, awaited, is_source_before, is_wait_before, is_waitless}
use Rattle.td_plan.specs.Waits.{moving_sources, wait_for, wait_if, wait_of, wait_with, waits_of}
use Rattle.td_plan.proofs.Chosen.{filter-again, in_order-again, in_order-found}
use Rattle.td_plan.proofs.Downward.{awaited-found}
use Rattle.td_plan.proofs.Picked.{picked-again, picked-found}
use Rattle.td_plan.proofs.Rising.{AnyWay, before-any, before-trans, order-rises}
use Rattle.td_plan.proofs.SourceOrder.{awaited-apart, rising-pairs}
use Rattle.td_plan.proofs.Sorted.{any-way-picked}
use Rattle.td_plan.proofs.WaitOrder.{wait-for-package, waits-apart}

-- ---- 1. whose package is waited for

written-on : (t : KeptSource) (b : KeptBinary) (base : Parts) (number : ℕ) (older : Bool)
    (w : Wait) → wait_for t b base number older ≡ Some w → w.on ≡ t.head.name
written-on t b base number older w is =
    sym (ap (λ (v : Wait). v.on) (cond_some (is_written base number) _ w is).1)

-- a wait names the source for which it was written
pub wait-on : (p : Premises) (s t : KeptSource) (place : ℕ) (w : Wait)
    → wait_of p s place t ≡ Some w → w.on ≡ t.head.name
wait-on p s t place w is = by (present_package p.archive s t place) is
  where
    some : (older : Bool) (o : Option KeptBinary)
        → wait_if t (arrival_number p t place) older o ≡ Some w → w.on ≡ t.head.name
    some older None h = absurd (cc)
    some older (Some b) h =
        written-on t b (arrival_base t b) (arrival_number p t place) older w h

    by : (o : Option KeptBinary) → wait_with p s t place o ≡ Some w → w.on ≡ t.head.name
    by None h = some true (own_package p.archive s t place) h
    by (Some b) h = some false (Some b) h

-- ---- 2. what is awaited

module _ (p : Premises) (x : Placing) (s : KeptSource) (place : ℕ) where
  abbrev sources : List KeptSource
  sources = awaited (is_beside x s) p s place

  pub awaited-again : place < length p.archive.table → (t : KeptSource) → WaitsFor p x s place t
      → Contains (awaited (is_beside x s) p s place) t
  awaited-again low t h =
      let apart : is_beside x s t ≡ false = false_from_ne_true (is_beside x s t) h.apart in
      filter-again (λ (u : KeptSource). is_moving p u place
      && (builds_there p.archive place s u && not (is_beside x s u))) (moving_sources p) t
      (in_order-again is_source_before (filter (moves p) p.archive.sources) t
      (filter-again (moves p) p.archive.sources t h.kept
      (any-below (is_moving p t) (length p.archive.table) place low h.there)))
      (and_from (is_moving p t place) _ h.there
      (and_from (builds_there p.archive place s t) (not (is_beside x s t)) h.builds
      (not_from_false (is_beside x s t) apart)))

  awaited-is : (t : KeptSource) → Contains sources t → WaitsFor p x s place t
  awaited-is t has =
      let is = awaited-found x p s place t has in
      record {
        kept = is.kept;
        there = is.there;
        builds = is.builds;
        apart = λ beside. false≢true (sym (not-true (is_beside x s t) is.apart) ∙ beside);
      }

  -- ---- 3. the waits

  abbrev waits : List Wait
  waits = waits_of (is_beside x s) p s place

  each-told : place < length p.archive.table → (t : KeptSource) → WaitsFor p x s place t
      → IsTrue (is_waitless p s place t)
      ⊎ ((w : Wait) × Contains waits w × IsWaitFor p x s place w t)
  each-told low t h = by (wait_of p s place t) refl
    where
      by : (o : Option Wait) → wait_of p s place t ≡ o
          → IsTrue (is_waitless p s place t)
          ⊎ ((w : Wait) × Contains waits w × IsWaitFor p x s place w t)
      by None is = inl (ap is_none is)
      by (Some w) is = inr (
        w,
        in_order-again is_wait_before (filter_map (wait_of p s place) sources) w
            (picked-again (wait_of p s place) sources t w (awaited-again low t h) is),
        record { awaits = h; written = is; on = wait-on p s t place w is },
      )

  nothing-more : (w : Wait) → Contains waits w → (t : KeptSource) × IsWaitFor p x s place w t
  nothing-more w has =
      let found = picked-found (wait_of p s place) sources w
      (in_order-found is_wait_before (filter_map (wait_of p s place) sources) w has) in
      let t = found.0 in (
        t,
        record {
          awaits = awaited-is t found.1;
          written = found.2;
          on = wait-on p s t place w found.2;
        },
      )

pub waits_are_all : WaitsAreAll
waits_are_all p x s place planned apart =
    let sources = awaited (is_beside x s) p s place in
    let told = filter_map (wait_of p s place) sources in
    let any : AnyWay is_wait_before told =
    any-way-picked is_source_before is_wait_before (wait_of p s place) sources
    (λ t u v w between left right. before-any v.name w.name
    (waits-apart p apart place t u v w (wait-for-package p place s t v left)
    (wait-for-package p place s u w right) between))
    (awaited-apart p planned.sound (is_beside x s) s place) in
    record {
      each = each-told p x s place planned.there;
      no_more = nothing-more p x s place;
      rising = rising-pairs is_wait_before (λ (v w : Wait). IsTrue (is_before v.name w.name))
          (λ v w low. low) (waits_of (is_beside x s) p s place)
          (order-rises is_wait_before (λ u v w. before-trans u.name v.name w.name) told any);
    }
