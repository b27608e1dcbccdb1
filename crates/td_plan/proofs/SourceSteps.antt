-- The lines of a source, from what is found for it.
use Rattle.std.proofs.Common.{◌≡◌, ℕ, ◌<◌, ◌++◌, [], Bool, true, false, cond, codes, decimal}
use Rattle.std.proofs.Common.{List}
use Rattle.std.proofs.Common.{length, map, Some, sym, ap, ap₂, ◌∙◌}
use Rattle.std.specs.Prelude.{filter, slice_get}
use Rattle.std.specs.List.{flat_map, range_with_len}
use Rattle.std.specs.Option.{option_map_or}
use Rattle.td_text.proofs.Chain.{some_is}
use Rattle.td_relation.specs.Arch.{ArchWords}
use Rattle.td_indices.specs.Archive.{Contents}
use Rattle.td_indices.specs.Sources.{KeptSource}
use Rattle.td_plan.specs.declared.movers.Mover.{Mover}
use Rattle.td_plan.specs.declared.relations.Told.{Told}
use Rattle.td_plan.specs.declared.source_text.SourceText.{SourceText}
use Rattle.td_plan.specs.declared.waits.Waits.{Waits}
use Rattle.td_plan.specs.Due.{due_places, is_due, number_of}
use Rattle.td_plan.specs.Lines.{Words, command_line, named_with, nmu_line}
use Rattle.td_plan.specs.Message.{quoted}
use Rattle.td_plan.specs.Placing.{Placing}
use Rattle.td_plan.specs.Plan.{all_waiting, arch_names, dw_lines, is_beside, is_waiting}
use Rattle.td_plan.specs.Plan.{no_wait_lines}
use Rattle.td_plan.specs.Premises.{Premises, arch_at, name_of}
use Rattle.td_plan.specs.Waits.{awaited, is_waitless, waits_of}
use Rattle.td_plan.specs.inner.Movers.{IsMover, is_due_motion}
use Rattle.td_plan.specs.inner.Sources.{AreAllWaits, AreRowWaits, IsTold}
use Rattle.td_plan.specs.inner.Told.{groups, seen_told, waiting_from}
use Rattle.td_plan.specs.inner.Waiters.{AreWaits, IsWaiter, kept_of}
use Rattle.td_plan.specs.inner.Waiting.{seen}
use Rattle.td_plan.specs.inner.Writing.{group_lines, no_waits_at}
use Rattle.td_plan.proofs.MovingSources.{due-at, due-places-are}
use Rattle.td_plan.proofs.SourceWaits.{dw-all, no-waits-all}

module _ (p : Premises) (x : Placing) (s : KeptSource) (t : SourceText) (is : IsTold p x s t) where
  -- a source waits at a place as this waiter
  pub told-waiter : (place : ℕ) → place < length p.archive.table
      → IsWaiter p (is_beside x s) s (record {
        archive = t.archive;
        movers = t.movers;
        firsts = t.firsts;
        mover = t.number;
        place = place;
      })
  told-waiter place low = record {
    archive = is.archive;
    sound = is.sound;
    apart = is.apart;
    movers = is.movers;
    own = is.own;
    at = is.at;
    is = is.is;
    place = low;
    parts = is.parts;
  }

  module _ (m : Mover) (at : slice_get t.movers.now t.number ≡ Some m) where
    source-is : kept_of m ≡ s
    source-is = ap kept_of (some_is m is.own (sym at ∙ is.at)) ∙ is.is

    mover-is : IsMover p m (kept_of m)
    mover-is = is.movers.each t.number m at

    due-is : (place : ℕ) → place < length p.archive.table
        → option_map_or is_due_motion (slice_get m.motions.at.items place) false
        ≡ is_due p s place
    due-is place low = due-at p (kept_of m) m.motions mover-is.motions place low
        ∙ ap (λ (u : KeptSource). is_due p u place) source-is

    -- a source waits for nothing if its row isn't due
    pub row-none : (place : ℕ) → place < length p.archive.table
        → option_map_or is_due_motion (slice_get m.motions.at.items place) false ≡ false
        → (w : Waits) → w.waits.items ≡ [] → w.waitless.items ≡ [] → AreRowWaits p x s place w
    row-none place low fails w waits names =
        let due : is_due p s place ≡ false = sym (due-is place low) ∙ fails in
        record {
          waits = ap (map seen) waits ∙ sym (ap (λ (b : Bool).
              cond b (waits_of (is_beside x s) p s place) []) due);
          waitless = ap (map (λ name. name.now)) names ∙ sym (ap (λ (b : Bool). cond b
              (map name_of (filter (is_waitless p s place) (awaited (is_beside x s) p s place)))
              []) due);
        }

    pub row-waits : (place : ℕ) → place < length p.archive.table
        → option_map_or is_due_motion (slice_get m.motions.at.items place) false ≡ true
        → (w : Waits) → AreWaits p (is_beside x s) s place w → AreRowWaits p x s place w
    row-waits place low passes w are =
        let due : is_due p s place ≡ true = sym (due-is place low) ∙ passes in
        record {
          waits = are.waits ∙ sym (ap (λ (b : Bool).
              cond b (waits_of (is_beside x s) p s place) []) due);
          waitless = are.waitless ∙ sym (ap (λ (b : Bool). cond b
              (map name_of (filter (is_waitless p s place) (awaited (is_beside x s) p s place)))
              []) due);
        }

    -- the line that rebuilds a source
    pub rebuild-is : (words : Words) (table : List ArchWords) (places : List ℕ)
        → table ≡ t.archive.now.table
        → places ≡ filter (λ place. option_map_or is_due_motion
        (slice_get m.motions.at.items place) false) (range_with_len 0 (length t.archive.now.table))
        → command_line (codes "nmu " ++ decimal m.motions.number)
        (named_with m.source.name.now m.source.version.now) (map (arch_at table) places)
        words.suite (quoted words.message)
        ≡ nmu_line words s (number_of p s) (arch_names p (due_places p s))
    rebuild-is words table places tables dues =
        let all : table ≡ p.archive.table = tables ∙ ap (λ (a : Contents). a.table) is.archive in
        let chosen : places ≡ due_places p (kept_of m) =
        dues ∙ ap (λ (a : Contents). filter (λ place. option_map_or is_due_motion
        (slice_get m.motions.at.items place) false) (range_with_len 0 (length a.table))) is.archive
        ∙ due-places-are p (kept_of m) m.motions mover-is.motions in
        ap (λ (n : ℕ). command_line (codes "nmu " ++ decimal n)
        (named_with m.source.name.now m.source.version.now) (map (arch_at table) places)
        words.suite (quoted words.message)) mover-is.motions.number
        ∙ ap₂ (λ (a : List ArchWords) (b : List ℕ). nmu_line words (kept_of m)
        (number_of p (kept_of m)) (map (arch_at a) b)) all chosen
        ∙ ap (λ (u : KeptSource). nmu_line words u (number_of p u) (arch_names p (due_places p u)))
        source-is

    -- the lines by which a source waits
    pub waits-lines : (words : Words) (all : List Waits) (told : List Told)
        → AreAllWaits p x s all
        → map seen_told told ≡ groups [] (filter is_waiting (waiting_from 0 all))
        → flat_map (group_lines words t.archive.now.table (kept_of m) all) (map seen_told told)
        ++ flat_map (no_waits_at t.archive.now.table m.source.name.now all)
        (range_with_len 0 (length all))
        ≡ dw_lines words p s [] (all_waiting x p s)
        ++ flat_map (no_wait_lines x p s) (due_places p s)
    waits-lines words all told are groups_are =
        ap (λ (a : Contents). flat_map (group_lines words a.table (kept_of m) all)
        (map seen_told told) ++ flat_map (no_waits_at a.table (kept_of m).head.name all)
        (range_with_len 0 (length all))) is.archive
        ∙ ap (λ (u : KeptSource). flat_map (group_lines words p.archive.table u all)
        (map seen_told told) ++ flat_map (no_waits_at p.archive.table u.head.name all)
        (range_with_len 0 (length all))) source-is
        ∙ ap₂ (λ (a b : List (List ℕ)). a ++ b) (dw-all words p x s all told are groups_are)
        (no-waits-all p x s all are)
