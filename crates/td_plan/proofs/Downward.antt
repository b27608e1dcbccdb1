-- Waits lead to lower steps.
use Rattle.std.proofs.Common.{◌≡◌, ℕ, ◌<◌, not, true, false, ◌&&◌, length, refl}
use Rattle.std.proofs.Common.{sym, ap, ◌∙◌, inl}
use Rattle.std.specs.List.{Contains}
use Rattle.std.specs.Str.{bytes_eq}
use Rattle.std.proofs.lemmas.Bool.{and_from, and_parts, or_left}
use Rattle.std.proofs.lemmas.Slice.Eq.{bytes_eq-Decides}
use Rattle.td_text.proofs.Anywhere.{any-below}
use Rattle.td_indices.specs.Sources.{KeptSource}
use Rattle.td_waves.specs.Waves.{BuildsOn}
use Rattle.td_plan.specs.BuildsThere.{builds_there}
use Rattle.td_plan.specs.Due.{is_due, is_moving, moves}
use Rattle.td_plan.specs.PartLaws.{WaitsLeadDown}
use Rattle.td_plan.specs.Parts.{IsOnePart}
use Rattle.td_plan.specs.Placing.{Moves, Placing}
use Rattle.td_plan.specs.Plan.{is_beside}
use Rattle.td_plan.specs.Premises.{Premises}
use Rattle.td_plan.specs.Waits.{awaited, is_source_before, moving_sources}
use Rattle.td_plan.proofs.Chosen.{any-again, filter-found, find-has, in_order-found}
use Rattle.td_plan.proofs.Somewhere.{sources_build_somewhere}

-- a source of the archive that moves is a node
moves-is : (p : Premises) (s : KeptSource) → Contains p.archive.sources s → moves p s ≡ true
    → Moves p s.head.name
moves-is p s has h =
    any-again (λ (x : KeptSource). bytes_eq s.head.name x.head.name && moves p x)
    p.archive.sources s has
    (and_from _ _ ((bytes_eq-Decides s.head.name s.head.name).1 refl) h)

due-moves : (p : Premises) (s : KeptSource) (place : ℕ) → place < length p.archive.table
    → is_due p s place ≡ true → moves p s ≡ true
due-moves p s place low due =
    any-below (is_moving p s) (length p.archive.table) place low (or_left _ _ due)

-- what is awaited moves, is built on there, and is of another part
pub record IsAwaited (x : Placing) (p : Premises) (s : KeptSource) (place : ℕ)
    (t : KeptSource) : Type 0 where
  pub kept : Contains p.archive.sources t
  pub moving : moves p t ≡ true
  pub there : is_moving p t place ≡ true
  pub builds : builds_there p.archive place s t ≡ true
  pub apart : not (is_beside x s t) ≡ true

pub awaited-found : (x : Placing) (p : Premises) (s : KeptSource) (place : ℕ) (t : KeptSource)
    → Contains (awaited (is_beside x s) p s place) t → IsAwaited x p s place t
awaited-found x p s place t h =
    let r = filter-found (λ (u : KeptSource). is_moving p u place
    && (builds_there p.archive place s u && not (is_beside x s u))) (moving_sources p) t h in
    let both = and_parts _ _ r.1 in
    let rest = and_parts _ _ both.1 in
    let m = filter-found (moves p) p.archive.sources t
    (in_order-found is_source_before _ t r.0) in
    record { kept = m.0; moving = m.1; there = both.0; builds = rest.0; apart = rest.1 }

pub waits_lead_down : WaitsLeadDown
waits_lead_down p x s t place placing named low due has =
    let r = awaited-found x p s place t has in
    let own = find-has (λ (u : KeptSource). bytes_eq s.head.name u.head.name) p.archive.sources s
    named in
    let node_s = moves-is p s own.0 (due-moves p s place low due) in
    let node_t = moves-is p t r.kept r.moving in
    let builds : BuildsOn p.archive s.head.name t.head.name =
    (sources_build_somewhere p.archive s t named).1 (place, low, r.builds) in
    let one = placing.placed.parts s.head.name t.head.name node_s node_t in
    let apart : ¬ IsOnePart (Moves p) (BuildsOn p.archive) s.head.name t.head.name = (λ h.
    let same = (bytes_eq-Decides (x.first t.head.name) (x.first s.head.name)).1 (sym (one.1 h)) in
    let bad : false ≡ true = sym (ap not same) ∙ r.apart in (cc)) in
    (placing.placed.steps s.head.name node_s).above t.head.name node_t
    (record { by = s.head.name; node = node_s; within = inl refl; on = builds; apart = apart })
