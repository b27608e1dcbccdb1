-- From inputs to the premises that they are of, and back.
use Rattle.std.proofs.Common.{◌≡◌, ℕ, Option, None, Some, option_map, slice_get, sym}
use Rattle.std.proofs.Common.{ap, subst}
use Rattle.std.specs.Option.{option_map_or}
use Rattle.td_indices.specs.declared.sourced.Source.{Source}
use Rattle.td_indices.specs.Archive.{Contents}
use Rattle.td_indices.specs.Seen.{SourceSeen, seen_source, shown_source}
use Rattle.td_indices.specs.Sources.{KeptSource}
use Rattle.td_query.specs.Statuses.{row_status, status_at}
use Rattle.td_query.specs.Tracking.{Tracking}
use Rattle.td_plan.specs.declared.inputs.Inputs.{Inputs}
use Rattle.td_plan.specs.Premises.{Premises}
use Rattle.td_plan.specs.inner.Inputs.{AreFor, kept_source}

-- the archive and the rows of inputs, with a tracker
abbrev pub premises_of : Inputs → Tracking → Premises
premises_of x t = record { archive = x.archive.now; tracker = t; rows = x.rows.now }

-- what holds of the premises that `premises_of` makes of inputs, whenever these fit, holds of all
-- premises that fit the inputs
pub on_inputs : (x : Inputs) (P : Premises → Type 0)
    → ((t : Tracking) → AreFor x (premises_of x t) → P (premises_of x t))
    → (p : Premises) → AreFor x p → P p
on_inputs x P so p of =
    let same : premises_of x p.tracker ≡ p =
    λ i. record { archive = of.archive i; tracker = p.tracker; rows = of.rows i } in
    subst P same (so p.tracker (subst (AreFor x) (sym same) of))

-- a source that is shown is kept as it is shown
kept_from : (o : Option KeptSource) (x : Source) → Some (seen_source x) ≡ option_map shown_source o
    → o ≡ Some (kept_source x)
kept_from None x h = absurd (cc)
kept_from (Some s) x h =
    let seen : seen_source x ≡ shown_source s = cc in
    let whole = λ (y : SourceSeen). let it : KeptSource =
    record { head = y.head; stanza = y.stanza } in it in
    sym (ap (λ (k : KeptSource). Some k) (ap whole seen))

pub kept_found : (a : Contents) (number : ℕ) (x : Source)
    → Some (seen_source x) ≡ option_map shown_source (slice_get a.sources number)
    → slice_get a.sources number ≡ Some (kept_source x)
kept_found a number x h = kept_from (slice_get a.sources number) x h

-- the status by the number of a source is that of the source
pub status_numbered : (a : Contents) (t : Tracking) (number place : ℕ) (s : KeptSource)
    → slice_get a.sources number ≡ Some s → status_at a t number place ≡ row_status a t s place
status_numbered a t number place s at =
    ap (λ (o : Option KeptSource). option_map_or (λ x. row_status a t x place) o None) at
