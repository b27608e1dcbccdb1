-- The moves of an opening lead to the book at rest.
use Rattle.std.proofs.Common.{◌≡◌, ℕ, List, length, replicate, ap, refl, sym, subst, ◌∙◌}
use Rattle.std.proofs.lemmas.List.{length-replicate}
use Rattle.td_board.specs.declared.views.RowView.{RowView}
use Rattle.td_board.specs.declared.views.RowView.TheVariants as views
use Rattle.td_rows.specs.Table.{Table, keys_of}
use Rattle.td_change.specs.Saved.{number_of}
use Rattle.td_supply.specs.Supply.{Stock}
use Rattle.td_core.specs.History.{History, rows_of, opened}
use Rattle.td_core.specs.declared.step.Phase.{Phase}
use Rattle.td_core.specs.declared.step.Phase.TheVariants.{Closed}
use Rattle.td_core.specs.declared.step.Hand.TheVariants as hands
use Rattle.td_core.specs.Phases.{Suits, NoneBuilt}
use Rattle.td_journal.proofs.Undoing.{replay-none}
use Rattle.td_core.proofs.Phases.{keys_of-rows_of}
use Rattle.td_core.specs.Worlds.{InHand, IsWorld, world_of}
use Rattle.td_core.proofs.WorldSteps.{slice_get-replicate}
use Rattle.td_book.specs.Desk.{Fixed}
use Rattle.td_book.specs.Seen.{seen_off}
use Rattle.td_book.proofs.Returns.{length-rows}
use Rattle.td_book.proofs.Seeing.{unbuilt_off}
use Rattle.td_book.proofs.Steps.{up_now}
use Rattle.td_steps.specs.Sees.{Desk, resting, Sees, Fits, FitAll}
use Rattle.td_steps.specs.Runs.{LeadsOn}
use Rattle.td_steps.specs.Parts.{offering}
use Rattle.td_steps.proofs.Parts.{Leads, leads-on, desk_off, offering-all}
use Rattle.td_steps.specs.Openings.{first_desk, world_from, desk_from, MayOpen}
use Rattle.td_steps.specs.Openings.{HistoriesOpen, OpeningsAreSteps, begun}
use Rattle.td_steps.proofs.Tries.{done-offering}

fit-replicate : (n : ℕ) → FitAll (replicate n views.In) (replicate n Closed)
fit-replicate n i v p view phase =
    subst (λ (x : RowView). Fits x p) (sym (slice_get-replicate n i views.In v view))
    (subst (λ (x : Phase). Fits views.In x) (sym (slice_get-replicate n i Closed p phase)) tt)

sound-from : (h : History) (s : Stock) (n : ℕ) → MayOpen h → IsWorld (world_from h s n)
sound-from h s n may = record {
  rising = may.rising;
  lawful = may.lawful;
  sized = length-replicate (length h.opening) Closed;
  suits = λ k p row phase found.
      subst (λ (x : Phase). Suits x row.state)
      (sym (slice_get-replicate (length h.opening) (number_of h.opening k) Closed p phase))
      (may.idle k row found);
  keys = may.keys;
  held = λ k p phase. subst (InHand (replicate n hands.Free) k)
      (sym (slice_get-replicate (length h.opening) (number_of h.opening k) Closed p phase)) tt;
}

first-seen : (h : History) (s : Stock) (n : ℕ) → MayOpen h
    → Sees (world_from h s n) (desk_from h s n)
first-seen h s n may = record {
  sound = sound-from h s n may;
  history = refl;
  supply = refl;
  builders = length-replicate n hands.Free;
  sized = length-replicate (length h.opening) views.In
      ∙ sym (length-replicate (length h.opening) Closed);
  fits = fit-replicate (length h.opening);
}

pub opens-leads : (h : History) (fixed : Fixed) → MayOpen h
    → Leads (desk_from h fixed.stock fixed.builders) (offering (rows_of h) (keys_of (rows_of h)))
    (resting (begun h fixed))
opens-leads h fixed may =
    let first = desk_from h fixed.stock fixed.builders in
    let ks = keys_of (rows_of h) in
    let rise = up_now h may.rising in
    let view : replicate (length h.opening) views.In ≡ seen_off ks (rows_of h) =
    ap (λ (n : ℕ). replicate n views.In) (sym (length-rows h))
    ∙ unbuilt_off (rows_of h) rise may.idle in
    let start : first ≡ desk_off h fixed.stock fixed.builders ks =
    ap (λ (x : List RowView). record first { view = x }) view in
    subst (λ (x : Desk). Leads x (offering (rows_of h) ks) (resting (begun h fixed))) (sym start)
    (offering-all h fixed.stock fixed.builders may.rising ks rise)

pub histories_open : HistoriesOpen
histories_open h fixed may =
    let ks = keys_of (rows_of h) in
    let sees = first-seen h fixed.stock fixed.builders may in
    record {
      sees = sees;
      leads = leads-on (world_from h fixed.stock fixed.builders)
          (desk_from h fixed.stock fixed.builders) (resting (begun h fixed))
          (offering (rows_of h) ks) sees (opens-leads h fixed may);
      made = done-offering h.opening (rows_of h) ks (keys_of-rows_of h);
    }

-- the history before the first entry
pub openings_are_steps : OpeningsAreSteps
openings_are_steps t fixed up none =
    let same : rows_of (opened t) ≡ t = replay-none t in
    let o = histories_open (opened t) fixed
    (record { rising = up; lawful = tt; keys = tt; idle = subst NoneBuilt (sym same) none }) in
    record {
      sees = o.sees;
      leads = subst (λ (u : Table).
          LeadsOn (world_of t fixed.stock fixed.builders) (first_desk t fixed.stock fixed.builders)
          (offering u (keys_of u))
          (resting (begun (opened t) fixed))) same o.leads;
    }
