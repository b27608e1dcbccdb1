-- What the loop of `read_entries` keeps, and why it ends.
use Rattle.std.proofs.Common.{◌≡◌, ◌≤◌, ℕ, length}
use denote.Text.{Utf8}
use denote.Shadow.{shadow}
use Rattle.td_query.specs.TrackerGrammar.{entries}
use Rattle.td_query.specs.TrackerViews.{said}
use Rattle.td_query.proofs.tracker_reading.read_entries.Given as goal

abbrev pub decreases-loop-at : goal.decreases-loop-at
decreases-loop-at l = length l.rest

-- what is left decides
abbrev pub invariant-loop-at : goal.invariant-loop-at
invariant-loop-at l = record {
  decides : (n : ℕ) × (length l.rest ≤ n)
      × (entries n (said l.keys) l.rest ≡ entries (length l.fn.text) (said l.fn.keys) l.fn.text);
  utf8 : shadow (Utf8 l.rest);
}
