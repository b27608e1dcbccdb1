-- Which inputs are those of a plan's premises, and a source as the definitions have it.
use Rattle.std.specs.Prelude.{◌≡◌}
use Rattle.td_indices.specs.declared.sourced.Source.{Source}
use Rattle.td_indices.specs.Seen.{seen_source}
use Rattle.td_indices.specs.Sources.{KeptSource}
use Rattle.td_query.specs.Marks.{AreMarks}
use Rattle.td_plan.specs.declared.inputs.Inputs.{Inputs}
use Rattle.td_plan.specs.Premises.{Premises}

-- the inputs are the premises' archive and rows, and what their tracker says of the stanzas
pub record AreFor (x : Inputs) (p : Premises) : Type 0 where
  pub archive : x.archive.now ≡ p.archive
  pub marks : AreMarks p.archive p.tracker x.marks.now
  pub rows : x.rows.now ≡ p.rows

-- what an archive keeps of the source that it shows
abbrev pub kept_source : Source → KeptSource
kept_source s = record { head = (seen_source s).head; stanza = s.stanza }
