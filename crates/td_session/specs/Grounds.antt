-- Over what a session is held: what the texts of an archive's files say. This project's own.
use Rattle.std.specs.Prelude.{◌≡◌, [], ◌∷◌, None, option_map, string_bytes}
use Rattle.td_rows.specs.Table.{Table}
use Rattle.td_indices.specs.Archive.{Contents}
use Rattle.td_indices.specs.Supplying.{supply_of}
use Rattle.td_inputs.specs.Inputs.{AreRowsOf, IsArchiveOf, Texts}
use Rattle.td_script.specs.Openings.{AreReports}
use Rattle.td_script.specs.Replies.{Setting}
use Rattle.td_session.specs.declared.texts.SessionTexts.{SessionTexts}

-- the texts of a session: those of a script that goes on with no journal
abbrev pub texts_of : SessionTexts → Texts
texts_of x = record {
  archs = string_bytes x.archs;
  packages = string_bytes x.packages;
  sources = string_bytes x.sources;
  state = option_map string_bytes x.state;
  tracker = option_map string_bytes x.tracker;
  journal = None;
  suite = string_bytes x.suite;
}

-- what the texts say: an archive, the rows with which a desk opens over it, and what its lines are
-- answered by: the offers of the index, the suite, and the reports of the tracker
pub record IsGround (x : Texts) (c : Contents) (rows : Table) (s : Setting) : Type 0 where
  pub archive : IsArchiveOf x c
  pub rows_are : AreRowsOf c x.state rows
  pub stock : s.stock ≡ supply_of c
  pub suites : s.suites ≡ x.suite ∷ []
  pub reports : AreReports c x.tracker s.report

-- the texts say something: none of them is refused
abbrev pub HaveGround : Texts → Type 0
HaveGround x = (c : Contents) × (rows : Table) × (s : Setting) × IsGround x c rows s
