-- What is made of an archive: its rows, and what is known of them.
use Rattle.std.proofs.Common.{◌≡◌, ◌∙◌, ℕ, List, [], ◌∷◌, Option, Some, None, Ok, subst, sym}
use Rattle.td_text.specs.Lines.{lines_of}
use Rattle.td_rows.specs.declared.key.Key.{Key}
use Rattle.td_rows.specs.Overlay.{first_missing, overlaid}
use Rattle.td_rows.specs.StateFile.{IsStateFile}
use Rattle.td_rows.specs.Table.{Table}
use Rattle.td_core.specs.Phases.{NoneBuilt}
use Rattle.td_supply.specs.Supply.{stock_of}
use Rattle.td_indices.specs.Archive.{Contents}
use Rattle.td_inputs.specs.Inputs.{AreOpened, AreRowsOf, IsArchiveOf, Texts}
use Rattle.td_inputs.proofs.OpeningLaws.{replaced_rows}
use Rattle.td_inputs.proofs.StateLaws.{state_put}
use Rattle.td_script.proofs.OpeningLaws.{given_are, given_idle}
use Rattle.td_script.specs.Openings.{AreReports}
use Rattle.td_script.specs.Replies.{Setting}
use Rattle.td_session.specs.declared.ground.Ground.{Ground}
use Rattle.td_session.specs.Grounds.{IsGround}
use Rattle.td_session.specs.inner.Grounding.{IsGroundOf}

-- rows that a state file was put over
pub put_over : (c : Contents) (rows new given : Table) (state : Option (List ℕ)) (text : List ℕ)
    → AreOpened c rows → NoneBuilt rows → state ≡ Some text → IsStateFile (lines_of text) given
    → ((t : Table) → IsStateFile (lines_of text) t → given ≡ t) → new ≡ overlaid given rows
    → ((k : Key) → first_missing rows given ≡ Some k → ⊥) → AreRowsOf c state new × NoneBuilt new
put_over c rows new given state text opened idle is file only over none =
    let put = state_put rows text (Ok given) (Ok new) idle file only tt (over, none) tt in
    let rows_given = replaced_rows c rows state text new opened is put.rows put.idle in
    (given_are c state new rows_given, given_idle c state new rows_given)

-- reports come with a tracker
pub no_reports : (c : Contents) (tracker : Option (List ℕ)) → tracker ≡ None
    → AreReports c tracker None
no_reports c tracker is =
    subst (λ (o : Option (List ℕ)). AreReports c o None) (sym is) tt

-- what lines are answered by at a ground of what the texts say
pub is_ground : (x : Texts) (c : Contents) (g : Ground) (s : Setting) → IsArchiveOf x c
    → IsGroundOf x c g → s.stock ≡ stock_of g.supply → s.suites ≡ x.suite ∷ []
    → AreReports c x.tracker s.report → IsGround x c g.rows s
is_ground x c g s archive made stock suites reports = record {
  archive = archive;
  rows_are = made.rows;
  stock = stock ∙ made.stock;
  suites = suites;
  reports = reports;
}
