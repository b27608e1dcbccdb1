-- `reports_are_one_text`: its clauses.
use Rattle.td_report.proofs.OneText.{one_report, one_text_of_waves}
use Rattle.td_report.proofs.laws.reports_are_one_text.Goals as goal

pub returns-clause-reports : goal.returns-clause-reports
returns-clause-reports c = one_report

pub returns-clause-waves : goal.returns-clause-waves
returns-clause-waves c = one_text_of_waves
