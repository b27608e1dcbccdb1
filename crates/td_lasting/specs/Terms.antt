-- By what lines are answered, as the code has it. This project's own.
use Rattle.std.specs.Prelude.{◌≡◌, IfSome}
use Rattle.td_report.specs.TransitionView.{IsMade}
use Rattle.td_script.specs.Replies.{Setting}
use Rattle.td_script.specs.Reporting.{report_by}
use Rattle.td_script.specs.Settings.{setting_lent}
use Rattle.td_supply.specs.Supply.{Stock}
use Rattle.td_lasting.specs.declared.terms.Terms.{Terms}

-- these offers, with the suites and what makes reports
abbrev pub setting_of : Stock → Terms → Setting
setting_of stock terms = setting_lent report_by stock terms.suites.now terms.reports

-- reports are made of an archive and its groups
abbrev pub AreTerms : Terms → Type 0
AreTerms terms = IfSome terms.reports (λ r. IsMade r.now)
