-- The lines are answered one after the other.
use Rattle.std.proofs.Common.{List, ap, refl, subst, sym, ◌∙◌, ℕ}
use Rattle.std.specs.Prelude.{string_bytes}
use Rattle.td_script.specs.Settings.{setting_lent}
use Rattle.td_crew.specs.declared.line_answers.LineTurn.{LineTurn}
use Rattle.td_crew.specs.CrewText.{IsReplied, told_with}
use Rattle.td_crew.proofs.ToldSoFar.{IsSoFar, so_far-begun, so_far-done, so_far-next, so_told}
use Rattle.td_crew.proofs.told.tell_lines.Goals as goal

pub loop-line-init : goal.loop-line-init
loop-line-init g c = (
  so_far-begun _ _ _ _ _ c.args.lines.now.script _ _ _ c.new.ensures.text refl c.requires.new
      c.new.ensures.rest,
  refl,
  c.new.ensures.script,
)

pub loop-line-preserved : goal.loop-line-preserved
loop-line-preserved g c =
    let told = c.loop-line.told in
    let more = c.add_line.new.told in
    let mine = subst (λ (parts : ℕ).
    IsReplied g.N.Named.table g.N.Named.origin g.N.Named.opened parts
    (setting_lent g.T.Reports.text g.N.Named.origin.stock c.args.lines.now.suites.now
    c.args.lines.now.reports)
    c.in-Some.line.now
    (told_with (record { text = c.next.new.self.text; refused = told.refused })
    c.loop-line.clerk.receipts)
    (told_with (record { text = more.answers.text; refused = more.refused })
    c.add_line.new.clerk.receipts)) c.loop-line.invariant.1 c.in_ok-add_line.ensures.replied in
    let replied = subst (λ (text : List ℕ).
    IsReplied g.N.Named.table g.N.Named.origin g.N.Named.opened c.args.clerk.now.parts
    (setting_lent g.T.Reports.text g.N.Named.origin.stock c.args.lines.now.suites.now
    c.args.lines.now.reports)
    c.in-Some.line.now
    (record { text = text; refused = told.refused; receipts = c.loop-line.clerk.receipts })
    (told_with (record { text = more.answers.text; refused = more.refused })
    c.add_line.new.clerk.receipts)) (ap string_bytes c.in-Some.ensures.text) mine in (
      subst (IsSoFar _ _ _ _ _ c.args.lines.now.script.now c.add_line.new.clerk.receipts
          (record { text = more.answers.text; refused = more.refused }))
          (sym (ap (λ (t : LineTurn). t.rest) c.in_ok-add_line.ensures.turn))
          (so_far-next _ _ _ _ _ c.args.lines.now.script.now _ _ _
          (record { text = told.answers.text; refused = told.refused })
          (record { text = more.answers.text; refused = more.refused }) told.answers.turn.rest
          c.next.new.self.turn.rest c.loop-line.invariant.0 c.in-Some.ensures.lines
          c.in-Some.ensures.shorter c.in_ok-add_line.ensures.few replied),
      c.in_ok-add_line.ensures.parts ∙ c.loop-line.invariant.1,
      ap (λ (t : LineTurn). t.script) c.in_ok-add_line.ensures.turn ∙ c.in-Some.ensures.script
          ∙ c.loop-line.invariant.2,
    )

pub of-requires : goal.of-requires
of-requires g c =
    ap (λ (t : LineTurn). t.rest) c.in_default.ensures.end ∙ c.in_default.ensures.none

pub returns-clause-told : goal.returns-clause-told
returns-clause-told g c =
    let told = c.loop-line.told in
    let setting = setting_lent g.T.Reports.text g.N.Named.origin.stock c.args.lines.now.suites.now
    c.args.lines.now.reports in
    so_told _ _ _ _ setting c.args.lines.now.script.now c.loop-line.clerk.receipts
    (record { text = told.answers.text; refused = told.refused }) c.of.result.told
    (ap string_bytes (c.of.ensures.text ∙ c.in_default.ensures.text)) c.of.ensures.refused
    (so_far-done _ _ _ _ setting c.args.lines.now.script.now c.loop-line.clerk.receipts _
    told.answers.turn.rest c.loop-line.invariant.0 c.in_default.ensures.none)
