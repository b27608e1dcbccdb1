-- `are_changes`: what it answers.
use Rattle.std.proofs.Common.{rules, ◌≡◌, ◌∙◌, sym, subst, ap}
use Rattle.td_desk.specs.Changes.{changes}
use Rattle.td_desk.specs.Clerks.{all_receipts}
use Rattle.td_desk.specs.inner.Ticks.{left_from, Takes, TooMany}
use Rattle.td_desk.proofs.Ticking.{all_left, nil_left, all_taken, none_left, too_many}
use Rattle.td_desk.proofs.closing.are_changes.Goals as goal

pub returns-then-not-tick_clerks : goal.returns-then-not-tick_clerks
returns-then-not-tick_clerks g c =
    let rs = all_receipts c.args.clerks.now.items in
    let b = c.args.book.now in
    let os = g.N.Named.opened in
    let start = c.args.ticks.items in
    let at = c.as_slice-entries.ensures.entries ∙ c.journal.ensures in
    let fresh : left_from 1 c.as_slice-entries.result.now start ≡ changes os b =
    ap (λ l. left_from 1 l start) at ∙ all_left b.history.journal start os c.requires in (
      (λ h. absurd (search rules)),
      (λ p. absurd (too_many rs (changes os b)
          (subst (λ l. TooMany rs l) fresh c.if-not-tick_clerks.ensures.took) p)),
    )

pub returns : goal.returns
returns g c =
    let rs = all_receipts c.args.clerks.now.items in
    let b = c.args.book.now in
    let os = g.N.Named.opened in
    let es = c.as_slice-entries.result.now in
    let start = c.args.ticks.items in
    let end = c.tick_clerks.new.ticks.items in
    let at = c.as_slice-entries.ensures.entries ∙ c.journal.ensures in
    let fresh : left_from 1 es start ≡ changes os b =
    ap (λ l. left_from 1 l start) at ∙ all_left b.history.journal start os c.requires in
    let took : Takes rs (changes os b) (left_from 1 es end) =
    subst (λ l. Takes rs l (left_from 1 es end)) fresh c.if-not-tick_clerks.ensures.took in
    let none = nil_left 1 es end ∙ sym c.are_ticked.ensures in (
      (λ h. all_taken rs (changes os b) (left_from 1 es end) c.are_ticked.result took none h),
      (λ p. none_left rs (changes os b) (left_from 1 es end) c.are_ticked.result took none p),
    )
