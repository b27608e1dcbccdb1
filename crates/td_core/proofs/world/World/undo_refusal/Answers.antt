-- `World::undo_refusal`: what it answers.
use Rattle.std.proofs.Common.{Some, None, List, if◌then◌else◌, ap, sym, ◌∙◌}
use Rattle.td_rows.specs.declared.key.Key.{Key}
use Rattle.td_journal.specs.declared.entry.Marked.{Marked}
use Rattle.td_journal.specs.Entries.{entry_at}
use Rattle.td_journal.specs.Touching.{blocker}
use Rattle.td_core.specs.declared.step.Refusal.TheVariants.{NotPinned}
use Rattle.std.specs.Prelude.{position}
use Rattle.td_rows.specs.Kinds.{cells}
use Rattle.td_core.specs.Refusals.{is_unpinned}
use Rattle.td_core.proofs.Refusing.{undo_refusal-free}
use Rattle.td_core.proofs.world.World.undo_refusal.Goals as goal

pub returns-then-is_some : goal.returns-then-is_some
returns-then-is_some c =
    sym (undo_refusal-free c.args.self.now c.args.n c.in-Some.marked.now c.first_unpinned.result
    (sym (c.in-Some.ensures.entry
    ∙ ap (λ (ms : List Marked). entry_at ms c.args.n) c.journal.ensures))
    (sym c.is_command.ensures ∙ c.if-not-is_command.false)
    (sym c.stands.ensures ∙ c.if-not-stands.false)
    (sym (c.in_default-blocker.ensures
    ∙ ap (λ (ms : List Marked). blocker ms c.args.n) c.journal-2.ensures))
    (c.first_unpinned.ensures
    ∙ ap (λ (ks : List Key).
    if (cells c.in-Some.marked.now.entry.kind).state then position (is_unpinned c.args.self.now) ks
    else None) c.as_slice.ensures.keys)
    ∙ ap (λ b. if b then Some (NotPinned None) else None)
    (sym c.is_some.ensures ∙ c.if-is_some.true))

pub returns : goal.returns
returns c =
    sym (undo_refusal-free c.args.self.now c.args.n c.in-Some.marked.now c.first_unpinned.result
    (sym (c.in-Some.ensures.entry
    ∙ ap (λ (ms : List Marked). entry_at ms c.args.n) c.journal.ensures))
    (sym c.is_command.ensures ∙ c.if-not-is_command.false)
    (sym c.stands.ensures ∙ c.if-not-stands.false)
    (sym (c.in_default-blocker.ensures
    ∙ ap (λ (ms : List Marked). blocker ms c.args.n) c.journal-2.ensures))
    (c.first_unpinned.ensures
    ∙ ap (λ (ks : List Key).
    if (cells c.in-Some.marked.now.entry.kind).state then position (is_unpinned c.args.self.now) ks
    else None) c.as_slice.ensures.keys)
    ∙ ap (λ b. if b then Some (NotPinned None) else None)
    (sym c.is_some.ensures ∙ c.if-is_some.false))
