-- `play_read`: how a script ends, by its bytes, and its clauses if none is read.
use Rattle.std.proofs.Common.{◌≡◌, Bool, None, Result, Some, String, false, string_bytes, subst}
use Rattle.std.proofs.Common.{sym}
use Rattle.std.proofs.Common.{true}
use Rattle.std.specs.Prelude.{IfSome, MatchResult}
use Rattle.std.specs.declared.alloc.Global.{Global}
use Rattle.td_bytes.specs.declared.text.TextFault.{TextFault}
use Rattle.td_bytes.specs.declared.text.TextFault.TheVariants.{CannotRead}
use Rattle.td_tool.specs.RunInside.{PlaysInputs, PlaysUnread}
use Rattle.td_tool.specs.Streams.{IsDue}
use Rattle.td_tool.proofs.Explanations.{ends_alone}
use Rattle.td_tool.proofs.noting.play_read.Goals as goal

pub returns-in-Ok-clause-plays : goal.returns-in-Ok-clause-plays
returns-in-Ok-clause-plays g c =
    let old = g.W.Write.contents c.args.output.now in
    let new = g.W.Write.contents c.play_text.new.output in
    let ending = c.play_text.result.ending in
    subst (λ (r : Result (String Global) TextFault). MatchResult r
    (λ text. PlaysInputs 0 c.args.inputs.now (Some (string_bytes text)) old new ending)
    (λ why. PlaysUnread c.args.inputs.now why old new ending)) (sym c.in-Ok.is)
    (subst (λ t. PlaysInputs 0 c.args.inputs.now (Some t) old new ending)
    c.as_str.ensures.value c.play_text.ensures.plays)

pub returns-in-Err-clause-plays : goal.returns-in-Err-clause-plays
returns-in-Err-clause-plays g c =
    let old = g.W.Write.contents c.args.output.now in
    let ending = c.alone.result.ending in
    subst (λ (r : Result (String Global) TextFault). MatchResult r
    (λ text. PlaysInputs 0 c.args.inputs.now (Some (string_bytes text)) old old ending)
    (λ why. PlaysUnread c.args.inputs.now why old old ending)) (sym c.in-Err.is)
    (ends_alone (PlaysUnread c.args.inputs.now c.in-Err.why old old) c.play_unread.result
    c.alone.result c.alone.ensures (c.play_unread.ensures.plays old))

pub returns-in-Err-clause-due : goal.returns-in-Err-clause-due
returns-in-Err-clause-due g c =
    let can_fail = g.W.Writer.can_fail c.args.output.now in
    let ending = c.alone.result.ending in
    subst (λ (r : Result (String Global) TextFault). MatchResult r
    (λ text. IsDue false can_fail ending)
    (λ why. (input output : Bool) → (why ≡ CannotRead → input ≡ true)
    → IsDue input output ending)) (sym c.in-Err.is)
    (λ input output read. ends_alone (IsDue input output) c.play_unread.result c.alone.result
    c.alone.ensures (c.play_unread.ensures.due input output read))
