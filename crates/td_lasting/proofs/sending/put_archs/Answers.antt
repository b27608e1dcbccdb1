-- `put_archs`: an architecture more.
use Rattle.std.proofs.Common.{ap, sym, ◌∙◌}
use Rattle.std.specs.String.{string_bytes}
use Rattle.td_relation.specs.TableView.{table}
use Rattle.td_lasting.proofs.SentLines.{arch_passed, arch_put}
use Rattle.td_lasting.proofs.sending.put_archs.Goals as goal
use Rattle.td_lasting.proofs.sending.put_archs.Goals.{then-has_arch+in_ok-push_str+in_ok-push_str-2}
use Rattle.td_lasting.proofs.sending.put_archs.Goals.{else-has_arch}

pub loop-place-preserved : goal.loop-place-preserved
loop-place-preserved c = elim c.if-has_arch.branch [
  | then-has_arch+in_ok-push_str+in_ok-push_str-2 w ↦
      arch_put (table c.archs-archs.result.now) c.args.keys.now c.loop-place.place
      c.name-name.result.now (string_bytes c.args.out.now) (string_bytes c.loop-place.out)
      (string_bytes w.push_str.new.self) (string_bytes c.if-has_arch.out)
      c.name-name.ensures.name (sym c.has_arch.ensures ∙ w.if-has_arch.true)
      c.loop-place.invariant w.in_ok-push_str.ensures.bytes
      (ap string_bytes w.out-is ∙ w.in_ok-push_str-2.ensures.bytes)
  | else-has_arch w ↦
      arch_passed (table c.archs-archs.result.now) c.args.keys.now c.loop-place.place
      c.name-name.result.now (string_bytes c.args.out.now) (string_bytes c.if-has_arch.out)
      c.name-name.ensures.name (sym c.has_arch.ensures ∙ w.if-has_arch.false)
      (ap string_bytes w.out-is ∙ c.loop-place.invariant)
]
