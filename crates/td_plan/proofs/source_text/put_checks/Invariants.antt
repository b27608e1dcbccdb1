-- What the loop of `put_checks` keeps.
use Rattle.std.proofs.Common.{◌≡◌, ◌++◌, take, string_bytes}
use Rattle.td_text.specs.Lines.{text_of}
use Rattle.td_plan.specs.inner.Writing.{checks_of}
use Rattle.td_plan.proofs.source_text.put_checks.Given as goal

-- the comments so far
abbrev pub invariant-loop-wait : goal.invariant-loop-wait
invariant-loop-wait l = string_bytes l.out ≡ string_bytes l.fn.out
    ++ text_of (checks_of (record { source = l.source; arch = l.arch })
    (take l.wait-index l.waits))
