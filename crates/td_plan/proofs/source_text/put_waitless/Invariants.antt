-- What the loop of `put_waitless` keeps.
use Rattle.std.proofs.Common.{◌≡◌, ◌++◌, take, string_bytes}
use Rattle.td_text.specs.Lines.{text_of}
use Rattle.td_plan.specs.inner.Writing.{no_waits_of}
use Rattle.td_plan.proofs.source_text.put_waitless.Given as goal

-- the comments so far
abbrev pub invariant-loop-on : goal.invariant-loop-on
invariant-loop-on l = string_bytes l.out ≡ string_bytes l.fn.out
    ++ text_of (no_waits_of (record { source = l.source; arch = l.arch })
    (take l.on-index l.waitless))
