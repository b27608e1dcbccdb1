-- What the loop of `put_answers` keeps.
use Rattle.std.proofs.Common.{◌≡◌, ◌++◌, map, take}
use Rattle.std.specs.String.{string_bytes}
use Rattle.td_text.specs.Lines.{text_of}
use Rattle.td_simulate.specs.Answers.{answer_line}
use Rattle.td_simulate.proofs.simulation.put_answers.Given as goal

-- the lines of the answers so far
abbrev pub invariant-loop-answer : goal.invariant-loop-answer
invariant-loop-answer l =
    string_bytes l.out
    ≡ string_bytes l.initial.out ++ text_of (map answer_line (take l.answer-index l.answers))
