-- What the loop of `put_archs` keeps: the architectures so far are written.
use Rattle.std.proofs.Common.{◌≡◌, ◌++◌, take}
use Rattle.std.specs.String.{string_bytes}
use Rattle.td_relation.specs.TableView.{table}
use Rattle.td_lasting.specs.Sending.{arch_words}
use Rattle.td_lasting.proofs.sending.put_archs.Given as goal

abbrev pub invariant-loop-place : goal.invariant-loop-place
invariant-loop-place l =
    string_bytes l.out ≡ string_bytes l.initial.out
    ++ arch_words (take l.place (table l.archs)) l.keys
