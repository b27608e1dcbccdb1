-- What the loop of `put_standing` keeps: the lines of the entries so far are written.
use Rattle.std.proofs.Common.{◌≡◌, ◌++◌, map, take}
use Rattle.std.specs.String.{string_bytes}
use Rattle.td_text.specs.Lines.{text_of}
use Rattle.td_core.specs.Offers.{supply_now}
use Rattle.td_lasting.specs.Sending.{sent_from}
use Rattle.td_lasting.proofs.sending.put_standing.Given as goal

abbrev pub invariant-loop-at : goal.invariant-loop-at
invariant-loop-at l =
    string_bytes l.out ≡ string_bytes l.initial.out
    ++ text_of (sent_from (supply_now l.books.stock l.books.history) (map (λ s. s.now) l.suites) 1
    (take l.at l.entries))
