-- What the loop of `message_of` keeps: no entry so far, from the last one on, has the message.
use Rattle.std.proofs.Common.{◌≡◌, ◌-◌, length, take}
use Rattle.td_journal.specs.Entries.{standing}
use Rattle.td_lasting.specs.DeskAnswers.{last_message}
use Rattle.td_lasting.proofs.building.message_of.Given as goal

abbrev pub invariant-loop-back : goal.invariant-loop-back
invariant-loop-back l =
    last_message l.key (standing l.entries)
    ≡ last_message l.key (standing (take (length l.entries - l.back) l.entries))
