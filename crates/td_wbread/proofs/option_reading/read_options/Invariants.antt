-- What the loop of `read_options` keeps, and why it ends.
use Rattle.std.proofs.Common.{◌≡◌, false, length}
use Rattle.std.specs.List.{list_any}
use Rattle.td_wbread.specs.Tail.{asks_relation, no_values, options_at}
use Rattle.td_wbread.specs.Views.{values_of}
use Rattle.td_wbread.proofs.option_reading.read_options.Given as goal

-- what is left decides, and asks for no relation that the whole doesn't ask for
abbrev pub invariant-loop-word : goal.invariant-loop-word
invariant-loop-word l = record {
  decides : options_at l.verb l.end (values_of l.seen) l.rest
      ≡ options_at l.verb l.end no_values l.words;
  asks : list_any (asks_relation l.verb) l.words ≡ false
      → list_any (asks_relation l.verb) l.rest ≡ false;
}

abbrev pub decreases-loop-word : goal.decreases-loop-word
decreases-loop-word l = length l.rest
