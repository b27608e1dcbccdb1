-- What the loop of `compile` keeps.
use Rattle.std.proofs.Common.{◌≡◌, map, take}
use Rattle.regex.specs.Strings.{regex_source}
use Rattle.td_query.specs.Sources.{source_of, AreDefault, ArePatterns}
use Rattle.td_query.specs.Views.{raw_of}
use Rattle.td_query.proofs.compiling.compile.Given as goal

abbrev pub invariant-loop-raw : goal.invariant-loop-raw
invariant-loop-raw l = record {
  sources : map regex_source l.patterns.items ≡ map source_of (map raw_of (take l.raw-index l.log));
  compiled : AreDefault l.patterns.items;
  fine : ArePatterns (map raw_of (take l.raw-index l.log));
}
