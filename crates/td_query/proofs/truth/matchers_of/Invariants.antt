-- What the loop of `matchers_of` keeps.
use Rattle.std.proofs.Common.{◌≡◌, take, map}
use Rattle.regex.specs.Strings.{regex_pattern, matcher_pattern}
use Rattle.td_query.proofs.truth.matchers_of.Given as goal

abbrev pub invariant-loop-pattern : goal.invariant-loop-pattern
invariant-loop-pattern l = map matcher_pattern l.matchers.items ≡ map regex_pattern
    (take l.pattern-index l.patterns)
