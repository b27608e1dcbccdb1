-- `pattern_len`: the clause `value` and its loop.
use Rattle.std.proofs.Common.{◌≡◌, ◌∙◌, ◌<◌, ◌≤◌, Bool, Some, false, true, drop, length, get_or}
use Rattle.std.proofs.Common.{sym, subst, rules, arith}
use Rattle.std.proofs.lemmas.List.{drop_all}
use Rattle.td_query.specs.Tokens.{pattern_end}
use Rattle.td_query.proofs.Patterns.{moved, ends_here, goes_on, ends_never, escaped_on, other_on}
use Rattle.td_query.proofs.tokens.pattern_len.Goals as goal
use Rattle.td_query.proofs.tokens.pattern_len.Goals.{else-b-eq47-via-then-b-eq47+else-not-escaped}
use Rattle.td_query.proofs.tokens.pattern_len.Goals.{else-b-eq47-via-else-b-eq47}

pub returns-then-not-escaped-clause-value : goal.returns-then-not-escaped-clause-value
returns-then-not-escaped-clause-value c =
    let t = c.args.bytes.now in
    let i = c.loop-i.i in
    let plain : c.loop-i.escaped ≡ false = search rules in
    let within : i < length t = omega arith in
    sym (subst (λ (b : Bool). moved i (pattern_end b (drop i t)) ≡ Some i) (sym plain)
    (ends_here t i within c.if-b-eq47.true)) ∙ c.loop-i.invariant

pub loop-i-preserved : goal.loop-i-preserved
loop-i-preserved c =
    let t = c.args.bytes.now in
    let i = c.loop-i.i in
    let within : i < length t = omega arith in
    elim c.else-b-eq47.branch [
      | else-b-eq47-via-then-b-eq47+else-not-escaped w ↦
          (let escaped : c.loop-i.escaped ≡ true = search rules in
          sym (goes_on c.loop-i.escaped t i within
          (escaped_on (get_or t i 0) c.loop-i.escaped escaped)) ∙ c.loop-i.invariant)
      | else-b-eq47-via-else-b-eq47 w ↦
          sym (goes_on c.loop-i.escaped t i within
          (other_on (get_or t i 0) c.loop-i.escaped w.if-b-eq47.false)) ∙ c.loop-i.invariant
    ]

pub returns-clause-value : goal.returns-clause-value
returns-clause-value c =
    let t = c.args.bytes.now in
    let past : length t ≤ c.loop-i.i = omega arith in
    sym (ends_never c.loop-i.escaped t c.loop-i.i (drop_all c.loop-i.i t past)) ∙ c.loop-i.invariant
