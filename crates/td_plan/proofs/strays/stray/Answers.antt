-- `stray`: what it answers.
use Rattle.std.proofs.Common.{◌∙◌, Bool, List, MatchOption, subst}
use Rattle.std.specs.List.{All, Contains}
use Rattle.td_waves.specs.Graph.{lists}
use Rattle.td_plan.specs.inner.Lists.{IsSet}
use Rattle.td_plan.proofs.LedBack.{left-mine, stray-told}
use Rattle.td_plan.proofs.SetTo.{mine-set, none-set, set-mine}
use Rattle.td_plan.proofs.strays.stray.Goals as goal

pub returns-clause-clear : goal.returns-clause-clear
returns-clause-clear c =
    let nodes = c.args.nodes.now in
    let clear = c.args.inside.now.items in
    let inside = c.set_flags.new.flags.items in
    let left = c.reach.new.flags.items in
    record {
      len = c.set_flags-2.ensures.len ∙ c.reach.ensures.len ∙ c.set_flags.ensures.len
          ∙ c.requires.clear.len;
      none = none-set nodes left c.set_flags-2.new.flags.items c.set_flags-2.ensures.set
          (left-mine (lists c.args.graph.now) c.args.root nodes inside
          (set-mine nodes clear inside c.set_flags.ensures.set)
          (mine-set nodes clear inside c.set_flags.ensures.set c.requires.clear.none)
          c.in_ok-_led._led.items left c.in_ok-_led.ensures.reached);
    }

pub returns-clause-stray : goal.returns-clause-stray
returns-clause-stray c =
    let nodes = c.args.nodes.now in
    let clear = c.args.inside.now.items in
    let inside = c.set_flags.new.flags.items in
    let left = c.reach.new.flags.items in
    stray-told (lists c.args.graph.now) c.args.root nodes inside
    (set-mine nodes clear inside c.set_flags.ensures.set)
    (mine-set nodes clear inside c.set_flags.ensures.set c.requires.clear.none)
    c.in_ok-_led._led.items left c.in_ok-_led.ensures.reached c.first_set-found.result
    (subst (λ (fs : List Bool). MatchOption c.first_set-found.result
    (All (λ n. ¬ IsSet fs n) nodes) (λ n. Contains nodes n × IsSet fs n))
    c.as_slice.ensures.value c.first_set-found.ensures)
