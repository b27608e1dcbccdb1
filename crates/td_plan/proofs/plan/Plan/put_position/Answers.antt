-- `Plan::put_position`: the lines of the source there, and the comments before them.
use Rattle.std.proofs.Common.{◌≡◌, ◌<◌, ◌++◌, ◌∙◌, List, None, Option, Some, ap, arith, length}
use Rattle.std.proofs.Common.{string_bytes, slice_get, subst, sym, ℕ}
use Rattle.std.specs.Prelude.{IfSome, slice_index}
use Rattle.std.specs.Global.{Global, Vec}
use Rattle.std.specs.declared.string.String.{String}
use Rattle.std.proofs.lemmas.List.{get_or-map}
use Rattle.std.proofs.lemmas.Option.{get_or_from_slice_get, slice_get_within}
use Rattle.std.proofs.lemmas.Result.{on_ok_weaker}
use Rattle.td_waves.specs.Graph.{bases_of, lists}
use Rattle.td_plan.proofs.PlanLines.{first-low, position-lines}
use Rattle.td_plan.proofs.SourcePlaces.{item-at}
use Rattle.td_plan.proofs.Turned.{lists-len}
use Rattle.td_plan.proofs.Waiters.{at-below}
use Rattle.td_plan.proofs.plan.Plan.put_position.Goals as goal

pub returns-in_default-clause-ok : goal.returns-in_default-clause-ok
returns-in_default-clause-ok c = λ w p m before told is are at moving low placed last.
    let plan = c.args.self.now in
    let members = c.args.members.now in
    let position = c.args.position in
    let first : position.1 ≡ slice_index plan.parts.firsts.items position.2 =
    ap (λ (q : ℕ × ℕ × ℕ). q.1) placed in
    let below : position.1 < length members = omega (
      arith,
      first,
      first-low p plan is position.2 m at,
      are.len,
      lists-len members,
    ) in
    let list = at-below members position.1 below in
    absurd (let bad : None ≡ Some list.0 =
    item-at members position.1 None c.in_default.ensures.lookup ∙ list.1 in cc)

pub returns-clause-ok : goal.returns-clause-ok
returns-clause-ok c =
    let plan = c.args.self.now in
    let members = c.args.members.now in
    let position = c.args.position in
    let list = c.in-Some.members.now in
    let there : slice_get members position.1 ≡ Some list =
    sym (item-at members position.1 (Some c.in-Some.members) c.in-Some.ensures.lookup) in
    let its : bases_of (lists members) position.1 ≡ list.items =
    get_or-map (λ (v : Vec ℕ). v.items) members position.1 list _
    (slice_get_within members position.1 list there)
    ∙ ap (λ (v : Vec ℕ). v.items) (get_or_from_slice_get members position.1 list list there) in
    let mid = string_bytes c.put_before.new.out in
    let end = string_bytes c.put_text.new.out in
    on_ok_weaker c.put_text.result (λ text w p m before told is are at moving low placed last.
    let own = at-below c.args.texts.now position.2
    (omega (arith, told.len, slice_get_within plan.movers.items position.2 m at)) in
    let mine : end ≡ mid ++ string_bytes own.0 =
    subst (λ (o : Option (String Global)). IfSome o (λ t. end ≡ mid ++ string_bytes t)) own.1
    text in
    position-lines p plan is w position.2 m before (lists members) c.deref.result.now position
    c.args.last (string_bytes c.args.out.now) mid end are at moving low placed last
    (c.deref.ensures.value ∙ sym its) c.in_ok-put_before.ensures.ok
    (mine ∙ ap (λ (t : List ℕ). mid ++ t) (told.at position.2 own.0 own.1 p m is at moving)))
    c.put_text.ensures.ok
