-- `push_set`: its loop.
use Rattle.std.proofs.Common.{◌≡◌, ◌<◌, ◌+◌, ◌++◌, ◌∷◌, [], ◌∙◌, ℕ, Bool, true, false, List, length}
use Rattle.std.proofs.Common.{set, get_or, take, sym, ap, subst, arith, length-set}
use Rattle.std.specs.Global.{Vec}
use Rattle.std.proofs.lemmas.List.{get_or_default, take_more}
use Rattle.td_plan.specs.inner.Lists.{AreTakenOf, IsSet}
use Rattle.td_plan.proofs.Flags.{taken-more, taken-same}
use Rattle.td_plan.proofs.search.push_set.Goals as goal
use Rattle.td_plan.proofs.search.push_set.Goals.{then-index+in_ok-push, else-index}

-- the flag that was read
read : (flags : List Bool) (b : ℕ) (flag value : Bool) → b < length flags
    → flag ≡ get_or flags b flag → flag ≡ value → get_or flags b false ≡ value
read flags b flag value lt is was = get_or_default flags b false flag lt ∙ sym is ∙ was

-- one node more
next : (among old : List ℕ) (flags : List Bool) (i : ℕ) (new : List ℕ) (left : List Bool)
    → i < length among → AreTakenOf (take i among ++ get_or among i 0 ∷ []) old flags new left
    → AreTakenOf (take (i + 1) among) old flags new left
next among old flags i new left lt so =
    subst (λ ws. AreTakenOf ws old flags new left) (sym (take_more among i 0 lt)) so

pub loop-node-preserved : goal.loop-node-preserved
loop-node-preserved c =
    let among = c.args.among.now in
    let i = c.loop-node.node-index in
    let b = get_or among i 0 in
    let old = c.args.nodes.now.items in
    let before = c.args.flags.now.items in
    let nodes = c.loop-node.nodes.items in
    let flags = c.loop-node.flags.items in
    let lt : i < length among = c.loop-node-test.true in
    let low : b < length flags =
    omega (arith, c.requires.within i 0 lt, c.loop-node.invariant.len) in
    let so = c.loop-node.invariant.taken in
    elim c.if-index.branch [
      | then-index+in_ok-push w ↦
          let ns : c.if-index.nodes.items ≡ nodes ++ b ∷ [] =
          ap (λ (v : Vec ℕ). v.items) w.nodes-is ∙ w.in_ok-push.ensures.items in
          let fs : c.if-index.flags.items ≡ set flags b false =
          ap (λ (v : Vec Bool). v.items) w.flags-is in
          let is : IsSet flags b =
          read flags b c.index.result.now true low c.index.ensures w.if-index.true in
          record {
            taken = next among old before i c.if-index.nodes.items c.if-index.flags.items lt
                (subst (λ xs. AreTakenOf (take i among ++ b ∷ []) old before xs
                c.if-index.flags.items) (sym ns)
                (subst (λ xs. AreTakenOf (take i among ++ b ∷ []) old before
                (nodes ++ b ∷ []) xs) (sym fs)
                (taken-more (take i among) old before nodes flags b so low is)));
            len = ap (λ (xs : List Bool). length xs) fs ∙ length-set flags b false
                ∙ c.loop-node.invariant.len;
          }
      | else-index w ↦
          let ns : c.if-index.nodes.items ≡ nodes = ap (λ (v : Vec ℕ). v.items) w.nodes-is in
          let fs : c.if-index.flags.items ≡ flags = ap (λ (v : Vec Bool). v.items) w.flags-is in
          let off : get_or flags b false ≡ false =
          read flags b c.index.result.now false low c.index.ensures w.if-index.false in
          record {
            taken = next among old before i c.if-index.nodes.items c.if-index.flags.items lt
                (subst (λ xs. AreTakenOf (take i among ++ b ∷ []) old before xs
                c.if-index.flags.items) (sym ns)
                (subst (λ xs. AreTakenOf (take i among ++ b ∷ []) old before nodes xs) (sym fs)
                (taken-same (take i among) old before nodes flags b so off)));
            len = ap (λ (xs : List Bool). length xs) fs ∙ c.loop-node.invariant.len;
          }
    ]
