-- `Archive::open_chosen`: its loop, and the call of `open_numbered`.
use Rattle.std.proofs.Common.{◌≡◌, ◌<◌, ℕ, Bool, true, false, ◌++◌, append-nil, length}
use Rattle.std.proofs.Common.{option_map, subst, sym, take, ap, ◌∙◌, arith, rules}
use Rattle.td_relation.specs.Table.{IsApart}
use Rattle.td_rows.specs.Table.{row_of}
use Rattle.td_indices.specs.Archive.{Contents}
use Rattle.td_indices.specs.Choosing.{chosen, is_chosen}
use Rattle.td_indices.proofs.Chosen.{chosen-next, chosen-start, if_chosen, there}
use Rattle.td_indices.proofs.OpeningRows.{row_so_far, rows_left, source_opened}
use Rattle.td_indices.proofs.archive.Archive.open_chosen.Goals as goal
use Rattle.td_indices.proofs.archive.Archive.open_chosen.Goals.{then-is_chosen+in_ok-open_numbered}
use Rattle.td_indices.proofs.archive.Archive.open_chosen.Goals.{else-is_chosen}

pub open_numbered-requires-clause-apart : goal.open_numbered-requires-clause-apart
open_numbered-requires-clause-apart c =
    subst (λ (v : Contents). IsApart v.table) c.self.view_is c.self.inside.archs.now.apart

pub loop-number-init : goal.loop-number-init
loop-number-init c = record {
  opened = λ k. ap (λ t. row_of t k) c.in_ok-rows.ensures.empty
      ∙ sym (ap (λ l. row_so_far c.args.self.now l k)
      (chosen-start (option_map (λ x. x.now) c.args.flags)));
  few = search rules;
}

pub loop-number-preserved : goal.loop-number-preserved
loop-number-preserved c =
    let a = c.args.self.now in
    let n = c.loop-number.number in
    let fs = option_map (λ x. x.now) c.args.flags in
    let gone = chosen fs (take n a.sources) in
    let within : n < length a.sources =
    subst (λ (m : ℕ). n < m) c.source_count-number-end.ensures c.loop-number-test.true in
    let found = there a.sources n within in
    let s = found.0 in
    let next = chosen-next fs a.sources n s found.1 in
    let left = rows_left a.table a.sources n s found.1 in
    let before = c.loop-number.invariant.few in
    elim c.if-is_chosen.branch [
      | then-is_chosen+in_ok-open_numbered w ↦
          let is : is_chosen fs n ≡ true = sym c.is_chosen.ensures ∙ w.if-is_chosen.true in
          let its = w.in_ok-open_numbered.ensures.rows s found.1 in
          record {
            opened = λ k. source_opened a c.loop-number.rows.entries c.if-is_chosen.rows.entries
                gone s its.0 c.loop-number.invariant.opened
                (λ q. ap (λ m. row_of m.entries q) w.rows-is ∙ its.1 q) k
                ∙ ap (λ l. row_so_far a l k)
                (sym (next ∙ ap (λ (b : Bool). gone ++ if_chosen b s) is));
            few = (let len = ap (λ m. length m.entries) w.rows-is in
                let own = w.in_ok-open_numbered.ensures.few s found.1 in omega arith);
          }
      | else-is_chosen w ↦
          let is : is_chosen fs n ≡ false = sym c.is_chosen.ensures ∙ w.if-is_chosen.false in
          record {
            opened = λ k. ap (λ m. row_of m.entries k) w.rows-is ∙ c.loop-number.invariant.opened k
                ∙ ap (λ l. row_so_far a l k)
                (sym (next ∙ ap (λ (b : Bool). gone ++ if_chosen b s) is ∙ append-nil gone));
            few = (let len = ap (λ m. length m.entries) w.rows-is in omega arith);
          }
    ]
