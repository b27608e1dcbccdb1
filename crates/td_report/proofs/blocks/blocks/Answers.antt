-- `blocks`: its loop, and what it answers.
use Rattle.std.proofs.Common.{◌≡◌, ◌<◌, ◌+◌, ◌++◌, ◌∷◌, [], ◌∙◌, ap, sym, map, length, refl}
use Rattle.std.proofs.Common.{arith, rules}
use Rattle.std.specs.List.{range_with_len}
use Rattle.td_waves.specs.declared.level.Level.TheVariants.{At, Cyclic}
use Rattle.td_report.specs.declared.block.Block.{Block}
use Rattle.td_report.specs.inner.Blocks.{told_at}
use Rattle.td_report.specs.inner.ItemLines.{seen}
use Rattle.td_report.proofs.Lists.{read-list}
use Rattle.td_report.proofs.Texts.{levels-more, told-block, told-more}
use Rattle.td_report.proofs.blocks.blocks.Goals as goal

pub loop-number-preserved : goal.loop-number-preserved
loop-number-preserved c = λ depth items by.
    let lists = c.args.grouped.now.levels.items in
    let n = c.loop-number.number in
    let within : n < length lists =
    omega (
      arith,
      c.loop-number-test.true,
      c.len-number-end.ensures,
      c.args.grouped.now.levels.ok.0,
    ) in
    let among : n < depth = omega (arith, within, by.len) in
    let mine = read-list lists n c.index.result.now c.deref-items.result.now within c.index.ensures
    c.deref-items.ensures.value ∙ by.levels n among in
    let block : Block = record {
      level = At (n + 1);
      items = c.deref-items.result;
      installed = c.installed.result;
      counted = _;
    } in
    told-more (map seen items) (map At (range_with_len 1 n)) (At (n + 1)) _ c.push.new.self.items
    block c.in_ok-push.ensures.items (told-block items (At (n + 1)) block refl mine)
    (c.loop-number.invariant depth items by)
    ∙ ap (map (told_at (map seen items))) (sym (levels-more n))

pub returns : goal.returns
returns c = λ depth items by.
    let n = c.loop-number.number in
    let whole : n ≡ c.len-number-end.result = search rules in
    let all : n ≡ depth =
    omega (arith, whole, c.len-number-end.ensures, c.args.grouped.now.levels.ok.0, by.len) in
    let block : Block = record {
      level = Cyclic;
      items = c.deref-items-2.result;
      installed = c.installed-2.result;
      counted = _;
    } in
    told-more (map seen items) (map At (range_with_len 1 n)) Cyclic _ c.push-2.new.self.items
    block c.in_ok-push-2.ensures.items
    (told-block items Cyclic block refl (c.deref-items-2.ensures.value ∙ by.cyclic))
    (c.loop-number.invariant depth items by)
    ∙ ap (λ k. map (told_at (map seen items)) (map At (range_with_len 1 k) ++ Cyclic ∷ [])) all
