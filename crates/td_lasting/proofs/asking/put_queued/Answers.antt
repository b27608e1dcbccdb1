-- `put_queued`: with rows or without.
use Rattle.std.proofs.Common.{◌≡◌, ◌≢◌, ◌++◌, ℕ, List, length, ap, sym, ◌∙◌, arith}
use Rattle.std.specs.Prelude.{slice_get, codes}
use Rattle.std.specs.List.{filter_map}
use Rattle.std.specs.String.{string_bytes}
use Rattle.std.proofs.lemmas.Bool.{eqb-false, eqb-true}
use Rattle.std.proofs.lemmas.Result.{on_ok_weaker}
use Rattle.td_rows.specs.Table.{Table}
use Rattle.td_lasting.proofs.Readies.{none_queued, pushed_ok, some_queued}
use Rattle.td_lasting.proofs.asking.put_queued.Goals as goal

pub returns-then-is_empty-clause-ok : goal.returns-then-is_empty-clause-ok
returns-then-is_empty-clause-ok c =
    let rows : Table = filter_map (slice_get c.args.rows.now) c.args.numbers.now in
    let none : length c.args.numbers.now ≡ 0 =
    eqb-true (length c.args.numbers.now) 0 (sym c.is_empty.ensures ∙ c.if-is_empty.true) in
    on_ok_weaker c.push_str.result
    (λ put. put ∙ ap (λ (l : List ℕ). string_bytes c.args.out.now ++ l)
    (sym (none_queued rows c.args.numbers.now c.requires none)))
    (pushed_ok (string_bytes c.args.out.now) (string_bytes c.push_str.new.self)
    (codes "nothing to build\n") c.push_str.result c.push_str.ensures.bytes)

pub returns-else-is_empty-clause-ok : goal.returns-else-is_empty-clause-ok
returns-else-is_empty-clause-ok c =
    let rows : Table = filter_map (slice_get c.args.rows.now) c.args.numbers.now in
    let some : length c.args.numbers.now ≢ 0 =
    eqb-false (length c.args.numbers.now) 0 (sym c.is_empty.ensures ∙ c.if-is_empty.false) in
    on_ok_weaker c.put_rows_at.result
    (λ put. put ∙ ap (λ (l : List ℕ). string_bytes c.args.out.now ++ l)
    (sym (some_queued rows c.args.numbers.now c.requires (omega arith))))
    c.put_rows_at.ensures.ok
