-- `put_ready`: an architecture that the table hasn't is refused, else the rows are told.
use Rattle.std.proofs.Common.{ℕ, List, Option, length, ap, sym, option_map, ◌∙◌}
use Rattle.std.specs.Prelude.{slice_get}
use Rattle.std.specs.Borrow.{Bor}
use Rattle.std.specs.List.{filter_map}
use Rattle.std.specs.String.{string_bytes}
use Rattle.std.proofs.lemmas.Result.{IfOk-weaker}
use Rattle.td_rows.specs.Table.{Table}
use Rattle.td_lasting.proofs.Readies.{ready_shown, unknown_shown}
use Rattle.td_lasting.proofs.asking.put_ready.Goals as goal

pub returns-then-not-is_known-clause-ok : goal.returns-then-not-is_known-clause-ok
returns-then-not-is_known-clause-ok c = λ s same.
    let arch : Option (List ℕ) = option_map (λ (a : Bor (List ℕ)). a.now) c.args.arch in
    IfOk-weaker c.refuse.result _ _
    (λ refused put. unknown_shown s c.args.books.now.history arch c.args.books.now.stock
    c.supply.result.now c.is_known.result (string_bytes c.args.out.now)
    (string_bytes c.refuse.new.out) refused same c.supply.ensures c.is_known.ensures
    c.if-not-is_known.true put) c.refuse.ensures.ok

pub put_queued-requires : goal.put_queued-requires
put_queued-requires c =
    ap (λ (t : Table). length (filter_map (slice_get t) c.as_slice.result.now))
    (c.rows-2.ensures.rows ∙ sym c.rows.ensures.rows)
    ∙ ap (λ (l : List ℕ). length (filter_map (slice_get c.rows.result.now) l))
    c.as_slice.ensures.value
    ∙ c.in_ok-numbers.ensures.each
    ∙ ap (λ (l : List ℕ). length l) (sym c.as_slice.ensures.value)

pub returns-clause-ok : goal.returns-clause-ok
returns-clause-ok c = λ s same.
    let arch : Option (List ℕ) = option_map (λ (a : Bor (List ℕ)). a.now) c.args.arch in
    let told : Table = filter_map (slice_get c.rows-2.result.now) c.as_slice.result.now in
    ready_shown s c.args.books.now.history arch c.args.books.now.stock c.supply.result.now
    c.is_known.result c.rows.result.now told (string_bytes c.args.out.now)
    (string_bytes c.put_queued.new.out) same c.supply.ensures c.is_known.ensures
    c.if-not-is_known.false c.rows.ensures.rows
    (ap (λ (t : Table). filter_map (slice_get t) c.as_slice.result.now)
    (c.rows-2.ensures.rows ∙ sym c.rows.ensures.rows)
    ∙ ap (filter_map (slice_get c.rows.result.now)) c.as_slice.ensures.value
    ∙ c.in_ok-numbers.ensures.rows)
    c.in_ok-put_queued.ensures.ok
