-- The answers that `close` leaves end with the rows of the closed desk's book.
use Rattle.std.proofs.Common.{◌≡◌, ◌+◌, List, append-nil, arith, length, refl, subst}
use Rattle.std.proofs.lemmas.Result.{IfOk-weaker}
use Rattle.td_desk.specs.Changes.{changes}
use Rattle.td_desk.specs.Clerks.{ClerkModel, all_parts, all_receipts}
use Rattle.td_desk.specs.declared.receipt.Receipt.{Receipt}
use Rattle.td_script.specs.declared.told.Told.{Told}
use Rattle.td_crew.specs.CrewText.{IsClosing}
use Rattle.td_crew.proofs.Endings.{rows_closed}
use Rattle.td_crew.proofs.crew.close.Goals as goal

pub returns-clause-closed : goal.returns-clause-closed
returns-clause-closed g c =
    let book = c.closed-book.result.0 in
    let more = c.closed-book.result.1 in
    let found = changes g.N.Named.opened book in
    let mid : Told = record {
      text = c.args.telling.told.text;
      refused = c.args.telling.told.refused + more;
    } in
    let closed = subst (λ (rs : List Receipt). IsClosing rs found more)
    (append-nil c.args.clerk.receipts)
    (subst (λ (cs : List ClerkModel). IsClosing (all_receipts cs) found more)
    c.in-Ok.ensures c.closed-book.ensures.closed) in
    let counted = subst (λ (rs : List Receipt). length rs ≡ length found)
    (append-nil c.args.clerk.receipts)
    (subst (λ (cs : List ClerkModel).
    all_parts cs ≡ 1024 → length (all_receipts cs) ≡ length found)
    c.in-Ok.ensures c.closed-book.ensures.counted (omega (arith, c.requires.parts))) in
    IfOk-weaker c.close-closed.result _ _
    (λ closing. rows_closed g.N.Named.table g.N.Named.origin g.N.Named.opened c.args.clerk.receipts
    c.args.telling.told mid closing.told book more c.closed-book.ensures.of_desk c.closed-book.ensures.still
    counted closed refl refl)
    c.close-closed.ensures.rows
