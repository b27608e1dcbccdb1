-- `Inner::close`: the clause `history` and the calls of `settle` and `offer_each`.
use Rattle.std.proofs.Common.{◌≡◌, ℕ, ◌≤◌, ◌∷◌, ◌++◌, List, [], Some, true, set, ap, sym, subst}
use Rattle.std.proofs.Common.{◌∙◌, append_assoc}
use mathlib.Core.Option.{some}
use lib.ListN.{get_elem?}
use Rattle.td_board.specs.declared.views.RowView.{RowView}
use Rattle.td_board.specs.declared.views.RowView.TheVariants.{In, Known}
use Rattle.td_board.specs.declared.views.DeskTry.{DeskTry}
use Rattle.td_board.specs.declared.views.DeskTry.TheVariants.{SettleDone}
use Rattle.td_rows.specs.declared.key.Key.{Key}
use Rattle.td_rows.specs.declared.kind.Kind.TheVariants.{Outcome as Ended}
use Rattle.td_rows.specs.Keys.{ascending}
use Rattle.td_rows.specs.States.{is_building_by}
use Rattle.td_rows.specs.Table.{keys_of}
use Rattle.td_change.specs.Plans.{plan_of, left}
use Rattle.td_change.proofs.Plans.{left-plan_of}
use Rattle.td_core.specs.History.{rows_of, with_entry}
use Rattle.td_core.proofs.Worlds.{rows_of-with_entry}
use Rattle.td_book.specs.Seen.{seen_off}
use Rattle.td_book.specs.Desk.{InnerModel, HasOne}
use Rattle.td_book.specs.Building.{head_key, by_in, ended_in}
use Rattle.td_book.specs.Tries.{offers_for}
use Rattle.td_book.proofs.Steps.{up_now}
use Rattle.td_book.proofs.Builds.{at_key_of, known_at, built_at, ended_off}
use Rattle.td_book.proofs.inner.Inner.close.Goals as goal

pub settle-requires : goal.settle-requires
settle-requires c =
    let e = c.requires.closing in
    let b = c.args.builder in
    let i = c.args.row in
    let old = c.args.self.now.books in
    let kind = c.args.plan.kind in
    let plain : head_key (left c.args.plan) ≡ e.key =
    ap head_key (ap left e.plan_is ∙ left-plan_of kind (e.key ∷ []) (rows_of old.history)) in
    let by : by_in kind ≡ b = ap by_in e.kind in
    let at = at_key_of (rows_of old.history) i e.key e.at in
    let up : ascending (keys_of (rows_of old.history)) ≡ true =
    up_now old.history (ap (λ (m : InnerModel). ascending (keys_of m.books.history.opening))
    (sym c.self.view_is) ∙ c.rows-rows.ensures.rising) in
    let built : is_building_by b at.0.state ≡ true =
    sym (built_at (rows_of old.history) e.key i b at.0 up at.1) ∙ c.requires.built e.key e.at in (
      c.requires.board,
      (
        ap (λ v. get_elem? v i) c.requires.rest
            ∙ known_at (rows_of old.history) e.key i b at.0 at.1 built
            ∙ ap (λ (x : ℕ). some (Known x)) (sym by),
        (
          e.plan_is ∙ (λ j. plan_of ((e.kind ∙ ap (λ (x : ℕ). Ended x (ended_in kind)) (sym by)) j)
              (sym plain j ∷ []) (rows_of old.history)),
          (
            subst (λ (x : ℕ). 1 ≤ x) (sym by) c.requires.one,
            (
              c.requires.code,
              (
                subst (λ (ks : List Key). HasOne ks old)
                    (e.offered_is ∙ ap (λ (k : Key). k ∷ []) (sym plain)) c.requires.room,
                (
                  at.0,
                  at.1 ∙ ap (λ (k : Key). Some (k, at.0)) (sym plain),
                  ap (λ (x : ℕ). is_building_by x at.0.state) by ∙ built,
                ),
              ),
            ),
          ),
        ),
      ),
    )

pub offer_each-requires-clause-held : goal.offer_each-requires-clause-held
offer_each-requires-clause-held c =
    let e = c.requires.closing in
    let i = c.args.row in
    let old = c.args.self.now.books in
    let kind = c.args.plan.kind in
    let k = head_key (left c.args.plan) in
    let plain : k ≡ e.key =
    ap head_key (ap left e.plan_is ∙ left-plan_of kind (e.key ∷ []) (rows_of old.history)) in
    let at = at_key_of (rows_of old.history) i k (e.at ∙ ap (λ (q : Key). Some q) (sym plain)) in
    let up : ascending (keys_of (rows_of old.history)) ≡ true =
    up_now old.history (ap (λ (m : InnerModel). ascending (keys_of m.books.history.opening))
    (sym c.self.view_is) ∙ c.rows-rows.ensures.rising) in
    let rows = ap rows_of c.in_ok-n.ensures.history
    ∙ rows_of-with_entry old.history
    (record { kind = Ended (by_in kind) (ended_in kind); keys = k ∷ [] }) in
    c.in_ok-n.ensures.view ∙ ap (λ (v : List RowView). set v i In) c.requires.rest
    ∙ ended_off (rows_of old.history) i k at.0 (by_in kind) (ended_in kind) up at.1
    ∙ ap (seen_off (k ∷ [])) (sym rows)
    ∙ ap (λ (ks : List Key). seen_off ks (rows_of c.settle.new.self.books.history))
    (ap (λ (q : Key). q ∷ []) plain ∙ sym e.offered_is)

pub returns-clause-tries : goal.returns-clause-tries
returns-clause-tries c =
    let old = c.args.self.now in
    let settled = c.settle.new.self in
    let done : List DeskTry = SettleDone c.args.row c.args.code ∷ [] in
    let offered : List DeskTry =
    offers_for (rows_of settled.books.history) c.args.offered.now in
    ap (λ (m : InnerModel). m.tries) c.offer_each.ensures
    ∙ ap (λ (l : List DeskTry). l ++ offered) c.in_ok-n.ensures.tries
    ∙ append_assoc old.tries done offered
    ∙ ap (λ (m : InnerModel).
    old.tries ++ (done ++ offers_for (rows_of m.books.history) c.args.offered.now))
    (sym c.offer_each.ensures)

pub returns-clause-history : goal.returns-clause-history
returns-clause-history c =
    let e = c.requires.closing in
    let old = c.args.self.now.books in
    let kind = c.args.plan.kind in
    let plain : head_key (left c.args.plan) ≡ e.key =
    ap head_key (ap left e.plan_is ∙ left-plan_of kind (e.key ∷ []) (rows_of old.history)) in
    let by : by_in kind ≡ c.args.builder = ap by_in e.kind in
    let kinds : Ended (by_in kind) (ended_in kind) ≡ kind =
    ap (λ (x : ℕ). Ended x (ended_in kind)) by ∙ sym e.kind in
    ap (λ (m : InnerModel). m.books.history) c.offer_each.ensures ∙ c.in_ok-n.ensures.history
    ∙ (λ j. with_entry old.history
    (record { kind = kinds j; keys = (ap (λ (q : Key). q ∷ []) plain ∙ sym e.offered_is) j }))
