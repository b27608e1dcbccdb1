-- `Inner::finish`: the clauses `none` and `some` and the calls of `know` and `close`.
use Rattle.std.proofs.Common.{◌≡◌, ℕ, ◌∷◌, List, [], Some, true, IfSome, slice_get, ap, refl, sym}
use Rattle.std.proofs.Common.{subst, ◌∙◌, arith, rules, inl, inr, [], ◌++◌}
use Rattle.std.proofs.lemmas.Option.{same_Some}
use Rattle.td_rows.specs.declared.key.Key.{Key}
use Rattle.td_board.specs.declared.outcome.OutcomeCode.{OutcomeCode}
use Rattle.td_board.specs.declared.views.DeskTry.TheVariants.{SettleDone}
use Rattle.td_board.specs.declared.views.BuilderTry.TheVariants.{FinishEarly}
use Rattle.td_board.specs.Knowledge.{with_finish, builder_tried}
use Rattle.td_rows.specs.declared.kind.Kind.{Kind}
use Rattle.td_rows.specs.declared.kind.Kind.TheVariants.{Outcome as Ended}
use Rattle.td_change.proofs.Plans.{plan_of-same_keys}
use Rattle.td_core.specs.History.{rows_of, with_entry}
use Rattle.td_book.specs.Desk.{HasRoom, HasOne, Spent}
use Rattle.td_book.specs.Building.{head_key, ended_in, is_built_at}
use Rattle.td_book.specs.Tries.{offers_for}
use Rattle.td_book.proofs.Ends.{ended_some, ended_none, unended_kept}
use Rattle.td_book.proofs.Steps.{room_end}
use Rattle.td_book.proofs.Builds.{at_key_of, knows_head, one_of_room, noted_keys}
use Rattle.td_book.proofs.inner.Inner.finish.Goals as goal

pub know-requires : goal.know-requires
know-requires c =
    let e = c.requires.ending.closing in
    let claim = c.requires.ending.claim in
    let same : head_key c.args.ending.claim ≡ e.key = ap head_key claim in
    let at = at_key_of (rows_of c.args.self.now.books.history) c.args.row e.key e.at in
    let one : c.args.ending.claim ≡ head_key c.args.ending.claim ∷ [] =
    claim ∙ ap (λ (k : Key). k ∷ []) (sym same) in (
      c.requires.board,
      (
        (at.0, at.1 ∙ ap (λ (k : Key). Some (k, at.0)) (sym same)),
        (
          one,
          (
            subst (λ (ks : List Key). HasOne ks c.args.self.now.books) (e.offered_is ∙ sym claim)
                (one_of_room c.args.ending.offered c.args.self.now.books c.requires.room),
            c.requires.rest,
          ),
        ),
      ),
    )

pub close-requires-clause-closing : goal.close-requires-clause-closing
close-requires-clause-closing c =
    let e = c.requires.ending.closing in
    let i = c.args.row in
    let old = c.args.self.now.books in
    let mid = c.know.new.self.books in
    let kind = c.args.ending.plan.kind in
    let keys = noted_keys old.history mid.history (head_key c.args.ending.claim) c.know.ensures.by
    c.know.ensures.history in
    record {
      key = e.key;
      at = ap (λ (ks : List Key). slice_get ks i) (sym keys) ∙ e.at;
      offered_is = c.as_slice.ensures.keys ∙ e.offered_is;
      kind = e.kind ∙ ap (λ (x : ℕ). Ended x (ended_in kind)) (sym c.number-number.ensures.number);
      plan_is = e.plan_is
          ∙ plan_of-same_keys kind (e.key ∷ []) (rows_of old.history) (rows_of mid.history) keys;
    }

pub close-requires-clause-built : goal.close-requires-clause-built
close-requires-clause-built c = λ k there.
    let e = c.requires.ending.closing in
    let i = c.args.row in
    let old = c.args.self.now.books in
    let mid = c.know.new.self.books in
    let keys = noted_keys old.history mid.history (head_key c.args.ending.claim) c.know.ensures.by
    c.know.ensures.history in
    let one : Some k ≡ Some e.key =
    sym there ∙ ap (λ (ks : List Key). slice_get ks i) (sym keys) ∙ e.at in
    let same : k ≡ head_key c.args.ending.claim =
    same_Some k e.key one ∙ sym (ap head_key c.requires.ending.claim) in
    ap (λ (q : Key). is_built_at (rows_of mid.history) q c.number-number.result) same
    ∙ sym c.know.ensures.answers ∙ c.if-not-know.false

pub close-requires-clause-room : goal.close-requires-clause-room
close-requires-clause-room c =
    let e = c.requires.ending.closing in
    let old = c.args.self.now.books in
    let mid = c.know.new.self.books in
    let same : head_key c.args.ending.claim ≡ e.key = ap head_key c.requires.ending.claim in
    let room = room_end (e.key ∷ []) (e.key ∷ []) old mid
    (subst (λ (ks : List Key). HasRoom ks old) e.offered_is c.requires.room)
    (subst (λ (k : Key). Spent (k ∷ []) old mid) same c.know.ensures.spent) (omega arith) in
    subst (λ (ks : List Key). HasOne ks mid) (sym (c.as_slice.ensures.keys ∙ e.offered_is)) room

pub returns-then-not-know-clause-none : goal.returns-then-not-know-clause-none
returns-then-not-know-clause-none c =
    let v = c.args.seat.now.builder in
    unended_kept c.args.row v.number _ (ended_in c.args.ending.plan.kind) v v c.args.self.now
    c.know.new.self c.args.ending c.know.result c.requires.ending c.number-number.ensures.number
    c.know.ensures (inl (c.if-not-know.true, refl, refl))

pub returns-then-not-finish-clause-none : goal.returns-then-not-finish-clause-none
returns-then-not-finish-clause-none c =
    let v = c.args.seat.now.builder in
    let early : c.finish.new.seat.builder ≡ builder_tried (FinishEarly c.args.row c.args.code) v =
    search rules in
    unended_kept c.args.row v.number _ (ended_in c.args.ending.plan.kind) v
    c.finish.new.seat.builder c.args.self.now c.know.new.self c.args.ending c.know.result
    c.requires.ending c.number-number.ensures.number c.know.ensures
    (inr (inl (
      c.if-not-know.false,
      refl,
      early ∙ ap (λ (x : OutcomeCode). builder_tried (FinishEarly c.args.row x) v) c.requires.code,
    )))

pub returns-clause-some : goal.returns-clause-some
returns-clause-some c =
    let e = c.requires.ending.closing in
    let a = c.args.self.now in
    let m = c.know.new.self in
    let z = c.close.new.self in
    let v = c.args.seat.now.builder in
    let i = c.args.row in
    let kind = c.args.ending.plan.kind in
    let knows = knows_head c.args.ending.claim e.key _ v.number c.know.result true a m
    c.requires.ending.claim c.number-number.ensures.number c.if-not-know.false c.know.ensures in
    let hand : c.finish.new.seat.builder ≡ with_finish i c.args.code v = search rules in
    let history = subst (λ (k : Kind).
    IfSome c.close.result (λ n.
    z.books.history ≡ with_entry m.books.history (record { kind = k; keys = e.key ∷ [] }))) e.kind
    (subst (λ (ks : List Key).
    IfSome c.close.result (λ n.
    z.books.history ≡ with_entry m.books.history (record { kind = kind; keys = ks })))
    (c.as_slice.ensures.keys ∙ e.offered_is) c.close.ensures.history) in
    ended_some i (ended_in kind) v c.finish.new.seat.builder a m z e.key c.close.result e.at knows
    (hand ∙ ap (λ x. with_finish i x v) c.requires.code) c.close.ensures.number history
    (subst (λ (x : OutcomeCode).
    IfSome c.close.result (λ n. z.tries ≡ m.tries
    ++ SettleDone i x ∷ offers_for (rows_of z.books.history) (e.key ∷ []))) c.requires.code
    (subst (λ (ks : List Key).
    IfSome c.close.result (λ n. z.tries ≡ m.tries
    ++ SettleDone i c.args.code ∷ offers_for (rows_of z.books.history) ks))
    (c.as_slice.ensures.keys ∙ e.offered_is) c.close.ensures.tries))

pub returns-clause-none : goal.returns-clause-none
returns-clause-none c =
    let e = c.requires.ending.closing in
    let a = c.args.self.now in
    let m = c.know.new.self in
    let v = c.args.seat.now.builder in
    let i = c.args.row in
    let knows = knows_head c.args.ending.claim e.key _ v.number c.know.result true a m
    c.requires.ending.claim c.number-number.ensures.number c.if-not-know.false c.know.ensures in
    let hand : c.finish.new.seat.builder ≡ with_finish i c.args.code v = search rules in
    ended_none i (ended_in c.args.ending.plan.kind) v c.finish.new.seat.builder a m c.close.new.self
    e.key c.args.code c.close.result e.at knows
    (hand ∙ ap (λ x. with_finish i x v) c.requires.code) c.requires.code c.close.ensures.none
