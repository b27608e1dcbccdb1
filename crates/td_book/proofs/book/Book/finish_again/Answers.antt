-- `Book::finish_again`: what it answers and the call of `close`.
use Rattle.std.proofs.Common.{◌≡◌, ◌≢◌, ◌+◌, List, [], ◌∷◌, ◌++◌, length, slice_get, ap, refl, sym}
use Rattle.std.proofs.Common.{◌∙◌, rules, inl, inr, append-nil}
use Rattle.td_board.specs.declared.views.DeskTry.TheVariants.{SettleDone, SettleEarly}
use Rattle.td_rows.specs.declared.key.Key.{Key}
use Rattle.td_rows.specs.Table.{keys_of}
use Rattle.td_core.specs.History.{History, rows_of, with_entry}
use Rattle.td_core.proofs.Phases.{keys_of-rows_of}
use Rattle.td_book.specs.Deeds.{code_of}
use Rattle.td_book.specs.Desk.{BookModel, book_of}
use Rattle.td_book.specs.Tries.{offers_for}
use Rattle.td_book.proofs.Ends.{built_there}
use Rattle.td_book.proofs.Steps.{stays_more, stays_fixed}
use Rattle.td_book.proofs.book.Book.finish_again.Goals as goal

pub returns-then-not-has_build : goal.returns-then-not-has_build
returns-then-not-has_build c =
    let r = c.has_build.ensures in
    ((r.0, r.1, r.2 ∙ c.if-not-has_build.true), refl)

pub returns-then-ne : goal.returns-then-ne
returns-then-ne c =
    let r = c.has_build.ensures in
    let other : code_of c.args.outcome ≢ c.args.code = search rules in
    let old = c.args.self.now in (
      (r.0, r.1, r.2 ∙ c.if-not-has_build.false),
      ([], (λ j. record old { tries = sym (append-nil old.tries) j }), inl (other, refl)),
    )

pub close-requires-clause-built : goal.close-requires-clause-built
close-requires-clause-built c = λ k there.
    let h = c.args.self.now.history in
    let r = c.has_build.ensures in
    built_there h c.prepare.new.self.books.history c.args.row c.args.builder k r.0
    (c.prepare.ensures.history ∙ ap (λ (m : BookModel). m.history) c.self.view_is) r.1
    (r.2 ∙ c.if-not-has_build.false) there

pub returns-in-Some : goal.returns-in-Some
returns-in-Some c =
    let h = c.args.self.now.history in
    let i = c.args.row in
    let b = c.args.builder in
    let r = c.has_build.ensures in
    let e = c.in-Ok.ensures.ending.closing in
    let same = c.prepare.ensures.history ∙ ap (λ (m : BookModel). m.history) c.self.view_is in
    let at = ap (λ (g : History). slice_get (keys_of g.opening) i) (sym same)
    ∙ ap (λ (ks : List Key). slice_get ks i)
    (sym (keys_of-rows_of c.prepare.new.self.books.history))
    ∙ e.at in
    let code : code_of c.args.outcome ≡ c.args.code = search rules in
    let now = c.close.new.self.books.history in
    let tries : c.close.new.self.tries
    ≡ c.self.inside.inner.tries
    ++ SettleDone i c.args.code ∷ offers_for (rows_of now) (e.key ∷ []) =
    c.in-Some.ensures.tries
    ∙ (λ j. c.prepare.ensures.tries j
    ++ SettleDone i c.args.code
    ∷ offers_for (rows_of now) ((c.as_slice.ensures.keys ∙ e.offered_is) j)) in (
      code,
      record {
        key = e.key;
        at = at;
        built = built_there h h i b e.key r.0 refl r.1 (r.2 ∙ c.if-not-has_build.false)
            (ap (λ (ks : List Key). slice_get ks i) (keys_of-rows_of h) ∙ at);
        history = c.in-Some.ensures.history
            ∙ (λ j. with_entry (same j)
            (record {
              kind = c.in-Ok.ensures.kind j;
              keys = (c.as_slice.ensures.keys ∙ e.offered_is) j;
            }));
        number = c.in-Some.ensures.number ∙ ap (λ (x : History). length x.journal + 1) same;
        tries = tries
            ∙ (λ j. (ap (λ (m : BookModel). m.tries) c.self.view_is) j
            ++ SettleDone i (sym code j) ∷ offers_for (rows_of now) (e.key ∷ []));
        fixed = stays_fixed c.self.inside.inner c.close.new.self
            (stays_more c.self.inside.inner c.prepare.new.self c.close.new.self
            c.prepare.ensures.stays c.in-Some.ensures.stays)
            ∙ ap (λ (m : BookModel). m.fixed) c.self.view_is;
      },
    )

pub returns : goal.returns
returns c =
    let a = c.self.inside.inner in
    let r = c.has_build.ensures in
    let code : code_of c.args.outcome ≡ c.args.code = search rules in
    let settling = SettleEarly c.args.row c.args.code ∷ [] in
    let tried : BookModel → BookModel = λ m. record m { tries = m.tries ++ settling } in
    let unchanged : book_of c.prepare.new.self ≡ book_of a =
    λ j. record {
      history = c.prepare.ensures.history j;
      fixed = stays_fixed a c.prepare.new.self c.prepare.ensures.stays j;
      tries = c.prepare.ensures.tries j;
    } in (
      (r.0, r.1, r.2 ∙ c.if-not-has_build.false),
      (
        settling,
        ap book_of c.in-None.ensures.none ∙ ap tried (unchanged ∙ c.self.view_is),
        inr (code, refl),
      ),
    )
