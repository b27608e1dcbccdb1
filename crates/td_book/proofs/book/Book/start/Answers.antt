-- `Book::start`: what it answers and the call of `job`.
use Rattle.std.proofs.Common.{◌≡◌, ℕ, [], Ok, Err, Result, ap, sym, subst, append-nil}
use Rattle.td_board.specs.declared.views.Hand.{Hand}
use Rattle.td_board.specs.declared.views.Hand.TheVariants.{Holding}
use Rattle.td_rows.specs.declared.key.Key.{Key}
use Rattle.td_book.specs.declared.book.Book.TheInside.{Inside}
use Rattle.td_book.specs.declared.starting.Job.{Job}
use Rattle.td_book.specs.declared.starting.StartRefusal.{StartRefusal}
use Rattle.td_book.specs.declared.starting.StartRefusal.TheVariants.{Mismatch}
use Rattle.td_book.specs.Desk.{BookModel, book_of}
use Rattle.td_book.specs.Building.{head_key, Knows, Noticed, IsJobAt, StartOutcome}
use Rattle.td_book.proofs.Builds.{board_row, noticed, job_key}
use Rattle.td_book.proofs.book.Book.start.Goals as goal
use Rattle.td_book.proofs.book.Book.start.Goals.{then-know, else-know}

pub job-requires : goal.job-requires
job-requires c =
    board_row _ c.self.inside.inner c.args.self.now c.args.seat.now.table _ c.rows-rows.result
    c.in-Holding.ensures.row c.rows-rows.ensures.number c.rows-rows.ensures.table
    (ap (λ (s : Inside). s.inner) c.self-inside.view_is) c.self.invariant c.self.view_is
    c.requires.seat

pub returns : goal.returns
returns c =
    let a = c.self.inside.inner in
    let n = c.know.new.self in
    let i = c.in-Holding.row in
    let number = c.args.seat.now.builder.number in
    let job = c.in-Ok.job in
    let is_job : IsJobAt i (book_of a) job =
    subst (λ (m : BookModel). IsJobAt i m job) (sym c.self.view_is) c.in-Ok.ensures in
    let key : head_key c.in-Ok-claim.claim ≡ job.key = ap head_key c.in-Ok-claim.ensures.claim in
    let at = job_key i (book_of a) job is_job in
    let knows : Knows number job.key c.know.result c.claim.new.self n =
    subst (λ (x : ℕ). Knows x job.key c.know.result c.claim.new.self n) c.number.ensures.number
    (subst (λ (k : Key). Knows c.number.result k c.know.result c.claim.new.self n) key
    c.know.ensures) in
    let told : Noticed i number c.know.result [] (book_of a) (book_of n) =
    noticed i number job.key c.know.result [] a c.claim.new.self n n.tries knows
    c.claim.ensures.history c.claim.ensures.tries c.claim.ensures.stays at
    (sym (append-nil n.tries)) in
    let all : (r : Result Job StartRefusal)
    → StartOutcome number (Holding i) (book_of a) (book_of n) r → c.if-know.result ≡ r
    → StartOutcome number c.args.seat.now.builder.hand c.args.self.now
    (book_of n) c.if-know.result =
    λ r is same. subst (λ (m : BookModel).
    StartOutcome number c.args.seat.now.builder.hand m (book_of n) c.if-know.result) c.self.view_is
    (subst (λ (x : Result Job StartRefusal).
    StartOutcome number c.args.seat.now.builder.hand (book_of a) (book_of n) x) (sym same)
    (subst (λ (h : Hand). StartOutcome number h (book_of a) (book_of n) r) c.in-Holding.ensures.hand
    is)) in
    elim c.if-know.branch [
      | then-know w ↦
          all (Ok job) (
            subst (λ v. Noticed i number v [] (book_of a) (book_of n)) w.if-know.true told,
            is_job,
          ) w.result-is
      | else-know w ↦
          all (Err Mismatch) (subst (λ v. Noticed i number v [] (book_of a) (book_of n))
          w.if-know.false told) w.result-is
    ]
