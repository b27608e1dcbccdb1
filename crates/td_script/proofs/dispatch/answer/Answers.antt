-- `answer`: what it answers, by what the line is.
use Rattle.std.proofs.Common.{refl, sym}
use Rattle.std.specs.Prelude.{codes}
use Rattle.std.proofs.lemmas.List.{append-nil}
use Rattle.td_script.proofs.AnswerLaws.{Answers-refuse}
use Rattle.td_script.proofs.dispatch.answer.Goals as goal

pub returns-in-Skipped-clause-ok : goal.returns-in-Skipped-clause-ok
returns-in-Skipped-clause-ok g c =
    rw (sym c.in_ok-read_line.ensures, c.in-Skipped.is)
    (record { text = sym (append-nil _); history = refl; refusal = refl; fixed = refl })

pub returns-in-Asked-clause-ok : goal.returns-in-Asked-clause-ok
returns-in-Asked-clause-ok g c =
    rw (sym c.in_ok-read_line.ensures, c.in-Asked.is) c.ask.ensures.ok

pub returns-in-Bad-clause-ok : goal.returns-in-Bad-clause-ok
returns-in-Bad-clause-ok g c =
    rw (sym c.in_ok-read_line.ensures, c.in-Bad.is)
    (Answers-refuse (codes "BadLine") c.args.book.now _ _ c.refuse.result c.refuse.ensures.ok)

pub returns-in-Typed-clause-ok : goal.returns-in-Typed-clause-ok
returns-in-Typed-clause-ok g c =
    rw (sym c.in_ok-read_line.ensures, c.in-Typed.is) c.type_in.ensures.ok

pub returns-in-Asked-clause-book : goal.returns-in-Asked-clause-book
returns-in-Asked-clause-book g c =
    rw (sym c.in_ok-read_line.ensures, c.in-Asked.is) c.ask.ensures.book

pub returns-in-Typed-clause-book : goal.returns-in-Typed-clause-book
returns-in-Typed-clause-book g c =
    rw (sym c.in_ok-read_line.ensures, c.in-Typed.is) c.type_in.ensures.book
