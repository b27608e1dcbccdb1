-- `seated`: each builder that comes off the list is at the desk's board.
use Rattle.std.proofs.Common.{◌≡◌, Some}
use Rattle.std.proofs.lemmas.List.Elements.{All-pop}
use Rattle.td_board.specs.Seats.{BuilderModel}
use Rattle.td_desk_tests.proofs.book.desk.seated.Goals as goal

pub invariant_of-result : goal.invariant_of-result
invariant_of-result c =
    let seats = c.in-Some-Some-Some in
    let at = λ (s : BuilderModel). s.table ≡ c.args.board.table in
    let third = All-pop at c.args.builders.items c.pop.new.self.items (Some seats.three)
    seats.ensures.items c.requires.builders in
    let second = All-pop at c.pop.new.self.items c.pop-2.new.self.items (Some seats.two)
    seats.ensures'.items third.0 in
    let first = All-pop at c.pop-2.new.self.items c.pop-3.new.self.items (Some seats.one)
    seats.ensures''.items second.0 in
    record {
      book_at = c.requires.book;
      one_at = first.1;
      two_at = second.1;
      three_at = third.1;
    }
