-- The seats of a new board.
use Rattle.std.proofs.Common.{◌≡◌, ℕ, zero, suc, List, [], length, refl, ap, ap₂, ◌∙◌, subst, sym}
use Rattle.std.specs.List.{All}
use Rattle.std.proofs.lemmas.List.{length-replicate}
use Rattle.std.proofs.lemmas.List.Elements.{All-cons, All-nil}
use Rattle.atomic_table.specs.Seated.{TableId}
use Rattle.td_board.specs.Knowledge.{new_desk}
use Rattle.td_board.specs.Seats.{BuilderModel, DeskModel, new_seat, new_seats}

pub length-new_seats : (table : TableId) (b n : ℕ) → length (new_seats table b n) ≡ n
length-new_seats table b zero = refl
length-new_seats table b (suc n) = ap suc (length-new_seats table (suc b) n)

pub new_seats-at : (table : TableId) (b n : ℕ)
    → All (λ (s : BuilderModel). s.table ≡ table) (new_seats table b n)
new_seats-at table b zero = All-nil (λ (s : BuilderModel). s.table ≡ table)
new_seats-at table b (suc n) =
    All-cons (λ (s : BuilderModel). s.table ≡ table) (new_seat table b) (new_seats table (suc b) n)
    refl (new_seats-at table (suc b) n)

pub seats_at : (table : TableId) (b n : ℕ) (seats : List BuilderModel) → seats ≡ new_seats table b n
    → All (λ (s : BuilderModel). s.table ≡ table) seats
seats_at table b n seats is =
    subst (λ (l : List BuilderModel). All (λ (s : BuilderModel). s.table ≡ table) l) (sym is)
    (new_seats-at table b n)

pub length-seats : (table : TableId) (b n : ℕ) (seats : List BuilderModel)
    → seats ≡ new_seats table b n → length seats ≡ n
length-seats table b n seats is = ap length is ∙ length-new_seats table b n

-- under the name of their table
pub seats_named : (table named : TableId) (seats : List BuilderModel)
    → All (λ (s : BuilderModel). s.table ≡ table) seats → table ≡ named
    → All (λ (s : BuilderModel). s.table ≡ named) seats
seats_named table named seats are at =
    subst (λ (t : TableId). All (λ (s : BuilderModel). s.table ≡ t) seats) at are

-- the desk's: nothing is noted yet
pub desk_at : (table : TableId) (rows builders n : ℕ) (seat : DeskModel)
    → seat ≡ record { table = table; desk = new_desk rows builders } → rows ≡ n
    → seat.desk ≡ new_desk n (length seat.desk.noted)
desk_at table rows builders n seat is same =
    ap (λ (s : DeskModel). s.desk) is
    ∙ ap₂ new_desk same
    (sym (ap (λ (s : DeskModel). length s.desk.noted) is ∙ length-replicate builders []))
