-- What the proofs of this crate share: a file a thing.
pub mod BuilderLaws
pub mod BuilderMoves
pub mod ClaimLaws
pub mod DeskLaws
pub mod DeskMoves
pub mod Lists
pub mod NewSeats
pub mod PromiseLaws
pub mod RowLaws
pub mod RuledSteps
pub mod Schedules
pub mod SeatKeeps
pub mod TryLaws
pub mod WordLaws
