-- What the contracts of this crate cite: a file a thing.
pub mod Answers
pub mod Knowledge
pub mod Limits
pub mod OutcomeCode
pub mod Phase
pub mod Promises
pub mod Rule
pub mod Ruled
pub mod Seats
pub mod Steps
pub mod Tells
