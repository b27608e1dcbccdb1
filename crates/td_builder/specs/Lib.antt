-- What the contracts of this crate cite: a file a thing.
pub mod Stops
pub mod Floors
pub mod Turns
pub mod Rounds
pub mod OutcomeLines
pub mod OutcomeReading
pub mod Unused
