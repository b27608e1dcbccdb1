-- What the contracts of this crate cite: a file a thing.
pub mod History
pub mod Keeps
pub mod Offers
pub mod Arriving
pub mod Books
pub mod Committing
pub mod Phases
pub mod Worlds
pub mod Refusals
pub mod Steps
pub mod Promises
pub mod Inverse
pub mod Reopened
