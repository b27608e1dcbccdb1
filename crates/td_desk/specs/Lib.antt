-- What the contracts of this crate cite: a file a thing.
pub mod Receipts
pub mod Changes
pub mod Clerks
pub mod Names
pub mod GoingOn
pub mod Marks
pub mod Calls
pub mod inner
