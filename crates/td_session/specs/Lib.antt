-- What the contracts of this crate cite: a file a thing.
pub mod Grounds
pub mod inner
pub mod Sessions
