-- What the contracts of this crate cite: a file a thing.
pub mod Failures
pub mod Pieces
pub mod Places
pub mod TextFault
