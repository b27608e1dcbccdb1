-- What the contracts of this crate cite: a file a thing.
pub mod Pieces
pub mod Faults
pub mod Lost
pub mod Notes
