-- What the contracts of this crate cite: a file a thing.
pub mod Naming
pub mod Skips
