-- What the contracts of this crate cite: a file a thing.
pub mod Faults
pub mod Lacking
pub mod Inputs
pub mod Opened
pub mod inner
