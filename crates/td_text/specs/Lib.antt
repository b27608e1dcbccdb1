-- What the contracts of this crate cite: a file a thing.
pub mod Chain
pub mod Cut
pub mod Exact
pub mod Spelled
pub mod FirstFault
pub mod Limits
pub mod Lines
pub mod Numbers
pub mod Runs
pub mod Words
