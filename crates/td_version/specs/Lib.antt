-- What the contracts of this crate cite: a file a thing.
pub mod Version
pub mod Order
pub mod Comparing
pub mod Grammar
pub mod Faults
pub mod Reading
pub mod Rebuild
pub mod Splitting
pub mod Laws
pub mod Runs
pub mod Base
