-- What the contracts of this crate cite: a file a thing.
pub mod Saved
pub mod Plans
pub mod Laws
pub mod Inside
