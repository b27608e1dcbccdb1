-- What the contracts of this crate cite: a file a thing.
pub mod Counts
pub mod Swapped
pub mod Details
pub mod Asked
pub mod TrackerDetails
pub mod CutOff
