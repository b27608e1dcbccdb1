-- What the contracts of this crate cite: a file a thing.
pub mod Spot
pub mod Shown
pub mod Stray
pub mod ArchFlaw
pub mod FlawLaws
pub mod Packing
pub mod Unread
pub mod Explanation
pub mod SpotLaws
