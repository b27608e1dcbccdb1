-- What the contracts of this crate cite: a file a thing.
pub mod Replies
pub mod CrewEnds
pub mod CrewText
pub mod Lines
