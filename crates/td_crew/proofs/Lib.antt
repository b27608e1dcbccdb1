-- What the proofs of this crate share: a file a thing.
mod Heads
pub mod CrewRuns
pub mod Endings
pub mod BegunMarks
pub mod Replied
pub mod ToldSoFar
