-- What the proofs of this crate share: a file a thing.
pub mod EqualReceipts
pub mod Ticking
pub mod Counting
pub mod GoingOn
pub mod Growing
pub mod Holding
pub mod Origins
pub mod Commanding
pub mod Flooring
pub mod CommandAnswers
pub mod Reopening
pub mod Undoing
