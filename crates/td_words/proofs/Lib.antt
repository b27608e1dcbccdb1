-- What the proofs of this crate share: a file a thing.
pub mod Asking
pub mod CheckAsking
pub mod PlanAsking
pub mod Apart
pub mod WordsApart
pub mod DeskAsking
pub mod DeskApart
pub mod FolderAsking
