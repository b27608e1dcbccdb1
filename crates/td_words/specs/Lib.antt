-- What the contracts of this crate cite: a file a thing.
pub mod ShownWords
pub mod Folder
pub mod CommandLine
pub mod PlanWords
pub mod Asked
pub mod WordsApart
pub mod CheckWords
pub mod DeskWords
pub mod FolderWords
pub mod inner
