-- What the proofs of this crate share: a file a thing.
pub mod RequestTexts
pub mod KeyLaws
pub mod AnswerLaws
pub mod CommandLaws
pub mod ReportLaws
pub mod Staying
pub mod ScriptLaws
pub mod WatchLaws
pub mod OpeningLaws
pub mod RunLaws
pub mod StreamLaws
pub mod OnlyLaws
pub mod WithoutJournal
pub mod CutLaws
pub mod StaffLaws
pub mod Words
