-- What the contracts of this crate cite: a file a thing. Read first `OwnRequests` (the five lines),
-- `DeskAnswers` (the answer to a line), `Events` (what a line does), `FileText` (what is in the
-- file) and `Telling` (which history a file tells).
pub mod OwnRequests
pub mod OwnReading
pub mod Hands
pub mod Ready
pub mod Sending
pub mod DeskAnswers
pub mod Events
pub mod Following
pub mod FileText
pub mod FileReading
pub mod Telling
pub mod Tales
pub mod Basis
pub mod Framing
pub mod Sessions
pub mod Terms
pub mod DeskView
pub mod Faults
pub mod Opened
pub mod Promises
pub mod inner
