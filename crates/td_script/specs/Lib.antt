-- What the contracts of this crate cite: a file a thing.
pub mod Answering
pub mod Asking
pub mod Ends
pub mod OpeningInside
pub mod Openings
pub mod Reading
pub mod Replies
pub mod Replying
pub mod Reporting
pub mod Watched
pub mod Requests
pub mod Script
pub mod Settings
pub mod Telling
pub mod Cutting
pub mod Limits
