-- What the contracts of this crate cite: a file a thing.
pub mod Seen
pub mod Deeds
pub mod Desk
pub mod Tries
pub mod AtRest
pub mod Calls
pub mod Commands
pub mod Undoing
pub mod Arriving
pub mod Building
pub mod Finishing
pub mod Ready
pub mod Reopening
pub mod Watching
pub mod WatchCalls
pub mod inner
