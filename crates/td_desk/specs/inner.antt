-- What contracts say for the code's sake: with what book a desk begins, what is kept of it under
-- the lock, when a clerk gets a receipt of a change, when two receipts are equal, and which changes
-- are left while a desk is closed.
pub mod Begun
pub mod Held
pub mod Matching
pub mod Telling
pub mod Ticks
