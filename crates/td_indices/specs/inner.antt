-- What contracts say for the code's sake: how each file is read by itself, and in pieces and parts,
-- where the packages that count stand, what both files keep, and the packages by their sources.
pub mod IndexReading
pub mod Pieces
pub mod Parts
pub mod Placed
pub mod Assembling
pub mod Groups
pub mod Sound
