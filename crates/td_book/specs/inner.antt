-- What contracts say for the code's sake: how the list of the rows on offer and the counts of a
-- watch are kept up.
pub mod OutRows
pub mod Tallies
pub mod WatchOver
