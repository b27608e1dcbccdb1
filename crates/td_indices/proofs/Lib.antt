-- What the proofs of this crate share: a file a thing.
pub mod WordCuts
mod FieldValues
pub mod Putting
pub mod Keeping
pub mod PlacedPackages
pub mod SourceKeeping
pub mod Steps
pub mod RowCounts
pub mod Places
pub mod SourceLookups
pub mod StanzaLists
pub mod ArchiveFaults
pub mod RebuildNumbers
pub mod Greatest
pub mod CountingLaws
pub mod LegalNames
pub mod OpeningRows
pub mod Filling
pub mod KeptStanzas
pub mod Names
pub mod OwnPlaces
pub mod FirstFaults
pub mod Refusals
pub mod OpeningLaws
pub mod OpeningCounts
pub mod OpeningTables
pub mod Chosen
mod Needed
pub mod PackageStanzas
pub mod OfferLaws
pub mod SourceStanzas
mod Skipped
pub mod Pieces
pub mod Parts
pub mod Cuts
pub mod OpeningNumbers
pub mod FaultOrder
pub mod MissingFields
pub mod BadFields
