-- The first fault of one file.
use Rattle.std.proofs.Common.{ℕ, List, refl, inl, inr}
use Rattle.td_stanza.specs.declared.fault.StanzaFault.{StanzaFault}
use Rattle.td_stanza.specs.declared.fault.StanzaFault.TheVariants.{BadName, NoColon}
use Rattle.td_stanza.specs.declared.fault.StanzaFault.TheVariants.{ContinuationFirst, Duplicate}
use Rattle.td_stanza.specs.declared.fault.StanzaFault.TheVariants.{NoMemory}
use Rattle.td_stanza.specs.StanzaFaults.{IsFaultOf}
use Rattle.td_indices.specs.declared.archive_fault.IndexFile.{IndexFile}
use Rattle.td_indices.specs.Archive.{StanzaFaultOf, in_file}

pub faulty_file : (file : IndexFile) (lines : List (List ℕ)) (fault : StanzaFault)
    → IsFaultOf lines fault → StanzaFaultOf file lines (in_file file fault)
faulty_file file lines (BadName n) (inl want) = absurd cc
faulty_file file lines (BadName n) (inr is) = (refl, is)
faulty_file file lines (NoColon n) (inl want) = absurd cc
faulty_file file lines (NoColon n) (inr is) = (refl, is)
faulty_file file lines (ContinuationFirst n) (inl want) = absurd cc
faulty_file file lines (ContinuationFirst n) (inr is) = (refl, is)
faulty_file file lines (Duplicate n) (inl want) = absurd cc
faulty_file file lines (Duplicate n) (inr is) = (refl, is)
faulty_file file lines NoMemory h = tt
