-- What is wrong with lines that aren't stanzas: the first line with a fault.
-- The faults are this project's own.
use Rattle.std.specs.Prelude.{◌≡◌, ℕ, ◌+◌, Bool, true, false, IsTrue, List, [], ◌∷◌, ◌++◌, length}
use Rattle.std.specs.Prelude.{Result, Ok, Err, ◌⊎◌}
use Rattle.td_text.specs.Cut.{part}
use Rattle.td_stanza.specs.declared.fault.StanzaFault.{StanzaFault}
use Rattle.td_stanza.specs.declared.fault.StanzaFault.TheVariants.{BadName, NoColon}
use Rattle.td_stanza.specs.declared.fault.StanzaFault.TheVariants.{ContinuationFirst, Duplicate}
use Rattle.td_stanza.specs.declared.fault.StanzaFault.TheVariants.{NoMemory}
use Rattle.td_stanza.specs.Line.{is_separator, is_continuation, IsFirstLine}
use Rattle.td_stanza.specs.Field.{Entry, is_field_name}
use Rattle.td_stanza.specs.StanzaGrammar.{AreFields, IsDistinct, AreStanzas, names_of, has_name}

-- a name that a first line has, and the names before it in its stanza don't
pub record IsNewName (names : List (List ℕ)) (line name : List ℕ) : Type 0 where
  pub rest : List ℕ
  pub parts : line ≡ name ++ 58 ∷ rest
  pub named : IsTrue (is_field_name name)
  pub distinct : has_name names name ≡ false

-- whether the last line is a separator; where there is none, the first argument
abbrev pub ends_apart : Bool → List (List ℕ) → Bool
ends_apart apart [] = apart
ends_apart apart (line ∷ lines) = ends_apart (is_separator line) lines

-- lines without a fault: those of whole stanzas, a separator after them, and then those of the
-- fields, if any, of a stanza that may go on
pub record IsBefore (fields : List Entry) (lines : List (List ℕ)) : Type 0 where
  pub stanzas : List (List Entry)
  pub earlier : List (List ℕ)
  pub own : List (List ℕ)
  pub parts : lines ≡ earlier ++ own
  pub whole : AreStanzas stanzas earlier
  pub apart : IsTrue (ends_apart true earlier)
  pub current : AreFields fields own
  pub distinct : IsDistinct fields

-- the fault of a line, which has this number, after the fields of its stanza: a first line without
-- a name, a name without a colon, a continuation of nothing, a name for the second time
abbrev pub IsFaultAt : StanzaFault → ℕ → List Entry → List ℕ → Type 0
IsFaultAt (BadName n) number fields line = (n ≡ number) × IsFirstLine line
    × (is_field_name (part 58 line).0 ≡ false)
IsFaultAt (NoColon n) number fields line = (n ≡ number) × IsTrue (is_field_name line)
IsFaultAt (ContinuationFirst n) number fields line = (n ≡ number) × IsTrue (is_continuation line)
    × (fields ≡ [])
IsFaultAt (Duplicate n) number fields line = (n ≡ number) × (name : List ℕ) × (rest : List ℕ)
    × (line ≡ name ++ 58 ∷ rest) × IsTrue (is_field_name name)
    × IsTrue (has_name (names_of fields) name)
IsFaultAt NoMemory number fields line = ⊥

-- the fault is that of a line; those before it, which number from 1, have none
pub record HasFault (fault : StanzaFault) (lines : List (List ℕ)) : Type 0 where
  pub before : List (List ℕ)
  pub line : List ℕ
  pub after : List (List ℕ)
  pub fields : List Entry
  pub parts : lines ≡ before ++ line ∷ after
  pub fine : IsBefore fields before
  pub fault_at : IsFaultAt fault (length before + 1) fields line

-- what was returned, unless memory ran out: these stanzas
abbrev pub GivesStanzas : Result (List (List Entry)) StanzaFault → List (List Entry) → Type 0
GivesStanzas (Ok found) stanzas = found ≡ stanzas
GivesStanzas (Err fault) stanzas = fault ≡ NoMemory

-- what was returned, unless memory ran out: this fault
abbrev pub GivesFault : Result (List (List Entry)) StanzaFault → StanzaFault → Type 0
GivesFault (Ok found) fault = ⊥
GivesFault (Err e) fault = (e ≡ NoMemory) ⊎ (e ≡ fault)

-- the fault of these lines, or memory ran out
abbrev pub IsFaultOf : List (List ℕ) → StanzaFault → Type 0
IsFaultOf lines fault = (fault ≡ NoMemory) ⊎ HasFault fault lines
