-- The fields of a stanza: their values, and what has to stand in some of them (Debian Policy 5.1,
-- 5.3 and 5.4).
use Rattle.std.specs.Prelude.{ℕ, Bool, true, false, ◌≡◌, List, [], Option, Some, None, option_map}
use Rattle.std.specs.Prelude.{Result, Ok, Err, codes, if◌then◌else◌}
use Rattle.std.specs.Borrow.{Bor}
use Rattle.std.specs.List.{find}
use Rattle.td_text.specs.Words.{is_name}
use Rattle.td_stanza.specs.Field.{Entry, is_same_name}
use Rattle.td_version.specs.Version.{Parts, parts_of}
use Rattle.td_version.specs.Reading.{reading}
use Rattle.td_version.specs.declared.version.Version.{Version}
use Rattle.td_version.specs.declared.version.VersionFault.{VersionFault}
use Rattle.td_relation.specs.Asked.{Asked}
use Rattle.td_relation.specs.Members.{members}
use Rattle.td_relation.specs.RelationGrammar.{relation_at}
use Rattle.td_text.specs.Runs.{is_blank}
use Rattle.td_relation.specs.declared.relation.Relation.{Relation}
use Rattle.td_relation.specs.declared.relation_fault.RelationFault.{RelationFault}
use Rattle.td_relation.specs.declared.relation_fault.RelationFault.TheVariants as relation
use Rattle.td_indices.specs.declared.archive_fault.IndexField.{IndexField}
use Rattle.td_indices.specs.declared.archive_fault.RelationField.{RelationField}
use Rattle.td_indices.specs.declared.archive_fault.RelationField.TheVariants.{Depends, PreDepends}
use Rattle.td_indices.specs.declared.archive_fault.RelationField.TheVariants.{Provides}
use Rattle.td_indices.specs.declared.archive_fault.RelationField.TheVariants.{BuildDepends}
use Rattle.td_indices.specs.declared.archive_fault.RelationField.TheVariants.{BuildDependsArch}
use Rattle.td_indices.specs.declared.archive_fault.VersionField.{VersionField}
use Rattle.td_indices.specs.declared.archive_fault.EntryFault.{EntryFault}
use Rattle.td_indices.specs.declared.archive_fault.EntryFault.TheVariants.{Missing, BadVersion}
use Rattle.td_indices.specs.declared.archive_fault.EntryFault.TheVariants.{BadRelation, NoMemory}

-- the value of the field that has the name, in whatever case
abbrev pub value_of : List Entry → List ℕ → Option (List ℕ)
value_of fields name = option_map (λ f. f.value) (find (λ f. is_same_name name f.name) fields)

-- the value of a field that a stanza needs
abbrev pub needed : IndexField → Option (List ℕ) → Result (List ℕ) EntryFault
needed field None = Err (Missing field)
needed field (Some text) = Ok text

-- the name of a package, where one has to stand
abbrev pub name_in : IndexField → Option (List ℕ) → Result (List ℕ) EntryFault
name_in field None = Err (Missing field)
name_in field (Some text) = if is_name text then Ok text else Err (Missing field)

-- a version, where one has to stand in this field
abbrev pub version_or_bad : VersionField → Result Parts VersionFault → Result Parts EntryFault
version_or_bad field (Ok parts) = Ok parts
version_or_bad field (Err fault) = Err (BadVersion field)

-- the version that a text is, where one has to stand in this field
abbrev pub version_in : VersionField → List ℕ → Result Parts EntryFault
version_in field text = version_or_bad field (reading text)

-- the names of the fields that are relations (Debian Policy 7.2, 7.5 and 7.7)
abbrev pub relation_field_name : RelationField → List ℕ
relation_field_name Depends = codes "Depends"
relation_field_name PreDepends = codes "Pre-Depends"
relation_field_name Provides = codes "Provides"
relation_field_name BuildDepends = codes "Build-Depends"
relation_field_name BuildDependsArch = codes "Build-Depends-Arch"

-- a relation, where one has to stand in this field
abbrev pub relation_or_bad : RelationField → Result (List (List Asked)) RelationFault
    → Result (List (List Asked)) EntryFault
relation_or_bad field (Ok members) = Ok members
relation_or_bad field (Err fault) = Err (BadRelation field)

-- the fault of a field that can't be read as a relation for this cause: a bad relation, unless
-- memory ran out
abbrev pub unread_relation : RelationField → RelationFault → EntryFault
unread_relation field relation.NoMemory = NoMemory
unread_relation field fault = BadRelation field

-- what a relation field asks: nothing if it isn't there, or has only whitespace (that it may is
-- this project's own)
abbrev pub relation_in : RelationField → Option (List ℕ) → Result (List (List Asked)) EntryFault
relation_in field None = Ok []
relation_in field (Some text) =
    if is_blank text then Ok [] else relation_or_bad field (relation_at text)

-- what a relation field of a stanza asks
abbrev pub relation_of : List Entry → RelationField → Result (List (List Asked)) EntryFault
relation_of fields field = relation_in field (value_of fields (relation_field_name field))

-- ---- what the readers give, without where it lies in memory

-- a text
abbrev pub found_text : Result (Bor (List ℕ)) EntryFault → Result (List ℕ) EntryFault
found_text (Ok text) = Ok text.now
found_text (Err fault) = Err fault

-- a version
abbrev pub version_found : Result Version EntryFault → Result Parts EntryFault
version_found (Ok version) = Ok (parts_of version)
version_found (Err fault) = Err fault

-- what a relation asks; none asks nothing
abbrev pub asked_by : Option Relation → List (List Asked)
asked_by None = []
asked_by (Some relation) = members relation

-- whether a fault is that memory ran out
abbrev pub is_want : EntryFault → Bool
is_want NoMemory = true
is_want fault = false

-- a fault is the reading's, unless it is that memory ran out
abbrev pub Fails : {A : Type 0} → Result A EntryFault → EntryFault → Type 0
Fails read fault = is_want fault ≡ false → read ≡ Err fault
