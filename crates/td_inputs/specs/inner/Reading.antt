-- What each text is read as by itself. This project's own.
use Rattle.std.specs.Prelude.{◌≡◌, ℕ, List, Option, option_copied}
use Rattle.td_text.specs.Lines.{lines_of}
use Rattle.td_relation.specs.Arch.{ArchWords}
use Rattle.td_relation.specs.TableFile.{IsTable}
use Rattle.td_rows.specs.Table.{Table}
use Rattle.td_indices.specs.Archive.{Contents}
use Rattle.td_inputs.specs.declared.form_fault.FormFault.{FormFault}
use Rattle.td_inputs.specs.declared.form_fault.FormFault.TheVariants as fault
use Rattle.td_inputs.specs.declared.open_fault.OpenFault.{OpenFault}
use Rattle.td_inputs.specs.declared.open_fault.OpenFault.TheVariants.{NoMemory}
use Rattle.td_inputs.specs.Inputs.{AreReadable, AreRowsOf, IsArchiveOf, IsNoState, LacksRowAt}
use Rattle.td_inputs.specs.Inputs.{Texts}
use Rattle.td_inputs.specs.Opened.{AreGivenRows, IsGivenTracker, IsPatternOf, IsUnopened, MayFail}
use Rattle.td_inputs.specs.Opened.{OrMemory}
use Rattle.td_inputs.specs.declared.opened.Opened.{Opened}

-- the table that these lines are, and no other
pub record IsOnlyTable (lines : List (List ℕ)) (t : List ArchWords) : Type 0 where
  pub is : IsTable lines t
  pub only : (u : List ArchWords) → IsTable lines u → t ≡ u

-- texts whose table is this one aren't opened, for this
pub record StopsAtTable (archs : List ℕ) (e : OpenFault) : Type 0 where
  pub refused : (x : Texts) → x.archs ≡ archs → IsUnopened x e
  pub only : (x : Texts) → x.archs ≡ archs → AreReadable x → e ≡ NoMemory

-- the archive that the texts are, and no other
pub record IsOnlyArchive (x : Texts) (c : Contents) : Type 0 where
  pub is : IsArchiveOf x c
  pub only : (d : Contents) → IsArchiveOf x d → c ≡ d

-- texts with this table and these indices are this archive
abbrev pub IsArchiveAt : List ArchWords → List ℕ → List ℕ → Contents → Type 0
IsArchiveAt t packages sources c =
    (x : Texts) → IsOnlyTable (lines_of x.archs) t → x.packages ≡ packages → x.sources ≡ sources
    → IsOnlyArchive x c

-- texts with this table and these indices aren't opened, for this
pub record StopsAtIndices (t : List ArchWords) (packages sources : List ℕ)
    (e : OpenFault) : Type 0 where
  pub refused : (x : Texts) → IsOnlyTable (lines_of x.archs) t → x.packages ≡ packages
      → x.sources ≡ sources → IsUnopened x e
  pub only : (x : Texts) → IsOnlyTable (lines_of x.archs) t → x.packages ≡ packages
      → x.sources ≡ sources → AreReadable x → e ≡ NoMemory

-- a state file is refused over an archive: it is none, or has a row that the archive hasn't
abbrev pub IsStateRefused : Contents → Option (List ℕ) → FormFault → Type 0
IsStateRefused c state (fault.Table e) = ⊥
IsStateRefused c state (fault.Archive e) = ⊥
IsStateRefused c state (fault.State e) = IsNoState state e
IsStateRefused c state (fault.NoSuchRow number) = LacksRowAt c state number
IsStateRefused c state (fault.Tracker e) = ⊥
IsStateRefused c state (fault.Journal e) = ⊥

-- there are no rows, for this: their text is refused, or memory runs out, and only that if the
-- rows can be had
pub record StopsAtRows (c : Contents) (state : Option (List ℕ)) (e : OpenFault) : Type 0 where
  pub refused : OrMemory (IsStateRefused c state) e
  pub only : (rows : Table) → AreRowsOf c state rows → e ≡ NoMemory

-- texts with this tracker, whose rows can be had, aren't opened, for this
pub record StopsAtTracker (tracker : Option (List ℕ)) (e : OpenFault) : Type 0 where
  pub refused : (x : Texts) (c : Contents) (rows : Table) → x.tracker ≡ tracker
      → IsArchiveOf x c → AreRowsOf c x.state rows → IsUnopened x e
  pub only : (x : Texts) → x.tracker ≡ tracker → AreReadable x → OrMemory (IsPatternOf tracker) e

-- texts aren't opened, for this, and readable ones may not be
pub record Stops (x : Texts) (e : OpenFault) : Type 0 where
  pub refused : IsUnopened x e
  pub only : AreReadable x → MayFail x e

-- texts that are this archive, with this state file and this tracker, aren't opened, for this
abbrev pub StopsOver : Contents → Option (List ℕ) → Option (List ℕ) → OpenFault → Type 0
StopsOver c state tracker e =
    (x : Texts) → IsOnlyArchive x c → x.state ≡ state → x.tracker ≡ tracker → Stops x e

-- this is lent: the archive, and what a state file and the text of a tracker say over it
pub record IsOpenedOver (c : Contents) (state text : Option (List ℕ)) (o : Opened) : Type 0 where
  pub archive : o.archive.now ≡ c
  pub rows : AreGivenRows c state o.rows
  pub tracker : IsGivenTracker text (option_copied o.tracker)
