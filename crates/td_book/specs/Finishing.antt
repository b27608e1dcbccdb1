-- What the end of a build does to a book. This project's own.
use Rattle.std.specs.Prelude.{◌≡◌, ◌≢◌, ◌⊎◌, ℕ, ◌+◌, ◌≤◌, Bool, true, false, List, [], ◌∷◌, ◌++◌}
use Rattle.std.specs.Prelude.{Some, Result, Ok}
use Rattle.std.specs.Prelude.{Err, length, slice_get}
use Rattle.td_board.specs.declared.outcome.OutcomeCode.{OutcomeCode}
use Rattle.td_board.specs.declared.views.DeskTry.{DeskTry}
use Rattle.td_board.specs.declared.views.DeskTry.TheVariants.{SettleDone, SettleEarly}
use Rattle.td_board.specs.declared.views.BuilderView.{BuilderView}
use Rattle.td_board.specs.declared.views.Hand.{Hand}
use Rattle.td_board.specs.declared.views.Hand.TheVariants.{Free, Holding, Finished}
use Rattle.td_board.specs.Knowledge.{with_finish}
use Rattle.td_rows.specs.declared.key.Key.{Key}
use Rattle.td_rows.specs.declared.kind.Kind.TheVariants.{Outcome as Ended}
use Rattle.td_rows.specs.declared.outcome.Outcome.{Outcome}
use Rattle.td_rows.specs.Table.{keys_of}
use Rattle.td_core.specs.History.{rows_of, with_entry}
use Rattle.td_book.specs.declared.finishing.FinishRefusal.{FinishRefusal}
use Rattle.td_book.specs.declared.finishing.FinishRefusal.TheVariants.{NothingHeld, NoMemory}
use Rattle.td_book.specs.declared.finishing.FinishRefusal.TheVariants.{Mismatch}
use Rattle.td_book.specs.Desk.{BookModel}
use Rattle.td_book.specs.Deeds.{code_of}
use Rattle.td_book.specs.Tries.{look_at, offers_for}
use Rattle.td_book.specs.Calls.{noting_one}
use Rattle.td_book.specs.Building.{is_built_at, Noticed, EndsShort}

-- the key of the row with a number
abbrev pub IsKeyOf : BookModel → ℕ → Key → Type 0
IsKeyOf b i k = slice_get (keys_of b.history.opening) i ≡ Some k

-- the claim is noted where that wasn't done, and then how the build ended: by the builder, on the
-- row that it holds. The last entry has this number; the row was withdrawn for the claim if it
-- needed a build, settled, and offered if it needs one then
pub record Finishes (i b : ℕ) (o : Outcome) (old new : BookModel) (n : ℕ) : Type 0 where
  pub key : Key
  pub at : IsKeyOf old i key
  pub by : ℕ
  pub some_builder : by ≤ old.fixed.builders
  pub built : is_built_at (rows_of (noting_one old.history key by)) key b ≡ true
  pub history : new.history
      ≡ with_entry (noting_one old.history key by) (record { kind = Ended b o; keys = key ∷ [] })
  pub number : n ≡ length (noting_one old.history key by).journal + 1
  pub tries : new.tries
      ≡ old.tries ++ (look_at (rows_of old.history) key by
      ++ SettleDone i (code_of o) ∷ offers_for (rows_of new.history) (key ∷ []))
  pub fixed : new.fixed ≡ old.fixed

-- a finish of the row that is held
abbrev pub FinishHeld : ℕ → Outcome → BuilderView → BuilderView → BookModel → BookModel
    → Result ℕ FinishRefusal → Type 0
FinishHeld i o v w old new (Ok n) =
    Finishes i v.number o old new n × (w ≡ with_finish i (code_of o) v)
FinishHeld i o v w old new (Err NoMemory) = (new ≡ old) × (w ≡ v)
FinishHeld i o v w old new (Err Mismatch) =
    (is : Bool) × (behind : List DeskTry) × Noticed i v.number is behind old new
    × EndsShort i (code_of o) is behind v w
FinishHeld i o v w old new (Err NothingHeld) = ⊥

-- the build is settled that ended so before, with the text of this call
pub record Settles (i b : ℕ) (o : Outcome) (old new : BookModel) (n : ℕ) : Type 0 where
  pub key : Key
  pub at : IsKeyOf old i key
  pub built : is_built_at (rows_of old.history) key b ≡ true
  pub history : new.history ≡ with_entry old.history (record { kind = Ended b o; keys = key ∷ [] })
  pub number : n ≡ length old.history.journal + 1
  pub tries : new.tries
      ≡ old.tries ++ SettleDone i (code_of o) ∷ offers_for (rows_of new.history) (key ∷ [])
  pub fixed : new.fixed ≡ old.fixed

-- whether the row with a number is the builder's
abbrev pub HasRowOf : Bool → ℕ → ℕ → BookModel → Type 0
HasRowOf is i b m = (key : Key) × IsKeyOf m i key × (is_built_at (rows_of m.history) key b ≡ is)

-- a finish once more, by a hand whose build ended with this code: a settled one holds nothing, one
-- of another code changes nothing, and memory is taken for one that isn't settled and has the code.
-- That one is a mismatch only where the settling was tried and came too early
abbrev pub FinishAgain : ℕ → OutcomeCode → Outcome → ℕ → BookModel → BookModel
    → Result ℕ FinishRefusal → Type 0
FinishAgain i c o b old new (Ok n) = (code_of o ≡ c) × Settles i b o old new n
FinishAgain i c o b old new (Err NothingHeld) = HasRowOf false i b old × (new ≡ old)
FinishAgain i c o b old new (Err NoMemory) =
    HasRowOf true i b old × (new ≡ old) × (code_of o ≡ c)
FinishAgain i c o b old new (Err Mismatch) =
    HasRowOf true i b old
    × ((more : List DeskTry) × (new ≡ record old { tries = old.tries ++ more })
    × (((code_of o ≢ c) × (more ≡ [])) ⊎ ((code_of o ≡ c) × (more ≡ SettleEarly i c ∷ []))))

-- what a finish answers, by what the builder's hand has
abbrev pub FinishOutcome : Hand → Outcome → BuilderView → BuilderView → BookModel → BookModel
    → Result ℕ FinishRefusal → Type 0
FinishOutcome Free o v w old new result = (result ≡ Err NothingHeld) × (new ≡ old) × (w ≡ v)
FinishOutcome (Holding i) o v w old new result = FinishHeld i o v w old new result
FinishOutcome (Finished i c) o v w old new result =
    FinishAgain i c o v.number old new result × (w ≡ v)
