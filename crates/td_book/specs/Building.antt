-- What a builder's start and finish do to a book. This project's own.
use Rattle.std.specs.Prelude.{◌≡◌, ◌⊎◌, ℕ, ◌+◌, ◌≤◌, Bool, true, false, List, [], ◌∷◌, ◌++◌, Some}
use Rattle.std.specs.Prelude.{None}
use Rattle.std.specs.Prelude.{Result, Ok, Err, length, slice_get, string_bytes}
use Rattle.std.specs.Prelude.{unwrap_or}
use Rattle.td_board.specs.Knowledge.{with_finish, builder_tried}
use Rattle.td_board.specs.declared.outcome.OutcomeCode.{OutcomeCode}
use Rattle.td_board.specs.declared.views.DeskTry.{DeskTry}
use Rattle.td_board.specs.declared.views.DeskTry.TheVariants.{SettleDone, SettleEarly}
use Rattle.td_board.specs.declared.views.BuilderTry.TheVariants.{FinishEarly}
use Rattle.td_board.specs.declared.views.BuilderView.{BuilderView}
use Rattle.td_board.specs.declared.views.Hand.{Hand}
use Rattle.td_board.specs.declared.views.Hand.TheVariants.{Holding}
use Rattle.td_rows.specs.declared.key.Key.{Key}
use Rattle.td_rows.specs.declared.row.Row.{Row}
use Rattle.td_rows.specs.declared.kind.Kind.{Kind}
use Rattle.td_rows.specs.declared.outcome.Outcome.{Outcome}
use Rattle.td_rows.specs.declared.outcome.Outcome.TheVariants.{Built as WasBuilt}
use Rattle.td_rows.specs.declared.kind.Kind.TheVariants.{Outcome as Ended}
use Rattle.td_rows.specs.States.{is_building_by}
use Rattle.td_rows.specs.Table.{Table, row_of, keys_of}
use Rattle.td_change.specs.Plans.{Planned, plan_of, left}
use Rattle.td_book.specs.declared.building.Ending.{Ending}
use Rattle.td_version.specs.Rebuild.{rebuild_text}
use Rattle.td_supply.specs.Supply.{version_of}
use Rattle.td_core.specs.History.{History, rows_of, with_entry}
use Rattle.td_core.specs.Offers.{supply_now}
use Rattle.td_book.specs.declared.starting.Job.{Job}
use Rattle.td_book.specs.declared.starting.StartRefusal.{StartRefusal}
use Rattle.td_book.specs.declared.starting.StartRefusal.TheVariants.{NothingHeld, NoMemory}
use Rattle.td_book.specs.declared.starting.StartRefusal.TheVariants.{Mismatch}
use Rattle.td_book.specs.Seen.{seen_off}
use Rattle.td_book.specs.Desk.{InnerModel, BookModel, Stays, Spent}
use Rattle.td_book.specs.Tries.{look_at, offers_for}
use Rattle.td_book.specs.Calls.{noting_one}
use Rattle.td_book.specs.Deeds.{code_of}

-- a build that is settled: its row's key, its builder, and how it ended
pub record Settling : Type 0 where
  pub key : Key
  pub by : ℕ
  pub ended : Outcome

-- the first key of a list
abbrev pub head_key : List Key → Key
head_key [] = record { source = []; arch = [] }
head_key (k ∷ ks) = k

-- whether the key's row is Building by the builder
abbrev pub is_built_at : Table → Key → ℕ → Bool
is_built_at t k b = elim (row_of t k) [ Some row ↦ is_building_by b row.state | None ↦ false ]

-- the row is withdrawn where it needs a build, and offered again or its claim noted; the answer is
-- whether the builder has the row now, as the journal knows
pub record Knows (b : ℕ) (k : Key) (is : Bool) (old new : InnerModel) : Type 0 where
  pub by : ℕ
  pub some_builder : by ≤ old.builders
  pub history : new.books.history ≡ noting_one old.books.history k by
  pub view : new.view ≡ seen_off [] (rows_of new.books.history)
  pub tries : new.tries ≡ old.tries ++ look_at (rows_of old.books.history) k by
  pub stays : Stays old new
  pub spent : Spent (k ∷ []) old.books new.books
  pub answers : is ≡ is_built_at (rows_of new.books.history) k b

-- ---- the job, and what a start does

-- the version of a key's source
abbrev pub version_now : BookModel → Key → List ℕ
version_now b k = unwrap_or (version_of (supply_now b.fixed.stock b.history) k.source) []

-- the job of the row with a number: its key, its source's version with the rebuild's suffix, its
-- number, and what the rebuild needs in addition to its build dependencies
abbrev pub IsJobAt : ℕ → BookModel → Job → Type 0
IsJobAt i b job =
    (row : Row) × (slice_get (rows_of b.history) i ≡ Some (job.key, row))
    × (job.number ≡ row.number) × (job.extra ≡ row.extra)
    × (string_bytes job.version ≡ rebuild_text (version_now b job.key) row.number)

-- the claim of the row with a number is noted, whoever's it is, and `is` says whether the builder
-- has the row then. The row, and no other, was withdrawn for that if it needed a build, and offered
-- again if no claim was there; `behind` is what was tried after that
pub record Noticed (i b : ℕ) (is : Bool) (behind : List DeskTry)
    (old new : BookModel) : Type 0 where
  pub key : Key
  pub at : slice_get (keys_of old.history.opening) i ≡ Some key
  pub by : ℕ
  pub some_builder : by ≤ old.fixed.builders
  pub history : new.history ≡ noting_one old.history key by
  pub answers : is ≡ is_built_at (rows_of new.history) key b
  pub tries : new.tries ≡ old.tries ++ (look_at (rows_of old.history) key by ++ behind)
  pub fixed : new.fixed ≡ old.fixed

-- what a start answers: with no row in hand nothing is started, and no memory is taken; else,
-- unless memory runs out, the claim is noted, and the job, by the rows before the call, is given if
-- the builder has the row
abbrev pub StartOutcome : ℕ → Hand → BookModel → BookModel → Result Job StartRefusal → Type 0
StartOutcome b (Holding i) old new (Ok job) = Noticed i b true [] old new × IsJobAt i old job
StartOutcome b (Holding i) old new (Err Mismatch) = Noticed i b false [] old new
StartOutcome b (Holding i) old new (Err NothingHeld) = ⊥
StartOutcome b (Holding i) old new (Err NoMemory) = new ≡ old
StartOutcome b hand old new result = (result ≡ Err NothingHeld) × (new ≡ old)

-- ---- a finish

-- the builder whose build a kind ends; 0 for a kind that ends none
abbrev pub by_in : Kind → ℕ
by_in (Ended b o) = b
by_in kind = 0

-- the outcome with which a kind ends a build; built, for a kind that ends none
abbrev pub ended_in : Kind → Outcome
ended_in (Ended b o) = o
ended_in kind = WasBuilt

-- the build that a plan settles
abbrev pub settling_of : Planned → Settling
settling_of p = record { key = head_key (left p); by = by_in p.kind; ended = ended_in p.kind }

-- what closing the build of a row with a number takes, by this builder: the key, and a plan of the
-- entry
pub record IsClosing (i b : ℕ) (h : History) (offered : List Key) (plan : Planned) : Type 0 where
  pub key : Key
  pub at : slice_get (keys_of (rows_of h)) i ≡ Some key
  pub offered_is : offered ≡ key ∷ []
  pub kind : plan.kind ≡ Ended b (ended_in plan.kind)
  pub plan_is : plan ≡ plan_of plan.kind (key ∷ []) (rows_of h)

-- what its end takes: the key once more
pub record IsEndingAt (i b : ℕ) (h : History) (e : Ending) : Type 0 where
  pub closing : IsClosing i b h e.offered e.plan
  pub claim : e.claim ≡ closing.key ∷ []

-- the claim is noted where that wasn't done, then how the build ended, and the hand is finished;
-- the last entry has this number
pub record IsEnded (i : ℕ) (o : Outcome) (v w : BuilderView) (old new : InnerModel)
    (n : ℕ) : Type 0 where
  pub key : Key
  pub at : slice_get (keys_of (rows_of old.books.history)) i ≡ Some key
  pub by : ℕ
  pub some_builder : by ≤ old.builders
  pub built : is_built_at (rows_of (noting_one old.books.history key by)) key v.number ≡ true
  pub now : new.books.history
      ≡ with_entry (noting_one old.books.history key by)
      (record { kind = Ended v.number o; keys = key ∷ [] })
  pub number : n ≡ length (noting_one old.books.history key by).journal + 1
  pub tries : new.tries
      ≡ old.tries ++ (look_at (rows_of old.books.history) key by
      ++ SettleDone i (code_of o) ∷ offers_for (rows_of new.books.history) (key ∷ []))
  pub hand : w ≡ with_finish i (code_of o) v

-- how far an end came that wasn't made, of the row with a number, by whether the builder has the
-- row: if not, nothing more was tried; else the finish was tried and came too early, or it was done
-- and the settling came too early
abbrev pub EndsShort : ℕ → OutcomeCode → Bool → List DeskTry → BuilderView → BuilderView → Type 0
EndsShort i c is behind v w =
    ((is ≡ false) × (behind ≡ []) × (w ≡ v))
    ⊎ ((is ≡ true) × (behind ≡ []) × (w ≡ builder_tried (FinishEarly i c) v))
    ⊎ ((is ≡ true) × (behind ≡ SettleEarly i c ∷ []) × (w ≡ with_finish i c v))

-- a word of the board wasn't the one that the hand calls for: the claim may be noted, and, where
-- the builder has the row then, its hand be finished
pub record IsUnended (i : ℕ) (o : Outcome) (v w : BuilderView) (old new : InnerModel) : Type 0 where
  pub key : Key
  pub at : slice_get (keys_of (rows_of old.books.history)) i ≡ Some key
  pub is : Bool
  pub known : InnerModel
  pub knows : Knows v.number key is old known
  pub behind : List DeskTry
  pub now : new ≡ record known { tries = known.tries ++ behind }
  pub hand : EndsShort i (code_of o) is behind v w
