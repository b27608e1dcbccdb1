-- The parts of a command: withdrawals, the entry, its answer. This project's own.
use Rattle.std.specs.Prelude.{◌≡◌, ◌≢◌, ℕ, zero, suc, ◌+◌, ◌≤◌, Bool, true, false, ◌&&◌, List, []}
use Rattle.std.specs.Prelude.{◌∷◌, ◌++◌, Option, Some, None, Result, Ok, Err, if◌then◌else◌, length}
use Rattle.std.specs.Prelude.{slice_get, slice_set, take}
use Rattle.td_board.specs.declared.views.RowView.TheVariants.{Known}
use Rattle.td_board.specs.declared.views.DeskTry.{DeskTry}
use Rattle.td_board.specs.declared.views.DeskTry.TheVariants.{WithdrawalLost, ClaimNoted}
use Rattle.td_rows.specs.declared.key.Key.{Key}
use Rattle.td_rows.specs.declared.row.Row.{Row}
use Rattle.td_rows.specs.declared.kind.Kind.{Kind}
use Rattle.td_rows.specs.declared.kind.Kind.TheVariants.{Gb, Claim}
use Rattle.td_rows.specs.Keys.{names, ascending}
use Rattle.td_rows.specs.Kinds.{cells}
use Rattle.td_rows.specs.States.{is_queued}
use Rattle.td_rows.specs.Table.{Table, keys_of}
use Rattle.td_change.specs.Plans.{Planned, plan_of, left}
use Rattle.td_journal.specs.Commands.{is_command}
use Rattle.td_core.specs.Committing.{takes}
use Rattle.td_core.specs.History.{History, rows_of, with_entry}
use Rattle.td_core.specs.Refusals.{is_queued_at}
use Rattle.td_book.specs.Seen.{seen_off}
use Rattle.td_book.specs.Desk.{InnerModel, BookModel, Stays, Spent, claim_of}
use Rattle.td_book.specs.Tries.{tries_at, tries_for, offers_for}
use Rattle.td_book.specs.declared.commanding.CommandRefusal.{CommandRefusal}
use Rattle.td_book.specs.declared.commanding.CommandRefusal.TheVariants.{NothingApplies, NoMemory}
use Rattle.td_book.specs.declared.commanding.Taken.{Taken}
use Rattle.td_naming.specs.declared.skips.Skip.{Skip}

-- ---- 1. withdrawals

-- whether a withdrawal is lost, and to whom: 0 where the desk is first
abbrev pub is_lost : ℕ → Bool
is_lost zero = false
is_lost (suc b) = true

-- the history with the claim on the row of k, where it needs a build and builder b was faster
abbrev pub noting_one : History → Key → ℕ → History
noting_one h k b =
    if is_queued_at (rows_of h) k && is_lost b then with_entry h (claim_of b k) else h

-- the history with the claims on the rows that need a build: who was faster at each is chosen by
-- the list
abbrev pub noting : History → List Key → List ℕ → History
noting h [] bs = h
noting h (k ∷ ks) [] = h
noting h (k ∷ ks) (b ∷ bs) = noting (noting_one h k b) ks bs

-- a choice for each of the keys, bound by the number of builders: with none, none is lost
pub record Choices (builders : ℕ) (keys : List Key) (choices : List ℕ) : Type 0 where
  pub one_each : length choices ≡ length keys
  pub bound : (i b : ℕ) → slice_get choices i ≡ Some b → b ≤ builders

-- the row of the key has this number and needs a build
pub record OutAt (t : Table) (k : Key) (i : ℕ) : Type 0 where
  pub row : Row
  pub at : slice_get t i ≡ Some (k, row)
  pub out : is_queued row.state ≡ true

-- the row with this number needs a build
abbrev pub HasOut : Table → ℕ → Type 0
HasOut t i = (k : Key) × OutAt t k i

-- the row with this number, if there is one, needs no build
abbrev pub HasIdle : Table → ℕ → Type 0
HasIdle t i = (k : Key) (row : Row) → slice_get t i ≡ Some (k, row) → is_queued row.state ≡ false

-- the list is of one key, whose row has this number and needs a build
pub record Claimable (old : InnerModel) (i : ℕ) (claim : List Key) : Type 0 where
  pub key : Key
  pub one : claim ≡ key ∷ []
  pub out : OutAt (rows_of old.books.history) key i
  pub rising : ascending (keys_of (rows_of old.books.history)) ≡ true

-- the withdrawal of the row was lost to this builder, whose claim is noted
pub record LostTo (by : ℕ) (old new : InnerModel) (i : ℕ) (claim : List Key) : Type 0 where
  pub one : 1 ≤ by
  pub some_builder : by ≤ old.builders
  pub history : new.books.history
      ≡ with_entry old.books.history (record { kind = Claim by; keys = claim })
  pub view : new.view ≡ slice_set old.view i (Known by)
  pub tries : new.tries ≡ old.tries ++ WithdrawalLost i by ∷ ClaimNoted i by ∷ []
  pub stays : Stays old new
  pub spent : Spent claim old.books new.books

-- the claim of the row is noted, of some builder
abbrev pub Lost : InnerModel → InnerModel → ℕ → List Key → Type 0
Lost old new i claim = (by : ℕ) × LostTo by old new i claim

-- the list is of the key at a place
abbrev pub IsKeyAt : List Key → ℕ → List Key → Type 0
IsKeyAt keys i one = (k : Key) × (slice_get keys i ≡ Some k) × (one ≡ k ∷ [])

-- the number of the claim's entry, where the withdrawal is lost
abbrev pub claim_no : History → Key → ℕ → Option ℕ
claim_no h k b =
    if is_queued_at (rows_of h) k && is_lost b then Some (length h.journal + 1) else None

-- the row of the key at a place is withdrawn, or a builder had won it
pub record WithdrewAt (named : List Key) (i : ℕ) (old new : InnerModel)
    (answer : Option ℕ) : Type 0 where
  pub key : Key
  pub at : slice_get named i ≡ Some key
  pub by : ℕ
  pub some_builder : by ≤ old.builders
  pub answers : answer ≡ claim_no old.books.history key by
  pub history : new.books.history ≡ noting_one old.books.history key by
  pub view : new.view ≡ seen_off (take (i + 1) named) (rows_of new.books.history)
  pub tries : new.tries ≡ old.tries ++ tries_at (rows_of old.books.history) key by
  pub stays : Stays old new
  pub spent : Spent (key ∷ []) old.books new.books
  pub kept : answer ≡ None → new.books ≡ old.books

-- the named rows are withdrawn, except those that builders had won
pub record Withdrew (named : List Key) (old new : InnerModel) : Type 0 where
  pub choices : List ℕ
  pub chosen : Choices old.builders named choices
  pub history : new.books.history ≡ noting old.books.history named choices
  pub view : new.view ≡ seen_off named (rows_of new.books.history)
  pub tries : new.tries ≡ old.tries ++ tries_for (rows_of old.books.history) named choices
  pub stays : Stays old new
  pub spent : Spent named old.books new.books

-- ---- 2. the entry

-- the keys that are withdrawn for a kind: none for one that neither reads nor writes the state
abbrev pub off_for : Kind → List Key → List Key
off_for kind named = if (cells kind).state then named else []

-- what a plan takes, if there is one
abbrev pub plan_takes : Table → Option Planned → List Key
plan_takes t None = []
plan_takes t (Some p) = takes t p.kind (left p)

-- the history with an entry of the kind on these keys, if there are any
abbrev pub entered : History → Kind → List Key → History
entered h kind [] = h
entered h kind (k ∷ ks) = with_entry h (record { kind = kind; keys = k ∷ ks })

-- the number of the entry
abbrev pub entered_no : History → List Key → Option ℕ
entered_no h [] = None
entered_no h (k ∷ ks) = Some (length h.journal + 1)

-- the kind of a plan's entry; `gb` stands in where there is no plan
abbrev pub plan_kind : Option Planned → Kind
plan_kind None = Gb
plan_kind (Some p) = p.kind

-- a plan is a command's, over rows with these keys
abbrev pub IsPlanOf : Option Planned → Table → Type 0
IsPlanOf None t = Unit {0}
IsPlanOf (Some p) t = (p ≡ plan_of p.kind (left p) t) × (is_command p.kind ≡ true)

-- a plan of the kind on these keys, if there are any
abbrev pub IsPlan : Kind → List Key → Table → Option Planned → Type 0
IsPlan kind keys t None = keys ≡ []
IsPlan kind keys t (Some p) = p ≡ plan_of kind keys t

-- the rows that the plan names are withdrawn, where its kind has the state
abbrev pub PlanIsOff : Option Planned → List Key → Type 0
PlanIsOff None off = Unit {0}
PlanIsOff (Some p) off =
    (cells p.kind).state ≡ true → (k : Key) → names (left p) k ≡ true → names off k ≡ true

-- the entry on the keys, of those whose version matches, on which the kind applies; the skips are
-- found in the rows just before it
abbrev pub Enters : Kind → List Key → (Table → List Skip) → History → History → Taken → Type 0
Enters kind matched left noted new taken =
    (takes (rows_of noted) kind matched ≢ [])
    × (new ≡ with_entry noted (record { kind = kind; keys = takes (rows_of noted) kind matched }))
    × (taken.number ≡ length noted.journal + 1) × (taken.skips ≡ left (rows_of noted))

-- the kind applies on none of the keys whose version matches, so no entry is made; the skips are
-- found in the rows then
abbrev pub Nothing : Kind → List Key → (Table → List Skip) → History → History → List Skip → Type 0
Nothing kind matched left noted new skips =
    (takes (rows_of noted) kind matched ≡ []) × (new ≡ noted) × (skips ≡ left (rows_of noted))

-- the history after a command: as it was if memory ran out; else the claims of builders that were
-- faster are noted, and then the entry is made, if there are keys for it
abbrev pub CommandOutcome : Kind → List Key → List Key → (Table → List Skip) → BookModel → BookModel
    → Result Taken CommandRefusal → Type 0
CommandOutcome kind named matched left old new (Err NoMemory) = new.history ≡ old.history
CommandOutcome kind named matched left old new (Err (NothingApplies skips)) =
    (choices : List ℕ) × Choices old.fixed.builders (off_for kind named) choices
    × Nothing kind matched left (noting old.history (off_for kind named) choices) new.history skips
CommandOutcome kind named matched left old new (Ok taken) =
    (choices : List ℕ) × Choices old.fixed.builders (off_for kind named) choices
    × Enters kind matched left (noting old.history (off_for kind named) choices) new.history taken

-- the rows of the keys that needed a build were withdrawn, each once, in the order of the keys: the
-- claims that are noted are those of the withdrawals that were lost; `behind` is what was done
-- after that
pub record AreTried (builders : ℕ) (keys : List Key) (h noted : History)
    (behind old new : List DeskTry) : Type 0 where
  pub choices : List ℕ
  pub chosen : Choices builders keys choices
  pub history : noted ≡ noting h keys choices
  pub tries : new ≡ old ++ (tries_for (rows_of h) keys choices ++ behind)

-- what a command did at the board: nothing if memory ran out, else the withdrawals of the rows that
-- it names, if its kind has to do with their states, before its entry if it made one, and the
-- offers of those of them that need a build then
abbrev pub CommandTries : Kind → List Key → List Key → BookModel → BookModel
    → Result Taken CommandRefusal → Type 0
CommandTries kind named matched old new (Err NoMemory) = new.tries ≡ old.tries
CommandTries kind named matched old new (Err (NothingApplies skips)) =
    AreTried old.fixed.builders (off_for kind named) old.history new.history
    (offers_for (rows_of new.history) (off_for kind named)) old.tries new.tries
CommandTries kind named matched old new (Ok taken) =
    (noted : History)
    × (new.history
    ≡ with_entry noted (record { kind = kind; keys = takes (rows_of noted) kind matched }))
    × AreTried old.fixed.builders (off_for kind named) old.history noted
    (offers_for (rows_of new.history) (off_for kind named)) old.tries new.tries

-- what a command does to a book, by its kind, the keys that it names, those whose version matches,
-- and the skips over the rows: what is fixed stays, and the history and the tries fit the answer
pub record IsCommanded (kind : Kind) (named matched : List Key) (left : Table → List Skip)
    (old new : BookModel) (result : Result Taken CommandRefusal) : Type 0 where
  pub fixed : new.fixed ≡ old.fixed
  pub outcome : CommandOutcome kind named matched left old new result
  pub tries : CommandTries kind named matched old new result

-- what a command's call answers: the entry's number with the skips, or only the skips
abbrev pub taken_of : Option ℕ → List Skip → Result Taken CommandRefusal
taken_of None skips = Err (NothingApplies skips)
taken_of (Some n) skips = Ok (record { number = n; skips = skips })
