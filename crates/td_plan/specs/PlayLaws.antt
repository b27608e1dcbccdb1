-- What a plan does to the rows of which it was made. This project's own.
use Rattle.std.specs.Prelude.{◌≡◌, ℕ, nat_lt, ◌<◌, Bool, false, IsTrue, List, [], ◌∷◌, ◌++◌, Some}
use Rattle.std.specs.Prelude.{Ok, filter, length, map, option_map, if◌then◌else◌}
use Rattle.std.specs.List.{Contains, flat_map, list_any}
use Rattle.std.specs.Option.{option_map_or}
use Rattle.td_version.specs.Reading.{reading}
use Rattle.td_relation.specs.Table.{place_of}
use Rattle.td_rows.specs.declared.key.Key.{Key}
use Rattle.td_rows.specs.declared.row.Row.{Row}
use Rattle.td_rows.specs.declared.state.State.TheVariants.{DepWait, NeedsBuild}
use Rattle.td_rows.specs.GivenBack.{given_back}
use Rattle.td_rows.specs.Kinds.{written}
use Rattle.td_rows.specs.Table.{AppliesOn, Table, applied, keys_of, row_of}
use Rattle.td_indices.specs.Archive.{source_named}
use Rattle.td_indices.specs.Sources.{KeptSource}
use Rattle.td_wbread.specs.Command.{CommandParts}
use Rattle.td_wbread.specs.Kinds.{kind_of}
use Rattle.td_wbread.specs.Naming.{is_matched, is_named}
use Rattle.td_wbread.specs.declared.command.Verb.TheVariants.{Dw, Nmu}
use Rattle.td_plan.specs.Due.{due_places, is_due, number_of}
use Rattle.td_plan.specs.Lines.{Words}
use Rattle.td_plan.specs.Placing.{IsPlacing, Placing}
use Rattle.td_plan.specs.Plan.{WaitingAt, all_waiting, arch_names, due_sources, is_alike, is_beside}
use Rattle.td_plan.specs.Premises.{AreSound, Premises}
use Rattle.td_plan.specs.ReadingLaws.{command_with}
use Rattle.td_plan.specs.Relations.{relation_of}
use Rattle.td_plan.specs.Waits.{waits_of}

-- ---- 1. the commands of a plan, in the order of their lines

-- the commands by which a source waits
abbrev pub dw_commands : Premises → KeptSource → List WaitingAt → List WaitingAt
    → List CommandParts
dw_commands p s before [] = []
dw_commands p s before (w ∷ after) =
    (if list_any (is_alike w) before then []
    else command_with Dw s (arch_names p (map (λ v. v.place) (filter (is_alike w) (w ∷ after))))
    (relation_of w.waits) ∷ [])
    ++ dw_commands p s (before ++ w ∷ []) after

-- the commands of a source
abbrev pub source_commands : Words → Placing → Premises → KeptSource → List CommandParts
source_commands words x p s =
    command_with (Nmu (Some (number_of p s))) s (arch_names p (due_places p s)) words.message
    ∷ dw_commands p s [] (all_waiting x p s)

-- the commands of a plan
abbrev pub plan_commands : Words → Placing → Premises → List CommandParts
plan_commands words x p = flat_map (source_commands words x p) (due_sources x p)

-- ---- 2. commands that are taken whole

-- the keys of the rows that a command names
abbrev pub named_in : CommandParts → Table → List Key
named_in c t = filter (λ k. is_named c k.source k.arch) (keys_of t)

-- the version of the key's row matches: the source is the archive's
abbrev pub is_matched_at : Premises → CommandParts → Table → Key → Bool
is_matched_at p c t k = option_map_or (λ row. option_map_or (λ s.
    is_matched c k.source s.head.parts row.number) (source_named p.archive k.source) false)
    (row_of t k) false

-- a command names some row, and takes each row that it names: none is skipped
pub record IsTakenWhole (p : Premises) (c : CommandParts) (t : Table) : Type 0 where
  pub some : 0 < length (named_in c t)
  pub matched : (k : Key) → Contains (named_in c t) k → IsTrue (is_matched_at p c t k)
  pub applies : AppliesOn t (kind_of c) (named_in c t)

-- the rows after a command
abbrev pub rows_after : CommandParts → Table → Table
rows_after c t = applied (kind_of c) (named_in c t) t

-- commands one after the other, each taken whole, make the new rows of the old
abbrev pub ArePlayed : Premises → List CommandParts → Table → Table → Type 0
ArePlayed p [] old new = old ≡ new
ArePlayed p (c ∷ commands) old new =
    IsTakenWhole p c old × ArePlayed p commands (rows_after c old) new

-- ---- 3. the rows after a plan

-- a row that is rebuilt, and waits for a relation or for none
abbrev pub row_with : Row → ℕ → List ℕ → Bool → Row
row_with row number relation waits = record row {
  state = if waits then DepWait else NeedsBuild;
  number = number;
  dep_wait = relation;
  extra = [];
}

-- the row of a source at a place after the plan
abbrev pub planned_at : Placing → Premises → KeptSource → ℕ → Row → Row
planned_at x p s place row = let waits = waits_of (is_beside x s) p s place in
    if is_due p s place then row_with row (number_of p s)
    (if nat_lt 0 (length waits) then relation_of waits else []) (nat_lt 0 (length waits))
    else row

-- the row of a key after the plan
abbrev pub planned : Placing → Premises → Key → Row → Row
planned x p k row = option_map_or (λ s. option_map_or (λ place. planned_at x p s place row)
    (place_of p.archive.table k.arch) row) (source_named p.archive k.source) row

-- each source's version is that of how it is written, as in each archive that was read: a line
-- names it so, and a row whose version is another would be skipped
abbrev pub VersionsAreRead : Premises → Type 0
VersionsAreRead p = (s : KeptSource) → Contains p.archive.sources s
    → reading s.head.version ≡ Ok s.head.parts

-- a plan is taken whole: no line is refused, none skips a row, each due row is rebuilt under its
-- number and waits as it was told, and every other row is as it was
abbrev pub PlansAreTakenWhole : Type 0
PlansAreTakenWhole = (words : Words) (p : Premises) (x : Placing) → AreSound p
    → VersionsAreRead p → IsPlacing p x
    → (new : Table) × ArePlayed p (plan_commands words x p) p.rows new
    × ((k : Key) → row_of new k ≡ option_map (planned x p k) (row_of p.rows k))

-- ---- 4. the undo of a plan

-- the rows after the undo of a command, which was given to earlier rows: those that it named get
-- back, in the cells that it wrote, what they had
abbrev pub undone : CommandParts → Table → Table → Table
undone c was now = given_back (written (kind_of c)) (named_in c was) was now

-- the rows after the undo of commands from the last to the first
abbrev pub all_undone : List CommandParts → Table → Table → Table
all_undone [] was now = now
all_undone (c ∷ commands) was now = undone c was (all_undone commands (rows_after c was) now)

-- the undo of all commands of a plan, from the last to the first, gives every row back
abbrev pub PlansAreUndone : Type 0
PlansAreUndone = (words : Words) (p : Premises) (x : Placing) (new : Table) → AreSound p
    → ArePlayed p (plan_commands words x p) p.rows new
    → all_undone (plan_commands words x p) p.rows new ≡ p.rows
