-- The answers to command lines, by what was looked up.
use Rattle.std.proofs.Common.{◌≡◌, ℕ, ◌+◌, ◌<◌, Bool, true, false, List, []}
use Rattle.std.proofs.Common.{◌∷◌, ◌++◌, length, None, Ok, Err}
use Rattle.std.proofs.Common.{refl, sym, ap, subst, ◌∙◌, append_assoc, arith}
use Rattle.std.specs.Prelude.{codes}
use Rattle.std.specs.List.{flat_map}
use Rattle.td_rows.specs.Appending.{Grown}
use Rattle.td_rows.specs.declared.key.Key.{Key}
use Rattle.td_rows.specs.declared.kind.Kind.{Kind}
use Rattle.td_rows.specs.Keys.{ascending, names}
use Rattle.td_rows.specs.KeyText.{KeyFits}
use Rattle.td_rows.specs.Notes.{NotesFit}
use Rattle.td_rows.specs.Table.{AppliesOn, keys_of}
use Rattle.td_journal.specs.declared.entry.Entry.{Entry}
use Rattle.td_journal.specs.declared.version.Version.TheVariants.{Two}
use Rattle.td_journal.specs.Entries.{standing_entry}
use Rattle.td_journal.specs.EntryFits.{EntryFits}
use Rattle.td_journal.specs.JournalText.{kind_notes}
use Rattle.td_supply.specs.Supply.{Stock}
use Rattle.td_core.specs.History.{History, rows_of}
use Rattle.td_core.specs.Offers.{is_arrival}
use Rattle.td_wbread.specs.Command.{CommandParts}
use Rattle.td_wbread.specs.Kinds.{kind_of}
use Rattle.td_naming.specs.declared.skips.Skip.{Skip}
use Rattle.td_script.specs.Replies.{Reply, commands, enters, enters_on, entry_made, refusal_line}
use Rattle.td_script.specs.Replies.{skip_line, skipped, taken}
use Rattle.td_script.specs.Replying.{IsPut}
use Rattle.td_lasting.specs.declared.chronicle.DeskFault.{DeskFault}
use Rattle.td_lasting.specs.declared.event.Event.TheVariants.{Entered}
use Rattle.td_lasting.specs.DeskView.{DeskView, IsAtRest, IsDone}
use Rattle.td_lasting.specs.inner.Answered.{IsAnswered}
use Rattle.td_lasting.specs.inner.Unmarking.{HasNumbers}
use Rattle.td_lasting.specs.Tales.{is_claim}
use Rattle.td_lasting.specs.Telling.{is_lawful_entry}
use Rattle.td_lasting.proofs.Commanding.{command_kind, keys_apply, taken_rise}
use Rattle.td_lasting.proofs.Entering.{entry_fits, keys_fit, lawful_other, opening_keys}
use Rattle.td_lasting.proofs.Shown.{command_refused, enters_made, enters_text, entry_answered}
use Rattle.td_lasting.proofs.Shown.{entry_failed}

-- ---- 1. what was looked up

-- a command's kind, the keys of the rows that it takes, and the rows that it skips
pub record IsLookedUp (s : Stock) (h : History) (c : CommandParts) (kind : Kind)
    (keys : List Key) (skips : List Skip) : Type 0 where
  pub kind_is : kind ≡ kind_of c
  pub keys_are : keys ≡ taken s h c
  pub skips_are : skips ≡ skipped s h c

-- what was looked up in books is so of the desk that has these offers and this history
pub looked_up : (s stock : Stock) (h history : History) (c : CommandParts) (kind : Kind)
    (keys : List Key) (skips : List Skip) → stock ≡ s → history ≡ h → kind ≡ kind_of c
    → keys ≡ taken stock history c → skips ≡ skipped stock history c
    → IsLookedUp s h c kind keys skips
looked_up s stock h history c kind keys skips same_stock same kind_is keys_are skips_are =
    record {
      kind_is = kind_is;
      keys_are = keys_are ∙ (λ j. taken (same_stock j) (same j) c);
      skips_are = skips_are ∙ (λ j. skipped (same_stock j) (same j) c);
    }

-- the reply to a command is that to an entry of its kind on the keys that were looked up
commands_by : (s : Stock) (h : History) (c : CommandParts) (kind : Kind) (keys : List Key)
    (skips : List Skip) → IsLookedUp s h c kind keys skips
    → enters_on h kind keys (flat_map skip_line skips) ≡ commands s h c
commands_by s h c kind keys skips is =
    λ j. enters_on h (is.kind_is j) (is.keys_are j) (flat_map skip_line (is.skips_are j))

-- ---- 2. its entry

-- what the making of an entry asks
pub record CanEnter (h : History) (kind : Kind) (keys : List Key) : Type 0 where
  pub applied : AppliesOn (rows_of h) kind keys
  pub no_arrival : is_arrival kind ≡ false
  pub no_claim : is_claim kind ≡ false
  pub lawful : is_lawful_entry (rows_of h) (record { kind = kind; keys = keys }) ≡ true
  pub line : EntryFits Two (standing_entry (record { kind = kind; keys = keys }))

-- the keys that a command takes rise
pub keys_rise : (s : Stock) (h : History) (c : CommandParts) (kind : Kind) (keys : List Key)
    (skips : List Skip) → IsLookedUp s h c kind keys skips
    → ascending (keys_of (rows_of h)) ≡ true → ascending keys ≡ true
keys_rise s h c kind keys skips is up = ap ascending is.keys_are ∙ taken_rise s h c up

-- the entry of a command that takes a row may be made
pub can_enter : (s : Stock) (h : History) (c : CommandParts) (kind : Kind) (keys : List Key)
    (skips : List Skip) → IsLookedUp s h c kind keys skips
    → ascending (keys_of (rows_of h)) ≡ true → 0 < length keys → HasNumbers kind
    → NotesFit (kind_notes kind)
    → ((k : Key) → names (keys_of h.opening) k ≡ true → KeyFits k) → CanEnter h kind keys
can_enter s h c kind keys skips is up some numbers texts each =
    let t = rows_of h in
    let applied = keys_apply s h c kind keys is.kind_is is.keys_are in
    let command = command_kind c kind is.kind_is numbers in
    record {
      applied = applied;
      no_arrival = command.no_arrival;
      no_claim = command.no_claim;
      lawful = lawful_other t (record { kind = kind; keys = keys }) applied command.no_claim
          command.no_arrival;
      line = entry_fits kind keys command.fits
          (record { rising = keys_rise s h c kind keys skips is up; some = some })
          (keys_fit t kind keys applied (opening_keys h each)) texts;
    }

-- ---- 3. its answer

-- the line of an entry is put, and then those of the rows that were skipped
pub command_text : (before mid now : List ℕ) (n : ℕ) (keys taken : List Key)
    (skips left : List Skip) → taken ≡ keys → left ≡ skips → mid ≡ before ++ entry_made n taken
    → now ≡ mid ++ flat_map skip_line left
    → now ≡ before ++ (entry_made n keys ++ flat_map skip_line skips)
command_text before mid now n keys taken skips left keys_are skips_are one two =
    two
    ∙ (λ j. one j ++ flat_map skip_line (skips_are j))
    ∙ append_assoc before (entry_made n taken) (flat_map skip_line skips)
    ∙ (λ j. before ++ (entry_made n (keys_are j) ++ flat_map skip_line skips))

-- keys of which there are none
pub no_keys : (keys : List Key) → length keys ≡ 0 → keys ≡ []
no_keys [] none = refl
no_keys (k ∷ keys) none = absurd (omega arith)

not_none : (keys : List Key) → 0 < length keys → keys ≡ [] → ⊥
not_none [] some none = absurd (omega arith)
not_none (k ∷ keys) some none = cc

-- a command that takes no row
pub command_stopped : (c : CommandParts) (v : DeskView) (kind : Kind) (keys : List Key)
    (skips : List Skip) (before now : List ℕ) (refused : Bool) → IsAtRest v → v.stopped ≡ false
    → IsLookedUp v.stock v.history c kind keys skips → keys ≡ []
    → IsPut (refusal_line (codes "NothingApplies") ++ flat_map skip_line skips) true before now
    refused
    → IsAnswered (commands v.stock v.history c) None v v before now (Ok refused)
command_stopped c v kind keys skips before now refused rest on is none put =
    subst (λ (r : Reply). IsAnswered r None v v before now (Ok refused))
    (commands_by v.stock v.history c kind keys skips is)
    (command_refused v kind keys skips before now refused rest on none put)

-- the reply to a command that takes a row
commands_made : (s : Stock) (h : History) (c : CommandParts) (kind : Kind) (keys : List Key)
    (skips : List Skip) → IsLookedUp s h c kind keys skips → 0 < length keys
    → commands s h c
    ≡ enters h (record { kind = kind; keys = keys }) (flat_map skip_line skips)
commands_made s h c kind keys skips is some =
    sym (commands_by s h c kind keys skips is)
    ∙ enters_made h kind keys (flat_map skip_line skips) (not_none keys some)

-- the entry of a command was made
pub command_answered : (c : CommandParts) (old new : DeskView) (kind : Kind) (keys : List Key)
    (skips : List Skip) (before now : List ℕ) (n : ℕ)
    → IsLookedUp old.stock old.history c kind keys skips → 0 < length keys
    → n ≡ length old.history.journal + 1
    → now ≡ before ++ (entry_made n keys ++ flat_map skip_line skips)
    → IsDone {A = Unit {0}} (Entered (record { kind = kind; keys = keys }) ∷ []) old new (Ok tt)
    → IsAnswered (commands old.stock old.history c) None old new before now (Ok false)
command_answered c old new kind keys skips before now n is some number text done =
    let e : Entry = record { kind = kind; keys = keys } in
    let behind = flat_map skip_line skips in
    entry_answered (commands old.stock old.history c) e behind old new before now
    (commands_made old.stock old.history c kind keys skips is some)
    (enters_text old.history e behind before now n number text) done

-- the entry of a command couldn't be made
pub command_failed : (c : CommandParts) (old new : DeskView) (kind : Kind) (keys : List Key)
    (skips : List Skip) (before now : List ℕ) (fault : DeskFault)
    → IsLookedUp old.stock old.history c kind keys skips → 0 < length keys → Grown before now
    → IsDone {A = Unit {0}} (Entered (record { kind = kind; keys = keys }) ∷ []) old new (Err fault)
    → IsAnswered (commands old.stock old.history c) None old new before now (Err fault)
command_failed c old new kind keys skips before now fault is some front done =
    let e : Entry = record { kind = kind; keys = keys } in
    entry_failed (commands old.stock old.history c) e (flat_map skip_line skips) old new before now
    fault (commands_made old.stock old.history c kind keys skips is some) front done
