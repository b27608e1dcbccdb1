-- Arrivals and sweeps: their entries apply on their rows, and can be written; their lines.
use Rattle.std.proofs.Common.{◌≡◌, ℕ, ◌+◌, ◌<◌, true, List, [], ◌∷◌, ◌++◌, length, Some, sym, ap}
use Rattle.std.proofs.Common.{Option, None, unwrap_or, subst, ◌∙◌, arith}
use Rattle.std.specs.Prelude.{MatchOption}
use Rattle.td_rows.specs.declared.key.Key.{Key}
use Rattle.td_rows.specs.declared.kind.Kind.TheVariants as kinds
use Rattle.td_rows.specs.declared.row.Row.{Row}
use Rattle.td_rows.specs.Blank.{blank}
use Rattle.td_rows.specs.Keys.{ascending, names}
use Rattle.td_rows.specs.KeyText.{KeyFits}
use Rattle.td_rows.specs.Meaning.{applies}
use Rattle.td_rows.specs.Table.{AppliesOn, keys_of, row_of}
use Rattle.td_journal.specs.declared.entry.Entry.{Entry}
use Rattle.td_journal.specs.declared.version.Version.TheVariants.{Two}
use Rattle.td_journal.specs.Entries.{standing_entry}
use Rattle.td_journal.specs.EntryFits.{EntryFits}
use Rattle.td_supply.specs.Supply.{Stock}
use Rattle.td_core.specs.History.{History, rows_of}
use Rattle.td_core.specs.Offers.{freed, number_in, supply_now}
use Rattle.td_core.proofs.Freeing.{AppliesOn-freed, ascending-freed}
use Rattle.td_script.specs.Replies.{enters, entry_made}
use Rattle.td_lasting.proofs.Claimable.{rows_rise}
use Rattle.td_lasting.proofs.Entering.{applies_one, entry_fits, keys_fit, opening_keys, row_named}
use Rattle.td_lasting.proofs.Shown.{enters_alone}

-- ---- 1. arrivals

-- what the making of the entry of an arrival asks
pub record CanArrive (h : History) (k : Key) (number : ℕ) : Type 0 where
  pub applied : AppliesOn (rows_of h) kinds.Arrive (k ∷ [])
  pub number_is : number ≡ number_in (rows_of h) k
  pub line : KeyFits k

pub can_arrive : (h : History) (k : Key) (row : Row) → row_of (rows_of h) k ≡ Some row
    → applies kinds.Arrive row ≡ true
    → ((q : Key) → names (keys_of h.opening) q ≡ true → KeyFits q) → CanArrive h k row.number
can_arrive h k row found fit each =
    record {
      applied = applies_one (rows_of h) kinds.Arrive k row found fit;
      number_is = ap (λ (o : Option Row). (unwrap_or o blank).number) (sym found);
      line = opening_keys h each k (row_named (rows_of h) k row found);
    }

-- ---- 2. sweeps

-- keys of which there is one at least
pub not_empty : (keys : List Key) → 0 < length keys → keys ≡ [] → ⊥
not_empty [] some none = omega arith
not_empty (k ∷ keys) some none = cc

-- the entry of a sweep on these keys
abbrev pub sweep_on : List Key → Entry
sweep_on keys = record { kind = kinds.Sweep; keys = keys }

-- what the making of the entry of a sweep asks
pub record CanSweep (h : History) (keys : List Key) : Type 0 where
  pub rising : ascending keys ≡ true
  pub applied : AppliesOn (rows_of h) kinds.Sweep keys
  pub line : 0 < length keys → EntryFits Two (standing_entry (sweep_on keys))

pub can_sweep : (s : Stock) (h : History) (keys : List Key) → ascending (keys_of h.opening) ≡ true
    → keys ≡ freed (supply_now s h) (rows_of h)
    → ((q : Key) → names (keys_of h.opening) q ≡ true → KeyFits q) → CanSweep h keys
can_sweep s h keys up are each =
    subst (CanSweep h) (sym are)
    (let t = rows_of h in
    let these = freed (supply_now s h) t in
    let rise = rows_rise h up in
    let rising = ascending-freed (supply_now s h) t rise in
    let applied = AppliesOn-freed (supply_now s h) t rise in
    record {
      rising = rising;
      applied = applied;
      line = λ some.
          entry_fits kinds.Sweep these tt (record { rising = rising; some = some })
          (keys_fit t kinds.Sweep these applied (opening_keys h each)) (omega arith);
    })

-- the keys that are freed, as those of an entry, if there are any
abbrev FreedAs : Option (List Key) → List Key → Type 0
FreedAs o these = MatchOption o (these ≡ []) (λ ks. (ks ≡ these) × (0 < length ks))

pub freed_some : (o : Option (List Key)) (these keys : List Key) → o ≡ Some keys
    → FreedAs o these → (keys ≡ these) × (0 < length keys)
freed_some None these keys is freed = absurd cc
freed_some (Some ks) these keys is freed =
    let same : ks ≡ keys = cc in
    subst (λ (l : List Key). (l ≡ these) × (0 < length l)) same freed

pub freed_none : (o : Option (List Key)) (these : List Key) → o ≡ None → FreedAs o these
    → these ≡ []
freed_none None these is freed = freed
freed_none (Some ks) these is freed = absurd cc

-- ---- 3. what is told

-- the line of an entry on keys that were asked for as a slice
pub enters_these : (h : History) (e : Entry) (keys : List Key) (before now : List ℕ) (n : ℕ)
    → n ≡ length h.journal + 1 → keys ≡ e.keys → now ≡ before ++ entry_made n keys
    → now ≡ before ++ (enters h e []).text
enters_these h e keys before now n number same text =
    enters_alone h e before now n number
    (text ∙ ap (λ (l : List Key). before ++ entry_made n l) same)
