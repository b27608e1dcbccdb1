-- What a command does to the changes of a book, and the keys of its receipt.
use Rattle.std.proofs.Common.{◌≡◌, ◌≢◌, ℕ, ◌+◌, ◌<◌, Bool, true, false, not, ◌&&◌, List, [], ◌∷◌}
use Rattle.std.proofs.Common.{length, refl, sym, ap, ◌∙◌, subst, arith, map, filter, Ok, Err}
use Rattle.std.proofs.Common.{◌++◌, if◌then◌else◌}
use Rattle.std.proofs.lemmas.Bool.{and_parts}
use Rattle.std.proofs.Math.Bool.{and-false}
use Rattle.std.specs.Ordering.{is_lt}
use Rattle.td_rows.specs.declared.key.Key.{Key}
use Rattle.td_rows.specs.declared.kind.Kind.{Kind}
use Rattle.td_rows.specs.Keys.{names, same_key, key_cmp, below_all, ascending}
use Rattle.td_rows.specs.Table.{Table, fits, keys_of}
use Rattle.td_rows.proofs.Keys.{same_key-true, same_key-refl, same_key-apart, below-apart}
use Rattle.td_journal.specs.declared.entry.Entry.{Entry}
use Rattle.td_journal.specs.declared.entry.Mark.{Mark}
use Rattle.td_core.specs.Committing.{takes}
use Rattle.td_core.specs.History.{History, rows_of}
use Rattle.td_core.proofs.Taking.{ascending-filter, below_all-filter}
use Rattle.td_wbread.specs.Command.{CommandParts}
use Rattle.td_wbread.specs.declared.command.Verb.{Verb}
use Rattle.td_wbread.specs.declared.command.Verb.TheVariants.{Gb, Nmu, Bp, Dw}
use Rattle.td_wbread.specs.Naming.{is_named}
use Rattle.td_book.specs.declared.commanding.CommandRefusal.{CommandRefusal}
use Rattle.td_book.specs.declared.commanding.CommandRefusal.TheVariants as commands
use Rattle.td_book.specs.declared.commanding.Taken.{Taken}
use Rattle.td_naming.specs.declared.skips.Skip.{Skip}
use Rattle.td_book.specs.Calls.{off_for, noting, Enters, CommandOutcome}
use Rattle.td_book.specs.Commands.{IsDone, named_by, is_matched_in}
use Rattle.td_book.specs.Desk.{BookModel}
use Rattle.td_wbread.specs.Kinds.{kind_with, kind_of}
use Rattle.td_naming.specs.Skips.{skip_at, is_skipped, skips_of}
use Rattle.td_book.proofs.Calls.{kinds_command, off_short}
use Rattle.td_book.proofs.Withdrawals.{commands_desks}
use Rattle.td_desk.specs.declared.receipt.Receipt.{Receipt}
use Rattle.td_desk.specs.declared.receipt.Receipt.TheVariants.{Made}
use Rattle.td_desk.specs.Receipts.{made_of}
use Rattle.td_desk.specs.Calls.{skipped_keys, without, command_receipt}
use Rattle.td_desk.specs.Changes.{still_undone}
use Rattle.td_desk.specs.inner.Matching.{left_out}
use Rattle.td_desk.proofs.Counting.{Notes, notes_none, notes_at_most, notes_each}
use Rattle.td_desk.proofs.Growing.{Kept, Grown, kept, grown}

-- ---- 1. the keys that aren't skipped

-- a key below those that are left out stays
stays_out : (k : Key) (ks ss : List Key) → below_all k ss ≡ true
    → left_out (k ∷ ks) ss ≡ k ∷ left_out ks ss
stays_out k ks [] h = refl
stays_out k ks (s ∷ ss) h =
    let p = and_parts (is_lt (key_cmp k s)) (below_all k ss) h in
    ap (λ b. if b then left_out ks ss else k ∷ left_out ks (s ∷ ss))
    (same_key-apart k s (below-apart k s p.0))

-- to leave the keys that pass a test out of rising keys leaves those that fail it, in one pass
left_others : (q : Key → Bool) (ks : List Key) → ascending ks ≡ true
    → left_out ks (filter q ks) ≡ filter (λ k. not (q k)) ks
left_others q [] h = refl
left_others q (k ∷ ks) h =
    let p = and_parts (below_all k ks) (ascending ks) h in
    let rest = left_others q ks p.1 in
    elim (q k) as (λ b. left_out (k ∷ ks) (if b then k ∷ filter q ks else filter q ks)
    ≡ (if not b then k ∷ filter (λ j. not (q j)) ks else filter (λ j. not (q j)) ks)) [
      | true ↦
          ap (λ b. if b then left_out ks (filter q ks) else k ∷ left_out ks (k ∷ filter q ks))
          (same_key-refl k) ∙ rest
      | false ↦
          stays_out k ks (filter q ks) (below_all-filter q k ks p.0)
          ∙ ap (λ (l : List Key). k ∷ l) rest
    ]

-- a key is among those that pass if and only if it is among all and passes
names_passing : (q : Key → Bool) (ks : List Key) (k : Key)
    → names (filter q ks) k ≡ (names ks k && q k)
names_passing q [] k = refl
names_passing q (x ∷ ks) k =
    let rest = names_passing q ks k in
    elim (same_key k x) as (λ c.
    same_key k x ≡ c → names (if q x then x ∷ filter q ks else filter q ks) k
    ≡ ((if c then true else names ks k) && q k)) [
      | true ↦ λ same.
          let at : q k ≡ q x = ap q (same_key-true k x same) in
          elim (q x) as (λ b.
          q k ≡ b → names (if b then x ∷ filter q ks else filter q ks) k ≡ q k) [
            | true ↦ λ is. ap (λ c. if c then true else names (filter q ks) k) same ∙ sym is
            | false ↦
                λ is. rest ∙ (ap (λ c. names ks k && c) is ∙ (and-false (names ks k) ∙ sym is))
          ] at
      | false ↦
          λ other. elim (q x) as (λ b.
          names (if b then x ∷ filter q ks else filter q ks) k ≡ (names ks k && q k)) [
            | true ↦ ap (λ c. if c then true else names (filter q ks) k) other ∙ rest
            | false ↦ rest
          ]
    ] refl

-- the keys that aren't among those of the whole that pass
others : (q : Key → Bool) (whole part : List Key)
    → ((k : Key) → names part k ≡ true → names whole k ≡ true)
    → filter (λ k. not (names (filter q whole) k)) part ≡ filter (λ k. not (q k)) part
others q whole [] inside = refl
others q whole (x ∷ part) inside =
    let there : names whole x ≡ true =
    inside x (ap (λ c. if c then true else names part x) (same_key-refl x)) in
    let e : not (names (filter q whole) x) ≡ not (q x) =
    ap not (names_passing q whole x ∙ ap (λ b. b && q x) there) in
    let rest = others q whole part (λ k h.
    inside k (ap (λ b. if same_key k x then true else b) h ∙ true_either (same_key k x))) in
    (λ i. if e i then x ∷ rest i else rest i)
  where
    true_either : (b : Bool) → (if b then true else true) ≡ true
    true_either true = refl
    true_either false = refl

-- ---- 2. the skips of a command

skipped_are : (p : Key → Bool) (t : Table) (ks : List Key)
    → skipped_keys (map (skip_at p t) ks) ≡ ks
skipped_are p t [] = refl
skipped_are p t (k ∷ ks) = ap (λ (l : List Key). k ∷ l) (skipped_are p t ks)

-- what is taken of the keys that match is what isn't skipped
takes_unskipped : (p : Key → Bool) (t : Table) (kind : Kind) (ks : List Key)
    → filter (λ k. not (is_skipped p t kind k)) ks ≡ takes t kind (filter p ks)
takes_unskipped p t kind [] = refl
takes_unskipped p t kind (k ∷ ks) =
    let rest = takes_unskipped p t kind ks in
    elim (p k) as (λ b. (if not (not (b && fits t kind k))
    then k ∷ filter (λ j. not (is_skipped p t kind j)) ks
    else filter (λ j. not (is_skipped p t kind j)) ks)
    ≡ takes t kind (if b then k ∷ filter p ks else filter p ks)) [
      | true ↦
          elim (fits t kind k) as (λ c.
          (if not (not c) then k ∷ filter (λ j. not (is_skipped p t kind j)) ks
          else filter (λ j. not (is_skipped p t kind j)) ks)
          ≡ (if c then k ∷ takes t kind (filter p ks) else takes t kind (filter p ks))) [
            | true ↦ ap (λ (l : List Key). k ∷ l) rest
            | false ↦ rest
          ]
      | false ↦ rest
    ]

left_taken : (p : Key → Bool) (t : Table) (kind : Kind) (ks : List Key) → ascending ks ≡ true
    → left_out ks (skipped_keys (skips_of p kind ks t)) ≡ takes t kind (filter p ks)
left_taken p t kind ks up =
    ap (left_out ks) (skipped_are p t (filter (is_skipped p t kind) ks))
    ∙ (left_others (is_skipped p t kind) ks up ∙ takes_unskipped p t kind ks)

without_taken : (p : Key → Bool) (t : Table) (kind : Kind) (ks : List Key)
    → without ks (skips_of p kind ks t) ≡ takes t kind (filter p ks)
without_taken p t kind ks =
    ap (λ (l : List Key). filter (λ k. not (names l k)) ks)
    (skipped_are p t (filter (is_skipped p t kind) ks))
    ∙ (others (is_skipped p t kind) ks ks (λ k h. h) ∙ takes_unskipped p t kind ks)

-- ---- 3. the receipt of a command

commands_made : (c : CommandParts) (n : ℕ) (keys : List Key)
    → made_of n (kind_of c) keys ≡ Made n (kind_of c) keys
commands_made c n keys = by c.verb c.extra c.message
  where
    by : (v : Verb) (e m : List ℕ)
        → made_of n (kind_with v e m) keys ≡ Made n (kind_with v e m) keys
    by Gb e m = refl
    by (Nmu b) e m = refl
    by (Bp p) e m = refl
    by Dw e m = refl

-- the keys of the receipt: those that the entry has
pub record ToldKeys (c : CommandParts) (b : BookModel) (skips : List Skip)
    (keys : List Key) : Type 0 where
  pub same : keys ≡ without (named_by c b) skips
  pub rising : ascending keys ≡ true
  pub some : 0 < length keys

some_keys : (ks : List Key) → ks ≢ [] → 0 < length ks
some_keys [] h = absurd (h refl)
some_keys (k ∷ ks) h = omega arith

entered_keys : (c : CommandParts) (old : BookModel) (noted new : History) (t : Taken)
    (keys : List Key) → keys ≡ left_out (named_by c old) (skipped_keys t.skips)
    → ascending (keys_of (rows_of old.history)) ≡ true
    → Enters (kind_of c) (filter (is_matched_in c old) (named_by c old))
    (skips_of (is_matched_in c old) (kind_of c) (named_by c old)) noted new t
    → ToldKeys c old t.skips keys
entered_keys c old noted new t keys is up enters =
    let kind = kind_of c in
    let named = named_by c old in
    let p = is_matched_in c old in
    let rows = rows_of noted in
    let up' : ascending named ≡ true =
    ascending-filter (λ k. is_named c k.source k.arch) (keys_of (rows_of old.history)) up in
    let taken : keys ≡ takes rows kind (filter p named) =
    is ∙ (ap (λ (s : List Skip). left_out named (skipped_keys s)) enters.3
    ∙ left_taken p rows kind named up') in
    let other : without named t.skips ≡ takes rows kind (filter p named) =
    ap (λ (s : List Skip). without named s) enters.3 ∙ without_taken p rows kind named in
    record {
      same = taken ∙ sym other;
      rising = ap ascending taken
          ∙ ascending-filter (fits rows kind) (filter p named) (ascending-filter p named up');
      some = subst (λ (l : List Key). 0 < length l) (sym taken)
          (some_keys (takes rows kind (filter p named)) enters.0);
    }

pub told_keys : (c : CommandParts) (old new : BookModel) (t : Taken) (keys : List Key)
    → keys ≡ left_out (named_by c old) (skipped_keys t.skips)
    → ascending (keys_of (rows_of old.history)) ≡ true → IsDone c old new (Ok t)
    → ToldKeys c old t.skips keys
told_keys c old new t keys is up done = at done.outcome
  where
    at : CommandOutcome (kind_of c) (named_by c old) (filter (is_matched_in c old) (named_by c old))
        (skips_of (is_matched_in c old) (kind_of c) (named_by c old)) old new (Ok t)
        → ToldKeys c old t.skips keys
    at (choices, chosen, enters) =
        entered_keys c old (noting old.history (off_for (kind_of c) (named_by c old)) choices)
        new.history t keys is up enters

-- the keys that are left of a draft's
pub told_draft : {c : CommandParts} {old new : BookModel} {t : Taken} {named keys : List Key}
    {skips : List Skip} → IsDone c old new (Ok t) → ascending (keys_of (rows_of old.history)) ≡ true
    → named ≡ named_by c old → skips ≡ t.skips → keys ≡ left_out named (skipped_keys skips)
    → ToldKeys c old t.skips keys
told_draft {c} {old} {new} {t} {named} {keys} done up are theirs left =
    told_keys c old new t keys (left ∙ (λ i. left_out (are i) (skipped_keys (theirs i)))) up done

-- a receipt of these keys
pub told_receipt : {has : List Receipt} {kind due : Kind} {keys left all : List Key}
    (had : List Receipt) (n : ℕ) → has ≡ had ++ Made n kind keys ∷ [] → kind ≡ due → keys ≡ left
    → left ≡ all → has ≡ had ++ Made n due all ∷ []
told_receipt had n is same new whole =
    is ∙ (λ i. had ++ Made n (same i) ((new ∙ whole) i) ∷ [])

-- ---- 4. the changes

noted_few : (c : CommandParts) (old : BookModel) (choices : List ℕ)
    → Notes old.history.journal
    (noting old.history (off_for (kind_of c) (named_by c old)) choices).journal
    (length (named_by c old))
noted_few c old choices =
    let kind = kind_of c in
    let named = named_by c old in
    notes_at_most old.history.journal (noting old.history (off_for kind named) choices).journal
    (length (off_for kind named)) (length named) (off_short kind named)
    (notes_each old.history (off_for kind named) choices)

entered_grown : (os : List Mark) (c : CommandParts) (old new : BookModel) (t : Taken)
    (choices : List ℕ) → still_undone old.history.journal os ≡ true → new.fixed ≡ old.fixed
    → Enters (kind_of c) (filter (is_matched_in c old) (named_by c old))
    (skips_of (is_matched_in c old) (kind_of c) (named_by c old))
    (noting old.history (off_for (kind_of c) (named_by c old)) choices) new.history t
    → Grown os (command_receipt c old t) old new (length (named_by c old) + 1)
entered_grown os c old new t choices still fixed enters =
    let kind = kind_of c in
    let named = named_by c old in
    let p = is_matched_in c old in
    let noted = noting old.history (off_for kind named) choices in
    let keys = takes (rows_of noted) kind (filter p named) in
    let e : Entry = record { kind = kind; keys = keys } in
    let other : without named t.skips ≡ keys =
    ap (λ (s : List Skip). without named s) enters.3 ∙ without_taken p (rows_of noted) kind named in
    let receipt : made_of t.number kind keys ≡ command_receipt c old t =
    commands_made c t.number keys ∙ ap (λ (l : List Key). Made t.number kind l) (sym other) in
    subst (λ r. Grown os r old new (length named + 1)) receipt
    (grown os old new noted.journal e t.number (length named) still fixed (noted_few c old choices)
    (commands_desks kind (kinds_command c)) (ap (λ (h : History). h.journal) enters.1) enters.2)

pub command_grown : (os : List Mark) (c : CommandParts) (old new : BookModel) (t : Taken)
    → still_undone old.history.journal os ≡ true → IsDone c old new (Ok t)
    → Grown os (command_receipt c old t) old new (length (named_by c old) + 1)
command_grown os c old new t still done = at done.outcome
  where
    at : CommandOutcome (kind_of c) (named_by c old) (filter (is_matched_in c old) (named_by c old))
        (skips_of (is_matched_in c old) (kind_of c) (named_by c old)) old new (Ok t)
        → Grown os (command_receipt c old t) old new (length (named_by c old) + 1)
    at (choices, chosen, enters) = entered_grown os c old new t choices still done.fixed enters

pub command_kept : (os : List Mark) (c : CommandParts) (e : CommandRefusal) (old new : BookModel)
    → still_undone old.history.journal os ≡ true → IsDone c old new (Err e)
    → Kept os old new (length (named_by c old) + 1)
command_kept os c commands.NoMemory old new still done =
    kept os old new (length (named_by c old) + 1) still done.fixed
    (notes_none old.history.journal new.history.journal (length (named_by c old) + 1)
    (ap (λ (h : History). h.journal) done.outcome))
command_kept os c (commands.NothingApplies skips) old new still done = at done.outcome
  where
    at : CommandOutcome (kind_of c) (named_by c old) (filter (is_matched_in c old) (named_by c old))
        (skips_of (is_matched_in c old) (kind_of c) (named_by c old)) old new
        (Err (commands.NothingApplies skips)) → Kept os old new (length (named_by c old) + 1)
    at (choices, chosen, nothing) =
        kept os old new (length (named_by c old) + 1) still done.fixed
        (subst (λ (h : History). Notes old.history.journal h.journal (length (named_by c old) + 1))
        (sym nothing.1)
        (notes_at_most old.history.journal
        (noting old.history (off_for (kind_of c) (named_by c old)) choices).journal
        (length (named_by c old)) (length (named_by c old) + 1) (omega arith)
        (noted_few c old choices)))
