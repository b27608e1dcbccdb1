-- The moves of a command lead from the book at rest to the book at rest.
use Rattle.std.proofs.Common.{◌≡◌, ◌≢◌, ℕ, filter, ◌+◌, true, List, [], ◌∷◌, ◌++◌, Result, Ok, Err}
use Rattle.std.proofs.Common.{length, ap, refl, sym, subst, ◌∙◌}
use Rattle.td_board.specs.declared.views.RowView.{RowView}
use Rattle.td_rows.specs.declared.key.Key.{Key}
use Rattle.td_rows.specs.declared.kind.Kind.{Kind}
use Rattle.td_rows.specs.Keys.{names, ascending}
use Rattle.td_rows.specs.Kinds.{cells}
use Rattle.td_rows.specs.Table.{Table, keys_of, fits, AppliesOn}
use Rattle.td_supply.specs.Supply.{Stock}
use Rattle.td_journal.specs.declared.entry.Entry.{Entry}
use Rattle.td_journal.specs.declared.entry.Marked.{Marked}
use Rattle.td_journal.specs.Entries.{is_command, standing_entry}
use Rattle.td_core.specs.Committing.{takes}
use Rattle.td_core.specs.History.{History, rows_of, with_entry}
use Rattle.td_core.specs.Worlds.{WorldView}
use Rattle.td_core.proofs.Phases.{keys_of-rows_of}
use Rattle.td_core.proofs.Taking.{AppliesOn-filter, names-filter, ascending-filter}
use Rattle.td_core.proofs.Worlds.{rows_of-with_entry}
use Rattle.td_book.specs.Calls.{noting, Choices, off_for, entered, CommandOutcome, CommandTries}
use Rattle.td_book.specs.Tries.{tries_for, offers_for}
use Rattle.td_book.specs.Desk.{BookModel}
use Rattle.td_book.specs.Seen.{seen_off}
use Rattle.td_book.specs.declared.commanding.CommandRefusal.{CommandRefusal}
use Rattle.td_book.specs.declared.commanding.CommandRefusal.TheVariants as commands
use Rattle.td_book.proofs.Seeing.{desks_off}
use Rattle.td_book.proofs.Steps.{up_now}
use Rattle.td_book.proofs.Withdrawals.{commands_desks}
use Rattle.td_book.proofs.Calls.{off_within, noting-opening, kinds_command}
use Rattle.td_wbread.specs.Command.{CommandParts}
use Rattle.td_wbread.specs.Naming.{is_named}
use Rattle.td_core.specs.declared.step.Answer.TheVariants as answers
use Rattle.td_book.specs.Commands.{named_by, is_matched_in, IsDone}
use Rattle.td_wbread.specs.Kinds.{kind_of}
use Rattle.td_naming.specs.Skips.{skips_of}
use Rattle.td_book.specs.declared.commanding.Taken.{Taken}
use Rattle.td_steps.specs.Sees.{Desk, resting, Sees}
use Rattle.td_steps.specs.Moves.{Move, commit, next_no}
use Rattle.td_steps.specs.Runs.{moved_all}
use Rattle.td_steps.specs.Parts.{withdrawing, offering, committing, Tells}
use Rattle.td_steps.specs.Commands.{entering_moves, off_in, command_moves, CommandMoves}
use Rattle.td_steps.specs.Commands.{CommandsAreSteps}
use Rattle.td_steps.proofs.Parts.{Leads, leads-none, leads-then, leads-one, tells-at, Moved}
use Rattle.td_steps.proofs.Parts.{desk_off, named-off, withdrawing-all, offering-all, apart-none}
use Rattle.td_steps.proofs.Parts.{book-is, up-seen, off-rise, moved-on}
use Rattle.td_steps.specs.Tries.{AreMade}
use Rattle.td_steps.proofs.Tries.{made-by, made-none, both, done-withdrawing, done-committing}
use Rattle.td_steps.proofs.Tries.{done-offering}

-- ---- 1. the entry

committing-leads : (h : History) (st : Stock) (n : ℕ) (off : List Key) (kind : Kind) (ts : List Key)
    → ascending (keys_of h.opening) ≡ true → is_command kind ≡ true → ascending ts ≡ true
    → AppliesOn (rows_of h) kind ts
    → ((cells kind).state ≡ true → (k : Key) → names ts k ≡ true → names off k ≡ true)
    → Leads (desk_off h st n off) (committing kind ts) (desk_off (entered h kind ts) st n off)
committing-leads h st n off kind [] up command rise fit within =
    leads-none (desk_off h st n off) (desk_off h st n off) refl
committing-leads h st n off kind (t ∷ ts) up command rise fit within =
    let e : Entry = record { kind = kind; keys = t ∷ ts } in
    let same : seen_off off (rows_of h) ≡ seen_off off (rows_of (with_entry h e)) =
    sym (ap (seen_off off) (rows_of-with_entry h e)
    ∙ desks_off off (t ∷ ts) kind (rows_of h) (up_now h up) (commands_desks kind command) fit
    within) in
    leads-one (desk_off h st n off) (desk_off (with_entry h e) st n off) (commit kind (t ∷ ts))
    (record {
      command = command;
      rise = rise;
      applies = fit;
      off = λ has k named. named-off h st n off k (within has k named);
    })
    (ap (λ (x : List RowView). record (desk_off (with_entry h e) st n off) { view = x }) same)

entered-opening : (h : History) (kind : Kind) (ts : List Key)
    → (entered h kind ts).opening ≡ h.opening
entered-opening h kind [] = refl
entered-opening h kind (t ∷ ts) = refl

-- what a command asks of its keys
record IsCommand (kind : Kind) (named matched : List Key) : Type 0 where
  command : is_command kind ≡ true
  rising : ascending named ≡ true
  matched_rising : ascending matched ≡ true
  among : (k : Key) → names matched k ≡ true → names named k ≡ true

entering-leads : (kind : Kind) (named matched : List Key) (h : History) (st : Stock) (n : ℕ)
    (bs : List ℕ) → ascending (keys_of h.opening) ≡ true → IsCommand kind named matched
    → length bs ≡ length (off_for kind named)
    → Leads (desk_off h st n []) (entering_moves kind named matched h bs)
    (desk_off (entered (noting h (off_for kind named) bs) kind
    (takes (rows_of (noting h (off_for kind named) bs)) kind matched)) st n [])
entering-leads kind named matched h st n bs up is len =
    let off = off_for kind named in
    let now = noting h off bs in
    let taken = takes (rows_of now) kind matched in
    let new = entered now kind taken in
    let up-now : ascending (keys_of now.opening) ≡ true =
    ap (λ (t : Table). ascending (keys_of t)) (noting-opening h off bs) ∙ up in
    let up-new : ascending (keys_of new.opening) ≡ true =
    ap (λ (t : Table). ascending (keys_of t)) (entered-opening now kind taken) ∙ up-now in
    let rise = off-rise kind named is.rising in
    leads-then (desk_off h st n []) (desk_off now st n off) (desk_off new st n [])
    (withdrawing h off bs) (committing kind taken ++ offering (rows_of new) off)
    (withdrawing-all h st n [] off bs up len rise (apart-none off))
    (leads-then (desk_off now st n off) (desk_off new st n off) (desk_off new st n [])
    (committing kind taken) (offering (rows_of new) off)
    (committing-leads now st n off kind taken up-now is.command
    (ascending-filter (fits (rows_of now) kind) matched is.matched_rising)
    (AppliesOn-filter (rows_of now) kind matched)
    (λ has k t. off_within kind named off refl has k
    (is.among k (names-filter (fits (rows_of now) kind) matched k t))))
    (offering-all new st n up-new off rise))

-- the number of its entry
tells-entry : (d x : Desk) (before behind : List Move) (kind : Kind) (ts : List Key)
    → moved_all d before ≡ x → ts ≢ []
    → Tells d (before ++ (committing kind ts ++ behind)) (answers.Entry (next_no x))
tells-entry d x before behind kind [] to some = absurd (some refl)
tells-entry d x before behind kind (t ∷ ts) to some =
    tells-at d x before behind (commit kind (t ∷ ts)) (answers.Entry (next_no x)) to refl

-- ---- 2. a command

ends : (a : List Marked) (x : Marked) → [] ≡ a ++ x ∷ [] → ⊥
ends [] x e = cc
ends (p ∷ a) x e = cc

before : (a b : List Marked) (x y : Marked) → a ++ x ∷ [] ≡ b ++ y ∷ [] → a ≡ b
before [] [] x y e = refl
before [] (q ∷ b) x y e = absurd (ends b y (let rest : [] ≡ b ++ y ∷ [] = cc in rest))
before (p ∷ a) [] x y e = absurd (ends a x (let rest : [] ≡ a ++ x ∷ [] = cc in rest))
before (p ∷ a) (q ∷ b) x y e =
    let rest : a ++ x ∷ [] ≡ b ++ y ∷ [] = cc in
    let head : p ≡ q = cc in
    let same = before a b x y rest in
    λ j. head j ∷ same j

-- what was before the last entry
with_entry-before : (g h : History) (d e : Entry) → with_entry g d ≡ with_entry h e → g ≡ h
with_entry-before g h d e is =
    let journal = before g.journal h.journal (standing_entry d) (standing_entry e)
    (ap (λ (x : History). x.journal) is) in
    λ j. record { opening = (ap (λ (x : History). x.opening) is) j; journal = journal j }

entered-none : (h : History) (kind : Kind) (ts : List Key) → ts ≡ [] → h ≡ entered h kind ts
entered-none h kind ts e = sym (ap (entered h kind) e)

entered-some : (h : History) (kind : Kind) (ts : List Key) → ts ≢ []
    → with_entry h (record { kind = kind; keys = ts }) ≡ entered h kind ts
entered-some h kind [] some = absurd (some refl)
entered-some h kind (t ∷ ts) some = refl

pub named-rise : (c : CommandParts) (b : BookModel) → ascending (keys_of b.history.opening) ≡ true
    → ascending (named_by c b) ≡ true
named-rise c b up =
    ascending-filter (λ k. is_named c k.source k.arch) (keys_of (rows_of b.history))
    (ap ascending (keys_of-rows_of b.history) ∙ up)

asks : (c : CommandParts) (b : BookModel) → ascending (keys_of b.history.opening) ≡ true
    → IsCommand (kind_of c) (named_by c b) (filter (is_matched_in c b) (named_by c b))
asks c b up = record {
  command = kinds_command c;
  rising = named-rise c b up;
  matched_rising = ascending-filter (is_matched_in c b) (named_by c b) (named-rise c b up);
  among = names-filter (is_matched_in c b) (named_by c b);
}

module _ (w : WorldView) (c : CommandParts) (old new : BookModel) (sees : Sees w (resting old))
    (fixed : new.fixed ≡ old.fixed) where
  off : List Key
  off = off_in c old

  abbrev matched : List Key
  matched = filter (is_matched_in c old) (named_by c old)

  abbrev now_of : List ℕ → History
  now_of bs = noting old.history (off_in c old) bs

  abbrev taken_of : List ℕ → List Key
  taken_of bs =
      takes (rows_of (now_of bs)) (kind_of c) (filter (is_matched_in c old) (named_by c old))

  up : ascending (keys_of old.history.opening) ≡ true
  up = up-seen w old sees

  leads : (bs : List ℕ) → Choices old.fixed.builders (off_in c old) bs
      → new.history ≡ entered (now_of bs) (kind_of c) (taken_of bs)
      → Leads (resting old) (command_moves c old bs) (resting new)
  leads bs chosen now =
      subst (Leads (resting old) (command_moves c old bs))
      (book-is old new (entered (now_of bs) (kind_of c) (taken_of bs)) now fixed)
      (entering-leads (kind_of c) (named_by c old) (filter (is_matched_in c old) (named_by c old))
      old.history old.fixed.stock old.fixed.builders bs up (asks c old up) chosen.one_each)

  tells : (bs : List ℕ) → Choices old.fixed.builders (off_in c old) bs → taken_of bs ≢ []
      → Tells (resting old) (command_moves c old bs)
      (answers.Entry (length (now_of bs).journal + 1))
  tells bs chosen some =
      let out = withdrawing-all old.history old.fixed.stock old.fixed.builders []
      (off_in c old) bs up chosen.one_each
      (off-rise (kind_of c) (named_by c old) (named-rise c old up)) (apart-none (off_in c old)) in
      tells-entry (resting old)
      (desk_off (now_of bs) old.fixed.stock old.fixed.builders (off_in c old))
      (withdrawing old.history (off_in c old) bs)
      (offering (rows_of (entered (now_of bs) (kind_of c) (taken_of bs))) (off_in c old))
      (kind_of c) (taken_of bs) out.to some

  tried-moves : (bs : List ℕ) → Choices old.fixed.builders (off_in c old) bs
      → new.tries ≡ old.tries ++ (tries_for (rows_of old.history) (off_in c old) bs
      ++ offers_for (rows_of new.history) (off_in c old))
      → new.history ≡ entered (now_of bs) (kind_of c) (taken_of bs)
      → AreMade old new (command_moves c old bs)
  tried-moves bs chosen told now =
      let o = old.history.opening in
      let end = entered (now_of bs) (kind_of c) (taken_of bs) in
      let took = tries_for (rows_of old.history) (off_in c old) bs in
      let again = offers_for (rows_of end) (off_in c old) in
      let keys : keys_of (rows_of end) ≡ keys_of o =
      keys_of-rows_of end
      ∙ ap (λ (t : Table). keys_of t) (entered-opening (now_of bs) (kind_of c) (taken_of bs)
      ∙ noting-opening old.history (off_in c old) bs) in
      made-by old new (took ++ again) (command_moves c old bs)
      (told ∙ ap (λ (h : History). old.tries ++ (took ++ offers_for (rows_of h) (off_in c old)))
      now)
      (both o took again (withdrawing old.history (off_in c old) bs)
      (committing (kind_of c) (taken_of bs) ++ offering (rows_of end) (off_in c old))
      (done-withdrawing o old.history (off_in c old) bs (keys_of-rows_of old.history)
      (off-rise (kind_of c) (named_by c old) (named-rise c old up)))
      (both o [] again (committing (kind_of c) (taken_of bs))
      (offering (rows_of end) (off_in c old))
      (done-committing o (kind_of c) (taken_of bs))
      (done-offering o (rows_of end) (off_in c old) keys)))

  made : (r : Result Taken CommandRefusal)
      → CommandOutcome (kind_of c) (named_by c old) (filter (is_matched_in c old) (named_by c old))
      (skips_of (is_matched_in c old) (kind_of c) (named_by c old)) old new r
      → CommandTries (kind_of c) (named_by c old) (filter (is_matched_in c old) (named_by c old))
      old new r
      → Moved old new (CommandMoves c old r)
  made (Err commands.NoMemory) o tried = record {
    moves = [];
    are = refl;
    made = made-none old new tried;
    leads = leads-none (resting old) (resting new) (book-is old new old.history o fixed);
  }
  made (Err (commands.NothingApplies skips)) o tried =
      let bs = tried.choices in
      let same : now_of o.0 ≡ now_of bs = sym o.2.1 ∙ tried.history in
      let none : taken_of bs ≡ [] =
      ap (λ (h : History). takes (rows_of h) (kind_of c) matched) (sym same) ∙ o.2.0 in
      let now = tried.history ∙ entered-none (now_of bs) (kind_of c) (taken_of bs) none in
      record {
        moves = command_moves c old bs;
        are = (bs, tried.chosen, refl);
        made = tried-moves bs tried.chosen tried.tries now;
        leads = leads bs tried.chosen now;
      }
  made (Ok taken) o tried =
      let bs = tried.2.choices in
      let noted = tried.0 in
      let same : now_of o.0 ≡ now_of bs =
      with_entry-before (now_of o.0) noted
      (record { kind = kind_of c; keys = taken_of o.0 })
      (record { kind = kind_of c; keys = takes (rows_of noted) (kind_of c) matched })
      (sym o.2.1 ∙ tried.1) ∙ tried.2.history in
      let some : taken_of bs ≢ [] =
      subst (λ (h : History). takes (rows_of h) (kind_of c) matched ≢ []) same o.2.0 in
      let made_so : new.history
      ≡ with_entry (now_of bs) (record { kind = kind_of c; keys = taken_of bs }) =
      o.2.1 ∙ ap (λ (h : History).
      with_entry h (record { kind = kind_of c; keys = takes (rows_of h) (kind_of c) matched }))
      same in
      let now = made_so ∙ entered-some (now_of bs) (kind_of c) (taken_of bs) some in
      record {
        moves = command_moves c old bs;
        are = (
          bs,
          tried.2.chosen,
          refl,
          subst (λ (n : ℕ). Tells (resting old) (command_moves c old bs) (answers.Entry n))
              (ap (λ (h : History). length h.journal + 1) (sym same) ∙ sym o.2.2)
              (tells bs tried.2.chosen some),
        );
        made = tried-moves bs tried.2.chosen tried.2.tries now;
        leads = leads bs tried.2.chosen now;
      }

pub command-moved : (w : WorldView) (c : CommandParts) (old new : BookModel)
    (result : Result Taken CommandRefusal) → Sees w (resting old) → IsDone c old new result
    → Moved old new (CommandMoves c old result)
command-moved w c old new result sees is =
    made w c old new sees is.fixed result is.outcome is.tries

pub commands_are_steps : CommandsAreSteps
commands_are_steps w c old new result sees is =
    moved-on w old new (CommandMoves c old result) sees (command-moved w c old new result sees is)
