-- The answer to a command, from what the book's call says.
use Rattle.std.proofs.Common.{◌≡◌, ◌≢◌, ℕ, List, [], ◌∷◌, ◌++◌, Bool, Result, Ok, Err, refl, sym}
use Rattle.std.proofs.Common.{ap, subst, ◌∙◌, arith, filter, true, inl, inr}
use Rattle.std.specs.List.{flat_map}
use Rattle.std.specs.Prelude.{codes}
use Rattle.td_rows.specs.declared.key.Key.{Key}
use Rattle.td_rows.specs.declared.kind.Kind.{Kind}
use Rattle.td_rows.specs.Table.{Table}
use Rattle.td_journal.specs.declared.entry.Entry.{Entry}
use Rattle.td_journal.specs.declared.entry.Marked.{Marked}
use Rattle.td_core.specs.History.{History}
use Rattle.td_wbread.specs.Command.{CommandParts}
use Rattle.td_book.specs.declared.commanding.CommandRefusal.{CommandRefusal}
use Rattle.td_book.specs.declared.commanding.CommandRefusal.TheVariants as refusals
use Rattle.td_book.specs.declared.commanding.Taken.{Taken}
use Rattle.td_naming.specs.declared.skips.Skip.{Skip}
use Rattle.td_book.specs.Desk.{BookModel}
use Rattle.td_book.specs.Calls.{noting, off_for, Enters, Nothing, Choices}
use Rattle.td_book.specs.Commands.{IsDone, is_matched_in, named_by}
use Rattle.td_wbread.specs.Kinds.{kind_of}
use Rattle.td_naming.specs.Skips.{skips_of}
use Rattle.td_script.specs.Replies.{enters, enters_on, commands, refuses, refusal_line, skip_line}
use Rattle.td_script.specs.Replies.{skipped, taken, Reply}
use Rattle.td_script.specs.Answering.{Answers, IsLeftBy}
use Rattle.td_script.specs.Replying.{IsPut, IsEntryPut, IsCommandPut}
use Rattle.td_script.proofs.AnswerLaws.{Answers-made, noting-none}

-- without builders no claim is noted before the entry
alone : (old : BookModel) (keys : List Key) (choices : List ℕ) → old.fixed.builders ≡ 0
    → Choices old.fixed.builders keys choices → noting old.history keys choices ≡ old.history
alone old keys choices none chosen =
    noting-none old.history keys choices (λ i b is.
    let small = chosen.bound i b is in omega (arith, small, none))

-- the entry of a command
abbrev entry : BookModel → CommandParts → Entry
entry b c = record { kind = kind_of c; keys = taken b.fixed.stock b.history c }

-- the rows that a command names and doesn't take, of rows
abbrev left : BookModel → CommandParts → Table → List Skip
left b c = skips_of (is_matched_in c b) (kind_of c) (named_by c b)

abbrev matched : BookModel → CommandParts → List Key
matched b c = filter (is_matched_in c b) (named_by c b)

enters_on-some : (h : History) (kind : Kind) (keys : List Key) (behind : List ℕ) → keys ≢ []
    → enters_on h kind keys behind ≡ enters h (record { kind = kind; keys = keys }) behind
enters_on-some h kind [] behind some = absurd (some refl)
enters_on-some h kind (k ∷ keys) behind some = refl

pub Answers-entered : (c : CommandParts) (old new : BookModel) (ms : List Marked) (t : Taken)
    (before now : List ℕ) (refused : Bool) → old.fixed.builders ≡ 0 → ms ≡ new.history.journal
    → IsDone c old new (Ok t)
    → IsEntryPut ms t.number (flat_map skip_line t.skips) before now refused
    → Answers (commands old.fixed.stock old.history c) old new before now refused
Answers-entered c old new ms t before now refused none same h put =
    let off = off_for (kind_of c) (named_by c old) in
    let out : Enters (kind_of c) (matched old c) (left old c) old.history new.history t =
    subst (λ (n : History). Enters (kind_of c) (matched old c) (left old c) n new.history t)
    (alone old off h.outcome.0 none h.outcome.1) h.outcome.2 in
    let e = entry old c in
    let behind = flat_map skip_line (skipped old.fixed.stock old.history c) in
    subst (λ (r : Reply). Answers r old new before now refused)
    (sym (enters_on-some old.history (kind_of c) e.keys behind out.0))
    (Answers-made e behind old new ms t.number before now refused out.1 h.fixed out.2 same
    (subst (λ (s : List Skip). IsEntryPut ms t.number (flat_map skip_line s) before now refused)
    out.3 put))

pub Answers-nothing : (c : CommandParts) (old new : BookModel) (s : List Skip) (before now : List ℕ)
    (refused : Bool) → old.fixed.builders ≡ 0 → IsDone c old new (Err (refusals.NothingApplies s))
    → IsPut (refusal_line (codes "NothingApplies") ++ flat_map skip_line s) true before now refused
    → Answers (commands old.fixed.stock old.history c) old new before now refused
Answers-nothing c old new s before now refused none h put =
    let off = off_for (kind_of c) (named_by c old) in
    let out : Nothing (kind_of c) (matched old c) (left old c) old.history new.history s =
    subst (λ (n : History). Nothing (kind_of c) (matched old c) (left old c) n new.history s)
    (alone old off h.outcome.0 none h.outcome.1) h.outcome.2 in
    let behind = flat_map skip_line (skipped old.fixed.stock old.history c) in
    let reply : commands old.fixed.stock old.history c
    ≡ refuses old.history (codes "NothingApplies") behind =
    ap (λ (ks : List Key). enters_on old.history (kind_of c) ks behind) out.0 in
    subst (λ (r : Reply). Answers r old new before now refused) (sym reply) (record {
      text = put.text_is ∙ ap
          (λ (x : List Skip).
          before ++ (refusal_line (codes "NothingApplies") ++ flat_map skip_line x)) out.2;
      history = out.1;
      refusal = put.refusal;
      fixed = h.fixed;
    })

pub Answers-command : (c : CommandParts) (old new : BookModel) (ms : List Marked)
    (a : Result Taken CommandRefusal) (before now : List ℕ) (refused : Bool)
    → old.fixed.builders ≡ 0 → ms ≡ new.history.journal → IsDone c old new a
    → IsCommandPut ms a before now refused
    → Answers (commands old.fixed.stock old.history c) old new before now refused
Answers-command c old new ms (Ok t) before now refused none same h put =
    Answers-entered c old new ms t before now refused none same h put
Answers-command c old new ms (Err (refusals.NothingApplies s)) before now refused none same h put =
    Answers-nothing c old new s before now refused none h put
Answers-command c old new ms (Err refusals.NoMemory) before now refused none same h put = absurd put

-- what a command leaves, whatever its answer is
pub left_command : (c : CommandParts) (old new : BookModel) (a : Result Taken CommandRefusal)
    → old.fixed.builders ≡ 0 → IsDone c old new a
    → IsLeftBy (commands old.fixed.stock old.history c) old new
left_command c old new (Ok t) none h =
    let off = off_for (kind_of c) (named_by c old) in
    let out : Enters (kind_of c) (matched old c) (left old c) old.history new.history t =
    subst (λ (n : History). Enters (kind_of c) (matched old c) (left old c) n new.history t)
    (alone old off h.outcome.0 none h.outcome.1) h.outcome.2 in
    let e = entry old c in
    let behind = flat_map skip_line (skipped old.fixed.stock old.history c) in
    subst (λ (r : Reply). IsLeftBy r old new)
    (sym (enters_on-some old.history (kind_of c) e.keys behind out.0))
    (record { history = inr out.1; fixed = h.fixed })
left_command c old new (Err (refusals.NothingApplies s)) none h =
    let off = off_for (kind_of c) (named_by c old) in
    let out : Nothing (kind_of c) (matched old c) (left old c) old.history new.history s =
    subst (λ (n : History). Nothing (kind_of c) (matched old c) (left old c) n new.history s)
    (alone old off h.outcome.0 none h.outcome.1) h.outcome.2 in
    record { history = inl out.1; fixed = h.fixed }
left_command c old new (Err refusals.NoMemory) none h =
    record { history = inl h.outcome; fixed = h.fixed }
