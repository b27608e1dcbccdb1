-- The calls of the book over plain values.
use Rattle.std.proofs.Common.{◌≡◌, ℕ, ◌≤◌, Bool, true, false, List, [], ◌∷◌, ◌++◌, Option, Some}
use Rattle.std.proofs.Common.{None, Result, IfSome, filter, if◌then◌else◌, length, ap, refl, sym}
use Rattle.std.proofs.Common.{Ok, subst, ◌∙◌, arith, append_assoc}
use Rattle.std.specs.Prelude.{IsSomeAnd}
use Rattle.td_board.specs.declared.views.RowView.{RowView}
use Rattle.td_board.specs.declared.views.DeskTry.{DeskTry}
use Rattle.td_rows.specs.declared.key.Key.{Key}
use Rattle.td_rows.specs.declared.kind.Kind.{Kind}
use Rattle.td_rows.specs.Keys.{names}
use Rattle.td_rows.specs.Kinds.{cells}
use Rattle.td_rows.specs.Table.{Table, keys_of}
use Rattle.td_change.specs.Plans.{Planned, plan_of, left}
use Rattle.td_change.proofs.Plans.{left-plan_of, plan_of-itself, plan_of-same_keys}
use Rattle.td_journal.specs.declared.entry.Marked.{Marked}
use Rattle.td_journal.specs.Commands.{is_command}
use Rattle.td_journal.specs.Entries.{entry_at}
use Rattle.td_core.specs.Committing.{takes}
use Rattle.td_core.specs.History.{History, rows_of, with_entry, without_entry}
use Rattle.td_core.proofs.Phases.{keys_of-rows_of}
use Rattle.td_book.specs.Watching.{WatchedView}
use Rattle.td_book.specs.Desk.{InnerModel, BookModel, book_of, fixed_of, Stays, HasOne}
use Rattle.td_book.specs.Calls.{noting_one, noting, Choices, Withdrew, off_for, plan_takes}
use Rattle.td_book.specs.Calls.{plan_kind, entered, entered_no, IsPlan, IsPlanOf, PlanIsOff}
use Rattle.td_book.specs.Calls.{CommandOutcome, CommandTries, IsCommanded, taken_of}
use Rattle.td_book.specs.Tries.{tries_for, wins_for, offers_for}
use Rattle.td_book.specs.Undoing.{AreOff, IsUndone}
use Rattle.td_book.specs.declared.commanding.CommandRefusal.{CommandRefusal}
use Rattle.td_book.specs.declared.commanding.Taken.{Taken}
use Rattle.td_naming.specs.declared.skips.Skip.{Skip}
use Rattle.td_change.specs.Saved.{HaveRows}
use Rattle.td_change.proofs.Numbers.{is_some-row_of}
use Rattle.td_core.proofs.Taking.{names-filter}
use Rattle.td_wbread.specs.Command.{CommandParts}
use Rattle.td_wbread.specs.Kinds.{kind_with, kind_of}
use Rattle.td_wbread.specs.declared.command.Verb.{Verb}
use Rattle.td_wbread.specs.declared.command.Verb.TheVariants.{Gb, Nmu, Bp, Dw}
use Rattle.td_book.proofs.Steps.{noting_one-opening, stays_more, stays_fixed}

-- ---- 1. the keys that are withdrawn

pub off_within : (kind : Kind) (keys off : List Key) → off ≡ off_for kind keys
    → (cells kind).state ≡ true → (k : Key) → names keys k ≡ true → names off k ≡ true
off_within kind keys off is has k named =
    ap (λ (u : List Key). names u k) (is ∙ ap (λ b. if b then keys else []) has) ∙ named

pub off_short : (kind : Kind) (keys : List Key) → length (off_for kind keys) ≤ length keys
off_short kind keys =
    elim (cells kind).state as (λ b. length (if b then keys else []) ≤ length keys) [
      | true ↦
          omega arith
      | false ↦ omega arith
    ]

-- ---- 2. the plan

pub noting-opening : (h : History) (ks : List Key) (bs : List ℕ)
    → (noting h ks bs).opening ≡ h.opening
noting-opening h [] bs = refl
noting-opening h (k ∷ ks) [] = refl
noting-opening h (k ∷ ks) (b ∷ bs) =
    noting-opening (noting_one h k b) ks bs ∙ noting_one-opening h k b

pub keys_same : (off : List Key) (h : History) (b w : InnerModel) → b.books.history ≡ h
    → Withdrew off b w → keys_of (rows_of h) ≡ keys_of (rows_of w.books.history)
keys_same off h b w same done =
    keys_of-rows_of h ∙ ap (λ (x : History). keys_of x.opening) (sym same)
    ∙ ap keys_of (sym (noting-opening b.books.history off done.choices))
    ∙ ap (λ (x : History). keys_of x.opening) (sym done.history)
    ∙ sym (keys_of-rows_of w.books.history)

-- a plan over the rows of a book is one over those of an equal book
pub plan_inside : (kind : Kind) (keys : List Key) (plan : Option Planned) (m n : BookModel) → m ≡ n
    → IsPlan kind keys (rows_of n.history) plan → IsPlan kind keys (rows_of m.history) plan
plan_inside kind keys plan m n same is =
    subst (λ (b : BookModel). IsPlan kind keys (rows_of b.history) plan) (sym same) is

pub is_plan_of : (kind : Kind) (matched : List Key) (t u : Table) (plan : Option Planned)
    → IsPlan kind matched t plan → keys_of t ≡ keys_of u → is_command kind ≡ true → IsPlanOf plan u
is_plan_of kind matched t u None is same command = tt
is_plan_of kind matched t u (Some p) is same command = (
  plan_of-itself p kind matched u (is ∙ plan_of-same_keys kind matched t u same),
  ap (λ (x : Planned). is_command x.kind) is ∙ command,
)

left_is : (kind : Kind) (matched : List Key) (t : Table) (p : Planned) → p ≡ plan_of kind matched t
    → left p ≡ matched
left_is kind matched t p is = ap left is ∙ left-plan_of kind matched t

pub plan_room : (kind : Kind) (named matched : List Key) (t : Table) (plan : Option Planned)
    (b : WatchedView) → IsPlan kind matched t plan
    → ((k : Key) → names matched k ≡ true → names named k ≡ true) → HasOne named b
    → IfSome plan (λ p. HasOne (left p) b)
plan_room kind named matched t None b is among one = tt
plan_room kind named matched t (Some p) b is among one =
    record {
      spare = one.spare;
      places = λ k h. one.places k
          (among k (ap (λ (u : List Key). names u k) (sym (left_is kind matched t p is)) ∙ h));
    }

pub plan_off : (kind : Kind) (named matched off : List Key) (t : Table) (plan : Option Planned)
    → IsPlan kind matched t plan → ((k : Key) → names matched k ≡ true → names named k ≡ true)
    → off ≡ off_for kind named → PlanIsOff plan off
plan_off kind named matched off t None is among off_is = tt
plan_off kind named matched off t (Some p) is among off_is = λ has k h.
    off_within kind named off off_is (ap (λ (x : Planned). (cells x.kind).state) (sym is) ∙ has) k
    (among k (ap (λ (u : List Key). names u k) (sym (left_is kind matched t p is)) ∙ h))

takes_is : (kind : Kind) (matched : List Key) (t u : Table) (plan : Option Planned)
    → IsPlan kind matched t plan → plan_takes u plan ≡ takes u kind matched
takes_is kind matched t u None is = ap (takes u kind) (sym is)
takes_is kind matched t u (Some p) is =
    λ j. takes u (ap (λ (x : Planned). x.kind) is j) (left_is kind matched t p is j)

entered_is : (kind : Kind) (matched : List Key) (t : Table) (h : History) (plan : Option Planned)
    → IsPlan kind matched t plan
    → entered h (plan_kind plan) (plan_takes (rows_of h) plan)
    ≡ entered h kind (takes (rows_of h) kind matched)
entered_is kind matched t h None is =
    ap (λ (u : List Key). entered h kind (takes (rows_of h) kind u)) (sym is)
entered_is kind matched t h (Some p) is =
    λ j. entered h (ap (λ (x : Planned). x.kind) is j)
    (takes_is kind matched t (rows_of h) (Some p) is j)

-- ---- 3. a command

outcome_of : (kind : Kind) (named matched : List Key) (left : Table → List Skip)
    (old new : BookModel) (choices : List ℕ)
    → Choices old.fixed.builders (off_for kind named) choices → (ts : List Key)
    → takes (rows_of (noting old.history (off_for kind named) choices)) kind matched ≡ ts
    → new.history ≡ entered (noting old.history (off_for kind named) choices) kind ts
    → (skips : List Skip) → skips ≡ left (rows_of (noting old.history (off_for kind named) choices))
    → (result : Result Taken CommandRefusal)
    → result ≡ taken_of (entered_no (noting old.history (off_for kind named) choices) ts) skips
    → CommandOutcome kind named matched left old new result
outcome_of kind named matched left old new choices chosen [] eq now skips told result is =
    subst (CommandOutcome kind named matched left old new) (sym is)
    (choices, chosen, (eq, now, told))
outcome_of kind named matched left old new choices chosen (k ∷ ks) eq now skips told result is =
    let noted = noting old.history (off_for kind named) choices in
    let taken : takes (rows_of noted) kind matched ≡ [] → ⊥ = λ e. full k ks (sym eq ∙ e) in
    subst (CommandOutcome kind named matched left old new) (sym is) (
      choices,
      chosen,
      (
        taken,
        now ∙ ap (λ (u : List Key). with_entry noted (record { kind = kind; keys = u })) (sym eq),
        refl,
        told,
      ),
    )
  where
    full : (q : Key) (qs : List Key) → q ∷ qs ≡ [] → ⊥
    full q qs e = cc

tries_of : (kind : Kind) (named matched : List Key) (old new : BookModel) (choices : List ℕ)
    → Choices old.fixed.builders (off_for kind named) choices
    → new.tries ≡ old.tries ++ (tries_for (rows_of old.history) (off_for kind named) choices
    ++ offers_for (rows_of new.history) (off_for kind named))
    → (ts : List Key)
    → takes (rows_of (noting old.history (off_for kind named) choices)) kind matched ≡ ts
    → new.history ≡ entered (noting old.history (off_for kind named) choices) kind ts
    → (skips : List Skip) (result : Result Taken CommandRefusal)
    → result ≡ taken_of (entered_no (noting old.history (off_for kind named) choices) ts) skips
    → CommandTries kind named matched old new result
tries_of kind named matched old new choices chosen told [] eq now skips result is =
    subst (CommandTries kind named matched old new) (sym is)
    (record { choices = choices; chosen = chosen; history = now; tries = told })
tries_of kind named matched old new choices chosen told (k ∷ ks) eq now skips result is =
    let noted = noting old.history (off_for kind named) choices in
    subst (CommandTries kind named matched old new) (sym is) (
      noted,
      now ∙ ap (λ (u : List Key). with_entry noted (record { kind = kind; keys = u })) (sym eq),
      record { choices = choices; chosen = chosen; history = refl; tries = told },
    )

-- room made, rows withdrawn, the entry made, rows offered
pub commanded : (kind : Kind) (named matched : List Key) (left : Table → List Skip)
    (a b w d e : InnerModel) (plan : Option Planned) (v : List RowView) (skips : List Skip)
    (result : Result Taken CommandRefusal)
    → IsPlan kind matched (rows_of a.books.history) plan → b.books.history ≡ a.books.history
    → b.tries ≡ a.tries → Stays a b → Withdrew (off_for kind named) b w
    → d.books.history ≡ entered w.books.history (plan_kind plan)
    (plan_takes (rows_of w.books.history) plan) → d.tries ≡ w.tries → Stays w d
    → e ≡ (record d {
      view = v;
      tries = d.tries ++ offers_for (rows_of d.books.history) (off_for kind named);
    })
    → skips ≡ left (rows_of w.books.history)
    → result
    ≡ taken_of (entered_no w.books.history (plan_takes (rows_of w.books.history) plan)) skips
    → IsCommanded kind named matched left (book_of a) (book_of e) result
commanded kind named matched left a b w d e plan v skips result planned same untried room done made
    untried' kept offered told is =
    let off = off_for kind named in
    let all = stays_more a b d room (stays_more b w d done.stays kept) in
    let hist : w.books.history ≡ noting a.books.history off done.choices =
    done.history ∙ ap (λ (h : History). noting h off done.choices) same in
    let chosen : Choices a.builders off done.choices =
    subst (λ (n : ℕ). Choices n off done.choices) room.builders done.chosen in
    let books : e.books ≡ d.books = ap (λ (m : InnerModel). m.books) offered in
    let took : List DeskTry = tries_for (rows_of a.books.history) off done.choices in
    let again : List DeskTry = offers_for (rows_of d.books.history) off in
    let tries : e.tries ≡ a.tries ++ (took ++ offers_for (rows_of e.books.history) off) =
    ap (λ (m : InnerModel). m.tries) offered
    ∙ ap (λ (l : List DeskTry). l ++ again) (untried' ∙ done.tries
    ∙ (λ j. untried j ++ tries_for (rows_of (same j)) off done.choices))
    ∙ append_assoc a.tries took again
    ∙ ap (λ (b : WatchedView).
    a.tries ++ (took ++ offers_for (rows_of b.history) off)) (sym books) in
    let ts = takes (rows_of (noting a.books.history off done.choices)) kind matched in
    let now : e.books.history ≡ entered (noting a.books.history off done.choices) kind ts =
    ap (λ (x : WatchedView). x.history) books ∙ made
    ∙ entered_is kind matched (rows_of a.books.history) w.books.history plan planned
    ∙ ap (λ (h : History). entered h kind (takes (rows_of h) kind matched)) hist in
    let answer : result ≡ taken_of (entered_no (noting a.books.history off done.choices) ts) skips =
    is ∙ ap (λ (u : List Key). taken_of (entered_no w.books.history u) skips)
    (takes_is kind matched (rows_of a.books.history) (rows_of w.books.history) plan planned)
    ∙ ap (λ (h : History). taken_of (entered_no h (takes (rows_of h) kind matched)) skips) hist in
    record {
      fixed = ap fixed_of offered ∙ stays_fixed a d all;
      outcome =
          outcome_of kind named matched left (book_of a) (book_of e) done.choices chosen ts refl now
          skips (told ∙ ap (λ (h : History). left (rows_of h)) hist) result answer;
      tries = tries_of kind named matched (book_of a) (book_of e) done.choices chosen tries ts refl
          now skips result answer;
    }

-- ---- 4. an undo

-- rows withdrawn, the entry undone, rows offered
pub undone_so : (n : ℕ) (a u d e : InnerModel) (off offered : List Key) (m : Marked)
    (v : List RowView) → entry_at a.books.history.journal n ≡ Some m
    → off ≡ off_for m.entry.kind m.entry.keys → AreOff off a u
    → d.books.history ≡ without_entry u.books.history n → Stays u d → d.tries ≡ u.tries
    → offered ≡ off
    → e ≡ (record d {
      view = v;
      tries = d.tries ++ offers_for (rows_of d.books.history) offered;
    }) → IsUndone n (book_of a) (book_of e) (Ok tt)
undone_so n a u d e off offered m v there off_is offs undone kept untried same is =
    let wins : List DeskTry = wins_for (rows_of a.books.history) off in
    let again : List DeskTry = offers_for (rows_of d.books.history) offered in
    let hist : e.books.history ≡ d.books.history = ap (λ (x : InnerModel). x.books.history) is in
    let told : e.tries
    ≡ a.tries ++ (wins_for (rows_of a.books.history) (off_for m.entry.kind m.entry.keys)
    ++ offers_for (rows_of e.books.history) (off_for m.entry.kind m.entry.keys)) =
    ap (λ (x : InnerModel). x.tries) is
    ∙ ap (λ (l : List DeskTry). l ++ again) (untried ∙ offs.tries)
    ∙ append_assoc a.tries wins again
    ∙ (λ j. a.tries ++ (wins_for (rows_of a.books.history) (off_is j)
    ++ offers_for (rows_of (sym hist j)) ((same ∙ off_is) j))) in
    record {
      fixed = ap fixed_of is ∙ stays_fixed a d (stays_more a u d offs.stays kept);
      outcome = hist ∙ undone ∙ ap (λ (h : History). without_entry h n) offs.history;
      tries = subst (λ (x : Option Marked).
          IsSomeAnd x (λ (k : Marked). e.tries
          ≡ a.tries ++ (wins_for (rows_of a.books.history) (off_for k.entry.kind k.entry.keys)
          ++ offers_for (rows_of e.books.history) (off_for k.entry.kind k.entry.keys))))
          (sym there) told;
      memory = λ bad. absurd (cc);
    }

-- ---- 5. a command that is typed

pub kinds_command : (c : CommandParts) → is_command (kind_of c) ≡ true
kinds_command c = by c.verb c.extra c.message
  where
    by : (v : Verb) (e m : List ℕ) → is_command (kind_with v e m) ≡ true
    by Gb e m = refl
    by (Nmu n) e m = refl
    by (Bp p) e m = refl
    by Dw e m = refl

pub named_rows : (p : Key → Bool) (t : Table) → HaveRows t (filter p (keys_of t))
named_rows p t k named = is_some-row_of t k ∙ names-filter p (keys_of t) k named

pub off_short_is : (kind : Kind) (keys off : List Key) → off ≡ off_for kind keys
    → length off ≤ length keys
off_short_is kind keys off is =
    subst (λ (u : List Key). length u ≤ length keys) (sym is) (off_short kind keys)

-- the same command, told otherwise
pub commanded_as : (kind other : Kind) (named keys : List Key) (matched those : List Key)
    (left skips : Table → List Skip) (old new : BookModel) (result : Result Taken CommandRefusal)
    → kind ≡ other → named ≡ keys → matched ≡ those → left ≡ skips
    → IsCommanded kind named matched left old new result
    → IsCommanded other keys those skips old new result
commanded_as kind other named keys matched those left skips old new result a b c d is =
    subst (λ (x : Kind). IsCommanded x keys those skips old new result) a
    (subst (λ (x : List Key). IsCommanded kind x those skips old new result) b
    (subst (λ (x : List Key). IsCommanded kind named x skips old new result) c
    (subst (λ (x : Table → List Skip). IsCommanded kind named matched x old new result) d is)))
