-- What the calls of a clerk answer over the locked book, with the clerk's receipts.
use Rattle.std.proofs.Common.{◌≡◌, ℕ, List, length, Result, ap, subst, sym, ◌∙◌}
use Rattle.std.specs.Prelude.{IfOk}
use Rattle.atomic_table.specs.Seated.{TableId}
use Rattle.td_journal.specs.declared.entry.Mark.{Mark}
use Rattle.td_wbread.specs.Command.{CommandParts}
use Rattle.td_book.specs.declared.commanding.CommandRefusal.{CommandRefusal}
use Rattle.td_book.specs.declared.commanding.Taken.{Taken}
use Rattle.td_book.specs.Commands.{IsDone}
use Rattle.td_book.specs.Desk.{BookModel}
use Rattle.td_desk.specs.declared.receipt.Receipt.{Receipt}
use Rattle.td_desk.specs.Changes.{changes}
use Rattle.td_desk.specs.Clerks.{ClerkModel, with_receipt}
use Rattle.td_desk.specs.Calls.{Commanding, IsMetBy, IsOfDesk, command_receipt}
use Rattle.td_desk.specs.Names.{Origin}

-- a clerk whose share counts its receipts meets a book with as many changes, if it has all parts
pub met : (table : TableId) (origin : Origin) (opened : List Mark) (clerk : ClerkModel)
    (book locked : BookModel) (share amount all parts : ℕ) (receipts : List Receipt)
    → IsOfDesk table origin book → book ≡ locked
    → (share ≡ all → amount ≡ length (changes opened locked))
    → share ≡ parts → all ≡ 1024 → amount ≡ length receipts
    → record { parts = parts; receipts = receipts } ≡ clerk
    → IsMetBy table origin opened clerk.parts clerk.receipts book
met table origin opened clerk book locked share amount all parts receipts of is whole own every
    count same = record {
      of_desk = of;
      counted = λ has.
          ap (λ (c : ClerkModel). length c.receipts) (sym same) ∙ sym count
          ∙ whole (own ∙ ap (λ (c : ClerkModel). c.parts) same ∙ has ∙ sym every)
          ∙ ap (λ (b : BookModel). length (changes opened b)) (sym is);
    }

-- what holds of an answer holds of what is told as it
pub told_as : {A : Type 0} (P : A → Type 0) (answer told : A) → told ≡ answer → P answer → P told
told_as P answer told same is = subst P (sym same) is

pub commanded : (c : CommandParts) (Met : BookModel → Type 0) (clerk after : ClerkModel)
    (answer told : Result Taken CommandRefusal) (old new : BookModel) → told ≡ answer → Met old
    → IsDone c old new answer
    → IfOk answer (λ t. after ≡ with_receipt (command_receipt c old t) clerk)
    → Commanding c Met clerk after told
commanded c Met clerk after answer told old new same of is got =
    told_as (Commanding c Met clerk after) answer told same (old, new, of, is, got)

-- what a command does to a book it does to an equal one, and leaves an equal one
pub done_as : (c : CommandParts) (r : Result Taken CommandRefusal) (a b x y : BookModel) → b ≡ a
    → y ≡ x → IsDone c a x r → IsDone c b y r
done_as c r a b x y same after is =
    subst (λ (s : BookModel). IsDone c s y r) (sym same)
    (subst (λ (s : BookModel). IsDone c a s r) (sym after) is)
