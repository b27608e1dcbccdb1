-- The answers to the lines so far, at a desk.
use Rattle.std.proofs.Common.{◌≡◌, ℕ, ◌+◌, ◌≤◌, ◌<◌, List, [], ◌∷◌, length, Option}
use Rattle.std.proofs.Common.{None, Some, Bor, refl, sym, subst, arith}
use Rattle.std.specs.Prelude.{string_bytes}
use Rattle.atomic_table.specs.Seated.{TableId}
use Rattle.td_text.specs.Lines.{left_len, lines_left, lines_of}
use Rattle.td_journal.specs.declared.entry.Mark.{Mark}
use Rattle.td_desk.specs.declared.receipt.Receipt.{Receipt}
use Rattle.td_desk.specs.Calls.{IsMetBy}
use Rattle.td_desk.specs.Names.{Origin}
use Rattle.td_script.specs.declared.told.Told.{Told as ToldText}
use Rattle.td_script.specs.Replies.{Setting}
use Rattle.td_crew.specs.Replies.{MayReply}
use Rattle.td_crew.specs.CrewText.{AreAnswered, AreTold, IsReplied, Told, told_with, untold}

-- the answers so far, with any answers to the lines that are left, answer the whole script
pub record IsSoFar (table : TableId) (origin : Origin) (opened : List Mark) (parts : ℕ)
    (s : Setting) (script : List ℕ)
    (receipts : List Receipt) (told : ToldText) (rest : Option (Bor (List ℕ))) : Type 0 where
  pub whole : (last : Told)
      → AreTold (MayReply (IsMetBy table origin opened parts) s) (lines_left rest)
      (told_with told receipts)
      last
      → AreTold (MayReply (IsMetBy table origin opened parts) s) (lines_of script) untold last
  pub counted : told.refused + left_len rest ≤ length script + 1

so_far-script : (table : TableId) (origin : Origin) (opened : List Mark) (parts : ℕ)
    (s : Setting) (script : Bor (List ℕ))
    (receipts : List Receipt) (told : ToldText) → string_bytes told.text ≡ [] → told.refused ≡ 0
    → receipts ≡ [] → IsSoFar table origin opened parts s script.now receipts told (Some script)
so_far-script table origin opened parts s script receipts told text none got =
    let same : told_with told receipts ≡ untold =
    (λ i. record { text = text i; refused = none i; receipts = got i }) in
    record {
      whole = λ last. subst (λ (t : Told).
          AreTold (MayReply (IsMetBy table origin opened parts) s) (lines_of script.now) t last)
          same;
      counted = omega (arith, none);
    }

pub so_far-begun : (table : TableId) (origin : Origin) (opened : List Mark) (parts : ℕ)
    (s : Setting) (script : Bor (List ℕ))
    (receipts : List Receipt) (told : ToldText) (rest : Option (Bor (List ℕ)))
    → string_bytes told.text ≡ [] → told.refused ≡ 0 → receipts ≡ [] → rest ≡ Some script
    → IsSoFar table origin opened parts s script.now receipts told rest
so_far-begun table origin opened parts s script receipts told rest text none got at =
    subst (λ (r : Option (Bor (List ℕ))).
    IsSoFar table origin opened parts s script.now receipts told r) (sym at)
    (so_far-script table origin opened parts s script receipts told text none got)

pub so_far-next : (table : TableId) (origin : Origin) (opened : List Mark) (parts : ℕ) (s : Setting)
    (script line : List ℕ)
    (old new : List Receipt) (before after : ToldText) (rest more : Option (Bor (List ℕ)))
    → IsSoFar table origin opened parts s script old before rest
    → lines_left rest ≡ line ∷ lines_left more → left_len more < left_len rest
    → after.refused ≤ before.refused + 1
    → IsReplied table origin opened parts s line (told_with before old) (told_with after new)
    → IsSoFar table origin opened parts s script new after more
so_far-next table origin opened parts s script line old new before after rest more h lines shorter
    few replied =
    let May = MayReply (IsMetBy table origin opened parts) s in
    record {
      whole = λ last told. h.whole last
          (subst (λ (ls : List (List ℕ)). AreTold May ls (told_with before old) last) (sym lines) (
            replied.0,
            replied.1,
            subst (λ (t : Told). AreTold May (lines_left more) t last) replied.2 told,
          ));
      counted = omega (arith, h.counted, shorter, few);
    }

pub so_far-done : (table : TableId) (origin : Origin) (opened : List Mark) (parts : ℕ) (s : Setting)
    (script : List ℕ)
    (receipts : List Receipt) (told : ToldText) (rest : Option (Bor (List ℕ)))
    → IsSoFar table origin opened parts s script receipts told rest → rest ≡ None
    → AreAnswered table origin opened parts s script receipts told
so_far-done table origin opened parts s script receipts told rest h none =
    h.whole (told_with told receipts)
    (subst (λ (r : Option (Bor (List ℕ))).
    AreTold (MayReply (IsMetBy table origin opened parts) s) (lines_left r)
    (told_with told receipts)
    (told_with told receipts)) (sym none) refl)

-- a telling with this text and so many refusals tells it so, too
pub so_told : (table : TableId) (origin : Origin) (opened : List Mark) (parts : ℕ) (s : Setting)
    (script : List ℕ) (receipts : List Receipt) (told last : ToldText)
    → string_bytes last.text ≡ string_bytes told.text → last.refused ≡ told.refused
    → AreAnswered table origin opened parts s script receipts told
    → AreAnswered table origin opened parts s script receipts last
so_told table origin opened parts s script receipts told last text refused answered =
    let same : told_with last receipts ≡ told_with told receipts =
    (λ i. record { text = text i; refused = refused i; receipts = receipts }) in
    subst (λ (t : Told).
    AreTold (MayReply (IsMetBy table origin opened parts) s) (lines_of script) untold t) (sym same)
    answered
