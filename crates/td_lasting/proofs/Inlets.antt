-- What is left of an input while its lines are told of, step by step.
use Rattle.std.proofs.Common.{◌≡◌, ◌≢◌, ◌⊎◌, ℕ, ◌<◌, Bool, true, false, List, [], ◌∷◌, ◌++◌}
use Rattle.std.proofs.Common.{append-nil, append_assoc, length, length-append, Option, Some, None}
use Rattle.std.proofs.Common.{refl, sym, ap, subst, ◌∙◌, inl, inr, arith, take}
use Rattle.std.specs.Io.KnownBytes.{Consumes, IsAtEnd}
use Rattle.std.proofs.lemmas.List.Elements.{All-append, All-nil, All-tail, recursion_from_All}
use Rattle.td_text.specs.Cut.{Without}
use Rattle.td_ledger.specs.Lines.{IsLine}
use Rattle.td_lasting.specs.declared.framing.Framed.{Framed}
use Rattle.td_lasting.specs.declared.framing.Framed.TheVariants.{Whole, Unended, TooLong, NotText}
use Rattle.td_lasting.specs.Framing.{Frames, line_limit}
use Rattle.td_lasting.specs.inner.Inlets.{FramesAs, InletView, IsDropped, IsLeft, LeftBy, StillLeft}
use Rattle.td_lasting.specs.inner.Served.{HasNoNewline}
use Rattle.td_lasting.specs.inner.Inlets.{StillWaits, TellsFirst, TellsLast, TellsLine, TellsNext}
use Rattle.td_lasting.specs.inner.Inlets.{TellsWhole, Waits}

both_lines : (a b : List ℕ) → IsLine a → IsLine b → IsLine (a ++ b)
both_lines a b one two = All-append (λ x. x ≢ 10) a b one two

-- ---- 1. a front is dropped

dropped : (long : Bool) (ahead remaining left : List ℕ) → IsLine ahead
    → line_limit < length ahead → LeftBy long ahead remaining left → LeftBy true [] remaining left
dropped false ahead remaining left line much is = (ahead, much, line, is)
dropped true ahead remaining left line much is = (
  is.0 ++ ahead,
  (let more = is.1 in omega (arith, length-append is.0 ahead)),
  both_lines is.0 ahead is.2 line,
  is.3 ∙ sym (append_assoc is.0 ahead remaining),
)

pub left_dropped : (old new : InletView) (remaining left : List ℕ) → IsLine old.ahead
    → IsDropped old new → IsLeft old remaining left → IsLeft new remaining left
left_dropped old new remaining left line (inl same) is =
    subst (λ (v : InletView). IsLeft v remaining left) (sym same) is
left_dropped old new remaining left line (inr d) is =
    subst (λ (b : Bool). LeftBy b new.ahead remaining left) (sym d.2)
    (subst (λ (a : List ℕ). LeftBy true a remaining left) (sym d.1)
    (dropped old.long old.ahead remaining left line d.0 is))

-- ---- 2. more is read

pub left_read : (long : Bool) (ahead remaining now piece left : List ℕ) → remaining ≡ piece ++ now
    → LeftBy long ahead remaining left → LeftBy long (ahead ++ piece) now left
left_read false ahead remaining now piece left read is =
    is ∙ ap (λ (l : List ℕ). ahead ++ l) read ∙ sym (append_assoc ahead piece now)
left_read true ahead remaining now piece left read is = (
  is.0,
  is.1,
  is.2,
  is.3 ∙ ap (λ (l : List ℕ). is.0 ++ (ahead ++ l)) read
      ∙ ap (λ (l : List ℕ). is.0 ++ l) (sym (append_assoc ahead piece now)),
)

-- ---- 3. a whole line is told of

pub told_whole : (long : Bool) (ahead line behind remaining left : List ℕ) (framed : Framed)
    → ahead ≡ line ++ 10 ∷ behind → IsLine line → FramesAs long line framed
    → LeftBy long ahead remaining left → TellsLine left framed (behind ++ remaining)
told_whole false ahead line behind remaining left framed parts is_line frames is =
    record {
      line = line;
      parts = is ∙ ap (λ (l : List ℕ). l ++ remaining) parts
          ∙ append_assoc line (10 ∷ behind) remaining;
      is_line = is_line;
      frames = frames;
    }
told_whole true ahead line behind remaining left framed parts is_line frames is =
    let rest = 10 ∷ (behind ++ remaining) in
    record {
      line = is.0 ++ line;
      parts = is.3
          ∙ ap (λ (l : List ℕ). is.0 ++ (l ++ remaining)) parts
          ∙ ap (λ (l : List ℕ). is.0 ++ l) (append_assoc line (10 ∷ behind) remaining)
          ∙ sym (append_assoc is.0 line rest);
      is_line = both_lines is.0 line is.2 is_line;
      frames = subst (Frames (is.0 ++ line)) (sym frames)
          (let more = is.1 in omega (arith, length-append is.0 line));
    }

-- no newline stands in it
pub told_line : (long : Bool) (line : List ℕ) (framed : Framed) → IsLine line
    → FramesAs long line framed → HasNoNewline framed
told_line true line framed is_line frames = subst HasNoNewline (sym frames) tt
told_line false line (Whole text) is_line frames =
    subst (Without 10) (sym frames.2) (recursion_from_All (λ b. b ≢ 10) line is_line)
told_line false line Unended is_line frames = tt
told_line false line TooLong is_line frames = tt
told_line false line NotText is_line frames = tt

-- ---- 4. the input ends

-- a rest without a newline
pub record IsRest (left : List ℕ) : Type 0 where
  pub some : left ≢ []
  pub is_line : IsLine left

not_nil : (a b : List ℕ) → 0 < length a → a ++ b ≢ []
not_nil [] b some none = absurd (omega arith)
not_nil (x ∷ a) b some none = let bad = none in cc

rest_by : (long : Bool) (ahead left : List ℕ) → IsLine ahead → (ahead ≢ []) ⊎ (long ≡ true)
    → LeftBy long ahead [] left → IsRest left
rest_by false ahead left line (inl some) is =
    subst IsRest (sym (is ∙ append-nil ahead)) (record { some = some; is_line = line })
rest_by false ahead left line (inr bad) is = absurd cc
rest_by true ahead left line either is =
    let same = is.3 ∙ ap (λ (l : List ℕ). is.0 ++ l) (append-nil ahead) in
    subst IsRest (sym same)
    (record {
      some = not_nil is.0 ahead (let more = is.1 in omega arith);
      is_line = both_lines is.0 ahead is.2 line;
    })

pub told_rest : (v : InletView) (left : List ℕ) → IsLine v.ahead
    → (v.ahead ≢ []) ⊎ (v.long ≡ true) → IsLeft v [] left → IsRest left
told_rest v left line either is = rest_by v.long v.ahead left line either is

-- ---- 5. where clauses know what the reader has

pub still_dropped : (old v new : InletView) (before now : Option (List ℕ)) → IsLine v.ahead
    → IsDropped v new → StillLeft old v before now → StillLeft old new before now
still_dropped old v new None now line drops still = tt
still_dropped old v new (Some before) None line drops still = still
still_dropped old v new (Some before) (Some now) line drops still =
    λ left is. left_dropped v new now left line drops (still left is)

-- what a call that reads a piece leaves
read_on : (v new : InletView) (now later piece left : List ℕ) → new.ahead ≡ v.ahead ++ piece
    → new.long ≡ v.long → now ≡ piece ++ later → IsLeft v now left → IsLeft new later left
read_on v new now later piece left ahead long read is =
    subst (λ (b : Bool). LeftBy b new.ahead later left) (sym long)
    (subst (λ (a : List ℕ). LeftBy v.long a later left) (sym ahead)
    (left_read v.long v.ahead now later piece left read is))

pub still_read : (old v new : InletView) (before now later : Option (List ℕ)) (piece : List ℕ)
    → new.ahead ≡ v.ahead ++ piece → new.long ≡ v.long → Consumes now later piece
    → StillLeft old v before now → StillLeft old new before later
still_read old v new None now later piece ahead long read still = tt
still_read old v new (Some before) None later piece ahead long read still = absurd still
still_read old v new (Some before) (Some now) None piece ahead long read still = absurd read
still_read old v new (Some before) (Some now) (Some later) piece ahead long read still =
    λ left is. read_on v new now later piece left ahead long read (still left is)

-- a line is told of
pub told_next : (old v new : InletView) (before now : Option (List ℕ)) (framed : Framed)
    → TellsWhole v new (Some framed) → StillLeft old v before now
    → TellsNext old new before now (Some framed)
told_next old v new None now framed tells still = tt
told_next old v new (Some before) None framed tells still = still
told_next old v new (Some before) (Some now) framed tells still = λ left is. (
  new.ahead ++ now,
  subst (λ (b : Bool). LeftBy b new.ahead now (new.ahead ++ now)) (sym tells.3) refl,
  inl (told_whole v.long v.ahead tells.0 new.ahead now left framed tells.1 tells.2 tells.4
      (still left is)),
)

-- nothing is left
nothing_left : (v : InletView) (left : List ℕ) → v.ahead ≡ [] → v.long ≡ false
    → IsLeft v [] left → left ≡ []
nothing_left v left none short is =
    let by : LeftBy false v.ahead [] left =
    subst (λ (b : Bool). LeftBy b v.ahead [] left) short is in
    by ∙ ap (λ (a : List ℕ). a ++ []) none

all_told : (v : InletView) → v.ahead ≡ [] → v.long ≡ false → IsLeft v [] []
all_told v none short =
    subst (λ (b : Bool). LeftBy b v.ahead [] []) (sym short)
    (sym (ap (λ (a : List ℕ). a ++ []) none))

end_told : (v new : InletView) (told : Option Framed) (left : List ℕ) → IsLine v.ahead
    → TellsLast v new told → IsLeft v [] left
    → (after : List ℕ) × IsLeft new [] after × TellsFirst left told after
end_told v new None left line last is = (
  [],
  subst (λ (x : InletView). IsLeft x [] []) (sym last.2) (all_told v last.0 last.1),
  (nothing_left v left last.0 last.1 is, refl),
)
end_told v new (Some framed) left line last is =
    let rest = told_rest v left line last.0 is in (
      [],
      all_told new last.2 last.3,
      inr (record { some = rest.some; is_line = rest.is_line; unended = last.1; none = refl }),
    )

-- the input ends
pub told_end : (old v new : InletView) (before now : Option (List ℕ)) (told : Option Framed)
    → IsLine v.ahead → TellsLast v new told → IsAtEnd now → StillLeft old v before now
    → TellsNext old new before now told
told_end old v new None now told line last end still = tt
told_end old v new (Some before) None told line last end still = still
told_end old v new (Some before) (Some now) told line last end still = λ left is.
    subst (λ (l : List ℕ).
    (after : List ℕ) × IsLeft new l after × TellsFirst left told after) (sym end)
    (end_told v new told left line last
    (subst (λ (l : List ℕ). IsLeft v l left) end (still left is)))

-- ---- 6. a turn of the loop

-- what is told of has no newline
pub line_told : (v new : InletView) (framed : Framed) → TellsWhole v new (Some framed)
    → HasNoNewline framed
line_told v new framed tells = told_line v.long tells.0 framed tells.2 tells.4

-- what is dropped is dropped of what was there before the search
pub drops_on : (v was new : InletView) → was ≡ v → IsDropped was new → IsDropped v new
drops_on v was new same drops = subst (λ (x : InletView). IsDropped x new) same drops

-- what is ahead is no whole line still
pub dropped_line : (v was new : InletView) → TellsWhole v was None → IsDropped was new
    → IsLine new.ahead
dropped_line v was new none drops = by (drops_on v was new none.0 drops)
  where
    by : IsDropped v new → IsLine new.ahead
    by (inl same) = subst (λ (x : InletView). IsLine x.ahead) (sym same) none.1
    by (inr d) = subst IsLine (sym d.1) (All-nil (λ b. b ≢ 10))

-- a read that gives nothing
pub nothing_read : (count : ℕ) (buffer : List ℕ) (now later : Option (List ℕ)) → count ≡ 0
    → Consumes now later (take count buffer) → Consumes now later []
nothing_read count buffer now later none read =
    subst (λ (n : ℕ). Consumes now later (take n buffer)) none read

pub still_kept : (old v : InletView) (before now later : Option (List ℕ)) → Consumes now later []
    → StillLeft old v before now → StillLeft old v before later
still_kept old v None now later read still = tt
still_kept old v (Some before) None later read still = absurd still
still_kept old v (Some before) (Some now) None read still = absurd read
still_kept old v (Some before) (Some now) (Some later) read still = λ left is.
    subst (λ (l : List ℕ). IsLeft v l left) read (still left is)

-- ---- 7. while no line is told of

pub left_first : (v : InletView) (now : Option (List ℕ)) → StillLeft v v now now
left_first v None = tt
left_first v (Some now) = λ left is. is

pub waits_first : (v : InletView) (now : Option (List ℕ)) → StillWaits v v now now
waits_first v None = tt
waits_first v (Some now) =
    ([], refl, λ line. subst IsLine (sym (append-nil v.ahead)) line)

pub waits_now : (old v : InletView) (before now : Option (List ℕ)) → IsLine v.ahead
    → StillWaits old v before now → Waits old before now
waits_now old v None now line still = tt
waits_now old v (Some before) None line still = absurd still
waits_now old v (Some before) (Some now) line still = (still.0, still.1, still.2 line)

line_behind : (ahead piece : List ℕ) → IsLine (ahead ++ piece) → IsLine piece
line_behind [] piece line = line
line_behind (b ∷ ahead) piece line =
    line_behind ahead piece (All-tail (λ x. x ≢ 10) b (ahead ++ piece) line)

-- a piece more is read
more_waits : (old v new : InletView) (before now later ahead piece : List ℕ) → IsLine v.ahead
    → new.ahead ≡ ahead ++ piece → now ≡ piece ++ later
    → StillWaits old v (Some before) (Some now) → StillWaits old new (Some before) (Some later)
more_waits old v new before now later ahead piece line parts read still = (
  still.0 ++ piece,
  still.1 ∙ ap (λ (l : List ℕ). still.0 ++ l) read ∙ sym (append_assoc still.0 piece later),
  λ whole. subst IsLine (append_assoc old.ahead still.0 piece)
      (both_lines (old.ahead ++ still.0) piece (still.2 line)
      (line_behind ahead piece (subst IsLine parts whole))),
)

pub still_waits : (old v new : InletView) (before now later : Option (List ℕ))
    (ahead piece : List ℕ) → IsLine v.ahead → new.ahead ≡ ahead ++ piece
    → Consumes now later piece → StillWaits old v before now → StillWaits old new before later
still_waits old v new None now later ahead piece line parts read still = tt
still_waits old v new (Some before) None later ahead piece line parts read still = absurd still
still_waits old v new (Some before) (Some now) None ahead piece line parts read still =
    absurd read
still_waits old v new (Some before) (Some now) (Some later) ahead piece line parts read still =
    more_waits old v new before now later ahead piece line parts read still
