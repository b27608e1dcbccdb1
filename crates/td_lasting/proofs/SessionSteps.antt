-- What a session has come to after some lines of its input, and at its end.
use Rattle.std.proofs.Common.{◌≡◌, ◌+◌, ℕ, Bool, true, false, if◌then◌else◌, Global, List, [], ◌∷◌}
use Rattle.std.proofs.Common.{◌++◌, append_assoc, append-nil, Option, Some, None, Result, Ok, Err}
use Rattle.std.proofs.Common.{IsTrue, refl, sym, ap, subst, ◌∙◌, ◌⊎◌, inl, inr, ◌≢◌, arith, length}
use Rattle.std.proofs.Common.{length-append}
use Rattle.std.specs.Io.KnownBytes.{Appends}
use Rattle.std.specs.List.{All}
use Rattle.std.proofs.KnownBytes.{Appends-nil, Appends-trans}
use Rattle.std.proofs.lemmas.List.Elements.{All-append, All-cons, All-nil}
use Rattle.td_bytes.specs.Pieces.{AppendsPrefix}
use Rattle.td_bytes.proofs.Prefixes.{AppendsPrefix-second}
use Rattle.td_core.specs.History.{History}
use Rattle.td_ledger.specs.Calls.{Known, Passes}
use Rattle.td_ledger.specs.Disk.{Finds}
use Rattle.td_ledger.specs.Lines.{IsLine, text_of, whole_lines}
use Rattle.td_ledger.proofs.WholeLines.{text_of-append, whole_lines-line, whole_lines-text_of}
use Rattle.td_ledger.proofs.Finding.{passes_then, passes_weaker}
use Rattle.td_script.specs.Replies.{Setting}
use Rattle.td_script.specs.Script.{Told, added}
use Rattle.td_lasting.specs.declared.event.Event.{Event}
use Rattle.td_lasting.specs.declared.framing.FrameFault.{FrameFault}
use Rattle.td_lasting.specs.declared.framing.FrameFault.TheVariants as frame
use Rattle.td_lasting.specs.declared.framing.Framed.{Framed}
use Rattle.td_lasting.specs.declared.serving.ServeEnd.{ServeEnd}
use Rattle.td_lasting.specs.declared.serving.ServeFault.{ServeFault}
use Rattle.td_lasting.specs.declared.serving.ServeFault.TheVariants.{CannotRead, CannotKeep}
use Rattle.td_lasting.specs.declared.serving.ServeFault.TheVariants.{CannotTell, NoMemory}
use Rattle.td_lasting.specs.DeskView.{DeskView, IsAtRest, IsTooLong, TellsUpTo}
use Rattle.td_lasting.specs.Faults.{of_frame}
use Rattle.td_lasting.specs.Framing.{FrameEach, Frames, FramesAll}
use Rattle.td_lasting.specs.Sessions.{AreAnswered, EndsBy, IsServed, IsTurn, IsTurnAt, MayNotBeKept}
use Rattle.td_lasting.specs.Sessions.{framed_answer, framed_events, session, session_events}
use Rattle.td_lasting.specs.inner.Inlets.{InletView, IsLeft, LeftBy, TellsFirst, TellsNext, Waits}
use Rattle.td_lasting.specs.inner.Served.{IsLineLost, IsServedLine}
use Rattle.td_lasting.proofs.Framings.{first_told, input_told, nothing_framed}
use Rattle.td_lasting.proofs.Inlets.{left_read}
use Rattle.td_lasting.proofs.Saves.{stays_found}
use Rattle.td_lasting.proofs.SessionLaws.{events_append, events_more, same_events, session_more}
use Rattle.td_lasting.proofs.SessionLaws.{session_tells, tells_more, tells_then}

-- ---- 1. after some lines

-- these whole lines were taken off the input
pub record HasTaken (input left : List ℕ) (lines : List Framed) : Type 0 where
  pub whole : List (List ℕ)
  pub are : All IsLine whole
  pub each : FrameEach whole lines
  pub parts : input ≡ text_of whole ++ left

-- all of the input was taken, or whole lines were
abbrev AreTaken : List ℕ → List ℕ → List Framed → Type 0
AreTaken input left lines = (left ≡ []) ⊎ HasTaken input left lines

-- Some first lines of the input are answered, and this many of them were refused. Whatever is left
-- of the input can be told of behind them.
pub record HasServed (s : Setting) (input remaining : List ℕ) (inlet : InletView)
    (old new : DeskView) (before now : Option (List ℕ)) (refused : ℕ) : Type 0 where
  pub lines : List Framed
  pub left : List ℕ
  pub is_left : IsLeft inlet remaining left
  pub goes_on : (rest : List Framed) → FramesAll left rest → FramesAll input (lines ++ rest)
  pub taken : AreTaken input left lines
  pub answered : AreAnswered s old new before now lines
  pub refusals : refused ≡ (session s old.history lines).refused
  pub steady : new.device.can_fail ≡ old.device.can_fail
  pub any_moment : IsTrue old.device.honest → (header : List ℕ)
      → Passes (Finds (TellsUpTo header old.history (session_events s old.history lines)))
      old.device new.device

-- so it is where clauses know what the reader has
abbrev pub Serves : Setting → Option (List ℕ) → Option (List ℕ) → InletView → DeskView → DeskView
    → Option (List ℕ) → Option (List ℕ) → ℕ → Type 0
Serves s None remaining inlet old new before now refused = Unit {0}
Serves s (Some input) None inlet old new before now refused = ⊥
Serves s (Some input) (Some remaining) inlet old new before now refused =
    HasServed s input remaining inlet old new before now refused

-- no line is answered yet
pub none_served : (s : Setting) (input : Option (List ℕ)) (inlet : InletView) (v : DeskView)
    (before : Option (List ℕ)) → inlet.ahead ≡ [] → inlet.long ≡ false → IsAtRest v
    → v.stopped ≡ false → Serves s input input inlet v v before before 0
none_served s None inlet v before none short rest on = tt
none_served s (Some input) inlet v before none short rest on =
    record {
      lines = [];
      left = input;
      is_left = subst (λ (b : Bool). LeftBy b inlet.ahead input input) (sym short)
          (subst (λ (l : List ℕ). LeftBy false l input input) (sym none) refl);
      goes_on = λ more framed. framed;
      taken = inr (record { whole = []; are = All-nil IsLine; each = tt; parts = refl });
      answered = record { written = Appends-nil before; history = refl };
      refusals = refl;
      steady = refl;
      any_moment = λ honest header.
          stays_found header v.history [] v.device v.stopped rest on honest;
    }

-- ---- 2. a line more

told_more : (s : Setting) (h now : History) (lines : List Framed) (last : Framed)
    → now ≡ (session s h lines).after
    → session s h (lines ++ last ∷ []) ≡ added (session s h lines) (framed_answer s now last)
told_more s h now lines last is =
    session_more s h lines last
    ∙ ap (λ (x : History). added (session s h lines) (framed_answer s x last)) (sym is)

-- the file tells what the line does, behind what those before it did
moments_more : (s : Setting) (h now : History) (lines : List Framed) (last : Framed)
    (header : List ℕ) (a b c : Known) → now ≡ (session s h lines).after
    → Passes (Finds (TellsUpTo header h (session_events s h lines))) a b
    → Passes (Finds (TellsUpTo header now (framed_events s now last))) b c
    → Passes (Finds (TellsUpTo header h (session_events s h (lines ++ last ∷ [])))) a c
moments_more s h now lines last header a b c is first second =
    let events = session_events s h lines in
    let more = framed_events s now last in
    let same : events ++ more ≡ session_events s h (lines ++ last ∷ []) =
    ap (λ (x : History). events ++ framed_events s x last) is ∙ sym (events_more s h lines last) in
    let both = Finds (TellsUpTo header h (events ++ more)) in
    subst (λ (l : List Event). Passes (Finds (TellsUpTo header h l)) a c) same
    (passes_then both (Finds (TellsUpTo header now more)) a b c
    (passes_weaker (Finds (TellsUpTo header h events)) both a b first
    (λ disk finds file found. tells_more header h events more file (finds file found)))
    second
    (λ disk finds file found.
    tells_then header h now events more file (is ∙ sym (session_tells s h lines))
    (finds file found)))

-- what is answered to one line more is behind what was answered
written_more : (s : Setting) (h now : History) (lines : List Framed) (last : Framed)
    (before told after : Option (List ℕ)) → now ≡ (session s h lines).after
    → Appends before told (session s h lines).text
    → Appends told after (framed_answer s now last).text
    → Appends before after (session s h (lines ++ last ∷ [])).text
written_more s h now lines last before told after is first second =
    subst (λ (t : Told). Appends before after t.text) (sym (told_more s h now lines last is))
    (Appends-trans before told after (session s h lines).text (framed_answer s now last).text first
    second)

each_more : (whole : List (List ℕ)) (lines : List Framed) (line : List ℕ) (framed : Framed)
    → FrameEach whole lines → Frames line framed
    → FrameEach (whole ++ line ∷ []) (lines ++ framed ∷ [])
each_more [] [] line framed each frames = (frames, tt)
each_more [] (first ∷ lines) line framed each frames = absurd each
each_more (first ∷ whole) [] line framed each frames = absurd each
each_more (first ∷ whole) (told ∷ lines) line framed each frames =
    (each.0, each_more whole lines line framed each.1 frames)

taken_more : (input left after : List ℕ) (lines : List Framed) (framed : Framed)
    → AreTaken input left lines → TellsFirst left (Some framed) after
    → AreTaken input after (lines ++ framed ∷ [])
taken_more input left after lines framed taken (inr t) = inl t.none
taken_more input left after lines framed (inl none) (inl t) =
    absurd (omega (arith, ap length (sym none ∙ t.parts), length-append t.line (10 ∷ after)))
taken_more input left after lines framed (inr taken) (inl t) =
    inr (record {
      whole = taken.whole ++ t.line ∷ [];
      are = All-append IsLine taken.whole (t.line ∷ []) taken.are
          (All-cons IsLine t.line [] t.is_line (All-nil IsLine));
      each = each_more taken.whole lines t.line framed taken.each t.frames;
      parts = taken.parts
          ∙ ap (λ (l : List ℕ). text_of taken.whole ++ l)
          (t.parts ∙ sym (append_assoc t.line (10 ∷ []) after))
          ∙ sym (append_assoc (text_of taken.whole) (t.line ++ 10 ∷ []) after)
          ∙ ap (λ (l : List ℕ). l ++ after) (sym (text_of-append taken.whole (t.line ∷ [])));
    })

line_more : (s : Setting) (input remaining later : List ℕ) (inlet next : InletView)
    (old v new : DeskView) (before told after : Option (List ℕ)) (framed : Framed)
    (refused more : ℕ) (is_refused : Bool)
    → TellsNext inlet next (Some remaining) (Some later) (Some framed)
    → IsServedLine s framed v new told after (Ok is_refused)
    → more ≡ refused + (if is_refused then 1 else 0) → v.device.honest ≡ old.device.honest
    → HasServed s input remaining inlet old v before told refused
    → HasServed s input later next old new before after more
line_more s input remaining later inlet next old v new before told after framed refused more
    is_refused tells line counted honesty so_far =
    let h = old.history in
    let lines = so_far.lines in
    let t = tells so_far.left so_far.is_left in
    let is = so_far.answered.history in
    let all = told_more s h v.history lines framed is in
    record {
      lines = lines ++ framed ∷ [];
      left = t.0;
      is_left = t.1;
      goes_on = λ rest framing.
          subst (FramesAll input) (sym (append_assoc lines (framed ∷ []) rest))
          (so_far.goes_on (framed ∷ rest)
          (first_told so_far.left t.0 framed rest t.2 framing));
      taken = taken_more input so_far.left t.0 lines framed so_far.taken t.2;
      answered = record {
        written = written_more s h v.history lines framed before told after is
            so_far.answered.written line.told.written;
        history = line.told.history ∙ sym (ap (λ (x : Told). x.after) all);
      };
      refusals = counted
          ∙ ap (λ (n : ℕ). n + (if is_refused then 1 else 0)) so_far.refusals
          ∙ ap (λ (b : Bool). (session s h lines).refused + (if b then 1 else 0))
          line.told.refusal
          ∙ sym (ap (λ (x : Told). x.refused) all);
      steady = line.told.steady ∙ so_far.steady;
      any_moment = λ honest header.
          moments_more s h v.history lines framed header old.device v.device new.device is
          (so_far.any_moment honest header)
          (line.any_moment (subst IsTrue (sym honesty) honest) header);
    }

pub line_served : (s : Setting) (input remaining later : Option (List ℕ)) (inlet next : InletView)
    (old v new : DeskView) (before told after : Option (List ℕ)) (framed : Framed)
    (refused more : ℕ) (is_refused : Bool) → TellsNext inlet next remaining later (Some framed)
    → IsServedLine s framed v new told after (Ok is_refused)
    → more ≡ refused + (if is_refused then 1 else 0) → v.device.honest ≡ old.device.honest
    → Serves s input remaining inlet old v before told refused
    → Serves s input later next old new before after more
line_served s None remaining later inlet next old v new before told after framed refused more
    is_refused tells line counted honesty so_far = tt
line_served s (Some input) None later inlet next old v new before told after framed refused more
    is_refused tells line counted honesty so_far = absurd so_far
line_served s (Some input) (Some remaining) None inlet next old v new before told after framed
    refused more is_refused tells line counted honesty so_far = absurd tells
line_served s (Some input) (Some remaining) (Some later) inlet next old v new before told after
    framed refused more is_refused tells line counted honesty so_far =
    line_more s input remaining later inlet next old v new before told after framed refused more
    is_refused tells line counted honesty so_far

-- ---- 3. when more may be read

-- what was read and isn't taken has no newline
pub record IsBehind (left now : List ℕ) : Type 0 where
  pub line : List ℕ
  pub is_line : IsLine line
  pub parts : left ≡ line ++ now

behind : (long : Bool) (ahead now left : List ℕ) → LeftBy long ahead now left → IsLine ahead
    → IsBehind left now
behind false ahead now left is line = record { line = ahead; is_line = line; parts = is }
behind true ahead now left is line =
    record {
      line = is.0 ++ ahead;
      is_line = All-append (λ b. b ≢ 10) is.0 ahead is.2 line;
      parts = is.3 ∙ sym (append_assoc is.0 ahead now);
    }

none_behind : (line now : List ℕ) → [] ≡ line ++ now → now ≡ []
none_behind [] now none = sym none
none_behind (b ∷ line) now none = let bad = none in cc

turn_known : (s : Setting) (input remaining now : List ℕ) (inlet : InletView)
    (old v : DeskView) (before told : Option (List ℕ)) (refused : ℕ)
    → HasServed s input remaining inlet old v before told refused
    → Waits inlet (Some remaining) (Some now) → IsTurnAt s old.history input now before told
turn_known s input remaining now inlet old v before told refused so_far waits = by so_far.taken
  where
    back : IsBehind so_far.left now
    back =
        behind inlet.long (inlet.ahead ++ waits.0) now so_far.left
        (left_read inlet.long inlet.ahead remaining now waits.0 so_far.left waits.1 so_far.is_left)
        waits.2

    by : AreTaken input so_far.left so_far.lines → IsTurnAt s old.history input now before told
    by (inl none) =
        let nothing = none_behind back.line now (sym none ∙ back.parts) in
        record {
          read = input;
          lines = so_far.lines;
          parts = sym (append-nil input) ∙ ap (λ (l : List ℕ). input ++ l) (sym nothing);
          are = inr (
            nothing,
            subst (FramesAll input) (append-nil so_far.lines)
                (so_far.goes_on []
                (subst (λ (l : List ℕ). FramesAll l []) (sym none) nothing_framed)),
          );
          written = so_far.answered.written;
        }
    by (inr taken) =
        let lines : whole_lines (text_of taken.whole ++ back.line) ≡ taken.whole =
        whole_lines-text_of taken.whole back.line taken.are
        ∙ ap (λ (l : List (List ℕ)). taken.whole ++ l) (whole_lines-line back.line back.is_line)
        ∙ append-nil taken.whole in
        record {
          read = text_of taken.whole ++ back.line;
          lines = so_far.lines;
          parts = taken.parts ∙ ap (λ (l : List ℕ). text_of taken.whole ++ l) back.parts
              ∙ sym (append_assoc (text_of taken.whole) back.line now);
          are = inl (subst (λ (l : List (List ℕ)). FrameEach l so_far.lines) (sym lines)
              taken.each);
          written = so_far.answered.written;
        }

-- while no further line is told of, those that were read are answered
pub turn_at : (s : Setting) (input remaining now : Option (List ℕ)) (inlet : InletView)
    (old v : DeskView) (before told : Option (List ℕ)) (refused : ℕ)
    → Serves s input remaining inlet old v before told refused → Waits inlet remaining now
    → IsTurn s old.history input now before told
turn_at s None remaining now inlet old v before told refused so_far waits = tt
turn_at s (Some input) None now inlet old v before told refused so_far waits = absurd so_far
turn_at s (Some input) (Some remaining) None inlet old v before told refused so_far waits =
    absurd waits
turn_at s (Some input) (Some remaining) (Some now) inlet old v before told refused so_far waits =
    turn_known s input remaining now inlet old v before told refused so_far waits

-- ---- 4. at an end

-- what the file tells of some first lines it tells of all, however these are told of
moments_of_all : (s : Setting) (h : History) (input : List ℕ) (lines rest all : List Framed)
    (header : List ℕ) (a b : Known) → FramesAll input (lines ++ rest) → FramesAll input all
    → Passes (Finds (TellsUpTo header h (session_events s h lines))) a b
    → Passes (Finds (TellsUpTo header h (session_events s h all))) a b
moments_of_all s h input lines rest all header a b framing other passes =
    let events = session_events s h lines in
    let more = session_events s (session s h lines).after rest in
    let same : events ++ more ≡ session_events s h all =
    sym (events_append s h lines rest) ∙ same_events s h input (lines ++ rest) all framing other in
    subst (λ (l : List Event). Passes (Finds (TellsUpTo header h l)) a b) same
    (passes_weaker (Finds (TellsUpTo header h events)) (Finds (TellsUpTo header h (events ++ more)))
    a b passes
    (λ disk finds file found. tells_more header h events more file (finds file found)))

-- a session that ends behind some first lines
ended_by : (s : Setting) (input : List ℕ) (lines rest : List Framed) (old new : DeskView)
    (before now : Option (List ℕ)) (result : Result ServeEnd ServeFault)
    → FramesAll input (lines ++ rest) → (IsTrue old.device.honest → (header : List ℕ)
    → Passes (Finds (TellsUpTo header old.history (session_events s old.history lines)))
    old.device new.device)
    → EndsBy s (lines ++ rest) old new before now result
    → IsServed s (Some input) before now old new result
ended_by s input lines rest old new before now result framing moments ends =
    record {
      ends = (lines ++ rest, framing, ends);
      any_moment = λ all other honest header.
          moments_of_all s old.history input lines rest all header old.device new.device framing
          other (moments honest header);
    }

-- nothing is known of what was read
pub unknown_served : (s : Setting) (before now : Option (List ℕ)) (old new : DeskView)
    (result : Result ServeEnd ServeFault) → IsServed s None before now old new result
unknown_served s before now old new result = record { ends = tt; any_moment = tt }

-- all lines are answered
pub all_served : (s : Setting) (input remaining later : Option (List ℕ)) (inlet next : InletView)
    (old new : DeskView) (before now : Option (List ℕ)) (end : ServeEnd)
    → TellsNext inlet next remaining later None
    → Serves s input remaining inlet old new before now end.refusals
    → IsServed s input before now old new (Ok end)
all_served s None remaining later inlet next old new before now end tells so_far =
    unknown_served s before now old new (Ok end)
all_served s (Some input) None later inlet next old new before now end tells so_far =
    absurd so_far
all_served s (Some input) (Some remaining) None inlet next old new before now end tells so_far =
    absurd tells
all_served s (Some input) (Some remaining) (Some later) inlet next old new before now end tells
    so_far =
    let lines = so_far.lines in
    let none = (tells so_far.left so_far.is_left).2.0 in
    let framing : FramesAll input (lines ++ []) =
    so_far.goes_on [] (subst (λ (l : List ℕ). FramesAll l []) (sym none) nothing_framed) in
    record {
      ends = (
        lines,
        subst (FramesAll input) (append-nil lines) framing,
        (so_far.answered, so_far.refusals),
      );
      any_moment = λ all other honest header.
          moments_of_all s old.history input lines [] all header old.device new.device framing
          other (so_far.any_moment honest header);
    }

-- no further line can be read
stopped_by : (s : Setting) (lines rest : List Framed) (old new : DeskView)
    (before now : Option (List ℕ)) (fault : FrameFault) → AreAnswered s old new before now lines
    → EndsBy s (lines ++ rest) old new before now (Err (of_frame fault))
stopped_by s lines rest old new before now frame.CannotRead answered =
    (lines, (rest, refl), answered)
stopped_by s lines rest old new before now frame.NoMemory answered =
    (lines, (rest, refl), answered)

pub none_read : Global → (s : Setting) (input remaining : Option (List ℕ)) (inlet : InletView)
    (old new : DeskView) (before now : Option (List ℕ)) (refused : ℕ) (fault : FrameFault)
    → Serves s input remaining inlet old new before now refused
    → IsServed s input before now old new (Err (of_frame fault))
none_read heap s None remaining inlet old new before now refused fault so_far =
    unknown_served s before now old new (Err (of_frame fault))
none_read heap s (Some input) None inlet old new before now refused fault so_far = absurd so_far
none_read heap s (Some input) (Some remaining) inlet old new before now refused fault so_far =
    let rest = input_told heap so_far.left in
    ended_by s input so_far.lines rest.0 old new before now (Err (of_frame fault))
    (so_far.goes_on rest.0 rest.1) so_far.any_moment
    (stopped_by s so_far.lines rest.0 old new before now fault so_far.answered)

-- ---- 5. at a line that isn't answered

-- it may not have been kept, wherever the file stands by then
not_kept : (s : Setting) (lines : List Framed) (framed : Framed) (old v : DeskView)
    (before now : Option (List ℕ)) → v.device.can_fail ≡ old.device.can_fail
    → AreAnswered s old v before now lines → (v.device.can_fail ≡ true)
    ⊎ IsTooLong v.device v.history (framed_events s v.history framed)
    → MayNotBeKept s old before now lines framed
not_kept s lines framed old v before now steady answered (inl fails) = inl (sym steady ∙ fails)
not_kept s lines framed old v before now steady answered (inr long) = inr (v, answered, long)

lost_by : (s : Setting) (lines rest : List Framed) (framed : Framed) (old v new : DeskView)
    (before told after : Option (List ℕ)) (fault : ServeFault)
    → v.device.honest ≡ old.device.honest → v.device.can_fail ≡ old.device.can_fail
    → AreAnswered s old v before told lines → IsLineLost s framed v new told after fault
    → EndsBy s ((lines ++ framed ∷ []) ++ rest) old new before after (Err fault)
lost_by s lines rest framed old v new before told after CannotRead honesty steady answered lost =
    absurd lost
lost_by s lines rest framed old v new before told after CannotKeep honesty steady answered lost =
    let written : Appends before after (session s old.history lines).text =
    subst (λ (o : Option (List ℕ)). Appends before o (session s old.history lines).text)
    (sym lost.0) answered.written in (
      lines,
      (
        framed,
        (rest, refl),
        record {
          written = written;
          stopped = lost.1;
          due = λ honest. not_kept s lines framed old v before after steady
              (record { written = written; history = answered.history })
              (lost.2 (subst IsTrue (sym honesty) honest));
        },
      ),
    )
lost_by s lines rest framed old v new before told after CannotTell honesty steady answered lost =
    let all = told_more s old.history v.history lines framed answered.history in (
      lines,
      (
        framed,
        (rest, refl),
        record {
          written = subst (λ (t : Told). AppendsPrefix before after t.text) (sym all)
              (AppendsPrefix-second before told after (session s old.history lines).text
              (framed_answer s v.history framed).text answered.written lost.0);
          history = lost.1 ∙ sym (ap (λ (t : Told). t.after) all);
        },
      ),
    )
lost_by s lines rest framed old v new before told after NoMemory honesty steady answered lost = (
  lines,
  (framed ∷ rest, append_assoc lines (framed ∷ []) rest),
  record {
    written = subst (λ (o : Option (List ℕ)).
        Appends before o (session s old.history lines).text) (sym lost.0) answered.written;
    history = lost.1 ∙ answered.history;
  },
)

line_not_served : Global → (s : Setting) (input remaining later : List ℕ) (inlet next : InletView)
    (old v new : DeskView) (before told after : Option (List ℕ)) (framed : Framed) (refused : ℕ)
    (fault : ServeFault) → TellsNext inlet next (Some remaining) (Some later) (Some framed)
    → IsServedLine s framed v new told after (Err fault) → v.device.honest ≡ old.device.honest
    → HasServed s input remaining inlet old v before told refused
    → IsServed s (Some input) before after old new (Err fault)
line_not_served heap s input remaining later inlet next old v new before told after framed refused
    fault tells line honesty so_far =
    let h = old.history in
    let lines = so_far.lines in
    let t = tells so_far.left so_far.is_left in
    let rest = input_told heap t.0 in
    ended_by s input (lines ++ framed ∷ []) rest.0 old new before after (Err fault)
    (subst (FramesAll input) (sym (append_assoc lines (framed ∷ []) rest.0))
    (so_far.goes_on (framed ∷ rest.0)
    (first_told so_far.left t.0 framed rest.0 t.2 rest.1)))
    (λ honest header.
    moments_more s h v.history lines framed header old.device v.device new.device
    so_far.answered.history (so_far.any_moment honest header)
    (line.any_moment (subst IsTrue (sym honesty) honest) header))
    (lost_by s lines rest.0 framed old v new before told after fault honesty so_far.steady
    so_far.answered line.lost)

pub line_lost : Global → (s : Setting) (input remaining later : Option (List ℕ))
    (inlet next : InletView) (old v new : DeskView) (before told after : Option (List ℕ))
    (framed : Framed) (refused : ℕ) (fault : ServeFault)
    → TellsNext inlet next remaining later (Some framed)
    → IsServedLine s framed v new told after (Err fault) → v.device.honest ≡ old.device.honest
    → Serves s input remaining inlet old v before told refused
    → IsServed s input before after old new (Err fault)
line_lost heap s None remaining later inlet next old v new before told after framed refused fault
    tells line honesty so_far = unknown_served s before after old new (Err fault)
line_lost heap s (Some input) None later inlet next old v new before told after framed refused
    fault tells line honesty so_far = absurd so_far
line_lost heap s (Some input) (Some remaining) None inlet next old v new before told after framed
    refused fault tells line honesty so_far = absurd tells
line_lost heap s (Some input) (Some remaining) (Some later) inlet next old v new before told after
    framed refused fault tells line honesty so_far =
    line_not_served heap s input remaining later inlet next old v new before told after framed
    refused fault tells line honesty so_far
