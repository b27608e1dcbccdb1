-- Two sessions over the same bytes, from the same history, answer the same.
use Rattle.std.proofs.Common.{◌≡◌, ℕ, ◌<◌, ◌≤◌, List, [], ◌∷◌, refl, sym, ap, subst, ◌∙◌}
use Rattle.std.proofs.Common.{arith}
use Rattle.std.proofs.Common.{length}
use Rattle.std.specs.Prelude.{fold}
use Rattle.std.proofs.lemmas.List.{append_cancel_left}
use Rattle.std.proofs.lemmas.List.Sums.{fold-append}
use Rattle.td_core.specs.History.{History}
use Rattle.td_ledger.specs.Lines.{text_of, whole_lines}
use Rattle.td_script.specs.Replies.{Setting}
use Rattle.td_script.specs.Script.{Told, added, begun}
use Rattle.td_lasting.specs.declared.framing.Framed.{Framed}
use Rattle.td_lasting.specs.declared.framing.Framed.TheVariants.{Whole, Unended, TooLong, NotText}
use Rattle.td_lasting.specs.DeskAnswers.{desk_answer}
use Rattle.td_lasting.specs.Framing.{FrameEach, Frames, FramesRest, line_limit}
use Rattle.td_lasting.specs.Promises.{InputsDecide}
use Rattle.td_lasting.specs.Sessions.{framed_answer, session, with_framed}

-- a line isn't both too long and not
pub too_long : {P : Type 0} (line : List ℕ) → length line ≤ line_limit → line_limit < length line
    → P
too_long line short long = absurd (omega arith)

-- whatever a line is told as, the same is answered
pub same_answer : (s : Setting) (h : History) (line : List ℕ) (a b : Framed) → Frames line a
    → Frames line b → framed_answer s h a ≡ framed_answer s h b
same_answer s h line (Whole x) (Whole y) f g = ap (desk_answer s h) (f.2 ∙ sym g.2)
same_answer s h line (Whole x) Unended f g = absurd g
same_answer s h line (Whole x) TooLong f g = too_long line f.0 g
same_answer s h line (Whole x) NotText f g = absurd (g.1 f.1)
same_answer s h line Unended b f g = absurd f
same_answer s h line TooLong (Whole y) f g = too_long line g.0 f
same_answer s h line TooLong Unended f g = absurd g
same_answer s h line TooLong TooLong f g = refl
same_answer s h line TooLong NotText f g = too_long line g.0 f
same_answer s h line NotText (Whole y) f g = absurd (f.1 g.1)
same_answer s h line NotText Unended f g = absurd g
same_answer s h line NotText TooLong f g = too_long line f.0 g
same_answer s h line NotText NotText f g = refl

same_each : (s : Setting) (t : Told) (lines : List (List ℕ)) (some others : List Framed)
    → FrameEach lines some → FrameEach lines others
    → fold (with_framed s) t some ≡ fold (with_framed s) t others
same_each s t [] [] [] f g = refl
same_each s t [] [] (b ∷ others) f g = absurd g
same_each s t [] (a ∷ some) others f g = absurd f
same_each s t (line ∷ lines) [] others f g = absurd f
same_each s t (line ∷ lines) (a ∷ some) [] f g = absurd g
same_each s t (line ∷ lines) (a ∷ some) (b ∷ others) f g =
    ap (λ (u : Told). fold (with_framed s) u some)
    (ap (added t) (same_answer s t.after line a b f.0 g.0))
    ∙ same_each s (with_framed s t b) lines some others f.1 g.1

same_rest : (rest : List ℕ) (a b : List Framed) → FramesRest rest a → FramesRest rest b → a ≡ b
same_rest [] a b f g = f ∙ sym g
same_rest (x ∷ rest) a b f g = f ∙ sym g

pub inputs_decide : InputsDecide
inputs_decide s h input some others f g =
    let rest : f.rest ≡ g.rest =
    append_cancel_left (text_of (whole_lines input)) f.rest g.rest (sym f.input_is ∙ g.input_is) in
    let last : f.last ≡ g.last =
    same_rest g.rest f.last g.last
    (subst (λ (r : List ℕ). FramesRest r f.last) rest f.behind) g.behind in
    let each = same_each s (begun h) (whole_lines input) f.lines g.lines f.each g.each in
    ap (session s h) f.parts ∙ fold-append (with_framed s) (begun h) f.lines f.last
    ∙ (λ j. fold (with_framed s) (each j) (last j))
    ∙ sym (ap (session s h) g.parts ∙ fold-append (with_framed s) (begun h) g.lines g.last)
