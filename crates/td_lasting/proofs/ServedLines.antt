-- What the answering of a line of a session comes to, by what its calls answered.
use Rattle.std.proofs.Common.{◌≡◌, ◌++◌, false, Bool, List, [], ℕ, Option, Ok, Err}
use Rattle.std.proofs.Common.{true≢false}
use Rattle.std.proofs.Common.{refl, sym, ap, subst, ◌∙◌}
use Rattle.std.specs.Io.KnownBytes.{Appends}
use Rattle.td_bytes.specs.Pieces.{AppendsPrefix}
use Rattle.td_script.specs.Replies.{Reply, Setting}
use Rattle.td_lasting.specs.declared.chronicle.DeskFault.{DeskFault}
use Rattle.td_lasting.specs.declared.chronicle.DeskFault.TheVariants as desk
use Rattle.td_lasting.specs.declared.framing.Framed.{Framed}
use Rattle.td_lasting.specs.declared.serving.ServeFault.TheVariants.{CannotTell}
use Rattle.td_lasting.specs.DeskView.{DeskView, IsDone, IsReplied}
use Rattle.td_lasting.specs.Faults.{of_desk}
use Rattle.td_lasting.specs.Sessions.{framed_answer, framed_events}
use Rattle.td_lasting.specs.inner.Served.{IsLineLost, IsServedLine}

-- the reply's text is all that was put into an empty text
text_is : (r : Reply) (new : DeskView) (start text : List ℕ) (refused : Bool) → start ≡ []
    → IsReplied r new start text refused → text ≡ r.text
text_is r new start text refused none replied =
    replied.text ∙ ap (λ (l : List ℕ). l ++ r.text) none

-- the answer is written
pub line_told : (s : Setting) (framed : Framed) (old new : DeskView) (before now : Option (List ℕ))
    (start text : List ℕ) (refused : Bool) → start ≡ []
    → IsReplied (framed_answer s old.history framed) new start text refused
    → IsDone {A = Bool} (framed_events s old.history framed) old new (Ok refused)
    → old.stopped ≡ false → Appends before now text
    → IsServedLine s framed old new before now (Ok refused)
line_told s framed old new before now start text refused none replied done on appended =
    record {
      told = record {
        written = subst (λ (l : List ℕ). Appends before now l)
            (text_is (framed_answer s old.history framed) new start text refused none replied)
            appended;
        history = replied.history;
        refusal = replied.refusal;
        running = done.goes_on;
        steady = done.steady;
      };
      lost = tt;
      stock = done.stock;
      honest = done.honest;
      any_moment = λ honest header. done.any_moment honest on header;
    }

-- a front of it is written at most
pub line_untold : (s : Setting) (framed : Framed) (old new : DeskView)
    (before now : Option (List ℕ)) (start text : List ℕ) (refused : Bool) → start ≡ []
    → IsReplied (framed_answer s old.history framed) new start text refused
    → IsDone {A = Bool} (framed_events s old.history framed) old new (Ok refused)
    → old.stopped ≡ false → AppendsPrefix before now text
    → IsServedLine s framed old new before now (Err CannotTell)
line_untold s framed old new before now start text refused none replied done on front =
    record {
      told = tt;
      lost = (
        subst (λ (l : List ℕ). AppendsPrefix before now l)
            (text_is (framed_answer s old.history framed) new start text refused none replied)
            front,
        replied.history,
      );
      stock = done.stock;
      honest = done.honest;
      any_moment = λ honest header. done.any_moment honest on header;
    }

lost_so : (s : Setting) (framed : Framed) (old new : DeskView) (before : Option (List ℕ))
    (fault : DeskFault)
    → IsDone {A = Bool} (framed_events s old.history framed) old new (Err fault)
    → old.stopped ≡ false → IsLineLost s framed old new before before (of_desk fault)
lost_so s framed old new before desk.Stopped done on =
    absurd (true≢false (sym (done.refused refl).0 ∙ on))
lost_so s framed old new before desk.CannotWrite done on =
    (refl, done.failed refl, done.due refl)
lost_so s framed old new before desk.NoMemory done on =
    (refl, ap (λ (v : DeskView). v.history) (done.memory refl))

-- the line isn't answered, and nothing is written
pub line_unanswered : (s : Setting) (framed : Framed) (old new : DeskView)
    (before : Option (List ℕ)) (fault : DeskFault)
    → IsDone {A = Bool} (framed_events s old.history framed) old new (Err fault)
    → old.stopped ≡ false → IsServedLine s framed old new before before (Err (of_desk fault))
line_unanswered s framed old new before fault done on =
    record {
      told = tt;
      lost = lost_so s framed old new before fault done on;
      stock = done.stock;
      honest = done.honest;
      any_moment = λ honest header. done.any_moment honest on header;
    }
