-- A run goes on by one step.
use Rattle.std.proofs.Common.{◌≡◌, List, [], ◌∷◌, ◌++◌, ap, refl}
use Rattle.td_core.specs.declared.step.Step.{Step}
use Rattle.td_core.specs.declared.step.Answer.{Answer}
use Rattle.td_core.specs.Worlds.{WorldView}
use Rattle.td_core.specs.Steps.{answer_to, after, answers_to, after_all}

pub after_all-push : (w : WorldView) (ss : List Step) (s : Step)
    → after_all w (ss ++ s ∷ []) ≡ after (after_all w ss) s
after_all-push w [] s = refl
after_all-push w (x ∷ ss) s = after_all-push (after w x) ss s

pub answers_to-push : (w : WorldView) (ss : List Step) (s : Step)
    → answers_to w (ss ++ s ∷ []) ≡ answers_to w ss ++ answer_to (after_all w ss) s ∷ []
answers_to-push w [] s = refl
answers_to-push w (x ∷ ss) s =
    ap (λ (as' : List Answer). answer_to w x ∷ as') (answers_to-push (after w x) ss s)
