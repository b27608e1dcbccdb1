-- Runs that go on, and moves that are split at a step at the board.
use Rattle.std.proofs.Common.{◌≡◌, ◌⊎◌, true, ◌&&◌, List, [], ◌∷◌, ◌++◌, ap, refl, sym}
use Rattle.std.proofs.Common.{◌∙◌, inl, inr, ⊎_elim, append-nil, append_assoc}
use Rattle.std.proofs.lemmas.Bool.{and_parts}
use Rattle.td_board.specs.declared.views.DeskTry.{DeskTry}
use Rattle.td_rows.specs.Table.{Table}
use Rattle.td_core.specs.declared.step.Step.{Step}
use Rattle.td_core.specs.Steps.{after, after_all}
use Rattle.td_core.specs.Worlds.{WorldView}
use Rattle.td_steps.specs.Sees.{Desk}
use Rattle.td_steps.specs.Moves.{Move, offer, won, lost, note, commit, undo, settle, arrive, sweep}
use Rattle.td_steps.specs.Moves.{step_of, moved, Chosen}
use Rattle.td_steps.specs.Runs.{MayAll, moved_all, is_builders, are_builders, Meanwhile, Runs}
use Rattle.td_steps.specs.Tries.{tries_of, tried_in}
use Rattle.td_steps.specs.Theirs.{theirs_in}

-- ---- 1. runs that go on

after_all-push : (w : WorldView) (ss : List Step) (s : Step)
    → after (after_all w ss) s ≡ after_all w (ss ++ s ∷ [])
after_all-push w [] s = refl
after_all-push w (x ∷ ss) s = after_all-push (after w x) ss s

builders-push : (ss : List Step) (s : Step) → are_builders ss ≡ true → is_builders s ≡ true
    → are_builders (ss ++ s ∷ []) ≡ true
builders-push [] s all one = ap (λ b. b && true) one
builders-push (x ∷ ss) s all one =
    let parts = and_parts (is_builders x) (are_builders ss) all in
    (λ j. parts.0 j && builders-push ss s parts.1 one j)

abbrev pub meanwhile-none : (w : WorldView) → Meanwhile w w
meanwhile-none w = record { theirs = []; all = refl; to = refl }

-- a builder's step at the end
pub runs-more : (w v : WorldView) (ms : List Move) (s : Step) → is_builders s ≡ true → Runs w ms v
    → Runs w ms (after v s)
runs-more w v [] s theirs runs = record {
  theirs = runs.theirs ++ s ∷ [];
  all = builders-push runs.theirs s runs.all theirs;
  to = ap (λ (x : WorldView). after x s) runs.to ∙ after_all-push w runs.theirs s;
}
runs-more w v (m ∷ ms) s theirs runs =
    (runs.0, runs.1, runs.2, runs-more (after runs.0 (step_of m)) v ms s theirs runs.3)

-- a move at the end
pub runs-move : (w v : WorldView) (ms : List Move) (m : Move) → Runs w ms v → Chosen v m
    → Runs w (ms ++ m ∷ []) (after v (step_of m))
runs-move w v [] m runs chosen = (v, runs, chosen, meanwhile-none (after v (step_of m)))
runs-move w v (x ∷ ms) m runs chosen =
    (runs.0, runs.1, runs.2, runs-move (after runs.0 (step_of x)) v ms m runs.3 chosen)

-- a builder's step at the end is the last of theirs
pub theirs-more : (w v : WorldView) (ms : List Move) (s : Step) (theirs : is_builders s ≡ true)
    (run : Runs w ms v)
    → theirs_in w (after v s) ms (runs-more w v ms s theirs run) ≡ theirs_in w v ms run ++ s ∷ []
unfolding runs-more
theirs-more w v [] s theirs run = refl
theirs-more w v (m ∷ ms) s theirs run =
    let u = after run.0 (step_of m) in
    ap (λ (l : List Step). run.1.theirs ++ l) (theirs-more u v ms s theirs run.3)
    ∙ sym (append_assoc run.1.theirs (theirs_in u v ms run.3) (s ∷ []))

-- a move at the end is none of theirs
pub theirs-move : (w v : WorldView) (ms : List Move) (m : Move) (run : Runs w ms v)
    (chosen : Chosen v m)
    → theirs_in w (after v (step_of m)) (ms ++ m ∷ []) (runs-move w v ms m run chosen)
    ≡ theirs_in w v ms run
unfolding runs-move
theirs-move w v [] m run chosen = append-nil run.theirs
theirs-move w v (x ∷ ms) m run chosen =
    ap (λ (l : List Step). run.1.theirs ++ l)
    (theirs-move (after run.0 (step_of x)) v ms m run.3 chosen)

pub may-parts : (d : Desk) (a b : List Move) → MayAll d (a ++ b)
    → MayAll d a × MayAll (moved_all d a) b
may-parts d [] b all = (tt, all)
may-parts d (m ∷ a) b all =
    let rest = may-parts (moved d m) a b all.1 in ((all.0, rest.0), rest.1)

-- ---- 2. moves by what they are at the board

-- a move is one step there, or none
one-or-none : (o : Table) (m : Move)
    → (tries_of o m ≡ []) ⊎ ((t : DeskTry) × (tries_of o m ≡ t ∷ []))
one-or-none o (offer k) = inr (_, refl)
one-or-none o (won k) = inr (_, refl)
one-or-none o (lost k b) = inr (_, refl)
one-or-none o (note k b) = inr (_, refl)
one-or-none o (settle k b e) = inr (_, refl)
one-or-none o (commit kind keys) = inl refl
one-or-none o (undo n) = inl refl
one-or-none o (arrive k) = inl refl
one-or-none o sweep = inl refl

-- the moves with whose last step at the board this one is: behind it are entries alone
pub record Split (o : Table) (ms : List Move) (front : List DeskTry) (e : DeskTry) : Type 0 where
  pub before : List Move
  pub move : Move
  pub behind : List Move
  pub parts : ms ≡ before ++ move ∷ behind
  pub first : tried_in o before ≡ front
  pub one : tries_of o move ≡ e ∷ []
  pub rest : tried_in o behind ≡ []

pushed-some : (front : List DeskTry) (e : DeskTry) → [] ≡ front ++ e ∷ [] → ⊥
pushed-some [] e is = cc
pushed-some (t ∷ front) e is = cc

at_head : (o : Table) (m : Move) (ms : List Move) (front : List DeskTry) (e t : DeskTry)
    → ((rest : List DeskTry) → tried_in o ms ≡ rest ++ e ∷ [] → Split o ms rest e)
    → tries_of o m ≡ t ∷ [] → t ∷ tried_in o ms ≡ front ++ e ∷ [] → Split o (m ∷ ms) front e
at_head o m ms [] e t again one is =
    let same : t ≡ e = cc in
    let none : tried_in o ms ≡ [] = cc in
    record {
      before = [];
      move = m;
      behind = ms;
      parts = refl;
      first = refl;
      one = one ∙ ap (λ (x : DeskTry). x ∷ []) same;
      rest = none;
    }
at_head o m ms (f ∷ front) e t again one is =
    let same : t ≡ f = cc in
    let tail : tried_in o ms ≡ front ++ e ∷ [] = cc in
    let s = again front tail in
    record {
      before = m ∷ s.before;
      move = s.move;
      behind = s.behind;
      parts = ap (λ (l : List Move). m ∷ l) s.parts;
      first = ap (λ (l : List DeskTry). l ++ tried_in o s.before) one
          ∙ (λ j. same j ∷ s.first j);
      one = s.one;
      rest = s.rest;
    }

pub split : (o : Table) (ms : List Move) (front : List DeskTry) (e : DeskTry)
    → tried_in o ms ≡ front ++ e ∷ [] → Split o ms front e
split o [] front e is = absurd (pushed-some front e is)
split o (m ∷ ms) front e is =
    ⊎_elim
    (λ (none : tries_of o m ≡ []).
    let s = split o ms front e
    (ap (λ (l : List DeskTry). l ++ tried_in o ms) (sym none) ∙ is) in
    record {
      before = m ∷ s.before;
      move = s.move;
      behind = s.behind;
      parts = ap (λ (l : List Move). m ∷ l) s.parts;
      first = ap (λ (l : List DeskTry). l ++ tried_in o s.before) none ∙ s.first;
      one = s.one;
      rest = s.rest;
    })
    (λ (some : (t : DeskTry) × (tries_of o m ≡ t ∷ [])).
    at_head o m ms front e some.0 (λ rest h. split o ms rest e h) some.1
    (ap (λ (l : List DeskTry). l ++ tried_in o ms) (sym some.1) ∙ is))
    (one-or-none o m)
