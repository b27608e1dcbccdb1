-- The table's rule stands on what a step leaves, over what the step does to a row and a seat.
use Rattle.std.proofs.Common.{◌≡◌, ◌≢◌, ℕ, ◌+◌, [], get_or, set, sym, ◌∙◌, subst, eqb}
use lib.Seq.{set-get_or}
use prog.Atomic.{either}
use Rattle.atomic_table.specs.Table.{State, keeps, stepped}
use Rattle.td_board.specs.declared.views.View.{View}
use Rattle.td_board.specs.Phase.{Phase, word_of}
use Rattle.td_board.specs.Steps as steps
use Rattle.td_board.specs.Steps.{moment_of, Step, Reached}
use Rattle.td_board.specs.Ruled.{Ruled}
use Rattle.td_board.proofs.WordLaws.{words_set, either_miss}

-- a table's state
abbrev pub TableState : Type 0
TableState = State (Unit {0}) View

-- the rule on what a step leaves that changes the phase of row r
pub ruled_row : (rows : ℕ) (s : TableState) (rule : Ruled rows s) (r n id seat : ℕ) (p : Phase)
    (w : View) → id ≡ seat → n ≡ word_of p
    → Step (moment_of rule.phases s.views) (moment_of (set rule.phases r p) (set s.views seat w))
    → Ruled rows (stepped s (r + 1) n id [] w keeps)
ruled_row rows s rule r n id seat p w is word one = record {
  phases = set rule.phases r p;
  words_are = words_set s.words rule.phases r n p rule.words_are word;
  reached = subst (λ i. Reached rows (moment_of (set rule.phases r p) (set s.views i w))) (sym is)
      (steps.after rule.reached one);
}

-- the rule on what a step leaves that changes no phase
pub ruled_view : (rows : ℕ) (s : TableState) (rule : Ruled rows s) (i id seat : ℕ) (w : View)
    → id ≡ seat
    → Step (moment_of rule.phases s.views) (moment_of rule.phases (set s.views seat w))
    → Ruled rows (stepped s i (get_or s.words i 0) id [] w keeps)
ruled_view rows s rule i id seat w is one = record {
  phases = rule.phases;
  words_are = set-get_or s.words i 0 ∙ rule.words_are;
  reached = subst (λ x. Reached rows (moment_of rule.phases (set s.views x w))) (sym is)
      (steps.after rule.reached one);
}

-- the rule on what a compare-exchange leaves that finds another word
pub ruled_missed : (rows : ℕ) (s : TableState) (i n old new id : ℕ) (w : View) → n ≢ old
    → Ruled rows (stepped s i n id [] w keeps)
    → Ruled rows (stepped s i (either (eqb n old) new n) id [] w keeps)
ruled_missed rows s i n old new id w lost rule =
    subst (λ k. Ruled rows (stepped s i k id [] w keeps)) (sym (either_miss n old new lost)) rule
