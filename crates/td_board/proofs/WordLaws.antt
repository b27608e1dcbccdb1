-- Which phase a word shows, and the words of a board.
use Rattle.std.proofs.Common.{◌≡◌, ◌≢◌, ℕ, zero, suc, ◌+◌, ◌<◌, List, ◌∷◌, map, replicate, get_or}
use Rattle.std.proofs.Common.{set, sym, refl, ap, ◌∙◌, arith, add-one, eqb, eq-eqb, ne_eqb}
use mathlib.Core.Option.{some}
use lib.ListN.{get_elem?}
use lib.Seq.{map-set}
use prog.Atomic.{either}
use Rattle.atomic_table.proofs.Lists.{at_map}
use Rattle.td_board.specs.declared.outcome.OutcomeCode.{OutcomeCode}
use Rattle.td_board.specs.declared.outcome.OutcomeCode.TheVariants.{Built, Attempted, GivenBack}
use Rattle.td_board.specs.declared.outcome.OutcomeCode.TheVariants.{Waits}
use Rattle.td_board.specs.OutcomeCode.{code_of}
use Rattle.td_board.specs.Phase.{Phase, closed, opened, held, noted, done, word_of, builder_of}
use Rattle.td_board.specs.Promises.{WordsTellPhasesApart}
use Rattle.td_board.proofs.Lists.{get_or-at}

-- a code has room beside the builder
pub code_of-small : (c : OutcomeCode) → code_of c < 4
code_of-small Built = omega arith
code_of-small Attempted = omega arith
code_of-small GivenBack = omega arith
code_of-small Waits = omega arith

-- the outcome with this code
abbrev code_at : ℕ → OutcomeCode
code_at zero = Built
code_at (suc zero) = Attempted
code_at (suc (suc zero)) = GivenBack
code_at (suc (suc (suc n))) = Waits

-- the code gives the outcome back
code_at-code_of : (c : OutcomeCode) → code_at (code_of c) ≡ c
code_at-code_of Built = refl
code_at-code_of Attempted = refl
code_at-code_of GivenBack = refl
code_at-code_of Waits = refl

-- a code shows one outcome alone
pub same_code : (c k : OutcomeCode) → code_of c ≡ code_of k → c ≡ k
same_code c k e = sym (code_at-code_of c) ∙ (ap code_at e ∙ code_at-code_of k)

-- by both phases
pub words_apart : WordsTellPhasesApart
words_apart closed closed e = refl
words_apart closed opened e = absurd (omega arith)
words_apart closed (held b) e = absurd (omega arith)
words_apart closed (noted b) e = absurd (omega arith)
words_apart closed (done b k) e = absurd (omega arith)
words_apart opened closed e = absurd (omega arith)
words_apart opened opened e = refl
words_apart opened (held b) e = absurd (omega arith)
words_apart opened (noted b) e = absurd (omega arith)
words_apart opened (done b k) e = absurd (omega arith)
words_apart (held a) closed e = absurd (omega arith)
words_apart (held a) opened e = absurd (omega arith)
words_apart (held a) (held b) e = let h : a ≡ b = omega arith in ap held h
words_apart (held a) (noted b) e = absurd (omega arith)
words_apart (held a) (done b k) e = let low = code_of-small k in absurd (omega arith)
words_apart (noted a) closed e = absurd (omega arith)
words_apart (noted a) opened e = absurd (omega arith)
words_apart (noted a) (held b) e = absurd (omega arith)
words_apart (noted a) (noted b) e = let h : a ≡ b = omega arith in ap noted h
words_apart (noted a) (done b k) e = let low = code_of-small k in absurd (omega arith)
words_apart (done a c) closed e = absurd (omega arith)
words_apart (done a c) opened e = absurd (omega arith)
words_apart (done a c) (held b) e = let low = code_of-small c in absurd (omega arith)
words_apart (done a c) (noted b) e = let low = code_of-small c in absurd (omega arith)
words_apart (done a c) (done b k) e =
    let low = code_of-small c in let low' = code_of-small k in
    let h : a ≡ b = omega arith in let j : code_of c ≡ code_of k = omega arith in
    let same = same_code c k j in λ i. done (h i) (same i)

-- the outcome of a phase, or built
abbrev outcome_in : Phase → OutcomeCode
outcome_in closed = Built
outcome_in opened = Built
outcome_in (held b) = Built
outcome_in (noted b) = Built
outcome_in (done b c) = c

-- two words that show a finish show the same one
pub same_finish : (a b : ℕ) (c k : OutcomeCode) → word_of (done a c) ≡ word_of (done b k)
    → (a ≡ b) × (c ≡ k)
same_finish a b c k e =
    let same = words_apart (done a c) (done b k) e in (ap builder_of same, ap outcome_in same)

-- the word of a row shows its phase
pub word_at : (ws : List ℕ) (phases : List Phase) (r : ℕ) (p : Phase) → ws ≡ 0 ∷ map word_of phases
    → get_elem? phases r ≡ some p → get_or ws (r + 1) 0 ≡ word_of p
word_at ws phases r p e at =
    ap (λ l. get_or l (r + 1) 0) e
    ∙ (ap (λ i. get_or (0 ∷ map word_of phases) i 0) (add-one r)
    ∙ get_or-at (map word_of phases) r (word_of p) 0 (at_map word_of phases r p at))

-- a word is written as the phase changes
pub words_set : (ws : List ℕ) (phases : List Phase) (r n : ℕ) (p : Phase) → ws
    ≡ 0 ∷ map word_of phases → n ≡ word_of p → set ws (r + 1) n ≡ 0 ∷ map word_of (set phases r p)
words_set ws phases r n p e is =
    ap (λ l. set l (r + 1) n) e
    ∙ (ap (λ i. set (0 ∷ map word_of phases) i n) (add-one r)
    ∙ ap (λ l. 0 ∷ l) (ap (set (map word_of phases) r) is ∙ sym (map-set word_of phases r p)))

-- the words of a new board
pub words_of_closed : (n : ℕ) → map word_of (replicate n closed) ≡ replicate n 0
words_of_closed zero = refl
words_of_closed (suc n) = ap (λ l. 0 ∷ l) (words_of_closed n)

-- a compare-exchange that finds what it looks for writes
pub either_hit : (n old new : ℕ) → n ≡ old → either (eqb n old) new n ≡ new
either_hit n old new e = ap (λ b. either b new n) (eq-eqb n old e)

-- one that finds another word keeps it
pub either_miss : (n old new : ℕ) → n ≢ old → either (eqb n old) new n ≡ n
either_miss n old new ne = ap (λ b. either b new n) (ne_eqb n old ne)
