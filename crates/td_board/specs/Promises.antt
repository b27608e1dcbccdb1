-- What holds at every moment of every schedule of a board. This project's own.
use Rattle.std.specs.Prelude.{◌≡◌, ◌⊎◌, ℕ, ◌<◌, ◌≤◌, List, [], ◌∷◌, ◌++◌, length}
use Rattle.td_board.specs.declared.outcome.OutcomeCode.{OutcomeCode}
use Rattle.td_board.specs.declared.views.Deed.{Deed}
use Rattle.td_board.specs.declared.views.Hand.TheVariants.{Holding}
use Rattle.td_board.specs.declared.views.DeskView.{DeskView}
use Rattle.td_board.specs.declared.views.BuilderView.{BuilderView}
use Rattle.td_board.specs.declared.views.View.TheVariants.{Builder}
use Rattle.td_board.specs.Phase.{Phase, noted, done, word_of, builder_of}
use Rattle.td_board.specs.Knowledge.{noted_of, with_finish}
use Rattle.td_board.specs.Steps.{Moment, IsAt, DeskKnows, BuilderKnows, moved, Step, Reached}
use Rattle.td_board.specs.Rule.{Fits}

-- a word shows only one phase
abbrev pub WordsTellPhasesApart : Type 0
WordsTellPhasesApart = (p q : Phase) → word_of p ≡ word_of q → p ≡ q

-- words, the desk's view and the builders' views agree
abbrev pub RuleStands : Type 0
RuleStands = (rows : ℕ) (m : Moment) → Reached rows m
    → (desk : DeskView) × Fits rows m.phases desk m.views

-- two builders that hold one row are one builder
abbrev pub OneHolder : Type 0
OneHolder = (rows : ℕ) (m : Moment) → Reached rows m → (a b r : ℕ) (v w : BuilderView)
    → BuilderKnows m a v → BuilderKnows m b w → v.hand ≡ Holding r → w.hand ≡ Holding r → a ≡ b

-- two rows whose words name one builder are one row
abbrev pub OneRowEach : Type 0
OneRowEach = (rows : ℕ) (m : Moment) → Reached rows m → (q r : ℕ) (o p : Phase)
    → IsAt m q o → IsAt m r p → 0 < builder_of p → builder_of o ≡ builder_of p → q ≡ r

-- the builder b holds the row r, as it did before the step
abbrev pub StillHolds : Moment → ℕ → ℕ → Type 0
StillHolds n b r = (w : BuilderView) × BuilderKnows n b w × (w.hand ≡ Holding r)

-- the step is the finish of the row r by its builder b, with some outcome
abbrev pub IsItsFinish : Moment → Moment → ℕ → ℕ → BuilderView → Type 0
IsItsFinish m n b r v = (c : OutcomeCode) × IsAt m r (noted b)
    × (n ≡ moved r (done b c) b (Builder (with_finish r c v)) m)

-- a step leaves a builder its row, unless it is that builder's own finish of it
abbrev pub HoldLasts : Type 0
HoldLasts = (rows : ℕ) (m n : Moment) → Reached rows m → Step m n → (b r : ℕ) (v : BuilderView)
    → BuilderKnows m b v → v.hand ≡ Holding r → StillHolds n b r ⊎ IsItsFinish m n b r v

-- what the desk noted of a builder is what that builder did, except the builder's last deed at most
abbrev pub NothingInvented : Type 0
NothingInvented = (rows : ℕ) (m : Moment) → Reached rows m
    → (b : ℕ) (d : DeskView) (v : BuilderView)
    → DeskKnows m d → BuilderKnows m b v
    → (v.number ≡ b) × (0 < b) × (b ≤ length d.noted)
    × ((v.mine ≡ noted_of d b) ⊎ ((e : Deed) × (v.mine ≡ noted_of d b ++ e ∷ [])))

-- a list begins with another
abbrev pub Begins : {A : Type 0} → List A → List A → Type 0
Begins {A} long short = (more : List A) × (long ≡ short ++ more)

-- no step drops or changes what a builder did, what the desk noted of it, or what either tried
abbrev pub ListsGrow : Type 0
ListsGrow = (rows : ℕ) (m n : Moment) → Reached rows m → Step m n
    → ((b : ℕ) (v : BuilderView) → BuilderKnows m b v
    → (w : BuilderView) × BuilderKnows n b w × (w.number ≡ v.number) × Begins w.mine v.mine
    × Begins w.tried v.tried)
    × ((d : DeskView) → DeskKnows m d
    → (e : DeskView) × DeskKnows n e × ((b : ℕ) → Begins (noted_of e b) (noted_of d b))
    × Begins e.tried d.tried)
