-- A builder's turns: it claims a row, builds the job that is given for it, and tells its end. This
-- project's own.
use Rattle.std.specs.Prelude.{◌≡◌, ◌≢◌, ◌⊎◌, ℕ, List, [], ◌∷◌, ◌++◌, length}
use Rattle.td_board.specs.declared.outcome.OutcomeCode.{OutcomeCode}
use Rattle.td_board.specs.declared.views.Hand.{Hand}
use Rattle.td_board.specs.declared.views.Hand.TheVariants.{Free, Holding, Finished}
use Rattle.td_board.specs.declared.views.Deed.TheVariants.{Claim}
use Rattle.td_board.specs.Seats.{BuilderModel}
use Rattle.td_rows.specs.declared.outcome.Outcome.{Outcome}
use Rattle.td_book.specs.declared.starting.Job.{Job}
use Rattle.td_builder.specs.Floors.{IsFinished, IsRefused}

-- the hand is the same, or its finish was released
abbrev pub Releases : Hand → Hand → Type 0
Releases h k = (k ≡ h) ⊎ ((k ≡ Free) × ((r : ℕ) × (c : OutcomeCode) × (h ≡ Finished r c)))

-- no row was claimed
abbrev pub HasClaimedNone : BuilderModel → BuilderModel → Type 0
HasClaimedNone old new =
    (new.builder.mine ≡ old.builder.mine) × Releases old.builder.hand new.builder.hand

-- one row was claimed, while none was held
abbrev pub HasClaimedOne : BuilderModel → BuilderModel → Type 0
HasClaimedOne old new =
    (row : ℕ) × ((r : ℕ) → old.builder.hand ≢ Holding r)
    × (new.builder.mine ≡ old.builder.mine ++ Claim row ∷ []) × (new.builder.hand ≡ Holding row)

-- between two builds a builder claims one row or none, and no build ends; its table and number stay
abbrev pub IsBetween : BuilderModel → BuilderModel → Type 0
IsBetween old new =
    (new.table ≡ old.table) × (new.builder.number ≡ old.builder.number)
    × (HasClaimedNone old new ⊎ HasClaimedOne old new)

-- a job, and how its build ended
abbrev pub Turn : Type 0
Turn = Job × Outcome

-- one turn, from a seat and a way to build to others: a job that may be given to the builder as it
-- then is, the one build of it, which ends so, and the end of the row in hand with just that
abbrev pub IsTurn : {W : Type 0} → (BuilderModel → Job → Type 0) → (BuilderModel → Outcome → Type 0)
    → (W → Job → Outcome → W → Type 0) → Turn → BuilderModel → W → BuilderModel → W → Type 0
IsTurn jobs ends goes_on turn s w t x =
    (held : BuilderModel) × IsBetween s held × jobs held turn.0 × goes_on w turn.0 turn.1 x
    × IsFinished ends turn.1 held t

-- these turns, one after the other, and no other build
abbrev pub Turns : {W : Type 0} → (BuilderModel → Job → Type 0) → (BuilderModel → Outcome → Type 0)
    → (W → Job → Outcome → W → Type 0) → List Turn → BuilderModel → W → BuilderModel → W → Type 0
Turns {W} jobs ends goes_on [] s w t x = IsBetween s t × (x ≡ w)
Turns {W} jobs ends goes_on (turn ∷ turns) s w t x =
    (mid : BuilderModel) × (by : W) × IsTurn jobs ends goes_on turn s w mid by
    × Turns jobs ends goes_on turns mid by t x

-- this many turns
abbrev pub Worked : {W : Type 0} → (BuilderModel → Job → Type 0) → (BuilderModel → Outcome → Type 0)
    → (W → Job → Outcome → W → Type 0) → ℕ → BuilderModel → W → BuilderModel → W → Type 0
Worked jobs ends goes_on n s w t x =
    (turns : List Turn) × (n ≡ length turns) × Turns jobs ends goes_on turns s w t x

-- how a builder stops: nothing more was done, or one job more was built, and its end refused
abbrev pub IsStopped : {W : Type 0} → (BuilderModel → Job → Type 0)
    → (BuilderModel → Outcome → Type 0) → (W → Job → Outcome → W → Type 0) → BuilderModel → W
    → BuilderModel → W → Type 0
IsStopped jobs breaks_off goes_on s w t x =
    ((t ≡ s) × (x ≡ w))
    ⊎ ((job : Job) × (outcome : Outcome) × jobs s job × goes_on w job outcome x
    × IsRefused breaks_off outcome s t)

-- some number of turns, after which the builder stops
abbrev pub WorkedUntil : {W : Type 0} → (BuilderModel → Job → Type 0)
    → (BuilderModel → Outcome → Type 0) → (BuilderModel → Outcome → Type 0)
    → (W → Job → Outcome → W → Type 0) → BuilderModel → W → BuilderModel → W → Type 0
WorkedUntil {W} jobs ends breaks_off goes_on s w t x =
    (n : ℕ) × (mid : BuilderModel) × (by : W) × Worked jobs ends goes_on n s w mid by
    × IsStopped jobs breaks_off goes_on mid by t x
