-- The rows that a builder asks for, in rounds. This project's own.
use Rattle.std.specs.Prelude.{◌≡◌, ◌≤◌, ◌⊎◌, ℕ, zero, suc, List, [], ◌∷◌, ◌++◌, Option, Some, None}
use Rattle.td_board.specs.declared.views.BuilderTry.{BuilderTry}
use Rattle.td_board.specs.declared.views.BuilderTry.TheVariants.{ClaimWon, ClaimLost}
use Rattle.td_board.specs.declared.views.BuilderTry.TheVariants.{ReleaseDone, ReleaseEarly}
use Rattle.td_board.specs.declared.views.BuilderTry.TheVariants.{FinishDone, FinishEarly}
use Rattle.td_board.specs.Seats.{BuilderModel}

-- the claims among a builder's tries: the row that was tried, won or lost, or None if no row was
-- tried, since the release of the build before it came too early
abbrev pub claims_in : List BuilderTry → List (Option ℕ)
claims_in [] = []
claims_in (ClaimWon r ∷ tries) = Some r ∷ claims_in tries
claims_in (ClaimLost r ∷ tries) = Some r ∷ claims_in tries
claims_in (ReleaseDone r ∷ tries) = claims_in tries
claims_in (ReleaseEarly r ∷ tries) = None ∷ claims_in tries
claims_in (FinishDone r c ∷ tries) = claims_in tries
claims_in (FinishEarly r c ∷ tries) = claims_in tries

-- the builder of a seat tried more, and this holds of the claims among these tries
abbrev pub Claims : (List (Option ℕ) → Type 0) → BuilderModel → BuilderModel → Type 0
Claims are old new =
    (more : List BuilderTry) × (new.builder.tried ≡ old.builder.tried ++ more)
    × are (claims_in more)

-- a row of a board with this many rows is asked for by one claim, which tries it or is too early.
-- For a number that no row has, nothing is tried
abbrev pub IsAsked : ℕ → ℕ → List (Option ℕ) → Type 0
IsAsked rows row claims =
    ((rows ≤ row) × (claims ≡ [])) ⊎ (claims ≡ Some row ∷ []) ⊎ (claims ≡ None ∷ [])

-- these rows are asked for, each once, in their order, and no others
abbrev pub AreAsked : ℕ → List ℕ → List (Option ℕ) → Type 0
AreAsked rows [] claims = claims ≡ []
AreAsked rows (row ∷ more) claims =
    (one : List (Option ℕ)) × (rest : List (Option ℕ)) × (claims ≡ one ++ rest)
    × IsAsked rows row one × AreAsked rows more rest

-- all rows that are offered are asked for, except those that are left at the end
abbrev pub Asks : ℕ → List ℕ → List ℕ → BuilderModel → BuilderModel → Type 0
Asks rows offered left old new =
    (asked : List ℕ) × (offered ≡ asked ++ left) × Claims (AreAsked rows asked) old new

-- one round: all that is asked for may be offered to the builder of a seat, as the seat stands, and
-- all of it is asked for except what is left
abbrev pub IsRound : ℕ → (BuilderModel → List ℕ → Type 0) → List ℕ → BuilderModel → BuilderModel
    → Type 0
IsRound rows offers left old new =
    (offered : List ℕ) × offers old offered × Asks rows offered left old new

-- this many rounds, one after the other, that leave nothing, and nothing is asked for besides
abbrev pub WholeRounds : ℕ → (BuilderModel → List ℕ → Type 0) → ℕ → BuilderModel → BuilderModel
    → Type 0
WholeRounds rows offers zero old new = Claims (λ claims. claims ≡ []) old new
WholeRounds rows offers (suc n) old new =
    (mid : BuilderModel) × WholeRounds rows offers n old mid × IsRound rows offers [] mid new

-- a builder asks for rows in rounds, each over an offer of its own, and some of the last one may be
-- left
abbrev pub AsksInRounds : ℕ → (BuilderModel → List ℕ → Type 0) → List ℕ → BuilderModel
    → BuilderModel → Type 0
AsksInRounds rows offers left old new =
    (n : ℕ) × (last : BuilderModel) × WholeRounds rows offers n old last
    × (((left ≡ []) × (new ≡ last)) ⊎ IsRound rows offers left last new)
