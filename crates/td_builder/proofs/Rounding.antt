-- Rows that are asked for, one after the other and round after round.
use Rattle.std.proofs.Common.{◌≡◌, ◌≢◌, ◌<◌, inl, inr, ℕ, zero, suc, ◌+◌, List, [], ◌∷◌, ◌++◌, refl}
use Rattle.std.proofs.Common.{sym, ap, ◌∙◌, subst, append-nil, append_assoc, take, drop, length}
use Rattle.std.proofs.Common.{get_or, Option, Some, None, Bool, true, false}
use Rattle.std.specs.Prelude.{MatchBool}
use Rattle.std.proofs.lemmas.List.{take_more, take-append-drop}
use Rattle.td_board.specs.declared.outcome.OutcomeCode.{OutcomeCode}
use Rattle.td_board.specs.declared.views.Hand.{Hand}
use Rattle.td_board.specs.declared.views.Hand.TheVariants.{Free, Holding, Finished}
use Rattle.td_board.specs.declared.views.BuilderTry.{BuilderTry}
use Rattle.td_board.specs.declared.views.BuilderTry.TheVariants.{ClaimWon, ClaimLost}
use Rattle.td_board.specs.declared.views.BuilderTry.TheVariants.{ReleaseDone, ReleaseEarly}
use Rattle.td_board.specs.declared.views.BuilderTry.TheVariants.{FinishDone, FinishEarly}
use Rattle.td_board.specs.Answers.{IsWon, IsLost, LostFree, LostWith, released}
use Rattle.td_board.specs.Seats.{BuilderModel}
use Rattle.td_rows.specs.declared.outcome.Outcome.{Outcome}
use Rattle.td_book.specs.Deeds.{code_of}
use Rattle.td_builder.specs.Floors.{IsEarly, IsFinished, IsIdle, IsRefused}
use Rattle.td_builder.specs.Rounds.{AreAsked, Asks, AsksInRounds, Claims, IsAsked, WholeRounds}
use Rattle.td_builder.specs.Rounds.{claims_in}

-- ---- 1. claims among tries

claims_append : (xs ys : List BuilderTry) → claims_in (xs ++ ys) ≡ claims_in xs ++ claims_in ys
claims_append [] ys = refl
claims_append (ClaimWon r ∷ xs) ys =
    ap (λ (l : List (Option ℕ)). Some r ∷ l) (claims_append xs ys)
claims_append (ClaimLost r ∷ xs) ys =
    ap (λ (l : List (Option ℕ)). Some r ∷ l) (claims_append xs ys)
claims_append (ReleaseDone r ∷ xs) ys = claims_append xs ys
claims_append (ReleaseEarly r ∷ xs) ys =
    ap (λ (l : List (Option ℕ)). None ∷ l) (claims_append xs ys)
claims_append (FinishDone r c ∷ xs) ys = claims_append xs ys
claims_append (FinishEarly r c ∷ xs) ys = claims_append xs ys

-- claims, and then others
pub claims_more : (P Q R : List (Option ℕ) → Type 0)
    → ((xs ys : List (Option ℕ)) → P xs → Q ys → R (xs ++ ys)) → (a b c : BuilderModel)
    → Claims P a b → Claims Q b c → Claims R a c
claims_more P Q R so a b c (xs, e, p) (ys, f, q) = (
  xs ++ ys,
  f ∙ (ap (λ (l : List BuilderTry). l ++ ys) e ∙ append_assoc a.builder.tried xs ys),
  subst R (sym (claims_append xs ys)) (so (claims_in xs) (claims_in ys) p q),
)

-- what is no claim leaves the claims before it
pub claims_same : (P : List (Option ℕ) → Type 0) (a b c : BuilderModel) → Claims P a b
    → Claims (λ claims. claims ≡ []) b c → Claims P a c
claims_same P a b c first none =
    claims_more P (λ claims. claims ≡ []) P
    (λ xs ys p q. subst P (sym (ap (λ (l : List (Option ℕ)). xs ++ l) q ∙ append-nil xs)) p) a b c
    first none

-- a seat that is as it was
pub claims_still : (a b : BuilderModel) → b ≡ a → Claims (λ claims. claims ≡ []) a b
claims_still a b same = (
  [],
  ap (λ (s : BuilderModel). s.builder.tried) same ∙ sym (append-nil a.builder.tried),
  refl,
)

-- the end of a build claims nothing
pub claims_finished : (ends : BuilderModel → Outcome → Type 0) (o : Outcome) (a b : BuilderModel)
    → IsFinished ends o a b → Claims (λ claims. claims ≡ []) a b
claims_finished ends o a b (r, held, end, at) =
    (FinishDone r (code_of o) ∷ [], ap (λ (s : BuilderModel). s.builder.tried) at, refl)

claims_early : (c : OutcomeCode) (a b : BuilderModel) → IsEarly c a b
    → Claims (λ claims. claims ≡ []) a b
claims_early c a b (r, held, at) =
    (FinishEarly r c ∷ [], ap (λ (s : BuilderModel). s.builder.tried) at, refl)

-- the end of a build that is refused claims nothing
pub claims_refused : (breaks_off : BuilderModel → Outcome → Type 0) (o : Outcome)
    (a b : BuilderModel) → IsRefused breaks_off o a b → Claims (λ claims. claims ≡ []) a b
claims_refused breaks_off o a b (inl still) = claims_still a b still
claims_refused breaks_off o a b (inr (inl early)) = claims_early (code_of o) a b early
claims_refused breaks_off o a b (inr (inr done)) = claims_finished breaks_off o a b done

-- ---- 2. a row that is asked for

won_asked : (row : ℕ) (h : Hand) → claims_in (released h ++ ClaimWon row ∷ []) ≡ Some row ∷ []
won_asked row Free = refl
won_asked row (Holding r) = refl
won_asked row (Finished r c) = refl

asked_won : (rows row : ℕ) (a b : BuilderModel) → IsWon rows row a b
    → Claims (IsAsked rows row) a b
asked_won rows row a b (fits, none, at) = (
  released a.builder.hand ++ ClaimWon row ∷ [],
  ap (λ (s : BuilderModel). s.builder.tried) at,
  inr (inl (won_asked row a.builder.hand)),
)

free_asked : (rows row : ℕ) (more : List BuilderTry) → LostFree rows row more
    → IsAsked rows row (claims_in more)
free_asked rows row more (inl (beyond, none)) = inl (beyond, ap claims_in none)
free_asked rows row more (inr (within, one)) = inr (inl (ap claims_in one))

lost_asked : (rows row : ℕ) (h k : Hand) (more : List BuilderTry) → ((r : ℕ) → h ≢ Holding r)
    → LostWith rows row h k more → IsAsked rows row (claims_in more)
lost_asked rows row Free k more idle lost = free_asked rows row more lost.1
lost_asked rows row (Holding r) k more idle lost = absurd (idle r refl)
lost_asked rows row (Finished r c) k more idle (inl early) = inr (inr (ap claims_in early.1))
lost_asked rows row (Finished r c) k more idle (inr (free, (rest, is, lost))) =
    subst (λ (l : List BuilderTry). IsAsked rows row (claims_in l)) (sym is)
    (free_asked rows row rest lost)

asked_lost : (rows row : ℕ) (a b : BuilderModel) → IsIdle a → IsLost rows row a b
    → Claims (IsAsked rows row) a b
asked_lost rows row a b idle (hand, more, how, at) = (
  more,
  ap (λ (s : BuilderModel). s.builder.tried) at,
  lost_asked rows row a.builder.hand hand more idle how,
)

-- a row is asked for, by the answer to the claim
pub asked_by : (t : Bool) (rows row : ℕ) (a b : BuilderModel) → IsIdle a
    → MatchBool t (IsWon rows row a b) (IsLost rows row a b) → Claims (IsAsked rows row) a b
asked_by true rows row a b idle won = asked_won rows row a b won
asked_by false rows row a b idle lost = asked_lost rows row a b idle lost

-- ---- 3. rows that are asked for one after the other

asked_append : (rows : ℕ) (xs ys : List ℕ) (p q : List (Option ℕ)) → AreAsked rows xs p
    → AreAsked rows ys q → AreAsked rows (xs ++ ys) (p ++ q)
asked_append rows [] ys p q none more =
    subst (λ (l : List (Option ℕ)). AreAsked rows ys (l ++ q)) (sym none) more
asked_append rows (x ∷ xs) ys p q (one, rest, e, is, more) next = (
  one,
  rest ++ q,
  ap (λ (l : List (Option ℕ)). l ++ q) e ∙ append_assoc one rest q,
  is,
  asked_append rows xs ys rest q more next,
)

asked_one : (rows row : ℕ) (p : List (Option ℕ)) → IsAsked rows row p → AreAsked rows (row ∷ []) p
asked_one rows row p is = (p, [], sym (append-nil p), is, refl)

-- the next row of those that are offered
pub asked_next : (rows : ℕ) (xs : List ℕ) (i : ℕ) (a b c : BuilderModel) → i < length xs
    → Claims (AreAsked rows (take i xs)) a b → Claims (IsAsked rows (get_or xs i 0)) b c
    → Claims (AreAsked rows (take (i + 1) xs)) a c
asked_next rows xs i a b c within first later =
    let x = get_or xs i 0 in
    subst (λ (l : List ℕ). Claims (AreAsked rows l) a c) (sym (take_more xs i 0 within))
    (claims_more (AreAsked rows (take i xs)) (IsAsked rows x) (AreAsked rows (take i xs ++ x ∷ []))
    (λ p q f t. asked_append rows (take i xs) (x ∷ []) p q f (asked_one rows x q t)) a b c first
    later)

-- the rows before a place are asked for, and those from it on are left
pub asks_front : (rows : ℕ) (xs : List ℕ) (i : ℕ) (a b : BuilderModel)
    → Claims (AreAsked rows (take i xs)) a b → Asks rows xs (drop i xs) a b
asks_front rows xs i a b claims = (take i xs, sym (take-append-drop i xs), claims)

pub asks_all : (rows : ℕ) (xs : List ℕ) (a b : BuilderModel) → Claims (AreAsked rows xs) a b
    → Asks rows xs [] a b
asks_all rows xs a b claims = (xs, sym (append-nil xs), claims)

-- ---- 4. rounds

module _ (rows : ℕ) (offers : BuilderModel → List ℕ → Type 0) where
  -- before the first round
  pub rounds_none : (a b : BuilderModel) → Claims (λ claims. claims ≡ []) a b
      → AsksInRounds rows offers [] a b
  rounds_none a b none = (zero, b, none, inl (refl, refl))

  -- rounds that leave nothing, as whole rounds
  whole : (a b : BuilderModel) → AsksInRounds rows offers [] a b
      → (n : ℕ) × WholeRounds rows offers n a b
  whole a b (n, last, are, inl (none, at)) =
      (n, subst (λ (s : BuilderModel). WholeRounds rows offers n a s) (sym at) are)
  whole a b (n, last, are, inr round) = (suc n, (last, are, round))

  -- a round more, after rounds that left nothing
  pub round_more : (xs left : List ℕ) (a b c : BuilderModel) → AsksInRounds rows offers [] a b
      → offers b xs → Asks rows xs left b c → AsksInRounds rows offers left a c
  round_more xs left a b c before may asks =
      let first = whole a b before in
      (first.0, b, first.1, inr (xs, may, asks))

  -- if a round leaves nothing, nothing is left of all rounds
  pub round_whole : (xs left : List ℕ) (a b c : BuilderModel) → AsksInRounds rows offers [] a b
      → offers b xs → Asks rows xs left b c → left ≡ [] → AsksInRounds rows offers [] a c
  round_whole xs left a b c before may asks none =
      subst (λ (l : List ℕ). AsksInRounds rows offers l a c) none
      (round_more xs left a b c before may asks)
