-- How words, the desk's view and the builders' views agree at each moment. This project's own.
use Rattle.std.specs.Prelude.{◌≡◌, ◌≢◌, ◌⊎◌, ℕ, suc, List, [], ◌∷◌, ◌++◌, length}
use mathlib.Core.Option.{some}
use lib.ListN.{get_elem?}
use Rattle.td_board.specs.declared.views.RowView.{RowView}
use Rattle.td_board.specs.declared.views.RowView.TheVariants.{In, Out, Seen, Known}
use Rattle.td_board.specs.declared.views.Deed.{Deed}
use Rattle.td_board.specs.declared.views.Deed.TheVariants.{Claim, Finish}
use Rattle.td_board.specs.declared.views.Hand.{Hand}
use Rattle.td_board.specs.declared.views.Hand.TheVariants.{Free, Holding, Finished}
use Rattle.td_board.specs.declared.views.DeskView.{DeskView}
use Rattle.td_board.specs.declared.views.BuilderView.{BuilderView}
use Rattle.td_board.specs.declared.views.View.{View}
use Rattle.td_board.specs.declared.views.View.TheVariants.{Desk, Builder}
use Rattle.td_board.specs.Phase.{Phase, closed, opened, held, noted, done}

-- what the desk knows of a row agrees with the row's phase: In with Closed, Out with Open or Held,
-- Seen(b) with Held(b), Known(b) with Noted(b) or Done(b, ..)
abbrev pub RowFits : RowView → Phase → Type 0
RowFits In closed = Unit {0}
RowFits Out opened = Unit {0}
RowFits Out (held b) = Unit {0}
RowFits (Seen a) (held b) = a ≡ b
RowFits (Known a) (noted b) = a ≡ b
RowFits (Known a) (done b c) = a ≡ b
RowFits _ _ = ⊥

-- builder b has this in hand
abbrev pub HasHand : List View → ℕ → Hand → Type 0
HasHand views b hand = (v : BuilderView) × (get_elem? views b ≡ some (Builder v)) × (v.hand ≡ hand)

-- the phase of the row r agrees with the hand of the builder that it names
abbrev pub HandFits : List View → ℕ → Phase → Type 0
HandFits views r closed = Unit {0}
HandFits views r opened = Unit {0}
HandFits views r (held b) = HasHand views b (Holding r)
HandFits views r (noted b) = HasHand views b (Holding r)
HandFits views r (done b c) = HasHand views b (Finished r c)

-- Builder b, with this hand, has done what the desk noted of it, and one deed more where the row's
-- word shows a claim or a finish that isn't noted yet. A hand that holds a row stands in that row's
-- word
abbrev pub ListFits : List Phase → ℕ → Hand → List Deed → List Deed → Type 0
ListFits phases b Free known mine = mine ≡ known
ListFits phases b (Holding r) known mine =
    ((get_elem? phases r ≡ some (held b)) × (mine ≡ known ++ Claim r ∷ []))
    ⊎ ((get_elem? phases r ≡ some (noted b)) × (mine ≡ known))
ListFits phases b (Finished r c) known mine =
    ((get_elem? phases r ≡ some (done b c)) × (mine ≡ known ++ Finish r c ∷ []))
    ⊎ ((p : Phase) × (get_elem? phases r ≡ some p) × (p ≢ done b c) × (mine ≡ known))

-- the seat k + 1 with the view w is that of builder k + 1,
-- and what it did agrees with what the desk noted
pub record BuilderFits (phases : List Phase) (lists : List (List Deed)) (k : ℕ)
    (w : View) : Type 0 where
  pub view : BuilderView
  pub known : List Deed
  pub is : w ≡ Builder view
  pub at : get_elem? lists k ≡ some known
  pub number : view.number ≡ suc k
  pub listed : ListFits phases (suc k) view.hand known view.mine

-- the rule of a board with this many rows: one seat is the desk's, the others the builders', one a
-- list of the desk's, and each row and each builder agrees with the desk's view
pub record Fits (rows : ℕ) (phases : List Phase) (desk : DeskView)
    (views : List View) : Type 0 where
  pub long : length phases ≡ rows
  pub wide : length desk.rows ≡ rows
  pub first : get_elem? views 0 ≡ some (Desk desk)
  pub many : length views ≡ suc (length desk.noted)
  pub each_row : (r : ℕ) (p : Phase) (x : RowView) → get_elem? phases r ≡ some p
      → get_elem? desk.rows r ≡ some x → RowFits x p
  pub each_hand : (r : ℕ) (p : Phase) → get_elem? phases r ≡ some p → HandFits views r p
  pub each_builder : (k : ℕ) (w : View) → get_elem? views (suc k) ≡ some w
      → BuilderFits phases desk.noted k w
