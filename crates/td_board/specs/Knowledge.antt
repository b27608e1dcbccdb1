-- What the desk and the builders know at first, and how a step changes it. This project's own.
use Rattle.std.specs.Prelude.{ℕ, zero, suc, ◌-◌, List, [], ◌∷◌, ◌++◌, replicate, slice_set}
use Rattle.td_board.specs.declared.outcome.OutcomeCode.{OutcomeCode}
use Rattle.td_board.specs.declared.views.RowView.{RowView}
use Rattle.td_board.specs.declared.views.RowView.TheVariants.{In, Out, Seen, Known}
use Rattle.td_board.specs.declared.views.Deed.{Deed}
use Rattle.td_board.specs.declared.views.Deed.TheVariants.{Claim, Finish}
use Rattle.td_board.specs.declared.views.DeskTry.{DeskTry}
use Rattle.td_board.specs.declared.views.BuilderTry.{BuilderTry}
use Rattle.td_board.specs.declared.views.BuilderTry.TheVariants.{ClaimWon, FinishDone, ReleaseDone}
use Rattle.td_board.specs.declared.views.Hand.{Hand}
use Rattle.td_board.specs.declared.views.Hand.TheVariants.{Free, Holding, Finished}
use Rattle.td_board.specs.declared.views.DeskView.{DeskView}
use Rattle.td_board.specs.declared.views.BuilderView.{BuilderView}

-- the desk of a new board: every row is In, nothing is noted of any builder, and nothing tried
abbrev pub new_desk : ℕ → ℕ → DeskView
new_desk rows builders =
    record { rows = replicate rows In; noted = replicate builders []; tried = [] }

-- the desk, with an empty list for each of this many builders
abbrev pub new_lists : ℕ → DeskView → DeskView
new_lists builders d = record { rows = d.rows; noted = replicate builders []; tried = d.tried }

-- the desk, with a seat for one builder more
abbrev pub with_builder : DeskView → DeskView
with_builder d = record { rows = d.rows; noted = d.noted ++ [] ∷ []; tried = d.tried }

-- the desk, which now knows x of the row r
abbrev pub with_row : ℕ → RowView → DeskView → DeskView
with_row r x d = record { rows = slice_set d.rows r x; noted = d.noted; tried = d.tried }

-- the desk, which made one step more
abbrev pub desk_tried : DeskTry → DeskView → DeskView
desk_tried e d = record { rows = d.rows; noted = d.noted; tried = d.tried ++ e ∷ [] }

-- the list at a place, or the empty one past the end
abbrev pub list_at : List (List Deed) → ℕ → List Deed
list_at [] k = []
list_at (l ∷ ls) zero = l
list_at (l ∷ ls) (suc k) = list_at ls k

-- what the desk noted of builder b; builder 1 has the first list
abbrev pub noted_of : DeskView → ℕ → List Deed
noted_of d b = list_at d.noted (b - 1)

-- the desk, which noted one deed more of builder b
abbrev pub with_deed : ℕ → Deed → DeskView → DeskView
with_deed b e d = record {
  rows = d.rows;
  noted = slice_set d.noted (b - 1) (noted_of d b ++ e ∷ []);
  tried = d.tried;
}

-- the builder that the desk knows to have the row r, or 0
abbrev pub holder_at : List RowView → ℕ → ℕ
holder_at [] r = 0
holder_at (In ∷ xs) zero = 0
holder_at (Out ∷ xs) zero = 0
holder_at (Seen b ∷ xs) zero = b
holder_at (Known b ∷ xs) zero = b
holder_at (x ∷ xs) (suc r) = holder_at xs r

-- the row of a hand, or 0
abbrev pub row_of : Hand → ℕ
row_of Free = 0
row_of (Holding r) = r
row_of (Finished r c) = r

-- a new builder of this number: its hand is free, and it has done and tried nothing
abbrev pub new_builder : ℕ → BuilderView
new_builder b = record { number = b; hand = Free; mine = []; tried = [] }

-- the builder, which tried one thing more
abbrev pub builder_tried : BuilderTry → BuilderView → BuilderView
builder_tried e v = record {
  number = v.number;
  hand = v.hand;
  mine = v.mine;
  tried = v.tried ++ e ∷ [];
}

-- the builder, once it has claimed the row r
abbrev pub with_claim : ℕ → BuilderView → BuilderView
with_claim r v = record {
  number = v.number;
  hand = Holding r;
  mine = v.mine ++ Claim r ∷ [];
  tried = v.tried ++ ClaimWon r ∷ [];
}

-- the builder, once it has finished the row r with this outcome
abbrev pub with_finish : ℕ → OutcomeCode → BuilderView → BuilderView
with_finish r c v = record {
  number = v.number;
  hand = Finished r c;
  mine = v.mine ++ Finish r c ∷ [];
  tried = v.tried ++ FinishDone r c ∷ [];
}

-- the builder with its hand free again
abbrev pub with_free_hand : BuilderView → BuilderView
with_free_hand v = record {
  number = v.number;
  hand = Free;
  mine = v.mine;
  tried = v.tried ++ ReleaseDone (row_of v.hand) ∷ [];
}
