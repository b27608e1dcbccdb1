-- The desk's steps at the rows for a call, by the rows as they were before it or after it: rows
-- that need a build are taken back, and are offered. This project's own.
use Rattle.std.specs.Prelude.{ℕ, zero, suc, List, [], ◌∷◌, ◌++◌, filter, map, if◌then◌else◌}
use Rattle.td_board.specs.declared.views.DeskTry.{DeskTry}
use Rattle.td_board.specs.declared.views.DeskTry.TheVariants.{WithdrawalWon, WithdrawalLost}
use Rattle.td_board.specs.declared.views.DeskTry.TheVariants.{Offered, ClaimNoted}
use Rattle.td_rows.specs.declared.key.Key.{Key}
use Rattle.td_rows.specs.Table.{Table, keys_of}
use Rattle.td_change.specs.Saved.{number_of}
use Rattle.td_core.specs.History.{History, rows_of}
use Rattle.td_core.specs.Refusals.{is_queued_at}

-- the withdrawal of a row: won if the desk was first, which 0 says, else lost to that builder,
-- whose claim is noted at once
abbrev pub withdrawal : ℕ → ℕ → List DeskTry
withdrawal row zero = WithdrawalWon row ∷ []
withdrawal row (suc b) = WithdrawalLost row (suc b) ∷ ClaimNoted row (suc b) ∷ []

-- the withdrawal of the key's row, if it needs a build
abbrev pub tries_at : Table → Key → ℕ → List DeskTry
tries_at t k b = if is_queued_at t k then withdrawal (number_of t k) b else []

-- the withdrawals of the keys' rows that need a build, in the order of the keys: the list says who
-- was first at each
abbrev pub tries_for : Table → List Key → List ℕ → List DeskTry
tries_for t [] bs = []
tries_for t (k ∷ ks) [] = []
tries_for t (k ∷ ks) (b ∷ bs) = tries_at t k b ++ tries_for t ks bs

-- the withdrawals of the keys' rows that need a build, if the desk was first at each
abbrev pub wins_for : Table → List Key → List DeskTry
wins_for t ks = map (λ k. WithdrawalWon (number_of t k)) (filter (is_queued_at t) ks)

-- the offers of the keys' rows that need a build, in the order of the keys
abbrev pub offers_for : Table → List Key → List DeskTry
offers_for t ks = map (λ k. Offered (number_of t k)) (filter (is_queued_at t) ks)

-- the offers with which a book begins: of every row that needs a build
abbrev pub first_offers : History → List DeskTry
first_offers h = offers_for (rows_of h) (keys_of (rows_of h))

-- a row that is withdrawn to learn who has it: it is offered again at once where the desk was
-- first, which 0 says, else the claim of the builder that was is noted
abbrev pub look : ℕ → ℕ → List DeskTry
look row zero = WithdrawalWon row ∷ Offered row ∷ []
look row (suc b) = withdrawal row (suc b)

-- a look at the key's row, if it needs a build
abbrev pub look_at : Table → Key → ℕ → List DeskTry
look_at t k b = if is_queued_at t k then look (number_of t k) b else []
