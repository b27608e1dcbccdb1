-- What the answer to a line does to a book without builders. This project's own.
use Rattle.std.specs.Prelude.{◌≡◌, ◌⊎◌, ℕ, Bool, List, ◌++◌}
use Rattle.td_book.specs.Desk.{BookModel}
use Rattle.td_script.specs.Replies.{Reply}

-- the reply's text is appended, and its history is the book's; nothing else changes
pub record Answers (r : Reply) (old new : BookModel) (before now : List ℕ)
    (refused : Bool) : Type 0 where
  pub text : now ≡ before ++ r.text
  pub history : new.history ≡ r.after
  pub refusal : refused ≡ r.refused
  pub fixed : new.fixed ≡ old.fixed

-- the book's history is as it was, or as the reply has it, and nothing else changes; that holds too
-- if memory ran out, before the book had done what the line says or after it
pub record IsLeftBy (r : Reply) (old new : BookModel) : Type 0 where
  pub history : (new.history ≡ old.history) ⊎ (new.history ≡ r.after)
  pub fixed : new.fixed ≡ old.fixed
