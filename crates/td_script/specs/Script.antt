-- The answers to the lines of a script, one after the other. This project's own.
use Rattle.std.specs.Prelude.{◌≡◌, ℕ, ◌+◌, ◌≤◌, List, [], ◌++◌, fold, if◌then◌else◌, zero}
use Rattle.std.specs.Prelude.{string_bytes}
use Rattle.td_text.specs.Lines.{lines_of}
use Rattle.td_core.specs.History.{History}
use Rattle.td_book.specs.Desk.{BookModel}
use Rattle.td_script.specs.declared.told.Told.{Told as ToldText}
use Rattle.td_script.specs.Replies.{Setting, Reply, answer}

-- the answers to the lines so far: the text, the history after them, and how many were refused
pub record Told : Type 0 where
  pub text : List ℕ
  pub after : History
  pub refused : ℕ

-- a reply more
abbrev pub added : Told → Reply → Told
added t r =
    record {
      text = t.text ++ r.text;
      after = r.after;
      refused = t.refused + (if r.refused then 1 else 0);
    }

-- one line more: it is answered from the history that the lines before it leave
abbrev pub with_line : Setting → Told → List ℕ → Told
with_line s t line = added t (answer s t.after line)

-- no line is answered yet
abbrev pub begun : History → Told
begun h = record { text = []; after = h; refused = zero }

-- the answers to all lines of a text, from a history
abbrev pub script : Setting → History → List ℕ → Told
script s h text = fold (with_line s) (begun h) (lines_of text)

-- ---- as the code has it

-- the answers in the code's form, with the history after them
abbrev pub told_of : ToldText → History → Told
told_of t h = record { text = string_bytes t.text; after = h; refused = t.refused }

-- one line more is answered
pub record IsAdded (s : Setting) (line : List ℕ) (old new : BookModel)
    (before now : ToldText) : Type 0 where
  pub is : told_of now new.history ≡ with_line s (told_of before old.history) line
  pub fixed : new.fixed ≡ old.fixed
  pub counted : now.refused ≤ before.refused + 1

-- the text and the count are those of the script, and the book's history is the one after it
pub record IsTold (s : Setting) (script_text : List ℕ) (old new : BookModel)
    (told : ToldText) : Type 0 where
  pub is : told_of told new.history ≡ script s old.history script_text
  pub fixed : new.fixed ≡ old.fixed

-- the book's history is the one after the lines before some place in the text, and nothing else
-- changes
pub record IsAnsweredUpTo (s : Setting) (script_text : List ℕ) (old new : BookModel) : Type 0 where
  pub front : List (List ℕ)
  pub behind : List (List ℕ)
  pub lines : lines_of script_text ≡ front ++ behind
  pub history : new.history ≡ (fold (with_line s) (begun old.history) front).after
  pub fixed : new.fixed ≡ old.fixed
