-- Where the lines of a field end. Policy 5.1.
use Rattle.std.specs.Prelude.{◌≡◌, ℕ, IsTrue, false, List, ◌++◌, Option}
use Rattle.std.specs.Borrow.{Bor}
use Rattle.std.specs.List.{AllByRecursion}
use Rattle.td_text.specs.Lines.{lines_left, left_text}
use Rattle.td_stanza.specs.declared.entry.Field.{Field}
use Rattle.td_stanza.specs.Line.{is_continuation, first_line}
use Rattle.td_stanza.specs.Value.{value_of, after_newlines}

-- what is left after a field's first line, and after the lines that continue it
pub record Skips (after rest : Option (Bor (List ℕ))) : Type 0 where
  pub more : List (List ℕ)
  pub lines : lines_left after ≡ more ++ lines_left rest
  pub text : left_text after ≡ after_newlines more ++ left_text rest
  pub continued : AllByRecursion (λ line. IsTrue (is_continuation line)) more

-- no line that continues a field comes next
abbrev pub IsEnded : Option (Bor (List ℕ)) → Type 0
IsEnded rest = is_continuation (first_line (lines_left rest)) ≡ false

-- the field of a name and of what follows the colon on its first line, and what is left after it
pub record IsTaken (name first : List ℕ) (after : Option (Bor (List ℕ))) (field : Field)
    (rest : Option (Bor (List ℕ))) : Type 0 where
  pub skips : Skips after rest
  pub name_is : field.name.now ≡ name
  pub value_is : field.value.now ≡ value_of first (skips.more)
