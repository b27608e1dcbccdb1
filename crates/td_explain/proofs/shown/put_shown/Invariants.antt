-- What the loop of `put_shown` keeps.
use Rattle.std.proofs.Common.{◌≡◌, ◌++◌, IsUtf8, chars, string_bytes}
use Rattle.std.specs.Str.Iter.{chars_rest}
use Rattle.td_explain.specs.Shown.{shown, shown_from}
use Rattle.td_explain.proofs.shown.put_shown.Given as goal

-- what is left of the text is shown after what was appended
abbrev pub invariant-loop-c : goal.invariant-loop-c
invariant-loop-c l = IsUtf8 (chars_rest l.rest)
    × (string_bytes l.out ++ shown_from l.left (chars (chars_rest l.rest))
    ≡ string_bytes l.fn.out ++ shown l.fn.most (chars l.fn.text))
