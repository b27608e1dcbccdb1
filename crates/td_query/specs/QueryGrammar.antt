-- The grammar of queries, by cases on the text:
-- what a text reads as, and at which byte it goes wrong. This project's own, in the style of ben.
use Rattle.std.specs.Prelude.{ℕ, zero, suc, ◌-◌, ◌==◌, max, true, false, List, [], ◌∷◌, ◌++◌}
use Rattle.std.specs.Prelude.{Option, Some, None, Result, Ok, Err, length, codes, if◌then◌else◌}
use Rattle.std.specs.Str.{bytes_eq}
use Rattle.td_text.specs.Cut.{cut, strip}
use Rattle.td_text.specs.Lines.{on_ok}
use Rattle.td_text.specs.Runs.{run, behind}
use Rattle.td_query.specs.declared.query.Joint.{Joint}
use Rattle.td_query.specs.declared.query.Joint.TheVariants.{And, Or}
use Rattle.td_query.specs.Query.{Shape, always, text, pattern, negated, joined}
use Rattle.td_query.specs.Tokens.{skipped, is_key_byte, common_len, pattern_in}

-- a pattern as it is in a text:
-- how much of the text is left at its opening `/`, and what is between its slashes
pub record Raw : Type 0 where
  pub left : ℕ
  pub raw : List ℕ

-- the patterns so far, in their order
abbrev pub Log : Type 0
Log = List Raw

-- a query, the patterns so far and what follows; or how much of the text is left at the first byte
-- that nothing can take, and the patterns before it
abbrev pub Read : Type 0
Read = Result (Shape × Log × List ℕ) (ℕ × Log)

-- ---- 1. atoms

-- how many bytes a word has in common with the beginning of `true` or `false`
abbrev pub begun : List ℕ → ℕ
begun word = max (common_len word (codes "true")) (common_len word (codes "false"))

-- `true` or `false`; another word is wrong at the first byte that continues neither
unfoldable pub word_atom : Log → List ℕ → Read
word_atom log at =
    if bytes_eq (run is_key_byte at) (codes "true")
    then Ok (always true, log, behind is_key_byte at)
    else (if bytes_eq (run is_key_byte at) (codes "false")
    then Ok (always false, log, behind is_key_byte at)
    else Err (length at - begun (run is_key_byte at), log))

-- a text up to its closing `"`, if there is one
abbrev pub quote_atom : Log → List ℕ → Option (List ℕ × List ℕ) → Read
quote_atom log field None = Err (0, log)
quote_atom log field (Some p) = Ok (text field p.0, log, p.1)

-- a pattern up to its closing `/`, if there is one
unfoldable pub slash_atom : Log → List ℕ → ℕ → Option (List ℕ × List ℕ) → Read
slash_atom log field left None = Err (0, log)
slash_atom log field left (Some p) = Ok (
  pattern field (length log),
  log
      ++ record { left = left; raw = p.0 } ∷ [],
  p.1,
)

-- a pattern after its opening `/`, if there is one
abbrev pub slashed : Log → List ℕ → ℕ → Option (List ℕ) → Read
slashed log field left None = Err (left, log)
slashed log field left (Some t) = slash_atom log field left (pattern_in t)

-- a text after its opening `"`, or else a pattern
abbrev pub quoted : Log → List ℕ → List ℕ → Option (List ℕ) → Read
quoted log field at None = slashed log field (length at) (strip (codes "/") at)
quoted log field at (Some t) = quote_atom log field (cut 34 t)

-- what comes after a `~`
unfoldable pub tested : Log → List ℕ → List ℕ → Read
tested log field t = quoted log field (skipped t) (strip (codes "\"") (skipped t))

-- a `~`, if there is one
abbrev pub tilded : Log → List ℕ → ℕ → Option (List ℕ) → Read
tilded log field left None = Err (left, log)
tilded log field left (Some t) = tested log field t

-- what comes after the name of a field
unfoldable pub tilde_atom : Log → List ℕ → List ℕ → Read
tilde_atom log field t = tilded log field (length (skipped t)) (strip (codes "~") (skipped t))

-- what comes after a dot: the name of a field, right after it
unfoldable pub field_atom : Log → List ℕ → Read
field_atom log t = if length (run is_key_byte t) == 0 then Err (length t, log)
    else tilde_atom log (run is_key_byte t) (behind is_key_byte t)

-- a field after its dot, or else a word
abbrev pub dotted : Log → List ℕ → Option (List ℕ) → Read
dotted log at None = word_atom log at
dotted log at (Some t) = field_atom log t

-- .field ~ "text" | .field ~ /pattern/ | true | false
unfoldable pub atom : Log → List ℕ → Read
atom log at = dotted log at (strip (codes ".") at)

-- ---- 2. `!`, `&`, `|` and brackets

-- what follows a mark, if the mark comes first
unfoldable pub behind_mark : List ℕ → List ℕ → Option (List ℕ)
behind_mark mark t = strip mark (skipped t)

-- a `)`, if there is one
abbrev pub closed_by : Shape → Log → ℕ → Option (List ℕ) → Read
closed_by shape log left None = Err (left, log)
closed_by shape log left (Some t) = Ok (shape, log, t)

-- a query in brackets, with the `)` after it
unfoldable pub closed : Shape × Log × List ℕ → Read
closed x = closed_by x.0 x.1 (length (skipped x.2)) (strip (codes ")") (skipped x.2))

-- what comes after a `!`, negated
abbrev pub negating : Shape × Log × List ℕ → Read
negating x = Ok (negated x.0, x.1, x.2)

-- a reading of what follows a mark, or else another
abbrev pub or_else : Option (List ℕ) → (List ℕ → Read) → Read → Read
or_else None f other = other
or_else (Some t) f other = f t

-- the mark between the parts
abbrev pub mark_of : Joint → List ℕ
mark_of And = codes "&"
mark_of Or = codes "|"

-- the parts so far, and the next one if the mark comes first
abbrev pub next : Joint → (Log → List ℕ → Read) → (List Shape → Log → List ℕ → Read) → List Shape
    → Log → List ℕ → Option (List ℕ) → Read
next joint read more parts log t None = Ok (joined joint parts, log, t)
next joint read more parts log t (Some u) =
    on_ok (read log u) (λ x. more (parts ++ x.0 ∷ []) x.1 x.2)

-- {mark part} after the parts so far, at most this many times
unfoldable pub more : Joint → (Log → List ℕ → Read) → ℕ → List Shape → Log → List ℕ → Read
more joint read zero parts log t = Ok (joined joint parts, log, t)
more joint read (suc n) parts log t = next joint read (more joint read n) parts log t
    (behind_mark (mark_of joint) t)

-- part {mark part}; each takes a byte at least, so there are no more than bytes
abbrev pub parts_with : Joint → (Log → List ℕ → Read) → Log → List ℕ → Read
parts_with joint read log t =
    on_ok (read log t) (λ x. more joint read (length x.2) (x.0 ∷ []) x.1 x.2)

-- not {"&" not}
abbrev pub and_with : (Log → List ℕ → Read) → Log → List ℕ → Read
and_with read log t = parts_with And read log t

-- and {"|" and}
unfoldable pub or_with : (Log → List ℕ → Read) → Log → List ℕ → Read
or_with read log t = parts_with Or (and_with read) log t

-- "!" not | "(" or ")" | atom, with this many brackets and `!` left to open
unfoldable pub not_in : ℕ → Log → List ℕ → Read
not_in zero log t =
    or_else (strip (codes "!") (skipped t)) (λ u. Err (length (skipped t), log))
    (or_else (strip (codes "(") (skipped t)) (λ u. Err (length (skipped t), log))
    (atom log (skipped t)))
not_in (suc depth) log t =
    or_else (strip (codes "!") (skipped t)) (λ u. on_ok (not_in depth log u) negating)
    (or_else (strip (codes "(") (skipped t)) (λ u. on_ok (or_with (not_in depth) log u) closed)
    (atom log (skipped t)))

-- what an `&` joins, with this many brackets and `!` left to open: an atom, or what is in
-- brackets or after a `!`
abbrev pub not_at : ℕ → Log → List ℕ → Read
not_at depth log t = not_in depth log t

-- what a mark joins: `&` joins parts, and `|` also several of them with `&` between
abbrev pub part_at : Joint → ℕ → Log → List ℕ → Read
part_at And depth log t = not_in depth log t
part_at Or depth log t = and_with (not_in depth) log t

-- one part, or several with the mark between them
abbrev pub parts_at : Joint → ℕ → Log → List ℕ → Read
parts_at joint depth log t = parts_with joint (part_at joint depth) log t

-- a query, with this many brackets and `!` left to open
abbrev pub or_at : ℕ → Log → List ℕ → Read
or_at depth log t = or_with (not_in depth) log t
