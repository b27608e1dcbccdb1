-- Memory is taken for the key of a request, and for no other line.
use Rattle.std.proofs.Common.{◌≡◌, ℕ, Bool, List, Option, Some, None, cond, false, subst, sym}
use Rattle.std.specs.Prelude.{IsSomeAnd}
use Rattle.td_script.specs.declared.line.Said.TheVariants.{Skipped, Asked}
use Rattle.td_script.specs.declared.request.Request.{Request}
use Rattle.td_script.specs.Reading.{AsksByKey, HasKey, is_skipped, request_at, said_at, unasked}

asked_by_key : (line : List ℕ) (o : Option Request) → IsSomeAnd o HasKey
    → AsksByKey (elim o [ Some x ↦ Asked x | None ↦ unasked line ])
asked_by_key line None none = absurd none
asked_by_key line (Some r) has = has

-- a line that isn't skipped, and is a request with a key
pub said_by_key : (line : List ℕ) → is_skipped line ≡ false → IsSomeAnd (request_at line) HasKey
    → AsksByKey (said_at line)
unfolding said_at
said_by_key line asked has =
    subst (λ (b : Bool). AsksByKey
    (cond b Skipped (elim (request_at line) [ Some x ↦ Asked x | None ↦ unasked line ])))
    (sym asked) (asked_by_key line (request_at line) has)
