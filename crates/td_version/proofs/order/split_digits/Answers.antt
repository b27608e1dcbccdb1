-- `split_digits`: the clauses `first`, `after` and `digits`.
use Rattle.std.proofs.Common.{◌≡◌, length, ap, ◌∙◌, not, take, drop, unwrap_or}
use Rattle.std.specs.Char.{is_ascii_digit}
use Rattle.std.specs.List.{position_or_len}
use Rattle.std.specs.Str.{all_ascii_digits}
use Rattle.td_version.specs.Comparing.{first_digits}
use Rattle.td_version.proofs.Comparing.{take-digits, drop-digits, first_digits-test}
use Rattle.td_version.proofs.Comparing.{unwrap_or-position}
use Rattle.td_version.proofs.order.split_digits.Goals as goal

-- where the digits end
count : (c : goal.After-split_at)
    → c.unwrap_or.result ≡ position_or_len (λ b. not (is_ascii_digit b)) c.args.part.now
count c =
    c.unwrap_or.ensures ∙ ap (λ o. unwrap_or o (length c.args.part.now))
    c.first_symbol.ensures.place ∙ unwrap_or-position (λ b. not (is_ascii_digit b)) c.args.part.now

front : (c : goal.After-split_at) → c.split_at.result.0.now ≡ first_digits c.args.part.now
front c =
    c.split_at.ensures.front ∙ ap (λ n. take n c.args.part.now) (count c)
    ∙ take-digits c.args.part.now

pub returns-clause-first : goal.returns-clause-first
returns-clause-first c = front c

pub returns-clause-after : goal.returns-clause-after
returns-clause-after c =
    c.split_at.ensures.back ∙ ap (λ n. drop n c.args.part.now) (count c)
    ∙ drop-digits c.args.part.now

pub returns-clause-digits : goal.returns-clause-digits
returns-clause-digits c = ap all_ascii_digits (front c) ∙ first_digits-test c.args.part.now
