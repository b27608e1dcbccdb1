-- A priority's size is read only if it is written in digits and nothing else.
use Rattle.std.proofs.Common.{◌≡◌, ◌≢◌, ℕ, cond, leb, List, get_or, Some, None, Ok, Err, ◌∙◌, ap}
use Rattle.std.proofs.Common.{arith}
use Rattle.std.specs.Str.Parse.{digits_value, ParsesUnsigned}
use Rattle.td_version.proofs.Digits.{is_within-parsed, is_within-unparsed}
use Rattle.td_wbread.specs.Verbs.{size_at}

pub parsed_size : (t : List ℕ) (n : ℕ) → ParsesUnsigned {E = ℕ} 32 10 t (Ok n)
    → get_or t 0 0 ≢ 43 → size_at t ≡ cond (leb n 9999) (Some n) None
parsed_size t n h sign_free =
    let p = is_within-parsed 9999 t n h sign_free in
    ap (λ b. cond b (Some (digits_value 10 t)) None) p.0
    ∙ ap (λ v. cond (leb n 9999) (Some v) None) p.1

pub unparsed_size : (t : List ℕ) → ParsesUnsigned {E = ℕ} 32 10 t (Err 0) → get_or t 0 0 ≢ 43
    → size_at t ≡ None
unparsed_size t h sign_free =
    ap (λ b. cond b (Some (digits_value 10 t)) None)
    (is_within-unparsed 9999 t (omega arith) h sign_free)
