-- An epoch is read only if it is written in digits and nothing else.
use Rattle.std.proofs.Common.{◌≡◌, ◌≢◌, ℕ, cond, leb, List, [], ◌∷◌, length, get_or, Ok, Err, refl}
use Rattle.std.proofs.Common.{◌∙◌, ap, arith}
use Rattle.std.specs.Str.Parse.{digits_value, ParsesUnsigned}
use Rattle.std.proofs.lemmas.Bool.{lt-ltb}
use Rattle.td_version.specs.declared.version.VersionFault.TheVariants.{BadEpoch}
use Rattle.td_version.specs.Reading.{digits_at}
use Rattle.td_version.proofs.Digits.{is_within-parsed, is_within-unparsed}

pub signed : (t : List ℕ) → get_or t 0 0 ≡ 43 → digits_at t ≡ Err BadEpoch
unfolding digits_at
signed [] e = absurd (omega arith)
signed (x ∷ t) e = rw (e, lt-ltb 0 (length (x ∷ t)) (omega arith)) refl

pub parsed : (t : List ℕ) (n : ℕ) → ParsesUnsigned {E = ℕ} 32 10 t (Ok n) → get_or t 0 0 ≢ 43
    → digits_at t ≡ cond (leb n 2147483647) (Ok n) (Err BadEpoch)
unfolding digits_at
parsed t n h sign_free =
    let p = is_within-parsed 2147483647 t n h sign_free in
    ap (λ b. cond b (Ok (digits_value 10 t)) (Err BadEpoch)) p.0
    ∙ ap (λ v. cond (leb n 2147483647) (Ok v) (Err BadEpoch)) p.1

pub unparsed : (t : List ℕ) → ParsesUnsigned {E = ℕ} 32 10 t (Err 0) → get_or t 0 0 ≢ 43
    → digits_at t ≡ Err BadEpoch
unfolding digits_at
unparsed t h sign_free =
    ap (λ b. cond b (Ok (digits_value 10 t)) (Err BadEpoch))
    (is_within-unparsed 2147483647 t (omega arith) h sign_free)
