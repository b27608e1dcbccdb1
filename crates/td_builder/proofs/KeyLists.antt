-- The lines of keys, as one more is read.
use Rattle.std.proofs.Common.{◌≡◌, ℕ, suc, ◌+◌, Bool, true, false, cond, List, [], ◌∷◌, ◌++◌}
use Rattle.std.proofs.Common.{length, map, refl, ap}
use Rattle.std.proofs.Common.{◌∙◌, arith}
use Rattle.td_board.specs.declared.outcome.OutcomeCode.{OutcomeCode}
use Rattle.td_rows.specs.declared.key.Key.{Key}
use Rattle.td_rows.specs.declared.outcome.Outcome.{Outcome}
use Rattle.td_rows.specs.Keys.{same_key}
use Rattle.td_journal.specs.Endings.{outcome_text}
use Rattle.td_book.specs.Deeds.{code_of}
use Rattle.td_builder.specs.declared.key_line.KeyLine.{KeyLine}
use Rattle.td_builder.specs.Unused.{numbered, codes_in}

-- ---- the numbers of lines

pub numbered-push : (k : Key) (n m : ℕ) (os : List (Key × Outcome)) (p : Key × Outcome)
    → n + length os ≡ m → numbered k n (os ++ p ∷ [])
    ≡ cond (same_key k p.0) (numbered k n os ++ record { code = code_of p.1; line = m } ∷ [])
    (numbered k n os)
numbered-push k n m [] p is =
    let here : n ≡ m = omega (arith, is) in
    ap (λ (x : ℕ). cond (same_key k p.0) (record { code = code_of p.1; line = x } ∷ []) []) here
numbered-push k n m (q ∷ os) p is =
    let more = numbered-push k (n + 1) m os p (omega (arith, is)) in
    elim (same_key k q.0) as (λ b.
    cond b (record { code = code_of q.1; line = n } ∷ numbered k (n + 1) (os ++ p ∷ []))
    (numbered k (n + 1) (os ++ p ∷ []))
    ≡ cond (same_key k p.0)
    (cond b (record { code = code_of q.1; line = n } ∷ numbered k (n + 1) os)
    (numbered k (n + 1) os) ++ record { code = code_of p.1; line = m } ∷ [])
    (cond b (record { code = code_of q.1; line = n } ∷ numbered k (n + 1) os)
    (numbered k (n + 1) os))) [
      | true ↦
          ap (λ (l : List KeyLine). record { code = code_of q.1; line = n } ∷ l) more
          ∙ pushed (same_key k p.0) (record { code = code_of q.1; line = n })
          (numbered k (n + 1) os) (record { code = code_of p.1; line = m })
      | false ↦ more
    ]
  where
    pushed : (b : Bool) (x : KeyLine) (l : List KeyLine) (y : KeyLine)
        → x ∷ cond b (l ++ y ∷ []) l ≡ cond b (x ∷ (l ++ y ∷ [])) (x ∷ l)
    pushed true x l y = refl
    pushed false x l y = refl

-- the codes of a key's lines
pub codes_numbered : (k : Key) (n : ℕ) (os : List (Key × Outcome))
    → map (λ (l : KeyLine). l.code) (numbered k n os) ≡ codes_in k os
codes_numbered k n [] = refl
codes_numbered k n (p ∷ os) =
    elim (same_key k p.0) as (λ b.
    map (λ (l : KeyLine). l.code)
    (cond b (record { code = code_of p.1; line = n } ∷ numbered k (n + 1) os)
    (numbered k (n + 1) os)) ≡ cond b (code_of p.1 ∷ codes_in k os) (codes_in k os)) [
      | true ↦ ap (λ (l : List OutcomeCode). code_of p.1 ∷ l) (codes_numbered k (n + 1) os)
      | false ↦ codes_numbered k (n + 1) os
    ]

pub texts-push : (os : List (Key × Outcome)) (p : Key × Outcome)
    → map (λ (x : Key × Outcome). outcome_text x.1) (os ++ p ∷ [])
    ≡ map (λ (x : Key × Outcome). outcome_text x.1) os ++ outcome_text p.1 ∷ []
texts-push [] p = refl
texts-push (q ∷ os) p = ap (λ (l : List (List ℕ)). outcome_text q.1 ∷ l) (texts-push os p)

pub length-texts : (os : List (Key × Outcome))
    → length (map (λ (x : Key × Outcome). outcome_text x.1) os) ≡ length os
length-texts [] = refl
length-texts (p ∷ os) = ap suc (length-texts os)

pub length-push : (os : List (Key × Outcome)) (p : Key × Outcome)
    → length (os ++ p ∷ []) ≡ suc (length os)
length-push [] p = refl
length-push (q ∷ os) p = ap suc (length-push os p)
