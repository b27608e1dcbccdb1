-- Words before and after a dot.
use Rattle.std.proofs.Common.{◌≡◌, ℕ, ◌+◌, ◌-◌, ◌≤◌, Bool, true, false, cond, ltb, List, length}
use Rattle.std.proofs.Common.{take, drop, Some, None, refl, sym, ap, ◌∙◌, arith, length-drop}
use Rattle.std.specs.List.{position, position_or_len}
use Rattle.std.specs.Option.{option_map}
use Rattle.std.proofs.lemmas.Bool.{ltb-false}
use Rattle.std.proofs.lemmas.List.{take_all}
use Rattle.td_wbread.specs.declared.word.Word.{Word}
use Rattle.td_wbread.specs.Faults.{is_dot, before_dot, behind_dot}

place_is : (test : Word → Bool) (words : List Word) (dot : ℕ) → Some dot ≡ position test words
    → dot ≡ position_or_len test words
place_is test words dot h = by (ltb (position_or_len test words) (length words)) h
  where
    by : (v : Bool) → Some dot ≡ cond v (Some (position_or_len test words)) None
        → dot ≡ position_or_len test words
    by true g = cc
    by false g = absurd cc

pub dot_before : (words : List Word) (dot : ℕ) → Some dot ≡ position is_dot words
    → take dot words ≡ before_dot words
dot_before words dot h = ap (λ (n : ℕ). take n words) (place_is is_dot words dot h)

pub dot_behind : (words : List Word) (dot : ℕ) → Some dot ≡ position is_dot words
    → Some (take (length words - (dot + 1)) (drop (dot + 1) words)) ≡ behind_dot words
dot_behind words dot h =
    let short : length (drop (dot + 1) words) ≤ length words - (dot + 1) =
    omega (arith, length-drop (dot + 1) words) in
    ap (λ (ws : List Word). Some ws)
    (take_all (length words - (dot + 1)) (drop (dot + 1) words) short)
    ∙ ap (option_map (λ (i : ℕ). drop (i + 1) words)) h

pub no_dot_before : (words : List Word) → None ≡ position is_dot words → words ≡ before_dot words
no_dot_before words h = by (ltb (position_or_len is_dot words) (length words)) refl h
  where
    by : (v : Bool) → ltb (position_or_len is_dot words) (length words) ≡ v
        → None ≡ cond v (Some (position_or_len is_dot words)) None → words ≡ before_dot words
    by true is g = absurd cc
    by false is g = sym (take_all (position_or_len is_dot words) words
        (ltb-false (position_or_len is_dot words) (length words) is))

pub no_dot_behind : (words : List Word) → None ≡ position is_dot words → None ≡ behind_dot words
no_dot_behind words h = ap (option_map (λ (i : ℕ). drop (i + 1) words)) h
