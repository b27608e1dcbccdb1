-- Architectures, and the dot or the end after them.
use Rattle.std.proofs.Common.{◌≡◌, ℕ, suc, ◌+◌, ◌<◌, Bool, true, false, not, cond, ltb, ◌||◌, ◌&&◌}
use Rattle.std.proofs.Common.{List, [], ◌∷◌, ◌++◌, Option, Some, None, Result, Ok, Err, length}
use Rattle.std.proofs.Common.{drop, refl, sym, ap, ◌∙◌, subst, arith, append-nil}
use Rattle.std.specs.List.{position_or_len, list_all, list_any}
use Rattle.std.specs.Option.{option_map}
use Rattle.std.proofs.lemmas.Bool.{le-ltb, ltb-false}
use Rattle.std.proofs.lemmas.List.{take_all}
use Rattle.td_text.specs.Lines.{on_ok}
use Rattle.td_text.proofs.Chain.{on_ok_parts}
use Rattle.td_relation.specs.Arch.{ArchWords}
use Rattle.td_wbread.specs.declared.fault.CommandFault.{CommandFault}
use Rattle.td_wbread.specs.declared.fault.CommandFault.TheVariants.{Wrong}
use Rattle.td_wbread.specs.declared.fault.LineFault.TheVariants.{NoArch, UnknownArch}
use Rattle.td_wbread.specs.declared.word.Word.{Word}
use Rattle.td_wbread.specs.declared.word.End.{End}
use Rattle.td_wbread.specs.ArchLaws.{ArchsAreExact, AreArchs, GoesOn, are_arch_words}
use Rattle.td_wbread.specs.Archs.{archs_at, archs_checked, is_arch_word, is_choice}
use Rattle.td_wbread.specs.Faults.{all_pass, before_dot, behind_dot, filled, is_dot}
use Rattle.td_wbread.proofs.Dotted.{all_passing, all_tested, before_at, behind_at, dot_found}
use Rattle.td_wbread.proofs.Dotted.{filled_by, none_before, some_before}

-- ---- words without a dot

all_before : (front : List Word) → list_any is_dot front ≡ false
    → position_or_len is_dot front ≡ length front
all_before [] none = refl
all_before (x ∷ front) none =
    by (is_dot x) none (λ (g : list_any is_dot front ≡ false). all_before front g)
  where
    by : (b : Bool) → (b || list_any is_dot front) ≡ false
        → (list_any is_dot front ≡ false → position_or_len is_dot front ≡ length front)
        → cond (not b) (1 + position_or_len is_dot front) 0 ≡ suc (length front)
    by true g later = absurd cc
    by false g later = let e = later g in omega arith

pub before_all : (front : List Word) → list_any is_dot front ≡ false → before_dot front ≡ front
before_all front none = let e = all_before front none in
    take_all (position_or_len is_dot front) front (omega arith)

pub behind_all : (front : List Word) → list_any is_dot front ≡ false → behind_dot front ≡ None
behind_all front none = by (ltb (position_or_len is_dot front) (length front))
    (le-ltb _ _ (let e = all_before front none in omega arith))
  where
    by : (b : Bool) → b ≡ false → option_map (λ (i : ℕ). drop (i + 1) front)
        (cond b (Some (position_or_len is_dot front)) None) ≡ None
    by false h = refl
    by true h = absurd cc

none_found : (words : List Word) → behind_dot words ≡ None → words ≡ before_dot words
none_found words h = by (ltb (position_or_len is_dot words) (length words)) refl h
  where
    by : (b : Bool) → ltb (position_or_len is_dot words) (length words) ≡ b
        → option_map (λ (i : ℕ). drop (i + 1) words)
        (cond b (Some (position_or_len is_dot words)) None) ≡ None → words ≡ before_dot words
    by true is g = absurd cc
    by false is g = sym (take_all (position_or_len is_dot words) words
        (ltb-false (position_or_len is_dot words) (length words) is))

-- ---- the tests

checked_fit : (table : List ArchWords) (front : List Word) → 0 < length front
    → archs_checked table front ≡ Ok (tt {0}) → are_arch_words table front ≡ true
checked_fit table [] some h = absurd (omega arith)
checked_fit table (x ∷ front) some h = by (is_choice table x.text) h
  where
    by : (b : Bool)
        → cond b (all_pass (is_arch_word table) UnknownArch front) (Err (Wrong UnknownArch x.place))
        ≡ Ok (tt {0}) → (b && list_all (λ (w : Word). is_arch_word table w.text) front) ≡ true
    by true g = all_tested (is_arch_word table) UnknownArch front g
    by false g = absurd cc

fit_checked : (table : List ArchWords) (front : List Word) → are_arch_words table front ≡ true
    → archs_checked table front ≡ Ok (tt {0})
fit_checked table [] h = absurd cc
fit_checked table (x ∷ front) h = by (is_choice table x.text) h
  where
    by : (b : Bool) → (b && list_all (λ (w : Word). is_arch_word table w.text) front) ≡ true
        → cond b (all_pass (is_arch_word table) UnknownArch front) (Err (Wrong UnknownArch x.place))
        ≡ Ok (tt {0})
    by true g = all_passing (is_arch_word table) UnknownArch front g
    by false g = absurd cc

fit_some : (table : List ArchWords) (front : List Word) → are_arch_words table front ≡ true
    → 0 < length front
fit_some table [] h = absurd cc
fit_some table (x ∷ front) h = omega arith

-- ---- both directions

abbrev done : List Word × Option (List Word) → Result (List Word × Option (List Word)) CommandFault
done p = Ok p

ok_same : (p q : List Word × Option (List Word)) → done p ≡ done q → p ≡ q
ok_same p q h = cc

goes_on : (words : List Word) → GoesOn words (before_dot words) (behind_dot words)
goes_on words = by (behind_dot words) refl
  where
    by : (o : Option (List Word)) → behind_dot words ≡ o → GoesOn words (before_dot words) o
    by None is = none_found words is
    by (Some rest) is = dot_found words rest is

archs_found : (table : List ArchWords) (end : End) (words front : List Word) (behind : Option
    (List Word)) → archs_at table end words ≡ Ok (front, behind) → AreArchs table words front behind
archs_found table end words front behind h =
    let a = on_ok_parts (filled end NoArch words)
    (λ _. on_ok (archs_checked table (before_dot words))
    (λ _. done (before_dot words, behind_dot words))) (front, behind) h in
    let b = on_ok_parts (archs_checked table (before_dot words))
    (λ _. done (before_dot words, behind_dot words)) (front, behind) a.2 in
    let both : (before_dot words, behind_dot words) ≡ (front, behind) =
    ok_same (before_dot words, behind_dot words) (front, behind) b.2 in
    let f : before_dot words ≡ front = ap (λ (p : List Word × Option (List Word)). p.0) both in
    record {
      joined = subst (λ (p : List Word × Option (List Word)). GoesOn words p.0 p.1) both
          (goes_on words);
      no_dot = subst (λ (ws : List Word). list_any is_dot ws ≡ false) f (none_before words);
      archs = subst (λ (ws : List Word). are_arch_words table ws ≡ true) f
          (checked_fit table (before_dot words) (some_before end NoArch words a.1) b.1);
    }

archs_by : (table : List ArchWords) (end : End) (words front : List Word)
    (behind : Option (List Word)) → filled end NoArch words ≡ Ok (tt {0}) → before_dot words ≡ front
    → behind_dot words ≡ behind → are_arch_words table front ≡ true
    → archs_at table end words ≡ Ok (front, behind)
archs_by table end words front behind some before after fit =
    ap (λ r. on_ok r (λ _. on_ok (archs_checked table (before_dot words))
    (λ _. done (before_dot words, behind_dot words)))) some
    ∙ ap (λ (f : List Word). on_ok (archs_checked table f) (λ _. done (f, behind_dot words))) before
    ∙ ap (λ r. on_ok r (λ _. done (front, behind_dot words))) (fit_checked table front fit)
    ∙ ap (λ (o : Option (List Word)). done (front, o)) after

archs_read : (table : List ArchWords) (end : End) (words front : List Word)
    (behind : Option (List Word)) → GoesOn words front behind → list_any is_dot front ≡ false
    → are_arch_words table front ≡ true → archs_at table end words ≡ Ok (front, behind)
archs_read table end words front None joined none fit =
    subst (λ (ws : List Word). archs_at table end ws ≡ Ok (front, None)) (sym joined)
    (archs_by table end front front None
    (ap (filled end NoArch) (sym (append-nil front))
    ∙ filled_by end NoArch front [] (fit_some table front fit) none)
    (before_all front none) (behind_all front none) fit)
archs_read table end words front (Some rest) joined none fit =
    subst (λ (ws : List Word). archs_at table end ws ≡ Ok (front, Some rest)) (sym joined.1)
    (archs_by table end (front ++ joined.0 ∷ rest) front (Some rest)
    (filled_by end NoArch front (joined.0 ∷ rest) (fit_some table front fit) none)
    (before_at front rest joined.0 none joined.2) (behind_at front rest joined.0 none joined.2) fit)

pub archs_exact : ArchsAreExact
archs_exact = λ table end words front behind. (
  archs_found table end words front behind,
  λ a. archs_read table end words front behind a.joined a.no_dot a.archs,
)
