-- Packages and the dot after them.
use Rattle.std.proofs.Common.{◌≡◌, ℕ, suc, ◌+◌, ◌<◌, Bool, true, false, not, cond, ltb, ◌||◌, ◌&&◌}
use Rattle.std.proofs.Common.{List, [], ◌∷◌, ◌++◌, Option, Some, None, Result, Ok, Err, length}
use Rattle.std.proofs.Common.{take, drop, refl, sym, ap, ◌∙◌, subst, arith, get_or, length-append}
use Rattle.std.specs.List.{position_or_len, after_first, list_all, list_any, find}
use Rattle.std.specs.Option.{option_map}
use Rattle.std.proofs.Math.Seq.{take-append_seam, drop-append-add}
use Rattle.std.proofs.lemmas.Bool.{lt-ltb, ltb-true}
use Rattle.std.proofs.lemmas.List.Sums.{split_at_first, passes_at_first}
use Rattle.td_text.specs.Lines.{on_ok}
use Rattle.td_text.proofs.Chain.{on_ok_parts}
use Rattle.td_wbread.specs.declared.fault.CommandFault.{CommandFault}
use Rattle.td_wbread.specs.declared.fault.CommandFault.TheVariants.{Wrong}
use Rattle.td_wbread.specs.declared.fault.LineFault.{LineFault}
use Rattle.td_wbread.specs.declared.fault.LineFault.TheVariants.{NoPackage, BadPackage}
use Rattle.td_wbread.specs.declared.word.Word.{Word}
use Rattle.td_wbread.specs.declared.word.End.{End}
use Rattle.td_wbread.specs.Faults.{all_pass, before_dot, behind_dot, filled, is_dot, wrong_at}
use Rattle.td_wbread.specs.Packages.{dotted, is_package, packages_at}
use Rattle.td_wbread.specs.PackageLaws.{ArePackages, PackagesAreExact}

-- ---- the first dot

dot_at : (front rest : List Word) (dot : Word) → list_any is_dot front ≡ false → is_dot dot ≡ true
    → position_or_len is_dot (front ++ dot ∷ rest) ≡ length front
dot_at [] rest dot none is = by (is_dot dot) is
  where
    by : (b : Bool) → b ≡ true → cond (not b) (1 + position_or_len is_dot rest) 0 ≡ 0
    by true h = refl
    by false h = absurd cc
dot_at (x ∷ front) rest dot none is =
    by (is_dot x) none (λ (g : list_any is_dot front ≡ false). dot_at front rest dot g is)
  where
    by : (b : Bool) → (b || list_any is_dot front) ≡ false
        → (list_any is_dot front ≡ false
        → position_or_len is_dot (front ++ dot ∷ rest) ≡ length front)
        → cond (not b) (1 + position_or_len is_dot (front ++ dot ∷ rest)) 0 ≡ suc (length front)
    by true g later = absurd cc
    by false g later = let e = later g in omega arith

pub before_at : (front rest : List Word) (dot : Word) → list_any is_dot front ≡ false
    → is_dot dot ≡ true → before_dot (front ++ dot ∷ rest) ≡ front
before_at front rest dot none is = ap (λ (n : ℕ). take n (front ++ dot ∷ rest))
    (dot_at front rest dot none is) ∙ take-append_seam front (dot ∷ rest)

pub behind_at : (front rest : List Word) (dot : Word) → list_any is_dot front ≡ false
    → is_dot dot ≡ true → behind_dot (front ++ dot ∷ rest) ≡ Some rest
behind_at front rest dot none is = by (ltb (position_or_len is_dot words) (length words)) inside
  where
    words : List Word
    words = front ++ dot ∷ rest

    here : position_or_len is_dot (front ++ dot ∷ rest) ≡ length front
    here = dot_at front rest dot none is

    inside : ltb (position_or_len is_dot (front ++ dot ∷ rest)) (length (front ++ dot ∷ rest))
        ≡ true
    inside = lt-ltb _ _ (let e = here in omega (arith, length-append front (dot ∷ rest)))

    by : (b : Bool) → b ≡ true → option_map (λ (i : ℕ). drop (i + 1) (front ++ dot ∷ rest))
        (cond b (Some (position_or_len is_dot (front ++ dot ∷ rest))) None) ≡ Some rest
    by false h = absurd cc
    by true h = ap (λ (n : ℕ). Some (drop (n + 1) (front ++ dot ∷ rest))) here
        ∙ ap (λ (ws : List Word). Some ws) (drop-append-add front (dot ∷ rest) 1)

no_word : Word
no_word = record { text = []; is_bare = false; place = 0 }

-- what stands behind a dot has one in front
pub dot_found : (words rest : List Word) → behind_dot words ≡ Some rest
    → (dot : Word) × (words ≡ before_dot words ++ dot ∷ rest) × (is_dot dot ≡ true)
dot_found words rest h = by (ltb (position_or_len is_dot words) (length words)) refl h
  where
    n : ℕ
    n = position_or_len is_dot words

    by : (b : Bool) → ltb (position_or_len is_dot words) (length words) ≡ b
        → option_map (λ (i : ℕ). drop (i + 1) words)
        (cond b (Some (position_or_len is_dot words)) None) ≡ Some rest
        → (dot : Word) × (words ≡ before_dot words ++ dot ∷ rest) × (is_dot dot ≡ true)
    by false is g = absurd cc
    by true is g =
        let lt = ltb-true (position_or_len is_dot words) (length words) is in
        let e : after_first is_dot words ≡ rest = cc in (
          get_or words (position_or_len is_dot words) no_word,
          split_at_first is_dot words no_word lt
              ∙ ap (λ (r : List Word). before_dot words ++ get_or words
              (position_or_len is_dot words) no_word ∷ r) e,
          passes_at_first is_dot words no_word lt,
        )

pub none_before : (words : List Word) → list_any is_dot (before_dot words) ≡ false
none_before [] = refl
none_before (x ∷ words) = by (is_dot x) refl (none_before words)
  where
    by : (b : Bool) → is_dot x ≡ b → list_any is_dot (before_dot words) ≡ false → list_any is_dot
        (take (cond (not b) (1 + position_or_len is_dot words) 0) (x ∷ words)) ≡ false
    by true is g = refl
    by false is g =
        let e : suc (position_or_len is_dot words) ≡ 1 + position_or_len is_dot words =
        omega arith in
        let here : list_any is_dot (take (suc (position_or_len is_dot words)) (x ∷ words)) ≡ false =
        ap (λ (b : Bool). b || list_any is_dot (before_dot words)) is ∙ g in
        subst (λ (m : ℕ). list_any is_dot (take m (x ∷ words)) ≡ false) e here

-- ---- the tests

pub some_before : (end : End) (what : LineFault) (words : List Word)
    → filled end what words ≡ Ok (tt {0}) → 0 < length (before_dot words)
some_before end what [] h = absurd cc
some_before end what (x ∷ words) h = by (is_dot x) h
  where
    by : (b : Bool) → cond b (Err (Wrong what x.place)) (Ok (tt {0})) ≡ Ok (tt {0})
        → 0 < length (take (cond (not b) (1 + position_or_len is_dot words) 0) (x ∷ words))
    by true g = absurd cc
    by false g =
        let e : suc (position_or_len is_dot words) ≡ 1 + position_or_len is_dot words =
        omega arith in
        let here : 0 < length (take (suc (position_or_len is_dot words)) (x ∷ words)) =
        omega arith in
        subst (λ (m : ℕ). 0 < length (take m (x ∷ words))) e here

pub filled_by : (end : End) (what : LineFault) (front rest : List Word) → 0 < length front
    → list_any is_dot front ≡ false → filled end what (front ++ rest) ≡ Ok (tt {0})
filled_by end what [] rest some none = absurd (omega arith)
filled_by end what (x ∷ front) rest some none = by (is_dot x) none
  where
    by : (b : Bool) → (b || list_any is_dot front) ≡ false
        → cond b (Err (Wrong what x.place)) (Ok (tt {0})) ≡ Ok (tt {0})
    by true g = absurd cc
    by false g = refl

pub all_tested : (test : List ℕ → Bool) (what : LineFault) (words : List Word)
    → all_pass test what words ≡ Ok (tt {0}) → list_all (λ (w : Word). test w.text) words ≡ true
all_tested test what [] h = refl
all_tested test what (x ∷ words) h = by (test x.text) h
    (λ (g : all_pass test what words ≡ Ok (tt {0})). all_tested test what words g)
  where
    by : (b : Bool)
        → wrong_at what (cond (not b) (Some x) (find (λ (w : Word). not (test w.text)) words))
        ≡ Ok (tt {0})
        → (all_pass test what words ≡ Ok (tt {0}) → list_all (λ (w : Word). test w.text) words
        ≡ true) → (b && list_all (λ (w : Word). test w.text) words) ≡ true
    by true g later = later g
    by false g later = absurd cc

pub all_passing : (test : List ℕ → Bool) (what : LineFault) (words : List Word)
    → list_all (λ (w : Word). test w.text) words ≡ true → all_pass test what words ≡ Ok (tt {0})
all_passing test what [] h = refl
all_passing test what (x ∷ words) h = by (test x.text) h
    (λ (g : list_all (λ (w : Word). test w.text) words ≡ true). all_passing test what words g)
  where
    by : (b : Bool) → (b && list_all (λ (w : Word). test w.text) words) ≡ true
        → (list_all (λ (w : Word). test w.text) words ≡ true
        → all_pass test what words ≡ Ok (tt {0})) → wrong_at what
        (cond (not b) (Some x) (find (λ (w : Word). not (test w.text)) words)) ≡ Ok (tt {0})
    by true g later = later g
    by false g later = absurd cc

-- ---- both directions

abbrev done : List Word × List Word → Result (List Word × List Word) CommandFault
done p = Ok p

ok_same : (p q : List Word × List Word) → done p ≡ done q → p ≡ q
ok_same p q h = cc

packages_found : (end : End) (words front rest : List Word)
    → packages_at end words ≡ Ok (front, rest) → ArePackages words front rest
packages_found end words front rest h =
    let a = on_ok_parts (filled end NoPackage words)
    (λ _. on_ok (all_pass is_package BadPackage (before_dot words))
    (λ _. dotted end (before_dot words) (behind_dot words))) (front, rest) h in
    let b = on_ok_parts (all_pass is_package BadPackage (before_dot words))
    (λ _. dotted end (before_dot words) (behind_dot words)) (front, rest) a.2 in
    by (behind_dot words) refl b.2 (some_before end NoPackage words a.1)
    (all_tested is_package BadPackage (before_dot words) b.1)
  where
    by : (o : Option (List Word)) → behind_dot words ≡ o
        → dotted end (before_dot words) o ≡ Ok (front, rest) → 0 < length (before_dot words)
        → list_all (λ (w : Word). is_package w.text) (before_dot words) ≡ true
        → ArePackages words front rest
    by None is g some all = absurd cc
    by (Some behind) is g some all =
        let both : (before_dot words, behind) ≡ (front, rest) =
        ok_same (before_dot words, behind) (front, rest) g in
        let f : before_dot words ≡ front = ap (λ (p : List Word × List Word). p.0) both in
        let r : behind ≡ rest = ap (λ (p : List Word × List Word). p.1) both in
        let d = dot_found words behind is in
        record {
          dot = d.0;
          joined = d.1 ∙ ap (λ (ws : List Word). ws ++ d.0 ∷ behind) f
              ∙ ap (λ (ws : List Word). front ++ d.0 ∷ ws) r;
          dotted = d.2;
          no_dot = subst (λ (ws : List Word). list_any is_dot ws ≡ false) f (none_before words);
          some = subst (λ (ws : List Word). 0 < length ws) f some;
          packages = subst (λ (ws : List Word). list_all (λ (w : Word). is_package w.text) ws
              ≡ true) f all;
        }

pub packages_read : (end : End) (front rest : List Word) (dot : Word) → is_dot dot ≡ true
    → list_any is_dot front ≡ false → 0 < length front
    → list_all (λ (w : Word). is_package w.text) front ≡ true
    → packages_at end (front ++ dot ∷ rest) ≡ Ok (front, rest)
packages_read end front rest dot is none some all =
    let words : List Word = front ++ dot ∷ rest in
    let before : before_dot words ≡ front = before_at front rest dot none is in
    let behind : behind_dot words ≡ Some rest = behind_at front rest dot none is in
    ap (λ r. on_ok r (λ _. on_ok (all_pass is_package BadPackage (before_dot words))
    (λ _. dotted end (before_dot words) (behind_dot words))))
    (filled_by end NoPackage front (dot ∷ rest) some none)
    ∙ ap (λ (f : List Word). on_ok (all_pass is_package BadPackage f)
    (λ _. dotted end f (behind_dot words))) before
    ∙ ap (λ r. on_ok r (λ _. dotted end front (behind_dot words)))
    (all_passing is_package BadPackage front all)
    ∙ ap (dotted end front) behind

pub packages_exact : PackagesAreExact
packages_exact = λ end words front rest. (
  packages_found end words front rest,
  λ p. subst (λ (ws : List Word). packages_at end ws ≡ Ok (front, rest)) (sym p.joined)
      (packages_read end front rest p.dot p.dotted p.no_dot p.some p.packages),
)
