-- What is wrong first with packages and with architectures.
use Rattle.std.proofs.Common.{◌≡◌, ◌≢◌, ◌⊎◌, ℕ, suc, ◌+◌, ◌<◌, Bool, true, false, not, cond}
use Rattle.std.proofs.Common.{List, [], ◌∷◌, ◌++◌, Option, Some, Result, Ok, Err, length}
use Rattle.std.proofs.Common.{take}
use Rattle.std.proofs.Common.{refl, sym, ap, ◌∙◌, arith, inl, inr}
use Rattle.std.specs.List.{position_or_len, list_all, list_any, find}
use Rattle.std.proofs.lemmas.Bool.{and_parts, and_from, or_parts, or_from}
use Rattle.td_text.specs.Lines.{on_ok}
use Rattle.td_relation.specs.Arch.{ArchWords}
use Rattle.td_wbread.specs.declared.fault.CommandFault.{CommandFault}
use Rattle.td_wbread.specs.declared.fault.CommandFault.TheVariants.{Wrong}
use Rattle.td_wbread.specs.declared.fault.LineFault.{LineFault}
use Rattle.td_wbread.specs.declared.fault.LineFault.TheVariants.{NoPackage, BadPackage, NoDot}
use Rattle.td_wbread.specs.declared.fault.LineFault.TheVariants.{NoArch, UnknownArch}
use Rattle.td_wbread.specs.declared.word.Word.{Word}
use Rattle.td_wbread.specs.declared.word.End.{End}
use Rattle.td_wbread.specs.Archs.{archs_at, archs_checked, is_arch_word, is_choice}
use Rattle.td_wbread.specs.Faults.{all_pass, before_dot, behind_dot, filled, is_dot, missing}
use Rattle.td_wbread.specs.Faults.{wrong_at}
use Rattle.td_wbread.specs.HeadFaults.{AllPass, ArchFaultsAreExact, IsArchFault, IsFirstOther}
use Rattle.td_wbread.specs.HeadFaults.{IsPackageFault, PackageFaultsAreExact}
use Rattle.td_wbread.specs.Packages.{dotted, is_package, packages_at}
use Rattle.td_wbread.proofs.Dotted.{all_passing, before_at, packages_read}
use Rattle.td_wbread.proofs.Undotted.{before_all, behind_all}

-- ---- results

pub err_is : {A : Type 0} (x y : CommandFault)
    → ◌≡◌ {A = Result A CommandFault} (Err x) (Err y) → x ≡ y
err_is x y e = cc

pub not_both : {A : Type 0} (x : A) (y : CommandFault)
    → ◌≡◌ {A = Result A CommandFault} (Ok x) (Err y) → ⊥
not_both {A} x y e = (let bad : ◌≡◌ {A = Result A CommandFault} (Ok x) (Err y) = e in cc)

-- ---- the words up to a dot

abbrev Passes : (List ℕ → Bool) → List Word → Bool
Passes test words = list_all (λ (w : Word). test w.text) words

-- these words pass, and a dot follows them
abbrev IsDotted : (List ℕ → Bool) → List Word → Type 0
IsDotted test words = (front : List Word) × (dot : Word) × (rest : List Word)
    × (words ≡ front ++ dot ∷ rest) × AllPass test front × (is_dot dot ≡ true)

none_pass : (test : List ℕ → Bool) → AllPass test []
none_pass test = record { no_dot = refl; all = refl }

one_more : (test : List ℕ → Bool) (w : Word) (front : List Word) → is_dot w ≡ false
    → test w.text ≡ true → AllPass test front → AllPass test (w ∷ front)
one_more test w front d t a = record {
  no_dot = or_from (is_dot w) (list_any is_dot front) d a.no_dot;
  all = and_from (test w.text) (Passes test front) t a.all;
}

-- a word that doesn't pass comes first, or a dot, or neither comes
tells : (test : List ℕ → Bool) (words : List Word)
    → ((word : Word) × IsFirstOther test words word)
    ⊎ (IsDotted test words ⊎ AllPass test words)
tells test [] = inr (inr (none_pass test))
tells test (w ∷ ws) = by (is_dot w) (test w.text) refl refl (tells test ws)
  where
    by : (d t : Bool) → is_dot w ≡ d → test w.text ≡ t
        → ((word : Word) × IsFirstOther test ws word) ⊎ (IsDotted test ws ⊎ AllPass test ws)
        → ((word : Word) × IsFirstOther test (w ∷ ws) word)
        ⊎ (IsDotted test (w ∷ ws) ⊎ AllPass test (w ∷ ws))
    by true t d e later = inr (inl ([], w, ws, refl, none_pass test, d))
    by false false d e later =
        inl (
          w,
          record {
            front = [];
            rest = ws;
            joined = refl;
            before = none_pass test;
            no_dot = d;
            other = e;
          },
        )
    by false true d e (inl (word, o)) =
        inl (
          word,
          record {
            front = w ∷ o.front;
            rest = o.rest;
            joined = ap (λ (l : List Word). w ∷ l) o.joined;
            before = one_more test w o.front d e o.before;
            no_dot = o.no_dot;
            other = o.other;
          },
        )
    by false true d e (inr (inl (front, dot, rest, joined, a, is))) =
        inr (inl (
          w ∷ front,
          dot,
          rest,
          ap (λ (l : List Word). w ∷ l) joined,
          one_more test w front d e a,
          is,
        ))
    by false true d e (inr (inr a)) = inr (inr (one_more test w ws d e a))

before_one : (w : Word) (ws : List Word) → is_dot w ≡ false
    → before_dot (w ∷ ws) ≡ w ∷ before_dot ws
before_one w ws h = by (is_dot w) h
  where
    by : (b : Bool) → b ≡ false
        → take (cond (not b) (1 + position_or_len is_dot ws) 0) (w ∷ ws) ≡ w ∷ before_dot ws
    by true g = absurd cc
    by false g =
        let e : 1 + position_or_len is_dot ws ≡ suc (position_or_len is_dot ws) = omega arith in
        ap (λ (n : ℕ). take n (w ∷ ws)) e

before_more : (front ws : List Word) → list_any is_dot front ≡ false
    → before_dot (front ++ ws) ≡ front ++ before_dot ws
before_more [] ws none = refl
before_more (w ∷ front) ws none =
    let p = or_parts (is_dot w) (list_any is_dot front) none in
    before_one w (front ++ ws) p.0 ∙ ap (λ (l : List Word). w ∷ l) (before_more front ws p.1)

test_fails : (test : List ℕ → Bool) (what : LineFault) (front : List Word) (word : Word)
    (rest : List Word) → Passes test front ≡ true → test word.text ≡ false
    → all_pass test what (front ++ word ∷ rest) ≡ Err (Wrong what word.place)
test_fails test what [] word rest all other =
    ap (λ (b : Bool). wrong_at what
    (cond (not b) (Some word) (find (λ (w : Word). not (test w.text)) rest))) other
test_fails test what (x ∷ front) word rest all other =
    let p = and_parts (test x.text) (Passes test front) all in
    ap (λ (b : Bool). wrong_at what
    (cond (not b) (Some x) (find (λ (w : Word). not (test w.text)) (front ++ word ∷ rest)))) p.0
    ∙ test_fails test what front word rest p.1 other

other_fails : (test : List ℕ → Bool) (what : LineFault) (words : List Word) (word : Word)
    → IsFirstOther test words word
    → all_pass test what (before_dot words) ≡ Err (Wrong what word.place)
other_fails test what words word o =
    ap (λ (ws : List Word). all_pass test what (before_dot ws)) o.joined
    ∙ ap (all_pass test what)
    (before_more o.front (word ∷ o.rest) o.before.no_dot
    ∙ ap (λ (l : List Word). o.front ++ l) (before_one word o.rest o.no_dot))
    ∙ test_fails test what o.front word (before_dot o.rest) o.before.all o.other

all_fine : (test : List ℕ → Bool) (what : LineFault) (words : List Word) → AllPass test words
    → all_pass test what (before_dot words) ≡ Ok (tt {0})
all_fine test what words a =
    ap (all_pass test what) (before_all words a.no_dot) ∙ all_passing test what words a.all

dotted_fine : (test : List ℕ → Bool) (what : LineFault) (words : List Word) → IsDotted test words
    → all_pass test what (before_dot words) ≡ Ok (tt {0})
dotted_fine test what words (front, dot, rest, joined, a, is) =
    ap (λ (ws : List Word). all_pass test what (before_dot ws)) joined
    ∙ ap (all_pass test what) (before_at front rest dot a.no_dot is)
    ∙ all_passing test what front a.all

-- ---- the first word

first_filled : (end : End) (what : LineFault) (w : Word) (ws : List Word) → is_dot w ≡ false
    → filled end what (w ∷ ws) ≡ Ok (tt {0})
first_filled end what w ws h =
    ap (λ (b : Bool). cond b (Err (Wrong what w.place)) (Ok (tt {0}))) h

dot_unfilled : (end : End) (what : LineFault) (w : Word) (ws : List Word) → is_dot w ≡ true
    → filled end what (w ∷ ws) ≡ Err (Wrong what w.place)
dot_unfilled end what w ws h =
    ap (λ (b : Bool). cond b (Err (Wrong what w.place)) (Ok (tt {0}))) h

filled_front : (end : End) (what : LineFault) (front : List Word) (word : Word) (rest : List Word)
    → list_any is_dot front ≡ false → is_dot word ≡ false
    → filled end what (front ++ word ∷ rest) ≡ Ok (tt {0})
filled_front end what [] word rest none d = first_filled end what word rest d
filled_front end what (w ∷ front) word rest none d =
    first_filled end what w (front ++ word ∷ rest)
    (or_parts (is_dot w) (list_any is_dot front) none).0

other_filled : (end : End) (what : LineFault) (test : List ℕ → Bool) (words : List Word)
    (word : Word) → IsFirstOther test words word → filled end what words ≡ Ok (tt {0})
other_filled end what test words word o =
    ap (filled end what) o.joined
    ∙ filled_front end what o.front word o.rest o.before.no_dot o.no_dot

all_filled : (end : End) (what : LineFault) (test : List ℕ → Bool) (words : List Word)
    → words ≢ [] → AllPass test words → filled end what words ≡ Ok (tt {0})
all_filled end what test [] some a = absurd (some refl)
all_filled end what test (w ∷ ws) some a =
    first_filled end what w ws (or_parts (is_dot w) (list_any is_dot ws) a.no_dot).0

some_words : (w : Word) (ws : List Word) → w ∷ ws ≢ []
some_words w ws e = absurd cc

-- where the first word isn't the dot, one stands before the dot
not_first : (front rest ws : List Word) (dot w : Word) → w ∷ ws ≡ front ++ dot ∷ rest
    → is_dot w ≡ false → is_dot dot ≡ true → 0 < length front
not_first [] rest ws dot w joined other is =
    let same : w ≡ dot = cc in
    let bad : false ≡ true = sym other ∙ ap is_dot same ∙ is in
    absurd cc
not_first (x ∷ front) rest ws dot w joined other is = omega arith

-- ---- packages

packages_unfilled : (end : End) (words : List Word) (e : CommandFault)
    → filled end NoPackage words ≡ Err e → packages_at end words ≡ Err e
packages_unfilled end words e h =
    ap (λ r. on_ok r (λ _. on_ok (all_pass is_package BadPackage (before_dot words))
    (λ _. dotted end (before_dot words) (behind_dot words)))) h

packages_tested : (end : End) (words : List Word) (e : CommandFault)
    → filled end NoPackage words ≡ Ok (tt {0})
    → all_pass is_package BadPackage (before_dot words) ≡ Err e → packages_at end words ≡ Err e
packages_tested end words e h k =
    ap (λ r. on_ok r (λ _. on_ok (all_pass is_package BadPackage (before_dot words))
    (λ _. dotted end (before_dot words) (behind_dot words)))) h
    ∙ ap (λ r. on_ok r (λ _. dotted end (before_dot words) (behind_dot words))) k

packages_dotless : (end : End) (words : List Word) → words ≢ [] → AllPass is_package words
    → packages_at end words ≡ Err (missing end NoDot)
packages_dotless end words some a =
    ap (λ r. on_ok r (λ _. on_ok (all_pass is_package BadPackage (before_dot words))
    (λ _. dotted end (before_dot words) (behind_dot words))))
    (all_filled end NoPackage is_package words some a)
    ∙ ap (λ r. on_ok r (λ _. dotted end (before_dot words) (behind_dot words)))
    (all_fine is_package BadPackage words a)
    ∙ ap (dotted end (before_dot words)) (behind_all words a.no_dot)

package_faulty : (end : End) (words : List Word) (fault : CommandFault)
    → packages_at end words ≡ Err fault → IsPackageFault end words fault
package_faulty end [] fault h =
    inl (inl (refl, sym (err_is {A = List Word × List Word} (missing end NoPackage) fault h)))
package_faulty end (w ∷ ws) fault h = by (is_dot w) refl
  where
    so : (e : CommandFault) → packages_at end (w ∷ ws) ≡ Err e → fault ≡ e
    so e k = sym (err_is {A = List Word × List Word} e fault (sym k ∙ h))

    inner : is_dot w ≡ false → ((word : Word) × IsFirstOther is_package (w ∷ ws) word)
        ⊎ (IsDotted is_package (w ∷ ws) ⊎ AllPass is_package (w ∷ ws))
        → IsPackageFault end (w ∷ ws) fault
    inner d (inl (word, o)) =
        inr (inl (
          word,
          o,
          so (Wrong BadPackage word.place)
              (packages_tested end (w ∷ ws) (Wrong BadPackage word.place)
              (first_filled end NoPackage w ws d)
              (other_fails is_package BadPackage (w ∷ ws) word o)),
        ))
    inner d (inr (inl (front, dot, rest, joined, a, is))) =
        absurd (not_both (front, rest) fault
        (sym (ap (packages_at end) joined
        ∙ packages_read end front rest dot is a.no_dot (not_first front rest ws dot w joined d is)
        a.all) ∙ h))
    inner d (inr (inr a)) =
        inr (inr (
          some_words w ws,
          a,
          so (missing end NoDot)
              (packages_dotless end (w ∷ ws) (some_words w ws) a),
        ))

    by : (b : Bool) → is_dot w ≡ b → IsPackageFault end (w ∷ ws) fault
    by true is =
        inl (inr (
          w,
          ws,
          refl,
          is,
          so (Wrong NoPackage w.place)
              (packages_unfilled end (w ∷ ws) (Wrong NoPackage w.place)
              (dot_unfilled end NoPackage w ws is)),
        ))
    by false is = inner is (tells is_package (w ∷ ws))

package_fails : (end : End) (words : List Word) (fault : CommandFault)
    → IsPackageFault end words fault → packages_at end words ≡ Err fault
package_fails end words fault (inl (inl (none, is))) =
    ap (packages_at end) none ∙ ap (λ (x : CommandFault). Err x) (sym is)
package_fails end words fault (inl (inr (dot, rest, joined, d, is))) =
    ap (packages_at end) joined
    ∙ packages_unfilled end (dot ∷ rest) (Wrong NoPackage dot.place)
    (dot_unfilled end NoPackage dot rest d)
    ∙ ap (λ (x : CommandFault). Err x) (sym is)
package_fails end words fault (inr (inl (word, o, is))) =
    packages_tested end words (Wrong BadPackage word.place)
    (other_filled end NoPackage is_package words word o)
    (other_fails is_package BadPackage words word o)
    ∙ ap (λ (x : CommandFault). Err x) (sym is)
package_fails end words fault (inr (inr (some, a, is))) =
    packages_dotless end words some a ∙ ap (λ (x : CommandFault). Err x) (sym is)

pub package_faults_are_exact : PackageFaultsAreExact
package_faults_are_exact end words fault =
    (package_faulty end words fault, package_fails end words fault)

-- ---- architectures

module _ (table : List ArchWords) (end : End) where
  archs_unfilled : (words : List Word) (e : CommandFault) → filled end NoArch words ≡ Err e
      → archs_at table end words ≡ Err e
  archs_unfilled words e h =
      ap (λ r. on_ok r (λ _. on_ok (archs_checked table (before_dot words))
      (λ _. Ok (before_dot words, behind_dot words)))) h

  -- what the words are read as where the first isn't the dot
  archs_filled : (w : Word) (ws : List Word) → is_dot w ≡ false
      → archs_at table end (w ∷ ws)
      ≡ on_ok (archs_checked table (w ∷ before_dot ws))
      (λ _. Ok (before_dot (w ∷ ws), behind_dot (w ∷ ws)))
  archs_filled w ws d =
      ap (λ r. on_ok r (λ _. on_ok (archs_checked table (before_dot (w ∷ ws)))
      (λ _. Ok (before_dot (w ∷ ws), behind_dot (w ∷ ws))))) (first_filled end NoArch w ws d)
      ∙ ap (λ (l : List Word). on_ok (archs_checked table l)
      (λ _. Ok (before_dot (w ∷ ws), behind_dot (w ∷ ws)))) (before_one w ws d)

  -- the first word chooses none
  first_fails : (w : Word) (ws : List Word) → is_dot w ≡ false → is_choice table w.text ≡ false
      → archs_at table end (w ∷ ws) ≡ Err (Wrong UnknownArch w.place)
  first_fails w ws d c =
      archs_filled w ws d
      ∙ ap (λ (b : Bool). on_ok
      (cond b (all_pass (is_arch_word table) UnknownArch (before_dot ws))
      (Err (Wrong UnknownArch w.place))) (λ _. Ok (before_dot (w ∷ ws), behind_dot (w ∷ ws)))) c

  -- the first word chooses, and the further ones decide
  further : (w : Word) (ws : List Word) → is_dot w ≡ false → is_choice table w.text ≡ true
      → archs_at table end (w ∷ ws)
      ≡ on_ok (all_pass (is_arch_word table) UnknownArch (before_dot ws))
      (λ _. Ok (before_dot (w ∷ ws), behind_dot (w ∷ ws)))
  further w ws d c =
      archs_filled w ws d
      ∙ ap (λ (b : Bool). on_ok
      (cond b (all_pass (is_arch_word table) UnknownArch (before_dot ws))
      (Err (Wrong UnknownArch w.place))) (λ _. Ok (before_dot (w ∷ ws), behind_dot (w ∷ ws)))) c

  further_fails : (w : Word) (ws : List Word) (word : Word) → is_dot w ≡ false
      → is_choice table w.text ≡ true → IsFirstOther (is_arch_word table) ws word
      → archs_at table end (w ∷ ws) ≡ Err (Wrong UnknownArch word.place)
  further_fails w ws word d c o =
      further w ws d c
      ∙ ap (λ r. on_ok r (λ _. Ok (before_dot (w ∷ ws), behind_dot (w ∷ ws))))
      (other_fails (is_arch_word table) UnknownArch ws word o)

  arch_faulty : (words : List Word) (fault : CommandFault) → archs_at table end words ≡ Err fault
      → IsArchFault table end words fault
  arch_faulty [] fault h =
      inl (inl (
        refl,
        sym (err_is {A = List Word × Option (List Word)} (missing end NoArch)
            fault h),
      ))
  arch_faulty (w ∷ ws) fault h =
      by (is_dot w) (is_choice table w.text) refl refl (tells (is_arch_word table) ws)
    where
      so : (e : CommandFault) → archs_at table end (w ∷ ws) ≡ Err e → fault ≡ e
      so e k = sym (err_is {A = List Word × Option (List Word)} e fault (sym k ∙ h))

      -- the further words are fine
      fine : is_dot w ≡ false → is_choice table w.text ≡ true
          → all_pass (is_arch_word table) UnknownArch (before_dot ws) ≡ Ok (tt {0})
          → IsArchFault table end (w ∷ ws) fault
      fine d c k =
          absurd (not_both (before_dot (w ∷ ws), behind_dot (w ∷ ws)) fault
          (sym (further w ws d c
          ∙ ap (λ r. on_ok r (λ _. Ok (before_dot (w ∷ ws), behind_dot (w ∷ ws)))) k) ∙ h))

      by : (b c : Bool) → is_dot w ≡ b → is_choice table w.text ≡ c
          → ((word : Word) × IsFirstOther (is_arch_word table) ws word)
          ⊎ (IsDotted (is_arch_word table) ws ⊎ AllPass (is_arch_word table) ws)
          → IsArchFault table end (w ∷ ws) fault
      by true c d k later =
          inl (inr (
            w,
            ws,
            refl,
            d,
            so (Wrong NoArch w.place)
                (archs_unfilled (w ∷ ws) (Wrong NoArch w.place) (dot_unfilled end NoArch w ws d)),
          ))
      by false false d k later =
          inr (inl (w, ws, refl, d, k, so (Wrong UnknownArch w.place) (first_fails w ws d k)))
      by false true d k (inl (word, o)) =
          inr (inr (
            w,
            ws,
            word,
            refl,
            d,
            k,
            o,
            so (Wrong UnknownArch word.place)
                (further_fails w ws word d k o),
          ))
      by false true d k (inr (inl dots)) =
          fine d k (dotted_fine (is_arch_word table) UnknownArch ws dots)
      by false true d k (inr (inr a)) = fine d k (all_fine (is_arch_word table) UnknownArch ws a)

  arch_fails : (words : List Word) (fault : CommandFault) → IsArchFault table end words fault
      → archs_at table end words ≡ Err fault
  arch_fails words fault (inl (inl (none, is))) =
      ap (archs_at table end) none ∙ ap (λ (x : CommandFault). Err x) (sym is)
  arch_fails words fault (inl (inr (dot, rest, joined, d, is))) =
      ap (archs_at table end) joined
      ∙ archs_unfilled (dot ∷ rest) (Wrong NoArch dot.place) (dot_unfilled end NoArch dot rest d)
      ∙ ap (λ (x : CommandFault). Err x) (sym is)
  arch_fails words fault (inr (inl (word, rest, joined, d, c, is))) =
      ap (archs_at table end) joined ∙ first_fails word rest d c
      ∙ ap (λ (x : CommandFault). Err x) (sym is)
  arch_fails words fault (inr (inr (first, rest, word, joined, d, c, o, is))) =
      ap (archs_at table end) joined ∙ further_fails first rest word d c o
      ∙ ap (λ (x : CommandFault). Err x) (sym is)

pub arch_faults_are_exact : ArchFaultsAreExact
arch_faults_are_exact table end words fault =
    (arch_faulty table end words fault, arch_fails table end words fault)
