-- The parts of a plan's command: its source, and what comes after the architectures.
use Rattle.std.proofs.Common.{◌≡◌, ℕ, Bool, true, false, cond, eqb, List, [], ◌∷◌}
use Rattle.std.proofs.Common.{◌++◌, Some, None, Ok, length, get_or, refl, sym, ap}
use Rattle.std.proofs.Common.{◌∙◌, inl, inr, arith, codes}
use Rattle.std.specs.Prelude.{is_ok}
use Rattle.std.specs.Str.{bytes_eq}
use Rattle.std.proofs.lemmas.Bool.{and_from, false_from_ne_true, or_from}
use Rattle.std.proofs.lemmas.Slice.Eq.{bytes_eq-Decides}
use Rattle.td_text.specs.Cut.{Without, cut}
use Rattle.td_text.specs.Words.{is_name, is_name_byte}
use Rattle.td_text.proofs.Cut.{Without-from_test, cut-at, cut_none}
use Rattle.td_version.proofs.Outcomes.{read_only}
use Rattle.td_supply.specs.VersionTexts.{IsVersionText}
use Rattle.td_indices.specs.Opening.{rebuild_number}
use Rattle.td_wbread.specs.declared.command.Verb.{Verb}
use Rattle.td_wbread.specs.declared.word.End.TheVariants.{Closed}
use Rattle.td_wbread.specs.Packages.{PackageText, is_version, package_at, package_cut}
use Rattle.td_wbread.specs.Tail.{Values, is_relation, is_suite, needs_relation, tail_at}
use Rattle.td_wbread.specs.Tail.{takes_message}
use Rattle.td_wbread.specs.WordLaws.{Bare, Quoted}
use Rattle.td_wbread.proofs.Tails.{tails_exact}
use Rattle.td_plan.specs.Lines.{named_with}
use Rattle.td_plan.specs.Message.{is_small_letter}
use Rattle.td_plan.proofs.SaidBytes.{IsSuite, name_parts, named_long}
use Rattle.td_plan.proofs.SaidWords.{word_at}

-- ---- 1. the source

-- the source that a command names, with its version or without
abbrev pub package_with : List ℕ → List ℕ → PackageText
package_with name version = record {
  source = name;
  version = cond (eqb (rebuild_number version) 0) (Some version) None;
}

version_is : (version : List ℕ) → IsVersionText version → is_version version ≡ true
version_is version v = ap is_ok (read_only version v.0 v.1)

pub package_read : (name version : List ℕ) → is_name name ≡ true → IsVersionText version
    → package_at (named_with name version) ≡ Some (package_with name version)
unfolding package_at
package_read name version h v = by (eqb (rebuild_number version) 0)
  where
    lacks : Without 95 name
    lacks = Without-from_test is_name_byte 95 name refl (name_parts name h).1

    by : (b : Bool)
        → package_cut (cond b (name ++ 95 ∷ version) name)
        (cut 95 (cond b (name ++ 95 ∷ version) name))
        ≡ Some (record { source = name; version = cond b (Some version) None })
    by true = ap (package_cut (name ++ 95 ∷ version)) (cut-at 95 name version lacks)
        ∙ ap (λ (b : Bool). cond b (Some (record { source = name; version = Some version })) None)
        (and_from (is_name name) (is_version version) h (version_is version v))
    by false = ap (package_cut name) (cut_none 95 name lacks)
        ∙ ap (λ (b : Bool). cond b (Some (record { source = name; version = None })) None) h

pub source_undotted : (name version : List ℕ) → is_name name ≡ true
    → bytes_eq (named_with name version) (codes ".") ≡ false
source_undotted name version h = false_from_ne_true (bytes_eq (named_with name version) (codes "."))
    (λ e. let same : named_with name version ≡ codes "." =
    (bytes_eq-Decides (named_with name version) (codes ".")).0 e in
    omega (arith, ap length same, named_long name version h))

-- ---- 2. what comes after the architectures

-- a text that begins with a letter is none that begins otherwise
not_option : (suite text : List ℕ) → IsSuite suite → is_small_letter (get_or text 0 0) ≡ false
    → bytes_eq suite text ≡ false
not_option suite text s out = false_from_ne_true (bytes_eq suite text)
    (λ e. let same : suite ≡ text = (bytes_eq-Decides suite text).0 e in
    let bad : true ≡ false =
    sym s.first ∙ ap (λ (t : List ℕ). is_small_letter (get_or t 0 0)) same ∙ out in cc)

-- a suite, a dot, `-m` and its text
pub tail_read : (verb : Verb) (suites : List (List ℕ)) (len : ℕ) (suite : List ℕ) (q : ℕ)
    (text : List ℕ) (a b c d : ℕ) → IsSuite suite → is_suite suites suite ≡ true
    → takes_message verb ≡ true
    → (needs_relation verb ≡ true → is_relation text ≡ true)
    → tail_at verb suites (Closed len)
    (Some (word_at a (Bare suite) ∷ word_at b (Bare (codes ".")) ∷ word_at c (Bare (codes "-m"))
    ∷ word_at d (Quoted q text) ∷ []))
    ≡ Ok (record { message = Some (word_at d (Quoted q text)); extra = None })
tail_read verb suites len suite q text a b c d s known takes relation =
    let value = word_at d (Quoted q text) in
    let words = word_at a (Bare suite) ∷ word_at b (Bare (codes "."))
    ∷ word_at c (Bare (codes "-m")) ∷ value ∷ [] in
    let values : Values = record { message = Some value; extra = None } in
    (tails_exact verb suites (Closed len) (Some words) values).1 (
      inr (
        or_from (bytes_eq suite (codes "-m")) (bytes_eq suite (codes "--extra-depends"))
            (not_option suite (codes "-m") s refl)
            (not_option suite (codes "--extra-depends") s refl),
        known,
        (
          refl,
          inl (record { sign = refl; taken = takes; relation = relation }, refl),
        ),
      ),
      λ needs. refl,
    )
