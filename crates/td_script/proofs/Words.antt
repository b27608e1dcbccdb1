-- The first word of a line, and whether it is a verb.
use Rattle.std.proofs.Common.{◌≡◌, ℕ, ◌<◌, Bool, true, false, List, Option, Some, None, cond, ◌||◌}
use Rattle.std.proofs.Common.{refl, arith}
use Rattle.std.specs.Prelude.{codes, is_some}
use Rattle.std.specs.Str.{bytes_eq}
use Rattle.std.proofs.lemmas.Bool.Decides.{nat_tests}
use Rattle.td_script.specs.declared.request.Verb.{Verb}
use Rattle.td_script.specs.declared.request.Verb.TheVariants as verb
use Rattle.td_script.specs.Reading.{is_verb, is_word_byte, verb_at}

-- what ends a word is ASCII
pub others_are_ascii : (b : ℕ) → is_word_byte b ≡ false → b < 128
others_are_ascii b h = grind (arith, nat_tests)

-- one verb more
or_verb : (b : Bool) (v : Verb) (rest : Option Verb) (r : Bool) → is_some rest ≡ r
    → is_some (cond b (Some v) rest) ≡ (b || r)
or_verb true v rest r same = refl
or_verb false v rest r same = same

pub is_verb-some : (w : List ℕ) → is_some (verb_at w) ≡ is_verb w
unfolding verb_at
is_verb-some w =
    or_verb (bytes_eq w (codes "undo")) verb.Undo _ _ (
    or_verb (bytes_eq w (codes "arrive")) verb.Arrive _ _ (
    or_verb (bytes_eq w (codes "sweep")) verb.Sweep _ _ (
    or_verb (bytes_eq w (codes "row")) verb.Row _ _ (
    or_verb (bytes_eq w (codes "entry")) verb.Entry _ _ (
    or_verb (bytes_eq w (codes "report")) verb.Report _ _ (
    last (bytes_eq w (codes "journal"))))))))
  where
    last : (b : Bool) → is_some (cond b (Some verb.Journal) None) ≡ b
    last true = refl
    last false = refl
