-- What is wrong first with a command line.
use Rattle.std.proofs.Common.{◌≡◌, ◌⊎◌, ℕ, List, Result, Ok, Err, refl, ap, ◌∙◌, inl}
use Rattle.std.proofs.Common.{inr}
use Rattle.td_text.specs.Lines.{on_ok}
use Rattle.td_text.proofs.Chain.{ok_is, on_ok_parts}
use Rattle.td_relation.specs.Arch.{ArchWords}
use Rattle.td_wbread.specs.declared.fault.CommandFault.{CommandFault}
use Rattle.td_wbread.specs.declared.word.Word.{Word}
use Rattle.td_wbread.specs.declared.word.End.{End}
use Rattle.td_wbread.specs.Archs.{archs_at}
use Rattle.td_wbread.specs.Command.{Head, Spoken, command_at, command_from, command_of, head_at}
use Rattle.td_wbread.specs.Command.{spoken_at}
use Rattle.td_wbread.specs.HeadFaults.{IsHeadFault}
use Rattle.td_wbread.specs.Packages.{packages_at}
use Rattle.td_wbread.specs.Tail.{tail_at}
use Rattle.td_wbread.specs.TailFaults.{CommandFaultsAreExact, IsCommandFault, IsLateFault}
use Rattle.td_wbread.specs.Verbs.{verb_at}
use Rattle.td_wbread.specs.Words.{end_of, words_of}
use Rattle.td_wbread.proofs.Dotted.{packages_exact}
use Rattle.td_wbread.proofs.HeadOrder.{head_faults_are_exact}
use Rattle.td_wbread.proofs.ListFaults.{err_is, not_both}
use Rattle.td_wbread.proofs.TailFaults.{tail_faults_are_exact}
use Rattle.td_wbread.proofs.Undotted.{archs_exact}
use Rattle.td_wbread.proofs.VerbShapes.{verbs_exact}
use Rattle.td_wbread.proofs.Written.{words_again, words_are_exact}

-- what is read and then made into something fails as the reading does
first_fails : {A B : Type 0} (r : Result A CommandFault) (f : A → B) (e : CommandFault)
    → on_ok r (λ x. Ok (f x)) ≡ Err e → r ≡ Err e
first_fails (Ok x) f e h = absurd (not_both (f x) e h)
first_fails {A} {B} (Err d) f e h = ap (λ (y : CommandFault). Err y) (err_is {A = B} d e h)

module _ (table : List ArchWords) (suites : List (List ℕ)) (end : End) (words : List Word)
    (fault : CommandFault) where
  late_faulty : (h : Head) → head_at table end words ≡ Ok h
      → tail_at h.verb suites end h.behind ≡ Err fault → IsLateFault table suites end words fault
  late_faulty h e t =
      let a = on_ok_parts (verb_at end words) _ h e in
      let b = on_ok_parts (packages_at end a.0.1) _ h a.2 in
      let c = on_ok_parts (archs_at table end b.0.1) _ h b.2 in
      let made : Head = record {
        verb = a.0.0;
        packages = b.0.0;
        archs = c.0.0;
        behind = c.0.1;
      } in
      let same : made ≡ h = ok_is CommandFault made h c.2 in (
        a.0.0,
        a.0.1,
        b.0.0,
        b.0.1,
        c.0.0,
        c.0.1,
        (verbs_exact end words a.0.0 a.0.1).0 a.1,
        (packages_exact end a.0.1 b.0.0 b.0.1).0 b.1,
        (archs_exact table end b.0.1 c.0.0 c.0.1).0 c.1,
        (tail_faults_are_exact a.0.0 suites end c.0.1 fault).0
            (ap (λ (x : Head). tail_at x.verb suites end x.behind) same ∙ t),
      )

  from_faulty : command_from table suites end words ≡ Err fault
      → IsHeadFault table end words fault ⊎ IsLateFault table suites end words fault
  unfolding spoken_at
  from_faulty h =
      by (head_at table end words) refl
      (first_fails (spoken_at table suites end words) (command_of table) fault h)
    where
      by : (r : Result Head CommandFault) → head_at table end words ≡ r
          → on_ok {B = Spoken} r (λ head.
          on_ok (tail_at head.verb suites end head.behind) (λ values.
          Ok (record {
            verb = head.verb;
            packages = head.packages;
            archs = head.archs;
            values = values;
          }))) ≡ Err fault
          → IsHeadFault table end words fault ⊎ IsLateFault table suites end words fault
      by (Err e) is g =
          inl ((head_faults_are_exact table end words fault).0
          (is ∙ ap (λ (x : CommandFault). Err x) (err_is {A = Spoken} e fault g)))
      by (Ok head) is g =
          inr (late_faulty head is
          (first_fails (tail_at head.verb suites end head.behind) _ fault g))

  abbrev spoken_by : Result Head CommandFault → Result Spoken CommandFault
  spoken_by r = on_ok r (λ head. on_ok (tail_at head.verb suites end head.behind) (λ values.
      Ok (record {
        verb = head.verb;
        packages = head.packages;
        archs = head.archs;
        values = values;
      })))

  spoken_fails : IsHeadFault table end words fault ⊎ IsLateFault table suites end words fault
      → spoken_at table suites end words ≡ Err fault
  unfolding spoken_at
  spoken_fails (inl wrong) =
      ap spoken_by ((head_faults_are_exact table end words fault).1 wrong)
  spoken_fails (inr (verb, rest, front, behind, archs, after, v, p, a, wrong)) =
      let head : Head = record {
        verb = verb;
        packages = front;
        archs = archs;
        behind = after;
      } in
      let is : head_at table end words ≡ Ok head =
      ap (λ r. on_ok r (λ v. on_ok (packages_at end v.1) (λ p.
      on_ok (archs_at table end p.1) (λ a. Ok (record {
        verb = v.0;
        packages = p.0;
        archs = a.0;
        behind = a.1;
      }))))) ((verbs_exact end words verb rest).1 v)
      ∙ ap (λ r. on_ok r (λ p. on_ok (archs_at table end p.1) (λ a. Ok (record {
        verb = verb;
        packages = p.0;
        archs = a.0;
        behind = a.1;
      })))) ((packages_exact end rest front behind).1 p)
      ∙ ap (λ r. on_ok r (λ a. Ok (record {
        verb = verb;
        packages = front;
        archs = a.0;
        behind = a.1;
      }))) ((archs_exact table end behind archs after).1 a) in
      ap spoken_by is
      ∙ ap (λ r. on_ok r (λ values. Ok (record {
        verb = verb;
        packages = front;
        archs = archs;
        values = values;
      }))) ((tail_faults_are_exact verb suites end after fault).1 wrong)

  from_fails : IsHeadFault table end words fault ⊎ IsLateFault table suites end words fault
      → command_from table suites end words ≡ Err fault
  from_fails wrong = ap (λ r. on_ok r (λ s. Ok (command_of table s))) (spoken_fails wrong)

command_faulty : (table : List ArchWords) (suites : List (List ℕ)) (line : List ℕ)
    (fault : CommandFault) → command_at table suites line ≡ Err fault
    → IsCommandFault table suites line fault
command_faulty table suites line fault h = (
  words_of line,
  end_of line,
  (words_are_exact line (words_of line) (end_of line)).0 (refl, refl),
  from_faulty table suites (end_of line) (words_of line) fault h,
)

command_fails : (table : List ArchWords) (suites : List (List ℕ)) (line : List ℕ)
    (fault : CommandFault) → IsCommandFault table suites line fault
    → command_at table suites line ≡ Err fault
command_fails table suites line fault (words, end, are, wrong) =
    let r = words_again line words end are in
    ap (λ (ws : List Word). command_from table suites (end_of line) ws) r.0
    ∙ ap (λ (e : End). command_from table suites e words) r.1
    ∙ from_fails table suites end words fault wrong

pub command_faults_are_exact : CommandFaultsAreExact
command_faults_are_exact table suites line fault =
    (command_faulty table suites line fault, command_fails table suites line fault)
