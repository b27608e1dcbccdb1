-- What is wrong first with the head of a command line.
use Rattle.std.proofs.Common.{◌≡◌, List, Option, Result, Ok, Err, refl, ap, ◌∙◌, inl, inr}
use Rattle.td_text.specs.Lines.{on_ok}
use Rattle.td_relation.specs.Arch.{ArchWords}
use Rattle.td_wbread.specs.declared.command.Verb.{Verb}
use Rattle.td_wbread.specs.declared.fault.CommandFault.{CommandFault}
use Rattle.td_wbread.specs.declared.word.Word.{Word}
use Rattle.td_wbread.specs.declared.word.End.{End}
use Rattle.td_wbread.specs.Archs.{archs_at}
use Rattle.td_wbread.specs.Command.{Head, head_at}
use Rattle.td_wbread.specs.HeadFaults.{HeadFaultsAreExact, IsHeadFault}
use Rattle.td_wbread.specs.Packages.{packages_at}
use Rattle.td_wbread.specs.Verbs.{verb_at}
use Rattle.td_wbread.proofs.Dotted.{packages_exact}
use Rattle.td_wbread.proofs.ListFaults.{arch_faults_are_exact, err_is, not_both}
use Rattle.td_wbread.proofs.ListFaults.{package_faults_are_exact}
use Rattle.td_wbread.proofs.VerbFaults.{verb_faults_are_exact}
use Rattle.td_wbread.proofs.VerbShapes.{verbs_exact}

module _ (table : List ArchWords) (end : End) (words : List Word) (fault : CommandFault) where
  -- a head of these parts
  abbrev made : Verb → List Word → List Word × Option (List Word) → Head
  made verb packages archs = record {
    verb = verb;
    packages = packages;
    archs = archs.0;
    behind = archs.1;
  }

  -- the head, by what its parts are read as
  abbrev by_archs : Verb → List Word → Result (List Word × Option (List Word)) CommandFault
      → Result Head CommandFault
  by_archs verb packages archs = on_ok archs (λ a. Ok (made verb packages a))

  abbrev by_packages : Verb → Result (List Word × List Word) CommandFault
      → Result Head CommandFault
  by_packages verb packages =
      on_ok packages (λ p. by_archs verb p.0 (archs_at table end p.1))

  abbrev by_verb : Result (Verb × List Word) CommandFault → Result Head CommandFault
  by_verb verb = on_ok verb (λ v. by_packages v.0 (packages_at end v.1))

  head_faulty : head_at table end words ≡ Err fault → IsHeadFault table end words fault
  head_faulty h = verb (verb_at end words) refl h
    where
      archs : (v : Verb × List Word) (p : List Word × List Word)
          (r : Result (List Word × Option (List Word)) CommandFault)
          → verb_at end words ≡ Ok v → packages_at end v.1 ≡ Ok p → archs_at table end p.1 ≡ r
          → by_archs v.0 p.0 r ≡ Err fault → IsHeadFault table end words fault
      archs v p (Ok a) first second is g = absurd (not_both (made v.0 p.0 a) fault g)
      archs v p (Err e) first second is g =
          inr (inr (
            v.0,
            v.1,
            p.0,
            p.1,
            (verbs_exact end words v.0 v.1).0 first,
            (packages_exact end v.1 p.0 p.1).0 second,
            (arch_faults_are_exact table end p.1 fault).0
                (is ∙ ap (λ (x : CommandFault). Err x) (err_is {A = Head} e fault g)),
          ))

      packages : (v : Verb × List Word) (r : Result (List Word × List Word) CommandFault)
          → verb_at end words ≡ Ok v → packages_at end v.1 ≡ r
          → by_packages v.0 r ≡ Err fault → IsHeadFault table end words fault
      packages v (Ok p) first is g = archs v p (archs_at table end p.1) first is refl g
      packages v (Err e) first is g =
          inr (inl (
            v.0,
            v.1,
            (verbs_exact end words v.0 v.1).0 first,
            (package_faults_are_exact end v.1 fault).0
                (is ∙ ap (λ (x : CommandFault). Err x) (err_is {A = Head} e fault g)),
          ))

      verb : (r : Result (Verb × List Word) CommandFault) → verb_at end words ≡ r
          → by_verb r ≡ Err fault → IsHeadFault table end words fault
      verb (Ok v) is g = packages v (packages_at end v.1) is refl g
      verb (Err e) is g =
          inl ((verb_faults_are_exact end words fault).0
          (is ∙ ap (λ (x : CommandFault). Err x) (err_is {A = Head} e fault g)))

  head_fails : IsHeadFault table end words fault → head_at table end words ≡ Err fault
  head_fails (inl wrong) = ap by_verb ((verb_faults_are_exact end words fault).1 wrong)
  head_fails (inr (inl (v, rest, first, wrong))) =
      ap by_verb ((verbs_exact end words v rest).1 first)
      ∙ ap (by_packages v) ((package_faults_are_exact end rest fault).1 wrong)
  head_fails (inr (inr (v, rest, front, behind, first, second, wrong))) =
      ap by_verb ((verbs_exact end words v rest).1 first)
      ∙ ap (by_packages v) ((packages_exact end rest front behind).1 second)
      ∙ ap (by_archs v front) ((arch_faults_are_exact table end behind fault).1 wrong)

pub head_faults_are_exact : HeadFaultsAreExact
head_faults_are_exact table end words fault =
    (head_faulty table end words fault, head_fails table end words fault)
