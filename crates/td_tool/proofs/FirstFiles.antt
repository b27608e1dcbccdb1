-- A file of an archive that wasn't read, after those that were.
use Rattle.std.proofs.Common.{◌≡◌, ℕ, Bool, List, Option, ap, sym, subst, ◌∙◌}
use Rattle.td_bytes.specs.declared.text.TextFault.{TextFault}
use Rattle.td_tool.specs.declared.file_texts.FileFault.{FileFault}
use Rattle.td_inputs.specs.declared.role.Role.TheVariants.{Archs, Packages, Sources}
use Rattle.td_tool.specs.Checks.{HasFailed, IsTextOf, files_of}
use Rattle.td_tool.specs.CheckInside.{HasFailedIn}
use Rattle.td_tool.specs.TrackInside.{HasFailedFor}
use Rattle.td_details.specs.CutOff.{is_cut_off}
use Rattle.td_tool.specs.Counted.{cut_in}
use Rattle.td_tool.specs.Tracks.{file_at}
use Rattle.td_tool.specs.declared.early_texts.CutOff.{CutOff}

abbrev flags : Bool → Bool → CutOff
flags packages sources = record { packages = packages; sources = sources }

-- flags that are each what its text says are those of both texts
pub flags_said : (a b : Bool) (packages sources : List ℕ) → a ≡ is_cut_off packages
    → b ≡ is_cut_off sources → flags a b ≡ cut_in packages sources
flags_said a b packages sources first second =
    ap (λ v. flags v b) first ∙ ap (λ v. flags (is_cut_off packages) v) second

module _ (bytes : List ℕ → Option (List ℕ)) (can_fail : List ℕ → TextFault → Bool)
    (archs packages sources : List ℕ) (f : FileFault) where
  pub archs_fail : HasFailedFor (file_at bytes can_fail archs) Archs f
      → HasFailedIn (files_of bytes can_fail archs packages sources) f
  archs_fail failed =
      subst (λ r. HasFailed (files_of bytes can_fail archs packages sources) r f.fault)
      (sym failed.asked)
      (record { before = tt; may = failed.may.may; fits = failed.may.fits })

  pub packages_fail : (a : List ℕ) → IsTextOf (bytes archs) a
      → HasFailedFor (file_at bytes can_fail packages) Packages f
      → HasFailedIn (files_of bytes can_fail archs packages sources) f
  packages_fail a in_archs failed =
      subst (λ r. HasFailed (files_of bytes can_fail archs packages sources) r f.fault)
      (sym failed.asked)
      (record { before = (a, in_archs); may = failed.may.may; fits = failed.may.fits })

  pub sources_fail : (a p : List ℕ) → IsTextOf (bytes archs) a → IsTextOf (bytes packages) p
      → HasFailedFor (file_at bytes can_fail sources) Sources f
      → HasFailedIn (files_of bytes can_fail archs packages sources) f
  sources_fail a p in_archs in_packages failed =
      subst (λ r. HasFailed (files_of bytes can_fail archs packages sources) r f.fault)
      (sym failed.asked)
      (record {
        before = (a, p, in_archs, in_packages);
        may = failed.may.may;
        fits = failed.may.fits;
      })
