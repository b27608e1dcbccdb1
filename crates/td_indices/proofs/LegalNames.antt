-- The sources that are kept have names of packages.
use Rattle.std.proofs.Common.{◌≡◌, ℕ, zero, suc, ◌+◌, Bool, true, List, [], ◌∷◌, Option, Some, None}
use Rattle.std.proofs.Common.{Result, Ok, Err, option_map, slice_get, refl, sym, ap, ◌∙◌, subst}
use Rattle.std.proofs.Common.{inl, inr}
use Rattle.std.specs.Borrow.{Bor}
use Rattle.std.specs.List.{AllByRecursion}
use Rattle.std.proofs.lemmas.Bool.{cases_Bool}
use Rattle.td_text.specs.Words.{is_name}
use Rattle.td_rows.proofs.Lists.{slice_get-map}
use Rattle.td_stanza.specs.Field.{Entry}
use Rattle.td_indices.specs.declared.archive_fault.ArchiveFault.{ArchiveFault}
use Rattle.td_indices.specs.declared.archive_fault.EntryFault.{EntryFault}
use Rattle.td_indices.specs.declared.archive_fault.IndexFile.{IndexFile}
use Rattle.td_indices.specs.declared.archive_fault.IndexFile.TheVariants.{Sources}
use Rattle.td_indices.specs.declared.sourced.Sourced.{Sourced}
use Rattle.td_indices.specs.Kept.{put}
use Rattle.td_indices.specs.Reading.{at_stanza, over_stanzas, sources_at}
use Rattle.td_indices.specs.Sources.{KeptSource, kept_source_at}
use Rattle.td_indices.specs.Sources.{lower_source, same_source, source_of, sources_of}
use Rattle.td_indices.proofs.CountingLaws.{step}
use Rattle.td_indices.proofs.SourceStanzas.{source_found}

all_put : {A : Type 0} (same lower : A → A → Bool) (P : A → Type 0) (x : A) (ys : List A) → P x
    → AllByRecursion P ys → AllByRecursion P (put same lower ys x)
all_put same lower P x [] p h = (p, tt)
all_put same lower P x (y ∷ ys) p h =
    elim (cases_Bool (same x y)) [
      | inl is ↦ elim (cases_Bool (lower y x)) [
        | inl less ↦ rw (is, less) (p, h.1)
        | inr not_less ↦ rw (is, not_less) h
      ]
      | inr other ↦ rw other (h.0, all_put same lower P x ys p h.1)
    ]

module _ {A : Type 0} (same lower : A → A → Bool)
    (at : ℕ → List Entry → Result (Option A) EntryFault) (file : IndexFile) (P : A → Type 0)
    (each : (n : ℕ) (s : List Entry) (x : A) → at n s ≡ Ok (Some x) → P x) where
  over_by : (n : ℕ) (seen : List A) (s : List Entry) (ss : List (List Entry)) (kept : List A)
      → ((more : List A) → AllByRecursion P more
      → over_stanzas (step same lower at file) (n + 1) more ss ≡ Ok kept → AllByRecursion P kept)
      → AllByRecursion P seen → (r : Result (Option A) EntryFault) → at n s ≡ r
      → over_stanzas (step same lower at file) n seen (s ∷ ss) ≡ Ok kept → AllByRecursion P kept
  unfolding over_stanzas
  over_by n seen s ss kept later h (Err e) r is =
      absurd (let bad : ◌≡◌ {A = Result (List A) ArchiveFault} (Err (at_stanza file n e))
      (Ok kept) = sym (rw r refl) ∙ is in cc)
  over_by n seen s ss kept later h (Ok None) r is = later seen h (sym (rw r refl) ∙ is)
  over_by n seen s ss kept later h (Ok (Some x)) r is =
      later (put same lower seen x) (all_put same lower P x seen (each n s x r) h)
      (sym (rw r refl) ∙ is)

  pub all_over : (n : ℕ) (seen : List A) (ss : List (List Entry)) (kept : List A)
      → AllByRecursion P seen → over_stanzas (step same lower at file) n seen ss ≡ Ok kept
      → AllByRecursion P kept
  unfolding over_stanzas
  all_over n seen [] kept h is =
      let e : seen ≡ kept = cc in subst (λ (k : List A). AllByRecursion P k) e h
  all_over n seen (s ∷ ss) kept h is =
      over_by n seen s ss kept (λ more g k. all_over (n + 1) more ss kept g k) h (at n s) refl is

pub all_at : {A : Type 0} (P : A → Type 0) (xs : List A) (n : ℕ) (x : A) → AllByRecursion P xs
    → slice_get xs n ≡ Some x → P x
all_at P [] n x h at = absurd (let bad : None ≡ Some x = at in cc)
all_at P (y ∷ xs) zero x h at = let same : y ≡ x = cc in subst P same h.0
all_at P (y ∷ xs) (suc n) x h at = all_at P xs n x h.1 at

-- the name of a source in the map
pub legal_at : (stanzas : List (List Entry)) (es : List (Bor (List ℕ) × Sourced)) (n : ℕ)
    (p : Bor (List ℕ) × Sourced) → sources_at stanzas ≡ Ok (sources_of es) → slice_get es n ≡ Some p
    → is_name p.0.now ≡ true
legal_at stanzas es n p kept at =
    all_at (λ (s : KeptSource). is_name s.head.name ≡ true) (sources_of es) n (source_of p)
    (all_over same_source lower_source kept_source_at Sources
    (λ (s : KeptSource). is_name s.head.name ≡ true)
    (λ m fields s e. (source_found m fields s e).legal) 0 [] stanzas (sources_of es) tt kept)
    (slice_get-map source_of es n ∙ ap (option_map source_of) at)
