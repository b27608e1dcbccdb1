-- The sources of an archive by their numbers and their names, if none is there twice.
use Rattle.std.proofs.Common.{◌≡◌, ℕ, ◌∙◌, List, Some, ap, length, nat_lt, slice_get, sym}
use Rattle.std.specs.List.{Contains, position_or_len}
use Rattle.std.specs.Str.{bytes_eq}
use Rattle.std.proofs.lemmas.List.Folds.{find_at}
use Rattle.std.proofs.lemmas.List.Quantifiers.{position-Some}
use Rattle.std.proofs.lemmas.Option.{cond_some, get_or_from_slice_get, same_Some}
use Rattle.std.proofs.lemmas.Option.{slice_get-get_or}
use Rattle.std.proofs.lemmas.Slice.Eq.{bytes_eq-Decides}
use Rattle.td_indices.specs.Archive.{Contents, number_named, source_named}
use Rattle.td_indices.specs.Sources.{KeptSource}
use Rattle.td_plan.specs.Premises.{AreSound, Premises, SourcesAreApart}

-- an item that a list has, by its place
pub placed-at : {A : Type 0} (xs : List A) (x : A) (has : Contains xs x)
    → slice_get xs has.0 ≡ Some x
placed-at {A} xs x has =
    slice_get-get_or xs has.0 x has.1 ∙ ap (λ (y : A). Some y) has.2

-- the source with the number of a name has this name
pub has-name : (a : Contents) (name : List ℕ) (number : ℕ) (s : KeptSource)
    → number_named a name ≡ Some number → slice_get a.sources number ≡ Some s
    → name ≡ s.head.name
has-name a name number s named at =
    let test = λ (t : KeptSource). bytes_eq name t.head.name in
    let passes = (position-Some test a.sources number s named).1 in
    (bytes_eq-Decides name s.head.name).0
    (ap test (sym (get_or_from_slice_get a.sources number s s at)) ∙ passes)

module _ (a : Contents) (apart : SourcesAreApart a) where
  -- a source is the one of its name
  pub named-own : (s : KeptSource) → Contains a.sources s → source_named a s.head.name ≡ Some s
  named-own s has =
      let at : slice_get a.sources has.0 ≡ Some s = placed-at a.sources s has in
      let test = λ (t : KeptSource). bytes_eq s.head.name t.head.name in
      let n : ℕ = position_or_len test a.sources in
      let first = cond_some (nat_lt n (length a.sources)) n has.0 (apart has.0 s at) in
      find_at test a.sources ∙ ap (slice_get a.sources) first.1 ∙ at

  -- sources of one name are one
  pub one-of-name : (j k : ℕ) (s t : KeptSource) → slice_get a.sources j ≡ Some s
      → slice_get a.sources k ≡ Some t → s.head.name ≡ t.head.name → s ≡ t
  one-of-name j k s t left right same =
      let number : j ≡ k =
      same_Some j k (sym (apart j s left) ∙ ap (number_named a) same ∙ apart k t right) in
      same_Some s t (sym left ∙ ap (slice_get a.sources) number ∙ right)

module _ (p : Premises) (sound : AreSound p) where
  pub named-by : (s : KeptSource) → Contains p.archive.sources s
      → source_named p.archive s.head.name ≡ Some s
  named-by = named-own p.archive sound.numbered

  pub one-named : (j k : ℕ) (s t : KeptSource) → slice_get p.archive.sources j ≡ Some s
      → slice_get p.archive.sources k ≡ Some t → s.head.name ≡ t.head.name → s ≡ t
  one-named = one-of-name p.archive sound.numbered
