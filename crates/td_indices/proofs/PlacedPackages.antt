-- A map of places, by the packages that stand there: looked up, and after one more.
use Rattle.std.proofs.Common.{◌≡◌, ℕ, zero, suc, true, false, List, [], ◌∷◌, Option}
use Rattle.std.proofs.Common.{Some, None, length, slice_get, refl, sym, ap, ◌∙◌}
use Rattle.std.proofs.Common.{inl, inr}
use Rattle.std.specs.Prelude.{Bool, if◌then◌else◌, option_and_then, option_map}
use Rattle.std.specs.Global.{Vec}
use Rattle.std.specs.Map.{lookup}
use Rattle.std.proofs.lemmas.Bool.{cases_Bool}
use Rattle.indexmap.specs.IndexMap.{insert_entry}
use Rattle.td_text.proofs.Chain.{some_is}
use Rattle.td_version.specs.Version.{parts_of}
use Rattle.td_indices.specs.declared.packaged.PackageKey.{PackageKey}
use Rattle.td_indices.specs.declared.packaged.Packaged.{Packaged}
use Rattle.td_indices.specs.declared.placing.Place.{Place}
use Rattle.td_indices.specs.PackageKeys.{same_key}
use Rattle.td_indices.specs.Kept.{same_package, lower_package, put, stays, binary_of}
use Rattle.td_indices.specs.Kept.{binaries_of}
use Rattle.td_indices.specs.inner.Placed.{ArePlaced, packaged_in, placed}
use Rattle.td_indices.proofs.Keeping.{put_enters, put_stays}

-- what a key had is put back
insert_entry-back : (k : PackageKey) (place earlier : Place) (es : List (PackageKey × Place))
    → lookup (same_key k) es ≡ Some earlier
    → insert_entry same_key (insert_entry same_key es k place) k earlier ≡ es
insert_entry-back k place earlier [] had = absurd (let bad : None ≡ Some earlier = had in cc)
insert_entry-back k place earlier (e ∷ es) had =
    elim (cases_Bool (same_key k e.0)) [
      | inl is ↦
          let its : e.1 ≡ earlier = some_is e.1 earlier (sym (ap here is) ∙ had) in
          rw (is, is) (ap (λ (p : Place). (e.0, p) ∷ es) (sym its))
      | inr other ↦
          rw (other, other) (ap (λ (l : List (PackageKey × Place)). e ∷ l)
          (insert_entry-back k place earlier es (sym (ap here other) ∙ had)))
    ]
  where
    here : Bool → Option Place
    here b = if b then Some e.1 else lookup (same_key k) es

-- the same of the map in between
pub put_back : (k : PackageKey) (place earlier : Place) (es between behind : List (PackageKey
    × Place)) → lookup (same_key k) es ≡ Some earlier
    → between ≡ insert_entry same_key es k place
    → behind ≡ insert_entry same_key between k earlier → behind ≡ es
put_back k place earlier es between behind had first second =
    second ∙ ap (λ (l : List (PackageKey × Place)). insert_entry same_key l k earlier) first
    ∙ insert_entry-back k place earlier es had

module _ (parts : List (Vec (PackageKey × Packaged))) where
  -- as many as there are places
  pub length-placed : (es : List (PackageKey × Place)) → ArePlaced parts es
      → length (placed parts es) ≡ length es
  length-placed [] h = refl
  length-placed (e ∷ es) h = rw h.0.1 (ap suc (length-placed es h.1))

  -- the one with a number
  pub get-some : (es : List (PackageKey × Place)) (n : ℕ) (e : PackageKey × Place) (v : Packaged)
      → ArePlaced parts es → slice_get es n ≡ Some e → packaged_in parts e.1 ≡ Some v
      → slice_get (placed parts es) n ≡ Some (e.0, v)
  get-some [] n e v h at is = absurd (let bad : None ≡ Some e = at in cc)
  get-some (d ∷ es) zero e v h at is =
      let same : d ≡ e = some_is d e at in
      rw h.0.1 (let its : ◌≡◌ {A = Option Packaged} (Some h.0.0) (Some v) =
      sym h.0.1 ∙ ap (λ (x : PackageKey × Place). packaged_in parts x.1) same ∙ is in
      ap (λ (x : PackageKey × Place). Some (x.0, h.0.0)) same
      ∙ ap (λ (w : Packaged). Some (e.0, w)) (some_is h.0.0 v its))
  get-some (d ∷ es) (suc n) e v h at is = rw h.0.1 (get-some es n e v h.1 at is)

  -- there is one with each number that the map has ..
  pub get-gone : (es : List (PackageKey × Place)) (n : ℕ) (e : PackageKey × Place)
      → ArePlaced parts es → slice_get es n ≡ Some e → packaged_in parts e.1 ≡ None
      → slice_get (placed parts es) n ≡ None
  get-gone [] n e h at is = refl
  get-gone (d ∷ es) zero e h at is =
      absurd (let same : d ≡ e = some_is d e at in
      let bad : ◌≡◌ {A = Option Packaged} (Some h.0.0) None =
      sym h.0.1 ∙ ap (λ (x : PackageKey × Place). packaged_in parts x.1) same ∙ is in cc)
  get-gone (d ∷ es) (suc n) e h at is = rw h.0.1 (get-gone es n e h.1 at is)

  -- .. and none with another
  pub get-none : (es : List (PackageKey × Place)) (n : ℕ)
      → ArePlaced parts es → slice_get es n ≡ None → slice_get (placed parts es) n ≡ None
  get-none [] n h at = refl
  get-none (d ∷ es) zero h at = absurd (let bad : Some d ≡ None = at in cc)
  get-none (d ∷ es) (suc n) h at = rw h.0.1 (get-none es n h.1 at)

  -- the one of a key
  pub lookup-placed : (k : PackageKey) (es : List (PackageKey × Place)) → ArePlaced parts es
      → lookup (same_key k) (placed parts es)
      ≡ option_and_then (packaged_in parts) (lookup (same_key k) es)
  lookup-placed k [] h = refl
  lookup-placed k (e ∷ es) h =
      elim (cases_Bool (same_key k e.0)) [
        | inl is ↦ rw (h.0.1, is) (sym h.0.1)
        | inr other ↦ rw (h.0.1, other) (lookup-placed k es h.1)
      ]

  -- one more
  pub insert-placed : (k : PackageKey) (place : Place) (v : Packaged)
      (es : List (PackageKey × Place)) → packaged_in parts place ≡ Some v → ArePlaced parts es
      → placed parts (insert_entry same_key es k place)
      ≡ insert_entry same_key (placed parts es) k v
  insert-placed k place v [] at h = rw at refl
  insert-placed k place v (e ∷ es) at h =
      elim (cases_Bool (same_key k e.0)) [
        | inl is ↦ rw (h.0.1, is, at) refl
        | inr other ↦
            rw (h.0.1, other, h.0.1) (ap (λ (l : List (PackageKey × Packaged)). (e.0, h.0.0) ∷ l)
            (insert-placed k place v es at h.1))
      ]

  pub are-placed : (k : PackageKey) (place : Place) (v : Packaged)
      (es : List (PackageKey × Place)) → packaged_in parts place ≡ Some v → ArePlaced parts es
      → ArePlaced parts (insert_entry same_key es k place)
  are-placed k place v [] at h = ((v, at), tt)
  are-placed k place v (e ∷ es) at h =
      elim (cases_Bool (same_key k e.0)) [
        | inl is ↦ rw is ((v, at), h.1)
        | inr other ↦ rw other (h.0, are-placed k place v es at h.1)
      ]

  -- whether the package that a key has stays, by its place
  stays-placed : (es : List (PackageKey × Place)) (k : PackageKey) (v : Packaged)
      (had : Option Place) (b : Bool) → ArePlaced parts es → had ≡ lookup (same_key k) es
      → stays (option_and_then (packaged_in parts) had) (parts_of v.parts) ≡ b
      → stays (lookup (same_key k) (placed parts es)) (parts_of v.parts) ≡ b
  stays-placed es k v had b are is h =
      ap (λ (o : Option Packaged). stays o (parts_of v.parts)) (lookup-placed k es are)
      ∙ ap (λ (o : Option Place). stays (option_and_then (packaged_in parts) o) (parts_of v.parts))
      (sym is) ∙ h

  -- the one that the key had isn't lower
  pub place_stays : (es new : List (PackageKey × Place)) (k : PackageKey) (v : Packaged)
      (had : Option Place) → ArePlaced parts es → had ≡ lookup (same_key k) es
      → stays (option_and_then (packaged_in parts) had) (parts_of v.parts) ≡ true → new ≡ es
      → binaries_of (placed parts new)
      ≡ put same_package lower_package (binaries_of (placed parts es)) (binary_of (k, v))
  place_stays es new k v had are is h same =
      ap (λ (l : List (PackageKey × Place)). binaries_of (placed parts l)) same
      ∙ put_stays (placed parts es) k v (stays-placed es k v had true are is h)

  -- the key had none, or a lower one
  pub place_enters : (es new : List (PackageKey × Place)) (k : PackageKey) (place : Place)
      (v : Packaged) (had : Option Place) → packaged_in parts place ≡ Some v → ArePlaced parts es
      → had ≡ lookup (same_key k) es
      → stays (option_and_then (packaged_in parts) had) (parts_of v.parts) ≡ false
      → new ≡ insert_entry same_key es k place
      → binaries_of (placed parts new)
      ≡ put same_package lower_package (binaries_of (placed parts es)) (binary_of (k, v))
  place_enters es new k place v had at are is h put_in =
      ap (λ (l : List (PackageKey × Place)). binaries_of (placed parts l)) put_in
      ∙ ap (λ (l : List (PackageKey × Packaged)). binaries_of l) (insert-placed k place v es at are)
      ∙ put_enters (placed parts es) k v (stays-placed es k v had false are is h)
