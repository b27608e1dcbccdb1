-- The source of a package's name, from package to package.
use Rattle.std.proofs.Common.{◌≡◌, ℕ, ◌+◌, ◌<◌, ◌&&◌, Bool, true, false, List, [], ◌∷◌, ◌++◌}
use Rattle.std.proofs.Common.{Option}
use Rattle.std.proofs.Common.{Some, None, drop, length, option_map, slice_get, refl, sym, ap, ◌∙◌}
use Rattle.std.proofs.Common.{if◌then◌else◌}
use Rattle.std.specs.Prelude.{is_some}
use Rattle.std.specs.List.{find, flat_map}
use Rattle.std.specs.Option.{option_and_then, option_or}
use Rattle.std.specs.Str.{bytes_eq}
use Rattle.std.proofs.lemmas.List.Concat.{flat_map-cons}
use Rattle.std.proofs.lemmas.List.Folds.{find-append}
use Rattle.td_version.specs.Version.{Parts}
use Rattle.td_relation.specs.Asked.{Asked, Bound}
use Rattle.td_rows.proofs.Lists.{drop-next, slice_get-none}
use Rattle.td_supply.specs.Supplied.{Supplied}
use Rattle.td_indices.specs.Archive.{Contents, source_named}
use Rattle.td_indices.specs.Kept.{KeptBinary}
use Rattle.td_indices.specs.Seen.{BinarySeen, shown_binary}
use Rattle.td_indices.specs.Sources.{KeptSource}
use Rattle.td_indices.specs.Supplying.{build_of, is_equal, offers_by, own_offer, provided}
use Rattle.td_indices.specs.Supplying.{provided_at, supply_of}
use Rattle.td_lines.specs.Lost.{built_as, is_built_as, source_built_as, source_of}

and_false : (b : Bool) → (b && false) ≡ false
and_false true = refl
and_false false = refl

and_right : (x y : Bool) → (x && y) ≡ true → y ≡ true
and_right true y h = h
and_right false y h = absurd cc

some_mapped : {A B : Type 0} (f : A → B) (o : Option A) → is_some (option_map f o) ≡ is_some o
some_mapped f None = refl
some_mapped f (Some x) = refl

-- a build has the source of its package
build_source : (source : List ℕ) (own built : Parts) (o : Option KeptSource) → is_some o ≡ true
    → option_map (λ b. b.source) (build_of source own built o) ≡ Some source
build_source source own built None is = absurd cc
build_source source own built (Some s) is = refl

test_false : (t : Bool) (s : List ℕ) → None ≡ (if t then Some s else None) → t ≡ false
test_false true s is = absurd cc
test_false false s is = refl

test_true : (t : Bool) (s own : List ℕ) → Some s ≡ (if t then Some own else None) → t ≡ true
test_true true s own is = refl
test_true false s own is = absurd cc

test_same : (t : Bool) (s own : List ℕ) → Some s ≡ (if t then Some own else None)
    → Some s ≡ Some own
test_same true s own is = is
test_same false s own is = absurd cc

module _ (a : Contents) (name : List ℕ) where
  abbrev offers : List KeptBinary → List Supplied
  offers xs = flat_map (offers_by a.sources) xs

  abbrev first : List Supplied → Option Supplied
  first xs = find (is_built_as name) xs

  -- what a package provides is no build
  unbuilt : (n : List ℕ) (v : Option Parts) (home : Option ℕ)
      → first (record { name = n; version = v; arch = home; build = None } ∷ []) ≡ None
  unbuilt n v home =
      let o : Supplied = record { name = n; version = v; arch = home; build = None } in
      ap (λ b. if b then Some o else first []) (and_false (bytes_eq name n))

  provided_at_none : (home : Option ℕ) (n : List ℕ) (r : Option Bound)
      → first (provided_at home n r) ≡ None
  provided_at_none home n None = unbuilt n None home
  provided_at_none home n (Some r) =
      elim (is_equal r.operator) as (λ b. first (if b then
      record { name = n; version = Some r.version; arch = home; build = None } ∷ [] else [])
      ≡ None) [
        | true ↦ unbuilt n (Some r.version) home
        | false ↦ refl
      ]

  member_none : (home : Option ℕ) (members : List Asked) → first (provided home members) ≡ None
  member_none home [] = refl
  member_none home (x ∷ []) = provided_at_none home x.name x.restriction
  member_none home (x ∷ y ∷ more) = refl

  provided_none : (home : Option ℕ) (all : List (List Asked))
      → first (flat_map (provided home) all) ≡ None
  provided_none home [] = refl
  provided_none home (members ∷ all) =
      ap first (flat_map-cons (provided home) members all)
      ∙ find-append (is_built_as name) (provided home members) (flat_map (provided home) all)
      ∙ ap (λ o. option_or o (first (flat_map (provided home) all))) (member_none home members)
      ∙ provided_none home all

  -- the package itself is one if it has the name and its source is there
  own_is : (b : KeptBinary) → is_built_as name (own_offer a.sources b)
      ≡ (bytes_eq name b.head.name && is_some (source_named a b.head.source))
  own_is b = ap (λ x. bytes_eq name b.head.name && x) (some_mapped _ (source_named a b.head.source))

  -- the first package decides, or those after it
  step : (b : KeptBinary) (xs : List KeptBinary)
      → first (offers (b ∷ xs)) ≡ (if is_built_as name (own_offer a.sources b)
      then Some (own_offer a.sources b) else first (offers xs))
  step b xs =
      let others = flat_map (provided b.head.home) b.provides in
      ap first (flat_map-cons (offers_by a.sources) b xs)
      ∙ ap (λ o. if is_built_as name (own_offer a.sources b) then Some (own_offer a.sources b)
      else o)
      (find-append (is_built_as name) others (offers xs)
      ∙ ap (λ o. option_or o (first (offers xs))) (provided_none b.head.home b.provides))

  -- the package at a place decides, or those after it
  step_at : (n : ℕ) (b : KeptBinary) (t : Bool) → slice_get a.binaries n ≡ Some b
      → (bytes_eq name b.head.name && is_some (source_named a b.head.source)) ≡ t
      → first (offers (drop n a.binaries)) ≡ (if t
      then Some (own_offer a.sources b) else first (offers (drop (n + 1) a.binaries)))
  step_at n b t is test =
      ap (λ xs. first (offers xs)) (drop-next a.binaries n b is)
      ∙ step b (drop (n + 1) a.binaries)
      ∙ ap (λ x. if x then Some (own_offer a.sources b)
      else first (offers (drop (n + 1) a.binaries))) (own_is b ∙ test)

  abbrev pub SoFar : ℕ → Type 0
  SoFar n = first (offers (drop n a.binaries)) ≡ first (offers a.binaries)

  passes_by : (n : ℕ) (o : Option KeptBinary) → slice_get a.binaries n ≡ o → n < length a.binaries
      → None ≡ built_as a name (option_map shown_binary o) → SoFar n → SoFar (n + 1)
  passes_by n None is within none so = absurd (slice_get-none a.binaries n is within)
  passes_by n (Some b) is within none so =
      sym (step_at n b false is (test_false _ _ none)) ∙ so

  -- the package at this place isn't it
  pub passes : (n : ℕ) (seen : Option BinarySeen)
      → seen ≡ option_map shown_binary (slice_get a.binaries n) → n < length a.binaries
      → None ≡ built_as a name seen → SoFar n → SoFar (n + 1)
  passes n seen same within none so =
      passes_by n (slice_get a.binaries n) refl within (none ∙ ap (built_as a name) same) so

  found_by : (n : ℕ) (s : List ℕ) (o : Option KeptBinary) → slice_get a.binaries n ≡ o
      → Some s ≡ built_as a name (option_map shown_binary o) → SoFar n
      → Some s ≡ source_built_as (offers a.binaries) name
  found_by n s None is some so = absurd cc
  found_by n s (Some b) is some so =
      let t = test_true _ s b.head.source some in
      test_same _ s b.head.source some
      ∙ sym (build_source b.head.source b.head.parts b.head.source_parts
      (source_named a b.head.source) (and_right (bytes_eq name b.head.name) _ t))
      ∙ ap (option_and_then source_of) (sym (step_at n b true is t) ∙ so)

  -- the package at this place is it
  pub found : (n : ℕ) (s : List ℕ) (seen : Option BinarySeen)
      → seen ≡ option_map shown_binary (slice_get a.binaries n) → Some s ≡ built_as a name seen
      → SoFar n → Some s ≡ source_built_as (supply_of a).offers name
  found n s seen same some so =
      found_by n s (slice_get a.binaries n) refl (some ∙ ap (built_as a name) same) so

  -- there is no package left
  pub ends : (n : ℕ) → drop n a.binaries ≡ [] → SoFar n
      → None ≡ source_built_as (supply_of a).offers name
  ends n none so =
      ap (option_and_then source_of) (sym (ap (λ xs. first (offers xs)) none) ∙ so)
