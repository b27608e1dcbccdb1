-- A source builds on another one if and only if there is a package by which it does.
use Rattle.std.proofs.Common.{◌≡◌, ◌&&◌, not, true, Option, None, Some, length, refl}
use Rattle.std.specs.Prelude.{filter, is_some}
use Rattle.std.specs.List.{Contains, range_with_len}
use Rattle.std.specs.Str.{bytes_eq}
use Rattle.std.proofs.lemmas.Bool.{and_from, and_parts, false≢true}
use Rattle.td_indices.specs.Archive.{is_of}
use Rattle.td_indices.specs.Kept.{KeptBinary}
use Rattle.td_plan.specs.BuildsThere.{asks_there}
use Rattle.td_plan.specs.Packages.{package_name}
use Rattle.td_plan.specs.StepLaws.{BasesHavePackages}
use Rattle.td_plan.specs.Why.{asks_somewhere, base_package}
use Rattle.td_plan.proofs.Chosen.{any-again, any-found}
use Rattle.td_plan.proofs.Existing.{filter-has, range-has}
use Rattle.td_plan.proofs.InOrders.{first-least}
use Rattle.td_plan.proofs.Picked.{there-is}
use Rattle.td_plan.proofs.Somewhere.{apart-again, sources_build_somewhere}
use Rattle.td_plan.proofs.ToldOnce.{place-within}

pub bases-have-packages : BasesHavePackages
bases-have-packages = λ a s t named apart. (
  λ on.
      let there = (sources_build_somewhere a s t named).0 on in
      let both = and_parts (not (bytes_eq s.head.name t.head.name)) _ there.2 in
      let found = any-found (λ b. is_of t.head.name b && asks_there a s there.0 b) a.binaries
      both.1 in
      let of = and_parts (is_of t.head.name found.0) _ found.2 in
      let passes : asks_somewhere a s t found.0 ≡ true =
      and_from (is_of t.head.name found.0) _ of.0
      (any-again (λ place. asks_there a s place found.0) (range_with_len 0 (length a.table)) there.0
      (range-has (length a.table) there.0 there.1) of.1) in
      let has : Contains (filter (asks_somewhere a s t) a.binaries) found.0 =
      filter-has (asks_somewhere a s t) a.binaries found.0 found.1 passes in
      some (base_package a s t)
      (there-is package_name (filter (asks_somewhere a s t) a.binaries) found.0 has),
  λ is.
      let of = first-least package_name (asks_somewhere a s t) a.binaries is.0 is.1 in
      let both = and_parts (is_of t.head.name is.0) _ of.1 in
      let place = any-found (λ place. asks_there a s place is.0)
      (range_with_len 0 (length a.table)) both.1 in
      (sources_build_somewhere a s t named).1 (
        place.0,
        place-within (length a.table) place.0 place.1,
        and_from (not (bytes_eq s.head.name t.head.name)) _
            (apart-again s.head.name t.head.name apart)
            (any-again (λ b. is_of t.head.name b && asks_there a s place.0 b) a.binaries is.0 of.0
            (and_from (is_of t.head.name is.0) _ both.0 place.2)),
      ),
)
  where
    some : (o : Option KeptBinary) → is_some o ≡ true → (b : KeptBinary) × (o ≡ Some b)
    some None h = absurd (false≢true h)
    some (Some b) h = (b, refl)
