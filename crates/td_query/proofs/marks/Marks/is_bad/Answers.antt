-- `Marks::is_bad`: what it answers.
use Rattle.std.proofs.Common.{◌≡◌, ◌∙◌, false, Option, None, Some, ap, get_or, refl, slice_get}
use Rattle.std.specs.Option.{option_map_or}
use Rattle.td_indices.specs.Archive.{Contents}
use Rattle.td_indices.specs.Kept.{KeptBinary}
use Rattle.td_indices.specs.Stanzas.{package_fields}
use Rattle.td_query.specs.Marks.{mark_on, no_mark}
use Rattle.td_query.specs.Tracking.{Tracking}
use Rattle.td_query.specs.Truth.{truth}
use Rattle.td_query.proofs.Unmarked.{mark_found}
use Rattle.td_query.proofs.marks.Marks.is_bad.Goals as goal

-- the flag of the package's mark; false if there is no such package
bad_of : (a : Contents) (t : Tracking) (o : Option KeptBinary)
    → (option_map_or (λ b. mark_on t (package_fields a b)) o no_mark).bad
    ≡ option_map_or (λ b. truth t.patterns (package_fields a b) t.bad) o false
bad_of a t None = refl
bad_of a t (Some b) = refl

pub returns : goal.returns
returns c =
    record {
      bad = λ a t of. ap (λ m. m.bad) (c.mark_at.ensures
          ∙ ap (λ ms. get_or ms c.args.binary no_mark) c.as_slice.ensures.value
          ∙ mark_found (λ (b : KeptBinary). mark_on t (package_fields a b)) a.binaries c.args.binary
          c.args.self.now.packages.items of.packages)
          ∙ bad_of a t (slice_get a.binaries c.args.binary);
    }
