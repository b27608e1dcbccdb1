-- `Archive::binaries`: what it answers.
use Rattle.std.proofs.Common.{◌≡◌, ℕ, Bool, ◌&&◌, List, false, filter, slice_get, ap, ◌∙◌, refl}
use Rattle.std.specs.Option.{option_map_or}
use Rattle.td_relation.specs.Meeting.{is_on}
use Rattle.td_indices.specs.Archive.{Contents, is_of, places_from, binaries_on}
use Rattle.td_indices.specs.Kept.{KeptBinary, binaries_of}
use Rattle.td_indices.proofs.Places.{filter-places}
use Rattle.td_indices.proofs.archive.Archive.binaries.Goals as goal

-- whether the binary package with a number is on the architecture
unfoldable here : List KeptBinary → ℕ → ℕ → Bool
here bs arch n = option_map_or (λ (b : KeptBinary). is_on arch b.head.home) (slice_get bs n) false

-- the numbers of a group on an architecture
those : (bs : List KeptBinary) (source group : List ℕ) (arch : ℕ)
    → group ≡ places_from (is_of source) 0 bs
    → filter (here bs arch) group
    ≡ places_from (λ (b : KeptBinary). is_of source b && is_on arch b.head.home) 0 bs
unfolding here
those bs source group arch is =
    ap (filter (here bs arch)) is
    ∙ filter-places (is_of source) (λ (b : KeptBinary). is_on arch b.head.home) bs bs 0 refl

pub returns-in-Ok : goal.returns-in-Ok
unfolding here
returns-in-Ok c =
    let bs = binaries_of c.self.inside.binaries in
    c.in-Ok.ensures
    ∙ those bs c.args.source.now c.of-numbers.result.now c.args.arch
    (c.of-numbers.ensures ∙ c.self.invariant.0 c.args.source.now)
    ∙ ap (λ (a : Contents). binaries_on a c.args.source.now c.args.arch) c.self.view_is
