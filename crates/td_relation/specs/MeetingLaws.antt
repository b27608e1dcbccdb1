-- Laws of what meets a relation. This project's own.
use Rattle.std.specs.Prelude.{◌≡◌, ◌≢◌, ℕ, not, true, false, List, ◌++◌, Some, map, if◌then◌else◌}
use Rattle.std.specs.List.{list_any}
use Rattle.td_relation.specs.Arch.{ArchWords, matches}
use Rattle.td_relation.specs.ArchList.{counts}
use Rattle.td_relation.specs.Asked.{Asked}
use Rattle.td_relation.specs.Meeting.{met, names}
use Rattle.td_relation.specs.Offers.{Offered}
use Rattle.td_relation.specs.RelationWriting.{WrittenArchs, marked, ArchsFit}

-- what is offered under a name that a relation doesn't name on an architecture makes no difference
-- to it there
abbrev pub OthersMakeNoDifference : Type 0
OthersMakeNoDifference =
    (some other : List ℕ → List Offered) (place : ℕ) (a : ArchWords) (name : List ℕ)
    (ms : List (List Asked)) →
    ((q : List ℕ) → q ≢ name → some q ≡ other q) → names a name ms ≡ false →
    met some place a ms ≡ met other place a ms

-- what is met stays met where more is offered
abbrev pub MoreStillMeets : Type 0
MoreStillMeets =
    (some more : List ℕ → List Offered) (place : ℕ) (a : ArchWords) (ms : List (List Asked)) →
    met some place a ms ≡ true → met (λ q. some q ++ more q) place a ms ≡ true

-- a plain architecture list counts where some of its names matches,
-- a negated one where none does (Policy 7.1)
abbrev pub ListsCount : Type 0
ListsCount =
    (a : ArchWords) (l : WrittenArchs) → ArchsFit (Some l) →
    counts a (map (marked l.negated) l.names)
    ≡ (if l.negated then not (list_any (matches a) l.names) else list_any (matches a) l.names)
