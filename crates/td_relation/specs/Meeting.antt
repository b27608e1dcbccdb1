-- Where offers meet a relation.
use Rattle.std.specs.Prelude.{ℕ, ◌==◌, ◌&&◌, ◌||◌, not, Bool, true, false, List, Option, Some, None}
use Rattle.std.specs.List.{list_any, list_all}
use Rattle.std.specs.Str.{bytes_eq}
use Rattle.std.specs.Ordering.{is_lt, is_le, is_eq, is_ge, is_gt}
use Rattle.std.specs.declared.cmp.Ordering.{Ordering}
use Rattle.td_version.specs.Order.{version_cmp}
use Rattle.td_version.specs.Version.{Parts}
use Rattle.td_relation.specs.declared.relation.Operator.{Operator}
use Rattle.td_relation.specs.declared.relation.Operator.TheVariants.{Earlier, EarlierOrEqual, Equal}
use Rattle.td_relation.specs.declared.relation.Operator.TheVariants.{LaterOrEqual, Later}
use Rattle.td_relation.specs.Arch.{ArchWords}
use Rattle.td_relation.specs.ArchList.{counts}
use Rattle.td_relation.specs.Asked.{Bound, Asked}
use Rattle.td_relation.specs.Offers.{Offered}

-- how a version has to stand to the one that is given:
-- strictly earlier, earlier or equal, exactly equal, later or equal, strictly later (Policy 7.1)
abbrev pub accepts : Operator → Ordering → Bool
accepts Earlier order = is_lt order
accepts EarlierOrEqual order = is_le order
accepts Equal order = is_eq order
accepts LaterOrEqual order = is_ge order
accepts Later order = is_gt order

-- an offer without a version satisfies only no restriction (Policy 7.5)
abbrev pub satisfies : Option Bound → Option Parts → Bool
satisfies None version = true
satisfies (Some bound) None = false
satisfies (Some bound) (Some version) = accepts bound.operator (version_cmp version bound.version)

-- an offer is on an architecture where it is of that one or of `all`
abbrev pub is_on : ℕ → Option ℕ → Bool
is_on place None = true
is_on place (Some arch) = arch == place

-- an offer is on the architecture at this place
abbrev pub is_there : ℕ → Offered → Bool
is_there place offer = is_on place offer.arch

-- an offer that is on the architecture at this place and satisfies what is asked
abbrev pub suits : ℕ → Option Bound → Offered → Bool
suits place bound offer = is_there place offer && satisfies bound offer.version

-- an architecture list that counts, or none (Policy 7.1)
abbrev pub is_for : ArchWords → Option (List (List ℕ)) → Bool
is_for a None = true
is_for a (Some list) = counts a list

-- an alternative is active on an architecture where its architecture list counts there and its
-- build profile lists hold where no profile is active (this project's own: none is)
abbrev pub active : ArchWords → Asked → Bool
active a alternative = alternative.unprofiled && is_for a alternative.archs

-- an alternative is met by some offer of its name that suits
abbrev pub alternative_met : (List ℕ → List Offered) → ℕ → Asked → Bool
alternative_met offers place alternative = list_any (λ o. suits place alternative.restriction o)
    (offers alternative.name)

-- a member that has an active alternative has an active one that is met
abbrev pub member_met : (List ℕ → List Offered) → ℕ → ArchWords → List Asked → Bool
member_met offers place a member = not (list_any (λ x. active a x) member)
    || list_any (λ x. active a x && alternative_met offers place x) member

-- a relation is met where each member is; the architecture is at this place of the table
abbrev pub met : (List ℕ → List Offered) → ℕ → ArchWords → List (List Asked) → Bool
met offers place a members = list_all (λ m. member_met offers place a m) members

-- some alternative that is active on the architecture has the name
abbrev pub names : ArchWords → List ℕ → List (List Asked) → Bool
names a name members = list_any (λ m. list_any (λ x. active a x && bytes_eq x.name name) m) members
