-- What the readers give, without where it lies in memory. This project's own.
use Rattle.std.specs.Prelude.{◌≡◌, ℕ, List, Option, option_map, Result, Ok, Err}
use Rattle.std.specs.Borrow.{Bor}
use Rattle.td_relation.specs.declared.relation.Restriction.{Restriction}
use Rattle.td_relation.specs.declared.relation.Alternative.{Alternative}
use Rattle.td_relation.specs.declared.relation_fault.RelationFault.{RelationFault}
use Rattle.td_relation.specs.declared.relation_fault.RelationFault.TheVariants.{BadName}
use Rattle.td_relation.specs.declared.relation_fault.RelationFault.TheVariants.{BadOperator}
use Rattle.td_relation.specs.declared.relation_fault.RelationFault.TheVariants.{BadVersion}
use Rattle.td_relation.specs.declared.relation_fault.RelationFault.TheVariants.{BadArchList}
use Rattle.td_relation.specs.declared.relation_fault.RelationFault.TheVariants.{BadProfile, Empty}
use Rattle.td_relation.specs.declared.relation_fault.RelationFault.TheVariants.{NoMemory}
use Rattle.td_relation.specs.ArchList.{words}
use Rattle.td_relation.specs.Asked.{Bound, restriction_of, Asked, asked}

-- two texts
abbrev pub texts : Bor (List ℕ) × Bor (List ℕ) → List ℕ × List ℕ
texts p = (p.0.now, p.1.now)

-- a restriction, and what follows it
abbrev pub restriction_read : Result (Option Restriction × Bor (List ℕ)) RelationFault
    → Result (Option Bound × List ℕ) RelationFault
restriction_read (Ok p) = Ok (option_map restriction_of p.0, p.1.now)
restriction_read (Err fault) = Err fault

-- an architecture list, and what follows it
abbrev pub archs_read : Option (Bor (List ℕ)) × Bor (List ℕ) → Option (List (List ℕ)) × List ℕ
archs_read p = (option_map (λ list. words list.now) p.0, p.1.now)

-- an alternative
abbrev pub alternative_read : Result Alternative RelationFault → Result Asked RelationFault
alternative_read (Ok a) = Ok (asked a)
alternative_read (Err fault) = Err fault

-- a fault is the reading's; `NoMemory` may be the answer for any reading
abbrev pub IsFaultOf : {A : Type 0} → Result A RelationFault → RelationFault → Type 0
IsFaultOf read NoMemory = Unit {0}
IsFaultOf read BadName = read ≡ Err BadName
IsFaultOf read BadOperator = read ≡ Err BadOperator
IsFaultOf read BadVersion = read ≡ Err BadVersion
IsFaultOf read BadArchList = read ≡ Err BadArchList
IsFaultOf read BadProfile = read ≡ Err BadProfile
IsFaultOf read Empty = read ≡ Err Empty
