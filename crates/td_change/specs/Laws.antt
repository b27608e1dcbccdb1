-- A change that is made and given back, at once or past later entries. This project's own.
use Rattle.std.specs.Prelude.{◌≡◌, true, List, [], ◌∷◌}
use Rattle.td_rows.specs.declared.key.Key.{Key}
use Rattle.td_rows.specs.declared.kind.Kind.{Kind}
use Rattle.td_rows.specs.Cells.{Disjoint}
use Rattle.td_rows.specs.Keys.{names, ascending}
use Rattle.td_rows.specs.Kinds.{cells, written}
use Rattle.td_rows.specs.Table.{Table, keys_of, applied, AppliesOn}
use Rattle.td_rows.specs.GivenBack.{given_back}

-- kinds with the keys on which each is journalled, in order
abbrev pub Steps : Type 0
Steps = List (Kind × List Key)

-- the rows after all of the steps
abbrev pub after : Steps → Table → Table
after [] t = t
after (s ∷ steps) t = after steps (applied s.0 s.1 t)

-- each of the steps applies, on each of its keys, to the rows after those before it
abbrev pub Lawful : Table → Steps → Type 0
Lawful t [] = Unit {0}
Lawful t (s ∷ steps) = AppliesOn t s.0 s.1 × Lawful (applied s.0 s.1 t) steps

-- none of the steps shares, at one of the keys, a cell with the kind
abbrev pub Untouched : Kind → List Key → Steps → Type 0
Untouched kind keys [] = Unit {0}
Untouched kind keys (s ∷ steps) = ((k : Key) → names keys k ≡ true → names s.1 k ≡ true
    → Disjoint (cells s.0) (cells kind)) × Untouched kind keys steps

-- what was kept, given back at once, leaves the rows as they were
abbrev pub BackAtOnce : Type 0
BackAtOnce = (kind : Kind) (keys : List Key) (t : Table) → ascending (keys_of t) ≡ true
    → given_back (written kind) keys t (applied kind keys t) ≡ t

-- a change that is given back after others that share no cell with it on its keys leaves what only
-- the others do
abbrev pub BackPastOthers : Type 0
BackPastOthers = (kind : Kind) (keys : List Key) (steps : Steps) (t : Table)
    → ascending (keys_of t) ≡ true → Untouched kind keys steps →
    given_back (written kind) keys t (after steps (applied kind keys t)) ≡ after steps t

-- others that share no cell with a change on its keys, and are lawful after it, are lawful without
-- it
abbrev pub LawfulWithout : Type 0
LawfulWithout = (kind : Kind) (keys : List Key) (steps : Steps) (t : Table)
    → ascending (keys_of t) ≡ true → Untouched kind keys steps →
    Lawful (applied kind keys t) steps → Lawful t steps
