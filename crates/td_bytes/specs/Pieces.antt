-- What a reader has lost, and what a writer holds, if a call stopped midway.
use Rattle.std.specs.Prelude.{◌≡◌, ◌≤◌, ◌<◌, ℕ, List, ◌++◌, Option, length}
use Rattle.td_bytes.specs.declared.reading.ReadFault.{ReadFault}
use Rattle.td_bytes.specs.declared.reading.ReadFault.TheVariants.{CannotRead, TooLong, NoMemory}
use Rattle.std.specs.Io.KnownBytes.{Appends, Consumes}

-- the known bytes grow by some first ones of these bytes; this project's own
abbrev pub AppendsPrefix : Option (List ℕ) → Option (List ℕ) → List ℕ → Type 0
AppendsPrefix old new bytes = (front : List ℕ) × (rest : List ℕ) × (bytes ≡ front ++ rest)
    × Appends old new front

-- the known bytes lose some first ones, and keep the others; this project's own
abbrev pub ConsumesFront : Option (List ℕ) → Option (List ℕ) → Type 0
ConsumesFront old new = (front : List ℕ) × Consumes old new front

-- a fault of reading says how much was lost: more than the limit, or no more; this project's own
abbrev pub HasLost : ℕ → Option (List ℕ) → Option (List ℕ) → ReadFault → Type 0
HasLost limit old new TooLong = (front : List ℕ) × (limit < length front) × Consumes old new front
HasLost limit old new CannotRead =
    (front : List ℕ) × (length front ≤ limit) × Consumes old new front
HasLost limit old new NoMemory = (front : List ℕ) × (length front ≤ limit) × Consumes old new front
