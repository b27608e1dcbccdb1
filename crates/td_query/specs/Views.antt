-- What the readers give, without where it lies in memory. This project's own.
use Rattle.std.specs.Prelude.{◌≡◌, ℕ, List, Result, Ok, Err, map}
use Rattle.std.specs.Borrow.{Bor}
use Rattle.td_query.specs.declared.query.Query.{Query}
use Rattle.td_query.specs.declared.read_fault.RawPattern.{RawPattern}
use Rattle.td_query.specs.declared.read_fault.ReadFault.{ReadFault}
use Rattle.td_query.specs.declared.read_fault.ReadFault.TheVariants.{Syntax, NoMemory}
use Rattle.td_query.specs.Query.{shape_of}
use Rattle.td_query.specs.QueryGrammar.{Raw, Read}

-- two texts, without where they lie in memory
abbrev pub pair : Bor (List ℕ) × Bor (List ℕ) → List ℕ × List ℕ
pair p = (p.0.now, p.1.now)

-- a pattern as it is in a text
abbrev pub raw_of : RawPattern → Raw
raw_of p = record { left = p.left; raw = p.raw.now }

-- a query and what follows it, with the patterns so far, are what reading gives; so is a fault,
-- unless memory runs out
abbrev pub Gives : Result (Query × Bor (List ℕ)) ReadFault → List RawPattern → Read → Type 0
Gives (Ok x) log read = read ≡ Ok (shape_of x.0, map raw_of log, x.1.now)
Gives (Err NoMemory) log read = Unit {0}
Gives (Err (Syntax left)) log read = read ≡ Err (left, map raw_of log)
