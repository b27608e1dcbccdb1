-- What the readers of a tracker give, without where it lies in memory. This project's own.
use Rattle.std.specs.Prelude.{◌≡◌, ℕ, List, Result, Ok, Err, map, option_map}
use Rattle.std.specs.Borrow.{Bor}
use Rattle.td_query.specs.declared.tracker_reading.Keys.{Keys}
use Rattle.td_query.specs.declared.read_fault.ReadFault.{ReadFault}
use Rattle.td_query.specs.declared.read_fault.ReadFault.TheVariants.{Syntax, NoMemory}
use Rattle.td_query.specs.Query.{shape_of}
use Rattle.td_query.specs.QueryGrammar.{Log}
use Rattle.td_query.specs.TrackerGrammar.{Said, SaidRead}
use Rattle.td_query.specs.Views.{raw_of}

-- what the keys have said
abbrev pub said : Keys → Said
said k = record {
  title = k.title.now;
  affected = option_map shape_of k.affected;
  good = option_map shape_of k.good;
  bad = option_map shape_of k.bad;
  log = map raw_of k.log.items;
}

-- what is said and what follows are what reading gives; so is a fault, unless memory runs out
abbrev pub GivesSaid : Result (Bor (List ℕ)) ReadFault → Keys → SaidRead → Type 0
GivesSaid (Ok rest) k read = read ≡ Ok (said k, rest.now)
GivesSaid (Err NoMemory) k read = Unit {0}
GivesSaid (Err (Syntax left)) k read = read ≡ Err (left, (said k).log)

-- a fault is the reading's, unless memory runs out
abbrev pub GivesFault : ReadFault → Keys → Result Said (ℕ × Log) → Type 0
GivesFault NoMemory k read = Unit {0}
GivesFault (Syntax left) k read = read ≡ Err (left, (said k).log)

-- what is said by a whole text is what reading gives; so is a fault, unless memory runs out
abbrev pub GivesAll : {A : Type 0} → Result A ReadFault → Keys → Result Said (ℕ × Log) → Type 0
GivesAll (Ok x) k read = read ≡ Ok (said k)
GivesAll (Err fault) k read = GivesFault fault k read
