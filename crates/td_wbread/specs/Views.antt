-- What the readers give, without where it lies in memory. This project's own.
use Rattle.std.specs.Prelude.{ℕ, List, Option, option_map, map, Result, Ok, Err, string_bytes}
use Rattle.std.specs.Borrow.{Bor}
use Rattle.td_wbread.specs.declared.command.Verb.{Verb}
use Rattle.td_wbread.specs.declared.command.Package.{Package}
use Rattle.td_wbread.specs.declared.command.Command.{Command}
use Rattle.td_wbread.specs.declared.fault.CommandFault.{CommandFault}
use Rattle.td_wbread.specs.declared.option_reading.Options.{Options}
use Rattle.td_wbread.specs.declared.word.Word.{Word}
use Rattle.td_wbread.specs.declared.building.SpokenWords.{SpokenWords}
use Rattle.td_wbread.specs.declared.reading.HeadWords.{HeadWords}
use Rattle.td_wbread.specs.Command.{CommandParts, Head, Spoken}
use Rattle.td_wbread.specs.Packages.{PackageText}
use Rattle.td_wbread.specs.Tail.{Values}

-- a verb, and the words after it
abbrev pub verb_read : Result (Verb × Bor (List Word)) CommandFault
    → Result (Verb × List Word) CommandFault
verb_read (Ok p) = Ok (p.0, p.1.now)
verb_read (Err fault) = Err fault

-- words before a dot, and after it
abbrev pub packages_read : Result (Bor (List Word) × Bor (List Word)) CommandFault
    → Result (List Word × List Word) CommandFault
packages_read (Ok p) = Ok (p.0.now, p.1.now)
packages_read (Err fault) = Err fault

-- words before a dot, and after it, if it is there
abbrev pub archs_read : Result (Bor (List Word) × Option (Bor (List Word))) CommandFault
    → Result (List Word × Option (List Word)) CommandFault
archs_read (Ok p) = Ok (p.0.now, option_map (λ x. x.now) p.1)
archs_read (Err fault) = Err fault

-- a package by slices of its word
abbrev pub package_text : Bor (List ℕ) × Option (Bor (List ℕ)) → PackageText
package_text p = record { source = p.0.now; version = option_map (λ x. x.now) p.1 }

-- the value of an option, and the words after it
abbrev pub value_read : Result (Bor Word × Bor (List Word)) CommandFault
    → Result (Word × List Word) CommandFault
value_read (Ok p) = Ok (p.0.now, p.1.now)
value_read (Err fault) = Err fault

-- the values of options
abbrev pub values_of : Options → Values
values_of o = record {
  message = option_map (λ x. x.now) o.message;
  extra = option_map (λ x. x.now) o.extra;
}

-- the head of a command line
abbrev pub head_of : HeadWords → Head
head_of h = record {
  verb = h.verb;
  packages = h.packages.now;
  archs = h.chosen.now;
  behind = option_map (λ x. x.now) h.behind;
}

-- the head of a command line, where it was read
abbrev pub head_read : Result HeadWords CommandFault → Result Head CommandFault
head_read (Ok h) = Ok (head_of h)
head_read (Err fault) = Err fault

-- the words of a command
abbrev pub spoken_of : SpokenWords → Spoken
spoken_of s = record {
  verb = s.verb;
  packages = s.packages.now;
  archs = s.chosen.now;
  values = values_of s.options;
}

-- a package of a command
abbrev pub package_of : Package → PackageText
package_of p = record {
  source = string_bytes p.source;
  version = option_map string_bytes p.version;
}

-- a command
abbrev pub parts_of : Command → CommandParts
parts_of c = record {
  verb = c.verb;
  packages = map package_of c.packages.items;
  archs = map (λ a. a.now) c.archs.items;
  message = c.message;
  extra = c.extra;
}
