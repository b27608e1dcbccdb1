-- What a command does to the rows that it takes. This project's own, in the style of wanna-build.
use Rattle.std.specs.Prelude.{ℕ, List}
use Rattle.td_rows.specs.declared.kind.Kind.{Kind}
use Rattle.td_rows.specs.declared.kind.Kind.TheVariants as kinds
use Rattle.td_wbread.specs.declared.command.Verb.{Verb}
use Rattle.td_wbread.specs.declared.command.Verb.TheVariants.{Gb, Nmu, Bp, Dw}
use Rattle.td_wbread.specs.Command.{CommandParts}

-- the kind of a command by its verb: a rebuild has what it needs in addition to its build
-- dependencies, and a message; the message of `dw` is the relation to wait for
abbrev pub kind_with : Verb → List ℕ → List ℕ → Kind
kind_with Gb extra message = kinds.Gb
kind_with (Nmu number) extra message = kinds.Nmu number extra message
kind_with (Bp priority) extra message = kinds.Bp priority
kind_with Dw extra message = kinds.Dw message

-- the kind of the entry that a command makes
abbrev pub kind_of : CommandParts → Kind
kind_of c = kind_with c.verb c.extra c.message
