-- `Command::is_named`: what it answers.
use Rattle.std.proofs.Common.{◌≡◌, ◌∙◌, ◌&&◌, ℕ, List, Bool, not, eqb, length, ap, sym}
use Rattle.std.specs.Borrow.{Bor}
use Rattle.std.specs.List.{list_any}
use Rattle.std.specs.Str.{bytes_eq}
use Rattle.td_wbread.specs.declared.command.Command.{Command}
use Rattle.td_wbread.specs.inner.Places.{places_of}
use Rattle.td_wbread.specs.Views.{parts_of}
use Rattle.td_wbread.proofs.Names.{has_source, has_arch}
use Rattle.td_wbread.proofs.PackagePlaces.{some_place}
use Rattle.td_wbread.proofs.command.Command.is_named.Goals as goal

-- whether there is a place says whether a package has the source
found : (command : Command) (source places : List ℕ) (is_empty : Bool)
    → places ≡ places_of command.places source → is_empty ≡ eqb (length places) 0
    → not is_empty ≡ list_any (λ p. bytes_eq p.source source) (parts_of command).packages
found command source places is_empty is empty =
    ap not empty ∙ ap (λ (at : List ℕ). not (eqb (length at) 0)) is
    ∙ some_place command.packages.items command.places command.found source
    ∙ has_source command source

pub returns-then-not-is_empty : goal.returns-then-not-is_empty
returns-then-not-is_empty c =
    let some = sym (ap not c.if-not-is_empty.true)
    ∙ found c.args.self.now c.args.source.now _ _ c.of.ensures c.is_empty.ensures in
    let archs = list_any (λ (a : List ℕ). bytes_eq a c.args.arch.now)
    (parts_of c.args.self.now).archs in
    c.has_arch.ensures
    ∙ ap (list_any (λ (a : Bor (List ℕ)). bytes_eq a.now c.args.arch.now)) c.as_slice.ensures.value
    ∙ has_arch c.args.self.now c.args.arch.now
    ∙ ap (λ (v : Bool). v && archs) some

pub returns-else-not-is_empty : goal.returns-else-not-is_empty
returns-else-not-is_empty c =
    let some = found c.args.self.now c.args.source.now _ _ c.of.ensures c.is_empty.ensures in
    let archs = list_any (λ (a : List ℕ). bytes_eq a c.args.arch.now)
    (parts_of c.args.self.now).archs in
    let none = ap not c.if-not-is_empty.false in
    none ∙ ap (λ (v : Bool). v && archs) (sym none ∙ some)
