-- `put_typed`: what it appends for a command.
use Rattle.std.proofs.Common.{◌≡◌, [], ◌∷◌, Ok, rules, string_bytes}
use Rattle.std.proofs.lemmas.Result.{on_ok_weaker}
use Rattle.td_indices.specs.Supplying.{supply_of}
use Rattle.td_wbread.specs.Command.{command_at}
use Rattle.td_wbread.specs.Views.{parts_of}
use Rattle.td_lines.proofs.Typed.{of_packages}
use Rattle.td_lines.proofs.noting.put_typed.Goals as goal

pub returns-in-Ok : goal.returns-in-Ok
returns-in-Ok c =
    let s = supply_of c.args.offered.now.archive.now in
    let suite = c.args.offered.now.suite.now in
    let found : command_at s.table (suite ∷ []) c.args.line.now ≡ Ok (parts_of c.in-Ok.command) =
    search rules in
    on_ok_weaker c.put_packages.result
    (of_packages s suite c.args.number c.args.line.now _ c.in-Ok.command c.deref.result.now
    (string_bytes c.args.out.now) (string_bytes c.put_packages.new.out) found
    c.deref.ensures.value)
    c.put_packages.ensures
