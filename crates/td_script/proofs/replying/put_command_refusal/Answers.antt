-- `put_command_refusal`: what it appends.
use Rattle.std.proofs.Common.{◌≡◌, refl, rules, subst, sym}
use Rattle.std.specs.Prelude.{true, string_bytes}
use Rattle.td_book.specs.declared.commanding.CommandRefusal.TheVariants as refusals
use Rattle.td_script.specs.Replying.{IsCommandRefused}
use Rattle.td_script.proofs.replying.put_command_refusal.Goals as goal

pub returns-in_ok-put_nothing-in-NothingApplies-clause-ok
    : goal.returns-in_ok-put_nothing-in-NothingApplies-clause-ok
returns-in_ok-put_nothing-in-NothingApplies-clause-ok c =
    let same : c.args.refusal ≡ refusals.NothingApplies c.in-NothingApplies.skips =
    search rules in
    subst (λ r. IsCommandRefused r (string_bytes c.args.out.now)
    (string_bytes c.put_nothing.new.out) true) (sym same)
    (record { text_is = search rules; refusal = refl })
