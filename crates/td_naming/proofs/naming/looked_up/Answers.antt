-- `looked_up`: its loop.
use Rattle.std.proofs.Common.{ℕ, List, ap, ◌∙◌}
use Rattle.td_rows.specs.declared.key.Key.{Key}
use Rattle.td_rows.specs.Keys.{names}
use Rattle.td_naming.specs.Naming.{keys_at}
use Rattle.td_naming.proofs.Numbered.{keys_at-none}
use Rattle.td_naming.proofs.naming.looked_up.Goals as goal

pub loop-package-init : goal.loop-package-init
loop-package-init c k =
    ap (λ (ns : List ℕ). names (keys_at c.args.rows.now ns) k) c.new-numbers.ensures.items
    ∙ ap (λ (ks : List Key). names ks k) (keys_at-none c.args.rows.now)
