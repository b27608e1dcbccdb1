-- `take_binary`: the clause `ok`, where a stanza has a package.
use Rattle.std.proofs.Common.{Ok, Option, ap, option_map, ◌∙◌}
use Rattle.td_relation.specs.TableView.{table}
use Rattle.td_stanza.specs.Table.{fields_of}
use Rattle.td_indices.specs.Kept.{binary_of}
use Rattle.td_indices.specs.declared.packaged.PackageKey.{PackageKey}
use Rattle.td_indices.specs.declared.packaged.Packaged.{Packaged}
use Rattle.td_indices.proofs.Parts.{package_more}
use Rattle.td_indices.proofs.part_reading.take_binary.Goals as goal
use Rattle.td_indices.proofs.part_reading.take_binary.Goals.{in-Ok, in-Err-push}

pub returns-after-push-clause-ok : goal.returns-after-push-clause-ok
returns-after-push-clause-ok c = elim c.match-push.branch [
  | in-Ok w ↦
      rw w.result-is (package_more (table c.args.archs.now) c.args.number
      (fields_of c.args.stanza.now) c.in-Ok-Some.package c.args.packages.now.items
      c.push.new.self.items w.in-Ok.ensures.items
      (c.in-Ok-Some.ensures.ok
      ∙ ap (λ (o : Option (PackageKey × Packaged)). Ok (option_map binary_of o))
      c.in-Ok-Some.field-0-is))
  | in-Err-push w ↦ rw w.result-is tt
]
