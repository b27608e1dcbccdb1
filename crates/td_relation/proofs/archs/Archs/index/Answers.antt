-- `Archs::index`: what it answers.
use Rattle.std.proofs.Common.{◌∙◌, sym, ap}
use Rattle.std.specs.List.{position}
use Rattle.std.specs.Str.{bytes_eq}
use Rattle.td_relation.specs.declared.arch.Arch.{Arch}
use Rattle.td_relation.specs.Arch.{ArchWords, words_of}
use Rattle.td_relation.proofs.Lists.{position-map}
use Rattle.td_relation.proofs.archs.Archs.index.Goals as goal

pub returns : goal.returns
returns c =
    c.place.ensures
    ∙ ap (λ l. position (λ (a : Arch). bytes_eq a.name.now c.args.name.now) l)
    c.as_slice.ensures.value
    ∙ sym (position-map (λ (a : ArchWords). bytes_eq a.name c.args.name.now) words_of
    c.args.self.now.list.items)
