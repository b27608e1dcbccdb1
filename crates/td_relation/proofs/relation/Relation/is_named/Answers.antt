-- `Relation::is_named`: what it answers.
use Rattle.std.proofs.Common.{◌≡◌, ◌∙◌, ◌&&◌, List, ap, sym}
use Rattle.std.specs.List.{list_any}
use Rattle.std.specs.Str.{bytes_eq}
use Rattle.td_relation.specs.declared.relation.Alternative.{Alternative}
use Rattle.td_relation.specs.Arch.{words_of}
use Rattle.td_relation.specs.Asked.{Asked, asked}
use Rattle.td_relation.specs.Meeting.{active}
use Rattle.td_relation.specs.Members.{chunked}
use Rattle.td_relation.proofs.MemberLaws.{any_of_maps}
use Rattle.td_relation.proofs.relation.Relation.is_named.Goals as goal

pub returns : goal.returns
returns c =
    let test = λ (a : Asked). active (words_of c.args.arch) a && bytes_eq a.name c.args.name.now in
    let r = c.args.self.now in
    let same : chunked c.as_slice-2.result.now c.as_slice.result.now
    ≡ chunked r.sizes.items r.alternatives.items =
    rw (c.as_slice-2.ensures.value, c.as_slice.ensures.value) in
    c.are_asked.ensures ∙ ap
    (list_any (λ (m : List Alternative). list_any (λ (a : Alternative). test (asked a)) m)) same
    ∙ sym (any_of_maps test asked (chunked r.sizes.items r.alternatives.items))
