-- `next_arch`: the clauses `err` and `ok`.
use Rattle.std.proofs.Common.{◌≡◌, ◌≢◌, ◌∙◌, sym, true, false, length, map}
use Rattle.std.specs.Str.{bytes_eq}
use Rattle.std.proofs.lemmas.List.{length-map}
use Rattle.td_text.proofs.Chain.{list_any-map}
use Rattle.td_relation.specs.Arch.{ArchWords, words_of}
use Rattle.td_relation.specs.Table.{is_named}
use Rattle.td_relation.proofs.ArchTexts.{add_arch-twice, add_arch-many, add_arch-ok}
use Rattle.td_relation.proofs.arch_reading.next_arch.Goals as goal

pub returns-then-is_named-clause-err : goal.returns-then-is_named-clause-err
returns-then-is_named-clause-err c =
    let a = words_of c.in-Some.arch in
    let list = c.args.list.now in
    let named : is_named (map words_of list) a.name ≡ true =
    list_any-map (λ (b : ArchWords). bytes_eq b.name a.name) words_of list ∙ sym c.is_named.ensures
    ∙ c.if-is_named.true in
    add_arch-twice c.args.number (map words_of list) c.args.line.now a c.in-Some.ensures named

pub returns-then-list-eq-MAX_ARCHS-clause-err : goal.returns-then-list-eq-MAX_ARCHS-clause-err
returns-then-list-eq-MAX_ARCHS-clause-err c =
    let a = words_of c.in-Some.arch in
    let list = c.args.list.now in
    let named : is_named (map words_of list) a.name ≡ false =
    list_any-map (λ (b : ArchWords). bytes_eq b.name a.name) words_of list ∙ sym c.is_named.ensures
    ∙ c.if-is_named.false in
    add_arch-many c.args.number (map words_of list) c.args.line.now a c.in-Some.ensures named
    (length-map list words_of ∙ c.if-list-eq-MAX_ARCHS.true)

pub returns-clause-ok : goal.returns-clause-ok
returns-clause-ok c =
    let a = words_of c.in-Some.arch in
    let list = c.args.list.now in
    let named : is_named (map words_of list) a.name ≡ false =
    list_any-map (λ (b : ArchWords). bytes_eq b.name a.name) words_of list ∙ sym c.is_named.ensures
    ∙ c.if-is_named.false in
    let few : length (map words_of list) ≢ 32 =
    λ full. c.if-list-eq-MAX_ARCHS.false (sym (length-map list words_of) ∙ full) in
    add_arch-ok c.args.number (map words_of list) c.args.line.now a c.in-Some.ensures named few
