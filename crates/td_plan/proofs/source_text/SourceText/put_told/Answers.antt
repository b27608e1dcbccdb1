-- `SourceText::put_told`: its calls, and what it appends.
use Rattle.std.proofs.Common.{◌<◌, ◌++◌, ◌∷◌, [], List, ap, ap₂, codes, length, map, string_bytes}
use Rattle.std.proofs.Common.{subst, sym, ℕ, ◌∙◌}
use Rattle.std.specs.List.{All, flat_map}
use Rattle.std.proofs.lemmas.Result.{on_ok_weaker}
use Rattle.td_text.specs.Lines.{text_of}
use Rattle.td_relation.specs.Arch.{ArchWords}
use Rattle.td_plan.specs.Lines.{command_line, named_with}
use Rattle.td_plan.specs.Message.{between}
use Rattle.td_plan.specs.Premises.{arch_at}
use Rattle.td_plan.specs.inner.Writing.{checks_at}
use Rattle.td_plan.proofs.SourceTexts.{line-then}
use Rattle.td_plan.proofs.source_text.SourceText.put_told.Goals as goal

pub put_dw-requires : goal.put_dw-requires
put_dw-requires c =
    let told = c.args.told.now in
    subst (λ (t : List ArchWords). All (λ place. place < length t) c.deref.result.now)
    (sym c.archs-archs.ensures)
    (subst (λ (l : List ℕ). All (λ place. place < length c.args.self.now.archive.now.table) l)
    (sym c.deref.ensures.value) c.requires.places)

pub put_all_checks-requires-clause-places : goal.put_all_checks-requires-clause-places
put_all_checks-requires-clause-places c =
    subst (λ (l : List ℕ). All (λ place. place < length c.args.self.now.archive.now.table) l)
    (sym c.deref-2.ensures.value) c.requires.places

pub returns-clause-ok : goal.returns-clause-ok
returns-clause-ok c =
    let t = c.args.self.now in
    let source = c.args.mover.now.source in
    let told = c.args.told.now in
    let words = t.words.now in
    let start = string_bytes c.args.out.now in
    let mid = string_bytes c.put_dw.new.out in
    let line = λ (names : List (List ℕ)) (relation : List ℕ). command_line (codes "dw")
    (named_with source.name.now source.version.now) names words.suite.now
    (between 34 relation) in
    let names = ap₂ (λ (a : List ArchWords) (l : List ℕ). map (arch_at a) l) c.archs-archs.ensures
    c.deref.ensures.value in
    on_ok_weaker c.put_all_checks.result (λ more.
    line-then start mid (string_bytes c.put_all_checks.new.out)
    (line (map (arch_at t.archive.now.table) told.places.items) (string_bytes told.relation))
    (flat_map (checks_at t.archive.now.table source.name.now c.args.all.now) told.places.items)
    (c.in_ok-put_dw.ensures.ok ∙ ap₂ (λ (a : List (List ℕ)) (b : List ℕ).
    start ++ (line a b ++ 10 ∷ [])) names c.as_str-relation.ensures.value)
    (more ∙ ap (λ (l : List ℕ). mid ++ text_of (flat_map (checks_at t.archive.now.table
    source.name.now c.args.all.now) l)) c.deref-2.ensures.value))
    c.put_all_checks.ensures.ok
