-- `SourceText::put_rebuild`: the call of `put_nmu`, and what it appends.
use Rattle.std.proofs.Common.{◌<◌, ◌++◌, ◌∷◌, [], List, ap, length, string_bytes, subst, sym, ℕ}
use Rattle.std.proofs.Common.{◌∙◌}
use Rattle.std.specs.List.{All}
use Rattle.std.proofs.lemmas.Result.{on_ok_weaker}
use Rattle.td_relation.specs.Arch.{ArchWords}
use Rattle.td_relation.specs.TableView.{table}
use Rattle.td_plan.specs.inner.Writing.{seen_words}
use Rattle.td_plan.proofs.SourceSteps.{rebuild-is}
use Rattle.td_plan.proofs.source_text.SourceText.put_rebuild.Goals as goal

pub put_nmu-requires : goal.put_nmu-requires
put_nmu-requires c =
    subst (λ (t : List ArchWords). All (λ place. place < length t) c.deref.result.now)
    (sym c.archs.ensures)
    (subst (λ (l : List ℕ). All (λ place. place < length c.args.self.now.archive.now.table) l)
    (sym c.deref.ensures.value) c.in_ok-places.ensures.within)

pub returns-clause-ok : goal.returns-clause-ok
returns-clause-ok c =
    let t = c.args.self.now in
    let start = string_bytes c.args.out.now in
    on_ok_weaker c.put_nmu.result (λ line p x s is at.
    line ∙ ap (λ (l : List ℕ). start ++ (l ++ 10 ∷ []))
    (rebuild-is p x s t is c.args.mover.now at (seen_words t.words.now) (table c.archs.result.now)
    c.deref.result.now c.archs.ensures (c.deref.ensures.value ∙ c.in_ok-places.ensures.due)))
    c.put_nmu.ensures.ok
