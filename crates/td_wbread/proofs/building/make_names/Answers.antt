-- `make_names`: its loop.
use Rattle.std.proofs.Common.{◌<◌, ◌∙◌, ◌∷◌, [], List, ℕ, length, map, sym, ap, rules, Vec, Global}
use Rattle.std.specs.Borrow.{Bor}
use Rattle.std.proofs.lemmas.List.{map-append}
use Rattle.td_relation.specs.TableView.{table}
use Rattle.td_wbread.proofs.Making.{name_kept, name_left}
use Rattle.td_wbread.proofs.building.make_names.Goals as goal
use Rattle.td_wbread.proofs.building.make_names.Goals.{then-is_chosen+in_ok-push, else-is_chosen}

pub loop-arch-preserved : goal.loop-arch-preserved
loop-arch-preserved c =
    let inside : c.loop-arch.arch < length (table c.args.archs.now) = search rules in
    elim c.if-is_chosen.branch [
      | then-is_chosen+in_ok-push w ↦
          ap (λ (v : Vec (Bor (List ℕ)) Global). map (λ (a : Bor (List ℕ)). a.now) v.items)
          w.names-is
          ∙ ap (map (λ (a : Bor (List ℕ)). a.now)) w.in_ok-push.ensures.items
          ∙ map-append (λ (a : Bor (List ℕ)). a.now) c.loop-arch.names.items
          (c.name-name.result ∷ [])
          ∙ name_kept (table c.args.archs.now) c.args.words.now c.loop-arch.arch
          c.name-name.result.now _ inside c.name-name.ensures.name
          (sym c.is_chosen.ensures ∙ w.if-is_chosen.true) c.loop-arch.invariant
      | else-is_chosen w ↦
          ap (λ (v : Vec (Bor (List ℕ)) Global). map (λ (a : Bor (List ℕ)). a.now) v.items)
          w.names-is
          ∙ name_left (table c.args.archs.now) c.args.words.now c.loop-arch.arch
          c.name-name.result.now _ inside c.name-name.ensures.name
          (sym c.is_chosen.ensures ∙ w.if-is_chosen.false) c.loop-arch.invariant
    ]
