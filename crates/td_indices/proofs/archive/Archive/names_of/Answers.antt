-- `Archive::names_of`: its loop.
use Rattle.std.proofs.Common.{◌≡◌, ◌<◌, ℕ, List, Bool, true, false, [], ◌∷◌, ◌++◌, None, Some, append-nil}
use Rattle.std.proofs.Common.{length, map, subst, sym, take, ap, ◌∙◌}
use Rattle.std.proofs.lemmas.List.{map-append}
use Rattle.std.specs.Borrow.{Bor}
use Rattle.td_text.proofs.Chain.{some_is}
use Rattle.td_indices.specs.Choosing.{chosen, is_chosen}
use Rattle.td_indices.specs.Sources.{KeptSource, source_of}
use Rattle.td_indices.proofs.Chosen.{chosen-next, chosen-start, if_chosen, there}
use Rattle.td_indices.proofs.archive.Archive.names_of.Goals as goal
use Rattle.td_indices.proofs.archive.Archive.names_of.Goals.{then-is_chosen+in-Some+in_ok-push-in-Some}
use Rattle.td_indices.proofs.archive.Archive.names_of.Goals.{then-is_chosen+in-None}
use Rattle.td_indices.proofs.archive.Archive.names_of.Goals.{else-is_chosen}

pub loop-number-init : goal.loop-number-init
loop-number-init c =
    ap (λ v. map (λ name. name.now) v) c.new-names.ensures.items
    ∙ sym (ap (λ (l : List KeptSource). map (λ s. s.head.name) l)
    (chosen-start (Some c.args.flags.now)))

pub loop-number-preserved : goal.loop-number-preserved
loop-number-preserved c =
    let a = c.args.self.now in
    let n = c.loop-number.number in
    let fs = Some c.args.flags.now in
    let gone = chosen fs (take n a.sources) in
    let within : n < length a.sources =
    subst (λ (m : ℕ). n < m) c.source_count-number-end.ensures c.loop-number-test.true in
    let found = there a.sources n within in
    let s = found.0 in
    let next = chosen-next fs a.sources n s found.1 in
    elim c.if-is_chosen.branch [
      | then-is_chosen+in-Some+in_ok-push-in-Some w ↦
          let is : is_chosen fs n ≡ true = sym c.is_chosen.ensures ∙ w.if-is_chosen.true in
          let its : source_of (w.in-Some.name, w.in-Some.field-0-1.now) ≡ s =
          some_is (source_of (w.in-Some.name, w.in-Some.field-0-1.now)) s
          (w.in-Some.ensures.found ∙ found.1) in
          ap (λ v. map (λ name. name.now) v.items) w.names-is
          ∙ ap (map (λ name. name.now)) w.in_ok-push-in-Some.ensures.items
          ∙ map-append (λ (name : Bor (List ℕ)). name.now) c.loop-number.names.items
          (w.in-Some.name ∷ [])
          ∙ ap (λ l. l ++ w.in-Some.name.now ∷ []) c.loop-number.invariant
          ∙ ap (λ (x : KeptSource). map (λ s. s.head.name) gone ++ x.head.name ∷ []) its
          ∙ sym (map-append (λ (s : KeptSource). s.head.name) gone (s ∷ []))
          ∙ ap (λ (l : List KeptSource). map (λ s. s.head.name) l)
          (sym (next ∙ ap (λ (b : Bool). gone ++ if_chosen b s) is))
      | then-is_chosen+in-None w ↦ absurd (let bad : None ≡ Some s =
          w.in-None.ensures.found ∙ found.1 in cc)
      | else-is_chosen w ↦
          let is : is_chosen fs n ≡ false = sym c.is_chosen.ensures ∙ w.if-is_chosen.false in
          ap (λ v. map (λ name. name.now) v.items) w.names-is ∙ c.loop-number.invariant
          ∙ ap (λ (l : List KeptSource). map (λ s. s.head.name) l)
          (sym (next ∙ ap (λ (b : Bool). gone ++ if_chosen b s) is ∙ append-nil gone))
    ]
