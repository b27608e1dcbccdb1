-- `push_place`: where there is no such relation yet.
use Rattle.std.proofs.Common.{◌≡◌, ◌++◌, ◌∷◌, ◌∙◌, [], List, None, ap, position, refl, string_bytes}
use Rattle.std.proofs.Common.{ℕ}
use Rattle.std.specs.Str.{bytes_eq}
use Rattle.td_plan.specs.declared.relations.Told.{Told}
use Rattle.td_plan.proofs.ToldGroups.{pushed_new}
use Rattle.td_plan.proofs.relations.push_place.Goals as goal

pub returns-in_ok-push-in-None-2 : goal.returns-in_ok-push-in-None-2
returns-in_ok-push-in-None-2 c =
    let ts = c.args.told.now.items in
    let relation = string_bytes c.args.relation in
    let it : Told = record { relation = c.args.relation; places = c.push-in-None.new.self } in
    let none : None ≡ position (λ (t : Told). bytes_eq (string_bytes t.relation) relation) ts =
    c.in-None.ensures
    ∙ ap (λ (l : List Told). position (λ (t : Told).
    bytes_eq (string_bytes t.relation) c.as_str.result.now) l) c.as_slice.ensures.value
    ∙ ap (λ (r : List ℕ). position (λ (t : Told). bytes_eq (string_bytes t.relation) r) ts)
    c.as_str.ensures.value in
    pushed_new relation c.args.place ts c.push-in-None-2.new.self.items it none refl
    (c.in_ok-push-in-None.ensures.items
    ∙ ap (λ (l : List ℕ). l ++ c.args.place ∷ []) c.in_ok-places-in-None.ensures.items)
    c.in_ok-push-in-None-2.ensures.items
