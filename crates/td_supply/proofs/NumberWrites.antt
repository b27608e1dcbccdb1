-- What a write to the numbers of one name does to the others'.
use Rattle.std.proofs.Common.{◌≡◌, ℕ, true, false, List, [], Some, if◌then◌else◌, refl, sym, ap}
use Rattle.std.proofs.Common.{◌∙◌, inl, inr, Vec, Global}
use Rattle.std.specs.HashMap.{get_by, UpdatesBy}
use Rattle.std.specs.Option.{option_map_or}
use Rattle.std.specs.Str.{bytes_eq}
use Rattle.std.proofs.lemmas.Bool.{cases_Bool}
use Rattle.std.proofs.lemmas.Map.Text.{hash_map_updates_str}
use Rattle.td_supply.specs.declared.numbers.Numbers.{Numbers}
use Rattle.td_supply.specs.Numbers.{numbers_of}
use Rattle.td_text.proofs.SameTexts.{same_text, bytes_eq-swap}

-- the numbers of each name after those of one are written
pub written : (name q : List ℕ) (a b : Numbers) (old new : Vec ℕ Global) (f : List ℕ → List ℕ)
    → Some old ≡ get_by (λ k. bytes_eq name k.now) a.by_name
    → UpdatesBy (λ x y. bytes_eq x.now y.now) (λ k. bytes_eq name k.now) a.by_name b.by_name
    (Some new) → new.items ≡ f old.items
    → numbers_of b q ≡ (if bytes_eq q name then f (numbers_of a q) else numbers_of a q)
written name q a b old new f there updates is =
    let seen = ap (λ o. option_map_or (λ (l : Vec ℕ Global). l.items) o [])
    (hash_map_updates_str name a.by_name b.by_name (Some new) updates q) in
    elim (cases_Bool (bytes_eq q name)) [
      | inl same ↦
          let e : q ≡ name = same_text q name same in
          let own : bytes_eq name q ≡ true = bytes_eq-swap name q ∙ same in
          let had : old.items ≡ numbers_of a q =
          ap (λ o. option_map_or (λ (l : Vec ℕ Global). l.items) o []) there
          ∙ ap (numbers_of a) (sym e) in
          seen ∙ rw (own, same) (is ∙ ap f had)
      | inr other ↦
          let foreign : bytes_eq name q ≡ false = bytes_eq-swap name q ∙ other in
          seen ∙ rw (foreign, other) refl
    ]
