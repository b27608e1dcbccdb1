-- Keys compare in a total order, and only a key is the same as itself.
use Rattle.std.proofs.Common.{◌≡◌, true, false, ap, refl, sym, subst, ◌∙◌}
use Rattle.std.specs.Cmp.{IsTotalOrder, tied_itself}
use Rattle.std.specs.Ordering.{is_lt}
use Rattle.std.specs.declared.cmp.Ordering.TheVariants.{Equal}
use Rattle.std.proofs.lemmas.Cmp.{on_total, then_total, nat_list_cmp_total, nat_list_eq_equiv}
use Rattle.td_rows.specs.declared.key.Key.{Key}
use Rattle.td_rows.specs.Keys.{key_cmp, same_key}
use Rattle.td_rows.specs.KeyRefs.{one_key}

pub key_total : IsTotalOrder key_cmp
key_total =
    then_total (on_total (λ k. k.source) nat_list_cmp_total)
    (on_total (λ k. k.arch) nat_list_cmp_total)

pub same_key-true : (a b : Key) → same_key a b ≡ true → a ≡ b
same_key-true = one_key

pub same_key-refl : (a : Key) → same_key a a ≡ true
same_key-refl a = rw (nat_list_eq_equiv.refl a.source, nat_list_eq_equiv.refl a.arch) refl

pub same_key-sym : (a b : Key) → same_key a b ≡ true → same_key b a ≡ true
same_key-sym a b h =
    let e = same_key-true a b h in subst (λ (x : Key). same_key x a ≡ true) e (same_key-refl a)

-- a key that is not the same as another is so both ways
pub same_key-apart : (a b : Key) → same_key a b ≡ false → same_key b a ≡ false
same_key-apart a b h = elim (same_key b a) as (λ v. same_key b a ≡ v → v ≡ false) [
  | true ↦ λ e. sym (same_key-sym b a e) ∙ h
  | false ↦ λ _. refl
] refl

-- a key below another is not the same
pub below-apart : (a b : Key) → is_lt (key_cmp a b) ≡ true → same_key a b ≡ false
below-apart a b h = elim (same_key a b) as (λ v. same_key a b ≡ v → v ≡ false) [
  | true ↦
      λ e. absurd (let tied : key_cmp a b ≡ Equal =
      subst (λ (x : Key). key_cmp a x ≡ Equal) (same_key-true a b e) (tied_itself key_total a) in
      let bad : true ≡ false = sym h ∙ ap is_lt tied in cc)
  | false ↦ λ _. refl
] refl
