-- A version is a rebuild of its base, with a number that isn't above the one that its text ends in.
use Rattle.std.proofs.Common.{◌≡◌, ℕ, ◌<◌, ◌≤◌, ◌&&◌, Bool, true, false, cond, eqb, List, []}
use Rattle.std.proofs.Common.{◌∷◌, ◌++◌, length, Option, Some, None, refl, sym, ap, subst, ◌∙◌}
use Rattle.std.proofs.Common.{append_assoc, arith, inl, inr}
use Rattle.std.specs.Prelude.{unwrap_or}
use Rattle.std.specs.Option.{option_map_or}
use Rattle.std.proofs.lemmas.Bool.{cases_Bool, cond-false, cond-true, ne_eqb}
use Rattle.std.proofs.lemmas.List.{append-nil, length-append}
use Rattle.td_version.specs.Base.{base_of, base_part, rebuilt_from, upstream_base}
use Rattle.td_version.specs.Grammar.{IsVersion, epoch_front, epoch_number, parts_written}
use Rattle.td_version.specs.Grammar.{revision_back}
use Rattle.td_version.specs.Rebuild.{rebuild_suffix}
use Rattle.td_version.specs.Version.{Parts}
use Rattle.td_version.proofs.Rebuilds.{rebuild_again, rebuilt_found}
use Rattle.td_supply.specs.Supplied.{with_rebuild}
use Rattle.td_indices.specs.Opening.{rebuild_number}

pub record IsRebuiltFrom (text : List ℕ) (v : Parts) : Type 0 where
  pub number : ℕ
  pub within : number ≤ rebuild_number text
  pub is : v ≡ with_rebuild (base_of v) number

-- a text that ends in a suffix after some bytes ends in its number
ends-in : (text base : List ℕ) (n : ℕ) → text ≡ base ++ rebuild_suffix n → 0 < length base → 0 < n
    → n ≤ 9999 → n ≤ rebuild_number text
ends-in text base n is longer some bounded =
    let found : rebuild_number text ≡ n = ap rebuild_number is
    ∙ ap (λ (o : Option (List ℕ × ℕ)). option_map_or (λ (q : List ℕ × ℕ). q.1) o 0)
    (rebuild_again base n longer some bounded) in
    omega arith

-- ---- 1. a version with a revision

by-revision : (front u r : List ℕ) (e : ℕ) (o : Option (List ℕ)) → rebuilt_from r ≡ o
    → IsRebuiltFrom (front ++ (u ++ 45 ∷ r))
    (record { epoch = e; upstream = u; revision = Some r })
by-revision front u r e None is =
    let part : base_part r ≡ r = ap (λ (o : Option (List ℕ)). unwrap_or o r) is in
    record {
      number = 0;
      within = omega arith;
      is = ap (λ (l : List ℕ). record { epoch = e; upstream = u; revision = Some l })
          (sym (append-nil (base_part r) ∙ part));
    }
by-revision front u r e (Some b) is =
    let part : base_part r ≡ b = ap (λ (o : Option (List ℕ)). unwrap_or o r) is in
    let found = rebuilt_found r b is in
    let longer : 0 < length (front ++ (u ++ 45 ∷ b)) = simp length-append (omega arith) in
    let joined : (front ++ (u ++ 45 ∷ b)) ++ rebuild_suffix found.0
    ≡ front ++ (u ++ 45 ∷ (b ++ rebuild_suffix found.0)) =
    append_assoc front (u ++ 45 ∷ b) (rebuild_suffix found.0)
    ∙ ap (λ (l : List ℕ). front ++ l) (append_assoc u (45 ∷ b) (rebuild_suffix found.0)) in
    record {
      number = found.0;
      within = ends-in (front ++ (u ++ 45 ∷ r)) (front ++ (u ++ 45 ∷ b)) found.0
          (ap (λ (l : List ℕ). front ++ (u ++ 45 ∷ l)) found.3 ∙ sym joined) longer found.1
          found.2;
      is = ap (λ (l : List ℕ). record { epoch = e; upstream = u; revision = Some l })
          (found.3 ∙ ap (λ (l : List ℕ). l ++ rebuild_suffix found.0) (sym part));
    }

-- ---- 2. a version without one

-- of an upstream part that is its own base
stays : (text u : List ℕ) (e : ℕ) → upstream_base e u ≡ u
    → IsRebuiltFrom text (record { epoch = e; upstream = u; revision = None })
stays text u e is = record {
  number = 0;
  within = omega arith;
  is = ap (λ (l : List ℕ). record { epoch = e; upstream = l; revision = None })
      (sym (append-nil (upstream_base e u) ∙ is));
}

-- of an upstream part whose base is another one
goes : (front u b : List ℕ) (e n : ℕ) → upstream_base e u ≡ b → u ≡ b ++ rebuild_suffix n
    → 0 < length (front ++ b) → 0 < n → n ≤ 9999
    → IsRebuiltFrom (front ++ (u ++ [])) (record { epoch = e; upstream = u; revision = None })
goes front u b e n is whole longer some bounded = record {
  number = n;
  within = ends-in (front ++ (u ++ [])) (front ++ b) n
      (ap (λ (l : List ℕ). front ++ l) (append-nil u ∙ whole)
      ∙ sym (append_assoc front b (rebuild_suffix n))) longer some bounded;
  is = ap (λ (l : List ℕ). record { epoch = e; upstream = l; revision = None })
      (whole ∙ ap (λ (l : List ℕ). l ++ rebuild_suffix n) (sym is));
}

either-same : (b : Bool) (x : List ℕ) → cond b x x ≡ x
either-same true x = refl
either-same false x = refl

by-upstream : (epoch : Option (List ℕ)) (u : List ℕ) (o : Option (List ℕ)) → rebuilt_from u ≡ o
    → IsRebuiltFrom (epoch_front epoch ++ (u ++ []))
    (record { epoch = epoch_number epoch; upstream = u; revision = None })
by-upstream epoch u None is =
    stays (epoch_front epoch ++ (u ++ [])) u (epoch_number epoch) (rw is (either-same _ u))
by-upstream None u (Some []) is = stays (u ++ []) u 0 (rw is refl)
by-upstream None u (Some (x ∷ b)) is =
    let found = rebuilt_found u (x ∷ b) is in
    goes [] u (x ∷ b) 0 found.0 (rw (is, ne_eqb (length (x ∷ b)) 0 (λ e. omega arith)) refl)
    found.3 (omega arith) found.1 found.2
by-upstream (Some digits) u (Some b) is =
    let e = epoch_number (Some digits) in
    let front = digits ++ 58 ∷ [] in
    let part : base_part u ≡ b = ap (λ (o : Option (List ℕ)). unwrap_or o u) is in
    let none = (eqb (length (base_part u)) 0) && (eqb e 0) in
    let found = rebuilt_found u b is in
    let longer : 0 < length (front ++ b) = simp length-append (omega arith) in
    elim (cases_Bool none) [
      | inl empty ↦ stays (front ++ (u ++ [])) u e (cond-true none u (base_part u) empty)
      | inr other ↦ goes front u b e found.0 (cond-false none u (base_part u) other ∙ part) found.3
          longer found.1 found.2
    ]

-- ---- 3. each version

by-parts : (epoch : Option (List ℕ)) (u : List ℕ) (revision : Option (List ℕ))
    → IsRebuiltFrom (epoch_front epoch ++ (u ++ revision_back revision))
    (record { epoch = epoch_number epoch; upstream = u; revision = revision })
by-parts epoch u None = by-upstream epoch u (rebuilt_from u) refl
by-parts epoch u (Some r) =
    by-revision (epoch_front epoch) u r (epoch_number epoch) (rebuilt_from r) refl

pub own-number : (text : List ℕ) (v : Parts) → IsVersion text v → IsRebuiltFrom text v
own-number text v is =
    let w = is.written in
    subst (IsRebuiltFrom text) (sym is.parts)
    (subst (λ (l : List ℕ). IsRebuiltFrom l (parts_written w)) (sym is.cut.joined)
    (by-parts w.epoch w.upstream w.revision))
