-- Affected sources that are looked up by their names, one by one.
use Rattle.std.proofs.Common.{◌≡◌, ℕ, suc, ◌+◌, ◌++◌, ◌∷◌, ◌∙◌, [], true, List, Option, Some, None}
use Rattle.std.proofs.Common.{Result, Ok, Err, IfOk, ap, arith, map, refl, slice_get, subst, sym}
use Rattle.std.proofs.Common.{take}
use Rattle.std.specs.Borrow.{Bor}
use Rattle.std.specs.List.{All, AllZip, filter_map}
use Rattle.std.specs.declared.alloc.AllocError.{AllocError}
use Rattle.std.proofs.lemmas.List.{map-append}
use Rattle.std.proofs.lemmas.List.Elements.{All-cons, All-nil, All-push}
use Rattle.std.proofs.lemmas.Option.{get_or_from_slice_get, same_Some, slice_get_within}
use Rattle.td_rows.proofs.Lists.{take-next}
use Rattle.td_indices.specs.Archive.{Contents, number_named}
use Rattle.td_indices.specs.declared.sourced.Source.{Source}
use Rattle.td_query.specs.Statuses.{is_affected}
use Rattle.td_query.specs.Tracking.{Tracking}
use Rattle.td_plan.specs.declared.movers.Mover.{Mover}
use Rattle.td_plan.specs.Premises.{Premises}
use Rattle.td_plan.specs.inner.Inputs.{kept_source}
use Rattle.td_plan.specs.inner.Movers.{AreNamedOf, HasMoreOf, IsAffectedName, IsMade, IsMadeOf}
use Rattle.td_plan.specs.inner.Movers.{IsMover, IsNameAffected, mover_name}
use Rattle.td_plan.proofs.Named.{has-name}

-- the source that the archive shows under a name is that of this name
shown-named : (a : Contents) (t : Tracking) (Is : Mover → Type 0) (name : List ℕ) (m : Mover)
    (x : Source) (number : ℕ) → m.source ≡ x → number_named a name ≡ Some number
    → slice_get a.sources number ≡ Some (kept_source x)
    → (is_affected a t (kept_source x) ≡ true → Is m)
    → IsNameAffected a t name → (mover_name m ≡ name) × Is m
shown-named a t Is name m x number source named at is h =
    let one : number ≡ h.number = same_Some number h.number (sym named ∙ h.named) in
    let same : kept_source x ≡ h.source = same_Some (kept_source x) h.source
    (sym at ∙ ap (slice_get a.sources) one ∙ h.at) in (
      ap (λ (y : Source). y.name.now) source
          ∙ sym (has-name a name number (kept_source x) named at),
      is (ap (is_affected a t) same ∙ h.affected),
    )

-- the source that the archive shows under a name is added
pub shown-more : (a : Contents) (t : Tracking) (Is : Mover → Type 0) (name : List ℕ)
    (old new : List Mover) (m : Mover) (x : Source) (number : ℕ) → new ≡ old ++ m ∷ []
    → m.source ≡ x → number_named a name ≡ Some number
    → slice_get a.sources number ≡ Some (kept_source x)
    → (is_affected a t (kept_source x) ≡ true → Is m)
    → IsNameAffected a t name → HasMoreOf Is name old new
shown-more a t Is name old new m x number more source named at is h =
    let both = shown-named a t Is name m x number source named at is h in
    record { mover = m; more = more; named = both.0; is = both.1 }

-- what is made of the source that the archive shows under a name
pub shown-made : (p : Premises) (name : List ℕ) (made : Result Mover AllocError) (x : Source)
    (number : ℕ) → IfOk made (λ m. m.source ≡ x) → number_named p.archive name ≡ Some number
    → slice_get p.archive.sources number ≡ Some (kept_source x)
    → IfOk made (λ m. is_affected p.archive p.tracker (kept_source x) ≡ true
    → IsMover p m (kept_source x))
    → IsAffectedName p name → IsMade p name (Some made)
shown-made p name (Ok m) x number source named at is h =
    shown-named p.archive p.tracker (λ n. IsMover p n (kept_source n.source)) name m x number source
    named at
    (λ affected. subst (λ (y : Source). IsMover p m (kept_source y)) (sym source) (is affected)) h
shown-made p name (Err e) x number source named at is h = tt

-- sources that are made name by name are those with the names
pub names-made : (Named : List ℕ → Type 0) (Is : Mover → Type 0) (names : List (Bor (List ℕ)))
    (made : List (Option (Result Mover AllocError))) (ms : List Mover)
    → AllZip (λ (name : Bor (List ℕ)) (m : Option (Result Mover AllocError)).
    Named name.now → IsMadeOf Is name.now m) names made
    → map Ok ms ≡ filter_map (λ (m : Option (Result Mover AllocError)). m) made
    → All Named (map (λ (name : Bor (List ℕ)). name.now) names)
    → AreNamedOf Is (map (λ (name : Bor (List ℕ)). name.now) names) ms
names-made Named Is [] [] [] each is all = record { each = All-nil Is; named = refl }
names-made Named Is [] [] (m ∷ ms) each is all = absurd cc
names-made Named Is [] (o ∷ made) ms each is all = absurd each
names-made Named Is (name ∷ names) [] ms each is all = absurd each
names-made Named Is (name ∷ names) (None ∷ made) ms each is all =
    absurd (each.0 (all 0 name.now (omega arith)))
names-made Named Is (name ∷ names) (Some (Err e) ∷ made) [] each is all = absurd cc
names-made Named Is (name ∷ names) (Some (Err e) ∷ made) (m ∷ ms) each is all = absurd cc
names-made Named Is (name ∷ names) (Some (Ok n) ∷ made) [] each is all = absurd cc
names-made Named Is (name ∷ names) (Some (Ok n) ∷ made) (m ∷ ms) each is all =
    let here = each.0 (all 0 name.now (omega arith)) in
    let one : n ≡ m = cc in
    let rest : map Ok ms ≡ filter_map (λ (m : Option (Result Mover AllocError)). m) made = cc in
    let others = names-made Named Is names made ms each.1 rest
    (λ k d lt. all (suc k) d (omega (arith, lt))) in
    record {
      each = All-cons Is m ms (subst Is one here.1) others.each;
      named = ap (λ (x : Mover). mover_name x ∷ map mover_name ms) (sym one)
          ∙ ap (λ (l : List (List ℕ)). mover_name n ∷ l) others.named
          ∙ ap (λ (x : List ℕ). x ∷ map (λ (o : Bor (List ℕ)). o.now) names) here.0;
    }

-- the sources with the names so far, and with one name more
pub names-more : (Named : List ℕ → Type 0) (Is : Mover → Type 0) (names : List (List ℕ)) (i : ℕ)
    (name : List ℕ) (old new : List Mover) → (Named name → HasMoreOf Is name old new)
    → slice_get names i ≡ Some name → All Named names → AreNamedOf Is (take i names) old
    → AreNamedOf Is (take (i + 1) names) new
names-more Named Is names i name old new more at all had =
    let here : Named name = subst Named
    (get_or_from_slice_get names i name name at) (all i name (slice_get_within names i name at)) in
    let is = more here in
    record {
      each = subst (All Is) (sym is.more) (All-push Is old is.mover had.each is.is);
      named = ap (map mover_name) is.more
          ∙ map-append mover_name old (is.mover ∷ [])
          ∙ ap (λ (l : List (List ℕ)). l ++ mover_name is.mover ∷ []) had.named
          ∙ ap (λ (n : List ℕ). take i names ++ n ∷ []) is.named
          ∙ sym (take-next names i name at);
    }
