-- On which sources a source builds, and by which package, by what it asks for anywhere.
use Rattle.std.proofs.Common.{◌≡◌, ℕ, ◌<◌, not, true, false, List, [], ◌∷◌, ◌++◌}
use Rattle.std.proofs.Common.{length, fold, Option, None, Some, refl, sym, ap, subst, ◌∙◌}
use Rattle.std.specs.Prelude.{filter, slice_get}
use Rattle.std.specs.List.{Contains, filter_map, range_with_len}
use Rattle.std.specs.Option.{option_map_or}
use Rattle.std.specs.Str.{bytes_eq}
use Rattle.std.proofs.lemmas.Bool.{and_from, and_parts, false_from_ne_true, not_from_false}
use Rattle.std.proofs.lemmas.Slice.Eq.{bytes_eq-Decides}
use Rattle.td_text.proofs.Chain.{some_is}
use Rattle.td_indices.specs.Archive.{Contents, is_of, source_named}
use Rattle.td_indices.specs.Kept.{KeptBinary}
use Rattle.td_query.specs.Tracking.{Tracking}
use Rattle.td_waves.specs.BuildsOn.{builds_on}
use Rattle.td_plan.specs.declared.asks.Ask.{Ask}
use Rattle.td_plan.specs.declared.movers.Mover.{Mover}
use Rattle.td_plan.specs.BuildsThere.{asks_there}
use Rattle.td_plan.specs.InOrder.{earlier}
use Rattle.td_plan.specs.Packages.{package_name}
use Rattle.td_plan.specs.Premises.{SourcesAreApart}
use Rattle.td_plan.specs.Why.{asks_somewhere, reason_text}
use Rattle.td_plan.specs.inner.Bases.{AreAsksAnywhere, IsAskAnywhere, asked_text, first_asked}
use Rattle.td_plan.specs.inner.Movers.{AreAffected, IsAffectedMover, mover_name}
use Rattle.td_plan.specs.inner.Planned.{name_at}
use Rattle.td_plan.specs.inner.Waiters.{kept_of}
use Rattle.td_plan.proofs.Asked.{ask-built, asked-there, built-ask, names-differ, there-ask}
use Rattle.td_plan.proofs.Chosen.{any-again, any-found}
use Rattle.td_plan.proofs.Existing.{filter-has, has-filter, range-has}
use Rattle.td_plan.proofs.Named.{named-own}
use Rattle.td_plan.proofs.Picked.{first-named, fold-picked, has-numbered, kept-again, kept-is}
use Rattle.td_plan.proofs.Picked.{kept_if, numbered-has, picked-again, picked-found}
use Rattle.td_plan.proofs.Somewhere.{sources_build_somewhere}
use Rattle.td_plan.proofs.ToldOnce.{place-within}
use Rattle.td_plan.proofs.WaitLoop.{AreOf}
use Rattle.td_plan.proofs.Waiters.{at-below}

module _ (a : Contents) (x : Tracking) (apart : SourcesAreApart a) (ms : List Mover)
    (are : AreAffected a x ms) (own : ℕ) (mine : Mover) (mine-at : slice_get ms own ≡ Some mine)
  where
    own-named : source_named a (mover_name mine) ≡ Some (kept_of mine)
    own-named = named-own a apart (kept_of mine)
        (numbered-has a.sources mine.number (kept_of mine) (are.each own mine mine-at).at)

    -- ---- 1. on which sources

    -- a source builds on the owner of what it asks for
    pub on-owner : (ask : Ask) → IsAskAnywhere a ms own (kept_of mine) ask → (u : Mover)
        → slice_get ms ask.owner ≡ Some u
        → builds_on a (mover_name mine) (mover_name u) ≡ true
    on-owner ask of u at =
        (sources_build_somewhere a (kept_of mine) (kept_of u) own-named).1 (
          of.place,
          of.within,
          ask-built a x (IsAffectedMover a x) ms are own mine mine-at (kept_of mine) refl of.place
              ask
              u at of.is,
        )

    -- a source builds on none that owns nothing of what it asks for
    pub not-on : (asks : List Ask) → AreAsksAnywhere a ms own (kept_of mine) asks → (k : ℕ)
        (u : Mover) → slice_get ms k ≡ Some u
        → ((ask : Ask) → Contains asks ask → ¬ (ask.owner ≡ k))
        → builds_on a (mover_name mine) (mover_name u) ≡ false
    not-on asks all k u at none =
        false_from_ne_true (builds_on a (mover_name mine) (mover_name u)) (λ on.
        let there = (sources_build_somewhere a (kept_of mine) (kept_of u) own-named).0 on in
        let ask = built-ask a x (IsAffectedMover a x) ms are own mine mine-at (kept_of mine) refl
        there.0 k u at (are.each k u at).moves there.2 in
        none ask.0
        (all.all ask.0 (record { place = there.0; within = there.1; is = ask.2 })) ask.1)

    -- ---- 2. by which package

    -- the asks for one owner
    module _ (j : ℕ) (u : Mover) (at : slice_get ms j ≡ Some u) (asks : List Ask)
        (of : AreOf (IsAskAnywhere a ms own (kept_of mine)) j asks) (some : 0 < length asks) where
      differ : not (bytes_eq (mover_name mine) (mover_name u)) ≡ true
      differ =
          let first = at-below asks 0 some in
          let its = of.each first.0 (numbered-has asks 0 first.0 first.1) in
          not_from_false (bytes_eq (mover_name mine) (mover_name u))
          (false_from_ne_true (bytes_eq (mover_name mine) (mover_name u)) (λ one.
          names-differ a x (IsAffectedMover a x) ms are own j mine u mine-at at
          (λ same. its.0.is.apart (its.1 ∙ sym same))
          ((bytes_eq-Decides (mover_name mine) (mover_name u)).0 one)))

      -- the package that an ask is for
      abbrev asked : Ask → Option KeptBinary
      asked ask = kept_if (λ b. true) (slice_get a.binaries ask.binary)

      there : (b : KeptBinary) → Contains (filter_map asked asks) b
          → Contains (filter (asks_somewhere a (kept_of mine) (kept_of u)) a.binaries) b
      there b has =
          let ask = picked-found asked asks b has in
          let is = kept-is (λ (c : KeptBinary). true) (slice_get a.binaries ask.0.binary) b ask.2 in
          let its = of.each ask.0 ask.1 in
          let item = its.0.is in
          let same : item.item ≡ b = some_is item.item b (sym item.there ∙ is.0) in
          let owner : item.owner ≡ u =
          some_is item.owner u (sym item.at ∙ ap (slice_get ms) its.1 ∙ at) in
          let named : is_of (mover_name u) item.item ≡ true =
          subst (λ (m : Mover). is_of (mover_name m) item.item ≡ true) owner item.of in
          let passes : asks_somewhere a (kept_of mine) (kept_of u) item.item ≡ true =
          and_from (is_of (mover_name u) item.item) _ named
          (any-again (λ place. asks_there a (kept_of mine) place item.item)
          (range_with_len 0 (length a.table)) its.0.place
          (range-has (length a.table) its.0.place its.0.within)
          (asked-there a (kept_of mine) its.0.place ask.0.is_own item.item item.asked)) in
          filter-has (asks_somewhere a (kept_of mine) (kept_of u)) a.binaries b
          (numbered-has a.binaries ask.0.binary b is.0)
          (subst (λ (c : KeptBinary). asks_somewhere a (kept_of mine) (kept_of u) c ≡ true) same
          passes)

      back : (b : KeptBinary)
          → Contains (filter (asks_somewhere a (kept_of mine) (kept_of u)) a.binaries) b
          → Contains (filter_map asked asks) b
      back b has =
          let f = has-filter (asks_somewhere a (kept_of mine) (kept_of u)) a.binaries b has in
          let both = and_parts (is_of (mover_name u) b) _ f.1 in
          let place = any-found (λ place. asks_there a (kept_of mine) place b)
          (range_with_len 0 (length a.table)) both.1 in
          let n = has-numbered a.binaries b f.0 in
          let ask = there-ask a x (IsAffectedMover a x) ms are own mine mine-at (kept_of mine) refl
          place.0 j u at (are.each j u at).moves differ n.0 b n.1 both.0 place.2 in
          let has : Contains asks ask.0 = of.all ask.0 (record {
            place = place.0;
            within = place-within (length a.table) place.0 place.1;
            is = ask.3;
          }) ask.1 in
          picked-again asked asks ask.0 b has
          (kept-again (λ (c : KeptBinary). true) (slice_get a.binaries ask.0.binary) b
          (ap (slice_get a.binaries) ask.2 ∙ n.1) refl)

      pub reason-is : asked_text a ms j asks ≡ reason_text a (kept_of mine) (kept_of u)
      reason-is =
          let name : name_at ms j ≡ mover_name u =
          ap (λ (o : Option Mover). option_map_or mover_name o []) at in
          let first : option_map_or package_name (first_asked a asks) []
          ≡ option_map_or package_name (fold (earlier package_name) None
          (filter (asks_somewhere a (kept_of mine) (kept_of u)) a.binaries)) [] =
          ap (λ (o : Option KeptBinary). option_map_or package_name o [])
          (fold-picked (earlier package_name) (λ (ask : Ask) (b : KeptBinary). true)
          (λ (ask : Ask). slice_get a.binaries ask.binary) None asks)
          ∙ first-named package_name (filter_map asked asks)
          (filter (asks_somewhere a (kept_of mine) (kept_of u)) a.binaries) there back in
          ap (λ (n : List ℕ). n ++ 32 ∷ option_map_or package_name (first_asked a asks) []) name
          ∙ ap (λ (n : List ℕ). mover_name u ++ 32 ∷ n) first
