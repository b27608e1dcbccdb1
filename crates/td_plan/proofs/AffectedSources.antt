-- The affected sources in byte order are those that were found.
use Rattle.std.proofs.Common.{◌≡◌, ◌∙◌, true, List, map, sym, ap, subst, arith}
use Rattle.std.specs.Prelude.{filter}
use Rattle.std.specs.List.{Contains}
use Rattle.std.proofs.lemmas.Option.{same_Some}
use Rattle.td_indices.specs.Archive.{Contents, number_named}
use Rattle.td_query.specs.Statuses.{is_affected}
use Rattle.td_query.specs.Tracking.{Tracking}
use Rattle.td_plan.specs.declared.movers.Mover.{Mover}
use Rattle.td_plan.specs.Premises.{SourcesAreApart}
use Rattle.td_plan.specs.Steps.{affected_sources}
use Rattle.td_plan.specs.Waits.{is_source_before}
use Rattle.td_plan.specs.inner.Movers.{AreAffected}
use Rattle.td_plan.specs.inner.Waiters.{kept_of}
use Rattle.td_plan.proofs.Chosen.{in_order-again, in_order-found, map-again, map-found}
use Rattle.td_plan.proofs.Existing.{filter-has, has-filter}
use Rattle.td_plan.proofs.Picked.{has-numbered, numbered-has}
use Rattle.td_plan.proofs.Rising.{AnyWay, Rising, any-way-filter, any-way-from, before-any}
use Rattle.td_plan.proofs.Rising.{before-once, before-trans, order-rises, rising-from, rising-map}
use Rattle.td_plan.proofs.Rising.{rising-same}

module _ (a : Contents) (t : Tracking) (apart : SourcesAreApart a) (ms : List Mover)
    (are : AreAffected a t ms) where
  -- sources at different places have different names
  named-any : AnyWay is_source_before a.sources
  named-any = any-way-from is_source_before a.sources (λ j k s u low left right.
      before-any s.head.name u.head.name (λ same.
      let one : j ≡ k = same_Some j k (sym (apart j s left)
      ∙ ap (number_named a) same ∙ apart k u right) in
      omega arith))

  sources-rise : Rising is_source_before (map kept_of ms)
  sources-rise = rising-map is_source_before kept_of ms
      (rising-from (λ m n. is_source_before (kept_of m) (kept_of n)) ms
      (λ j k m n low left right. are.rising j k m n low left right))

  pub affected-are : affected_sources a t ≡ map kept_of ms
  affected-are = rising-same is_source_before (affected_sources a t) (map kept_of ms)
      (λ s u has low back. before-once s.head.name u.head.name low back)
      (order-rises is_source_before
      (λ s u v. before-trans s.head.name u.head.name v.head.name)
      (filter (is_affected a t) a.sources)
      (any-way-filter is_source_before (is_affected a t) a.sources named-any))
      sources-rise
      (λ s has.
      let of = has-filter (is_affected a t) a.sources s
      (in_order-found is_source_before (filter (is_affected a t) a.sources) s has) in
      let m = are.all s of.0 of.1 in
      subst (Contains (map kept_of ms)) m.3
      (map-again kept_of ms m.1 (numbered-has ms m.0 m.1 m.2)))
      (λ s has.
      let m = map-found kept_of ms s has in
      let k = has-numbered ms m.0 m.1 in
      let its = are.each k.0 m.0 k.1 in
      let is : is_affected a t s ≡ true = ap (is_affected a t) (sym m.2) ∙ its.affected in
      in_order-again is_source_before (filter (is_affected a t) a.sources) s
      (filter-has (is_affected a t) a.sources s
      (subst (Contains a.sources) m.2
      (numbered-has a.sources m.0.number (kept_of m.0) its.at)) is))
