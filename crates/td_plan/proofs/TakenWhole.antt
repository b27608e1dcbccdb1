-- A plan is taken whole: the commands of each source go over the rows of that source alone.
use Rattle.std.proofs.Common.{◌≡◌, ℕ, true, false, List, [], ◌∷◌, ◌++◌, Option, Some, None}
use Rattle.std.proofs.Common.{length, refl, sym, ap, subst, ◌∙◌, inl, inr, arith}
use Rattle.std.specs.Prelude.{filter, option_map}
use Rattle.std.specs.List.{Contains, flat_map}
use Rattle.std.specs.Option.{option_map_or}
use Rattle.std.specs.Str.{bytes_eq}
use Rattle.std.proofs.lemmas.Bool.{cases_Bool, false_from_ne_true, false≢true}
use Rattle.std.proofs.lemmas.List.Concat.{flat_map-cons}
use Rattle.std.proofs.lemmas.Slice.Eq.{bytes_eq-Decides}
use Rattle.td_text.proofs.Anywhere.{any-below}
use Rattle.td_text.proofs.Chain.{some_is}
use Rattle.td_relation.specs.Table.{place_of}
use Rattle.td_rows.specs.declared.key.Key.{Key}
use Rattle.td_rows.specs.declared.row.Row.{Row}
use Rattle.td_rows.specs.Table.{Table, row_of}
use Rattle.td_indices.specs.Archive.{number_named, source_named}
use Rattle.td_indices.specs.Sources.{KeptSource}
use Rattle.td_indices.proofs.OfferLaws.{has_cases, has_first, has_more}
use Rattle.td_wbread.specs.Command.{CommandParts}
use Rattle.td_plan.specs.Due.{has_due, is_due}
use Rattle.td_plan.specs.Lines.{Words}
use Rattle.td_plan.specs.Placing.{Placing, is_place_before}
use Rattle.td_plan.specs.Plan.{due_sources}
use Rattle.td_plan.specs.PlayLaws.{PlansAreTakenWhole, VersionsAreRead, plan_commands, planned}
use Rattle.td_plan.specs.PlayLaws.{planned_at, source_commands}
use Rattle.td_plan.specs.Premises.{AreSound, Premises}
use Rattle.td_plan.specs.Waits.{is_source_before}
use Rattle.td_plan.proofs.Chosen.{filter-again, filter-found, in_order-again, in_order-found}
use Rattle.td_plan.proofs.DuePositions.{weaker-any}
use Rattle.td_plan.proofs.Existing.{none_has}
use Rattle.td_plan.proofs.Named.{named-by}
use Rattle.td_plan.proofs.PlaceOrder.{place-once, place-trans}
use Rattle.td_plan.proofs.Played.{AllName, Goes, Unnamed, are-played, goes-by, goes-on, none-played}
use Rattle.td_plan.proofs.Played.{played, row-played, unnamed-append}
use Rattle.td_plan.proofs.PlayedSources.{other-unnamed, rests-at, source-goes, source-named-all}
use Rattle.td_plan.proofs.Rising.{Rising, any-way-filter, any-way-from, before-any, order-rises}
use Rattle.td_plan.proofs.ToldOnce.{arch-named, named-kept}

-- ---- 1. each source has one part of the commands

name_all-append : (t : Table) (cs ds : List CommandParts) → AllName t cs → AllName t ds
    → AllName t (cs ++ ds)
name_all-append t [] ds first next = next
name_all-append t (c ∷ cs) ds first next = (first.0, name_all-append t cs ds first.1 next)

module _ (words : Words) (x : Placing) (p : Premises) (k : Key) where
  abbrev commands_of : List KeptSource → List CommandParts
  commands_of ss = flat_map (source_commands words x p) ss

  -- a source whose name isn't the key's
  apart : (s : KeptSource) → ¬ (s.head.name ≡ k.source) → Unnamed k (source_commands words x p s)
  apart s other = other-unnamed words x p s k
      (false_from_ne_true (bytes_eq s.head.name k.source)
      (λ same. other ((bytes_eq-Decides s.head.name k.source).0 same)))

  -- commands of other sources name no row of the key's
  all-apart : (ss : List KeptSource)
      → ((s : KeptSource) → Contains ss s → ¬ (s.head.name ≡ k.source))
      → Unnamed k (commands_of ss)
  all-apart [] others = tt
  all-apart (s ∷ ss) others =
      subst (Unnamed k) (sym (flat_map-cons (source_commands words x p) s ss))
      (unnamed-append k (source_commands words x p s) (commands_of ss)
      (apart s (others s (has_first s ss)))
      (all-apart ss (λ t there. others t (has_more s ss t there))))

  -- the key's source alone decides about its row
  one-source : (s : KeptSource) (row new : Row) → s.head.name ≡ k.source
      → Goes p (source_commands words x p s) k row new → (ss : List KeptSource)
      → Rising (is_place_before x) ss → Contains ss s
      → ((t : KeptSource) → Contains ss t → t.head.name ≡ k.source → t ≡ s)
      → Goes p (commands_of ss) k row new
  one-source s row new own goes [] rises there one = absurd (none_has s there)
  one-source s row new own goes (t ∷ ts) rises there one =
      subst (λ (cs : List CommandParts). Goes p cs k row new)
      (sym (flat_map-cons (source_commands words x p) t ts))
      (elim (has_cases t ts s there) [
        | inl same ↦ goes-on p (source_commands words x p t) (commands_of ts) k row new new
            (subst (λ (u : KeptSource). Goes p (source_commands words x p u) k row new) (sym same)
            goes)
            (goes-by p (commands_of ts) k new (all-apart ts (λ u later its.
            itself (subst (λ (v : KeptSource). is_place_before x v s ≡ true) same
            (subst (λ (v : KeptSource). is_place_before x t v ≡ true)
            (one u (has_more t ts u later) its) (rises.0 u later))))))
        | inr later ↦ goes-on p (source_commands words x p t) (commands_of ts) k row row new
            (goes-by p (source_commands words x p t) k row (apart t (λ its.
            itself (subst (λ (v : KeptSource). is_place_before x v s ≡ true)
            (one t (has_first t ts) its) (rises.0 s later)))))
            (one-source s row new own goes ts rises.1 later
            (λ u behind its. one u (has_more t ts u behind) its))
      ])
    where
      itself : ¬ (is_place_before x s s ≡ true)
      itself low = place-once (x.step s.head.name) (x.first s.head.name) s.head.name
          (x.step s.head.name) (x.first s.head.name) s.head.name low low

-- ---- 2. the plan

module _ (words : Words) (p : Premises) (x : Placing) (sound : AreSound p)
    (read : VersionsAreRead p) where
  due-kept : (s : KeptSource) → Contains (due_sources x p) s
      → Contains p.archive.sources s × (has_due p s ≡ true)
  due-kept s there = filter-found (has_due p) p.archive.sources s
      (in_order-found (is_place_before x) (filter (has_due p) p.archive.sources) s there)

  -- no two sources have one line
  sources-rise : Rising (is_place_before x) (due_sources x p)
  sources-rise = order-rises (is_place_before x)
      (λ s t u low next. place-trans (x.step s.head.name) (x.first s.head.name) s.head.name
      (x.step t.head.name) (x.first t.head.name) t.head.name
      (x.step u.head.name) (x.first u.head.name) u.head.name low next)
      (filter (has_due p) p.archive.sources)
      (weaker-any x (filter (has_due p) p.archive.sources)
      (any-way-filter is_source_before (has_due p) p.archive.sources
      (any-way-from is_source_before p.archive.sources (λ j k s t low left right.
      before-any s.head.name t.head.name (λ same.
      let one : j ≡ k = some_is j k (sym (sound.numbered j s left)
      ∙ ap (number_named p.archive) same ∙ sound.numbered k t right) in
      omega arith)))))

  all-named-in : (ss : List KeptSource) → ((s : KeptSource) → Contains ss s
      → Contains (due_sources x p) s)
      → AllName p.rows (flat_map (source_commands words x p) ss)
  all-named-in [] due = tt
  all-named-in (s ∷ ss) due =
      let kept = due-kept s (due s (has_first s ss)) in
      subst (AllName p.rows) (sym (flat_map-cons (source_commands words x p) s ss))
      (name_all-append p.rows (source_commands words x p s)
      (flat_map (source_commands words x p) ss)
      (source-named-all p sound s kept.0 words x kept.1)
      (all-named-in ss (λ t there. due t (has_more s ss t there))))

  -- the source of a key's name
  is-source : (k : Key) (s t : KeptSource) → source_named p.archive k.source ≡ Some s
      → Contains (due_sources x p) t → t.head.name ≡ k.source → t ≡ s
  is-source k s t named there own =
      some_is t s (sym (named-by p sound t (due-kept t there).0)
      ∙ ap (source_named p.archive) own ∙ named)

  -- no row of a source without due rows is planned
  not-due : (k : Key) (s : KeptSource) (row : Row) → has_due p s ≡ false → (o : Option ℕ)
      → place_of p.archive.table k.arch ≡ o
      → option_map_or (λ place. planned_at x p s place row) o row ≡ row
  not-due k s row none None at = refl
  not-due k s row none (Some place) at = rests-at x p s place row
      (false_from_ne_true (is_due p s place) (λ due.
      false≢true (sym none ∙ any-below (is_due p s) (length p.archive.table) place
      (arch-named p.archive.table k.arch place at).0 due)))

  abbrev end : Key → Row → Option KeptSource → Row
  end k row o = option_map_or (λ s. option_map_or (λ place. planned_at x p s place row)
      (place_of p.archive.table k.arch) row) o row

  -- the row of a key after the plan
  plan-goes : (k : Key) (row : Row) → row_of p.rows k ≡ Some row
      → Goes p (plan_commands words x p) k row (planned x p k row)
  plan-goes k row is = by (source_named p.archive k.source) refl
    where
      none : ((t : KeptSource) → Contains (due_sources x p) t → ¬ (t.head.name ≡ k.source))
          → Goes p (plan_commands words x p) k row row
      none others = goes-by p (plan_commands words x p) k row
          (all-apart words x p k (due_sources x p) others)

      by : (o : Option KeptSource) → source_named p.archive k.source ≡ o
          → Goes p (plan_commands words x p) k row (end k row (source_named p.archive k.source))
      by None named = subst (Goes p (plan_commands words x p) k row) (sym (ap (end k row) named))
          (none (λ t there own.
          let bad : None ≡ Some t = sym named ∙ ap (source_named p.archive) (sym own)
          ∙ named-by p sound t (due-kept t there).0 in cc))
      by (Some s) named =
          subst (Goes p (plan_commands words x p) k row) (sym (ap (end k row) named))
          (elim (cases_Bool (has_due p s)) [
            | inl some ↦
                let kept = named-kept p k.source s named in
                one-source words x p k s row (end k row (Some s)) (sym kept.1)
                (source-goes words x p sound s kept.0 (read s kept.0) k (sym kept.1) row is)
                (due_sources x p) sources-rise
                (in_order-again (is_place_before x) (filter (has_due p) p.archive.sources) s
                (filter-again (has_due p) p.archive.sources s kept.0 some))
                (λ t there own. is-source k s t named there own)
            | inr other ↦ subst (Goes p (plan_commands words x p) k row)
                (sym (not-due k s row other (place_of p.archive.table k.arch) refl))
                (none (λ t there own. false≢true (sym other
                ∙ ap (has_due p) (sym (is-source k s t named there own)) ∙ (due-kept t there).1)))
          ])

  plan-rows : (k : Key) (o : Option Row) → row_of p.rows k ≡ o
      → row_of (played (plan_commands words x p) p.rows) k
      ≡ option_map (planned x p k) (row_of p.rows k)
  plan-rows k None is =
      none-played (plan_commands words x p) p.rows k is
      ∙ sym (ap (option_map (planned x p k)) is)
  plan-rows k (Some row) is =
      row-played p (plan_commands words x p) p.rows k row (planned x p k row) is
      (plan-goes k row is)
      ∙ sym (ap (option_map (planned x p k)) is)

pub plans_are_taken_whole : PlansAreTakenWhole
plans_are_taken_whole words p x sound read placed = (
  played (plan_commands words x p) p.rows,
  are-played p (plan_commands words x p) p.rows
      (all-named-in words p x sound read (due_sources x p) (λ s there. there))
      (λ k row is. (planned x p k row, plan-goes words p x sound read k row is)),
  λ k. plan-rows words p x sound read k (row_of p.rows k) refl,
)
