-- Each source and each row that is to be in a plan's lines is there once, and no other is.
use Rattle.std.proofs.Common.{◌≡◌, ℕ, ◌<◌, ◌+◌, not, Bool, true, false, cond, List, []}
use Rattle.std.proofs.Common.{◌∷◌, ◌++◌, length, Option, Some, None, refl, sym, ap, subst, ◌∙◌, inl}
use Rattle.std.proofs.Common.{inr, arith}
use Rattle.std.specs.Prelude.{filter, is_some, map, option_map}
use Rattle.std.specs.List.{Contains, flat_map, list_any, range_with_len}
use Rattle.std.specs.Option.{option_and_then, option_map_or}
use Rattle.std.specs.Str.{bytes_eq}
use Rattle.std.proofs.lemmas.Bool.{and_from, and_parts, and_right, cases_Bool, cond-false}
use Rattle.std.proofs.lemmas.Bool.{cond-true, not_from_false, not_from_true}
use Rattle.std.proofs.lemmas.List.Concat.{flat_map-cons}
use Rattle.std.proofs.lemmas.List.Elements.{filter-append}
use Rattle.std.proofs.lemmas.List.FromFn.{get_or-range_with_len, length-range_with_len}
use Rattle.std.proofs.lemmas.List.Quantifiers.{position-Some}
use Rattle.std.proofs.lemmas.Option.{slice_get-get_or}
use Rattle.std.proofs.lemmas.Slice.Eq.{bytes_eq-Decides}
use Rattle.td_text.proofs.Anywhere.{any-below}
use Rattle.td_text.proofs.Chain.{some_is}
use Rattle.td_relation.specs.Arch.{ArchWords}
use Rattle.td_relation.specs.Table.{IsApart, place_of}
use Rattle.td_rows.specs.declared.key.Key.{Key}
use Rattle.td_rows.specs.declared.row.Row.{Row}
use Rattle.td_indices.specs.Archive.{source_named}
use Rattle.td_indices.specs.Sources.{KeptSource}
use Rattle.td_indices.proofs.OwnPlaces.{place_own}
use Rattle.td_query.specs.declared.status.Status.{Status}
use Rattle.td_query.specs.Statuses.{row_status}
use Rattle.td_wbread.specs.Command.{CommandParts}
use Rattle.td_wbread.specs.declared.command.Verb.TheVariants.{Dw}
use Rattle.td_plan.specs.Due.{asks_rebuild, due_places, has_due, has_number, is_due, is_ready}
use Rattle.td_plan.specs.Due.{is_wanted}
use Rattle.td_plan.specs.Lines.{Words, left_line}
use Rattle.td_plan.specs.Placing.{Placing, is_place_before}
use Rattle.td_plan.specs.Plan.{WaitingAt, all_waiting, arch_names, due_sources, is_alike, left_at}
use Rattle.td_plan.specs.Plan.{left_of}
use Rattle.td_plan.specs.PlayLaws.{dw_commands, source_commands}
use Rattle.td_plan.specs.Premises.{AreSound, Premises, arch_at}
use Rattle.td_plan.specs.ReadingLaws.{command_with}
use Rattle.td_plan.specs.Reasons.{is_left, reason_of}
use Rattle.td_plan.specs.Relations.{relation_of}
use Rattle.td_plan.specs.ToldLaws.{IsLeft, IsRebuilt, IsWantedRow, OtherRowsAreInNoLine, is_nmu}
use Rattle.td_plan.specs.ToldLaws.{RebuildsAreOfDueSources, WantedRowsAreInOneLine, rebuild_of}
use Rattle.td_plan.proofs.Chosen.{filter-again, filter-found, find-has, in_order-again}
use Rattle.td_plan.proofs.Chosen.{in_order-found, in_order-permutes, map-again, map-found}
use Rattle.td_plan.proofs.Named.{named-by}

-- ---- sources

abbrev rebuilds : List CommandParts → List CommandParts
rebuilds cs = filter (λ (c : CommandParts). is_nmu c.verb) cs

-- an order to wait is no rebuild
one_waits : (b : Bool) (s : KeptSource) (archs : List (List ℕ)) (text : List ℕ)
    → rebuilds (cond b [] (command_with Dw s archs text ∷ [])) ≡ []
one_waits true s archs text = refl
one_waits false s archs text = refl

none_rebuilt : (p : Premises) (s : KeptSource) (before after : List WaitingAt)
    → rebuilds (dw_commands p s before after) ≡ []
none_rebuilt p s before [] = refl
none_rebuilt p s before (w ∷ after) =
    let told = cond (list_any (is_alike w) before) [] (command_with Dw s
    (arch_names p (map (λ (v : WaitingAt). v.place) (filter (is_alike w) (w ∷ after))))
    (relation_of w.waits) ∷ []) in
    filter-append (λ (c : CommandParts). is_nmu c.verb) told
    (dw_commands p s (before ++ w ∷ []) after)
    ∙ ap (λ (l : List CommandParts). l ++ rebuilds (dw_commands p s (before ++ w ∷ []) after))
    (one_waits (list_any (is_alike w) before) s
    (arch_names p (map (λ (v : WaitingAt). v.place) (filter (is_alike w) (w ∷ after))))
    (relation_of w.waits))
    ∙ none_rebuilt p s (before ++ w ∷ []) after

each_once : (words : Words) (x : Placing) (p : Premises) (sources : List KeptSource)
    → rebuilds (flat_map (source_commands words x p) sources) ≡ map (rebuild_of words p) sources
each_once words x p [] = refl
each_once words x p (s ∷ sources) =
    let f = source_commands words x p in
    let dws = dw_commands p s [] (all_waiting x p s) in
    ap rebuilds (flat_map-cons f s sources)
    ∙ filter-append (λ (c : CommandParts). is_nmu c.verb) (f s) (flat_map f sources)
    ∙ ap (λ (l : List CommandParts). (rebuild_of words p s ∷ l) ++ rebuilds (flat_map f sources))
    (none_rebuilt p s [] (all_waiting x p s))
    ∙ ap (λ (l : List CommandParts). rebuild_of words p s ∷ l) (each_once words x p sources)

pub rebuilds_are_of_due_sources : RebuildsAreOfDueSources
rebuilds_are_of_due_sources words p x = (
  each_once words x p (due_sources x p),
  in_order-permutes (is_place_before x) (filter (has_due p) p.archive.sources),
)

-- ---- what a source is named

pub named-kept : (p : Premises) (name : List ℕ) (s : KeptSource)
    → source_named p.archive name ≡ Some s
    → Contains p.archive.sources s × (name ≡ s.head.name)
named-kept p name s h =
    let r = find-has (λ (t : KeptSource). bytes_eq name t.head.name) p.archive.sources s h in
    (r.0, (bytes_eq-Decides name s.head.name).0 r.1)

-- ---- the name of an architecture, and its place

pub arch-named : (table : List ArchWords) (name : List ℕ) (place : ℕ)
    → place_of table name ≡ Some place → (place < length table) × (arch_at table place ≡ name)
arch-named [] name place h = absurd (let bad : None ≡ Some place = h in cc)
arch-named (a ∷ table) name place h =
    let r = position-Some (λ (w : ArchWords). bytes_eq w.name name) (a ∷ table) place a h in (
      r.0,
      ap (λ (o : Option ArchWords). option_map_or (λ (w : ArchWords). w.name) o [])
          (slice_get-get_or (a ∷ table) place a r.0)
          ∙ (bytes_eq-Decides _ name).0 r.1,
    )

pub place-named : (table : List ArchWords) (place : ℕ) → IsApart table → place < length table
    → place_of table (arch_at table place) ≡ Some place
place-named [] place apart low = absurd (omega arith)
place-named (a ∷ table) place apart low =
    let at = slice_get-get_or (a ∷ table) place a low in
    ap (λ (o : Option ArchWords). place_of (a ∷ table)
    (option_map_or (λ (w : ArchWords). w.name) o [])) at
    ∙ place_own (a ∷ table) place _ apart at

pub place-within : (n place : ℕ) → Contains (range_with_len 0 n) place → place < n
place-within n place h =
    let low = h.1 in
    let long = length-range_with_len 0 n in
    let lt : h.0 < n = omega arith in
    let is = get_or-range_with_len 0 n h.0 place lt in
    let same = h.2 in omega arith

pub place-among : (n place : ℕ) → place < n → Contains (range_with_len 0 n) place
place-among n place low =
    let long = length-range_with_len 0 n in
    let is = get_or-range_with_len 0 n place place low in (
      place,
      omega arith,
      (let e : 0 + place ≡ place = omega arith in is ∙ e),
    )

-- ---- rows that are due

rebuilt-again : (x : Placing) (p : Premises) (k : Key) (s : KeptSource) (place : ℕ)
    → source_named p.archive k.source ≡ Some s → place_of p.archive.table k.arch ≡ Some place
    → is_due p s place ≡ true → IsRebuilt x p k
rebuilt-again x p k s place named at due =
    let own = named-kept p k.source s named in
    let arch = arch-named p.archive.table k.arch place at in
    let some : has_due p s ≡ true =
    any-below (is_due p s) (length p.archive.table) place arch.0 due in
    let among = filter-again (is_due p s) (range_with_len 0 (length p.archive.table)) place
    (place-among (length p.archive.table) place arch.0) due in
    record {
      source = s;
      lined = in_order-again (is_place_before x) (filter (has_due p) p.archive.sources) s
          (filter-again (has_due p) p.archive.sources s own.0 some);
      name = sym own.1;
      arch = subst (Contains (arch_names p (due_places p s))) arch.1
          (map-again (arch_at p.archive.table) (due_places p s) place among);
    }

-- what an `nmu` line names is due
record IsDueRow (p : Premises) (k : Key) : Type 0 where
  pub source : KeptSource
  pub named : source_named p.archive k.source ≡ Some source
  pub place : ℕ
  pub at : place_of p.archive.table k.arch ≡ Some place
  pub due : is_due p source place ≡ true

rebuilt-found : (x : Placing) (p : Premises) (k : Key) → AreSound p → IsRebuilt x p k
    → IsDueRow p k
rebuilt-found x p k sound h =
    let s = h.source in
    let kept = filter-found (has_due p) p.archive.sources s
    (in_order-found (is_place_before x) (filter (has_due p) p.archive.sources) s h.lined) in
    let arch = map-found (arch_at p.archive.table) (due_places p s) k.arch h.arch in
    let due = filter-found (is_due p s) (range_with_len 0 (length p.archive.table)) arch.0 arch.1 in
    let low = place-within (length p.archive.table) arch.0 due.0 in
    record {
      source = s;
      named = ap (source_named p.archive) (sym h.name) ∙ named-by p sound s kept.0;
      place = arch.0;
      at = ap (place_of p.archive.table) (sym arch.2)
          ∙ place-named p.archive.table arch.0 sound.apart low;
      due = due.1;
    }

due-wanted : (p : Premises) (s : KeptSource) (place : ℕ) → is_due p s place ≡ true
    → is_wanted p s place ≡ true
due-wanted p s place h = (and_parts _ _ (and_parts (has_number p s) (is_ready p s place) h).1).0

-- ---- rows that are left

left-is : (p : Premises) (k : Key) (row : Row) (s : KeptSource) (place : ℕ)
    → source_named p.archive k.source ≡ Some s → place_of p.archive.table k.arch ≡ Some place
    → left_of p (k, row) ≡ left_at p k row s place
left-is p k row s place named at =
    ap (λ (o : Option KeptSource). option_and_then (λ (z : KeptSource).
    option_and_then (left_at p k row z) (place_of p.archive.table k.arch)) o) named
    ∙ ap (λ (o : Option ℕ). option_and_then (left_at p k row s) o) at

some-map : {A B : Type 0} (f : A → B) (o : Option A) → is_some o ≡ true
    → is_some (option_map f o) ≡ true
some-map f None h = absurd (let bad : false ≡ true = h in cc)
some-map f (Some v) h = refl

asked-some : (o : Option Status) → asks_rebuild o ≡ true → is_some o ≡ true
asked-some None h = absurd (let bad : false ≡ true = h in cc)
asked-some (Some v) h = refl

left-told : (p : Premises) (k : Key) (row : Row) (s : KeptSource) (place : ℕ)
    → is_wanted p s place ≡ true → is_left p s place ≡ true
    → is_some (left_at p k row s place) ≡ true
left-told p k row s place wanted left =
    let status = row_status p.archive p.tracker s place in
    let line = λ (v : Status). left_line k v row (reason_of p s place) in
    ap is_some (cond-true (is_left p s place) (option_map line status) None left)
    ∙ some-map line status (asked-some status wanted)

left-untold : (p : Premises) (k : Key) (row : Row) (s : KeptSource) (place : ℕ)
    → is_left p s place ≡ false → is_some (left_at p k row s place) ≡ false
left-untold p k row s place left =
    let status = row_status p.archive p.tracker s place in
    let line = λ (v : Status). left_line k v row (reason_of p s place) in
    ap is_some (cond-false (is_left p s place) (option_map line status) None left)

-- ---- each once

pub wanted_rows_are_in_one_line : WantedRowsAreInOneLine
wanted_rows_are_in_one_line p x k row sound there h =
    let s = h.source in let place = h.place in
    let is = left-is p k row s place h.named h.at in
    elim (cases_Bool (is_due p s place)) [
      | inl due ↦ inl (
        rebuilt-again x p k s place h.named h.at due,
        λ left.
            let none = left-untold p k row s place
            (and_right (is_wanted p s place) (not (is_due p s place))
            (not_from_true (is_due p s place) due)) in
            let bad : false ≡ true = sym none ∙ sym (ap is_some is) ∙ left in (cc),
      )
      | inr other ↦ inr (
        ap is_some is ∙ left-told p k row s place h.wanted
            (and_from (is_wanted p s place) (not (is_due p s place)) h.wanted
            (not_from_false (is_due p s place) other)),
        λ rebuilt.
            let r = rebuilt-found x p k sound rebuilt in
            let one : r.source ≡ s = some_is r.source s (sym r.named ∙ h.named) in
            let same : r.place ≡ place = some_is r.place place (sym r.at ∙ h.at) in
            let due : is_due p s place ≡ true =
            ap (λ (t : KeptSource). is_due p t place) (sym one)
            ∙ ap (is_due p r.source) (sym same) ∙ r.due in
            let bad : false ≡ true = sym other ∙ due in (cc),
      )
    ]

left-wanted : (p : Premises) (k : Key) (row : Row) (s : KeptSource) (place : ℕ)
    → is_some (left_at p k row s place) ≡ true → is_wanted p s place ≡ true
left-wanted p k row s place h = elim (cases_Bool (is_left p s place)) [
  | inl left ↦ (and_parts (is_wanted p s place) (not (is_due p s place)) left).0
  | inr other ↦ absurd (let bad : false ≡ true = sym (left-untold p k row s place other) ∙ h in cc)
]

left-found : (p : Premises) (k : Key) (row : Row) → IsLeft p k row → IsWantedRow p k
left-found p k row h = by_source (source_named p.archive k.source) refl
  where
    by_place : (s : KeptSource) → source_named p.archive k.source ≡ Some s → (o : Option ℕ)
        → place_of p.archive.table k.arch ≡ o → IsWantedRow p k
    by_place s named None at =
        let none : left_of p (k, row) ≡ None =
        ap (λ (o : Option KeptSource). option_and_then (λ (z : KeptSource).
        option_and_then (left_at p k row z) (place_of p.archive.table k.arch)) o) named
        ∙ ap (λ (o : Option ℕ). option_and_then (left_at p k row s) o) at in
        absurd (let bad : false ≡ true = sym (ap is_some none) ∙ h in cc)
    by_place s named (Some place) at = record {
      source = s;
      named = named;
      place = place;
      at = at;
      wanted = left-wanted p k row s place
          (sym (ap is_some (left-is p k row s place named at)) ∙ h);
    }

    by_source : (o : Option KeptSource) → source_named p.archive k.source ≡ o → IsWantedRow p k
    by_source None named =
        let none : left_of p (k, row) ≡ None =
        ap (λ (o : Option KeptSource). option_and_then (λ (z : KeptSource).
        option_and_then (left_at p k row z) (place_of p.archive.table k.arch)) o) named in
        absurd (let bad : false ≡ true = sym (ap is_some none) ∙ h in cc)
    by_source (Some s) named = by_place s named (place_of p.archive.table k.arch) refl

pub other_rows_are_in_no_line : OtherRowsAreInNoLine
other_rows_are_in_no_line p x k row sound (inl rebuilt) =
    let r = rebuilt-found x p k sound rebuilt in
    record {
      source = r.source;
      named = r.named;
      place = r.place;
      at = r.at;
      wanted = due-wanted p r.source r.place r.due;
    }
other_rows_are_in_no_line p x k row sound (inr left) = left-found p k row left
