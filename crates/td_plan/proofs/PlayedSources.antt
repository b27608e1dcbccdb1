-- The commands of a source: they rebuild its due rows under its number, and let those wait that are
-- to.
use Rattle.std.proofs.Common.{◌≡◌, ℕ, ◌<◌, ◌==◌, ◌&&◌, ◌||◌, eqb, nat_lt, Bool, true, false, List}
use Rattle.std.proofs.Common.{[]}
use Rattle.std.proofs.Common.{length, map, Option, Some, None, refl, sym, ap, subst, ◌∙◌}
use Rattle.std.proofs.Common.{inl, inr}
use Rattle.std.specs.Prelude.{Ok, codes, filter, if◌then◌else◌, nat_le, unwrap_or}
use Rattle.std.specs.List.{Contains}
use Rattle.std.specs.Option.{option_map_or}
use Rattle.std.specs.Ordering.{is_eq}
use Rattle.std.specs.Str.{bytes_eq}
use Rattle.std.proofs.lemmas.Bool.{and_from, and_parts, cases_Bool, cond-false, cond-true}
use Rattle.std.proofs.lemmas.Bool.{false_from_ne_true}
use Rattle.std.proofs.lemmas.Bool.{false≢true, le-leb, lt-ltb, or_left, or_parts}
use Rattle.std.proofs.lemmas.Cmp.{tied_itself}
use Rattle.std.proofs.lemmas.Slice.Eq.{bytes_eq-Decides}
use Rattle.td_text.specs.Chain.{◌>>=◌}
use Rattle.td_text.specs.Cut.{strip}
use Rattle.td_text.specs.Limits.{max_rebuild}
use Rattle.td_text.specs.Numbers.{number_at}
use Rattle.td_text.proofs.Chain.{chained, some_is, when_none}
use Rattle.td_version.specs.Reading.{cut_last, reading}
use Rattle.td_version.specs.Splitting.{rebuild_at}
use Rattle.td_version.proofs.Total.{version_total}
use Rattle.td_relation.specs.Table.{place_of}
use Rattle.td_rows.specs.declared.key.Key.{Key}
use Rattle.td_rows.specs.declared.row.Row.{Row}
use Rattle.td_rows.specs.declared.kind.Kind.TheVariants as kinds
use Rattle.td_rows.specs.Meaning.{applies}
use Rattle.td_rows.specs.States.{is_installed}
use Rattle.td_rows.specs.Table.{row_of}
use Rattle.td_indices.specs.Archive.{source_named}
use Rattle.td_indices.specs.Opening.{current_numbers}
use Rattle.td_indices.specs.Sources.{KeptSource}
use Rattle.td_indices.proofs.OfferLaws.{has_again}
use Rattle.td_wbread.specs.Command.{CommandParts}
use Rattle.td_wbread.specs.Naming.{is_base, is_matched, is_numbered, is_rebuild_of, version_matches}
use Rattle.td_wbread.specs.declared.command.Verb.{Verb}
use Rattle.td_wbread.specs.declared.command.Verb.TheVariants.{Dw, Nmu}
use Rattle.td_plan.specs.Due.{due_places, has_due, has_number, is_due, is_ready, number_of}
use Rattle.td_plan.specs.Lines.{Words}
use Rattle.td_plan.specs.Numbers.{numbers_at}
use Rattle.td_plan.specs.Placing.{Placing}
use Rattle.td_plan.specs.Plan.{WaitingAt, all_waiting, arch_names, is_beside, is_waiting}
use Rattle.td_plan.specs.Plan.{waiting_at}
use Rattle.td_plan.specs.PlayLaws.{dw_commands, planned_at, row_with, source_commands}
use Rattle.td_plan.specs.Premises.{AreSound, Premises, arch_at, key_at, places, row_at}
use Rattle.td_plan.specs.ReadingLaws.{command_with, package_of}
use Rattle.td_plan.specs.Relations.{relation_of}
use Rattle.td_plan.specs.Waits.{Wait, waits_of}
use Rattle.td_plan.proofs.AlwaysWaited.{row-number}
use Rattle.td_plan.proofs.Chosen.{any-found, filter-again, filter-found, map-again, map-found}
use Rattle.td_plan.proofs.DueRows.{due_rows_are_exact}
use Rattle.td_plan.proofs.Existing.{any-some, some-any}
use Rattle.td_plan.proofs.LeastNumbers.{numbers_are_least}
use Rattle.td_plan.proofs.Named.{named-by}
use Rattle.td_plan.proofs.Played.{AllName, Goes, Unnamed, after, goes-by, is_for, matches}
use Rattle.td_plan.proofs.PlayedWaits.{all-named, is_mine, is_mine_at, other-source, others-unnamed}
use Rattle.td_plan.proofs.PlayedWaits.{own-source, told-before, told-once}
use Rattle.td_plan.proofs.ToldOnce.{arch-named, place-among, place-named, place-within}

-- ---- 1. the version that a command names

-- a rebuild that a version ends in has a number above 0
rebuild-above : (text : List ℕ) (q : List ℕ × ℕ) → rebuild_at text ≡ Some q → (q.1 == 0) ≡ false
unfolding rebuild_at
rebuild-above text q e =
    let numbered : List ℕ → ℕ → Option (List ℕ × ℕ) =
    λ base n. if (length base == 0) || (n == 0) then None else Some (base, n) in
    let p = chained (cut_last 43 text)
    (λ x. strip (codes "b") x.1 >>= (λ d. number_at max_rebuild d >>= numbered x.0)) q e in
    let digits = chained (strip (codes "b") p.0.1)
    (λ d. number_at max_rebuild d >>= numbered p.0.0) q p.2 in
    let value = chained (number_at max_rebuild digits.0) (numbered p.0.0) q digits.2 in
    let tested = when_none ((eqb (length p.0.0) 0) || (eqb value.0 0)) (Some (p.0.0, value.0)) q
    value.2 in
    let some = or_parts (eqb (length p.0.0) 0) (eqb value.0 0) tested.0 in
    let same = some_is (p.0.0, value.0) q tested.1 in
    ap (λ (r : List ℕ × ℕ). r.1 == 0) (sym same) ∙ some.1

-- the version of a source as a command names it matches each row of the source
version-fits : (s : KeptSource) (number : ℕ) → reading s.head.version ≡ Ok s.head.parts
    → version_matches s.head.parts number (package_of s).version ≡ true
version-fits s number read = by (rebuild_at s.head.version) refl
  where
    by : (o : Option (List ℕ × ℕ)) → rebuild_at s.head.version ≡ o
        → version_matches s.head.parts number (package_of s).version ≡ true
    by None is =
        ap (λ (o : Option (List ℕ × ℕ)). version_matches s.head.parts number
        (if option_map_or (λ (q : List ℕ × ℕ). q.1) o 0 == 0 then Some s.head.version else None)) is
        ∙ ap (λ (o : Option (List ℕ × ℕ)). is_rebuild_of s.head.parts number
        (unwrap_or o (s.head.version, 0))) is
        ∙ and_from (is_base s.head.parts (reading s.head.version)) (is_numbered 0 number)
        (ap (is_base s.head.parts) read
        ∙ ap is_eq (tied_itself version_total s.head.parts)) refl
    by (Some q) is =
        ap (λ (o : Option (List ℕ × ℕ)). version_matches s.head.parts number
        (if option_map_or (λ (q : List ℕ × ℕ). q.1) o 0 == 0 then Some s.head.version else None)) is
        ∙ ap (λ (b : Bool). version_matches s.head.parts number
        (if b then Some s.head.version else None)) (rebuild-above s.head.version q is)

-- ---- 2. the commands of one source

module _ (p : Premises) (sound : AreSound p) (s : KeptSource) (has : Contains p.archive.sources s)
  where
    -- the version of the source's rows matches
    pub all-match : (k : Key) → s.head.name ≡ k.source → reading s.head.version ≡ Ok s.head.parts
        → (verb : Verb) (archs : List (List ℕ)) (text : List ℕ) (row : Row)
        → matches p (command_with verb s archs text) k row ≡ true
    all-match k own read verb archs text row =
        let c = command_with verb s archs text in
        let named : source_named p.archive k.source ≡ Some s =
        ap (source_named p.archive) (sym own) ∙ named-by p sound s has in
        ap (λ (o : Option KeptSource). option_map_or (λ (t : KeptSource).
        is_matched c k.source t.head.parts row.number) o false) named
        ∙ or_left (bytes_eq s.head.name k.source
        && version_matches s.head.parts row.number (package_of s).version) false
        (and_from (bytes_eq s.head.name k.source)
        (version_matches s.head.parts row.number (package_of s).version)
        ((bytes_eq-Decides s.head.name k.source).1 own) (version-fits s row.number read))

    -- a row that is due has a lower number, so that the rebuild applies
    due-applies : (place : ℕ) (row : Row) (extra text : List ℕ) → place < length p.archive.table
        → is_due p s place ≡ true → row_at p s place ≡ Some row
        → applies (kinds.Nmu (Some (number_of p s)) extra text) row ≡ true
    due-applies place row extra text low due at =
        let d = (due_rows_are_exact p s place).0 due in
        let same : d.row ≡ row = some_is d.row row (sym d.there ∙ at) in
        let among : Contains (filter (is_ready p s) (places p)) place =
        filter-again (is_ready p s) (places p) place
        (place-among (length p.archive.table) place low)
        (and-right due) in
        let number = (numbers_are_least (is_ready p s) p s).0.rebuilt row.number
        (has_again (numbers_at p s) (filter (is_ready p s) (places p)) place row.number among
        (row-number (row_at p s place) row (current_numbers p.archive s place) at)) in
        and_from (is_installed row.state)
        (nat_lt row.number (number_of p s) && nat_le (number_of p s) max_rebuild)
        (ap (λ (r : Row). is_installed r.state) (sym same) ∙ ap is_installed d.installed)
        (and_from (nat_lt row.number (number_of p s)) (nat_le (number_of p s) max_rebuild)
        (lt-ltb row.number (number_of p s) number) (le-leb (number_of p s) max_rebuild d.left))
      where
        and-right : is_due p s place ≡ true → is_ready p s place ≡ true
        and-right h = (and_parts (has_number p s) (is_ready p s place) h).1

    -- a due place is one of the table
    pub due-there : (place : ℕ) → Contains (due_places p s) place
        → (place < length p.archive.table) × (is_due p s place ≡ true)
    due-there place mine =
        let kept = filter-found (is_due p s) (places p) place mine in
        (place-within (length p.archive.table) place kept.0, kept.1)

    -- what waits is due
    waiting-due : (x : Placing) (w : WaitingAt) → Contains (all_waiting x p s) w
        → (place : ℕ) × Contains (due_places p s) place × (waiting_at x p s place ≡ w)
        × (is_waiting w ≡ true)
    waiting-due x w mine =
        let kept = filter-found is_waiting (map (waiting_at x p s) (due_places p s)) w mine in
        let made = map-found (waiting_at x p s) (due_places p s) w kept.0 in
        (made.0, made.1, made.2, kept.1)

    -- each command of the source names a row
    pub source-named-all : (words : Words) (x : Placing) → has_due p s ≡ true
        → AllName p.rows (source_commands words x p s)
    source-named-all words x some =
        let found = any-found (is_due p s) (places p) some in
        let place = found.0 in
        let d = (due_rows_are_exact p s place).0 found.2 in
        let due = filter-again (is_due p s) (places p) place found.1 found.2 in (
          record {
            key = key_at p s place;
            row = d.row;
            there = d.there;
            named = own-source p s (key_at p s place) (Nmu (Some (number_of p s))) (due_places p s)
                words.message refl
                ∙ some-any (is_mine_at p (key_at p s place)) (due_places p s) place due
                ((bytes_eq-Decides (arch_at p.archive.table place)
                (arch_at p.archive.table place)).1 refl);
          },
          all-named p s [] (all_waiting x p s) (λ w mine.
              let of = waiting-due x w mine in
              let its = (due_rows_are_exact p s of.0).0 (due-there of.0 of.1).1 in
              (its.row, ap (λ (v : WaitingAt). row_at p s v.place) (sym of.2) ∙ its.there)),
        )

-- ---- 3. the row of a key after the commands of a source

-- a row that isn't due stays
pub rests-at : (x : Placing) (p : Premises) (s : KeptSource) (place : ℕ) (row : Row)
    → is_due p s place ≡ false → planned_at x p s place row ≡ row
rests-at x p s place row other =
    let waits = waits_of (is_beside x s) p s place in
    cond-false (is_due p s place) (row_with row (number_of p s)
    (if nat_lt 0 (length waits) then relation_of waits else []) (nat_lt 0 (length waits))) row other

-- the commands of another source name no row of the key's
pub other-unnamed : (words : Words) (x : Placing) (p : Premises) (s : KeptSource) (k : Key)
    → bytes_eq s.head.name k.source ≡ false → Unnamed k (source_commands words x p s)
other-unnamed words x p s k other = (
  other-source s k (Nmu (Some (number_of p s))) (arch_names p (due_places p s)) words.message other,
  others-unnamed p s k [] (all_waiting x p s) other,
)

module _ (words : Words) (x : Placing) (p : Premises) (sound : AreSound p) (s : KeptSource)
    (has : Contains p.archive.sources s) (read : reading s.head.version ≡ Ok s.head.parts) (k : Key)
    (own : s.head.name ≡ k.source) where
  abbrev rebuild : CommandParts
  rebuild = command_with (Nmu (Some (number_of p s))) s (arch_names p (due_places p s))
      words.message

  -- a due place whose architecture is the key's is the key's place
  is-place : (place : ℕ) → Contains (due_places p s) place → is_mine_at p k place ≡ true
      → place_of p.archive.table k.arch ≡ Some place
  is-place place due mine =
      ap (place_of p.archive.table)
      (sym ((bytes_eq-Decides (arch_at p.archive.table place) k.arch).0 mine))
      ∙ place-named p.archive.table place sound.apart (due-there p sound s has place due).0

  -- a key whose place isn't due isn't named
  left-alone : ((place : ℕ) → place_of p.archive.table k.arch ≡ Some place
      → is_due p s place ≡ false) → Unnamed k (source_commands words x p s)
  left-alone none = (
    false_from_ne_true (is_for rebuild k) (λ named.
        let found = any-some (is_mine_at p k) (due_places p s)
        (sym (own-source p s k (Nmu (Some (number_of p s))) (due_places p s) words.message own)
        ∙ named) in
        false≢true (sym (none found.0 (is-place found.0 found.1 found.2))
        ∙ (due-there p sound s has found.0 found.1).1)),
    told-before p s k own [] (all_waiting x p s) (λ w there mine.
        let of = waiting-due p sound s has x w there in
        let at = is-place of.0 of.1
        (ap (λ (v : WaitingAt). is_mine p k v) of.2 ∙ mine) in
        absurd (false≢true (sym (none of.0 at) ∙ (due-there p sound s has of.0 of.1).1))),
  )

  module _ (place : ℕ) (at : place_of p.archive.table k.arch ≡ Some place)
      (due : is_due p s place ≡ true) where
    abbrev number : ℕ
    number = number_of p s

    abbrev waits : List Wait
    waits = waits_of (is_beside x s) p s place

    abbrev mine : WaitingAt
    mine = waiting_at x p s place

    low : place < length p.archive.table
    low = (arch-named p.archive.table k.arch place at).0

    among : Contains (due_places p s) place
    among = filter-again (is_due p s) (places p) place
        (place-among (length p.archive.table) place low) due

    here : is_mine_at p k place ≡ true
    here = (bytes_eq-Decides (arch_at p.archive.table place) k.arch).1
        (arch-named p.archive.table k.arch place at).1

    named : is_for rebuild k ≡ true
    named =
        own-source p s k (Nmu (Some number)) (due_places p s) words.message own
        ∙ some-any (is_mine_at p k) (due_places p s) place among here

    -- what waits on the key's architecture waits at its place
    only-mine : (w : WaitingAt) → Contains (all_waiting x p s) w → is_mine p k w ≡ true
        → (w ≡ mine) × (is_waiting mine ≡ true)
    only-mine w there is =
        let of = waiting-due p sound s has x w there in
        let its = is-place of.0 of.1 (ap (λ (v : WaitingAt). is_mine p k v) of.2 ∙ is) in
        let same : of.0 ≡ place = some_is of.0 place (sym its ∙ at) in
        let one : w ≡ mine = sym of.2 ∙ ap (waiting_at x p s) same in
        (one, ap is_waiting (sym one) ∙ of.3)

    row-there : (row : Row) → row_of p.rows k ≡ Some row → row_at p s place ≡ Some row
    row-there row is =
        let same : key_at p s place ≡ k =
        (let arch = (arch-named p.archive.table k.arch place at).1 in
        λ i. record { source = own i; arch = arch i }) in
        ap (row_of p.rows) same ∙ is

    -- the rebuilt row waits, if it is to
    waits-or-not : (row : Row) (b : Bool) → is_waiting mine ≡ b
        → Goes p (dw_commands p s [] (all_waiting x p s)) k (row_with row number [] false)
        (row_with row number (if b then relation_of waits else []) b)
    waits-or-not row true is = told-once p s k own (all-match p sound s has k own read Dw) mine here
        [] (all_waiting x p s) (row_with row number [] false) refl
        (filter-again is_waiting (map (waiting_at x p s) (due_places p s)) mine
        (map-again (waiting_at x p s) (due_places p s) place among) is)
        (λ v there mine-too.
        ap (λ (w : WaitingAt). relation_of w.waits) (only-mine v there mine-too).0) refl
    waits-or-not row false is = goes-by p (dw_commands p s [] (all_waiting x p s)) k
        (row_with row number [] false)
        (told-before p s k own [] (all_waiting x p s) (λ w there mine-too.
        absurd (false≢true (sym is ∙ (only-mine w there mine-too).1))))

    rebuilt : (row : Row) → row_of p.rows k ≡ Some row
        → Goes p (source_commands words x p s) k row (planned_at x p s place row)
    rebuilt row is =
        let b = nat_lt 0 (length waits) in
        let new = row_with row number (if b then relation_of waits else []) b in
        let commands = dw_commands p s [] (all_waiting x p s) in
        let first : after rebuild k row ≡ row_with row number [] false =
        cond-true (is_for rebuild k) (row_with row number [] false) row named in
        let end : planned_at x p s place row ≡ new = cond-true (is_due p s place) new row due in (
          (λ _. (
            all-match p sound s has k own read (Nmu (Some number)) (arch_names p (due_places p s))
                words.message row,
            due-applies p sound s has place row [] words.message low due (row-there row is),
          )),
          subst (λ (r : Row). Goes p commands k r (planned_at x p s place row)) (sym first)
              (subst (Goes p commands k (row_with row number [] false)) (sym end)
              (waits-or-not row b refl)),
        )

  abbrev end : Row → Option ℕ → Row
  end row o = option_map_or (λ place. planned_at x p s place row) o row

  -- the row of a key of the source after the source's commands
  pub source-goes : (row : Row) → row_of p.rows k ≡ Some row
      → Goes p (source_commands words x p s) k row
      (option_map_or (λ place. planned_at x p s place row) (place_of p.archive.table k.arch) row)
  source-goes row is = by (place_of p.archive.table k.arch) refl
    where
      by : (o : Option ℕ) → place_of p.archive.table k.arch ≡ o
          → Goes p (source_commands words x p s) k row (end row (place_of p.archive.table k.arch))
      by None at = subst (Goes p (source_commands words x p s) k row) (sym (ap (end row) at))
          (goes-by p (source_commands words x p s) k row (left-alone (λ place there.
          absurd (let bad : None ≡ Some place = sym at ∙ there in cc))))
      by (Some place) at = subst (Goes p (source_commands words x p s) k row)
          (sym (ap (end row) at))
          (elim (cases_Bool (is_due p s place)) [
            | inl due ↦ rebuilt place at due row is
            | inr other ↦ subst (Goes p (source_commands words x p s) k row)
                (sym (rests-at x p s place row other))
                (goes-by p (source_commands words x p s) k row (left-alone (λ q there.
                ap (is_due p s) (some_is q place (sym there ∙ at)) ∙ other)))
          ])
