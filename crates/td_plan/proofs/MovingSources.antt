-- The sources that move, as the affected sources have them.
use Rattle.std.proofs.Common.{◌≡◌, ℕ, zero, suc, ◌+◌, ◌<◌, ◌||◌, Bool, true, false}
use Rattle.std.proofs.Common.{cond, List, [], ◌∷◌, length, map, Option, Some, None, refl}
use Rattle.std.proofs.Common.{sym}
use Rattle.std.proofs.Common.{ap, subst, ◌∙◌, inl, inr, arith}
use Rattle.std.specs.Prelude.{filter, is_some, slice_get}
use Rattle.std.specs.List.{Contains, list_any, range_with_len}
use Rattle.std.specs.Option.{option_map_or}
use Rattle.std.proofs.lemmas.Bool.{and_parts, cases_Bool, false≢true, or_cases}
use Rattle.std.proofs.lemmas.List.FromFn.{get_or-map-range_with_len, length-map-range_with_len}
use Rattle.std.proofs.lemmas.List.{same_lists}
use Rattle.std.proofs.lemmas.Option.{get_or_from_slice_get, same_Some}
use Rattle.td_indices.specs.Archive.{number_named}
use Rattle.td_indices.specs.Sources.{KeptSource}
use Rattle.td_indices.proofs.OfferLaws.{has_cases, has_first, has_more}
use Rattle.td_query.specs.declared.status.Status.{Status}
use Rattle.td_query.specs.Statuses.{is_affected, row_status}
use Rattle.td_plan.specs.declared.due.Motion.{Motion}
use Rattle.td_plan.specs.declared.due.Motion.TheVariants.{Due, Pending, Still}
use Rattle.td_plan.specs.declared.due.Motions.{Motions}
use Rattle.td_plan.specs.declared.movers.Mover.{Mover}
use Rattle.td_plan.specs.Due.{arrival_number, asks_rebuild, due_places, has_due, has_number, is_due}
use Rattle.td_plan.specs.Due.{is_moving, is_pending, is_ready, is_wanted, moves}
use Rattle.td_plan.specs.Premises.{AreSound, Premises, places}
use Rattle.td_plan.specs.Waits.{awaited, is_source_before, moving_sources}
use Rattle.td_plan.specs.inner.Motions.{AreMotions, motion_at}
use Rattle.td_plan.specs.inner.Movers.{AreMovers, has_due_motion, has_moving_motion}
use Rattle.td_plan.specs.inner.Movers.{is_due_motion, is_moving_motion}
use Rattle.td_plan.specs.inner.Waiters.{awaited_among, is_awaited, kept_of}
use Rattle.td_plan.proofs.Asked.{moving-is}
use Rattle.td_plan.proofs.Chosen.{any-again, any-found, in_order-again, in_order-found, map-again}
use Rattle.td_plan.proofs.Chosen.{map-found}
use Rattle.td_plan.proofs.Existing.{filter-has, has-filter, range-has}
use Rattle.td_plan.proofs.Picked.{has-numbered, numbered-has}
use Rattle.td_plan.proofs.Picking.{filter-below}
use Rattle.td_plan.proofs.Rising.{AnyWay, Rising, any-way-filter, any-way-from}
use Rattle.td_plan.proofs.Rising.{before-any}
use Rattle.td_plan.proofs.Rising.{before-once, before-trans, order-rises, rising-filter}
use Rattle.td_plan.proofs.Rising.{rising-from}
use Rattle.td_plan.proofs.Rising.{rising-map, rising-same}

-- ---- 1. motions

due-is : (due pending : Bool) (n : ℕ)
    → is_due_motion (cond due Due (cond pending (Pending n) Still)) ≡ due
due-is true pending n = refl
due-is false true n = refl
due-is false false n = refl

any-map : {A B : Type 0} (test : B → Bool) (f : A → B) (xs : List A)
    → list_any test (map f xs) ≡ list_any (λ x. test (f x)) xs
any-map test f [] = refl
any-map test f (x ∷ xs) = ap (λ (b : Bool). test (f x) || b) (any-map test f xs)

any-alike : {A : Type 0} (f g : A → Bool) (xs : List A) → ((x : A) → f x ≡ g x)
    → list_any f xs ≡ list_any g xs
any-alike f g xs same = ap (λ (h : _ → Bool). list_any h xs) (λ i x. same x i)

module _ (p : Premises) (s : KeptSource) (m : Motions) (are : AreMotions p s m) where
  motions-are : m.at.items ≡ map (motion_at p s) (places p)
  motions-are =
      same_lists m.at.items (map (motion_at p s) (places p))
      (are.len ∙ sym (length-map-range_with_len (motion_at p s) 0 (length p.archive.table)))
      (λ k d low.
      let within : k < length p.archive.table = omega (arith, are.len, low) in
      get_or_from_slice_get m.at.items k (motion_at p s k) d (are.at k within)
      ∙ sym (get_or-map-range_with_len (motion_at p s) 0 (length p.archive.table) k k d
      within (omega arith)))

  pub moving-motions : list_any is_moving_motion m.at.items ≡ moves p s
  moving-motions =
      ap (list_any is_moving_motion) motions-are
      ∙ any-map is_moving_motion (motion_at p s) (places p)
      ∙ any-alike (λ k. is_moving_motion (motion_at p s k)) (is_moving p s) (places p)
      (λ k. moving-is (is_due p s k) (is_pending p s k) (arrival_number p s k))

  pub due-motions : list_any is_due_motion m.at.items ≡ has_due p s
  due-motions =
      ap (list_any is_due_motion) motions-are
      ∙ any-map is_due_motion (motion_at p s) (places p)
      ∙ any-alike (λ k. is_due_motion (motion_at p s k)) (is_due p s) (places p)
      (λ k. due-is (is_due p s k) (is_pending p s k) (arrival_number p s k))

  pub due-at : (k : ℕ) → k < length p.archive.table
      → option_map_or is_due_motion (slice_get m.at.items k) false ≡ is_due p s k
  due-at k low =
      ap (λ (o : Option Motion). option_map_or is_due_motion o false) (are.at k low)
      ∙ due-is (is_due p s k) (is_pending p s k) (arrival_number p s k)

  pub due-places-are : filter (λ k. option_map_or is_due_motion (slice_get m.at.items k) false)
      (range_with_len 0 (length p.archive.table)) ≡ due_places p s
  due-places-are = filter-below
      (λ k. option_map_or is_due_motion (slice_get m.at.items k) false) (is_due p s)
      (length p.archive.table) due-at

-- ---- 2. what moves is affected

asked-some : (o : Option Status) → asks_rebuild o ≡ true → is_some o ≡ true
asked-some None asks = absurd (false≢true asks)
asked-some (Some status) asks = refl

wanted-affected : (p : Premises) (s : KeptSource) (place : ℕ) → place < length p.archive.table
    → is_wanted p s place ≡ true → is_affected p.archive p.tracker s ≡ true
wanted-affected p s place low wanted =
    any-again (λ k. is_some (row_status p.archive p.tracker s k))
    (range_with_len 0 (length p.archive.table)) place
    (range-has (length p.archive.table) place low)
    (asked-some (row_status p.archive p.tracker s place) wanted)

due-wanted : (p : Premises) (s : KeptSource) (place : ℕ) → is_due p s place ≡ true
    → is_wanted p s place ≡ true
due-wanted p s place due =
    (and_parts (is_wanted p s place) _
    (and_parts (has_number p s) (is_ready p s place) due).1).0

pub moving-affected : (p : Premises) (s : KeptSource) (place : ℕ)
    → place < length p.archive.table → is_moving p s place ≡ true
    → is_affected p.archive p.tracker s ≡ true
moving-affected p s place low moving = wanted-affected p s place low
    (elim (or_cases (is_due p s place) (is_pending p s place) moving) [
      | inl due ↦ due-wanted p s place due
      | inr pending ↦ (and_parts (is_wanted p s place) _ pending).0
    ])

range-below : (a n k : ℕ) → Contains (range_with_len a n) k → k < a + n
range-below a zero k has = absurd (let low = has.1 in omega arith)
range-below a (suc n) k has = elim (has_cases a (range_with_len (a + 1) n) k has) [
  | inl same ↦ omega arith
  | inr later ↦ (let low = range-below (a + 1) n k later in omega arith)
]

pub moves-affected : (p : Premises) (s : KeptSource) → moves p s ≡ true
    → is_affected p.archive p.tracker s ≡ true
moves-affected p s is =
    let found = any-found (is_moving p s) (places p) is in
    let low : found.0 < length p.archive.table =
    (let below = range-below 0 (length p.archive.table) found.0 found.1 in omega arith) in
    moving-affected p s found.0 low found.2

-- ---- 3. the sources that move

module _ (p : Premises) (sound : AreSound p) (ms : List Mover) (are : AreMovers p ms) where
  pub mover-has : (k : ℕ) (m : Mover) → slice_get ms k ≡ Some m
      → Contains p.archive.sources (kept_of m)
  mover-has k m at = numbered-has p.archive.sources m.number (kept_of m) (are.each k m at).at

  pub mover-moving : (k : ℕ) (m : Mover) → slice_get ms k ≡ Some m
      → has_moving_motion m ≡ moves p (kept_of m)
  mover-moving k m at = moving-motions p (kept_of m) m.motions (are.each k m at).motions

  pub mover-due : (k : ℕ) (m : Mover) → slice_get ms k ≡ Some m
      → has_due_motion m ≡ has_due p (kept_of m)
  mover-due k m at = due-motions p (kept_of m) m.motions (are.each k m at).motions

  pub mover-for : (s : KeptSource) → Contains p.archive.sources s → moves p s ≡ true
      → (k : ℕ) × (m : Mover) × (slice_get ms k ≡ Some m) × (kept_of m ≡ s)
  mover-for s has is = are.all s has (moves-affected p s is)

  -- sources at different places have different names
  pub sources-any : AnyWay is_source_before p.archive.sources
  sources-any = any-way-from is_source_before p.archive.sources (λ j k s t low left right.
      before-any s.head.name t.head.name (λ same.
      let one : j ≡ k = same_Some j k (sym (sound.numbered j s left)
      ∙ ap (number_named p.archive) same ∙ sound.numbered k t right) in
      omega arith))

  pub movers-rise : Rising is_source_before (map kept_of ms)
  movers-rise = rising-map is_source_before kept_of ms
      (rising-from (λ m n. is_source_before (kept_of m) (kept_of n)) ms
      (λ j k m n low left right. are.rising j k m n low left right))

  moving-rise : Rising is_source_before (map kept_of (filter has_moving_motion ms))
  moving-rise = rising-map is_source_before kept_of (filter has_moving_motion ms)
      (rising-filter (λ m n. is_source_before (kept_of m) (kept_of n)) has_moving_motion ms
      (rising-from (λ m n. is_source_before (kept_of m) (kept_of n)) ms
      (λ j k m n low left right. are.rising j k m n low left right)))

  pub moving-are : moving_sources p ≡ map kept_of (filter has_moving_motion ms)
  moving-are = rising-same is_source_before (moving_sources p)
      (map kept_of (filter has_moving_motion ms))
      (λ s t has low back. before-once s.head.name t.head.name low back)
      (order-rises is_source_before
      (λ s t u. before-trans s.head.name t.head.name u.head.name)
      (filter (moves p) p.archive.sources)
      (any-way-filter is_source_before (moves p) p.archive.sources sources-any))
      moving-rise
      (λ s has.
      let of = has-filter (moves p) p.archive.sources s
      (in_order-found is_source_before (filter (moves p) p.archive.sources) s has) in
      let m = mover-for s of.0 of.1 in
      let moving : has_moving_motion m.1 ≡ true =
      mover-moving m.0 m.1 m.2 ∙ ap (moves p) m.3 ∙ of.1 in
      subst (Contains (map kept_of (filter has_moving_motion ms))) m.3
      (map-again kept_of (filter has_moving_motion ms) m.1
      (filter-has has_moving_motion ms m.1 (numbered-has ms m.0 m.1 m.2) moving)))
      (λ s has.
      let m = map-found kept_of (filter has_moving_motion ms) s has in
      let of = has-filter has_moving_motion ms m.0 m.1 in
      let k = has-numbered ms m.0 of.0 in
      let is : moves p s ≡ true =
      ap (moves p) (sym m.2) ∙ sym (mover-moving k.0 m.0 k.1) ∙ of.1 in
      in_order-again is_source_before (filter (moves p) p.archive.sources) s
      (filter-has (moves p) p.archive.sources s
      (subst (Contains p.archive.sources) m.2 (mover-has k.0 m.0 k.1)) is))

  -- if what passes moves, those that don't move may be left in
  filter-moving : (test : KeptSource → Bool) (ns : List Mover)
      → ((m : Mover) → Contains ns m → test (kept_of m) ≡ true → has_moving_motion m ≡ true)
      → filter test (map kept_of (filter has_moving_motion ns)) ≡ filter test (map kept_of ns)
  filter-moving test [] h = refl
  filter-moving test (m ∷ ns) h =
      by (has_moving_motion m) refl
      (filter-moving test ns (λ n has. h n (has_more m ns n has)))
    where
      by : (b : Bool) → has_moving_motion m ≡ b
          → filter test (map kept_of (filter has_moving_motion ns)) ≡ filter test (map kept_of ns)
          → filter test (map kept_of (cond b (m ∷ filter has_moving_motion ns)
          (filter has_moving_motion ns)))
          ≡ filter test (kept_of m ∷ map kept_of ns)
      by true is rest = ap (λ (l : List KeptSource). cond (test (kept_of m)) (kept_of m ∷ l) l) rest
      by false is rest =
          let fails : test (kept_of m) ≡ false = elim (cases_Bool (test (kept_of m))) [
            | inl passes ↦ absurd (false≢true (sym is ∙ h m (has_first m ns) passes))
            | inr other ↦ other
          ] in
          rest ∙ sym (ap (λ (b : Bool). cond b (kept_of m ∷ filter test (map kept_of ns))
          (filter test (map kept_of ns))) fails)

  pub awaited-are : (beside : KeptSource → Bool) (s : KeptSource) (place : ℕ)
      → place < length p.archive.table
      → awaited beside p s place ≡ awaited_among p beside s place (map kept_of ms)
  awaited-are beside s place low =
      ap (filter (is_awaited p beside s place)) moving-are
      ∙ filter-moving (is_awaited p beside s place) ms (λ m has awaits.
      let k = has-numbered ms m has in
      let moving = (and_parts (is_moving p (kept_of m) place) _ awaits).0 in
      mover-moving k.0 m k.1 ∙ any-again (is_moving p (kept_of m)) (places p) place
      (range-has (length p.archive.table) place low) moving)
