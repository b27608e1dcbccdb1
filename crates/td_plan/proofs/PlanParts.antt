-- The parts of what sources ask for are those of the sources that move, or that are affected.
use Rattle.std.proofs.Common.{◌≡◌, ◌↔◌, ℕ, ◌<◌, ◌≤◌, ◌&&◌, true, false}
use Rattle.std.proofs.Common.{List, [], ◌∷◌, length, map, Option, Some, refl, sym, ap}
use Rattle.std.proofs.Common.{subst, ◌∙◌, inl, inr, arith}
use Rattle.std.specs.Prelude.{filter, slice_get, slice_index, slice_index_or}
use Rattle.std.specs.Global.{Vec}
use Rattle.std.specs.List.{All, Contains}
use Rattle.std.specs.Option.{option_map_or}
use Rattle.std.specs.Str.{bytes_eq}
use Rattle.std.proofs.lemmas.Bool.{and_parts, cases_Bool, cases_lt, cases_order, false≢true}
use Rattle.std.proofs.lemmas.List.{get_or-map, get_or_default, get_or_past, length-map}
use Rattle.std.proofs.lemmas.Option.{get_or_from_slice_get, slice_get_within}
use Rattle.std.proofs.lemmas.Slice.Eq.{bytes_eq-Decides}
use Rattle.td_text.proofs.Chain.{some_is}
use Rattle.td_indices.specs.Archive.{Contents}
use Rattle.td_indices.specs.Sources.{KeptSource}
use Rattle.td_indices.proofs.OfferLaws.{has_again, has_found}
use Rattle.td_query.specs.Statuses.{affected_names, is_affected}
use Rattle.td_query.specs.Tracking.{Tracking}
use Rattle.td_waves.specs.Graph.{BuildsOn, IsNode, bases_of}
use Rattle.td_waves.specs.Waves as waves
use Rattle.td_waves.proofs.Along.{StandFor}
use Rattle.td_report.specs.Transition.{IsAffected}
use Rattle.td_plan.specs.declared.asks.Ask.{Ask}
use Rattle.td_plan.specs.declared.movers.Mover.{Mover}
use Rattle.td_plan.specs.declared.parts.Parts.{Parts}
use Rattle.td_plan.specs.BuildsThere.{builds_there}
use Rattle.td_plan.specs.Due.{moves}
use Rattle.td_plan.specs.InOrder.{is_before}
use Rattle.td_plan.specs.Parts.{ArePlaced, IsLeastOf, IsOnePart, IsWay}
use Rattle.td_plan.specs.Placing.{IsFirstOf, IsPlacing, IsPlacingOf, Moves}
use Rattle.td_plan.specs.Premises.{AreSound, Premises, SourcesAreApart, name_of}
use Rattle.td_plan.specs.inner.Asked.{IsAsk}
use Rattle.td_plan.specs.inner.Askers.{AreAllAsks, AreAsksOf}
use Rattle.td_plan.specs.inner.Asking.{asks_at, owners_of}
use Rattle.td_plan.specs.inner.Movers.{AreAffected, AreAllOf, AreMovers, IsAffectedMover, IsMover}
use Rattle.td_plan.specs.inner.Movers.{has_moving_motion, mover_name}
use Rattle.td_plan.specs.inner.Ordering.{ArePartsOf}
use Rattle.td_plan.specs.inner.Planned.{name_at, number_among, placing_of}
use Rattle.td_plan.specs.inner.Waiters.{kept_of}
use Rattle.td_plan.proofs.Asked.{ask-built, built-ask, names-differ}
use Rattle.td_plan.proofs.Chosen.{any-again, any-found, filter-again, filter-found, map-again}
use Rattle.td_plan.proofs.Chosen.{map-found}
use Rattle.td_plan.proofs.Existing.{none_has}
use Rattle.td_plan.proofs.InOrders.{before-back, before-itself}
use Rattle.td_plan.proofs.MovingSources.{mover-for, mover-has, mover-moving}
use Rattle.td_plan.proofs.Named.{named-own}
use Rattle.td_plan.proofs.OneText.{mover-moves}
use Rattle.td_plan.proofs.Picked.{has-numbered, numbered-has}
use Rattle.td_plan.proofs.PlacedAlong.{narrow-least, narrow-placed, one-back, one-there}
use Rattle.td_plan.proofs.PlacedAlong.{placed-along}
use Rattle.td_plan.proofs.Planned.{number-of-name}
use Rattle.td_plan.proofs.Somewhere.{sources_build_somewhere}
use Rattle.td_plan.proofs.Waiters.{at-below}

module _ (a : Contents) (apart : SourcesAreApart a) (x : Tracking) (Is : Mover → Type 0)
    (ms : List Mover) (are : AreAllOf Is a x ms)
    (source-at : (m : Mover) → Is m → slice_get a.sources m.number ≡ Some (kept_of m))
    (Node : List ℕ → Type 0)
    (moving-node : (k : ℕ) (m : Mover) → slice_get ms k ≡ Some m → has_moving_motion m ≡ true
    → Node (mover_name m))
    (node-moving : (name : List ℕ) → Node name → (k : ℕ) × (m : Mover) × (slice_get ms k ≡ Some m)
    × (has_moving_motion m ≡ true) × (mover_name m ≡ name))
    (all : List (Vec (Vec Ask))) (asks : AreAllAsks a ms all) (graph : List (List ℕ))
    (edges : graph ≡ map (λ (v : Vec (Vec Ask)). owners_of v.items) all) where
  -- the number of a source that moves
  pub record IsMoving (k : ℕ) : Type 0 where
    pub mover : Mover
    pub at : slice_get ms k ≡ Some mover
    pub moves : has_moving_motion mover ≡ true

  node-long : length graph ≡ length ms
  node-long = ap length edges
      ∙ length-map all (λ (v : Vec (Vec Ask)). owners_of v.items) ∙ asks.len

  -- what a source asks for, and so on whom it builds
  record IsAsker (k : ℕ) : Type 0 where
    pub mover : Mover
    pub at : slice_get ms k ≡ Some mover
    pub its : Vec (Vec Ask)
    pub of : AreAsksOf a ms k mover its.items
    pub bases : bases_of graph k ≡ owners_of its.items

  asker : (k : ℕ) → k < length ms → IsAsker k
  asker k low =
      let m = at-below ms k low in
      let its = at-below all k (omega (arith, asks.len, low)) in
      record {
        mover = m.0;
        at = m.1;
        its = its.0;
        of = asks.at k m.0 its.0 m.1 its.1;
        bases = ap (λ (g : List (List ℕ)). slice_index_or g k []) edges
            ∙ get_or-map (λ (v : Vec (Vec Ask)). owners_of v.items) all k its.0 []
            (slice_get_within all k its.0 its.1)
            ∙ ap (λ (v : Vec (Vec Ask)). owners_of v.items)
            (get_or_from_slice_get all k its.0 its.0 its.1);
      }

  asker-low : (i j : ℕ) → BuildsOn graph i j → i < length ms
  asker-low i j on = elim (cases_lt i (length ms)) [
    | inl low ↦ low
    | inr high ↦
        let none : bases_of graph i ≡ [] =
        get_or_past graph i [] (omega (arith, node-long, high)) in
        absurd (none_has j (subst (λ (l : List ℕ). Contains l j) none on))
  ]

  -- a source that moves asks somewhere for a package of another one
  record IsEdge (i j : ℕ) : Type 0 where
    pub asker : IsMoving i
    pub place : ℕ
    pub within : place < length a.table
    pub ask : Ask
    pub owner : ask.owner ≡ j
    pub is : IsAsk a ms i (kept_of asker.mover) place ask

  edge : (i j : ℕ) → BuildsOn graph i j → IsEdge i j
  edge i j on =
      let w = asker i (asker-low i j on) in
      let owners = subst (λ (l : List ℕ). Contains l j) w.bases on in
      let list = has_found (λ (v : Vec Ask). map (λ (x : Ask). x.owner) v.items) w.its.items j
      owners in
      let ask = map-found (λ (x : Ask). x.owner) list.0.items j list.2 in
      elim (cases_Bool (has_moving_motion w.mover)) [
        | inl moving ↦
            let place = has-numbered w.its.items list.0 list.1 in
            let within : place.0 < length a.table =
            omega (
              arith,
              w.of.len (kept_of w.mover) (source-at w.mover (are.each i w.mover w.at)) moving,
              slice_get_within w.its.items place.0 list.0 place.1,
            ) in
            let here : asks_at w.its.items place.0 ≡ list.0.items =
            get_or-map (λ (v : Vec Ask). v.items) w.its.items place.0 list.0 []
            (slice_get_within w.its.items place.0 list.0 place.1)
            ∙ ap (λ (v : Vec Ask). v.items)
            (get_or_from_slice_get w.its.items place.0 list.0 list.0 place.1) in
            let those =
            w.of.at (kept_of w.mover) place.0 (source-at w.mover (are.each i w.mover w.at)) moving
            within in
            record {
              asker = record { mover = w.mover; at = w.at; moves = moving };
              place = place.0;
              within = within;
              ask = ask.0;
              owner = ask.2;
              is = those.each ask.0 (subst (λ (l : List Ask). Contains l ask.0) (sym here) ask.1);
            }
        | inr still ↦
            let none : owners_of w.its.items ≡ [] = ap owners_of (w.of.still still) in
            absurd (none_has j (subst (λ (l : List ℕ). Contains l j) none owners))
      ]

  edge-moves : (i j : ℕ) → BuildsOn graph i j → IsMoving i × IsMoving j
  edge-moves i j on =
      let e = edge i j on in (
        e.asker,
        record {
          mover = e.is.owner;
          at = ap (slice_get ms) (sym e.owner) ∙ e.is.at;
          moves = e.is.moves;
        },
      )

  name-is : (k : ℕ) (m : Mover) → slice_get ms k ≡ Some m → name_at ms k ≡ mover_name m
  name-is k m at = ap (λ (o : Option Mover). option_map_or mover_name o []) at

  builds-names : (s t : KeptSource) (b c : List ℕ) → b ≡ s.head.name → c ≡ t.head.name
      → waves.BuildsOn a s.head.name t.head.name → waves.BuildsOn a b c
  builds-names s t b c left right on =
      subst (λ n. waves.BuildsOn a n c) (sym left)
      (subst (λ n. waves.BuildsOn a s.head.name n) (sym right) on)

  edge-builds : (i j : ℕ) → IsMoving i → IsMoving j
      → BuildsOn graph i j ↔ waves.BuildsOn a (name_at ms i) (name_at ms j)
  edge-builds i j left right =
      let m = left.mover in
      let t = right.mover in
      let law = sources_build_somewhere a (kept_of m) (kept_of t)
      (named-own a apart (kept_of m) (numbered-has a.sources m.number (kept_of m)
      (source-at m (are.each i m left.at)))) in (
        (λ on.
            let e = edge i j on in
            let one : e.asker.mover ≡ m = some_is e.asker.mover m (sym e.asker.at ∙ left.at) in
            let owner : slice_get ms e.ask.owner ≡ Some t = ap (slice_get ms) e.owner ∙ right.at in
            let there : builds_there a e.place (kept_of m) (kept_of t) ≡ true =
            ask-built a x Is ms are i m left.at (kept_of m) refl e.place e.ask t owner
            (subst (λ (n : Mover). IsAsk a ms i (kept_of n) e.place e.ask) one e.is) in
            builds-names (kept_of m) (kept_of t) (name_at ms i) (name_at ms j)
            (name-is i m left.at) (name-is j t right.at) (law.1 (e.place, e.within, there))),
        (λ on.
            let names : waves.BuildsOn a (mover_name m) (mover_name t) =
            subst (λ n. waves.BuildsOn a n (mover_name t)) (name-is i m left.at)
            (subst (λ n. waves.BuildsOn a (name_at ms i) n) (name-is j t right.at) on) in
            let somewhere = law.0 names in
            let w = asker i (slice_get_within ms i m left.at) in
            let same : w.mover ≡ m = some_is w.mover m (sym w.at ∙ left.at) in
            let moving : has_moving_motion w.mover ≡ true =
            ap has_moving_motion same ∙ left.moves in
            let source = subst (λ (n : Mover). slice_get a.sources w.mover.number
            ≡ Some (kept_of n)) same (source-at w.mover (are.each i w.mover w.at)) in
            let found = built-ask a x Is ms are i m left.at (kept_of m) refl somewhere.0 j t
            right.at right.moves somewhere.2 in
            let those = w.of.at (kept_of m) somewhere.0 source moving somewhere.1 in
            let has = those.all found.0 found.2 in
            let low : somewhere.0 < length w.its.items =
            omega (
              arith,
              w.of.len (kept_of w.mover) (source-at w.mover (are.each i w.mover w.at)) moving,
              somewhere.1,
            ) in
            let list = at-below w.its.items somewhere.0 low in
            let here : asks_at w.its.items somewhere.0 ≡ list.0.items =
            get_or-map (λ (v : Vec Ask). v.items) w.its.items somewhere.0 list.0 [] low
            ∙ ap (λ (v : Vec Ask). v.items)
            (get_or_from_slice_get w.its.items somewhere.0 list.0 list.0 list.1) in
            let owner : Contains (map (λ (x : Ask). x.owner) list.0.items) j =
            subst (Contains (map (λ (x : Ask). x.owner) list.0.items)) found.1
            (map-again (λ (x : Ask). x.owner) list.0.items found.0
            (subst (λ (l : List Ask). Contains l found.0) here has)) in
            subst (λ (l : List ℕ). Contains l j) (sym w.bases)
            (has_again (λ (v : Vec Ask). map (λ (x : Ask). x.owner) v.items) w.its.items list.0 j
            (numbered-has w.its.items somewhere.0 list.0 list.1) owner)),
      )

  moving-named : (k : ℕ) → IsMoving k → Node (name_at ms k)
  moving-named k is =
      subst Node (sym (name-is k is.mover is.at)) (moving-node k is.mover is.at is.moves)

  named-moving : (name : List ℕ) → Node name → (k : ℕ) × IsMoving k × (name_at ms k ≡ name)
  named-moving name is =
      let m = node-moving name is in
      (m.0, record { mover = m.1; at = m.2; moves = m.3 }, name-is m.0 m.1 m.2 ∙ m.4)

  stand : StandFor Node (waves.BuildsOn a) IsMoving (BuildsOn graph) (name_at ms)
  stand = record { affected = moving-named; onto = named-moving; same = edge-builds }

  names-one : (j k : ℕ) → j < length ms → k < length ms → name_at ms j ≡ name_at ms k → j ≡ k
  names-one j k low high same =
      let m = at-below ms j low in
      let n = at-below ms k high in
      elim (cases_order j k) [
        | inl one ↦ one
        | inr way ↦ absurd (names-differ a x Is ms are j k m.0 n.0 m.1 n.1
            (λ e. elim way [ inl less ↦ omega arith | inr more ↦ omega arith ])
            (sym (name-is j m.0 m.1) ∙ same ∙ name-is k n.0 n.1))
      ]

  moving-low : (k : ℕ) → IsMoving k → k < length ms
  moving-low k is = slice_get_within ms k is.mover is.at

  moving-apart : (j k : ℕ) → IsMoving j → IsMoving k → name_at ms j ≡ name_at ms k → j ≡ k
  moving-apart j k left right same =
      names-one j k (moving-low j left) (moving-low k right) same

  module _ (parts : Parts) (long : ArePartsOf (length ms) parts)
      (placed : ArePlaced (IsNode graph) (BuildsOn graph)
      (λ k. slice_index parts.firsts.items k) (λ k. slice_index parts.steps.items k))
      (least : (k : ℕ) → IsNode graph k → IsLeastOf (IsNode graph) (BuildsOn graph)
      (slice_index parts.firsts.items k) k) where
    pub first-low : (k : ℕ) → k < length ms → slice_index parts.firsts.items k < length ms
    first-low k low =
        let node = (least k (omega (arith, node-long, low))).node in omega (arith, node-long, node)

    pub firsts-below : All (λ first. first < length ms) parts.firsts.items
    firsts-below = λ k d low.
        let below = first-low k (omega (arith, long.firsts, low)) in
        subst (λ n. n < length ms) (get_or_default parts.firsts.items k 0 d low) below

    -- a source that doesn't move is a part of its own
    pub resting-alone : (k : ℕ) (m : Mover) → slice_get ms k ≡ Some m
        → has_moving_motion m ≡ false → slice_index parts.firsts.items k ≡ k
    resting-alone k m at still = elim (least k (omega (
      arith,
      node-long,
      slice_get_within ms k m at,
    ))).within [
      | inl same ↦ sym same
      | inr ways ↦
          let it = starts ways.0.0 (slice_index parts.firsts.items k) ways.0.1 in
          let one : it.mover ≡ m = some_is it.mover m (sym it.at ∙ at) in
          absurd (false≢true (sym still ∙ ap has_moving_motion (sym one) ∙ it.moves))
    ]
      where
        starts : (between : List ℕ) (y : ℕ) → IsWay (IsNode graph) (BuildsOn graph) k between y
            → IsMoving k
        starts [] y way = (edge-moves k y way).0
        starts (z ∷ between) y way = (edge-moves k z way.0).0

    narrow : ArePlaced IsMoving (BuildsOn graph)
        (λ k. slice_index parts.firsts.items k) (λ k. slice_index parts.steps.items k)
    narrow = narrow-placed (IsNode graph) IsMoving (BuildsOn graph)
        (λ k is. omega (arith, node-long, moving-low k is)) edge-moves
        (λ k. slice_index parts.firsts.items k) (λ k. slice_index parts.steps.items k) placed

    number-of : (k : ℕ) → IsMoving k
        → number_among ms (name_at ms k) ≡ k
    number-of k is = ap (number_among ms) (name-is k is.mover is.at)
        ∙ number-of-name a x Is ms are k is.mover is.at

    first-of : (k : ℕ) → IsMoving k → (placing_of ms parts).first (name_at ms k)
        ≡ name_at ms (slice_index parts.firsts.items k)
    first-of k is = ap (λ n. name_at ms (slice_index parts.firsts.items n)) (number-of k is)

    marks : (j k : ℕ) → IsMoving j → IsMoving k
        → ((placing_of ms parts).first (name_at ms j) ≡ (placing_of ms parts).first (name_at ms k))
        ↔ (slice_index parts.firsts.items j ≡ slice_index parts.firsts.items k)
    marks j k left right = (
      (λ same. names-one (slice_index parts.firsts.items j) (slice_index parts.firsts.items k)
          (first-low j (moving-low j left)) (first-low k (moving-low k right))
          (sym (first-of j left) ∙ same ∙ first-of k right)),
      (λ same. first-of j left ∙ ap (name_at ms) same ∙ sym (first-of k right)),
    )

    first-placed : (name : List ℕ) → Node name → IsFirstOf Node a (placing_of ms parts).first name
    first-placed name is =
        let k = named-moving name is in
        let f = slice_index parts.firsts.items k.0 in
        let mine = narrow-least (IsNode graph) IsMoving (BuildsOn graph)
        (λ n it. omega (arith, node-long, moving-low n it)) edge-moves f k.0 k.1
        (least k.0 (omega (arith, node-long, moving-low k.0 k.1))) in
        let first : (placing_of ms parts).first name ≡ name_at ms f =
        ap (placing_of ms parts).first (sym k.2) ∙ first-of k.0 k.1 in
        record {
          node = subst Node (sym first) (moving-named f mine.node);
          within = subst (λ y. IsOnePart Node (waves.BuildsOn a) name y) (sym first)
              (subst (λ y. IsOnePart Node (waves.BuildsOn a) y (name_at ms f)) k.2
              (one-there Node (waves.BuildsOn a) IsMoving (BuildsOn graph) (name_at ms)
              stand moving-apart k.0 f k.1 mine.node mine.within));
          least = λ other moves one.
              let j = named-moving other moves in
              let low : f ≤ j.0 = mine.least j.0 j.1 (one-back Node
              (waves.BuildsOn a) IsMoving (BuildsOn graph) (name_at ms) stand moving-apart
              k.0 j.0 k.1 j.1
              (subst (λ y. IsOnePart Node (waves.BuildsOn a) y (name_at ms j.0))
              (sym k.2)
              (subst (λ y. IsOnePart Node (waves.BuildsOn a) name y)
              (sym j.2) one))) in
              subst (λ y. is_before other y ≡ false) (sym first)
              (subst (λ y. is_before y (name_at ms f) ≡ false) j.2
              (not-before f j.0 mine.node j.1 low));
        }
      where
        not-before : (f j : ℕ) → IsMoving f → IsMoving j → f ≤ j
            → is_before (name_at ms j) (name_at ms f) ≡ false
        not-before f j left right low = elim (cases_order f j) [
          | inl same ↦ subst (λ n. is_before (name_at ms n) (name_at ms f) ≡ false) same
              (before-itself (name_at ms f))
          | inr way ↦ elim way [
            | inl less ↦ before-back (name_at ms f) (name_at ms j)
                (subst (λ y. is_before y (name_at ms j) ≡ true) (sym (name-is f left.mover left.at))
                (subst (λ y. is_before (mover_name left.mover) y ≡ true)
                (sym (name-is j right.mover right.at))
                (are.rising f j left.mover right.mover less left.at right.at)))
            | inr more ↦ absurd (omega arith)
          ]
        ]

    pub placing-is : IsPlacingOf Node a (placing_of ms parts)
    placing-is = record {
      placed = placed-along Node (waves.BuildsOn a) IsMoving (BuildsOn graph)
          (name_at ms) stand moving-apart (placing_of ms parts).first (placing_of ms parts).step
          (λ k. slice_index parts.firsts.items k) (λ k. slice_index parts.steps.items k) narrow
          marks
          (λ k is. ap (slice_index parts.steps.items) (number-of k is));
      first = first-placed;
    }

-- the sources that a plan moves
module _ (p : Premises) (sound : AreSound p) (ms : List Mover) (are : AreMovers p ms)
    (all : List (Vec (Vec Ask))) (asks : AreAllAsks p.archive ms all) (graph : List (List ℕ))
    (edges : graph ≡ map (λ (v : Vec (Vec Ask)). owners_of v.items) all) (parts : Parts)
    (long : ArePartsOf (length ms) parts)
    (placed : ArePlaced (IsNode graph) (BuildsOn graph)
    (λ k. slice_index parts.firsts.items k) (λ k. slice_index parts.steps.items k))
    (least : (k : ℕ) → IsNode graph k → IsLeastOf (IsNode graph) (BuildsOn graph)
    (slice_index parts.firsts.items k) k) where
  moving-moves : (k : ℕ) (m : Mover) → slice_get ms k ≡ Some m → has_moving_motion m ≡ true
      → Moves p (mover_name m)
  moving-moves k m at is = mover-moves p (kept_of m) (mover-has p sound ms are k m at)
      (sym (mover-moving p sound ms are k m at) ∙ is)

  moves-moving : (name : List ℕ) → Moves p name → (k : ℕ) × (m : Mover) × (slice_get ms k ≡ Some m)
      × (has_moving_motion m ≡ true) × (mover_name m ≡ name)
  moves-moving name is =
      let found = any-found (λ (s : KeptSource). bytes_eq name s.head.name && moves p s)
      p.archive.sources is in
      let both = and_parts (bytes_eq name found.0.head.name) (moves p found.0) found.2 in
      let m = mover-for p sound ms are found.0 found.1 both.1 in (
        m.0,
        m.1,
        m.2,
        mover-moving p sound ms are m.0 m.1 m.2 ∙ ap (moves p) m.3 ∙ both.1,
        ap (λ (s : KeptSource). s.head.name) m.3
            ∙ sym ((bytes_eq-Decides name found.0.head.name).0 both.0),
      )

  pub firsts-low : All (λ first. first < length ms) parts.firsts.items
  firsts-low = firsts-below p.archive sound.numbered p.tracker (λ m. IsMover p m (kept_of m)) ms are
      (λ m is. is.at) (Moves p) moving-moves moves-moving all asks graph edges parts long placed
      least

  pub still-alone : (k : ℕ) (m : Mover) → slice_get ms k ≡ Some m
      → has_moving_motion m ≡ false → slice_index parts.firsts.items k ≡ k
  still-alone = resting-alone p.archive sound.numbered p.tracker (λ m. IsMover p m (kept_of m)) ms
      are (λ m is. is.at) (Moves p) moving-moves moves-moving all asks graph edges parts long placed
      least

  pub parts-placed : IsPlacing p (placing_of ms parts)
  parts-placed = placing-is p.archive sound.numbered p.tracker (λ m. IsMover p m (kept_of m)) ms are
      (λ m is. is.at) (Moves p) moving-moves moves-moving all asks graph edges parts long placed
      least

-- all affected sources
module _ (a : Contents) (apart : SourcesAreApart a) (t : Tracking) (ms : List Mover)
    (are : AreAffected a t ms) (all : List (Vec (Vec Ask))) (asks : AreAllAsks a ms all)
    (graph : List (List ℕ)) (edges : graph ≡ map (λ (v : Vec (Vec Ask)). owners_of v.items) all)
    (parts : Parts) (long : ArePartsOf (length ms) parts)
    (placed : ArePlaced (IsNode graph) (BuildsOn graph)
    (λ k. slice_index parts.firsts.items k) (λ k. slice_index parts.steps.items k))
    (least : (k : ℕ) → IsNode graph k → IsLeastOf (IsNode graph) (BuildsOn graph)
    (slice_index parts.firsts.items k) k) where
  moving-affected : (k : ℕ) (m : Mover) → slice_get ms k ≡ Some m → has_moving_motion m ≡ true
      → IsAffected a t (mover_name m)
  moving-affected k m at is =
      let its = are.each k m at in
      any-again (bytes_eq (mover_name m)) (affected_names a t) (mover_name m)
      (map-again name_of (filter (is_affected a t) a.sources) (kept_of m)
      (filter-again (is_affected a t) a.sources (kept_of m)
      (numbered-has a.sources m.number (kept_of m) its.at) its.affected))
      ((bytes_eq-Decides (mover_name m) (mover_name m)).1 refl)

  affected-moving : (name : List ℕ) → IsAffected a t name → (k : ℕ) × (m : Mover)
      × (slice_get ms k ≡ Some m) × (has_moving_motion m ≡ true) × (mover_name m ≡ name)
  affected-moving name is =
      let found = any-found (bytes_eq name) (affected_names a t) is in
      let s = map-found name_of (filter (is_affected a t) a.sources) found.0 found.1 in
      let of = filter-found (is_affected a t) a.sources s.0 s.1 in
      let m = are.all s.0 of.0 of.1 in (
        m.0,
        m.1,
        m.2,
        (are.each m.0 m.1 m.2).moves,
        ap (λ (u : KeptSource). u.head.name) m.3 ∙ s.2
            ∙ sym ((bytes_eq-Decides name found.0).0 found.2),
      )

  pub affected-placed : IsPlacingOf (IsAffected a t) a (placing_of ms parts)
  affected-placed = placing-is a apart t (IsAffectedMover a t) ms are (λ m is. is.at)
      (IsAffected a t) moving-affected affected-moving all asks graph edges parts long placed least

  pub affected-firsts : All (λ first. first < length ms) parts.firsts.items
  affected-firsts = firsts-below a apart t (IsAffectedMover a t) ms are (λ m is. is.at)
      (IsAffected a t) moving-affected affected-moving all asks graph edges parts long placed least
