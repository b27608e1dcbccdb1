-- The lines of a plan's sources, position by position.
use Rattle.std.proofs.Common.{◌≡◌, ℕ, ◌+◌, ◌<◌, ◌++◌, ◌∷◌, [], true, List}
use Rattle.std.proofs.Common.{drop, fold, get_or, length, map, take, Option, Some, None, refl, sym}
use Rattle.std.proofs.Common.{ap}
use Rattle.std.proofs.Common.{subst, ◌∙◌, append_assoc}
use Rattle.std.specs.Prelude.{option_map, slice_get, slice_index}
use Rattle.std.specs.Global.{Vec}
use Rattle.std.specs.List.{cons_option}
use Rattle.std.proofs.lemmas.List.{drop_more, take_more}
use Rattle.td_text.specs.Lines.{text_of}
use Rattle.td_indices.specs.Sources.{KeptSource}
use Rattle.td_plan.specs.declared.asks.Ask.{Ask}
use Rattle.td_plan.specs.declared.movers.Mover.{Mover}
use Rattle.td_plan.specs.declared.parts.Parts.{Parts}
use Rattle.td_plan.specs.declared.plan.Last.{Last}
use Rattle.td_plan.specs.declared.plan.Plan.{Plan}
use Rattle.td_plan.specs.declared.source_text.SourceText.{SourceText}
use Rattle.td_plan.specs.Lines.{Words}
use Rattle.td_plan.specs.Placing.{Placing}
use Rattle.td_plan.specs.Plan.{lines_before, lines_from, source_lines}
use Rattle.td_plan.specs.Premises.{Premises}
use Rattle.td_plan.specs.inner.Asked.{AreAsks}
use Rattle.td_plan.specs.inner.Asking.{asks_at}
use Rattle.td_plan.specs.inner.Movers.{AreMovers, has_moving_motion}
use Rattle.td_plan.specs.inner.Ordering.{position_of}
use Rattle.td_plan.specs.inner.Planned.{IsPlanOf, last_at, last_number, placing_in, source_if}
use Rattle.td_plan.specs.inner.Planned.{sources_at}
use Rattle.td_plan.specs.inner.Sources.{IsTold}
use Rattle.td_plan.specs.inner.Waiters.{is_of_part, kept_of}
use Rattle.td_plan.proofs.Planned.{part-is}
use Rattle.td_plan.proofs.SourceTexts.{text_of-append}

-- ---- 1. the source whose lines are written

pub plan-told : (p : Premises) (plan : Plan) → IsPlanOf p plan → (k : ℕ) (m : Mover)
    (asks : Vec (Vec Ask)) → slice_get plan.movers.items k ≡ Some m → has_moving_motion m ≡ true
    → slice_get plan.asks.items k ≡ Some asks → (t : SourceText)
    → t.archive.now ≡ plan.inputs.archive.now → t.movers.now ≡ plan.movers.items
    → t.firsts.now ≡ plan.parts.firsts.items → t.asks.now ≡ asks → t.number ≡ k
    → IsTold p (placing_in plan) (kept_of m) t
plan-told p plan is k m asks at moving mine t archive movers firsts its number = record {
  archive = archive ∙ is.inputs.archive;
  sound = is.sound;
  apart = is.apart;
  movers = subst (AreMovers p) (sym movers) is.movers;
  own = m;
  at = ap (slice_get t.movers.now) number ∙ ap (λ (ms : List Mover). slice_get ms k) movers ∙ at;
  is = refl;
  parts = λ j n there.
      ap (λ (own : ℕ). is_of_part t.firsts.now own j) number
      ∙ ap (λ (fs : List ℕ). is_of_part fs k j) firsts
      ∙ part-is p plan is k j m n at
      (ap (λ (ms : List Mover). slice_get ms j) (sym movers) ∙ there);
  asks = λ place low.
      let are = (is.asks.at k m asks at mine).at (kept_of m) place (is.movers.each k m at).at moving
      low in
      subst (λ (ms : List Mover). AreAsks p.archive ms t.number (kept_of m) place
      (asks_at t.asks.now.items place)) (sym movers)
      (subst (λ (own : ℕ). AreAsks p.archive plan.movers.items own (kept_of m) place
      (asks_at t.asks.now.items place)) (sym number)
      (subst (λ (v : Vec (Vec Ask)). AreAsks p.archive plan.movers.items k (kept_of m) place
      (asks_at v.items place)) (sym its) are));
}

-- ---- 2. one position more

abbrev number_of : ℕ × ℕ × ℕ → ℕ
number_of q = q.2

last-push : (start : Option ℕ) (qs : List (ℕ × ℕ × ℕ)) (q : ℕ × ℕ × ℕ)
    → fold (λ (o : Option ℕ) (r : ℕ × ℕ × ℕ). Some r.2) start (qs ++ q ∷ []) ≡ Some q.2
last-push start [] q = refl
last-push start (r ∷ qs) q = last-push (Some r.2) qs q

-- the number of the last position so far
pub last-next : (qs : List (ℕ × ℕ × ℕ)) (i : ℕ) (q : ℕ × ℕ × ℕ) → i < length qs
    → q ≡ get_or qs i q → last_number (take (i + 1) qs) ≡ Some q.2
last-next qs i q low is =
    ap last_number (take_more qs i q low)
    ∙ last-push None (take i qs) (get_or qs i q)
    ∙ ap (λ (r : ℕ × ℕ × ℕ). Some r.2) (sym is)

pub last-is : (parts : Parts) (qs : List (ℕ × ℕ × ℕ)) (i : ℕ) (q : ℕ × ℕ × ℕ) → i < length qs
    → q ≡ get_or qs i q → q ≡ position_of parts q.2
    → Some (record { step = q.0; first = q.1 })
    ≡ option_map (last_at parts) (last_number (take (i + 1) qs))
last-is parts qs i q low is of =
    let step : q.0 ≡ slice_index parts.steps.items q.2 = ap (λ (r : ℕ × ℕ × ℕ). r.0) of in
    let first : q.1 ≡ slice_index parts.firsts.items q.2 = ap (λ (r : ℕ × ℕ × ℕ). r.1) of in
    let one : Last = record { step = q.0; first = q.1 } in
    let same : one ≡ last_at parts q.2 = λ j. record { step = step j; first = first j } in
    ap (λ (l : Last). Some l) same
    ∙ sym (ap (option_map (last_at parts)) (last-next qs i q low is))

-- the lines so far, and those to come
pub position-more : (words : Words) (x : Placing) (p : Premises) (ms : List Mover)
    (qs : List (ℕ × ℕ × ℕ)) (i : ℕ) (q : ℕ × ℕ × ℕ) (m : Mover) (last : Option KeptSource)
    (old new goal : List ℕ) → i < length qs → q ≡ get_or qs i q → slice_get ms q.2 ≡ Some m
    → old ++ text_of (lines_from words x p last (sources_at ms (map number_of (drop i qs)))) ≡ goal
    → new ≡ old ++ text_of (lines_before x p last (kept_of m) ++ source_lines words x p (kept_of m))
    → new ++ text_of (lines_from words x p (source_if ms (last_number (take (i + 1) qs)))
    (sources_at ms (map number_of (drop (i + 1) qs)))) ≡ goal
position-more words x p ms qs i q m last old new goal low is at so more =
    let rest : List KeptSource = sources_at ms (map number_of (drop (i + 1) qs)) in
    let now : source_if ms (last_number (take (i + 1) qs)) ≡ Some (kept_of m) =
    ap (source_if ms) (last-next qs i q low is) ∙ ap (option_map kept_of) at in
    let here : sources_at ms (map number_of (drop i qs)) ≡ kept_of m ∷ rest =
    ap (λ (l : List (ℕ × ℕ × ℕ)). sources_at ms (map number_of l))
    (drop_more qs i q low ∙ ap (λ (r : ℕ × ℕ × ℕ). r ∷ drop (i + 1) qs) (sym is))
    ∙ ap (λ (o : Option Mover). cons_option (option_map kept_of o) rest) at in
    let before = lines_before x p last (kept_of m) in
    let mine = source_lines words x p (kept_of m) in
    let behind = lines_from words x p (Some (kept_of m)) rest in
    ap (λ (o : Option KeptSource). new ++ text_of (lines_from words x p o rest)) now
    ∙ ap (λ (t : List ℕ). t ++ text_of behind) more
    ∙ append_assoc old (text_of (before ++ mine)) (text_of behind)
    ∙ ap (λ (t : List ℕ). old ++ t) (sym (text_of-append (before ++ mine) behind)
    ∙ ap text_of (append_assoc before mine behind))
    ∙ ap (λ (l : List KeptSource). old ++ text_of (lines_from words x p last l)) (sym here)
    ∙ so
