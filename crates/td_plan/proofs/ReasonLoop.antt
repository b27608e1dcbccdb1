-- The reasons of a source, owner by owner.
use Rattle.std.proofs.Common.{◌≡◌, ◌⊎◌, ℕ, ◌+◌, ◌-◌, ◌<◌, ◌≤◌, Bool, true, List, []}
use Rattle.std.proofs.Common.{◌∷◌, ◌++◌}
use Rattle.std.proofs.Common.{append-nil, append_assoc, arith, codes, cond, drop, get_or, length}
use Rattle.std.proofs.Common.{map}
use Rattle.std.proofs.Common.{take, Option, Some, refl, sym, ap, ◌∙◌, inl, inr}
use Rattle.std.specs.Prelude.{filter, slice_get}
use Rattle.std.specs.List.{join_by}
use Rattle.std.specs.Option.{option_map_or}
use Rattle.std.proofs.lemmas.Bool.{cases_lt}
use Rattle.std.proofs.lemmas.Bool.Decides.{eqb_tells}
use Rattle.std.proofs.lemmas.List.{get_or-drop, get_or-take, get_or_default, length-drop}
use Rattle.std.proofs.lemmas.List.{length-take, length_push, map-append, take_all}
use Rattle.std.proofs.lemmas.List.Elements.{Contains-get_or}
use Rattle.std.proofs.lemmas.Option.{slice_get-get_or, slice_get_past, slice_get_within}
use Rattle.td_indices.specs.Archive.{Contents}
use Rattle.td_indices.specs.Sources.{KeptSource}
use Rattle.td_query.specs.Tracking.{Tracking}
use Rattle.td_waves.specs.BuildsOn.{builds_on}
use Rattle.td_plan.specs.declared.asks.Ask.{Ask}
use Rattle.td_plan.specs.declared.movers.Mover.{Mover}
use Rattle.td_plan.specs.Premises.{SourcesAreApart}
use Rattle.td_plan.specs.Why.{reason_text, with_reasons}
use Rattle.td_plan.specs.inner.Bases.{AreAsksAnywhere, IsAskAnywhere, after_name, asked_text}
use Rattle.td_plan.specs.inner.Bases.{mark_at, reasons_among}
use Rattle.td_plan.specs.inner.Movers.{AreAffected, mover_name}
use Rattle.td_plan.specs.inner.Waiters.{kept_of}
use Rattle.td_plan.proofs.Joins.{join-first, join-push}
use Rattle.td_plan.proofs.ReasonSteps.{not-on, on-owner, reason-is}
use Rattle.td_plan.proofs.WaitLoop.{AreOf, IsGroup, first-ask, group-of}
use Rattle.td_plan.proofs.Waiters.{at-below, owner-at, passing, passing-push, passing-skip}

-- ---- 1. texts

pub with-after : (name : List ℕ) (reasons : List (List ℕ))
    → with_reasons name reasons ≡ name ++ after_name reasons
with-after name [] = sym (append-nil name)
with-after name (first ∷ more) = refl

-- one reason more
pub after-more : (reasons : List (List ℕ)) (reason mark : List ℕ)
    → ((length reasons ≡ 0) × (mark ≡ codes ": ")) ⊎ ((0 < length reasons) × (mark ≡ codes ", "))
    → after_name (reasons ++ reason ∷ []) ≡ after_name reasons ++ (mark ++ reason)
after-more [] reason mark (inl e) =
    ap (λ (t : List ℕ). codes ": " ++ t) (join-first (λ (t : List ℕ). t) (codes ", ") reason)
    ∙ ap (λ (m : List ℕ). m ++ reason) (sym e.1)
after-more [] reason mark (inr e) = absurd (let some = e.0 in omega arith)
after-more (first ∷ more) reason mark (inl e) = absurd (let none = e.0 in omega arith)
after-more (first ∷ more) reason mark (inr e) =
    ap (λ (t : List ℕ). codes ": " ++ t)
    (join-push (λ (t : List ℕ). t) (codes ", ") first more reason)
    ∙ sym (append_assoc (codes ": ") (join_by (λ (t : List ℕ). t) (codes ", ") (first ∷ more))
    (codes ", " ++ reason))
    ∙ ap (λ (m : List ℕ). after_name (first ∷ more) ++ (m ++ reason)) (sym e.1)

-- ---- 2. owners

-- the reasons for the owners before that of the asks from a place on
abbrev pub reasons_before : Contents → KeptSource → List Mover → List Ask → ℕ → List (List ℕ)
reasons_before a s ms asks start = reasons_among a s (take (owner-at asks start (length ms)) ms)

-- a text has these reasons after its front
pub record IsTold (a : Contents) (s : KeptSource) (ms : List Mover) (asks : List Ask)
    (front : List ℕ) (start : ℕ) (text : List ℕ) : Type 0 where
  pub told : text ≡ front ++ after_name (reasons_before a s ms asks start)
  pub none : start ≡ 0 → length (reasons_before a s ms asks start) ≡ 0
  pub some : 0 < start → 0 < length (reasons_before a s ms asks start)

module _ (a : Contents) (x : Tracking) (apart : SourcesAreApart a) (ms : List Mover)
    (are : AreAffected a x ms) (own : ℕ) (mine : Mover) (mine-at : slice_get ms own ≡ Some mine)
    (asks : List Ask) (all : AreAsksAnywhere a ms own (kept_of mine) asks) where
  abbrev on : KeptSource → Bool
  on u = builds_on a (mover_name mine) u.head.name

  abbrev upto : ℕ → List (List ℕ)
  upto k = reasons_among a (kept_of mine) (take k ms)

  owner-low : (k : ℕ) (d : Ask) → k < length asks → (get_or asks k d).owner < length ms
  owner-low k d low =
      let ask = get_or asks k d in
      let of = all.each ask (k, low, get_or_default asks k ask d low) in
      slice_get_within ms ask.owner of.is.owner of.is.at

  -- the owner of the asks from a place on
  owner-is : (k : ℕ) (d : Ask) → k < length asks
      → owner-at asks k (length ms) ≡ (get_or asks k d).owner
  owner-is k d low = ap (λ (o : Option Ask). option_map_or (λ (b : Ask). b.owner) o (length ms))
      (slice_get-get_or asks k d low)

  owner-end : (k : ℕ) → length asks ≤ k → owner-at asks k (length ms) ≡ length ms
  owner-end k high = ap (λ (o : Option Ask). option_map_or (λ (b : Ask). b.owner) o (length ms))
      (slice_get_past asks k high)

  -- a source builds on none between two owners
  none-between : (low high : ℕ) → low ≤ high → high ≤ length ms
      → ((i : ℕ) (d : Ask) → i < length asks → ((get_or asks i d).owner < low)
      ⊎ (high ≤ (get_or asks i d).owner))
      → upto high ≡ upto low
  none-between low high up within out =
      ap (map (reason_text a (kept_of mine))) (passing-skip on ms low high up within
      (λ k u from below at.
      not-on a x apart ms are own mine mine-at asks all k u at (λ ask has same.
      let owner : (get_or asks has.0 ask).owner ≡ k =
      ap (λ (b : Ask). b.owner) has.2 ∙ same in
      elim (out has.0 ask has.1) [
        | inl less ↦ omega arith
        | inr more ↦ omega arith
      ])))

  -- there is no reason before the first owner
  pub told-none : (front : List ℕ) → IsTold a (kept_of mine) ms asks front 0 front
  told-none front =
      let none : upto (owner-at asks 0 (length ms)) ≡ [] =
      elim (cases_lt 0 (length asks)) [
        | inl low ↦
            let first = first-ask asks low in
            none-between 0 (owner-at asks 0 (length ms)) (omega arith)
            (let owner = owner-low 0 first low in omega (arith, owner-is 0 first low))
            (λ i d below. inr (omega (
              arith,
              owner-is 0 d low,
              all.in_order 0 i d (omega arith) below,
            )))
        | inr empty ↦
            none-between 0 (owner-at asks 0 (length ms)) (omega arith)
            (omega (arith, owner-end 0 empty)) (λ i d below. absurd (omega arith))
      ] in
      record {
        told = sym (ap (λ (l : List (List ℕ)). front ++ after_name l) none ∙ append-nil front);
        none = λ first. ap length none;
        some = λ later. absurd (omega arith);
      }

  -- the reasons with one owner more
  reasons-more : (start end : ℕ) (d : Ask) (u : Mover) → IsGroup asks start end
      → slice_get ms (get_or asks start d).owner ≡ Some u
      → builds_on a (mover_name mine) (mover_name u) ≡ true
      → upto (owner-at asks end (length ms)) ≡ upto (owner-at asks start (length ms))
      ++ reason_text a (kept_of mine) (kept_of u) ∷ []
  reasons-more start end d u g at builds =
      let j = (get_or asks start d).owner in
      let next = owner-at asks end (length ms) in
      let now : upto (owner-at asks start (length ms)) ≡ upto j = ap upto (owner-is start d g.low)
      in
      let skipped : upto next ≡ upto (j + 1) =
      elim (cases_lt end (length asks)) [
        | inl low ↦ none-between (j + 1) next
            (let more = g.whole end d (omega arith) low in omega (arith, owner-is end d low))
            (let owner = owner-low end d low in omega (arith, owner-is end d low))
            (λ i e below. elim (cases_lt i end) [
              | inl before ↦ inl (omega (
                arith,
                passed-owner i e before,
                ap (λ (b : Ask). b.owner) (get_or_default asks start d e g.low),
              ))
              | inr from ↦ inr (omega (
                arith,
                owner-is end e low,
                all.in_order end i e from below,
              ))
            ])
        | inr high ↦ none-between (j + 1) next
            (let owner = owner-low start d g.low in omega (arith, owner-end end high))
            (omega (arith, owner-end end high))
            (λ i e below. inl (omega (
              arith,
              passed-owner i e (omega arith),
              ap (λ (b : Ask). b.owner) (get_or_default asks start d e g.low),
            )))
      ] in
      let reason = reason_text a (kept_of mine) in
      let pushed : upto (j + 1) ≡ upto j ++ reason (kept_of u) ∷ [] =
      ap (map reason) (passing-push on ms j u at)
      ∙ map-append reason (passing on ms j) (filter on (kept_of u ∷ []))
      ∙ ap (λ (b : Bool). upto j ++ map reason (cond b (kept_of u ∷ []) [])) builds in
      skipped ∙ pushed ∙ ap (λ (l : List (List ℕ)). l ++ reason (kept_of u) ∷ []) (sym now)
    where
      passed-owner : (i : ℕ) (e : Ask) → i < end
          → (get_or asks i e).owner ≤ (get_or asks start e).owner
      passed-owner i e before = elim (cases_lt i start) [
        | inl less ↦ (let low = g.passed i e less in omega arith)
        | inr from ↦ (let same = g.same i e from before in omega arith)
      ]

  -- the text with one owner more
  pub told-more : (front : List ℕ) (start end : ℕ) (old mark mid new : List ℕ)
      → IsGroup asks start end → IsTold a (kept_of mine) ms asks front start old
      → mark ≡ mark_at start → mid ≡ old ++ mark
      → ((d : Ask) → new ≡ mid ++ asked_text a ms
      (get_or (take (end - start) (drop start asks)) 0 d).owner
      (take (end - start) (drop start asks)))
      → IsTold a (kept_of mine) ms asks front end new
  told-more front start end old mark mid new g so is more last =
      let d = (at-below asks start g.low).0 in
      let group = take (end - start) (drop start asks) in
      let ask = get_or asks start d in
      let of = all.each ask (Contains-get_or asks start d g.low) in
      let u = of.is.owner in
      let at = of.is.at in
      let those : AreOf (IsAskAnywhere a ms own (kept_of mine)) ask.owner group =
      group-of (IsAskAnywhere a ms own (kept_of mine)) asks all.each all.all start end g d in
      let high = g.within in
      let after = g.after in
      let some : 0 < length group =
      omega (arith, length-take (end - start) (drop start asks), length-drop start asks) in
      let start-is : start + 0 ≡ start = omega arith in
      let owner : (get_or group 0 d).owner ≡ ask.owner =
      ap (λ (b : Ask). b.owner) (get_or-take (end - start) (drop start asks) 0 d (omega arith)
      ∙ get_or-drop start asks 0 d ∙ ap (λ (n : ℕ). get_or asks n d) start-is) in
      let reason = reason_text a (kept_of mine) (kept_of u) in
      let piece : asked_text a ms (get_or group 0 d).owner group ≡ reason =
      ap (λ (n : ℕ). asked_text a ms n group) owner
      ∙ reason-is a x apart ms are own mine mine-at ask.owner u at group those some in
      let was = reasons_before a (kept_of mine) ms asks start in
      let now : reasons_before a (kept_of mine) ms asks end ≡ was ++ reason ∷ [] =
      reasons-more start end d u g at
      (on-owner a x apart ms are own mine mine-at ask of u at) in
      let how : ((length was ≡ 0) × (mark ≡ codes ": "))
      ⊎ ((0 < length was) × (mark ≡ codes ", ")) =
      elim (eqb_tells start 0) [
        | inl p ↦ inl (
          so.none p.1,
          is ∙ ap (λ (b : Bool). cond b (codes ": ") (codes ", ")) p.0,
        )
        | inr p ↦ inr (
          so.some (omega (arith, p.1)),
          is ∙ ap (λ (b : Bool). cond b (codes ": ") (codes ", ")) p.0,
        )
      ] in
      let long : length (reasons_before a (kept_of mine) ms asks end) ≡ length was + 1 =
      ap length now ∙ length_push was reason in
      record {
        told = last d ∙ ap (λ (t : List ℕ). mid ++ t) piece
            ∙ ap (λ (t : List ℕ). t ++ reason) (more
            ∙ ap (λ (t : List ℕ). t ++ mark) so.told)
            ∙ append_assoc (front ++ after_name was) mark reason
            ∙ append_assoc front (after_name was) (mark ++ reason)
            ∙ ap (λ (t : List ℕ). front ++ t) (sym (after-more was reason mark how))
            ∙ ap (λ (l : List (List ℕ)). front ++ after_name l) (sym now);
        none = λ first. absurd (omega arith);
        some = λ later. omega (arith, long);
      }

  -- after the last owner all reasons are there
  pub told-all : (front : List ℕ) (start : ℕ) (text : List ℕ) → length asks ≤ start
      → IsTold a (kept_of mine) ms asks front start text
      → text ≡ front ++ after_name (reasons_among a (kept_of mine) ms)
  told-all front start text high so =
      so.told ∙ ap (λ (l : List Mover). front ++ after_name (reasons_among a (kept_of mine) l))
      (ap (λ (n : ℕ). take n ms) (owner-end start high)
      ∙ take_all (length ms) ms (omega arith))
