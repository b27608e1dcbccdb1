-- `push_sources`: its loop and the call of `push_source`.
use Rattle.std.proofs.Common.{◌≡◌, ◌<◌, ℕ, List, [], ◌∷◌, Some, option_map, slice_get, length, sym}
use Rattle.std.proofs.Common.{ap, ◌∙◌}
use Rattle.std.specs.Borrow.{Bor}
use Rattle.td_rows.proofs.Lists.{slice_get-map, slice_get-none}
use Rattle.td_indices.specs.declared.sourced.Sourced.{Sourced}
use Rattle.td_supply.specs.VersionTexts.{IsVersionText}
use Rattle.td_indices.specs.Sources.{KeptSource, source_of, sources_of}
use Rattle.td_indices.specs.Supplying.{with_sources}
use Rattle.td_indices.proofs.Filling.{listed_left, listed_next, not_there}
use Rattle.td_indices.proofs.LegalNames.{all_at}
use Rattle.td_indices.proofs.supplying.push_sources.Goals as goal
use Rattle.td_indices.proofs.supplying.push_sources.Goals.{in-Some+in_ok-push_source, in_default}

-- the source with a number, as it is kept
kept_at : (es : List (Bor (List ℕ) × Sourced)) (n : ℕ) (p : Bor (List ℕ) × Sourced)
    → Some p ≡ slice_get es n → slice_get (sources_of es) n ≡ Some (source_of p)
kept_at es n p at = slice_get-map source_of es n ∙ ap (option_map source_of) (sym at)

pub push_source-requires : goal.push_source-requires
push_source-requires c =
    let es = c.args.sources.now.entries in
    let p : Bor (List ℕ) × Sourced = (c.in-Some.name.now, c.in-Some.sourced.now) in
    let at = kept_at es c.loop-number.number p c.in-Some.ensures.entry in
    record {
      absent = not_there c.loop-number.supply (sources_of es) c.loop-number.number
          (source_of p) c.requires.apart at c.loop-number.invariant.there;
      reads = all_at (λ (s : KeptSource). IsVersionText s.head.version)
          (sources_of es) c.loop-number.number (source_of p) c.requires.read at;
    }

pub loop-number-preserved : goal.loop-number-preserved
loop-number-preserved c = elim c.match-get_index.branch [
  | in-Some+in_ok-push_source w ↦
      let es = c.args.sources.now.entries in
      let n = c.loop-number.number in
      let p : Bor (List ℕ) × Sourced = (w.in-Some.name.now, w.in-Some.sourced.now) in
      let at = kept_at es n p w.in-Some.ensures.entry in
      let more : c.match-get_index.supply ≡ with_sources c.loop-number.supply (source_of p ∷ []) =
      w.supply-is ∙ w.in_ok-push_source.ensures.ok in
      record {
        decides = listed_left (sources_of es) n (source_of p) c.loop-number.supply
            c.match-get_index.supply _ at more c.loop-number.invariant.decides;
        there = listed_next (sources_of es) n (source_of p) c.loop-number.supply
            c.match-get_index.supply at more c.loop-number.invariant.there;
      }
  | in_default w ↦
      let within : c.loop-number.number < length c.args.sources.now.entries =
      rw (← c.len-number-end.ensures.len) c.loop-number-test.true in
      absurd (slice_get-none c.args.sources.now.entries c.loop-number.number
      (sym w.in_default.ensures.entry) within)
]
