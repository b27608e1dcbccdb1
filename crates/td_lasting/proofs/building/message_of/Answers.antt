-- `message_of`: the entry that is looked at has the message, or it is sought before that.
use Rattle.std.proofs.Common.{◌≡◌, ◌-◌, ◌+◌, ℕ, List, Some, true, false, ap, sym, ◌∙◌, arith}
use Rattle.std.proofs.Common.{length, take}
use Rattle.std.specs.Prelude.{slice_get}
use Rattle.td_rows.specs.declared.key.Key.{Key}
use Rattle.td_rows.specs.Keys.{ascending, names}
use Rattle.td_journal.specs.declared.entry.Marked.{Marked}
use Rattle.td_journal.specs.Entries.{standing}
use Rattle.td_lasting.specs.DeskAnswers.{last_message, message_of}
use Rattle.td_lasting.proofs.Messages.{message_found, message_is, message_passed, no_rebuild}
use Rattle.td_lasting.proofs.Messages.{not_of_key, not_standing, read_at, search_names}
use Rattle.td_lasting.proofs.building.message_of.Goals as goal
use Rattle.td_lasting.proofs.building.message_of.Goals.{in-Nmu+else-stands}
use Rattle.td_lasting.proofs.building.message_of.Goals.{else-stands-via-then-stands+else-is_ok}
use Rattle.td_lasting.proofs.building.message_of.Goals.{else-stands-via-else-stands, in_default}

pub returns-then-is_ok : goal.returns-then-is_ok
returns-then-is_ok c =
    let ms = c.as_slice-entries.result.now in
    let k = c.args.key.now in
    let m = c.index-entries-entries.result in
    let back = c.loop-back.back in
    let n = length ms - 1 - back in
    let at : slice_get ms n ≡ Some m = read_at ms n m (omega arith) c.index-entries-entries.is in
    let next : length ms - back ≡ n + 1 = omega arith in
    let so_far : last_message k (standing ms) ≡ last_message k (standing (take (n + 1) ms)) =
    c.loop-back.invariant ∙ ap (λ (i : ℕ). last_message k (standing (take i ms))) next in
    let named : names m.entry.keys k ≡ true =
    ap (λ (l : List Key). names l k) (sym c.as_slice.ensures.keys)
    ∙ search_names c.as_slice.result.now k c.binary_search.result
    (ap ascending c.as_slice.ensures.keys ∙ c.as_slice.ensures.rising)
    c.binary_search.ensures.bound c.binary_search.ensures.position
    ∙ sym c.is_ok.ensures.value ∙ c.if-is_ok.true in
    c.as_str.ensures.text
    ∙ message_found k ms ms n m c.in-Nmu.message at so_far
    (message_is k m c.in-Nmu.number c.in-Nmu.extra c.in-Nmu.message
    (sym c.stands.ensures ∙ c.if-stands.true) c.in-Nmu.is named)
    ∙ ap (λ (l : List Marked). message_of (standing l) k) c.as_slice-entries.ensures.entries

pub loop-back-preserved : goal.loop-back-preserved
loop-back-preserved c =
    let ms = c.as_slice-entries.result.now in
    let k = c.args.key.now in
    let m = c.index-entries-entries.result in
    let back = c.loop-back.back in
    let n = length ms - 1 - back in
    let at : slice_get ms n ≡ Some m = read_at ms n m (omega arith) c.index-entries-entries.is in
    let next : length ms - back ≡ n + 1 = omega arith in
    let rest : n ≡ length ms - (back + 1) = omega arith in
    let so_far : last_message k (standing ms) ≡ last_message k (standing (take (n + 1) ms)) =
    c.loop-back.invariant ∙ ap (λ (i : ℕ). last_message k (standing (take i ms))) next in
    let on = ap (λ (i : ℕ). last_message k (standing (take i ms))) rest in
    elim c.match-marked.branch [
      | in-Nmu+else-stands w ↦ elim w.else-stands.branch [
        | else-stands-via-then-stands+else-is_ok v ↦
            let named : names m.entry.keys k ≡ false =
            ap (λ (l : List Key). names l k) (sym v.as_slice.ensures.keys)
            ∙ search_names v.as_slice.result.now k v.binary_search.result
            (ap ascending v.as_slice.ensures.keys ∙ v.as_slice.ensures.rising)
            v.binary_search.ensures.bound
            v.binary_search.ensures.position
            ∙ sym v.is_ok.ensures.value ∙ v.if-is_ok.false in
            message_passed k ms ms n m at so_far
            (not_of_key k m w.in-Nmu.number w.in-Nmu.extra w.in-Nmu.message w.in-Nmu.is named)
            ∙ on
        | else-stands-via-else-stands v ↦
            message_passed k ms ms n m at so_far
            (not_standing k m (sym w.stands.ensures ∙ v.if-stands.false)) ∙ on
      ]
      | in_default w ↦
          message_passed k ms ms n m at so_far (no_rebuild k m w.in_default.not-Nmu) ∙ on
    ]
