-- `put_standing`: an entry more; and what is written where nothing stands.
use Rattle.std.proofs.Common.{◌≡◌, ◌&&◌, ℕ, List, Bool, true, false, Some, map, length}
use Rattle.std.proofs.Common.{ap}
use Rattle.std.proofs.Common.{arith, refl, sym, ◌+◌, ◌++◌, ◌∙◌}
use Rattle.std.proofs.lemmas.List.{take_all}
use Rattle.td_text.specs.Lines.{text_of}
use Rattle.td_supply.specs.Supply.{SupplyView}
use Rattle.std.specs.Prelude.{slice_get}
use Rattle.std.specs.String.{string_bytes}
use Rattle.td_core.specs.Offers.{supply_now}
use Rattle.td_journal.specs.Commands.{is_command}
use Rattle.td_journal.specs.declared.entry.Marked.{Marked}
use Rattle.td_lasting.specs.Sending.{is_sent, sent_from, sent_lines}
use Rattle.td_lasting.proofs.Messages.{read_at}
use Rattle.td_lasting.proofs.SentLines.{standing_none, standing_passed, standing_put, standing_some}
use Rattle.td_lasting.proofs.sending.put_standing.Goals as goal
use Rattle.td_lasting.proofs.sending.put_standing.Goals.{else-stands}
use Rattle.td_lasting.proofs.sending.put_standing.Goals.{then-stands+then-is_command+in_ok-put_sent}
use Rattle.td_lasting.proofs.sending.put_standing.Goals.{else-stands-via-then-stands+else-is_command}
use Rattle.td_lasting.proofs.sending.put_standing.Goals.{else-stands-via-else-stands}

pub loop-at-preserved : goal.loop-at-preserved
loop-at-preserved c =
    let s = supply_now c.args.books.now.stock c.args.books.now.history in
    let suites : List (List ℕ) = map (λ s. s.now) c.args.suites.now in
    let ms = c.as_slice-entries.result.now in
    let n = c.loop-at.at in
    let m = c.index-entries-at.result in
    let first = string_bytes c.args.out.now in
    let before = string_bytes c.loop-at.out in
    let now = string_bytes c.if-stands.out in
    let at : slice_get ms n ≡ Some m =
    read_at ms n m c.loop-at-test.true c.index-entries-at.is in
    elim c.if-stands.branch [
      | then-stands+then-is_command+in_ok-put_sent w ↦
          let sent : is_sent m ≡ true =
          ap (λ (b : Bool). b && is_command m.entry.kind) (sym c.stands.ensures ∙ w.if-stands.true)
          ∙ sym w.is_command.ensures ∙ w.if-is_command.true in
          standing_put s suites ms n m first before now at sent c.loop-at.invariant
          (ap string_bytes w.out-is ∙ w.in_ok-put_sent.ensures.ok
          ∙ ap (λ (v : SupplyView). before ++ text_of (sent_lines v suites (n + 1) m))
          w.supply.ensures)
      | else-stands w ↦ elim w.else-stands.branch [
        | else-stands-via-then-stands+else-is_command v ↦
            let other : is_sent m ≡ false =
            ap (λ (b : Bool). b && is_command m.entry.kind)
            (sym c.stands.ensures ∙ v.if-stands.true)
            ∙ sym v.is_command.ensures ∙ v.if-is_command.false in
            standing_passed s suites ms n m first now at other
            (ap string_bytes w.out-is ∙ c.loop-at.invariant)
        | else-stands-via-else-stands v ↦
            let other : is_sent m ≡ false =
            ap (λ (b : Bool). b && is_command m.entry.kind)
            (sym c.stands.ensures ∙ v.if-stands.false) in
            standing_passed s suites ms n m first now at other
            (ap string_bytes w.out-is ∙ c.loop-at.invariant)
      ]
    ]

pub returns-in_ok-push_str-clause-ok : goal.returns-in_ok-push_str-clause-ok
returns-in_ok-push_str-clause-ok c =
    let s = supply_now c.args.books.now.stock c.args.books.now.history in
    let suites : List (List ℕ) = map (λ s. s.now) c.args.suites.now in
    let first = string_bytes c.args.out.now in
    let wrote = c.loop-at.invariant
    ∙ ap (λ (ms : List Marked). first ++ text_of (sent_from s suites 1 ms))
    (take_all c.loop-at.at c.as_slice-entries.result.now c.loop-at-test.false
    ∙ c.as_slice-entries.ensures.entries ∙ c.journal.ensures) in
    let start : c.len-start.result ≡ length (string_bytes c.args.out.now) =
    omega (arith, c.len-start.ensures, c.args.out.now.bytes.ok.0) in
    let end : c.len.result ≡ length (string_bytes c.loop-at.out) =
    omega (arith, c.len.ensures, c.loop-at.out.bytes.ok.0) in
    record {
      text = standing_none s suites c.args.books.now.history.journal first
          (string_bytes c.loop-at.out) (string_bytes c.push_str.new.self) wrote
          (sym end ∙ c.if-len-start.true ∙ start)
          c.in_ok-push_str.ensures.bytes;
      refusal = refl;
    }

pub returns-else-len-start-clause-ok : goal.returns-else-len-start-clause-ok
returns-else-len-start-clause-ok c =
    let s = supply_now c.args.books.now.stock c.args.books.now.history in
    let suites : List (List ℕ) = map (λ s. s.now) c.args.suites.now in
    let first = string_bytes c.args.out.now in
    let wrote = c.loop-at.invariant
    ∙ ap (λ (ms : List Marked). first ++ text_of (sent_from s suites 1 ms))
    (take_all c.loop-at.at c.as_slice-entries.result.now c.loop-at-test.false
    ∙ c.as_slice-entries.ensures.entries ∙ c.journal.ensures) in
    let start : c.len-start.result ≡ length (string_bytes c.args.out.now) =
    omega (arith, c.len-start.ensures, c.args.out.now.bytes.ok.0) in
    let end : c.len.result ≡ length (string_bytes c.loop-at.out) =
    omega (arith, c.len.ensures, c.loop-at.out.bytes.ok.0) in
    record {
      text = standing_some s suites c.args.books.now.history.journal first
          (string_bytes c.loop-at.out) wrote
          (λ same. c.if-len-start.false (end ∙ same ∙ sym start));
      refusal = refl;
    }
