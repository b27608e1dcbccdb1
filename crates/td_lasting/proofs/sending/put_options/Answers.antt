-- `put_options`: with a dot or without, then option by option.
use Rattle.std.proofs.Common.{[], ap, sym, append-nil, ◌∙◌}
use Rattle.std.specs.String.{string_bytes}
use Rattle.td_rows.specs.Appending.{Grown}
use Rattle.td_rows.proofs.Appends.{grown_by, grown_by_nothing, grown_twice}
use Rattle.td_lasting.proofs.OptionTexts.{dot_by_extra, dot_by_message, no_dot, put_dw, put_nmu}
use Rattle.td_lasting.proofs.sending.put_options.Goals as goal
use Rattle.td_lasting.proofs.sending.put_options.Goals.{then-not-is_empty+in_ok-push_str-in-Nmu}
use Rattle.td_lasting.proofs.sending.put_options.Goals.{then-not-is_empty-via-then-not-is_empty}
use Rattle.td_lasting.proofs.sending.put_options.Goals.{then-not-is_empty-via-else-not-is_empty+then-not-is_empty-2}
use Rattle.td_lasting.proofs.sending.put_options.Goals.{else-not-is_empty+else-not-is_empty-2}

pub returns-in_ok-put_option-in-Nmu-clause-ok : goal.returns-in_ok-put_option-in-Nmu-clause-ok
returns-in_ok-put_option-in-Nmu-clause-ok c =
    let put = put_nmu c.put_option-in-Nmu.result c.args.kind.now c.in-Nmu.number c.in-Nmu.extra
    c.in-Nmu.message (string_bytes c.args.out.now) (string_bytes c.if-not-is_empty.out)
    (string_bytes c.put_option.new.out) (string_bytes c.put_option-in-Nmu.new.out)
    c.as_str.result.now c.as_str-in-Nmu.result.now in
    elim c.if-not-is_empty.branch [
      | then-not-is_empty+in_ok-push_str-in-Nmu w ↦
          elim w.then-not-is_empty.branch [
            | then-not-is_empty-via-then-not-is_empty v ↦
                put _ c.in-Nmu.is (dot_by_extra c.in-Nmu.message c.in-Nmu.extra c.is_empty.result
                c.is_empty.ensures v.if-not-is_empty.true)
                (ap string_bytes w.out-is ∙ w.in_ok-push_str-in-Nmu.ensures.bytes)
                c.as_str.ensures.text c.as_str-in-Nmu.ensures.text
                c.in_ok-put_option-in-Nmu.ensures.ok c.put_option-in-Nmu.ensures.ok
            | then-not-is_empty-via-else-not-is_empty+then-not-is_empty-2 v ↦
                put _ c.in-Nmu.is (dot_by_message c.in-Nmu.message c.in-Nmu.extra
                v.is_empty-else-not-is_empty.result v.is_empty-else-not-is_empty.ensures
                v.if-not-is_empty-2.true)
                (ap string_bytes w.out-is ∙ w.in_ok-push_str-in-Nmu.ensures.bytes)
                c.as_str.ensures.text c.as_str-in-Nmu.ensures.text
                c.in_ok-put_option-in-Nmu.ensures.ok c.put_option-in-Nmu.ensures.ok
          ]
      | else-not-is_empty+else-not-is_empty-2 w ↦
          put [] c.in-Nmu.is (no_dot c.in-Nmu.message c.in-Nmu.extra c.is_empty.result
          w.is_empty-else-not-is_empty.result c.is_empty.ensures w.if-not-is_empty.false
          w.is_empty-else-not-is_empty.ensures w.if-not-is_empty-2.false)
          (ap string_bytes w.out-is ∙ sym (append-nil (string_bytes c.args.out.now)))
          c.as_str.ensures.text c.as_str-in-Nmu.ensures.text
          c.in_ok-put_option-in-Nmu.ensures.ok c.put_option-in-Nmu.ensures.ok
    ]

pub returns-in_ok-put_option-in-Nmu-clause-front : goal.returns-in_ok-put_option-in-Nmu-clause-front
returns-in_ok-put_option-in-Nmu-clause-front c =
    let first : Grown (string_bytes c.args.out.now) (string_bytes c.if-not-is_empty.out) =
    elim c.if-not-is_empty.branch [
      | then-not-is_empty+in_ok-push_str-in-Nmu w ↦
          grown_by (string_bytes c.args.out.now) (string_bytes c.if-not-is_empty.out) _
          (ap string_bytes w.out-is ∙ w.in_ok-push_str-in-Nmu.ensures.bytes)
      | else-not-is_empty+else-not-is_empty-2 w ↦
          grown_by_nothing (string_bytes c.args.out.now) (string_bytes c.if-not-is_empty.out)
          (ap string_bytes w.out-is)
    ] in
    grown_twice (string_bytes c.args.out.now) (string_bytes c.if-not-is_empty.out)
    (string_bytes c.put_option-in-Nmu.new.out) first
    (grown_twice (string_bytes c.if-not-is_empty.out) (string_bytes c.put_option.new.out)
    (string_bytes c.put_option-in-Nmu.new.out) c.in_ok-put_option-in-Nmu.ensures.front
    c.put_option-in-Nmu.ensures.front)

pub returns-in_ok-push_str-in-Dw-clause-ok : goal.returns-in_ok-push_str-in-Dw-clause-ok
returns-in_ok-push_str-in-Dw-clause-ok c =
    put_dw c.put_option-in-Dw.result c.args.kind.now c.in-Dw.relation
    (string_bytes c.args.out.now) (string_bytes c.push_str-in-Dw.new.self)
    (string_bytes c.put_option-in-Dw.new.out) c.as_str-in-Dw.result.now c.in-Dw.is
    c.in_ok-push_str-in-Dw.ensures.bytes c.as_str-in-Dw.ensures.text c.put_option-in-Dw.ensures.ok
