-- `read_words`: its clauses.
use Rattle.td_words.specs.Asked.{IsUsage, builders_said, track_said}
use Rattle.td_words.proofs.Asking.{memory_said}
use Rattle.std.proofs.Common.{◌≡◌, map, string_bytes, [], Some, None, codes, sym, refl, ap, subst}
use Rattle.std.proofs.Common.{◌∙◌, IfErr, IfOk}
use Rattle.std.proofs.lemmas.Result.{IfOk-weaker}
use Rattle.clap.specs.Faults.{fault_of}
use Rattle.clap.specs.Simple.{subcommand_rows_of}
use Rattle.clap.specs.Walk.{first_of}
use Rattle.td_words.specs.CommandLine.{HasFiles, HasRun, HasTrack, HasTracker, HasWaves}
use Rattle.td_words.specs.CommandLine.{is_explained, name_in, options_of, rows_in}
use Rattle.td_words.specs.CheckWords.{HasCheck, check_said}
use Rattle.td_words.specs.Folder.{folder_in, path_if, tracker_said}
use Rattle.td_words.specs.DeskWords.{HasDesk}
use Rattle.td_words.specs.PlanWords.{HasPlan, line_words_said}
use Rattle.td_words.specs.Asked.{Asks, IsGivenBy, check_of, desk_of, plan_of, report_of}
use Rattle.td_words.specs.Asked.{request_words, run_of, waves_of}
use Rattle.td_words.specs.declared.request.Request.TheVariants.{Simulate}
use Rattle.td_words.specs.declared.request.WordsFault.TheVariants.{NoMemory}
use Rattle.td_words.proofs.Asking.{asks, flag_of_call, holds_of_call, only_memory, only_of_call}
use Rattle.td_words.proofs.Asking.{rows_are_asked, said_of_words}
use Rattle.td_words.proofs.request.read_words.Goals as goal

pub returns-in-Ok-clause-simulate : goal.returns-in-Ok-clause-simulate
returns-in-Ok-clause-simulate c asking =
    let m = c.in-Ok.matches in
    let texts = map string_bytes c.args.words.now in
    let rows = rows_are_asked _ m texts c.in_ok-command.ensures c.in-Ok.ensures.matches in
    holds_of_call (λ q. q ≡ Simulate) (λ e. e ≡ NoMemory) c.request_in.result
    c.is_explained_in.result c.call_of.result c.call_of.ensures
    (rw (c.request_in.ensures.simulate (ap name_in rows ∙ asking.1)) refl)

pub returns-in-Ok-clause-check : goal.returns-in-Ok-clause-check
returns-in-Ok-clause-check c w asking =
    let m = c.in-Ok.matches in
    let texts = map string_bytes c.args.words.now in
    let rows = rows_are_asked _ m texts c.in_ok-command.ensures c.in-Ok.ensures.matches in
    holds_of_call (λ r. request_words r ≡ check_of w) (λ e. e ≡ NoMemory)
    c.request_in.result c.is_explained_in.result
    c.call_of.result c.call_of.ensures
    (c.request_in.ensures.check w (ap name_in rows ∙ asking.0.1)
    (subst (λ o. HasCheck (rows_in o) w) (sym rows) asking.1))

pub returns-in-Ok-clause-track : goal.returns-in-Ok-clause-track
returns-in-Ok-clause-track c w asking =
    let m = c.in-Ok.matches in
    let texts = map string_bytes c.args.words.now in
    let rows = rows_are_asked _ m texts c.in_ok-command.ensures c.in-Ok.ensures.matches in
    holds_of_call (λ r. request_words r ≡ report_of w) (λ e. e ≡ NoMemory)
    c.request_in.result c.is_explained_in.result
    c.call_of.result c.call_of.ensures
    (c.request_in.ensures.track w (ap name_in rows ∙ asking.0.1)
    (subst (λ o. HasTrack c.args.present (rows_in o) w) (sym rows) asking.1))

pub returns-in-Ok-clause-waves : goal.returns-in-Ok-clause-waves
returns-in-Ok-clause-waves c w asking =
    let m = c.in-Ok.matches in
    let texts = map string_bytes c.args.words.now in
    let rows = rows_are_asked _ m texts c.in_ok-command.ensures c.in-Ok.ensures.matches in
    holds_of_call (λ r. request_words r ≡ waves_of w) (λ e. e ≡ NoMemory)
    c.request_in.result c.is_explained_in.result
    c.call_of.result c.call_of.ensures
    (c.request_in.ensures.waves w (ap name_in rows ∙ asking.0.1)
    (subst (λ o. HasWaves c.args.present (rows_in o) w) (sym rows) asking.1))

pub returns-in-Ok-clause-run : goal.returns-in-Ok-clause-run
returns-in-Ok-clause-run c w asking =
    let m = c.in-Ok.matches in
    let texts = map string_bytes c.args.words.now in
    let rows = rows_are_asked _ m texts c.in_ok-command.ensures c.in-Ok.ensures.matches in
    holds_of_call (λ r. request_words r ≡ run_of w) (λ e. e ≡ NoMemory)
    c.request_in.result c.is_explained_in.result
    c.call_of.result c.call_of.ensures
    (c.request_in.ensures.run w (ap name_in rows ∙ asking.0.1)
    (subst (λ o. HasRun c.args.present (rows_in o) w) (sym rows) asking.1))

pub returns-in-Ok-clause-only : goal.returns-in-Ok-clause-only
returns-in-Ok-clause-only c =
    let m = c.in-Ok.matches in
    let texts = map string_bytes c.args.words.now in
    let rows = rows_are_asked _ m texts c.in_ok-command.ensures c.in-Ok.ensures.matches in
    let kinds = said_of_words (λ a. fault_of a texts ≡ []) _ c.in_ok-command.ensures
    c.in-Ok.ensures.kinds in
    only_of_call (λ r. Asks c.args.present texts (request_words r)) c.request_in.result
    c.is_explained_in.result
    c.call_of.result c.call_of.ensures
    (IfOk-weaker c.request_in.result (λ r.
    IsGivenBy c.args.present (subcommand_rows_of m) (request_words r))
    (λ r. Asks c.args.present texts (request_words r))
    (λ r is. asks c.args.present texts (subcommand_rows_of m) (request_words r) rows kinds is)
    c.request_in.ensures.only)

pub returns-in-Ok-clause-explained : goal.returns-in-Ok-clause-explained
returns-in-Ok-clause-explained c =
    let m = c.in-Ok.matches in
    let texts = map string_bytes c.args.words.now in
    let rows = rows_are_asked _ m texts c.in_ok-command.ensures c.in-Ok.ensures.matches in
    subst (λ b. IfOk c.call_of.result (λ call. call.explained ≡ b))
    (c.is_explained_in.ensures ∙ ap (λ o. is_explained (rows_in o)) rows)
    (flag_of_call c.request_in.result c.is_explained_in.result c.call_of.result c.call_of.ensures)

pub returns-in-Err-clause-simulate : goal.returns-in-Err-clause-simulate
returns-in-Err-clause-simulate c asking =
    c.fault_of.ensures (only_memory _ (map string_bytes c.args.words.now) c.in-Err.error
    c.in_ok-command.ensures asking.0 c.in-Err.ensures.kinds)

pub returns-in-Err-clause-check : goal.returns-in-Err-clause-check
returns-in-Err-clause-check c w asking =
    c.fault_of.ensures (only_memory _ (map string_bytes c.args.words.now) c.in-Err.error
    c.in_ok-command.ensures asking.0.0 c.in-Err.ensures.kinds)

pub returns-in-Err-clause-track : goal.returns-in-Err-clause-track
returns-in-Err-clause-track c w asking =
    c.fault_of.ensures (only_memory _ (map string_bytes c.args.words.now) c.in-Err.error
    c.in_ok-command.ensures asking.0.0 c.in-Err.ensures.kinds)

pub returns-in-Err-clause-waves : goal.returns-in-Err-clause-waves
returns-in-Err-clause-waves c w asking =
    c.fault_of.ensures (only_memory _ (map string_bytes c.args.words.now) c.in-Err.error
    c.in_ok-command.ensures asking.0.0 c.in-Err.ensures.kinds)

pub returns-in-Err-clause-run : goal.returns-in-Err-clause-run
returns-in-Err-clause-run c w asking =
    c.fault_of.ensures (only_memory _ (map string_bytes c.args.words.now) c.in-Err.error
    c.in_ok-command.ensures asking.0.0 c.in-Err.ensures.kinds)

pub returns-in-Ok-clause-track_said : goal.returns-in-Ok-clause-track_said
returns-in-Ok-clause-track_said c archs packages sources tracker asking has =
    let m = c.in-Ok.matches in
    let texts = map string_bytes c.args.words.now in
    let rows = rows_are_asked _ m texts c.in_ok-command.ensures c.in-Ok.ensures.matches in
    holds_of_call (λ q. Unit {0}) (λ e. IsUsage e (track_said (options_of texts)))
    c.request_in.result c.is_explained_in.result c.call_of.result c.call_of.ensures
    (subst (λ o. IfErr c.request_in.result (λ e. IsUsage e (track_said (rows_in o)))) rows
    (c.request_in.ensures.track_said archs packages sources tracker (ap name_in rows ∙ asking.1)
    (subst (λ o. HasTracker c.args.present (rows_in o) archs packages sources tracker)
    (sym rows) has)))

pub returns-in-Err-clause-track_said : goal.returns-in-Err-clause-track_said
returns-in-Err-clause-track_said c archs packages sources tracker asking has =
    memory_said _ _ (c.fault_of.ensures (only_memory _ (map string_bytes c.args.words.now)
    c.in-Err.error c.in_ok-command.ensures asking.0 c.in-Err.ensures.kinds))

pub returns-in-Ok-clause-check_said : goal.returns-in-Ok-clause-check_said
returns-in-Ok-clause-check_said c archs packages sources asking has =
    let m = c.in-Ok.matches in
    let texts = map string_bytes c.args.words.now in
    let rows = rows_are_asked _ m texts c.in_ok-command.ensures c.in-Ok.ensures.matches in
    holds_of_call (λ q. Unit {0}) (λ e. IsUsage e check_said) c.request_in.result
    c.is_explained_in.result c.call_of.result c.call_of.ensures
    (c.request_in.ensures.check_said archs packages sources (ap name_in rows ∙ asking.1)
    (subst (λ o. HasFiles (rows_in o) archs packages sources) (sym rows) has))

pub returns-in-Err-clause-check_said : goal.returns-in-Err-clause-check_said
returns-in-Err-clause-check_said c archs packages sources asking has =
    memory_said _ _ (c.fault_of.ensures (only_memory _ (map string_bytes c.args.words.now)
    c.in-Err.error c.in_ok-command.ensures asking.0 c.in-Err.ensures.kinds))

pub returns-in-Ok-clause-run_said : goal.returns-in-Ok-clause-run_said
returns-in-Ok-clause-run_said c archs packages sources asking has =
    let m = c.in-Ok.matches in
    let texts = map string_bytes c.args.words.now in
    let rows = rows_are_asked _ m texts c.in_ok-command.ensures c.in-Ok.ensures.matches in
    holds_of_call (λ q. Unit {0}) (λ e. IsUsage e builders_said) c.request_in.result
    c.is_explained_in.result c.call_of.result c.call_of.ensures
    (c.request_in.ensures.run_said archs packages sources (ap name_in rows ∙ asking.1)
    (subst (λ o. HasFiles (rows_in o) archs packages sources) (sym rows) has))

pub returns-in-Err-clause-run_said : goal.returns-in-Err-clause-run_said
returns-in-Err-clause-run_said c archs packages sources asking has =
    memory_said _ _ (c.fault_of.ensures (only_memory _ (map string_bytes c.args.words.now)
    c.in-Err.error c.in_ok-command.ensures asking.0 c.in-Err.ensures.kinds))

pub returns-in-Ok-clause-plan : goal.returns-in-Ok-clause-plan
returns-in-Ok-clause-plan c w asking =
    let m = c.in-Ok.matches in
    let texts = map string_bytes c.args.words.now in
    let rows = rows_are_asked _ m texts c.in_ok-command.ensures c.in-Ok.ensures.matches in
    holds_of_call (λ r. request_words r ≡ plan_of w) (λ e. e ≡ NoMemory)
    c.request_in.result c.is_explained_in.result
    c.call_of.result c.call_of.ensures
    (c.request_in.ensures.plan w (ap name_in rows ∙ asking.0.1)
    (subst (λ o. HasPlan c.args.present (rows_in o) w) (sym rows) asking.1))

pub returns-in-Err-clause-plan : goal.returns-in-Err-clause-plan
returns-in-Err-clause-plan c w asking =
    c.fault_of.ensures (only_memory _ (map string_bytes c.args.words.now) c.in-Err.error
    c.in_ok-command.ensures asking.0.0 c.in-Err.ensures.kinds)

pub returns-in-Ok-clause-plan_said : goal.returns-in-Ok-clause-plan_said
returns-in-Ok-clause-plan_said c archs packages sources tracker message asking has text =
    let m = c.in-Ok.matches in
    let texts = map string_bytes c.args.words.now in
    let rows = rows_are_asked _ m texts c.in_ok-command.ensures c.in-Ok.ensures.matches in
    holds_of_call (λ q. Unit {0}) (λ e. IsUsage e (line_words_said message)) c.request_in.result
    c.is_explained_in.result c.call_of.result c.call_of.ensures
    (c.request_in.ensures.plan_said archs packages sources tracker message
    (ap name_in rows ∙ asking.1)
    (subst (λ o. HasTracker c.args.present (rows_in o) archs packages sources tracker)
    (sym rows) has)
    (subst (λ o. first_of (codes "message") (rows_in o) ≡ Some message) (sym rows) text))

pub returns-in-Err-clause-plan_said : goal.returns-in-Err-clause-plan_said
returns-in-Err-clause-plan_said c archs packages sources tracker message asking has text =
    memory_said _ _ (c.fault_of.ensures (only_memory _ (map string_bytes c.args.words.now)
    c.in-Err.error c.in_ok-command.ensures asking.0 c.in-Err.ensures.kinds))

pub returns-in-Ok-clause-track_lacking : goal.returns-in-Ok-clause-track_lacking
returns-in-Ok-clause-track_lacking c archs packages sources folder asking has none given =
    let m = c.in-Ok.matches in
    let texts = map string_bytes c.args.words.now in
    let rows = rows_are_asked _ m texts c.in_ok-command.ensures c.in-Ok.ensures.matches in
    holds_of_call (λ q. Unit {0}) (λ e. IsUsage e tracker_said) c.request_in.result
    c.is_explained_in.result c.call_of.result c.call_of.ensures
    (c.request_in.ensures.track_lacking archs packages sources folder (ap name_in rows ∙ asking.1)
    (subst (λ o. HasFiles (rows_in o) archs packages sources) (sym rows) has)
    (subst (λ o. path_if c.args.present.tracker (codes "tracker") (rows_in o) ≡ None) (sym rows)
    none) (subst (λ o. folder_in (rows_in o) ≡ Some folder) (sym rows) given))

pub returns-in-Err-clause-track_lacking : goal.returns-in-Err-clause-track_lacking
returns-in-Err-clause-track_lacking c archs packages sources folder asking has none given =
    memory_said _ _ (c.fault_of.ensures (only_memory _ (map string_bytes c.args.words.now)
    c.in-Err.error c.in_ok-command.ensures asking.0 c.in-Err.ensures.kinds))

pub returns-in-Ok-clause-waves_lacking : goal.returns-in-Ok-clause-waves_lacking
returns-in-Ok-clause-waves_lacking c archs packages sources folder asking has none given =
    let m = c.in-Ok.matches in
    let texts = map string_bytes c.args.words.now in
    let rows = rows_are_asked _ m texts c.in_ok-command.ensures c.in-Ok.ensures.matches in
    holds_of_call (λ q. Unit {0}) (λ e. IsUsage e tracker_said) c.request_in.result
    c.is_explained_in.result c.call_of.result c.call_of.ensures
    (c.request_in.ensures.waves_lacking archs packages sources folder (ap name_in rows ∙ asking.1)
    (subst (λ o. HasFiles (rows_in o) archs packages sources) (sym rows) has)
    (subst (λ o. path_if c.args.present.tracker (codes "tracker") (rows_in o) ≡ None) (sym rows)
    none) (subst (λ o. folder_in (rows_in o) ≡ Some folder) (sym rows) given))

pub returns-in-Err-clause-waves_lacking : goal.returns-in-Err-clause-waves_lacking
returns-in-Err-clause-waves_lacking c archs packages sources folder asking has none given =
    memory_said _ _ (c.fault_of.ensures (only_memory _ (map string_bytes c.args.words.now)
    c.in-Err.error c.in_ok-command.ensures asking.0 c.in-Err.ensures.kinds))

pub returns-in-Ok-clause-plan_lacking : goal.returns-in-Ok-clause-plan_lacking
returns-in-Ok-clause-plan_lacking c archs packages sources folder asking has none given =
    let m = c.in-Ok.matches in
    let texts = map string_bytes c.args.words.now in
    let rows = rows_are_asked _ m texts c.in_ok-command.ensures c.in-Ok.ensures.matches in
    holds_of_call (λ q. Unit {0}) (λ e. IsUsage e tracker_said) c.request_in.result
    c.is_explained_in.result c.call_of.result c.call_of.ensures
    (c.request_in.ensures.plan_lacking archs packages sources folder (ap name_in rows ∙ asking.1)
    (subst (λ o. HasFiles (rows_in o) archs packages sources) (sym rows) has)
    (subst (λ o. path_if c.args.present.tracker (codes "tracker") (rows_in o) ≡ None) (sym rows)
    none) (subst (λ o. folder_in (rows_in o) ≡ Some folder) (sym rows) given))

pub returns-in-Err-clause-plan_lacking : goal.returns-in-Err-clause-plan_lacking
returns-in-Err-clause-plan_lacking c archs packages sources folder asking has none given =
    memory_said _ _ (c.fault_of.ensures (only_memory _ (map string_bytes c.args.words.now)
    c.in-Err.error c.in_ok-command.ensures asking.0 c.in-Err.ensures.kinds))

pub returns-in-Ok-clause-desk : goal.returns-in-Ok-clause-desk
returns-in-Ok-clause-desk c w asking =
    let m = c.in-Ok.matches in
    let texts = map string_bytes c.args.words.now in
    let rows = rows_are_asked _ m texts c.in_ok-command.ensures c.in-Ok.ensures.matches in
    holds_of_call (λ r. request_words r ≡ desk_of w) (λ e. e ≡ NoMemory)
    c.request_in.result c.is_explained_in.result
    c.call_of.result c.call_of.ensures
    (c.request_in.ensures.desk w (ap name_in rows ∙ asking.0.1)
    (subst (λ o. HasDesk c.args.present (rows_in o) w) (sym rows) asking.1))

pub returns-in-Err-clause-desk : goal.returns-in-Err-clause-desk
returns-in-Err-clause-desk c w asking =
    c.fault_of.ensures (only_memory _ (map string_bytes c.args.words.now) c.in-Err.error
    c.in_ok-command.ensures asking.0.0 c.in-Err.ensures.kinds)
