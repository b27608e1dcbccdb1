-- `request_in`: its clauses.
use Rattle.std.proofs.Common.{◌≡◌, IfErr, Some, None, codes, subst, sym}
use Rattle.clap.specs.Walk.{first_of}
use Rattle.td_words.specs.CommandLine.{HasFiles, HasRun, HasTrack, HasTracker, HasWaves}
use Rattle.td_words.specs.Folder.{folder_in, path_if}
use Rattle.td_words.specs.Asked.{IsUsage, track_said}
use Rattle.td_words.specs.CheckWords.{HasCheck}
use Rattle.td_words.specs.DeskWords.{HasDesk}
use Rattle.td_words.specs.PlanWords.{HasPlan}
use Rattle.td_words.proofs.Asking.{rows_of_matches}
use Rattle.td_words.proofs.request.request_in.Goals as goal

pub returns-in-Some-2-clause-check : goal.returns-in-Some-2-clause-check
returns-in-Some-2-clause-check c w named has =
    c.check_in.ensures.check w
    (subst (λ options. HasCheck options w)
    (rows_of_matches c.args.matches.now c.subcommand.result _ c.in-Some.is
    c.subcommand.ensures.rows) has)

pub returns-in-Some-2-clause-check_said : goal.returns-in-Some-2-clause-check_said
returns-in-Some-2-clause-check_said c archs packages sources named has =
    c.check_in.ensures.said archs packages sources
    (subst (λ options. HasFiles options archs packages sources)
    (rows_of_matches c.args.matches.now c.subcommand.result _ c.in-Some.is
    c.subcommand.ensures.rows) has)

pub returns-in-Some-3-clause-track : goal.returns-in-Some-3-clause-track
returns-in-Some-3-clause-track c w named has =
    c.track_in.ensures.track w
    (subst (λ options. HasTrack c.args.present options w)
    (rows_of_matches c.args.matches.now c.subcommand.result _ c.in-Some.is
    c.subcommand.ensures.rows) has)

pub returns-in-Some-4-clause-waves : goal.returns-in-Some-4-clause-waves
returns-in-Some-4-clause-waves c w named has =
    c.waves_in.ensures.waves w
    (subst (λ options. HasWaves c.args.present options w)
    (rows_of_matches c.args.matches.now c.subcommand.result _ c.in-Some.is
    c.subcommand.ensures.rows) has)

pub returns-in-Some-5-clause-run : goal.returns-in-Some-5-clause-run
returns-in-Some-5-clause-run c w named has =
    c.run_in.ensures.run w
    (subst (λ options. HasRun c.args.present options w)
    (rows_of_matches c.args.matches.now c.subcommand.result _ c.in-Some.is
    c.subcommand.ensures.rows) has)

pub returns-in-Some-3-clause-track_said : goal.returns-in-Some-3-clause-track_said
returns-in-Some-3-clause-track_said c archs packages sources tracker named has =
    let rows = rows_of_matches c.args.matches.now c.subcommand.result _ c.in-Some.is
    c.subcommand.ensures.rows in
    subst (λ options. IfErr c.track_in.result (λ e. IsUsage e (track_said options))) (sym rows)
    (c.track_in.ensures.said archs packages sources tracker
    (subst (λ options. HasTracker c.args.present options archs packages sources tracker) rows has))

pub returns-in-Some-5-clause-run_said : goal.returns-in-Some-5-clause-run_said
returns-in-Some-5-clause-run_said c archs packages sources named has =
    c.run_in.ensures.said archs packages sources
    (subst (λ options. HasFiles options archs packages sources)
    (rows_of_matches c.args.matches.now c.subcommand.result _ c.in-Some.is
    c.subcommand.ensures.rows) has)

pub returns-in-Some-6-clause-plan : goal.returns-in-Some-6-clause-plan
returns-in-Some-6-clause-plan c w named has =
    c.plan_in.ensures.plan w
    (subst (λ options. HasPlan c.args.present options w)
    (rows_of_matches c.args.matches.now c.subcommand.result _ c.in-Some.is
    c.subcommand.ensures.rows) has)

pub returns-in-Some-6-clause-plan_said : goal.returns-in-Some-6-clause-plan_said
returns-in-Some-6-clause-plan_said c archs packages sources tracker message named has text =
    let rows = rows_of_matches c.args.matches.now c.subcommand.result _ c.in-Some.is
    c.subcommand.ensures.rows in
    c.plan_in.ensures.said archs packages sources tracker message
    (subst (λ options. HasTracker c.args.present options archs packages sources tracker) rows has)
    (subst (λ options. first_of (codes "message") options ≡ Some message) rows text)

pub returns-in-Some-3-clause-track_lacking : goal.returns-in-Some-3-clause-track_lacking
returns-in-Some-3-clause-track_lacking c archs packages sources folder named has none given =
    let rows = rows_of_matches c.args.matches.now c.subcommand.result _ c.in-Some.is
    c.subcommand.ensures.rows in
    c.track_in.ensures.lacking archs packages sources folder
    (subst (λ options. HasFiles options archs packages sources) rows has)
    (subst (λ options. path_if c.args.present.tracker (codes "tracker") options ≡ None) rows none)
    (subst (λ options. folder_in options ≡ Some folder) rows given)

pub returns-in-Some-4-clause-waves_lacking : goal.returns-in-Some-4-clause-waves_lacking
returns-in-Some-4-clause-waves_lacking c archs packages sources folder named has none given =
    let rows = rows_of_matches c.args.matches.now c.subcommand.result _ c.in-Some.is
    c.subcommand.ensures.rows in
    c.waves_in.ensures.lacking archs packages sources folder
    (subst (λ options. HasFiles options archs packages sources) rows has)
    (subst (λ options. path_if c.args.present.tracker (codes "tracker") options ≡ None) rows none)
    (subst (λ options. folder_in options ≡ Some folder) rows given)

pub returns-in-Some-6-clause-plan_lacking : goal.returns-in-Some-6-clause-plan_lacking
returns-in-Some-6-clause-plan_lacking c archs packages sources folder named has none given =
    let rows = rows_of_matches c.args.matches.now c.subcommand.result _ c.in-Some.is
    c.subcommand.ensures.rows in
    c.plan_in.ensures.lacking archs packages sources folder
    (subst (λ options. HasFiles options archs packages sources) rows has)
    (subst (λ options. path_if c.args.present.tracker (codes "tracker") options ≡ None) rows none)
    (subst (λ options. folder_in options ≡ Some folder) rows given)

pub returns-in-Some-7-clause-desk : goal.returns-in-Some-7-clause-desk
returns-in-Some-7-clause-desk c w named has =
    c.desk_in.ensures.desk w
    (subst (λ options. HasDesk c.args.present options w)
    (rows_of_matches c.args.matches.now c.subcommand.result _ c.in-Some.is
    c.subcommand.ensures.rows) has)
