-- `command`: what it answers.
use Rattle.std.proofs.Common.{◌≡◌}
use Rattle.std.proofs.lemmas.Result.{IfOk-weaker}
use Rattle.clap.specs.Simple.{app_of, with_subcommand}
use Rattle.td_words.specs.CommandLine.{bare_desk, check_shape, desk_by, desk_shape, plan_shape}
use Rattle.td_words.specs.CommandLine.{run_shape, simulate_shape, track_shape, waves_shape}
use Rattle.td_words.proofs.command.command.Goals as goal

pub returns : goal.returns
returns c =
    let strict = c.args.strict in
    let one = with_subcommand bare_desk simulate_shape in
    let two = with_subcommand one (check_shape strict) in
    let three = with_subcommand two (track_shape strict) in
    let four = with_subcommand three (waves_shape strict) in
    let five = with_subcommand four (plan_shape strict) in
    let six = with_subcommand five (run_shape strict) in
    let of_one = IfOk-weaker c.with_part-whole.result _ (λ x. app_of x ≡ one)
    (λ x h. h bare_desk simulate_shape c.program.ensures c.simulate.ensures.shape
    c.simulate.ensures.globals) c.with_part-whole.ensures in
    let of_two = IfOk-weaker c.with_part-whole-2.result _ (λ x. app_of x ≡ two)
    (λ x h. h one (check_shape strict) of_one c.check.ensures.shape c.check.ensures.globals)
    c.with_part-whole-2.ensures in
    let of_three = IfOk-weaker c.with_part-whole-3.result _ (λ x. app_of x ≡ three)
    (λ x h. h two (track_shape strict) of_two c.track.ensures.shape c.track.ensures.globals)
    c.with_part-whole-3.ensures in
    let of_four = IfOk-weaker c.with_part-whole-4.result _ (λ x. app_of x ≡ four)
    (λ x h. h three (waves_shape strict) of_three c.waves.ensures.shape c.waves.ensures.globals)
    c.with_part-whole-4.ensures in
    let of_five = IfOk-weaker c.with_part-whole-5.result _ (λ x. app_of x ≡ five)
    (λ x h. h four (plan_shape strict) of_four c.plan.ensures.shape c.plan.ensures.globals)
    c.with_part-whole-5.ensures in
    let of_six = IfOk-weaker c.with_part-whole-6.result _ (λ x. app_of x ≡ six)
    (λ x h. h five (run_shape strict) of_five c.run.ensures.shape c.run.ensures.globals)
    c.with_part-whole-6.ensures in
    IfOk-weaker c.with_part.result _ (λ x. app_of x ≡ desk_by strict)
    (λ x h. h six (desk_shape strict) of_six c.desk.ensures.shape c.desk.ensures.globals)
    c.with_part.ensures
