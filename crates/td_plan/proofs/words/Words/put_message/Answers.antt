-- `Words::put_message`: the call of `truncate`.
use Rattle.std.proofs.Common.{◌≡◌, length, arith}
use Rattle.std.specs.String.{string_bytes}
use Rattle.td_rows.proofs.Appends.{cut_back}
use Rattle.td_plan.proofs.words.Words.put_message.Goals as goal

pub truncate-requires : goal.truncate-requires
truncate-requires c =
    let len : c.len-start.result ≡ length (string_bytes c.args.out.now) =
    omega (arith, c.len-start.ensures, c.args.out.now.bytes.ok.0) in
    λ _. cut_back c.args.out.now c.write_message-done.new.out c.len-start.result len
    c.write_message-done.ensures.front
