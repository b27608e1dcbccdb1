-- `FileDesk::answer`: what was appended of an answer may be cut off again.
use Rattle.std.proofs.Common.{◌≡◌, length, arith}
use Rattle.std.specs.String.{string_bytes}
use Rattle.td_rows.proofs.Appends.{cut_back}
use Rattle.td_lasting.proofs.desk.FileDesk.answer.Goals as goal

pub truncate-requires : goal.truncate-requires
truncate-requires g c =
    let len : c.len-start.result ≡ length (string_bytes c.args.out.now) =
    omega (arith, c.len-start.ensures, c.args.out.now.bytes.ok.0) in
    λ _. cut_back c.args.out.now c.answer_heard-answered.new.out c.len-start.result len
    c.answer_heard-answered.ensures.front
