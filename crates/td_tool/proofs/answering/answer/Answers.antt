-- `answer`: what it answers.
use Rattle.std.proofs.Common.{map, string_bytes}
use Rattle.td_words.specs.CommandLine.{is_explained, options_of}
use Rattle.td_tool.proofs.Asks.{simulated, checked, tracked, waved, planned, ran_script}
use Rattle.td_tool.proofs.Asks.{kept_desk, only_asked}
use Rattle.td_tool.proofs.answering.answer.Goals as goal

pub returns : goal.returns
returns g c =
    let words = map string_bytes c.args.words.now in
    let known = g.R.Read.remaining c.args.reader.now in
    let left = g.R.Read.remaining c.act.new.reader in
    let bytes = g.T.Texts.bytes c.args.texts.now in
    let can_fail = g.T.Texts.can_fail c.args.texts.now in
    let desks = g.T.Desks.desks c.args.texts.now in
    let reads = g.R.Reader.can_fail c.args.reader.now in
    let writes = g.W.Writer.can_fail c.args.output.now in
    let old = g.W.Write.contents c.args.output.now in
    let new = g.W.Write.contents c.act.new.output in
    let before = g.E.Write.contents c.args.faults.now in
    let said = g.E.Write.contents c.act.new.faults in
    let asked = c.read_call.result in
    let status = c.act.result in
    let explained = is_explained (options_of words) in
    let ran = c.act.ensures.request in
    let told = c.act.ensures.fault in
    let flag = c.read_call.ensures.explained in
    record {
      simulate =
          λ asks. simulated words known left bytes can_fail desks reads writes old new before said
          status
          asked
          explained ran told flag (c.read_call.ensures.simulate asks);
      check =
          λ w asks.
          checked words known left bytes can_fail desks reads writes old new before said status
          asked
          explained w ran told flag (c.read_call.ensures.check w asks);
      track =
          λ w asks.
          tracked words known left bytes can_fail desks reads writes old new before said status
          asked
          explained w ran told flag (c.read_call.ensures.track w asks);
      waves = λ w asks.
          waved words known left bytes can_fail desks reads writes old new before said status asked
          explained w ran told flag (c.read_call.ensures.waves w asks);
      plan =
          λ w asks.
          planned words known left bytes can_fail desks reads writes old new before said status
          asked
          explained w ran told flag (c.read_call.ensures.plan w asks);
      run =
          λ w asks.
          ran_script words known left bytes can_fail desks reads writes old new before said
          status asked
          explained w ran told flag (c.read_call.ensures.run w asks);
      desk =
          λ w asks. kept_desk words known left bytes can_fail desks reads writes old new before said
          status asked
          explained w ran told flag (c.read_call.ensures.desk w asks);
      others =
          only_asked words known left bytes can_fail desks reads writes old new before said status
          (g.T.Texts.can_be c.args.texts.now) asked ran told flag c.act.ensures.input
          c.read_call.ensures.only c.read_call.ensures.said;
    }
