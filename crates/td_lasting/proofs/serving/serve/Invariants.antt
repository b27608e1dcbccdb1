-- `serve`: some first lines are answered, and what is left can be told of behind them.
use Rattle.std.proofs.Common.{◌≡◌, ◌<◌, ◌≤◌, false, vec_len}
use Rattle.td_lasting.specs.Terms.{setting_of}
use Rattle.td_lasting.proofs.SessionSteps.{Serves}
use Rattle.td_lasting.proofs.serving.serve.Given as goal

abbrev pub invariant-loop-answered : goal.invariant-loop-answered
invariant-loop-answered g l = record {
  served : Serves (setting_of l.initial.desk.stock l.terms)
      (g.R.Turns.left l.initial.reader) (g.R.Turns.left l.reader) l.inlet
      l.initial.desk l.desk (g.W.Write.contents l.initial.writer) (g.W.Write.contents l.writer)
      l.refusals;
  stock : l.desk.stock ≡ l.initial.desk.stock;
  honest : l.desk.device.honest ≡ l.initial.desk.device.honest;
  running : l.desk.stopped ≡ false;
  reads : g.R.Turns.may_fail l.reader ≡ g.R.Turns.may_fail l.initial.reader;
  writes : g.W.Writer.can_fail l.writer ≡ g.W.Writer.can_fail l.initial.writer;
  counted : l.refusals ≤ l.answered;
  room : 0 < vec_len l.buffer;
}
