-- `compile`: the clause `refused` and its loop.
use Rattle.std.proofs.Common.{rules}
use Rattle.td_query.proofs.PatternLists.{compiled_more, more, refused_here, sources_more}
use Rattle.td_query.proofs.compiling.compile.Goals as goal

pub returns-in-Err-BadPattern-clause-refused : goal.returns-in-Err-BadPattern-clause-refused
returns-in-Err-BadPattern-clause-refused c =
    refused_here c.args.size c.args.log.now c.loop-raw.raw-index _ c.saturating_sub.result
    c.loop-raw-test.true c.loop-raw.invariant.fine
    (c.in-Err-BadPattern.ensures.bad (search rules)) c.saturating_sub.ensures

pub loop-raw-preserved : goal.loop-raw-preserved
loop-raw-preserved c = record {
  sources = sources_more c.args.log.now c.loop-raw.raw-index _ c.loop-raw.patterns.items
      c.push.new.self.items c.in-Ok.pattern c.loop-raw-test.true c.in-Ok-push.ensures.items
      c.loop-raw.invariant.sources c.in-Ok.ensures.source;
  compiled = compiled_more c.loop-raw.patterns.items c.push.new.self.items c.in-Ok.pattern
      c.in-Ok-push.ensures.items c.loop-raw.invariant.compiled c.in-Ok.ensures.default;
  fine = more c.args.log.now c.loop-raw.raw-index _ c.loop-raw-test.true c.loop-raw.invariant.fine
      c.in-Ok.ensures.read;
}
