-- `serve`: before a line, at the ends of a session, and after a line more.
use Rattle.std.proofs.Common.{◌≡◌, ◌∙◌, ◌+◌, ◌≤◌, ℕ, Bool, true, false, if◌then◌else◌, []}
use Rattle.std.proofs.Common.{Option, Result, Ok, Err, ap, arith, refl, subst, sym}
use Rattle.std.proofs.lemmas.Result.{err_from_is_err_and}
use Rattle.td_supply.specs.Supply.{Stock}
use Rattle.td_lasting.specs.declared.framing.FrameFault.TheVariants as frame
use Rattle.td_lasting.specs.declared.framing.Framed.{Framed}
use Rattle.td_lasting.specs.declared.serving.ServeEnd.{ServeEnd}
use Rattle.td_lasting.specs.declared.serving.ServeFault.{ServeFault}
use Rattle.td_lasting.specs.Sessions.{IsServed}
use Rattle.td_lasting.specs.Terms.{setting_of}
use Rattle.td_lasting.specs.inner.Inlets.{InletView, TellsNext}
use Rattle.td_lasting.specs.inner.Served.{IsServedLine}
use Rattle.td_lasting.proofs.SessionSteps.{all_served, line_lost, line_served, none_read}
use Rattle.td_lasting.proofs.SessionSteps.{none_served, turn_at}
use Rattle.td_lasting.proofs.serving.serve.Goals as goal
use Rattle.td_lasting.proofs.serving.serve.Goals.{then-branch, else-branch}

-- ---- 1. how many lines were refused

refused_more : (n more : ℕ) (refused : Bool) → refused ≡ true → more ≡ n + 1
    → more ≡ n + (if refused then 1 else 0)
refused_more n more true is counted = counted
refused_more n more false is counted = absurd cc

none_more : (n more : ℕ) (refused : Bool) → refused ≡ false → more ≡ n
    → more ≡ n + (if refused then 1 else 0)
none_more n more true is counted = absurd cc
none_more n more false is counted = omega arith

at_most_one : (n more lines : ℕ) (refused : Bool) → more ≡ n + (if refused then 1 else 0)
    → n ≤ lines → more ≤ lines + 1
at_most_one n more lines true is counted = omega arith
at_most_one n more lines false is counted = omega arith

-- ---- 2. the goals

pub returns-in_err-buffer-clause-served : goal.returns-in_err-buffer-clause-served
returns-in_err-buffer-clause-served g c =
    let v = c.args.desk.now in
    let s = setting_of v.stock c.args.terms.now in
    let input = g.R.Turns.left c.args.reader.now in
    let before = g.W.Write.contents c.args.writer.now in
    let empty : InletView = record { ahead = []; long = false } in
    let p = err_from_is_err_and c.from_residual.result c.from_residual.ensures.1 in
    subst (λ (r : Result ServeEnd ServeFault). IsServed s input before before v v r)
    (sym (p.1 ∙ ap (λ (f : ServeFault). Err f) p.2))
    (none_read c.args.alloc s input input empty v v before before 0 frame.NoMemory
    (none_served s input empty v before refl refl c.rows-rows.ensures.rest c.requires.running))

pub loop-answered-init : goal.loop-answered-init
loop-answered-init g c =
    let v = c.args.desk.now in
    record {
      served = none_served (setting_of v.stock c.args.terms.now)
          (g.R.Turns.left c.args.reader.now) c.new-inlet.result v
          (g.W.Write.contents c.args.writer.now) c.new-inlet.ensures.ahead
          c.new-inlet.ensures.long c.rows-rows.ensures.rest c.requires.running;
      stock = refl;
      honest = refl;
      running = c.requires.running;
      reads = refl;
      writes = refl;
      counted = omega arith;
      room = c.in_ok-buffer.ensures;
    }

pub next-requires-clause-turn : goal.next-requires-clause-turn
next-requires-clause-turn g c = λ r waits.
    let l = c.loop-answered in
    let v = c.args.desk.now in
    c.requires.turn r l.writer
    (turn_at (setting_of v.stock c.args.terms.now) (g.R.Turns.left c.args.reader.now)
    (g.R.Turns.left l.reader) (g.R.Turns.left r) l.inlet v l.desk
    (g.W.Write.contents c.args.writer.now) (g.W.Write.contents l.writer) l.refusals
    l.invariant.served waits)

pub returns-in_err-framed-clause-served : goal.returns-in_err-framed-clause-served
returns-in_err-framed-clause-served g c =
    let l = c.loop-answered in
    let v = c.args.desk.now in
    let s = setting_of v.stock c.args.terms.now in
    let input = g.R.Turns.left c.args.reader.now in
    let before = g.W.Write.contents c.args.writer.now in
    let now = g.W.Write.contents l.writer in
    let p = err_from_is_err_and c.from_residual-in_err-framed.result
    c.from_residual-in_err-framed.ensures.1 in
    subst (λ (r : Result ServeEnd ServeFault). IsServed s input before now v l.desk r)
    (sym (p.1 ∙ ap (λ (f : ServeFault). Err f) p.2))
    (none_read c.args.alloc s input (g.R.Turns.left l.reader) l.inlet v l.desk before now
    l.refusals c.in_err-framed.field-0.0 l.invariant.served)

pub returns-in_default-clause-served : goal.returns-in_default-clause-served
returns-in_default-clause-served g c =
    let l = c.loop-answered in
    let v = c.args.desk.now in
    let remaining = g.R.Turns.left l.reader in
    let later = g.R.Turns.left c.next.new.reader in
    all_served (setting_of v.stock c.args.terms.now) (g.R.Turns.left c.args.reader.now)
    remaining later l.inlet c.next.new.self v l.desk (g.W.Write.contents c.args.writer.now)
    (g.W.Write.contents l.writer) (record { refusals = l.refusals })
    (subst (λ (o : Option Framed). TellsNext l.inlet c.next.new.self remaining later o)
    c.in_default.is c.in_ok-framed.ensures.tells)
    l.invariant.served

pub returns-in_err-serve_line-clause-served : goal.returns-in_err-serve_line-clause-served
returns-in_err-serve_line-clause-served g c =
    let l = c.loop-answered in
    let v = c.args.desk.now in
    let s = setting_of v.stock c.args.terms.now in
    let input = g.R.Turns.left c.args.reader.now in
    let remaining = g.R.Turns.left l.reader in
    let later = g.R.Turns.left c.next.new.reader in
    let before = g.W.Write.contents c.args.writer.now in
    let told = g.W.Write.contents l.writer in
    let after = g.W.Write.contents c.serve_line.new.writer in
    let framed = c.in-Some.framed in
    let fault = c.in_err-serve_line.field-0.0 in
    let new = c.serve_line.new.desk in
    let p = err_from_is_err_and c.from_residual-in_err-serve_line.result
    c.from_residual-in_err-serve_line.ensures.1 in
    subst (λ (r : Result ServeEnd ServeFault). IsServed s input before after v new r)
    (sym (p.1 ∙ ap (λ (f : ServeFault). Err f) p.2))
    (line_lost c.args.alloc s input remaining later l.inlet c.next.new.self v l.desk new before told
    after framed l.refusals fault
    (subst (λ (o : Option Framed). TellsNext l.inlet c.next.new.self remaining later o)
    c.in-Some.is c.in_ok-framed.ensures.tells)
    (subst (λ (stock : Stock).
    IsServedLine (setting_of stock c.args.terms.now) framed l.desk new told after (Err fault))
    l.invariant.stock c.in_err-serve_line.ensures.served)
    l.invariant.honest l.invariant.served)

pub loop-answered-preserved : goal.loop-answered-preserved
loop-answered-preserved g c =
    let l = c.loop-answered in
    let v = c.args.desk.now in
    let remaining = g.R.Turns.left l.reader in
    let later = g.R.Turns.left c.next.new.reader in
    let told = g.W.Write.contents l.writer in
    let after = g.W.Write.contents c.serve_line.new.writer in
    let framed = c.in-Some.framed in
    let refused = c.in_ok-serve_line.field-0 in
    let new = c.serve_line.new.desk in
    let line = c.in_ok-serve_line.ensures.served in
    let more : c.if-branch.refusals ≡ l.refusals + (if refused then 1 else 0) =
    elim c.if-branch.branch [
      | then-branch w ↦ refused_more l.refusals c.if-branch.refusals refused w.if-branch.true
          w.refusals-is
      | else-branch w ↦ none_more l.refusals c.if-branch.refusals refused w.if-branch.false
          w.refusals-is
    ] in
    record {
      served = line_served (setting_of v.stock c.args.terms.now)
          (g.R.Turns.left c.args.reader.now) remaining later l.inlet c.next.new.self v l.desk
          new (g.W.Write.contents c.args.writer.now) told after framed l.refusals
          c.if-branch.refusals refused
          (subst (λ (o : Option Framed). TellsNext l.inlet c.next.new.self remaining later o)
          c.in-Some.is c.in_ok-framed.ensures.tells)
          (subst (λ (stock : Stock).
          IsServedLine (setting_of stock c.args.terms.now) framed l.desk new told after
          (Ok refused))
          l.invariant.stock line)
          more l.invariant.honest l.invariant.served;
      stock = line.stock ∙ l.invariant.stock;
      honest = line.honest ∙ l.invariant.honest;
      running = line.told.running;
      reads = c.in_ok-framed.ensures.steady ∙ l.invariant.reads;
      writes = c.in_ok-serve_line.ensures.steady ∙ l.invariant.writes;
      counted = at_most_one l.refusals c.if-branch.refusals l.answered refused more
          l.invariant.counted;
      room = l.invariant.room;
    }

pub returns-clause-served : goal.returns-clause-served
returns-clause-served g c =
    let l = c.loop-answered in
    none_read c.args.alloc (setting_of c.args.desk.now.stock c.args.terms.now)
    (g.R.Turns.left c.args.reader.now) (g.R.Turns.left l.reader) l.inlet c.args.desk.now
    l.desk (g.W.Write.contents c.args.writer.now) (g.W.Write.contents l.writer) l.refusals
    frame.NoMemory l.invariant.served
