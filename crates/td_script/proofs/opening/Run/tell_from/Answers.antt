-- `Run::tell_from`: what may be asked, and what is answered.
use Rattle.td_script.proofs.StaffLaws.{run_of}
use Rattle.td_script.proofs.opening.Run.tell_from.Goals as goal

pub tell-requires : goal.tell-requires
tell-requires g c =
    c.requires.answers.asked _ (record {
      idle = c.requires.idle;
      made = c.requires.made;
      small = c.args.self.now.small;
    })

pub returns : goal.returns
returns g c =
    let is = run_of (g.S.Staff.tells c.args.self.now.staff.now) _ c.tell.result
    c.told_or_refused.result (c.requires.answers.tells _ _ c.tell.ensures)
    c.told_or_refused.ensures.told c.told_or_refused.ensures.refused in
    record { told = is.told; refused = is.refused; only = is.only }
