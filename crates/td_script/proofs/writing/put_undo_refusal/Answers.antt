-- `put_undo_refusal`: what it appends, by the refusal.
use Rattle.td_script.proofs.writing.put_undo_refusal.Goals as goal

pub returns-in-NoSuchEntry-clause-ok : goal.returns-in-NoSuchEntry-clause-ok
returns-in-NoSuchEntry-clause-ok c =
    rw c.in-NoSuchEntry.is c.put_refusal.ensures.ok

pub returns-in-NotACommand-clause-ok : goal.returns-in-NotACommand-clause-ok
returns-in-NotACommand-clause-ok c =
    rw c.in-NotACommand.is c.put_refusal-in-NotACommand.ensures.ok

pub returns-in-AlreadyUndone-clause-ok : goal.returns-in-AlreadyUndone-clause-ok
returns-in-AlreadyUndone-clause-ok c =
    rw c.in-AlreadyUndone.is c.put_refusal-in-AlreadyUndone.ensures.ok

pub returns-in-NoMemory-clause-ok : goal.returns-in-NoMemory-clause-ok
returns-in-NoMemory-clause-ok c =
    rw c.in-NoMemory.is c.put_refusal-in-NoMemory.ensures.ok

pub returns-in-Blocked-clause-ok : goal.returns-in-Blocked-clause-ok
returns-in-Blocked-clause-ok c =
    rw c.in-Blocked.is c.put_blocked.ensures.ok
