-- What the loop of `hire` keeps.
use Rattle.std.proofs.Common.{◌≡◌, map}
use Rattle.td_desk.proofs.hired.hire.Given as goal

-- the seats so far are hired, in their order
abbrev pub invariant-loop-seat : goal.invariant-loop-seat
invariant-loop-seat g l = map (λ h. h.seat) l.hired.items ≡ l.yielded
