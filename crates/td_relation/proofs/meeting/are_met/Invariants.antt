-- What the loop of `are_met` keeps.
use Rattle.std.proofs.Common.{◌≡◌, ◌≤◌, List, length, map, drop}
use Rattle.std.specs.List.{list_all}
use Rattle.td_relation.specs.declared.relation.Alternative.{Alternative}
use Rattle.td_relation.specs.Arch.{words_of}
use Rattle.td_relation.specs.Asked.{asked}
use Rattle.td_relation.specs.Meeting.{member_met}
use Rattle.td_relation.specs.Members.{chunked}
use Rattle.td_relation.proofs.meeting.are_met.Given as goal

-- the members that are left decide
abbrev pub invariant-loop-size : goal.invariant-loop-size
invariant-loop-size g l = record {
  decides : list_all (λ (m : List Alternative).
      member_met (g.O.Offering.on_offer l.fn.offers) l.fn.place (words_of l.fn.arch) (map asked m))
      (chunked (drop l.size-index l.sizes) (drop l.from l.alternatives))
      ≡ list_all (λ (m : List Alternative).
      member_met (g.O.Offering.on_offer l.fn.offers) l.fn.place (words_of l.fn.arch) (map asked m))
      (chunked l.sizes l.alternatives);
  within : l.from ≤ length l.alternatives;
}
