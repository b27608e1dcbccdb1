-- What the loop of `are_asked` keeps.
use Rattle.std.proofs.Common.{◌≡◌, ◌≤◌, ◌&&◌, List, length, drop}
use Rattle.std.specs.List.{list_any}
use Rattle.std.specs.Str.{bytes_eq}
use Rattle.td_relation.specs.declared.relation.Alternative.{Alternative}
use Rattle.td_relation.specs.Arch.{words_of}
use Rattle.td_relation.specs.Asked.{asked}
use Rattle.td_relation.specs.Meeting.{active}
use Rattle.td_relation.specs.Members.{chunked}
use Rattle.td_relation.proofs.meeting.are_asked.Given as goal

-- the members that are left decide
abbrev pub invariant-loop-size : goal.invariant-loop-size
invariant-loop-size l = record {
  decides : list_any (λ (m : List Alternative).
      list_any (λ (a : Alternative).
      active (words_of l.fn.arch) (asked a) && bytes_eq a.name.now l.fn.name) m)
      (chunked (drop l.size-index l.sizes) (drop l.from l.alternatives))
      ≡ list_any (λ (m : List Alternative).
      list_any (λ (a : Alternative).
      active (words_of l.fn.arch) (asked a) && bytes_eq a.name.now l.fn.name) m)
      (chunked l.sizes l.alternatives);
  within : l.from ≤ length l.alternatives;
}
