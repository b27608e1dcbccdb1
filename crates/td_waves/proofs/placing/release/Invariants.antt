-- What the loop of `release` keeps.
use Rattle.std.proofs.Common.{◌≡◌, ◌+◌, ◌==◌, ℕ, length, get_or, take, if◌then◌else◌}
use Rattle.td_waves.specs.Graph.{uses, raised, freed}
use Rattle.td_waves.proofs.placing.release.Given as goal

abbrev pub invariant-loop-user : goal.invariant-loop-user
invariant-loop-user l = record {
  left : (s : ℕ) → get_or l.left.items s 0 + uses s (take l.user-index l.users)
      ≡ get_or l.fn.left.items s 0;
  heights : (s : ℕ) → get_or l.heights.items s 0 ≡ (if uses s (take l.user-index l.users) == 0
      then get_or l.fn.heights.items s 0 else raised l.level (get_or l.fn.heights.items s 0));
  ready : (s : ℕ) → uses s l.ready.items
      ≡ uses s l.fn.ready.items + freed (get_or l.fn.left.items s 0) (get_or l.left.items s 0);
  left_len : length l.left.items ≡ length l.fn.left.items;
  heights_len : length l.heights.items ≡ length l.fn.heights.items;
}
