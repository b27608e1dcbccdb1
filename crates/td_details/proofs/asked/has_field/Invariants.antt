-- What the loop of `has_field` keeps.
use Rattle.std.proofs.Common.{◌≡◌, false, map, take}
use Rattle.std.specs.List.{list_any}
use Rattle.std.specs.Str.{bytes_eq}
use Rattle.td_details.proofs.asked.has_field.Given as goal

-- none so far has the name
abbrev pub invariant-loop-other : goal.invariant-loop-other
invariant-loop-other l = list_any (bytes_eq l.name)
    (map (λ f. f.now) (take l.other-index l.fields)) ≡ false
