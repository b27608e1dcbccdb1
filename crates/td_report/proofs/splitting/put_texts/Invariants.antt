-- What the loop of `put_texts` keeps.
use Rattle.std.proofs.Common.{◌≡◌, ◌++◌, take, string_bytes}
use Rattle.std.specs.List.{flat_map}
use Rattle.td_report.proofs.splitting.put_texts.Given as goal

-- the texts so far
abbrev pub invariant-loop-text : goal.invariant-loop-text
invariant-loop-text l = string_bytes l.out ≡ string_bytes l.fn.out ++ flat_map (λ t. string_bytes t)
    (take l.text-index l.texts)
