-- `write_whole`: its loop.
use Rattle.std.proofs.Common.{◌++◌, ◌∙◌, take, ap, sym}
use Rattle.std.proofs.lemmas.List.{take_rest}
use Rattle.std.proofs.KnownBytes.{Appends-trans}
use Rattle.td_bytes.proofs.Moved.{moves_front}
use Rattle.td_bytes.proofs.writing.write_whole.Goals as goal

pub loop-rest-preserved : goal.loop-rest-preserved
loop-rest-preserved g c =
    let (done, split, appended) = c.loop-rest.invariant.0 in
    let rest = c.loop-rest.rest.now in
    let n = c.in_ok-count.count in (
      (
        done ++ take n rest,
        moves_front _ done rest n split
            ∙ ap (λ l. (done ++ take n rest) ++ l) (sym (take_rest rest n)),
        Appends-trans _ _ _ _ _ appended c.in_ok-count.ensures.ok,
      ),
      c.in_ok-count.ensures.steady ∙ c.loop-rest.invariant.1,
    )
