-- `release`: its loop and the call of `free`.
use Rattle.std.proofs.Common.{◌∙◌, ◌+◌, ℕ, ◌<◌, take, get_or, length, length-set, ap, sym}
use Rattle.std.proofs.Common.{List, arith}
use Rattle.std.proofs.lemmas.List.Sums.{sum_by-take-le}
use Rattle.td_waves.specs.Graph.{uses, freed}
use Rattle.td_waves.proofs.Released.{Released, released_next}
use Rattle.td_waves.proofs.Uses.{one, uses-more, one_same}
use Rattle.td_waves.proofs.placing.release.Goals as goal

pub free-requires-clause-some : goal.free-requires-clause-some
free-requires-clause-some c =
    let users = c.args.users.now in
    let i = c.loop-user.user-index in
    let u = get_or users i 0 in
    omega (
      arith,
      c.loop-user.invariant.left u,
      c.requires.counted u,
      uses-more u users i c.loop-user-test.true,
      one_same u,
      sum_by-take-le (one u) users (i + 1),
    )

pub loop-user-preserved : goal.loop-user-preserved
loop-user-preserved c =
    let users = c.args.users.now in
    let i = c.loop-user.user-index in
    let u = get_or users i 0 in
    let so_far : Released c.args.level c.args.left.now.items c.args.heights.now.items
    c.args.ready.now.items (λ s. uses s (take i users)) c.loop-user.left.items
    c.loop-user.heights.items c.loop-user.ready.items =
    record {
      left_is = c.loop-user.invariant.left;
      heights_are = c.loop-user.invariant.heights;
      ready_are = c.loop-user.invariant.ready;
    } in
    let some : 0 < get_or c.loop-user.left.items u 0 =
    omega (
      arith,
      c.loop-user.invariant.left u,
      c.requires.counted u,
      uses-more u users i c.loop-user-test.true,
      one_same u,
      sum_by-take-le (one u) users (i + 1),
    ) in
    let next = released_next c.args.level c.args.left.now.items c.args.heights.now.items
    c.args.ready.now.items (λ s. uses s (take i users))
    (λ s. uses s (take (i + 1) users)) c.loop-user.left.items c.loop-user.heights.items
    c.loop-user.ready.items u so_far some
    (omega (
      arith,
      c.loop-user.invariant.left_len,
      c.loop-user.invariant.heights_len,
      c.requires.tall,
    )) (λ s. uses-more s users i c.loop-user-test.true) in
    record {
      left = λ s. ap (λ l. get_or l s 0 + uses s (take (i + 1) users)) c.in_ok-free.ensures.left
          ∙ next.left_is s;
      heights = λ s. ap (λ l. get_or l s 0) c.in_ok-free.ensures.heights ∙ next.heights_are s;
      ready = λ s.
          ap (λ l. uses s l) c.in_ok-free.ensures.ready
          ∙ next.ready_are s
          ∙ ap (λ l. uses s c.args.ready.now.items + freed (get_or c.args.left.now.items s 0)
          (get_or l s 0)) (sym c.in_ok-free.ensures.left);
      left_len = ap (λ (l : List ℕ). length l) c.in_ok-free.ensures.left
          ∙ length-set c.loop-user.left.items u _ ∙ c.loop-user.invariant.left_len;
      heights_len = ap (λ (l : List ℕ). length l) c.in_ok-free.ensures.heights
          ∙ length-set c.loop-user.heights.items u _ ∙ c.loop-user.invariant.heights_len;
    }
