-- `cut_at`: its clauses, and the calls of `split_at`.
use Rattle.std.proofs.Common.{◌≡◌, ◌<◌, ◌+◌, ℕ, length, sym, subst, rules}
use Rattle.std.specs.Str.{IsCharBoundary}
use Rattle.td_text.proofs.Cut.{behind_boundary, cut-by_place, cut_none, place_boundary, place_cut}
use Rattle.td_text.proofs.Cut.{place_none, place_of}
use Rattle.td_text.proofs.cutting.cut_at.Goals as goal

pub returns-then-place-text-clause-value : goal.returns-then-place-text-clause-value
returns-then-place-text-clause-value c =
    let all : place_of c.args.mark c.args.text.now ≡ length c.args.text.now = search rules in
    sym (cut_none c.args.mark c.args.text.now (place_none c.args.mark c.args.text.now all))

pub returns-then-place-text-clause-none : goal.returns-then-place-text-clause-none
returns-then-place-text-clause-none c =
    let all : place_of c.args.mark c.args.text.now ≡ length c.args.text.now = search rules in
    place_none c.args.mark c.args.text.now all

pub split_at-requires : goal.split_at-requires
split_at-requires c =
    let is : place_of c.args.mark c.args.text.now ≡ c.mark_place-place.result = search rules in
    subst (IsCharBoundary c.args.text.now) is
    (place_boundary c.args.mark c.args.text.now c.requires)

pub split_at-requires-2 : goal.split_at-requires-2
split_at-requires-2 c =
    let is : place_of c.args.mark c.args.text.now ≡ c.mark_place-place.result = search rules in
    let less : place_of c.args.mark c.args.text.now < length c.args.text.now = search rules in
    subst (λ (n : ℕ). IsCharBoundary c.args.text.now (n + 1)) is
    (behind_boundary c.args.mark c.args.text.now c.requires c.utf8.text less)

pub returns-clause-value : goal.returns-clause-value
returns-clause-value c =
    let is : c.mark_place-place.result ≡ place_of c.args.mark c.args.text.now = search rules in
    let less : place_of c.args.mark c.args.text.now < length c.args.text.now = search rules in
    rw (c.split_at.ensures.front, c.split_at-2.ensures.back, is)
    (sym (cut-by_place c.args.mark c.args.text.now less))

pub returns-clause-found : goal.returns-clause-found
returns-clause-found c =
    let is : c.mark_place-place.result ≡ place_of c.args.mark c.args.text.now = search rules in
    let less : place_of c.args.mark c.args.text.now < length c.args.text.now = search rules in
    rw (c.split_at.ensures.front, c.split_at-2.ensures.back, is)
    (place_cut c.args.mark c.args.text.now less)
