-- `parser`: the clauses `gives` and `memory`, and its loop.
use Rattle.std.proofs.Common.{◌≡◌, ℕ, ◌∙◌, ◌-◌, ◌++◌, ◌∷◌, [], List, map, ap, sym, subst, inl, inr}
use Rattle.std.proofs.Common.{rules, arith}
use Rattle.std.specs.Prelude.{IsOk, is_ok}
use Rattle.std.proofs.lemmas.List.{map-append}
use Rattle.td_query.specs.declared.query.Joint.TheVariants.{And}
use Rattle.td_query.specs.Query.{Shape, shape_of}
use Rattle.td_query.specs.QueryGrammar.{Read, atom, behind_mark, more, part_at}
use Rattle.td_query.specs.Views.{raw_of}
use Rattle.td_query.proofs.Beginnings.{atom_begun, joined_begun, opened_begun, pattern_ok}
use Rattle.td_query.proofs.Chains.{fails_on, goes_on, taken}
use Rattle.td_query.proofs.parse.+parser.Goals as goal

pub read_parts-returns-in-Err-clause-gives : goal.read_parts-returns-in-Err-clause-gives
read_parts-returns-in-Err-clause-gives t c =
    let d = c.loop-after.invariant.decides in
    let front = ap (λ (mark : List ℕ). behind_mark mark c.loop-after.rest.now)
    (sym c.mark.ensures.mark) ∙ sym c.in-Some.ensures.value in
    let x = taken c.args.joint (part_at c.args.joint c.args.depth) d.0 _ _ c.loop-after.rest.now
    c.in-Some.after.now _ front c.in-Some.ensures.shorter d.1 d.2 in
    fails_on c.in-Err.fault _ _ _ _ x.2 c.in-Err.ensures.gives

pub read_parts-loop-after-preserved : goal.read_parts-loop-after-preserved
read_parts-loop-after-preserved t c =
    let d = c.loop-after.invariant.decides in
    let front = ap (λ (mark : List ℕ). behind_mark mark c.loop-after.rest.now)
    (sym c.mark.ensures.mark) ∙ sym c.in-Some.ensures.value in
    let x = taken c.args.joint (part_at c.args.joint c.args.depth) d.0 _ _ c.loop-after.rest.now
    c.in-Some.after.now _ front c.in-Some.ensures.shorter d.1 d.2 in
    let parts : map shape_of c.push-in-Some.new.self.items ≡ map shape_of c.loop-after.parts.items
    ++ shape_of c.in-Ok.read.0 ∷ [] =
    ap (map shape_of) c.in_ok-push-2.ensures.items ∙ map-append shape_of c.loop-after.parts.items
    (c.in-Ok.read.0 ∷ []) in
    record {
      decides = (
        x.0,
        omega (arith, x.1, d.1, c.in-Some.ensures.shorter, c.in-Ok.ensures.shorter),
        ap (λ (ps : List Shape). more c.args.joint (part_at c.args.joint c.args.depth) x.0 ps
            (map raw_of c.read_part-in-Some.new.log.items) c.in-Ok.read.1.now) parts
            ∙ goes_on _ _ _ _ x.2 c.in-Ok.ensures.gives,
      );
      shorter = omega (arith, c.in-Some.ensures.shorter, c.in-Ok.ensures.shorter);
      utf8 = search rules;
    }

-- a `!`, and what comes after it
pub read_not-returns-in_err-inner-clause-memory : goal.read_not-returns-in_err-inner-clause-memory
read_not-returns-in_err-inner-clause-memory t c = λ is.
    opened_begun c.args.depth (c.args.depth - 1) c.args.text.now c.in-Some.rest.now (omega arith)
    (inl (sym c.skip-at.ensures.value ∙ c.in-Some.ensures.found))
    (c.in_err-inner.ensures.memory (search rules))

pub read_not-returns-in_err-inner-2-clause-memory :
    goal.read_not-returns-in_err-inner-2-clause-memory
read_not-returns-in_err-inner-2-clause-memory t c = λ is.
    opened_begun c.args.depth (c.args.depth - 1) c.args.text.now c.in-Some.rest.now (omega arith)
    (inl (sym c.skip-at.ensures.value ∙ c.in-Some.ensures.found))
    (joined_begun And (c.args.depth - 1) _ c.in-Some.rest.now
    (ap (λ (r : Read). is_ok r) c.in_ok-inner.ensures.gives))

-- a `(`, and what comes after it
pub read_not-returns-in_err-inner-3-clause-memory :
    goal.read_not-returns-in_err-inner-3-clause-memory
read_not-returns-in_err-inner-3-clause-memory t c = λ is.
    opened_begun c.args.depth (c.args.depth - 1) c.args.text.now c.in-Some-strip.rest.now
    (omega arith) (inr (sym c.skip-at.ensures.value ∙ c.in-Some-strip.ensures.found))
    (c.in_err-inner-3.ensures.memory (search rules))

pub read_not-returns-clause-memory : goal.read_not-returns-clause-memory
read_not-returns-clause-memory t c = λ is.
    atom_begun c.args.depth (map raw_of c.args.log.now.items) c.args.text.now
    (subst (λ (at : List ℕ). IsOk (atom (map raw_of c.args.log.now.items) at))
    c.skip-at.ensures.value (pattern_ok _ (c.read_atom.ensures.memory is)))

-- the first part is read
pub read_parts-returns-in_err-push-clause-memory :
    goal.read_parts-returns-in_err-push-clause-memory
read_parts-returns-in_err-push-clause-memory t c = λ is.
    joined_begun c.args.joint c.args.depth _ c.args.text.now
    (ap (λ (r : Read). is_ok r) c.in_ok-first.ensures.gives)

pub read_parts-returns-in-Err-clause-memory : goal.read_parts-returns-in-Err-clause-memory
read_parts-returns-in-Err-clause-memory t c = λ is.
    joined_begun c.args.joint c.args.depth _ c.args.text.now
    (ap (λ (r : Read). is_ok r) c.in_ok-first.ensures.gives)

pub read_parts-returns-in_err-push-2-clause-memory :
    goal.read_parts-returns-in_err-push-2-clause-memory
read_parts-returns-in_err-push-2-clause-memory t c = λ is.
    joined_begun c.args.joint c.args.depth _ c.args.text.now
    (ap (λ (r : Read). is_ok r) c.in_ok-first.ensures.gives)
