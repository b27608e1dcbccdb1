-- `read_plain`: what it answers.
use Rattle.std.proofs.Common.{◌≡◌, ◌∙◌, ◌||◌, Bool, true, false, eqb, length, sym, ap}
use Rattle.std.proofs.lemmas.Bool.{or_right}
use Rattle.td_version.specs.Reading.{is_empty_part, written_of}
use Rattle.td_version.proofs.Plain.{reading-empty, reading-whole, both_false}
use Rattle.td_version.proofs.reading.read_plain.Goals as goal
use Rattle.td_version.proofs.reading.read_plain.Goals.{then-is_empty-via-then-is_empty}
use Rattle.td_version.proofs.reading.read_plain.Goals.{then-is_empty-via-else-is_empty+then-is_empty-2}

pub returns-then-is_empty : goal.returns-then-is_empty
returns-then-is_empty c =
    let w = written_of c.cut_revision-pieces.result in
    let empty : (eqb (length w.upstream) 0 || is_empty_part w.revision) ≡ true =
    elim c.then-is_empty.branch [
      | then-is_empty-via-then-is_empty v ↦
          ap (λ (b : Bool). b || is_empty_part w.revision)
          (sym c.is_empty.ensures ∙ v.if-is_empty.true)
      | then-is_empty-via-else-is_empty+then-is_empty-2 v ↦
          or_right (eqb (length w.upstream) 0) (is_empty_part w.revision)
          (sym v.is_empty-else-is_empty.ensures ∙ v.if-is_empty-2.true)
    ] in
    sym (reading-empty c.args.text.now w c.cut_revision-pieces.ensures.pieces c.requires empty)

pub returns : goal.returns
returns c =
    let w = written_of c.cut_revision-pieces.result in
    let filled : (eqb (length w.upstream) 0 || is_empty_part w.revision) ≡ false =
    both_false (eqb (length w.upstream) 0) (is_empty_part w.revision)
    (sym c.is_empty.ensures ∙ c.if-is_empty.false)
    (sym c.is_empty-else-is_empty.ensures ∙ c.if-is_empty-2.false) in
    sym (reading-whole c.args.text.now w c.cut_revision-pieces.ensures.pieces c.requires filled)
