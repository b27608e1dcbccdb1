-- `next_word`: the clause `words` and the call of `split_at`.
use Rattle.std.proofs.Common.{ℕ, List, position, sym, ap, ◌∙◌}
use Rattle.td_text.specs.Runs.{is_space}
use Rattle.td_indices.proofs.WordCuts.{word_cut, word_none, boundary_here, boundary_behind}
use Rattle.td_indices.proofs.text.next_word.Goals as goal

pub split_at-requires : goal.split_at-requires
split_at-requires c =
    boundary_here c.args.text.now c.in-Some.place
    (ap (λ (l : List ℕ). position is_space l) (sym c.as_bytes.ensures.value)
    ∙ sym c.in-Some.ensures.place)

pub split_at-requires-in-Some : goal.split_at-requires-in-Some
split_at-requires-in-Some c =
    boundary_behind c.args.text.now c.split_at.result.1.now c.in-Some.place c.utf8.text
    (ap (λ (l : List ℕ). position is_space l) (sym c.as_bytes.ensures.value)
    ∙ sym c.in-Some.ensures.place) c.split_at.ensures.back

pub returns-in-None-clause-words : goal.returns-in-None-clause-words
returns-in-None-clause-words c =
    word_none c.args.text.now
    (ap (λ (l : List ℕ). position is_space l) (sym c.as_bytes.ensures.value)
    ∙ sym c.in-None.ensures.place)

pub returns-in-Some-clause-words : goal.returns-in-Some-clause-words
returns-in-Some-clause-words c =
    word_cut c.args.text.now c.split_at.result.0.now c.split_at.result.1.now
    c.split_at-in-Some.result.1.now c.in-Some.place
    (ap (λ (l : List ℕ). position is_space l) (sym c.as_bytes.ensures.value)
    ∙ sym c.in-Some.ensures.place) c.split_at.ensures.front c.split_at.ensures.back
    c.split_at-in-Some.ensures.back
