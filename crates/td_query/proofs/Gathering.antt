-- What holds on some of a row's stanzas, one more at a time.
use Rattle.std.proofs.Common.{◌≡◌, ℕ, ◌+◌, ◌<◌, ◌||◌, Bool, List, length, get_or, take, refl, sym}
use Rattle.std.proofs.Common.{ap, ◌∙◌}
use Rattle.std.specs.List.{list_any}
use Rattle.std.proofs.lemmas.List.{take_more}
use Rattle.std.proofs.Math.Bool.{or_assoc}
use Rattle.td_text.proofs.Anywhere.{any-push}
use Rattle.td_query.specs.declared.mark.Mark.{Mark}
use Rattle.td_query.specs.Marks.{either_mark, gathered}

-- a flag of a mark, gathered over one number more
one-more : (own : Bool) (f : ℕ → Bool) (ns : List ℕ) (i : ℕ) → i < length ns
    → ((own || list_any f (take i ns)) || f (get_or ns i 0)) ≡ (own || list_any f (take (i + 1) ns))
one-more own f ns i h =
    rw (take_more ns i 0 h) (or_assoc own (list_any f (take i ns)) (f (get_or ns i 0))
    ∙ ap (λ b. own || b) (sym (any-push f (take i ns) (get_or ns i 0))))

pub gathered-more : (own : Mark) (f : ℕ → Mark) (ns : List ℕ) (i : ℕ) → i < length ns → either_mark
    (gathered own f (take i ns)) (f (get_or ns i 0)) ≡ gathered own f (take (i + 1) ns)
gathered-more own f ns i h =
    rw (
      one-more own.affected (λ k. (f k).affected) ns i h,
      one-more own.good (λ k. (f k).good) ns i h,
      one-more own.bad (λ k. (f k).bad) ns i h,
    ) refl
