-- What is before a place, and from it on, if the text may be shorter.
use Rattle.std.proofs.Common.{◌≡◌, ℕ, List, length, min, take, drop}
use Rattle.std.proofs.lemmas.List.{drop_min, take_min}

pub taken : (at : ℕ) (text : List ℕ) → take (min at (length text)) text ≡ take at text
taken at text = take_min at text

pub dropped : (at : ℕ) (text : List ℕ) → drop (min at (length text)) text ≡ drop at text
dropped at text = drop_min at text
