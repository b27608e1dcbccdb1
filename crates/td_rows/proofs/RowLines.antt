-- A row line is read exactly.
use Rattle.std.proofs.Common.{◌≡◌, ℕ, List, ◌∷◌, ◌++◌, Some, refl, subst, arith, lit<}
use Rattle.std.specs.Prelude.{decimal}
use Rattle.std.specs.Fmt.{signed_decimal}
use Rattle.td_text.specs.Cut.{part}
use Rattle.td_text.specs.Exact.{Exact}
use Rattle.td_text.specs.Numbers.{signed_at, IsWithin}
use Rattle.td_text.proofs.Chain.{chained, some_is}
use Rattle.td_text.proofs.Cut.{cut-at, part_again, part_joined, word_found}
use Rattle.td_text.proofs.Numbers.{number_exact, Without-decimal}
use Rattle.td_text.proofs.SignedNumbers.{signed_exact, Without-signed_decimal}
use Rattle.td_rows.specs.declared.key.Key.{Key}
use Rattle.td_rows.specs.declared.row.Row.{Row}
use Rattle.td_rows.specs.KeyText.{key_text, KeyFits, key_at}
use Rattle.td_rows.specs.StateWord.{state_word, StateFits, state_at}
use Rattle.td_rows.specs.Notes.{notes}
use Rattle.td_rows.specs.RowLine.{row_words, row_line, RowFits}
use Rattle.td_rows.specs.RowReading.{row_line_at}
use Rattle.td_rows.proofs.KeyTexts.{key_exact, key_lacks_space}
use Rattle.td_rows.proofs.StateWords.{state_exact, state_lacks_space}
use Rattle.td_rows.proofs.NoteTexts.{notes_exact, notes_begin}

pub tail_joined : (d f g n w : List ℕ) → d ≡ f ++ g → f ≡ n → g ≡ w → d ≡ n ++ w
tail_joined d f g n w h1 h2 h3 = cc

line_joined : (t a b k d x y z : List ℕ) → t ≡ a ++ 32 ∷ b → b ≡ k ++ 32 ∷ d → d ≡ x ++ 32 ∷ y
    → y ≡ z → t ≡ a ++ 32 ∷ (k ++ 32 ∷ (x ++ 32 ∷ z))
line_joined t a b k d x y z h1 h2 h3 h4 = cc

row_found : (t : List ℕ) (p : Key × Row) → row_line_at t ≡ Some p → (t ≡ row_line p) × RowFits p
unfolding row_line_at
row_found t p e =
    let a = chained _ _ _ e in
    let key = chained _ _ _ a.2 in
    let b = chained _ _ _ key.2 in
    let state = chained _ _ _ b.2 in
    let d = chained _ _ _ state.2 in
    let priority = chained _ _ _ d.2 in
    let number = chained _ _ _ priority.2 in
    let texts = chained _ _ _ number.2 in
    let k = word_found 32 key_at key_text KeyFits key_exact t a.0 key.0 a.1 key.1 in
    let s = word_found 32 state_at state_word StateFits state_exact a.0.1 b.0 state.0 b.1 state.1 in
    let u = word_found 32 (signed_at 9999) signed_decimal (IsWithin 9999)
    (signed_exact 9999 (lit< tt)) b.0.1 d.0 priority.0 d.1 priority.1 in
    let n = (number_exact 9999 (lit< tt)).found (part 32 d.0.1).0 number.0 number.1 in
    let x = notes_exact.found (part 32 d.0.1).1 texts.0 texts.1 in
    let rest : d.0.1 ≡ decimal number.0 ++ notes texts.0 =
    tail_joined _ _ _ _ _ (part_joined 32 d.0.1) n.0 x.0 in
    subst (λ (y : Key × Row). (t ≡ row_line y) × RowFits y) (some_is _ p texts.2) (
      line_joined _ _ _ _ _ _ _ _ k.0 s.0 u.0 rest,
      record { key = k.1; state = s.1; priority = u.1; number = n.1; texts = x.1 },
    )

row_again : (p : Key × Row) → RowFits p → row_line_at (row_line p) ≡ Some p
unfolding row_line_at
row_again p h =
    let row = p.1 in
    let texts = notes (row.extra, row.dep_wait) in
    rw (
      cut-at 32 (key_text p.0) (row_words row) (key_lacks_space p.0 h.key),
      key_exact.again p.0 h.key,
      cut-at 32 (state_word row.state)
          (signed_decimal row.priority ++ 32 ∷ (decimal row.number ++ texts))
          (state_lacks_space row.state h.state),
      state_exact.again row.state h.state,
      cut-at 32 (signed_decimal row.priority) (decimal row.number ++ texts)
          (Without-signed_decimal 32 9999 row.priority (lit< tt) (λ e. omega arith)
          (lit< tt) h.priority),
      (signed_exact 9999 (lit< tt)).again row.priority h.priority,
      part_again 32 (decimal row.number) texts
          (Without-decimal 32 row.number (lit< tt) (let le = h.number in omega arith))
          (notes_begin (row.extra, row.dep_wait)),
      (number_exact 9999 (lit< tt)).again row.number h.number,
      notes_exact.again (row.extra, row.dep_wait) h.texts,
    ) refl

pub row_exact : Exact row_line_at row_line RowFits
row_exact = record { found = row_found; again = row_again }
