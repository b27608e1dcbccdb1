-- What one more row, or one more level, adds to a text.
use Rattle.std.proofs.Common.{◌≡◌, ◌+◌, ℕ, List, [], ◌∷◌, ◌++◌, map, refl, ap, sym, ◌∙◌, arith}
use Rattle.std.proofs.Common.{◌<◌, append_assoc, filter, get_or, length, take}
use Rattle.std.specs.List.{flat_map, range_with_len}
use Rattle.std.proofs.lemmas.Grind.{flat_map-append}
use Rattle.std.proofs.lemmas.List.{append-nil, map-append, take_more}
use Rattle.std.proofs.lemmas.List.Elements.{filter-append}
use Rattle.std.proofs.lemmas.List.Folds.{flat_map-map}
use Rattle.std.proofs.lemmas.List.FromFn.{map-range_with_len_more}
use Rattle.td_text.specs.Lines.{text_of}
use Rattle.td_waves.specs.declared.level.Level.{Level}
use Rattle.td_waves.specs.declared.level.Level.TheVariants.{At}
use Rattle.td_report.specs.declared.block.Block.{Block}
use Rattle.td_report.specs.declared.item.Item.{Item}
use Rattle.td_report.specs.declared.shown.Shown.{Shown}
use Rattle.td_report.specs.inner.Blocks.{AreBlocks, LevelRows, texts_of, told_at, told_of}
use Rattle.td_report.specs.inner.ItemLines.{is_shown, item_line, seen, stands_at}
use Rattle.td_report.specs.inner.LinesText.{lines_text}
use Rattle.td_report.specs.Report.{AffectedRow, levels}
use Rattle.td_report.specs.Report as report
use Rattle.td_report.proofs.SeenRows.{standing-seen}

pub text_of-append : (xs ys : List (List ℕ)) → text_of (xs ++ ys) ≡ text_of xs ++ text_of ys
text_of-append xs ys = flat_map-append (λ line. line ++ 10 ∷ []) xs ys

pub lines-append : (shown : Shown) (xs ys : List Item)
    → lines_text shown (xs ++ ys) ≡ lines_text shown xs ++ lines_text shown ys
lines-append shown xs ys =
    let told = λ (is : List Item). map item_line (filter (is_shown shown) is) in
    ap (λ is. text_of (map item_line is)) (filter-append (is_shown shown) xs ys)
    ∙ ap text_of (map-append item_line (filter (is_shown shown) xs) (filter (is_shown shown) ys))
    ∙ text_of-append (told xs) (told ys)

-- the lines of one row more
pub lines-more : (shown : Shown) (items : List Item) (i : ℕ) (item : Item) (now after : List ℕ)
    → i < length items → item ≡ get_or items i item
    → after ≡ now ++ lines_text shown (item ∷ []) → now ≡ lines_text shown (take i items)
    → after ≡ lines_text shown (take (i + 1) items)
lines-more shown items i item now after lt is put so =
    put ∙ ap (λ (t : List ℕ). t ++ lines_text shown (item ∷ [])) so
    ∙ ap (λ x. lines_text shown (take i items) ++ lines_text shown (x ∷ [])) is
    ∙ sym (ap (lines_text shown) (take_more items i item lt)
    ∙ lines-append shown (take i items) (get_or items i item ∷ []))

-- ---- blocks of levels, one after the other

-- one level more
pub levels-more : (n : ℕ)
    → map At (range_with_len 1 (n + 1)) ≡ map At (range_with_len 1 n) ++ At (n + 1) ∷ []
levels-more n = map-range_with_len_more At 1 n (n + 1) (omega arith)

-- a block of a level, by its parts
pub told-block : (items : List Item) (level : Level) (b : Block) → b.level ≡ level
    → b.items.now ≡ filter (stands_at level) items → told_of b ≡ told_at (map seen items) level
told-block items level b at mine = λ i. record {
  level = at i;
  rows = (ap (map seen) mine ∙ standing-seen items level) i;
}

-- one block more
pub told-more : (rows : List AffectedRow) (ls : List Level) (level : Level) (bs new : List Block)
    (b : Block) → new ≡ bs ++ b ∷ [] → told_of b ≡ told_at rows level
    → map told_of bs ≡ map (told_at rows) ls
    → map told_of new ≡ map (told_at rows) (ls ++ level ∷ [])
told-more rows ls level bs new b is one so =
    ap (map told_of) is ∙ map-append told_of bs (b ∷ [])
    ∙ ap (λ (ts : List LevelRows). ts ++ told_of b ∷ []) so
    ∙ ap (λ (t : LevelRows). map (told_at rows) ls ++ t ∷ []) one
    ∙ sym (map-append (told_at rows) ls (level ∷ []))

-- ---- their texts, by the lines of a level with its rows

module _ (lines : Level → List AffectedRow → List (List ℕ)) where
  abbrev own : LevelRows → List ℕ
  own t = text_of (lines t.level t.rows)

  -- the text of one block more
  pub texts-more : (bs : List Block) (i : ℕ) (b : Block) (start now after : List ℕ)
      → i < length bs → b ≡ get_or bs i b
      → after ≡ now ++ text_of (lines b.level (map seen b.items.now))
      → now ≡ start ++ texts_of lines (take i bs)
      → after ≡ start ++ texts_of lines (take (i + 1) bs)
  texts-more bs i b start now after lt is put so =
      let own_of = λ (x : Block). own (told_of x) in
      let more : texts_of lines (take (i + 1) bs) ≡ texts_of lines (take i bs) ++ own_of b =
      ap (flat_map own_of) (take_more bs i b lt)
      ∙ flat_map-append own_of (take i bs) (get_or bs i b ∷ [])
      ∙ ap (λ (t : List ℕ). texts_of lines (take i bs) ++ t)
      (append-nil (own_of (get_or bs i b)) ∙ ap own_of (sym is)) in
      put ∙ ap (λ (t : List ℕ). t ++ own_of b) so
      ∙ append_assoc start (texts_of lines (take i bs)) (own_of b)
      ∙ ap (λ (t : List ℕ). start ++ t) (sym more)

  texts-levels : (rows : List AffectedRow) (ls : List Level)
      → flat_map own (map (told_at rows) ls)
      ≡ text_of (flat_map (λ l. lines l (filter (report.stands_at l) rows)) ls)
  texts-levels rows [] = refl
  texts-levels rows (l ∷ ls) =
      ap (λ (t : List ℕ). own (told_at rows l) ++ t) (texts-levels rows ls)
      ∙ sym (text_of-append (lines l (filter (report.stands_at l) rows))
      (flat_map (λ l. lines l (filter (report.stands_at l) rows)) ls))

  -- the texts of all blocks, put after a text, are the lines of the levels
  pub blocks-put : (depth : ℕ) (rows : List AffectedRow) (bs now : List Block)
      (start after : List ℕ) → AreBlocks depth rows bs → now ≡ bs
      → after ≡ start ++ texts_of lines now
      → after ≡ start
      ++ text_of (flat_map (λ l. lines l (filter (report.stands_at l) rows)) (levels depth))
  blocks-put depth rows bs now start after are same put =
      put ∙ ap (λ (t : List ℕ). start ++ t)
      (ap (texts_of lines) same ∙ sym (flat_map-map own told_of bs) ∙ ap (flat_map own) are
      ∙ texts-levels rows (levels depth))
