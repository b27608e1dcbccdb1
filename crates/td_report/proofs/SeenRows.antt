-- What holds of rows in memory holds of the rows of a report.
use Rattle.std.proofs.Common.{◌≡◌, ◌==◌, ℕ, Bool, false, List, None, [], ◌∷◌, map, filter, count_by}
use Rattle.std.proofs.Common.{length, refl, sym, ap, ◌∙◌, arith, if◌then◌else◌}
use Rattle.std.proofs.lemmas.List.{length-map}
use Rattle.std.proofs.lemmas.List.Sums.{sum_by-cons}
use Rattle.std.proofs.lemmas.Simd.{map-map}
use Rattle.rayon.proofs.ToStd.{filter-map}
use Rattle.td_waves.specs.declared.level.Level.{Level}
use Rattle.td_report.specs.declared.item.Item.{Item}
use Rattle.td_report.specs.declared.shown.Shown.{Shown}
use Rattle.td_report.specs.Report.{AffectedRow, block_of, each_once, head_line, level_words}
use Rattle.td_report.specs.Report.{row_line, wave_of}
use Rattle.td_report.specs.Report as report
use Rattle.td_report.specs.inner.Blocks.{installed_at}
use Rattle.td_report.specs.inner.ItemLines.{is_installed, is_shown, item_line, seen, source_of}
use Rattle.td_report.specs.inner.ItemLines.{stands_at}

pub count-map : {A B : Type 0} (f : A → B) (test : B → Bool) (xs : List A)
    → count_by test (map f xs) ≡ count_by (λ x. test (f x)) xs
count-map f test [] = refl
count-map f test (x ∷ xs) =
    omega (
      arith,
      sum_by-cons (λ y. if test y then 1 else 0) (f x) (map f xs),
      sum_by-cons (λ y. if test (f y) then 1 else 0) x xs,
      count-map f test xs,
    )

-- the rows at a level
pub standing-seen : (items : List Item) (level : Level)
    → map seen (filter (stands_at level) items) ≡ filter (report.stands_at level) (map seen items)
standing-seen items level = sym (filter-map (report.stands_at level) seen items)

-- how many at a level are Installed
pub installed-seen : (items : List Item) (level : Level)
    → installed_at (map seen items) level ≡ count_by is_installed (filter (stands_at level) items)
installed-seen items level =
    ap (count_by report.is_installed) (sym (standing-seen items level))
    ∙ count-map seen report.is_installed (filter (stands_at level) items)

-- the lines of a level with some rows
pub block_told : (shown : Shown) (level : Level) (items : List Item) (installed : ℕ)
    → installed ≡ count_by is_installed items → (length items == 0) ≡ false
    → block_of shown level (map seen items)
    ≡ head_line level (length items) installed ∷ map item_line (filter (is_shown shown) items)
block_told shown level items installed count some =
    let told = map row_line (filter (report.is_shown shown) (map seen items)) in
    ap (λ n. if n == 0 then [] else head_line level n (count_by report.is_installed
    (map seen items)) ∷ told) (length-map items seen)
    ∙ ap (λ (b : Bool). if b then [] else head_line level (length items)
    (count_by report.is_installed (map seen items)) ∷ told) some
    ∙ ap (λ n. head_line level (length items) n ∷ told)
    (count-map seen report.is_installed items ∙ sym count)
    ∙ ap (λ (ls : List (List ℕ)). head_line level (length items) installed ∷ ls)
    (ap (map row_line) (filter-map (report.is_shown shown) seen items)
    ∙ map-map row_line seen (filter (is_shown shown) items))

-- the lines of a level with some rows, in waves
pub wave_told : (level : Level) (items : List Item) → (length items == 0) ≡ false
    → wave_of level (map seen items) ≡ level_words level ∷ each_once None (map source_of items)
wave_told level items some =
    let source = λ (r : AffectedRow). r.key.source in
    ap (λ n. if n == 0 then [] else level_words level ∷ each_once None
    (map source (map seen items))) (length-map items seen)
    ∙ ap (λ (b : Bool). if b then [] else level_words level ∷ each_once None
    (map source (map seen items))) some
    ∙ ap (λ (ls : List (List ℕ)). level_words level ∷ each_once None ls)
    (map-map source seen items)
