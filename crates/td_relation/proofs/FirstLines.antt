-- The first line of a table that isn't skipped.
use Rattle.std.proofs.Common.{◌≡◌, ℕ, ◌+◌, Bool, true, false, not, cond, List, [], ◌∷◌, ◌++◌}
use Rattle.std.proofs.Common.{Option, Some, None, Result, Ok, Err, length, refl, sym, ap, subst, ◌∙◌, arith}
use Rattle.std.specs.List.{filter}
use Rattle.td_relation.specs.declared.archs.ArchsFault.{ArchsFault}
use Rattle.td_relation.specs.declared.archs.ArchsFault.TheVariants.{BadLine, Twice, TooMany}
use Rattle.td_relation.specs.declared.archs.ArchsFault.TheVariants.{NoMemory}
use Rattle.td_relation.specs.Arch.{ArchWords}
use Rattle.td_relation.specs.ArchReading.{add_arch, arch_at, first_kept}
use Rattle.td_relation.specs.Table.{is_skipped}
use Rattle.td_relation.specs.TableFile.{AreLinesOf, IsFaulty, IsFirstFault}
use Rattle.td_relation.proofs.ArchTexts.{arch_exact}

first_skipped : (line : List ℕ) (lines : List (List ℕ)) → is_skipped line ≡ true
    → first_kept (line ∷ lines) ≡ first_kept lines
first_skipped line lines h = ap (λ (b : Bool). cond (not b) (Some line) (first_kept lines)) h

first_is : (line : List ℕ) (lines : List (List ℕ)) → is_skipped line ≡ false
    → first_kept (line ∷ lines) ≡ Some line
first_is line lines h = ap (λ (b : Bool). cond (not b) (Some line) (first_kept lines)) h

line_same : (line other : List ℕ) → Some line ≡ Some other → line ≡ other
line_same line other h = cc

not_read : (n : ℕ) (more : List ArchWords)
    → ◌≡◌ {A = Result (List ArchWords) ArchsFault} (Err (BadLine n)) (Ok more) → ⊥
not_read n more h = cc

-- the first of what is left is the first of what follows a line that is skipped
pub first_skipped_is : (left after : List (List ℕ)) (line first : List ℕ) → left ≡ line ∷ after
    → is_skipped line ≡ true → first_kept left ≡ Some first → first_kept after ≡ Some first
first_skipped_is left after line first is skipped found =
    sym (first_skipped line after skipped) ∙ sym (ap first_kept is) ∙ found

-- a line that is kept is the first, and it isn't read where the first is no architecture's
pub read_first : (n : ℕ) (seen more : List ArchWords) (left after : List (List ℕ))
    (line first : List ℕ) → left ≡ line ∷ after → is_skipped line ≡ false
    → first_kept left ≡ Some first → arch_at first ≡ None
    → add_arch n seen (arch_at line) ≡ Ok more → ⊥
read_first n seen more left after line first is kept found bad ok =
    let same : line ≡ first = line_same line first
    (sym (first_is line after kept) ∙ sym (ap first_kept is) ∙ found) in
    not_read n more (sym (ap (add_arch n seen) (ap arch_at same ∙ bad)) ∙ ok)

-- ---- a fault before which no architecture stands

behind_skipped : (before after : List (List ℕ)) (line : List ℕ)
    → filter (λ l. not (is_skipped l)) before ≡ [] → is_skipped line ≡ false
    → first_kept (before ++ line ∷ after) ≡ Some line
behind_skipped [] after line none kept = first_is line after kept
behind_skipped (b ∷ before) after line none kept =
    by (λ g. behind_skipped before after line g kept) (is_skipped b) refl none
  where
    by : (filter (λ l. not (is_skipped l)) before ≡ []
        → first_kept (before ++ line ∷ after) ≡ Some line) → (v : Bool) → is_skipped b ≡ v
        → cond (not v) (b ∷ filter (λ l. not (is_skipped l)) before)
        (filter (λ l. not (is_skipped l)) before) ≡ []
        → first_kept (b ∷ (before ++ line ∷ after)) ≡ Some line
    by later true is g = first_skipped b (before ++ line ∷ after) is ∙ later g
    by later false is g = absurd cc

unread : (number : ℕ) (line : List ℕ) (fault : ArchsFault) → IsFaulty [] number line fault
    → arch_at line ≡ None
unread number line (BadLine n) f = by (arch_at line) refl
  where
    by : (o : Option ArchWords) → arch_at line ≡ o → arch_at line ≡ None
    by None is = is
    by (Some p) is = let found = arch_exact.found line p is in absurd (f.1 p found.1 found.0)
unread number line (Twice n) f = absurd (let named = f.1.named in cc)
unread number line TooMany f = absurd (let many = f.1 in omega arith)
unread number line NoMemory f = absurd f

pub first_bad : (lines : List (List ℕ)) (fault : ArchsFault) → (f : IsFirstFault lines fault)
    → f.seen ≡ [] → (first_kept lines ≡ Some f.line) × (arch_at f.line ≡ None)
first_bad lines fault f none =
    let fine : AreLinesOf [] [] f.before =
    subst (λ (seen : List ArchWords). AreLinesOf [] seen f.before) none f.fine in (
      ap first_kept f.parts ∙ behind_skipped f.before f.after f.line fine.spelled f.kept,
      unread (1 + length f.before) f.line fault
          (subst (λ (seen : List ArchWords). IsFaulty seen (1 + length f.before) f.line fault) none
          f.faulty),
    )
