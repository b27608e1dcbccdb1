-- The numbers of the affected sources, by those of the archive's sources.
use Rattle.std.proofs.Common.{◌≡◌, ℕ, zero, suc, ◌+◌, ◌<◌, ◌≤◌, true, List, []}
use Rattle.std.proofs.Common.{◌∷◌, length, replicate, set, Option, Some, None}
use Rattle.std.proofs.Common.{slice_get, refl, sym, ap, subst, ◌∙◌, inl, inr, arith, length-set}
use Rattle.std.specs.Str.{bytes_eq}
use Rattle.std.proofs.lemmas.Bool.{cases_eq, cases_lt, false_from_ne_true}
use Rattle.std.proofs.lemmas.Option.{slice_get_within}
use Rattle.std.proofs.lemmas.Slice.Eq.{bytes_eq-Decides}
use Rattle.td_text.proofs.Chain.{some_is}
use Rattle.td_indices.specs.Archive.{number_named, source_named}
use Rattle.td_indices.specs.Sources.{KeptSource}
use Rattle.td_query.specs.Statuses.{is_affected}
use Rattle.td_plan.specs.declared.movers.Mover.{Mover}
use Rattle.td_plan.specs.Premises.{AreSound, Premises}
use Rattle.td_plan.specs.inner.Movers.{AreMovers}
use Rattle.td_plan.specs.inner.Planned.{AreNumbers, IsMoverNamed}
use Rattle.td_plan.specs.inner.Waiters.{kept_of}
use Rattle.td_plan.proofs.Asked.{names-apart}
use Rattle.td_plan.proofs.Chosen.{find-has}
use Rattle.td_plan.proofs.Named.{has-name, named-by}
use Rattle.td_plan.proofs.Picked.{has-numbered, numbered-has}

-- ---- 1. an item in place of another

set-there : {A : Type 0} (xs : List A) (s : ℕ) (x : A) → s < length xs
    → slice_get (set xs s x) s ≡ Some x
set-there [] s x low = absurd (omega arith)
set-there (y ∷ xs) zero x low = refl
set-there (y ∷ xs) (suc s) x low = set-there xs s x (omega arith)

set-elsewhere : {A : Type 0} (xs : List A) (s n : ℕ) (x : A) → ¬ (n ≡ s)
    → slice_get (set xs s x) n ≡ slice_get xs n
set-elsewhere [] s n x apart = refl
set-elsewhere (y ∷ xs) zero zero x apart = absurd (apart refl)
set-elsewhere (y ∷ xs) zero (suc n) x apart = refl
set-elsewhere (y ∷ xs) (suc s) zero x apart = refl
set-elsewhere (y ∷ xs) (suc s) (suc n) x apart =
    set-elsewhere xs s n x (λ same. apart (ap suc same))

-- an item of equal ones is that one
equal-item : (n k limit i : ℕ) → slice_get (replicate n limit) k ≡ Some i → limit ≡ i
equal-item zero k limit i at = absurd (let bad : None ≡ Some i = at in cc)
equal-item (suc n) zero limit i at = some_is limit i at
equal-item (suc n) (suc k) limit i at = equal-item n k limit i at

-- ---- 2. numbers of the sources so far

-- sources at different places have different numbers
abbrev pub HaveNumbers : List Mover → Type 0
HaveNumbers ms = (j k : ℕ) (m n : Mover) → slice_get ms j ≡ Some m → slice_get ms k ≡ Some n
    → m.number ≡ n.number → j ≡ k

-- those of the sources so far are known, where they are within the list
pub record AreNumbersTo (ms : List Mover) (to : ℕ) (numbers : List ℕ) : Type 0 where
  pub of : HaveNumbers ms → (k : ℕ) (m : Mover) → k < to → slice_get ms k ≡ Some m
      → m.number < length numbers → slice_get numbers m.number ≡ Some k
  pub at : (n k : ℕ) (m : Mover) → slice_get numbers n ≡ Some k → slice_get ms k ≡ Some m
      → m.number ≡ n

-- none yet
pub numbers-none : (ms : List Mover) (count : ℕ)
    → AreNumbersTo ms 0 (replicate count (length ms))
numbers-none ms count = record {
  of = λ apart k m low at within. absurd (omega arith);
  at = λ n k m there at.
      let last = equal-item count n (length ms) k there in
      absurd (let low = slice_get_within ms k m at in omega arith);
}

-- the next one's is set
pub numbers-set : (ms : List Mover) (i : ℕ) (m : Mover) (numbers : List ℕ)
    → slice_get ms i ≡ Some m → m.number < length numbers → AreNumbersTo ms i numbers
    → AreNumbersTo ms (i + 1) (set numbers m.number i)
numbers-set ms i m numbers at within are = record {
  of = λ apart k n low there inside. elim (cases_eq n.number m.number) [
    | inl same ↦
        let one : k ≡ i = apart k i n m there at same in
        subst (λ (a : ℕ). slice_get (set numbers m.number i) a ≡ Some k) (sym same)
        (set-there numbers m.number i within ∙ ap (λ (a : ℕ). Some a) (sym one))
    | inr other ↦
        let before : k < i = elim (cases_lt k i) [
          | inl less ↦ less
          | inr more ↦
              let here : k ≡ i = omega arith in
              absurd (other (ap (λ (x : Mover). x.number) (some_is n m
              (sym there ∙ ap (slice_get ms) here ∙ at))))
        ] in
        set-elsewhere numbers m.number n.number i other
        ∙ are.of apart k n before there
        (omega (arith, inside, length-set numbers m.number i))
  ];
  at = λ a k n there its. elim (cases_eq a m.number) [
    | inl same ↦
        let one : i ≡ k = some_is i k (sym (set-there numbers m.number i within)
        ∙ ap (slice_get (set numbers m.number i)) (sym same) ∙ there) in
        ap (λ (x : Mover). x.number) (some_is n m
        (sym its ∙ ap (slice_get ms) (sym one) ∙ at)) ∙ sym same
    | inr other ↦
        are.at a k n (sym (set-elsewhere numbers m.number a i other) ∙ there) its
  ];
}

-- or has no place
pub numbers-left : (ms : List Mover) (i : ℕ) (m : Mover) (numbers : List ℕ)
    → slice_get ms i ≡ Some m → length numbers ≤ m.number → AreNumbersTo ms i numbers
    → AreNumbersTo ms (i + 1) numbers
numbers-left ms i m numbers at past are = record {
  of = λ apart k n low there inside. elim (cases_lt k i) [
    | inl less ↦ are.of apart k n less there inside
    | inr more ↦
        let here : k ≡ i = omega arith in
        let same : n.number ≡ m.number = ap (λ (x : Mover). x.number) (some_is n m
        (sym there ∙ ap (slice_get ms) here ∙ at)) in
        absurd (omega arith)
  ];
  at = are.at;
}

-- ---- 3. numbers of all

module _ (p : Premises) (sound : AreSound p) (ms : List Mover) (movers : AreMovers p ms) where
  pub have-numbers : HaveNumbers ms
  have-numbers j k m n left right same = elim (cases_eq j k) [
    | inl one ↦ one
    | inr other ↦
        let mine = (movers.each j m left).at in
        let its = (movers.each k n right).at in
        let one : kept_of m ≡ kept_of n = some_is (kept_of m) (kept_of n)
        (sym mine ∙ ap (slice_get p.archive.sources) same ∙ its) in
        absurd (names-apart p ms movers j k m n left right other
        (ap (λ (s : KeptSource). s.head.name) one))
  ]

  pub numbers-all : (to : ℕ) (numbers : List ℕ) → length ms ≤ to
      → length numbers ≡ length p.archive.sources → AreNumbersTo ms to numbers
      → AreNumbers ms numbers
  numbers-all to numbers all len are = record {
    of = λ k m at.
        let low = slice_get_within ms k m at in
        let inside = slice_get_within p.archive.sources m.number (kept_of m)
        (movers.each k m at).at in
        are.of have-numbers k m (omega arith) at (omega arith);
    at = are.at;
  }

  -- ---- 4. the source with a name

  module _ (name : List ℕ) where
    -- it has a number
    named-number : (s : KeptSource) → source_named p.archive name ≡ Some s
        → (j : ℕ) × (slice_get p.archive.sources j ≡ Some s)
        × (number_named p.archive name ≡ Some j)
    named-number s named =
        let of =
        find-has (λ (t : KeptSource). bytes_eq name t.head.name) p.archive.sources s named in
        let same : name ≡ s.head.name = (bytes_eq-Decides name s.head.name).0 of.1 in
        let j = has-numbered p.archive.sources s of.0 in
        (j.0, j.1, ap (number_named p.archive) same ∙ sound.numbered j.0 s j.1)

    -- no source has the name
    pub none-numbered : None ≡ number_named p.archive name → IsMoverNamed p ms name None
    none-numbered none = λ s named.
        let j = named-number s named in
        absurd (let bad : None ≡ Some j.0 = none ∙ j.2 in cc)

    module _ (source : ℕ) (at : Some source ≡ number_named p.archive name) (numbers : List ℕ)
        (are : AreNumbers ms numbers) where
      -- an affected source of the name is the one with its number
      affected-there : (s : KeptSource) → source_named p.archive name ≡ Some s
          → is_affected p.archive p.tracker s ≡ true
          → (k : ℕ) × (m : Mover) × (slice_get numbers source ≡ Some k)
          × (slice_get ms k ≡ Some m)
      affected-there s named affected =
          let j = named-number s named in
          let found = movers.all s (numbered-has p.archive.sources j.0 s j.1) affected in
          let k = found.0 in
          let m = found.1 in
          let mine : slice_get p.archive.sources m.number ≡ Some s =
          (movers.each k m found.2).at ∙ ap (λ (t : KeptSource). Some t) found.3 in
          let number : m.number ≡ source = some_is m.number source
          (sym (sound.numbered m.number s mine) ∙ sound.numbered j.0 s j.1 ∙ sym j.2 ∙ sym at) in
          (k, m, ap (slice_get numbers) (sym number) ∙ are.of k m found.2, found.2)

      -- no affected source has it
      pub none-known : None ≡ slice_get numbers source → IsMoverNamed p ms name None
      none-known none = λ s named.
          false_from_ne_true (is_affected p.archive p.tracker s) (λ affected.
          let found = affected-there s named affected in
          let bad : None ≡ Some found.0 = none ∙ found.2 in cc)

      -- the affected source with it
      pub mover-known : (k : ℕ) → Some k ≡ slice_get numbers source → (o : Option Mover)
          → o ≡ slice_get ms k → IsMoverNamed p ms name o
      mover-known k known None none = λ s named.
          false_from_ne_true (is_affected p.archive p.tracker s) (λ affected.
          let found = affected-there s named affected in
          let one : k ≡ found.0 = some_is k found.0 (known ∙ found.2) in
          let bad : None ≡ Some found.1 = none ∙ ap (slice_get ms) one ∙ found.3 in cc)
      mover-known k known (Some m) there =
          let number : m.number ≡ source = are.at source k m (sym known) (sym there) in
          let mine : slice_get p.archive.sources source ≡ Some (kept_of m) =
          ap (slice_get p.archive.sources) (sym number) ∙ (movers.each k m (sym there)).at in
          let same : name ≡ (kept_of m).head.name =
          has-name p.archive name source (kept_of m) (sym at) mine in (
            ap (source_named p.archive) same
                ∙ named-by p sound (kept_of m)
                (numbered-has p.archive.sources source (kept_of m) mine),
            movers.each k m (sym there),
          )
