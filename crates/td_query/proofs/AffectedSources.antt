-- Whether a source is affected, place by place, and all affected sources, by flags.
use Rattle.std.proofs.Common.{◌≡◌, ℕ, suc, ◌+◌, Bool, false, List, [], ◌∷◌, Option}
use Rattle.std.proofs.Common.{Some, None, filter, length, option_map, map, slice_get, refl}
use Rattle.std.proofs.Common.{sym, ap, ◌∙◌, arith, if◌then◌else◌}
use Rattle.std.specs.Prelude.{is_some}
use Rattle.std.specs.List.{AllZip, list_any, range_with_len}
use Rattle.std.specs.Option.{option_map_or}
use Rattle.std.proofs.lemmas.Slice.Zip.{AllZip-map}
use Rattle.td_indices.specs.Archive.{Contents}
use Rattle.td_indices.specs.Choosing.{flagged}
use Rattle.td_indices.specs.Sources.{KeptSource}
use Rattle.td_indices.specs.Seen.{seen_source, shown_source}
use Rattle.td_indices.specs.declared.sourced.Source.{Source}
use Rattle.td_query.specs.Statuses.{is_affected, is_affected_at, row_status, status_at}
use Rattle.td_query.specs.Tracking.{Tracking}

-- ---- 1. whether a source is affected

any-none : (xs : List ℕ) → list_any (λ x. false) xs ≡ false
any-none [] = refl
any-none (x ∷ xs) = any-none xs

by_place : (a : Contents) (t : Tracking) (o : Option KeptSource)
    → list_any (λ place. is_some (option_map_or (λ s. row_status a t s place) o None))
    (range_with_len 0 (length a.table)) ≡ option_map_or (is_affected a t) o false
by_place a t None = any-none (range_with_len 0 (length a.table))
by_place a t (Some s) = refl

-- a source is affected if and only if some row of it has a status
pub affected_by_place : (a : Contents) (t : Tracking) (source : ℕ) → list_any (λ place. is_some
    (status_at a t source place)) (range_with_len 0 (length a.table)) ≡ is_affected_at a t source
affected_by_place a t source = by_place a t (slice_get a.sources source)

-- ---- 2. all affected sources

-- what the flags of a test pick out of the sources is what passes the test
pub flagged-map : (test : KeptSource → Bool) (sources : List KeptSource)
    → flagged (map test sources) sources ≡ filter test sources
flagged-map test [] = refl
flagged-map test (s ∷ sources) =
    ap (λ (l : List KeptSource). if test s then s ∷ l else l) (flagged-map test sources)

-- a test by number, made of the numbers from one on, answers as the test of the sources does
by_number : (test : KeptSource → Bool) (at : ℕ → Bool) (first : ℕ) (sources : List KeptSource)
    → ((i : ℕ) → at (first + i) ≡ option_map_or test (slice_get sources i) false)
    → map at (range_with_len first (length sources)) ≡ map test sources
by_number test at first [] is = refl
by_number test at first (s ∷ sources) is =
    let here : first ≡ first + 0 = omega arith in
    let next : (i : ℕ) → first + 1 + i ≡ first + suc i = λ i. omega arith in
    ap (λ (b : Bool). b ∷ map at (range_with_len (first + 1) (length sources)))
    (ap at here ∙ is 0)
    ∙ ap (λ (bs : List Bool). test s ∷ bs)
    (by_number test at (first + 1) sources (λ i. ap at (next i) ∙ is (suc i)))

answers : (P Q : ℕ → Bool → Type 0) → ((n : ℕ) (b : Bool) → P n b → Q n b) → (ns : List ℕ)
    (bs : List Bool) → AllZip P ns bs → AllZip Q ns bs
answers P Q so [] [] all = tt
answers P Q so [] (b ∷ bs) all = absurd all
answers P Q so (n ∷ ns) [] all = absurd all
answers P Q so (n ∷ ns) (b ∷ bs) all = (so n b all.0, answers P Q so ns bs all.1)

-- flags that were made number by number are those of all sources
pub flags_made : (test : KeptSource → Bool) (sources : List KeptSource) (P : ℕ → Bool → Type 0)
    (numbers : List ℕ) (flags : List Bool) → numbers ≡ range_with_len 0 (length sources)
    → ((n : ℕ) (b : Bool) → P n b → b ≡ option_map_or test (slice_get sources n) false)
    → AllZip P numbers flags → flags ≡ map test sources
flags_made test sources P numbers flags all so made =
    let at : ℕ → Bool = λ n. option_map_or test (slice_get sources n) false in
    let same : (i : ℕ) → 0 + i ≡ i = λ i. omega arith in
    AllZip-map at numbers flags (answers P (λ n b. b ≡ at n) so numbers flags made)
    ∙ ap (map at) all ∙ by_number test at 0 sources (λ i. ap at (same i))

-- a source that the archive shows is a kept source of the same name
pub found : (o : Option KeptSource) (x : Source) → Some (seen_source x) ≡ option_map shown_source o
    → (s : KeptSource) × (o ≡ Some s) × (s.head.name ≡ x.name.now)
found None x h = absurd (cc)
found (Some s) x h = (
  s,
  refl,
  let it : seen_source x ≡ shown_source s = cc in
      sym (ap (λ y. y.head.name) it),
)
