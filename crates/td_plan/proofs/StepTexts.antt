-- The texts of affected sources, source by source and part by part.
use Rattle.std.proofs.Common.{◌≡◌, ℕ, ◌+◌, ◌<◌, List, [], ◌∷◌, ◌++◌, append-nil, get_or}
use Rattle.std.proofs.Common.{length, map, take, Option, Some, refl, sym, ap, subst, ◌∙◌}
use Rattle.std.specs.Prelude.{option_map, slice_get}
use Rattle.std.specs.Global.{Vec}
use Rattle.std.specs.List.{All, cons_option, flat_map}
use Rattle.std.specs.Option.{option_map_or}
use Rattle.std.proofs.lemmas.List.{map-append}
use Rattle.std.proofs.lemmas.List.Elements.{All-head, All-tail, filter_map-append}
use Rattle.td_text.specs.Lines.{text_of}
use Rattle.td_indices.specs.Archive.{Contents}
use Rattle.td_indices.specs.Sources.{KeptSource}
use Rattle.td_query.specs.Tracking.{Tracking}
use Rattle.td_plan.specs.declared.asks.Ask.{Ask}
use Rattle.td_plan.specs.declared.bases.Bases.{Bases}
use Rattle.td_plan.specs.declared.movers.Mover.{Mover}
use Rattle.td_plan.specs.declared.steps.Steps.{Steps}
use Rattle.td_plan.specs.Premises.{SourcesAreApart, name_of}
use Rattle.td_plan.specs.Steps.{part_with_reasons}
use Rattle.td_plan.specs.Why.{why_line}
use Rattle.td_plan.specs.inner.Askers.{AreAsksOf}
use Rattle.td_plan.specs.inner.Bases.{AreBases}
use Rattle.td_plan.specs.inner.Movers.{AreAffected, mover_name}
use Rattle.td_plan.specs.inner.Planned.{name_at, sources_at}
use Rattle.td_plan.specs.inner.Stepping.{IsStepsOf, kept_in}
use Rattle.td_plan.specs.inner.Waiters.{kept_of}
use Rattle.td_plan.proofs.SourcePlaces.{text-more}
use Rattle.td_plan.proofs.SourceTexts.{lines-more, taken, text_of-append}
use Rattle.td_plan.proofs.Waiters.{at-below}

-- the names of the sources with some numbers
pub names-at : (ms : List Mover) (ns : List ℕ) → All (λ n. n < length ms) ns
    → map name_of (sources_at ms ns) ≡ map (name_at ms) ns
names-at ms [] all = refl
names-at ms (n ∷ ns) all =
    let m = at-below ms n (All-head (λ k. k < length ms) n ns all) in
    ap (λ (o : Option Mover). map name_of (cons_option (option_map kept_of o) (sources_at ms ns)))
    m.1
    ∙ ap (λ (l : List (List ℕ)). mover_name m.0 ∷ l)
    (names-at ms ns (All-tail (λ k. k < length ms) n ns all))
    ∙ ap (λ (o : Option Mover). option_map_or mover_name o [] ∷ map (name_at ms) ns) (sym m.1)

-- the line of a source, of those who ask for what
pub why-at : (t : Tracking) (steps : Steps) → IsStepsOf t steps → (n : ℕ) (m : Mover)
    → slice_get steps.movers.items n ≡ Some m → (b : Bases)
    → b.archive.now ≡ steps.archive.now → b.movers.now ≡ steps.movers.items
    → (asks : List (Vec Ask)) → AreAsksOf steps.archive.now steps.movers.items n m asks
    → (old new : List ℕ)
    → ((t : Tracking) (m : Mover) → AreBases t b → slice_get b.movers.now n ≡ Some m
    → AreAsksOf b.archive.now b.movers.now n m asks
    → new ≡ old ++ (why_line b.archive.now (map kept_of b.movers.now) (kept_of m) ++ 10 ∷ []))
    → new ≡ old ++ text_of (part_with_reasons steps.archive.now (kept_in steps)
    (sources_at steps.movers.items (n ∷ [])))
why-at t steps is n m at b archive movers asks of old new so =
    let a = steps.archive.now in
    let ms = steps.movers.items in
    let why = why_line a (map kept_of ms) in
    let bases : AreBases t b = record {
      apart = subst SourcesAreApart (sym archive) is.apart;
      sources = subst (λ (c : Contents). AreAffected c t b.movers.now) (sym archive)
          (subst (λ (l : List Mover). AreAffected a t l) (sym movers) is.sources);
    } in
    let its : AreAsksOf b.archive.now b.movers.now n m asks =
    subst (λ (c : Contents). AreAsksOf c b.movers.now n m asks) (sym archive)
    (subst (λ (l : List Mover). AreAsksOf a l n m asks) (sym movers) of) in
    so t m bases (ap (λ (l : List Mover). slice_get l n) movers ∙ at) its
    ∙ ap (λ (c : Contents). old ++ (why_line c (map kept_of b.movers.now) (kept_of m) ++ 10 ∷ []))
    archive
    ∙ ap (λ (l : List Mover). old ++ (why_line a (map kept_of l) (kept_of m) ++ 10 ∷ [])) movers
    ∙ ap (λ (l : List ℕ). old ++ l) (sym (append-nil (why (kept_of m) ++ 10 ∷ [])))
    ∙ ap (λ (o : Option Mover). old ++ text_of (map why (cons_option (option_map kept_of o) [])))
    (sym at)

-- the lines of some sources, and of one more
pub whys-next : (a : Contents) (sources : List KeptSource) (ms : List Mover) (ns : List ℕ) (i n : ℕ)
    (start old new : List ℕ) → i < length ns → n ≡ get_or ns i n
    → old ≡ start ++ text_of (part_with_reasons a sources (sources_at ms (take i ns)))
    → new ≡ old ++ text_of (part_with_reasons a sources (sources_at ms (n ∷ [])))
    → new ≡ start ++ text_of (part_with_reasons a sources (sources_at ms (take (i + 1) ns)))
whys-next a sources ms ns i n start old new low is was more =
    let lines = λ (l : List ℕ). part_with_reasons a sources (sources_at ms l) in
    text-more start old new (text_of (lines (take i ns))) (text_of (lines (n ∷ [])))
    (text_of (lines (take (i + 1) ns))) was more
    (ap (λ (l : List ℕ). text_of (lines l)) (taken ns i n low is)
    ∙ ap (λ (l : List KeptSource). text_of (part_with_reasons a sources l))
    (filter_map-append (λ (k : ℕ). option_map kept_of (slice_get ms k)) (take i ns) (n ∷ []))
    ∙ ap text_of (map-append (why_line a sources) (sources_at ms (take i ns))
    (sources_at ms (n ∷ [])))
    ∙ text_of-append (lines (take i ns)) (lines (n ∷ [])))

-- the lines that are made of some items, and of one more
pub made-next : {A : Type 0} (made : A → List (List ℕ)) (xs : List A) (i : ℕ) (x : A)
    (start old new : List ℕ) → i < length xs → x ≡ get_or xs i x
    → old ≡ start ++ text_of (flat_map made (take i xs)) → new ≡ old ++ text_of (made x)
    → new ≡ start ++ text_of (flat_map made (take (i + 1) xs))
made-next made xs i x start old new low is was more =
    text-more start old new (text_of (flat_map made (take i xs))) (text_of (made x))
    (text_of (flat_map made (take (i + 1) xs))) was more (lines-more made xs i x low is)
