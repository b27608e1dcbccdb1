-- What is found by names is what an archive holds.
use Rattle.std.proofs.Common.{◌≡◌, ◌+◌, ◌==◌, ◌||◌, ◌&&◌, ℕ, zero, suc, Bool, true, false, not}
use Rattle.std.proofs.Common.{List, [], ◌∷◌, map, Option, Some, Result, Ok, Err, length}
use Rattle.std.proofs.Common.{nat_lt, refl, sym, ap, ◌∙◌, add-one, inl, inr, arith}
use Rattle.std.specs.Prelude.{IfOk, slice_index_or}
use Rattle.std.specs.Borrow.{Bor}
use Rattle.std.specs.List.{list_any}
use Rattle.std.specs.Option.{option_map_or}
use Rattle.std.specs.Str.{bytes_eq}
use Rattle.std.proofs.Math.Bool.{and-or_distrib_left, and_assoc, or_assoc}
use Rattle.std.proofs.lemmas.Bool.{cases_lt, le-ltb}
use Rattle.td_text.proofs.Anywhere.{any-same}
use Rattle.td_text.proofs.Chain.{list_any-map}
use Rattle.td_relation.specs.Asked.{Asked, asked}
use Rattle.td_relation.specs.declared.relation.Alternative.{Alternative}
use Rattle.td_indices.specs.Archive.{Contents, is_of, number_named}
use Rattle.td_indices.specs.OfferedNames.{offered_names}
use Rattle.td_waves.specs.declared.asking.Asker.{Asker}
use Rattle.td_waves.specs.declared.providers.Provider.{Provider}
use Rattle.td_waves.specs.declared.providers.Providers.{Providers}
use Rattle.td_waves.specs.Asking.{finds, is_base, is_found}
use Rattle.td_waves.specs.BuildsOn.{asked_first, asked_for_arch, asks, builds_on, fits}
use Rattle.td_waves.specs.BuildsOn.{names_some_of, some_asked}
use Rattle.td_waves.specs.Edges.{name_at}
use Rattle.td_waves.specs.Named.{is_other, texts}
use Rattle.td_waves.specs.Providers.{passes_under, some_below, some_passes, under}
use Rattle.td_waves.proofs.Names.{other_is}
use Rattle.td_waves.proofs.Passing.{any-under, next_below}

pub ok_then : {T E : Type 0} (r : Result T E) (P Q : T → Type 0) → IfOk r P → ((v : T) → P v → Q v)
    → IfOk r Q
ok_then (Ok v) P Q h f = f v h
ok_then (Err e) P Q h f = tt

-- ---- one member more

pub taken_asked : (F : Asked → Bool) (old now : Bool) (m : List Alternative)
    (left rest : List (List Asked)) → left ≡ map asked m ∷ rest → now ≡ (old
    || list_any (λ x. F (asked x)) m) → (now || some_asked F rest) ≡ (old || some_asked F left)
taken_asked F old now m left rest is e =
    ap (λ b. b || some_asked F rest) e
    ∙ or_assoc old (list_any (λ x. F (asked x)) m) (some_asked F rest)
    ∙ ap (λ b. old || (b || some_asked F rest)) (sym (list_any-map F asked m))
    ∙ ap (λ l. old || some_asked F l) (sym is)

-- ---- one source more

pub below_more : (a : Contents) (names : List (List ℕ)) (q : List ℕ) (test : Provider → Bool)
    (n : ℕ) (name : List ℕ) (now old : Bool) → slice_index_or names n [] ≡ name
    → now ≡ (old || some_passes a q test name n) → old ≡ some_below a names q test n
    → now ≡ some_below a names q test (n + 1)
below_more a names q test n name now old is e h =
    e ∙ ap (λ b. b || some_passes a q test name n) h
    ∙ ap (λ s. some_below a names q test n || some_passes a q test s n) (sym is)
    ∙ ap (λ k. some_below a names q test k) (sym (add-one n))

-- ---- the packages of one source

-- a test on what is found: of another source, it fits, and of the source with the number t
abbrev pub base_test : (ℕ → Bool) → (Option ℕ → Bool) → ℕ → Provider → Bool
base_test other fit t p = (other p.owner && fit p.home) && (p.owner == t)

pull : (b o f e : Bool) → (b && ((o && f) && e)) ≡ ((e && o) && (b && f))
pull true true true true = refl
pull true true true false = refl
pull true true false true = refl
pull true true false false = refl
pull true false f true = refl
pull true false f false = refl
pull false true f true = refl
pull false false f true = refl
pull false o f false = refl

swap : (b c d : Bool) → (b && (c && d)) ≡ (c && (b && d))
swap true c d = refl
swap false true d = refl
swap false false d = refl

-- some package of the source with this name passes
abbrev pub some_fits : Contents → List ℕ → (Option ℕ → Bool) → List ℕ → Bool
some_fits a q fit name =
    list_any (λ b. is_of name b && list_any (λ n. bytes_eq q n && fit b.head.home)
    (offered_names b)) a.binaries

one_source : (a : Contents) (q : List ℕ) (other : ℕ → Bool) (fit : Option ℕ → Bool) (t : ℕ)
    (name : List ℕ) (j : ℕ) → some_passes a q (base_test other fit t) name j
    ≡ ((j == t) && (other j && some_fits a q fit name))
one_source a q other fit t name j =
    let c = (j == t) && other j in
    any-same (λ b. is_of name b && passes_under q (base_test other fit t) j b)
    (λ b. c && (is_of name b && list_any (λ n. bytes_eq q n && fit b.head.home)
    (offered_names b))) a.binaries
    (λ b. ap (λ x. is_of name b && x)
    (any-same (λ n. bytes_eq q n && base_test other fit t
    (record { home = b.head.home; owner = j }))
    (λ n. c && (bytes_eq q n && fit b.head.home)) (offered_names b)
    (λ n. pull (bytes_eq q n) (other j) (fit b.head.home) (j == t))
    ∙ any-under c (λ n. bytes_eq q n && fit b.head.home) (offered_names b))
    ∙ swap (is_of name b) c (list_any (λ n. bytes_eq q n && fit b.head.home) (offered_names b)))
    ∙ any-under c (λ b. is_of name b && list_any (λ n. bytes_eq q n && fit b.head.home)
    (offered_names b)) a.binaries
    ∙ and_assoc (j == t) (other j) (some_fits a q fit name)

below_is : (a : Contents) (names : List (List ℕ)) (q : List ℕ) (other : ℕ → Bool)
    (fit : Option ℕ → Bool) (t n : ℕ) → some_below a names q (base_test other fit t) n
    ≡ (nat_lt t n && (other t && some_fits a q fit (slice_index_or names t [])))
below_is a names q other fit t zero =
    sym (ap (λ b. b && (other t && some_fits a q fit (slice_index_or names t [])))
    (le-ltb t 0 (omega arith)))
below_is a names q other fit t (suc n) =
    ap (λ b. b || some_passes a q (base_test other fit t) (slice_index_or names n []) n)
    (below_is a names q other fit t n)
    ∙ ap (λ b. (nat_lt t n && (other t && some_fits a q fit (slice_index_or names t []))) || b)
    (one_source a q other fit t (slice_index_or names n []) n)
    ∙ next_below t n (λ j. other j && some_fits a q fit (slice_index_or names j []))
    ∙ ap (λ k. nat_lt t k && (other t && some_fits a q fit (slice_index_or names t []))) (add-one n)

-- ---- all

-- the number is a source's, which is another
abbrev pub is_there : List (Bor (List ℕ)) → List ℕ → ℕ → Bool
is_there names own t = nat_lt t (length names) && not (bytes_eq own (name_at names t))

other_there : (names : List (Bor (List ℕ))) (own : List ℕ) (t : ℕ) (s : Bool)
    → (nat_lt t (length names) && (is_other names own t && s)) ≡ (is_there names own t && s)
other_there names own t s = elim (cases_lt t (length names)) [
  | inl lt ↦ ap (λ b. nat_lt t (length names) && (b && s)) (other_is names own t lt)
      ∙ sym (and_assoc (nat_lt t (length names)) (not (bytes_eq own (name_at names t))) s)
  | inr le ↦ ap (λ b. b && (is_other names own t && s)) (le-ltb t (length names) le)
      ∙ sym (ap (λ b. (b && not (bytes_eq own (name_at names t))) && s)
      (le-ltb t (length names) le))
]

-- what is found under names is what some source's packages offer
abbrev pub IsIndex : Contents → List (Bor (List ℕ)) → Providers → Type 0
IsIndex a names providers = (q : List ℕ) (test : Provider → Bool)
    → list_any test (under providers q) ≡ some_below a (texts names) q test (length names)

found_is : (w : Asker) (t : ℕ) (x : Asked) → IsIndex w.archive.now w.names.now.keys w.providers.now
    → is_found w t x ≡ (is_there w.names.now.keys w.name.now t
    && names_some_of w.archive.now w.number (name_at w.names.now.keys t) x)
found_is w t x index =
    let names = w.names.now.keys in
    index x.name (is_base w t x)
    ∙ below_is w.archive.now (texts names) x.name (is_other names w.name.now)
    (fits w.archive.now w.number x) t (length names)
    ∙ other_there names w.name.now t
    (some_fits w.archive.now x.name (fits w.archive.now w.number x) (name_at names t))

some_under : (c : Bool) (F G : Asked → Bool) (ms : List (List Asked))
    → ((x : Asked) → F x ≡ (c && G x)) → some_asked F ms ≡ (c && some_asked G ms)
some_under c F G ms e =
    any-same (λ m. list_any F m) (λ m. c && list_any G m) ms
    (λ m. any-same F (λ x. c && G x) m e ∙ any-under c G m)
    ∙ any-under c (λ m. list_any G m) ms

pub finds_is : (w : Asker) (t : ℕ) → IsIndex w.archive.now w.names.now.keys w.providers.now
    → finds w t ≡ (is_there w.names.now.keys w.name.now t
    && asks w.archive.now (name_at w.names.now.keys t) w.number)
finds_is w t index =
    let c = is_there w.names.now.keys w.name.now t in
    let G = names_some_of w.archive.now w.number (name_at w.names.now.keys t) in
    let first = asked_first w.archive.now w.number in
    let for_arch = asked_for_arch w.archive.now w.number in
    ap (λ b. b || some_asked (is_found w t) for_arch)
    (some_under c (is_found w t) G first (λ x. found_is w t x index))
    ∙ ap (λ b. (c && some_asked G first) || b)
    (some_under c (is_found w t) G for_arch (λ x. found_is w t x index))
    ∙ sym (and-or_distrib_left c (some_asked G first) (some_asked G for_arch))

pub builds_is : (a : Contents) (names : List (Bor (List ℕ))) (own s : List ℕ) (number t : ℕ)
    → s ≡ own → number_named a own ≡ Some number → (is_there names own t && asks a
    (name_at names t) number) ≡ (nat_lt t (length names) && builds_on a s (name_at names t))
builds_is a names own s number t is e =
    and_assoc (nat_lt t (length names)) (not (bytes_eq own (name_at names t)))
    (asks a (name_at names t) number)
    ∙ ap (λ o. nat_lt t (length names) &&
    (not (bytes_eq own (name_at names t)) && option_map_or (asks a (name_at names t)) o false))
    (sym e)
    ∙ ap (λ k. nat_lt t (length names) && builds_on a k (name_at names t)) (sym is)
