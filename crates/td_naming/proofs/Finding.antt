-- The rows that a command names, over plain values.
use Rattle.std.proofs.Common.{◌≡◌, ℕ, Bool, true, false, ◌&&◌, ◌||◌, List, [], ◌∷◌}
use Rattle.std.proofs.Common.{◌++◌, Option, None, filter, is_some, if◌then◌else◌, ap, refl}
use Rattle.std.proofs.Common.{sym, subst, ◌∙◌}
use Rattle.std.specs.List.{list_any}
use Rattle.std.specs.Ordering.{is_lt, ordering_reverse}
use Rattle.std.specs.declared.cmp.Ordering.{Ordering}
use Rattle.std.specs.declared.cmp.Ordering.TheVariants.{Less, Equal, Greater}
use Rattle.std.specs.Str.{bytes_eq}
use Rattle.std.proofs.lemmas.Bool.{and_parts}
use Rattle.std.proofs.Math.Bool.{and-or_distrib_left, and-or_distrib_right, or_assoc}
use Rattle.td_rows.specs.declared.key.Key.{Key}
use Rattle.td_rows.specs.Keys.{key_cmp, same_key, names, below_all, ascending}
use Rattle.td_rows.specs.Table.{Table, row_of, keys_of}
use Rattle.td_rows.proofs.Keys.{key_total, same_key-true, same_key-refl, same_key-sym}
use Rattle.td_rows.proofs.Tables.{names-push}
use Rattle.td_change.proofs.Numbers.{names-below, is_some-row_of}
use Rattle.td_core.proofs.Taking.{passes-filter, names-filter, ascending-filter}
use Rattle.std.specs.Prelude.{Some, string_bytes}
use Rattle.std.specs.Option.{option_and_then}
use Rattle.std.specs.Result.{result_ok}
use Rattle.td_version.specs.Reading.{reading}
use Rattle.td_version.specs.Version.{Parts}
use Rattle.td_version.proofs.Outcomes.{read_only}
use Rattle.td_supply.specs.Supply.{SupplyView}
use Rattle.td_supply.specs.VersionTexts.{HasVersion}
use Rattle.td_wbread.specs.declared.command.Command.{Command}
use Rattle.td_wbread.specs.Naming.{is_named}
use Rattle.td_wbread.specs.Views.{parts_of}
use Rattle.td_wbread.proofs.Names.{has_arch, has_source}
use Rattle.td_naming.specs.Naming.{Adds, version_in}

-- ---- 1. lists of keys that rise

pub below_named : (x k : Key) (ks : List Key) → below_all x ks ≡ true → names ks k ≡ true
    → is_lt (key_cmp x k) ≡ true
below_named x k [] below named = cc
below_named x k (q ∷ ks) below named =
    let both = and_parts (is_lt (key_cmp x q)) (below_all x ks) below in
    elim (same_key k q) as (λ b.
    same_key k q ≡ b → (if b then true else names ks k) ≡ true → is_lt (key_cmp x k) ≡ true) [
      | true ↦
          λ e h. subst (λ (z : Key). is_lt (key_cmp x z) ≡ true) (sym (same_key-true k q e)) both.0
      | false ↦ λ e h. below_named x k ks both.1 h
    ] refl named

less_not : (a b : Ordering) → a ≡ ordering_reverse b → is_lt a ≡ true → is_lt b ≡ true → ⊥
less_not Less Less e h g = cc
less_not Less Equal e h g = cc
less_not Less Greater e h g = cc
less_not Equal b e h g = cc
less_not Greater b e h g = cc

never_both : (x y : Key) → is_lt (key_cmp x y) ≡ true → is_lt (key_cmp y x) ≡ true → ⊥
never_both x y h g = less_not (key_cmp x y) (key_cmp y x) (key_total.antisymm x y) h g

-- the first of such a list is named by another that names the same, as its first
first_same : (x y : Key) (xs ys : List Key) → below_all x xs ≡ true → below_all y ys ≡ true
    → names (y ∷ ys) x ≡ true → names (x ∷ xs) y ≡ true → x ≡ y
first_same x y xs ys bx by h g =
    elim (same_key x y) as (λ b.
    same_key x y ≡ b → (if b then true else names ys x) ≡ true → x ≡ y) [
      | true ↦ λ e _. same_key-true x y e
      | false ↦
          λ e later. elim (same_key y x) as (λ b.
          same_key y x ≡ b → (if b then true else names xs y) ≡ true → x ≡ y) [
            | true ↦ λ e _. sym (same_key-true y x e)
            | false ↦
                λ _ other. absurd
                (never_both x y (below_named x y xs bx other) (below_named y x ys by later))
          ] refl g
    ] refl h

names_first : (x : Key) (xs : List Key) → names (x ∷ xs) x ≡ true
names_first x xs = ap (λ b. if b then true else names xs x) (same_key-refl x)

names_rest : (x k : Key) (xs : List Key) → below_all x xs ≡ true
    → names xs k ≡ (if same_key k x then false else names (x ∷ xs) k)
names_rest x k xs below =
    elim (same_key k x) as (λ b.
    same_key k x ≡ b → names xs k ≡ (if b then false else (if b then true else names xs k))) [
      | true ↦ λ e. ap (names xs) (same_key-true k x e) ∙ names-below x xs below
      | false ↦ λ e. refl
    ] refl

-- two lists that rise and name the same keys are one
pub rising_same : (xs ys : List Key) → ascending xs ≡ true → ascending ys ≡ true
    → ((k : Key) → names xs k ≡ names ys k) → xs ≡ ys
rising_same [] [] ux uy same = refl
rising_same [] (y ∷ ys) ux uy same =
    absurd (let bad : false ≡ true = same y ∙ names_first y ys in cc)
rising_same (x ∷ xs) [] ux uy same =
    absurd (let bad : true ≡ false = sym (names_first x xs) ∙ same x in cc)
rising_same (x ∷ xs) (y ∷ ys) ux uy same =
    let px = and_parts (below_all x xs) (ascending xs) ux in
    let py = and_parts (below_all y ys) (ascending ys) uy in
    let first : x ≡ y = first_same x y xs ys px.0 py.0 (sym (same x) ∙ names_first x xs)
    (same y ∙ names_first y ys) in
    let rest : xs ≡ ys = rising_same xs ys px.1 py.1 (λ k.
    names_rest x k xs px.0 ∙ ap (λ (b : Bool). if same_key k x then false else b) (same k)
    ∙ ap (λ (z : Key). if same_key k z then false else names (y ∷ ys) k) first
    ∙ sym (names_rest y k ys py.0)) in
    λ j. first j ∷ rest j

-- a filter names the keys that pass
pub filter-names : (p : Key → Bool) (ks : List Key) (k : Key)
    → names (filter p ks) k ≡ (p k && names ks k)
filter-names p ks k =
    elim (names (filter p ks) k) as (λ b. names (filter p ks) k ≡ b → b ≡ (p k && names ks k)) [
      | true ↦ λ e. sym ((λ j. passes-filter p ks k e j && names-filter p ks k e j))
      | false ↦ λ e. elim (p k) as (λ c. p k ≡ c → false ≡ (c && names ks k)) [
        | true ↦ λ pass. elim (names ks k) as (λ d. names ks k ≡ d → false ≡ d) [
          | true ↦ λ named. sym e ∙ kept p ks k pass named
          | false ↦ λ _. refl
        ] refl
        | false ↦ λ _. refl
      ] refl
    ] refl
  where
    kept : (p : Key → Bool) (ks : List Key) (k : Key) → p k ≡ true → names ks k ≡ true
        → names (filter p ks) k ≡ true
    kept p [] k pass named = named
    kept p (q ∷ ks) k pass named =
        elim (same_key k q) as (λ c.
        same_key k q ≡ c → (if c then true else names ks k) ≡ true
        → names (if p q then q ∷ filter p ks else filter p ks) k ≡ true) [
          | true ↦ λ same _. let passes : p q ≡ true = ap p (sym (same_key-true k q same)) ∙ pass in
              ap (λ b. names (if b then q ∷ filter p ks else filter p ks) k) passes
              ∙ ap (λ b. if b then true else names (filter p ks) k) same
          | false ↦
              λ other later.
              elim (p q) as (λ b. names (if b then q ∷ filter p ks else filter p ks) k ≡ true) [
                | true ↦
                    ap (λ b. if b then true else names (filter p ks) k) other
                    ∙ kept p ks k pass later
                | false ↦ kept p ks k pass later
              ]
        ] refl named

-- ---- 2. look-ups

-- a key that is found is added
pub adds_one : (t : Table) (old new : List Key) (source arch : List ℕ) (k : Key)
    → k ≡ (record { source = source; arch = arch }) → is_some (row_of t k) ≡ true
    → new ≡ old ++ k ∷ [] → Adds t old new (λ q. bytes_eq source q.source && bytes_eq arch q.arch)
adds_one t old new source arch k is there now = λ q.
    ap (λ (ks : List Key). names ks q) now ∙ names-push old k q ∙ told q
  where
    swap : (q : Key) → same_key q k ≡ same_key k q
    swap q = elim (same_key q k) as (λ b. same_key q k ≡ b → b ≡ same_key k q) [
      | true ↦ λ e. sym (same_key-sym q k e)
      | false ↦
          λ e. elim (same_key k q) as (λ c. same_key k q ≡ c → false ≡ c) [
            | true ↦
                λ g. sym e ∙ same_key-sym k q g
            | false ↦ λ _. refl
          ] refl
    ] refl

    here : (q : Key) → same_key (record { source = source; arch = arch }) q
        ≡ ((bytes_eq source q.source && bytes_eq arch q.arch) && is_some (row_of t q))
    here q =
        elim (same_key (record { source = source; arch = arch }) q) as (λ b.
        same_key (record { source = source; arch = arch }) q ≡ b
        → b ≡ (b && is_some (row_of t q))) [
          | true ↦
              λ e. sym (ap (λ (z : Key). is_some (row_of t z))
              (sym (is ∙ same_key-true (record { source = source; arch = arch }) q e)) ∙ there)
          | false ↦ λ _. refl
        ] refl

    is_it : (q : Key) → same_key q k
        ≡ ((bytes_eq source q.source && bytes_eq arch q.arch) && is_some (row_of t q))
    is_it q = swap q ∙ ap (λ (z : Key). same_key z q) is ∙ here q

    told : (q : Key) → (if names old q then true else same_key q k)
        ≡ (names old q
        || ((bytes_eq source q.source && bytes_eq arch q.arch) && is_some (row_of t q)))
    told q =
        elim (names old q) as (λ b.
        (if b then true else same_key q k)
        ≡ (b || ((bytes_eq source q.source && bytes_eq arch q.arch) && is_some (row_of t q)))) [
          | true ↦ refl
          | false ↦ is_it q
        ]

more_archs : (o s x y r : Bool)
    → ((o || ((s && x) && r)) || ((s && y) && r)) ≡ (o || ((s && (x || y)) && r))
more_archs o s x y r =
    or_assoc o ((s && x) && r) ((s && y) && r)
    ∙ ap (λ b. o || b) (sym (and-or_distrib_right (s && x) (s && y) r)
    ∙ ap (λ b. b && r) (sym (and-or_distrib_left s x y)))

-- one architecture more
pub adds_arch : (t : Table) (old mid new : List Key) (s x y : Key → Bool) (z : Key → Bool)
    → Adds t old mid (λ k. s k && x k) → Adds t mid new (λ k. s k && y k)
    → ((k : Key) → z k ≡ (x k || y k)) → Adds t old new (λ k. s k && z k)
adds_arch t old mid new s x y z first then_ both = λ k.
    then_ k ∙ ap (λ b. b || ((s k && y k) && is_some (row_of t k))) (first k)
    ∙ more_archs (names old k) (s k) (x k) (y k) (is_some (row_of t k))
    ∙ ap (λ b. names old k || ((s k && b) && is_some (row_of t k))) (sym (both k))

-- ---- 3. sorting

-- what look-ups found, sorted, are the named keys
pub named_all : (t : Table) (found sorted : List Key) (p : Key → Bool)
    → ascending (keys_of t) ≡ true → ascending sorted ≡ true
    → ((k : Key) → names sorted k ≡ names found k) → Adds t [] found p
    → sorted ≡ filter p (keys_of t)
named_all t found sorted p up rising same adds =
    rising_same sorted (filter p (keys_of t)) rising (ascending-filter p (keys_of t) up) (λ k.
    same k ∙ adds k ∙ ap (λ b. p k && b) (is_some-row_of t k) ∙ sym (filter-names p (keys_of t) k))

-- a command names a key by its packages and its architectures
pub named_same : (command : Command) (source arch : List ℕ)
    → (list_any (λ p. bytes_eq (string_bytes p.source) source) command.packages.items
    && list_any (λ a. bytes_eq a.now arch) command.archs.items)
    ≡ is_named (parts_of command) source arch
named_same command source arch =
    λ j. has_source command source j && has_arch command arch j

pub adds_same : (t : Table) (old new : List Key) (p q : Key → Bool) → ((k : Key) → p k ≡ q k)
    → Adds t old new p → Adds t old new q
adds_same t old new p q same adds =
    λ k. adds k ∙ ap (λ b. names old k || (b && is_some (row_of t k))) (same k)

-- the parts of a source's version are those that its text is read as
pub version_is : (s : SupplyView) (source : List ℕ) (version : Option Parts)
    → HasVersion s source version → version ≡ version_in s source
version_is s source None has = sym (ap (option_and_then (λ text. result_ok (reading text))) has)
version_is s source (Some parts) has =
    sym (ap (option_and_then (λ text. result_ok (reading text))) has.1
    ∙ ap result_ok (read_only has.0 parts has.2))
