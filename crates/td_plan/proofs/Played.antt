-- Commands one after the other over rows: what they make of the row of a key, and when each is
-- taken whole.
use Rattle.std.proofs.Common.{◌≡◌, ◌<◌, Bool, true, false, List, [], ◌∷◌, ◌++◌, length, Option}
use Rattle.std.proofs.Common.{Some}
use Rattle.std.proofs.Common.{None, refl, sym, ap, subst, ◌∙◌, inl, inr, arith}
use Rattle.std.specs.Prelude.{option_map, if◌then◌else◌}
use Rattle.std.specs.List.{AllByRecursion, Contains}
use Rattle.std.specs.Option.{option_map_or}
use Rattle.std.proofs.lemmas.Bool.{cases_Bool, cond-false, cond-true, false_from_ne_true}
use Rattle.std.proofs.lemmas.Bool.{false≢true}
use Rattle.td_text.proofs.Chain.{some_is}
use Rattle.td_rows.specs.declared.key.Key.{Key}
use Rattle.td_rows.specs.declared.row.Row.{Row}
use Rattle.td_rows.specs.Keys.{names, same_key}
use Rattle.td_rows.specs.Meaning.{applies, means}
use Rattle.td_rows.specs.Table.{Table, keys_of, meant, row_of}
use Rattle.td_rows.proofs.Keys.{same_key-refl, same_key-true}
use Rattle.td_rows.proofs.Tables.{row_of-each_row}
use Rattle.td_indices.specs.Archive.{source_named}
use Rattle.td_indices.proofs.OfferLaws.{has_cases, has_first, has_more}
use Rattle.td_wbread.specs.Command.{CommandParts}
use Rattle.td_wbread.specs.Kinds.{kind_of}
use Rattle.td_wbread.specs.Naming.{is_matched, is_named}
use Rattle.td_plan.specs.PlayLaws.{ArePlayed, IsTakenWhole, named_in, rows_after}
use Rattle.td_plan.specs.Premises.{Premises}
use Rattle.td_plan.proofs.Existing.{filter-has, has-filter, none_has}

-- ---- 1. the keys of a table

-- a key that has a row is one of the table's
key-has : (t : Table) (k : Key) (row : Row) → row_of t k ≡ Some row → Contains (keys_of t) k
key-has [] k row at = absurd (let bad : None ≡ Some row = at in cc)
key-has (e ∷ t) k row at = elim (cases_Bool (same_key k e.0)) [
  | inl same ↦ subst (Contains (e.0 ∷ keys_of t)) (sym (same_key-true k e.0 same))
      (has_first e.0 (keys_of t))
  | inr other ↦ has_more e.0 (keys_of t) k (key-has t k row
      (sym (cond-false (same_key k e.0) (Some e.1) (row_of t k) other) ∙ at))
]

-- each key of a table has a row
has-row : (t : Table) (k : Key) → Contains (keys_of t) k → (row : Row) × (row_of t k ≡ Some row)
has-row [] k has = absurd (none_has k has)
has-row (e ∷ t) k has = elim (cases_Bool (same_key k e.0)) [
  | inl same ↦ (e.1, cond-true (same_key k e.0) (Some e.1) (row_of t k) same)
  | inr other ↦ elim (has_cases e.0 (keys_of t) k has) [
    | inl is ↦ absurd (false≢true (sym other ∙ ap (same_key k) is ∙ same_key-refl k))
    | inr more ↦
        let rest = has-row t k more in
        (rest.0, cond-false (same_key k e.0) (Some e.1) (row_of t k) other ∙ rest.1)
  ]
]

names-has : (keys : List Key) (k : Key) → names keys k ≡ true → Contains keys k
names-has [] k named = absurd (false≢true named)
names-has (q ∷ keys) k named = elim (cases_Bool (same_key k q)) [
  | inl same ↦ subst (Contains (q ∷ keys)) (sym (same_key-true k q same)) (has_first q keys)
  | inr other ↦ has_more q keys k (names-has keys k
      (sym (cond-false (same_key k q) true (names keys k) other) ∙ named))
]

has-names : (keys : List Key) (k : Key) → Contains keys k → names keys k ≡ true
has-names [] k has = absurd (none_has k has)
has-names (q ∷ keys) k has = elim (cases_Bool (same_key k q)) [
  | inl same ↦ cond-true (same_key k q) true (names keys k) same
  | inr other ↦ elim (has_cases q keys k has) [
    | inl is ↦ absurd (false≢true (sym other ∙ ap (same_key k) is ∙ same_key-refl k))
    | inr more ↦ cond-false (same_key k q) true (names keys k) other ∙ has-names keys k more
  ]
]

-- ---- 2. one command

-- a command names a key
abbrev pub is_for : CommandParts → Key → Bool
is_for c k = is_named c k.source k.arch

-- the row of a key after a command
abbrev pub after : CommandParts → Key → Row → Row
after c k row = if is_for c k then means (kind_of c) row else row

-- the version of a row matches
abbrev pub matches : Premises → CommandParts → Key → Row → Bool
matches p c k row = option_map_or (λ s. is_matched c k.source s.head.parts row.number)
    (source_named p.archive k.source) false

-- a command takes the row of a key, if it names the key
abbrev pub IsTaken : Premises → CommandParts → Key → Row → Type 0
IsTaken p c k row = is_for c k ≡ true
    → (matches p c k row ≡ true) × (applies (kind_of c) row ≡ true)

-- a command names the key of some row
pub record NamesSome (c : CommandParts) (t : Table) : Type 0 where
  pub key : Key
  pub row : Row
  pub there : row_of t key ≡ Some row
  pub named : is_for c key ≡ true

named-row : (c : CommandParts) (t : Table) (k : Key) → Contains (named_in c t) k
    → (row : Row) × (row_of t k ≡ Some row) × (is_for c k ≡ true)
named-row c t k has =
    let kept = has-filter (is_for c) (keys_of t) k has in
    let row = has-row t k kept.0 in
    (row.0, row.1, kept.1)

-- of the keys that have a row those are named that the command names
names-is : (c : CommandParts) (t : Table) (k : Key) (row : Row) → row_of t k ≡ Some row
    → names (named_in c t) k ≡ is_for c k
names-is c t k row at = elim (cases_Bool (is_for c k)) [
  | inl is ↦ has-names (named_in c t) k
      (filter-has (is_for c) (keys_of t) k (key-has t k row at) is) ∙ sym is
  | inr other ↦ false_from_ne_true (names (named_in c t) k) (λ named.
      false≢true (sym other ∙ (named-row c t k (names-has (named_in c t) k named)).2)) ∙ sym other
]

row-after : (c : CommandParts) (t : Table) (k : Key) (row : Row) → row_of t k ≡ Some row
    → row_of (rows_after c t) k ≡ Some (after c k row)
row-after c t k row at =
    row_of-each_row (meant (kind_of c) (named_in c t)) t k
    ∙ ap (option_map (meant (kind_of c) (named_in c t) k)) at
    ∙ ap (λ (b : Bool). Some (if b then means (kind_of c) row else row)) (names-is c t k row at)

none-after : (c : CommandParts) (t : Table) (k : Key) → row_of t k ≡ None
    → row_of (rows_after c t) k ≡ None
none-after c t k none =
    row_of-each_row (meant (kind_of c) (named_in c t)) t k
    ∙ ap (option_map (meant (kind_of c) (named_in c t) k)) none

-- a row after a command was made of one before it
row-before : (c : CommandParts) (t : Table) (k : Key) (new : Row)
    → row_of (rows_after c t) k ≡ Some new
    → (row : Row) × (row_of t k ≡ Some row) × (new ≡ after c k row)
row-before c t k new at = by (row_of t k) refl
  where
    by : (o : Option Row) → row_of t k ≡ o
        → (row : Row) × (row_of t k ≡ Some row) × (new ≡ after c k row)
    by None none = absurd (let bad : None ≡ Some new = sym (none-after c t k none) ∙ at in cc)
    by (Some row) was =
        (row, was, some_is new (after c k row) (sym at ∙ row-after c t k row was))

some-long : {A : Type 0} (xs : List A) (x : A) → Contains xs x → 0 < length xs
some-long xs x has = let low = has.1 in omega arith

whole : (p : Premises) (c : CommandParts) (t : Table) → NamesSome c t
    → ((k : Key) (row : Row) → row_of t k ≡ Some row → IsTaken p c k row) → IsTakenWhole p c t
whole p c t some taken = record {
  some = some-long (named_in c t) some.key (filter-has (is_for c) (keys_of t) some.key
      (key-has t some.key some.row some.there) some.named);
  matched = λ k has.
      let r = named-row c t k has in
      ap (λ (o : Option Row). option_map_or (matches p c k) o false) r.1 ∙ (taken k r.0 r.1 r.2).0;
  applies = λ k named.
      let r = named-row c t k (names-has (named_in c t) k named) in
      ap (λ (o : Option Row).
      elim o as (λ _. Bool) [ Some row ↦ applies (kind_of c) row | None ↦ false ]) r.1
      ∙ (taken k r.0 r.1 r.2).1;
}

-- ---- 3. commands one after the other

-- commands take the row of a key wherever they name it, and make this one of it
abbrev pub Goes : Premises → List CommandParts → Key → Row → Row → Type 0
Goes p [] k row new = row ≡ new
Goes p (c ∷ commands) k row new = IsTaken p c k row × Goes p commands k (after c k row) new

pub goes-on : (p : Premises) (cs ds : List CommandParts) (k : Key) (row mid new : Row)
    → Goes p cs k row mid → Goes p ds k mid new → Goes p (cs ++ ds) k row new
goes-on p [] ds k row mid new first next = subst (λ (r : Row). Goes p ds k r new) (sym first) next
goes-on p (c ∷ cs) ds k row mid new first next =
    (first.0, goes-on p cs ds k (after c k row) mid new first.1 next)

-- no command names the key
abbrev pub Unnamed : Key → List CommandParts → Type 0
Unnamed k cs = AllByRecursion (λ c. is_for c k ≡ false) cs

pub unnamed-append : (k : Key) (cs ds : List CommandParts) → Unnamed k cs → Unnamed k ds
    → Unnamed k (cs ++ ds)
unnamed-append k [] ds first next = next
unnamed-append k (c ∷ cs) ds first next = (first.0, unnamed-append k cs ds first.1 next)

-- what isn't named stays
pub goes-by : (p : Premises) (cs : List CommandParts) (k : Key) (row : Row) → Unnamed k cs
    → Goes p cs k row row
goes-by p [] k row none = refl
goes-by p (c ∷ cs) k row none = (
  (λ named. absurd (false≢true (sym none.0 ∙ named))),
  subst (λ (r : Row). Goes p cs k r row)
      (sym (cond-false (is_for c k) (means (kind_of c) row) row none.0))
      (goes-by p cs k row none.1),
)

-- the rows after all commands
abbrev pub played : List CommandParts → Table → Table
played [] t = t
played (c ∷ commands) t = played commands (rows_after c t)

-- each command names the key of some row
abbrev pub AllName : Table → List CommandParts → Type 0
AllName t cs = AllByRecursion (λ c. NamesSome c t) cs

all-name-after : (c : CommandParts) (cs : List CommandParts) (t : Table) → AllName t cs
    → AllName (rows_after c t) cs
all-name-after c [] t all = tt
all-name-after c (d ∷ cs) t all = (
  record {
    key = all.0.key;
    row = after c all.0.key all.0.row;
    there = row-after c t all.0.key all.0.row all.0.there;
    named = all.0.named;
  },
  all-name-after c cs t all.1,
)

-- commands of which each names the key of some row are taken whole if they take each row that they
-- name
pub are-played : (p : Premises) (cs : List CommandParts) (t : Table) → AllName t cs
    → ((k : Key) (row : Row) → row_of t k ≡ Some row → (new : Row) × Goes p cs k row new)
    → ArePlayed p cs t (played cs t)
are-played p [] t all goes = refl
are-played p (c ∷ cs) t all goes = (
  whole p c t all.0 (λ k row at. (goes k row at).1.0),
  are-played p cs (rows_after c t) (all-name-after c cs t all.1) (λ k row at.
      let was = row-before c t k row at in
      let went = goes k was.0 was.1 in
      (went.0, subst (λ (r : Row). Goes p cs k r went.0) (sym was.2) went.1.1)),
)

pub row-played : (p : Premises) (cs : List CommandParts) (t : Table) (k : Key) (row new : Row)
    → row_of t k ≡ Some row → Goes p cs k row new → row_of (played cs t) k ≡ Some new
row-played p [] t k row new at goes = at ∙ ap (λ (r : Row). Some r) goes
row-played p (c ∷ cs) t k row new at goes =
    row-played p cs (rows_after c t) k (after c k row) new (row-after c t k row at) goes.1

pub none-played : (cs : List CommandParts) (t : Table) (k : Key) → row_of t k ≡ None
    → row_of (played cs t) k ≡ None
none-played [] t k none = none
none-played (c ∷ cs) t k none = none-played cs (rows_after c t) k (none-after c t k none)
