-- The counts of a book that watches a transition's groups are those of the groups.
use Rattle.std.proofs.Common.{◌≡◌, ℕ, ◌+◌, ◌<◌, ◌&&◌, Bool, true, false, List, []}
use Rattle.std.proofs.Common.{◌∷◌, length, Option, Some, None, map, count_by, slice_get}
use Rattle.std.proofs.Common.{if◌then◌else◌, refl, sym, ap, ◌∙◌, arith}
use Rattle.std.specs.Prelude.{option_map}
use Rattle.std.specs.List.{cons_option}
use Rattle.std.proofs.lemmas.Bool.{lt-ltb}
use Rattle.std.proofs.lemmas.List.Sums.{sum_by-cons}
use Rattle.td_rows.specs.declared.key.Key.{Key}
use Rattle.td_rows.specs.Keys.{names, same_key}
use Rattle.td_rows.specs.States.{is_installed}
use Rattle.td_rows.specs.Table.{Table, keys_of}
use Rattle.td_rows.proofs.Keys.{same_key-refl, same_key-true}
use Rattle.td_book.specs.Watching.{WatchView, group_in, installed_in, is_of, is_there, tally}
use Rattle.td_book.specs.Watching.{watch_of}
use Rattle.td_report.specs.Groups.{AreCounts, group_of, grouped, is_group, is_there as is_there_in}
use Rattle.td_report.specs.TransitionView.{depth_of}
use Rattle.td_report.specs.declared.transition.Transition.{Transition}
use Rattle.td_script.specs.Watched.{watch_by}

-- ---- 1. what is watched

-- the group that is given with a key that has a row
group-given : (x : Transition) (t : Table) (k : Key)
    → group_in (grouped x t) k ≡ (if names (keys_of t) k then group_of x k else None)
group-given x [] k = refl
group-given x (p ∷ t) k = by (group-given x t k) (same_key k p.0) refl (group_of x p.0) refl
  where
    -- the group that p's key has, for a key that it is
    none_left : (b : Bool) → group_of x k ≡ None → (if b then group_of x k else None) ≡ group_of x k
    none_left true none = refl
    none_left false none = sym none

    by : group_in (grouped x t) k ≡ (if names (keys_of t) k then group_of x k else None)
        → (b : Bool) → same_key k p.0 ≡ b → (o : Option ℕ) → group_of x p.0 ≡ o
        → group_in (cons_option (option_map (λ g. (p.0, g)) o) (grouped x t)) k
        ≡ (if (if b then true else names (keys_of t) k) then group_of x k else None)
    by rest true same (Some g) is =
        ap (λ (b : Bool). if b then Some g else group_in (grouped x t) k) same
        ∙ sym (ap (group_of x) (same_key-true k p.0 same) ∙ is)
    by rest true same None is =
        rest ∙ none_left (names (keys_of t) k) (ap (group_of x) (same_key-true k p.0 same) ∙ is)
    by rest false other (Some g) is =
        ap (λ (b : Bool). if b then Some g else group_in (grouped x t) k) other ∙ rest
    by rest false other None is = rest

-- a map over keys, by what holds of each of them
map-named : (f h : Key → Option ℕ) (ks : List Key) → ((k : Key) → names ks k ≡ true → f k ≡ h k)
    → map f ks ≡ map h ks
map-named f h [] same = refl
map-named f h (q ∷ ks) same =
    ap (λ (o : Option ℕ). o ∷ map f ks)
    (same q (ap (λ (b : Bool). if b then true else names ks q) (same_key-refl q)))
    ∙ ap (λ (l : List (Option ℕ)). h q ∷ l)
    (map-named f h ks (λ k is. same k (later (same_key k q) (names ks k) is)))
  where
    later : (b c : Bool) → c ≡ true → (if b then true else c) ≡ true
    later true c is = refl
    later false c is = is

-- a watch of the groups of a transition, of rows with the keys of the opening ones
pub watched-by : (x : Transition) (opening rows : Table) (count : ℕ) (given : List (Key × ℕ))
    → keys_of rows ≡ keys_of opening → count ≡ depth_of x + 1 → given ≡ grouped x rows
    → watch_of opening count given ≡ watch_by x opening
watched-by x opening rows count given keys many is =
    ap (λ (n : ℕ). watch_of opening n given) many
    ∙ ap (λ (g : List (Key × ℕ)). watch_of opening (depth_of x + 1) g) is
    ∙ ap (λ (gs : List (Option ℕ)). record { groups = depth_of x + 1; of_rows = gs })
    (map-named (group_in (grouped x rows)) (group_of x) (keys_of opening)
    (λ k named. group-given x rows k
    ∙ ap (λ (b : Bool). if b then group_of x k else None)
    (ap (λ (ks : List Key). names ks k) keys ∙ named)))

-- ---- 2. the counts

same_group : (o : Option ℕ) (group : ℕ) → is_of o group ≡ is_group o group
same_group None group = refl
same_group (Some g) group = refl

tally-count : (x : Transition) (group : ℕ) (t : Table)
    → tally is_there group (map (group_of x) (keys_of t)) t ≡ count_by (is_there_in x group) t
tally-count x group [] = refl
tally-count x group (p ∷ t) =
    ap (λ (b : Bool). (if b && is_installed p.1.state then 1 else 0)
    + tally is_there group (map (group_of x) (keys_of t)) t) (same_group (group_of x p.0) group)
    ∙ ap (λ (n : ℕ). (if is_there_in x group p then 1 else 0) + n) (tally-count x group t)
    ∙ sym (sum_by-cons (λ q. if is_there_in x group q then 1 else 0) p t)

-- the counts so far are those of the first groups
abbrev pub AreFirst : WatchView → Table → List ℕ → Type 0
AreFirst watch rows counts =
    (group : ℕ) → group < length counts → slice_get counts group ≡ installed_in watch rows group

-- what a book that watches the groups says of them
pub are-counts : (x : Transition) (opening rows : Table) (watch : WatchView) (counts : List ℕ)
    → keys_of rows ≡ keys_of opening → watch ≡ watch_by x opening
    → ((group : ℕ) → slice_get counts group ≡ installed_in watch rows group)
    → AreCounts x rows counts
are-counts x opening rows watch counts keys by told = record {
  each = λ group within.
      told group ∙ ap (λ (w : WatchView). installed_in w rows group) by
      ∙ ap (λ (b : Bool). if b
      then Some (tally is_there group (map (group_of x) (keys_of opening)) rows) else None)
      (lt-ltb group (depth_of x + 1) (omega (arith, within)))
      ∙ ap (λ (ks : List Key). Some (tally is_there group (map (group_of x) ks) rows)) (sym keys)
      ∙ ap Some (tally-count x group rows);
}
