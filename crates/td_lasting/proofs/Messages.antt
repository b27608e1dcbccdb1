-- The latest rebuild of a row among entries, sought from the last one on.
use Rattle.std.proofs.Common.{◌≡◌, ◌≢◌, ℕ, zero, suc, ◌+◌, ◌<◌, Bool, true, false, List, []}
use Rattle.std.proofs.Common.{◌∷◌}
use Rattle.std.proofs.Common.{◌++◌, append_assoc, length, get_or, take, Option, Some, None, Result}
use Rattle.std.proofs.Common.{Ok}
use Rattle.std.proofs.Common.{inl, inr, Err, refl, sym, ap, subst, ◌∙◌, arith, if◌then◌else◌}
use Rattle.std.specs.Prelude.{codes, slice_index_or, slice_get, unwrap_or}
use Rattle.std.specs.List.Sorted.{IsBinarySearchResult, IsSearchInRange, IsSortedBy}
use Rattle.std.specs.Option.{option_or}
use Rattle.std.specs.Ordering.{is_lt, ordering_reverse}
use Rattle.std.specs.Result.{is_ok}
use Rattle.std.specs.declared.cmp.Ordering.{Ordering}
use Rattle.std.specs.declared.cmp.Ordering.TheVariants.{Less, Equal, Greater}
use Rattle.std.proofs.lemmas.Bool.{and_parts, cases_lt}
use Rattle.std.proofs.lemmas.Cmp.{tied_itself}
use Rattle.std.proofs.lemmas.List.Sorted.{searchable_from_sorted}
use Rattle.td_rows.specs.declared.key.Key.{Key}
use Rattle.td_rows.specs.declared.kind.Kind.{Kind}
use Rattle.td_rows.specs.declared.kind.Kind.TheVariants as kinds
use Rattle.td_rows.specs.Keys.{ascending, below_all, key_cmp, names, same_key}
use Rattle.td_rows.proofs.Keys.{key_total, same_key-refl, same_key-true}
use Rattle.td_rows.proofs.Lists.{take-next}
use Rattle.td_rows.proofs.Sorting.{key_cmp-equal}
use Rattle.td_journal.specs.declared.entry.Entry.{Entry}
use Rattle.td_journal.specs.declared.entry.Marked.{Marked}
use Rattle.td_journal.specs.Entries.{is_standing, standing}
use Rattle.td_journal.proofs.Undoing.{standing-append}
use Rattle.td_lasting.specs.DeskAnswers.{last_message, message_in, message_of}

-- ---- 1. a key is sought among keys that rise

-- each is at most the next one
keys_sorted : (keys : List Key) → ascending keys ≡ true
    → IsSortedBy (λ a b. is_lt (key_cmp a b)) keys
keys_sorted [] up k d low high = absurd (omega arith)
keys_sorted (a ∷ []) up k d low high = absurd (omega arith)
keys_sorted (a ∷ (b ∷ keys)) up zero d low high =
    let parts = and_parts (below_all a (b ∷ keys)) (ascending (b ∷ keys)) up in
    let first = and_parts (is_lt (key_cmp a b)) (below_all a keys) parts.0 in
    back (key_cmp a b) (key_cmp b a) (key_total.antisymm b a) first.0
  where
    back : (o r : Ordering) → r ≡ ordering_reverse o → is_lt o ≡ true → is_lt r ≡ false
    back Less r is lt = ap is_lt is
    back Equal r is lt = absurd cc
    back Greater r is lt = absurd cc
keys_sorted (a ∷ (b ∷ keys)) up (suc k) d low high =
    let parts = and_parts (below_all a (b ∷ keys)) (ascending (b ∷ keys)) up in
    let next : suc k + 1 ≡ suc (k + 1) = omega arith in
    subst (λ (n : ℕ). is_lt (key_cmp (slice_index_or (a ∷ (b ∷ keys)) n d)
    (slice_index_or (a ∷ (b ∷ keys)) (suc k) d)) ≡ false)
    (sym next) (keys_sorted (b ∷ keys) parts.1 k d (omega arith) (omega arith))

named_at : (keys : List Key) (i : ℕ) (k : Key) → i < length keys
    → key_cmp (get_or keys i k) k ≡ Equal → names keys k ≡ true
named_at [] i k low is = absurd (omega arith)
named_at (q ∷ keys) zero k low is =
    let same : q ≡ k = key_cmp-equal q k is in
    ap (λ (b : Bool). if b then true else names keys k)
    (subst (λ (x : Key). same_key k x ≡ true) (sym same) (same_key-refl k))
named_at (q ∷ keys) (suc i) k low is =
    either (same_key k q) (named_at keys i k (omega arith) is)
  where
    either : (b : Bool) → names keys k ≡ true → (if b then true else names keys k) ≡ true
    either true later = refl
    either false later = later

-- none of them ties with the key
not_named : (keys : List Key) (k : Key)
    → ((i : ℕ) → i < length keys → key_cmp (get_or keys i k) k ≢ Equal) → names keys k ≡ false
not_named [] k apart = refl
not_named (q ∷ keys) k apart =
    by (not_named keys k (λ i low. apart (suc i) (omega arith))) (same_key k q) refl
  where
    by : names keys k ≡ false → (b : Bool) → same_key k q ≡ b
        → (if b then true else names keys k) ≡ false
    by rest true is = absurd (apart 0 (omega arith)
        (subst (λ (x : Key). key_cmp x k ≡ Equal) (same_key-true k q is) (tied_itself key_total k)))
    by rest false is = rest

apart_less : (o : Ordering) → o ≡ Less → o ≢ Equal
apart_less o is bad = (let both : Less ≡ Equal = sym is ∙ bad in cc)

apart_greater : (o : Ordering) → o ≡ Greater → o ≢ Equal
apart_greater o is bad = (let both : Greater ≡ Equal = sym is ∙ bad in cc)

-- a search finds it if and only if it is among them
pub search_names : (keys : List Key) (k : Key) (r : Result ℕ ℕ) → ascending keys ≡ true
    → IsSearchInRange r (length keys)
    → IsBinarySearchResult (λ y. key_cmp y k) keys r → names keys k ≡ is_ok r
search_names keys k (Ok i) up bound found = named_at keys i k bound (found k)
search_names keys k (Err i) up bound found =
    let parts = found (searchable_from_sorted key_total (λ q. q) keys k (keys_sorted keys up)) in
    not_named keys k (λ j low. elim (cases_lt j i) [
      | inl early ↦ apart_less (key_cmp (get_or keys j k) k) (parts.0 j k (omega arith) early)
      | inr late ↦ apart_greater (key_cmp (get_or keys j k) k) (parts.1 j k late low)
    ])

-- ---- 2. the latest message

last_append : (k : Key) (es fs : List Entry)
    → last_message k (es ++ fs) ≡ option_or (last_message k fs) (last_message k es)
last_append k [] fs = by (last_message k fs)
  where
    by : (o : Option (List ℕ)) → o ≡ option_or o None
    by None = refl
    by (Some m) = refl
last_append k (e ∷ es) fs =
    ap (λ (o : Option (List ℕ)). option_or o (message_in k e.kind e.keys)) (last_append k es fs)
    ∙ by (last_message k fs)
  where
    by : (o : Option (List ℕ))
        → option_or (option_or o (last_message k es)) (message_in k e.kind e.keys)
        ≡ option_or o (option_or (last_message k es) (message_in k e.kind e.keys))
    by None = refl
    by (Some m) = refl

-- the message of a marked entry, if it stands and is a rebuild of the key's row
abbrev pub message_at : Key → Marked → Option (List ℕ)
message_at k m = if is_standing m.mark then message_in k m.entry.kind m.entry.keys else None

one_message : (k : Key) (m : Marked) → last_message k (standing (m ∷ [])) ≡ message_at k m
one_message k m = by (is_standing m.mark)
  where
    by : (b : Bool) → last_message k (if b then m.entry ∷ [] else [])
        ≡ (if b then message_in k m.entry.kind m.entry.keys else None)
    by true = refl
    by false = refl

-- of the entries so far, with one before them
pub message_back : (k : Key) (ms : List Marked) (n : ℕ) (m : Marked) → slice_get ms n ≡ Some m
    → last_message k (standing (take (n + 1) ms))
    ≡ option_or (message_at k m) (last_message k (standing (take n ms)))
message_back k ms n m at =
    ap (λ (l : List Marked). last_message k (standing l)) (take-next ms n m at)
    ∙ ap (last_message k) (standing-append (take n ms) (m ∷ []))
    ∙ last_append k (standing (take n ms)) (standing (m ∷ []))
    ∙ ap (λ (o : Option (List ℕ)). option_or o (last_message k (standing (take n ms))))
    (one_message k m)

-- the one before is the one that is sought
pub message_found : (k : Key) (ms all : List Marked) (n : ℕ) (m : Marked) (message : List ℕ)
    → slice_get ms n ≡ Some m
    → last_message k (standing all) ≡ last_message k (standing (take (n + 1) ms))
    → message_at k m ≡ Some message → message ≡ message_of (standing all) k
message_found k ms all n m message at so_far is =
    sym (ap (λ (o : Option (List ℕ)). unwrap_or o [])
    (so_far ∙ message_back k ms n m at
    ∙ ap (λ (o : Option (List ℕ)). option_or o (last_message k (standing (take n ms)))) is))

-- it isn't
pub message_passed : (k : Key) (ms all : List Marked) (n : ℕ) (m : Marked)
    → slice_get ms n ≡ Some m
    → last_message k (standing all) ≡ last_message k (standing (take (n + 1) ms))
    → message_at k m ≡ None
    → last_message k (standing all) ≡ last_message k (standing (take n ms))
message_passed k ms all n m at so_far is =
    so_far ∙ message_back k ms n m at
    ∙ ap (λ (o : Option (List ℕ)). option_or o (last_message k (standing (take n ms)))) is

-- the entry that is read at a place
pub read_at : (ms : List Marked) (n : ℕ) (m : Marked) → n < length ms → m ≡ get_or ms n m
    → slice_get ms n ≡ Some m
read_at [] n m low is = absurd (omega arith)
read_at (x ∷ ms) zero m low is = ap (λ (y : Marked). Some y) (sym is)
read_at (x ∷ ms) (suc n) m low is = read_at ms n m (omega arith) is

-- ---- 3. whether an entry has it

pub message_is : (k : Key) (m : Marked) (number : Option ℕ) (extra message : List ℕ)
    → is_standing m.mark ≡ true → m.entry.kind ≡ kinds.Nmu number extra message
    → names m.entry.keys k ≡ true → message_at k m ≡ Some message
message_is k m number extra message stands kind named =
    ap (λ (b : Bool). if b then message_in k m.entry.kind m.entry.keys else None) stands
    ∙ ap (λ (x : Kind). message_in k x m.entry.keys) kind
    ∙ ap (λ (b : Bool). if b then Some message else None) named

pub not_standing : (k : Key) (m : Marked) → is_standing m.mark ≡ false → message_at k m ≡ None
not_standing k m stands =
    ap (λ (b : Bool). if b then message_in k m.entry.kind m.entry.keys else None) stands

none_in : (b : Bool) (o : Option (List ℕ)) → o ≡ None → (if b then o else None) ≡ None
none_in true o is = is
none_in false o is = refl

pub not_of_key : (k : Key) (m : Marked) (number : Option ℕ) (extra message : List ℕ)
    → m.entry.kind ≡ kinds.Nmu number extra message → names m.entry.keys k ≡ false
    → message_at k m ≡ None
not_of_key k m number extra message kind named =
    none_in (is_standing m.mark) (message_in k m.entry.kind m.entry.keys)
    (ap (λ (x : Kind). message_in k x m.entry.keys) kind
    ∙ ap (λ (b : Bool). if b then Some message else None) named)

pub no_rebuild : (k : Key) (m : Marked)
    → ((number : Option ℕ) (extra message : List ℕ)
    → m.entry.kind ≡ kinds.Nmu number extra message → ⊥) → message_at k m ≡ None
no_rebuild k m other =
    none_in (is_standing m.mark) (message_in k m.entry.kind m.entry.keys)
    (by m.entry.kind other)
  where
    by : (x : Kind) → ((number : Option ℕ) (extra message : List ℕ)
        → x ≡ kinds.Nmu number extra message → ⊥) → message_in k x m.entry.keys ≡ None
    by (kinds.Nmu number extra message) none = absurd (none number extra message refl)
    by kinds.Gb none = refl
    by (kinds.Bp p) none = refl
    by (kinds.Dw t) none = refl
    by (kinds.Claim b) none = refl
    by (kinds.Outcome b o) none = refl
    by kinds.Arrive none = refl
    by kinds.Sweep none = refl

-- ---- 4. what the builder is told, in its two parts

pub builds_put : (n k v d w before mid now : List ℕ)
    → mid ≡ before ++ (codes "entry " ++ (n ++ (codes " builds " ++ (k ++ 32 ∷ []))))
    → now ≡ mid ++ (v ++ 32 ∷ (d ++ (w ++ 10 ∷ [])))
    → now ≡ before ++ ((codes "entry " ++ (n ++ (codes " builds " ++ (k
    ++ 32 ∷ (v ++ 32 ∷ (d ++ w)))))) ++ 10 ∷ [])
builds_put n k v d w before mid now one two =
    two ∙ ap (λ (l : List ℕ). l ++ (v ++ 32 ∷ (d ++ (w ++ 10 ∷ [])))) one ∙ simp append_assoc
