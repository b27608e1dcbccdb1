-- The lines that stand for commands, one after the other.
use Rattle.std.proofs.Common.{◌≡◌, ◌≢◌, ℕ, zero, suc, ◌+◌, ◌≤◌, ◌<◌, Bool, true, false, List, []}
use Rattle.std.proofs.Common.{◌∷◌}
use Rattle.std.proofs.Common.{◌++◌, append-nil, append_assoc, length, length-append, map, take}
use Rattle.std.proofs.Common.{drop}
use Rattle.std.proofs.Common.{Option, option_map, Some, None, refl, sym, ap, subst, ◌∙◌, arith}
use Rattle.std.proofs.Common.{if◌then◌else◌}
use Rattle.std.specs.Prelude.{slice_get, codes}
use Rattle.std.specs.List.{list_any}
use Rattle.std.specs.Str.{bytes_eq}
use Rattle.std.proofs.lemmas.Grind.{flat_map-append}
use Rattle.std.proofs.lemmas.Slice.Eq.{bytes_eq-Decides}
use Rattle.std.proofs.lemmas.List.{length-take-le}
use Rattle.td_relation.specs.Arch.{ArchWords}
use Rattle.td_text.specs.Lines.{text_of}
use Rattle.td_rows.specs.declared.key.Key.{Key}
use Rattle.td_rows.specs.declared.kind.Kind.{Kind}
use Rattle.td_rows.proofs.Lists.{take-next}
use Rattle.td_journal.specs.declared.entry.Marked.{Marked}
use Rattle.td_supply.specs.Supply.{SupplyView}
use Rattle.td_lasting.specs.Sending.{arch_words, by_source, groups_within, is_sent, same_source}
use Rattle.td_lasting.specs.Sending.{sent_from, sent_line, sent_lines, standing_lines}

-- ---- 1. architectures

-- the words of one architecture
abbrev pub arch_word : List Key → ArchWords → List ℕ
arch_word keys a = if list_any (λ k. bytes_eq k.arch a.name) keys then 32 ∷ a.name else []

pub archs_next : (table : List ArchWords) (keys : List Key) (n : ℕ) (a : ArchWords)
    → slice_get table n ≡ Some a
    → arch_words (take (n + 1) table) keys ≡ arch_words (take n table) keys ++ arch_word keys a
archs_next table keys n a at =
    ap (λ (t : List ArchWords). arch_words t keys) (take-next table n a at)
    ∙ flat_map-append (arch_word keys) (take n table) (a ∷ [])
    ∙ ap (λ (l : List ℕ). arch_words (take n table) keys ++ l) (append-nil (arch_word keys a))

place_named : (o : Option ArchWords) (name : List ℕ) → option_map (λ a. a.name) o ≡ Some name
    → (a : ArchWords) × (o ≡ Some a) × (a.name ≡ name)
place_named None name is = absurd cc
place_named (Some a) name is = (a, refl, cc)

-- one of the keys is of the architecture at a place, whose name this is
pub arch_put : (table : List ArchWords) (keys : List Key) (n : ℕ)
    (name first before mid now : List ℕ)
    → option_map (λ a. a.name) (slice_get table n) ≡ Some name
    → list_any (λ k. bytes_eq k.arch name) keys ≡ true
    → before ≡ first ++ arch_words (take n table) keys
    → mid ≡ before ++ 32 ∷ [] → now ≡ mid ++ name
    → now ≡ first ++ arch_words (take (n + 1) table) keys
arch_put table keys n name first before mid now at has so_far one two =
    let found = place_named (slice_get table n) name at in
    let a = found.0 in
    let words = arch_words (take n table) keys in
    let word : arch_word keys a ≡ 32 ∷ name =
    ap (λ (l : List ℕ). if list_any (λ k. bytes_eq k.arch l) keys then 32 ∷ l else []) found.2
    ∙ ap (λ (b : Bool). if b then 32 ∷ name else []) has in
    two ∙ ap (λ (l : List ℕ). l ++ name) (one ∙ ap (λ (l : List ℕ). l ++ 32 ∷ []) so_far)
    ∙ append_assoc (first ++ words) (32 ∷ []) name
    ∙ append_assoc first words (32 ∷ name)
    ∙ ap (λ (l : List ℕ). first ++ (words ++ l)) (sym word)
    ∙ ap (λ (l : List ℕ). first ++ l) (sym (archs_next table keys n a found.1))

-- none of them is
pub arch_passed : (table : List ArchWords) (keys : List Key) (n : ℕ) (name first now : List ℕ)
    → option_map (λ a. a.name) (slice_get table n) ≡ Some name
    → list_any (λ k. bytes_eq k.arch name) keys ≡ false
    → now ≡ first ++ arch_words (take n table) keys
    → now ≡ first ++ arch_words (take (n + 1) table) keys
arch_passed table keys n name first now at has so_far =
    let found = place_named (slice_get table n) name at in
    let a = found.0 in
    let words = arch_words (take n table) keys in
    let word : arch_word keys a ≡ [] =
    ap (λ (l : List ℕ). if list_any (λ k. bytes_eq k.arch l) keys then 32 ∷ l else []) found.2
    ∙ ap (λ (b : Bool). if b then 32 ∷ name else []) has in
    so_far ∙ ap (λ (l : List ℕ). first ++ l)
    (sym (archs_next table keys n a found.1 ∙ ap (λ (l : List ℕ). words ++ l) word
    ∙ append-nil words))

-- ---- 2. the keys of each source together

same_word : (text : List ℕ) → bytes_eq text text ≡ true
same_word text = (bytes_eq-Decides text text).1 refl

rest_within : (source : List ℕ) (keys : List Key)
    → length ((same_source source keys).1) ≤ length keys
rest_within source [] = omega arith
rest_within source (k ∷ keys) = by (rest_within source keys) (bytes_eq k.source source)
  where
    by : length ((same_source source keys).1) ≤ length keys → (b : Bool)
        → length ((if◌then◌else◌ {A = List Key × List Key} b
        (k ∷ (same_source source keys).0, (same_source source keys).1) ([], k ∷ keys)).1)
        ≤ length (k ∷ keys)
    by less true = omega arith
    by less false = omega arith

groups_enough : (n m : ℕ) (keys : List Key) → length keys ≤ n → length keys ≤ m
    → groups_within n keys ≡ groups_within m keys
groups_enough zero zero keys low high = refl
groups_enough zero (suc m) [] low high = refl
groups_enough zero (suc m) (k ∷ keys) low high = absurd (omega arith)
groups_enough (suc n) zero [] low high = refl
groups_enough (suc n) zero (k ∷ keys) low high = absurd (omega arith)
groups_enough (suc n) (suc m) [] low high = refl
groups_enough (suc n) (suc m) (k ∷ keys) low high =
    let rest = (same_source k.source keys).1 in
    let less = rest_within k.source keys in
    ap (λ (l : List (List ℕ × List Key)). (k.source, k ∷ (same_source k.source keys).0) ∷ l)
    (groups_enough n m rest (omega arith) (omega arith))

group_cons : (k : Key) (keys : List Key) → by_source (k ∷ keys)
    ≡ (k.source, (same_source k.source (k ∷ keys)).0)
    ∷ by_source (same_source k.source (k ∷ keys)).1
group_cons k keys =
    let rest = (same_source k.source keys).1 in
    let less = rest_within k.source keys in
    let split : same_source k.source (k ∷ keys)
    ≡ (k ∷ (same_source k.source keys).0, (same_source k.source keys).1) =
    ap (λ (b : Bool). if b then (
      k ∷ (same_source k.source keys).0,
      (same_source k.source keys).1,
    ) else ([], k ∷ keys)) (same_word k.source) in
    ap (λ (l : List (List ℕ × List Key)). (k.source, k ∷ (same_source k.source keys).0) ∷ l)
    (groups_enough (length keys) (length rest) rest less (omega arith))
    ∙ ap (λ (p : List Key × List Key). (k.source, p.0) ∷ by_source p.1) (sym split)

-- so many keys at the front are of the source, and what is left decides about the others
pub record AreFirst (source : List ℕ) (keys : List Key) (n : ℕ) : Type 0 where
  pub front : (same_source source keys).0 ≡ take n keys ++ (same_source source (drop n keys)).0
  pub rest : (same_source source keys).1 ≡ (same_source source (drop n keys)).1

-- the keys of the first source, and the others
pub group_first : (k : Key) (keys : List Key) (n : ℕ) → slice_get keys 0 ≡ Some k
    → take n keys ≡ (same_source k.source keys).0 → drop n keys ≡ (same_source k.source keys).1
    → by_source keys ≡ (k.source, take n keys) ∷ by_source (drop n keys)
group_first k [] n at front rest = absurd cc
group_first k (q ∷ keys) n at front rest =
    let same : q ≡ k = cc in
    subst (λ (x : Key). by_source (q ∷ keys)
    ≡ (x.source, (same_source x.source (q ∷ keys)).0)
    ∷ by_source (same_source x.source (q ∷ keys)).1) same (group_cons q keys)
    ∙ ap (λ (l : List Key). (k.source, l) ∷ by_source (same_source k.source (q ∷ keys)).1)
    (sym front)
    ∙ ap (λ (l : List Key). (k.source, take n (q ∷ keys)) ∷ by_source l) (sym rest)

-- the lines of the sources of these keys
abbrev pub source_lines : SupplyView → List (List ℕ) → Kind → List Key → List ℕ
source_lines s suites kind keys =
    text_of (map (λ g. sent_line s suites kind g.0 g.1) (by_source keys))

-- the line of the first source, and those of the others
pub sources_next : (s : SupplyView) (suites : List (List ℕ)) (kind : Kind) (k : Key)
    (keys : List Key) (n : ℕ) → slice_get keys 0 ≡ Some k
    → take n keys ≡ (same_source k.source keys).0 → drop n keys ≡ (same_source k.source keys).1
    → source_lines s suites kind keys
    ≡ (sent_line s suites kind k.source (take n keys) ++ 10 ∷ [])
    ++ source_lines s suites kind (drop n keys)
sources_next s suites kind k keys n at front rest =
    ap (λ (l : List (List ℕ × List Key)).
    text_of (map (λ g. sent_line s suites kind g.0 g.1) l))
    (group_first k keys n at front rest)

-- a turn: the line of the first source is appended
pub sources_on : (s : SupplyView) (suites : List (List ℕ)) (kind : Kind) (k : Key)
    (keys : List Key) (n : ℕ) (all before now : List ℕ) → slice_get keys 0 ≡ Some k
    → take n keys ≡ (same_source k.source keys).0 → drop n keys ≡ (same_source k.source keys).1
    → before ++ source_lines s suites kind keys ≡ all
    → now ≡ before ++ (sent_line s suites kind k.source (take n keys) ++ 10 ∷ [])
    → now ++ source_lines s suites kind (drop n keys) ≡ all
sources_on s suites kind k keys n all before now at front rest so_far put =
    let line = sent_line s suites kind k.source (take n keys) ++ 10 ∷ [] in
    let others = source_lines s suites kind (drop n keys) in
    ap (λ (l : List ℕ). l ++ others) put ∙ append_assoc before line others
    ∙ ap (λ (l : List ℕ). before ++ l) (sym (sources_next s suites kind k keys n at front rest))
    ∙ so_far

-- ---- 3. the entries of a journal

sent_one : (s : SupplyView) (suites : List (List ℕ)) (n : ℕ) (m : Marked)
    → sent_from s suites n (m ∷ []) ≡ (if is_sent m then sent_lines s suites n m else [])
sent_one s suites n m = by (is_sent m)
  where
    by : (b : Bool) → (if b then sent_lines s suites n m ++ [] else [])
        ≡ (if b then sent_lines s suites n m else [])
    by true = append-nil (sent_lines s suites n m)
    by false = refl

sent_push : (s : SupplyView) (suites : List (List ℕ)) (n : ℕ) (ms : List Marked) (m : Marked)
    → sent_from s suites n (ms ++ m ∷ [])
    ≡ sent_from s suites n ms
    ++ (if is_sent m then sent_lines s suites (n + length ms) m else [])
sent_push s suites n [] m =
    let same : n ≡ n + 0 = omega arith in
    sent_one s suites n m
    ∙ ap (λ (i : ℕ). if is_sent m then sent_lines s suites i m else []) same
sent_push s suites n (x ∷ ms) m =
    let same : n + 1 + length ms ≡ n + suc (length ms) = omega arith in
    let rest = sent_push s suites (n + 1) ms m
    ∙ ap (λ (i : ℕ). sent_from s suites (n + 1) ms
    ++ (if is_sent m then sent_lines s suites i m else [])) same in
    by (is_sent x) rest
  where
    last : List (List ℕ)
    last = if is_sent m then sent_lines s suites (n + suc (length ms)) m else []

    by : (b : Bool) → sent_from s suites (n + 1) (ms ++ m ∷ [])
        ≡ sent_from s suites (n + 1) ms ++ last
        → (if b then sent_lines s suites n x ++ sent_from s suites (n + 1) (ms ++ m ∷ [])
        else sent_from s suites (n + 1) (ms ++ m ∷ []))
        ≡ (if b then sent_lines s suites n x ++ sent_from s suites (n + 1) ms
        else sent_from s suites (n + 1) ms) ++ last
    by true rest =
        ap (λ (l : List (List ℕ)). sent_lines s suites n x ++ l) rest
        ∙ sym (append_assoc (sent_lines s suites n x) (sent_from s suites (n + 1) ms) last)
    by false rest = rest

within : (ms : List Marked) (n : ℕ) (m : Marked) → slice_get ms n ≡ Some m → n ≤ length ms
within [] n m at = absurd cc
within (x ∷ ms) zero m at = omega arith
within (x ∷ ms) (suc n) m at = let low = within ms n m at in omega arith

-- the lines of the entries so far, once one more is looked at
pub sent_next : (s : SupplyView) (suites : List (List ℕ)) (ms : List Marked) (n : ℕ) (m : Marked)
    → slice_get ms n ≡ Some m
    → text_of (sent_from s suites 1 (take (n + 1) ms))
    ≡ text_of (sent_from s suites 1 (take n ms))
    ++ (if is_sent m then text_of (sent_lines s suites (n + 1) m) else [])
sent_next s suites ms n m at =
    let long = length-take-le n ms (within ms n m at) in
    let number : 1 + length (take n ms) ≡ n + 1 = omega arith in
    ap (λ (l : List Marked). text_of (sent_from s suites 1 l)) (take-next ms n m at)
    ∙ ap text_of (sent_push s suites 1 (take n ms) m)
    ∙ ap (λ (i : ℕ). text_of (sent_from s suites 1 (take n ms)
    ++ (if is_sent m then sent_lines s suites i m else []))) number
    ∙ flat_map-append (λ line. line ++ 10 ∷ []) (sent_from s suites 1 (take n ms))
    (if is_sent m then sent_lines s suites (n + 1) m else [])
    ∙ ap (λ (l : List ℕ). text_of (sent_from s suites 1 (take n ms)) ++ l) (by (is_sent m))
  where
    by : (b : Bool) → text_of (if b then sent_lines s suites (n + 1) m else [])
        ≡ (if b then text_of (sent_lines s suites (n + 1) m) else [])
    by true = refl
    by false = refl

-- ---- 4. all of them

-- lines have a text unless there are none
some_text : (line : List ℕ) (lines : List (List ℕ)) → 0 < length (text_of (line ∷ lines))
some_text line lines =
    let a = length-append (line ++ 10 ∷ []) (text_of lines) in
    let b = length-append line (10 ∷ []) in
    omega arith

pub nothing_stands : (s : SupplyView) (suites : List (List ℕ)) (ms : List Marked)
    → length (text_of (sent_from s suites 1 ms)) ≡ 0
    → text_of (standing_lines s suites ms) ≡ codes "nothing stands\n"
nothing_stands s suites ms none = by (sent_from s suites 1 ms) none
  where
    by : (lines : List (List ℕ)) → length (text_of lines) ≡ 0
        → text_of (elim lines [
          | [] ↦ codes "nothing stands" ∷ []
          | line ∷ more ↦ line ∷ more
        ]) ≡ codes "nothing stands\n"
    by [] is = refl
    by (line ∷ lines) is = absurd (let some = some_text line lines in omega arith)

pub something_stands : (s : SupplyView) (suites : List (List ℕ)) (ms : List Marked)
    → 0 < length (text_of (sent_from s suites 1 ms))
    → text_of (standing_lines s suites ms) ≡ text_of (sent_from s suites 1 ms)
something_stands s suites ms some = by (sent_from s suites 1 ms) some
  where
    by : (lines : List (List ℕ)) → 0 < length (text_of lines)
        → text_of (elim lines [
          | [] ↦ codes "nothing stands" ∷ []
          | line ∷ more ↦ line ∷ more
        ]) ≡ text_of lines
    by [] is = absurd (omega arith)
    by (line ∷ lines) is = refl

-- ---- 5. as they are written

-- a turn over sources: the keys of the first are cut off
pub sources_turn : (s : SupplyView) (suites : List (List ℕ)) (kind : Kind) (keys : List Key)
    (n : ℕ) (all before now : List ℕ) → 0 < length keys → 0 < n
    → ((k : Key) → slice_get keys 0 ≡ Some k → take n keys ≡ (same_source k.source keys).0)
    → ((k : Key) → slice_get keys 0 ≡ Some k → drop n keys ≡ (same_source k.source keys).1)
    → before ++ source_lines s suites kind keys ≡ all
    → ((k : Key) → slice_get (take n keys) 0 ≡ Some k
    → now ≡ before ++ (sent_line s suites kind k.source (take n keys) ++ 10 ∷ []))
    → now ++ source_lines s suites kind (drop n keys) ≡ all
sources_turn s suites kind [] n all before now some more front rest so_far put =
    absurd (omega arith)
sources_turn s suites kind (k ∷ keys) zero all before now some more front rest so_far put =
    absurd (omega arith)
sources_turn s suites kind (k ∷ keys) (suc n) all before now some more front rest so_far put =
    sources_on s suites kind k (k ∷ keys) (suc n) all before now refl (front k refl) (rest k refl)
    so_far (put k refl)

-- no source is left
pub sources_done : (s : SupplyView) (suites : List (List ℕ)) (kind : Kind) (keys : List Key)
    (all now : List ℕ) → length keys ≡ 0 → now ++ source_lines s suites kind keys ≡ all → now ≡ all
sources_done s suites kind [] all now none so_far = sym (append-nil now) ∙ so_far
sources_done s suites kind (k ∷ keys) all now none so_far = absurd (omega arith)

-- what stands, where nothing was written
pub standing_none : (s : SupplyView) (suites : List (List ℕ)) (ms : List Marked)
    (before now after : List ℕ) → now ≡ before ++ text_of (sent_from s suites 1 ms)
    → length now ≡ length before → after ≡ now ++ codes "nothing stands\n"
    → after ≡ before ++ text_of (standing_lines s suites ms)
standing_none s suites ms before now after wrote same put =
    let text = text_of (sent_from s suites 1 ms) in
    let long = ap length wrote ∙ length-append before text in
    let none : length text ≡ 0 = omega arith in
    let nothing : text ≡ [] = no_text text none in
    put ∙ ap (λ (l : List ℕ). l ++ codes "nothing stands\n")
    (wrote ∙ ap (λ (l : List ℕ). before ++ l) nothing ∙ append-nil before)
    ∙ ap (λ (l : List ℕ). before ++ l) (sym (nothing_stands s suites ms none))
  where
    no_text : (text : List ℕ) → length text ≡ 0 → text ≡ []
    no_text [] is = refl
    no_text (x ∷ text) is = absurd (omega arith)

-- what stands, where something was
pub standing_some : (s : SupplyView) (suites : List (List ℕ)) (ms : List Marked)
    (before now : List ℕ) → now ≡ before ++ text_of (sent_from s suites 1 ms)
    → length now ≢ length before → now ≡ before ++ text_of (standing_lines s suites ms)
standing_some s suites ms before now wrote longer =
    let text = text_of (sent_from s suites 1 ms) in
    let long = ap length wrote ∙ length-append before text in
    let some : 0 < length text = omega arith in
    wrote ∙ ap (λ (l : List ℕ). before ++ l) (sym (something_stands s suites ms some))

-- an entry more is looked at, and is written or not
pub standing_put : (s : SupplyView) (suites : List (List ℕ)) (ms : List Marked) (n : ℕ)
    (m : Marked) (first before now : List ℕ) → slice_get ms n ≡ Some m → is_sent m ≡ true
    → before ≡ first ++ text_of (sent_from s suites 1 (take n ms))
    → now ≡ before ++ text_of (sent_lines s suites (n + 1) m)
    → now ≡ first ++ text_of (sent_from s suites 1 (take (n + 1) ms))
standing_put s suites ms n m first before now at is so_far put =
    let text = text_of (sent_from s suites 1 (take n ms)) in
    let more = text_of (sent_lines s suites (n + 1) m) in
    put ∙ ap (λ (l : List ℕ). l ++ more) so_far ∙ append_assoc first text more
    ∙ ap (λ (l : List ℕ). first ++ l)
    (ap (λ (b : Bool). text ++ (if b then more else [])) (sym is)
    ∙ sym (sent_next s suites ms n m at))

pub standing_passed : (s : SupplyView) (suites : List (List ℕ)) (ms : List Marked) (n : ℕ)
    (m : Marked) (first now : List ℕ) → slice_get ms n ≡ Some m → is_sent m ≡ false
    → now ≡ first ++ text_of (sent_from s suites 1 (take n ms))
    → now ≡ first ++ text_of (sent_from s suites 1 (take (n + 1) ms))
standing_passed s suites ms n m first now at is so_far =
    let text = text_of (sent_from s suites 1 (take n ms)) in
    let more = text_of (sent_lines s suites (n + 1) m) in
    so_far ∙ ap (λ (l : List ℕ). first ++ l)
    (sym (append-nil text) ∙ ap (λ (b : Bool). text ++ (if b then more else [])) (sym is)
    ∙ sym (sent_next s suites ms n m at))

-- the two parts of a line
pub line_put : (v p a s o before mid now : List ℕ)
    → mid ≡ before ++ (v ++ 32 ∷ (p ++ codes " ."))
    → now ≡ mid ++ (a ++ (s ++ (o ++ 10 ∷ [])))
    → now ≡ before ++ ((v ++ 32 ∷ (p ++ (codes " ." ++ (a ++ (s ++ o))))) ++ 10 ∷ [])
line_put v p a s o before mid now one two =
    two ∙ ap (λ (l : List ℕ). l ++ (a ++ (s ++ (o ++ 10 ∷ [])))) one ∙ simp append_assoc

pub first_is : (keys : List Key) (first k : Key) → Some first ≡ slice_get keys 0
    → slice_get keys 0 ≡ Some k → first ≡ k
first_is keys first k is at = let both : Some first ≡ Some k = is ∙ at in cc
