-- Atoms at the front of two texts that are the same up to and with some byte.
use Rattle.std.proofs.Common.{◌≡◌, ◌≢◌, ℕ, suc, ◌≤◌, Bool, true, false}
use Rattle.std.proofs.Common.{cond}
use Rattle.std.proofs.Common.{not, eqb, ◌&&◌, List, [], ◌∷◌, ◌++◌, length, length-append}
use Rattle.std.proofs.Common.{Option}
use Rattle.std.proofs.Common.{Some, None}
use Rattle.std.proofs.Common.{Err, refl, sym, ap, subst, inl, inr, arith}
use Rattle.std.specs.Prelude.{codes}
use Rattle.std.proofs.lemmas.Bool.{ne_eqb}
use Rattle.std.proofs.lemmas.Bool.Decides.{eqb_tells}
use Rattle.td_text.specs.Chain.{◌>>=◌}
use Rattle.td_text.specs.Cut.{cut, strip}
use Rattle.td_text.specs.Runs.{run, behind}
use Rattle.td_text.proofs.Cut.{cut_found}
use Rattle.td_text.proofs.Prefix.{strip_found}
use Rattle.td_query.specs.Query.{pattern, text}
use Rattle.td_query.specs.QueryGrammar.{Log, Read, atom, dotted, field_atom, quote_atom}
use Rattle.td_query.specs.QueryGrammar.{quoted, slash_atom, slashed, tested, tilde_atom, tilded}
use Rattle.td_query.specs.Tokens.{is_key_byte, pattern_in, skipped}
use Rattle.td_query.proofs.FrontWords.{IsRun, after, behind_less, goes_behind, run_of}
use Rattle.td_query.proofs.FrontWords.{stops_ahead, word_run, word_short}
use Rattle.td_query.proofs.Fronts.{Ahead, Follow, Near, by_mark, first_of}
use Rattle.td_query.proofs.Fronts.{goes_near, left_in, past, skip_less, skipped_near, wrong_at}
use Rattle.td_query.proofs.PatternEnds.{Parts, at_end, more, parts, patterns_end}
use Rattle.td_query.proofs.PatternEnds.{split}

-- ---- 1. no more is left than there was

pub strip_less : (m : ℕ) (t v : List ℕ) → strip (m ∷ []) t ≡ Some v → suc (length v) ≤ length t
strip_less m t v e =
    let whole : length t ≡ suc (length v) =
    ap (λ (l : List ℕ). length l) (strip_found (m ∷ []) t v e) in
    omega arith

pub cut_less : (c : ℕ) (t : List ℕ) (p : List ℕ × List ℕ) → cut c t ≡ Some p
    → length p.1 ≤ length t
cut_less c t p e =
    let whole : length t ≡ length (p.0 ++ c ∷ p.1) =
    ap (λ (l : List ℕ). length l) (cut_found c t p e).0 in
    let parts = length-append p.0 (c ∷ p.1) in
    omega arith

pattern_less : (t : List ℕ) (p : List ℕ × List ℕ) → pattern_in t ≡ Some p
    → length p.1 ≤ length t
pattern_less t p e =
    let whole : length t ≡ length (p.0 ++ 47 ∷ p.1) =
    ap (λ (l : List ℕ). length l) ((patterns_end t p.0 p.1).0 e).0 in
    let parts = length-append p.0 (47 ∷ p.1) in
    omega arith

quote_short : (log : Log) (field q : List ℕ) (o : Option (List ℕ × List ℕ)) → cut 34 q ≡ o
    → left_in after (quote_atom log field o) ≤ length q
quote_short log field q None is = omega arith
quote_short log field q (Some p) is =
    let less = skip_less p.1 in let lesser = cut_less 34 q p is in omega arith

slash_short : (log : Log) (field q : List ℕ) (left : ℕ) (o : Option (List ℕ × List ℕ))
    → pattern_in q ≡ o → left_in after (slash_atom log field left o) ≤ length q
unfolding slash_atom
slash_short log field q left None is = omega arith
slash_short log field q left (Some p) is =
    let less = skip_less p.1 in let lesser = pattern_less q p is in omega arith

slashed_short : (log : Log) (field t : List ℕ) (o : Option (List ℕ)) → strip (codes "/") t ≡ o
    → left_in after (slashed log field (length t) o) ≤ length t
slashed_short log field t None is = omega arith
slashed_short log field t (Some q) is =
    let low = slash_short log field q (length t) (pattern_in q) refl in
    let less = strip_less 47 t q is in
    omega arith

quoted_short : (log : Log) (field t : List ℕ) (o : Option (List ℕ)) → strip (codes "\"") t ≡ o
    → left_in after (quoted log field t o) ≤ length t
quoted_short log field t None is = slashed_short log field t (strip (codes "/") t) refl
quoted_short log field t (Some q) is =
    let low = quote_short log field q (cut 34 q) refl in
    let less = strip_less 34 t q is in
    omega arith

tested_short : (log : Log) (field t : List ℕ)
    → left_in after (tested log field t) ≤ length (skipped t)
unfolding tested
tested_short log field t = quoted_short log field (skipped t) (strip (codes "\"") (skipped t)) refl

tilded_short : (log : Log) (field t : List ℕ) (o : Option (List ℕ)) → strip (codes "~") t ≡ o
    → left_in after (tilded log field (length t) o) ≤ length t
tilded_short log field t None is = omega arith
tilded_short log field t (Some v) is =
    let low = tested_short log field v in
    let less = skip_less v in
    let lesser = strip_less 126 t v is in
    omega arith

tilde_short : (log : Log) (field t : List ℕ)
    → left_in after (tilde_atom log field t) ≤ length (skipped t)
unfolding tilde_atom
tilde_short log field t = tilded_short log field (skipped t) (strip (codes "~") (skipped t)) refl

-- no more than `n` is left, whether a name is there or not
by_name_short : (wrong n : ℕ) (log : Log) (r : Read) (k : Bool) → wrong ≤ n → left_in after r ≤ n
    → left_in after (cond k (Err (wrong, log)) r) ≤ n
by_name_short wrong n log r true low short = low
by_name_short wrong n log r false low short = short

field_short : (log : Log) (t : List ℕ) → left_in after (field_atom log t) ≤ length t
unfolding field_atom
field_short log t =
    let low = tilde_short log (run is_key_byte t) (behind is_key_byte t) in
    let less = skip_less (behind is_key_byte t) in
    let lesser = behind_less t in
    by_name_short (length t) (length t) log
    (tilde_atom log (run is_key_byte t) (behind is_key_byte t)) (eqb (length (run is_key_byte t)) 0)
    (omega arith) (omega arith)

dotted_short : (log : Log) (t : List ℕ) (o : Option (List ℕ)) → strip (codes ".") t ≡ o
    → left_in after (dotted log t o) ≤ length t
dotted_short log t None is = word_short log t
dotted_short log t (Some v) is =
    let low = field_short log v in let less = strip_less 46 t v is in omega arith

pub atom_short : (log : Log) (t : List ℕ) → left_in after (atom log t) ≤ length t
unfolding atom
atom_short log t = dotted_short log t (strip (codes ".") t) refl

-- ---- 2. what is closed

-- both texts are cut ahead of the byte, at one place; or the first is cut after it, or nowhere
pub data IsCut (x : ℕ) (a b : List ℕ) (o p : Option (List ℕ × List ℕ)) : Type 0 where
  cut_ahead : (front v w : List ℕ) → o ≡ Some (front, v) → p ≡ Some (front, w) → Ahead x a b v w
      → IsCut x a b o p
  cut_behind : (front v : List ℕ) → o ≡ Some (front, v) → length v ≤ length a → IsCut x a b o p
  cut_never : o ≡ None → IsCut x a b o p

module _ (x : ℕ) (a b : List ℕ) where
  cut_later : (y : ℕ) (o p : Option (List ℕ × List ℕ)) → IsCut x a b o p
      → IsCut x a b (o >>= λ q. Some (y ∷ q.0, q.1)) (p >>= λ q. Some (y ∷ q.0, q.1))
  cut_later y o p (cut_ahead front v w one other h) =
      cut_ahead (y ∷ front) v w
      (ap (λ (l : Option (List ℕ × List ℕ)). l >>= λ q. Some (y ∷ q.0, q.1)) one)
      (ap (λ (l : Option (List ℕ × List ℕ)). l >>= λ q. Some (y ∷ q.0, q.1)) other) h
  cut_later y o p (cut_behind front v one short) =
      cut_behind (y ∷ front) v
      (ap (λ (l : Option (List ℕ × List ℕ)). l >>= λ q. Some (y ∷ q.0, q.1)) one) short
  cut_later y o p (cut_never none) =
      cut_never (ap (λ (l : Option (List ℕ × List ℕ)). l >>= λ q. Some (y ∷ q.0, q.1)) none)

  cut_of : (c : ℕ) (t : List ℕ) (p : Option (List ℕ × List ℕ)) → length t ≤ length a
      → (o : Option (List ℕ × List ℕ)) → cut c t ≡ o → IsCut x a b o p
  cut_of c t p short None is = cut_never refl
  cut_of c t p short (Some q) is =
      let less = cut_less c t q is in cut_behind q.0 q.1 refl (omega arith)

  cut_here : (c : ℕ) → IsCut x a b (cut c (x ∷ a)) (cut c (x ∷ b))
  unfolding cut
  cut_here c =
      elim (eqb_tells x c) [
        | inl is ↦ rw is.0 (cut_behind [] a refl (omega arith))
        | inr other ↦ rw other.0
            (cut_later x (cut c a) (cut c b)
            (cut_of c a (cut c b) (omega arith) (cut c a) refl))
      ]

  cut_in : (c : ℕ) (front : List ℕ) → IsCut x a b (cut c (front ++ x ∷ a)) (cut c (front ++ x ∷ b))
  unfolding cut
  cut_in c [] = cut_here c
  cut_in c (y ∷ front) =
      elim (eqb_tells y c) [
        | inl is ↦ rw is.0
            (cut_ahead [] (front ++ x ∷ a) (front ++ x ∷ b) refl refl
            (record { front = front; one = refl; other = refl }))
        | inr other ↦ rw other.0
            (cut_later y (cut c (front ++ x ∷ a)) (cut c (front ++ x ∷ b)) (cut_in c front))
      ]

  pub cut_near : (c : ℕ) (t u : List ℕ) → Near x a b t u → IsCut x a b (cut c t) (cut c u)
  cut_near c t u (inl h) =
      subst (λ (l : List ℕ). IsCut x a b (cut c l) (cut c u)) (sym h.one)
      (subst (λ (l : List ℕ). IsCut x a b (cut c (h.front ++ x ∷ a)) (cut c l)) (sym h.other)
      (cut_in c h.front))
  cut_near c t u (inr short) = cut_of c t (cut c u) short (cut c t) refl

  part_later : (y : ℕ) (o p : Parts) → IsCut x a b o p → IsCut x a b (more y o) (more y p)
  part_later y o p (cut_ahead front v w one other h) =
      cut_ahead (y ∷ front) v w (ap (more y) one) (ap (more y) other) h
  part_later y o p (cut_behind front v one short) =
      cut_behind (y ∷ front) v (ap (more y) one) short
  part_later y o p (cut_never none) = cut_never (ap (more y) none)

  part_of : (escaped : Bool) (t : List ℕ) (p : Parts) → length t ≤ length a → (o : Parts)
      → parts escaped t ≡ o → IsCut x a b o p
  part_of escaped t p short None is = cut_never refl
  part_of escaped t p short (Some q) is =
      let found = split escaped t q.0 q.1 is in
      let whole : length t ≡ length (q.0 ++ 47 ∷ q.1) = ap (λ (l : List ℕ). length l) found.0 in
      let both = length-append q.0 (47 ∷ q.1) in
      cut_behind q.0 q.1 refl (omega arith)

  part_by : (k : Bool) (o p q r : Parts) → IsCut x a b o p → IsCut x a b q r
      → IsCut x a b (cond k o q) (cond k p r)
  part_by true o p q r one other = one
  part_by false o p q r one other = other

  part_in : (escaped : Bool) (front : List ℕ)
      → IsCut x a b (parts escaped (front ++ x ∷ a)) (parts escaped (front ++ x ∷ b))
  part_in escaped [] =
      part_by (eqb x 47 && not escaped) (Some ([], a)) (Some ([], b))
      (more x (parts (eqb x 92) a)) (more x (parts (eqb x 92) b))
      (cut_behind [] a refl (omega arith))
      (part_later x (parts (eqb x 92) a) (parts (eqb x 92) b)
      (part_of (eqb x 92) a (parts (eqb x 92) b) (omega arith) (parts (eqb x 92) a) refl))
  part_in escaped (y ∷ front) =
      part_by (eqb y 47 && not escaped) (Some ([], front ++ x ∷ a)) (Some ([], front ++ x ∷ b))
      (more y (parts (eqb y 92) (front ++ x ∷ a))) (more y (parts (eqb y 92) (front ++ x ∷ b)))
      (cut_ahead [] (front ++ x ∷ a) (front ++ x ∷ b) refl refl
      (record { front = front; one = refl; other = refl }))
      (part_later y (parts (eqb y 92) (front ++ x ∷ a)) (parts (eqb y 92) (front ++ x ∷ b))
      (part_in (eqb y 92) front))

  part_near : (t u : List ℕ) → Near x a b t u → IsCut x a b (parts false t) (parts false u)
  part_near t u (inl h) =
      subst (λ (l : List ℕ). IsCut x a b (parts false l) (parts false u)) (sym h.one)
      (subst (λ (l : List ℕ). IsCut x a b (parts false (h.front ++ x ∷ a)) (parts false l))
      (sym h.other) (part_in false h.front))
  part_near t u (inr short) = part_of false t (parts false u) short (parts false t) refl

  pattern_near : (t u : List ℕ) → Near x a b t u → IsCut x a b (pattern_in t) (pattern_in u)
  pattern_near t u near =
      subst (λ (o : Parts). IsCut x a b o (pattern_in u)) (sym (at_end false t))
      (subst (λ (o : Parts). IsCut x a b (parts false t) o) (sym (at_end false u))
      (part_near t u near))

-- ---- 3. atoms

module _ (x : ℕ) (a b : List ℕ) (log kept : Log) where
  quote_follow : (field : List ℕ) (o p : Option (List ℕ × List ℕ)) → IsCut x a b o p
      → Follow x a b after (quote_atom log field o) (quote_atom kept field p)
  quote_follow field o p (cut_ahead front v w one other h) =
      subst (λ (l : Option (List ℕ × List ℕ)). Follow x a b after (quote_atom log field l)
      (quote_atom kept field p)) (sym one)
      (subst (λ (l : Option (List ℕ × List ℕ)).
      Follow x a b after (quote_atom log field (Some (front, v))) (quote_atom kept field l))
      (sym other)
      (goes_near x a b after (text field front, log, v) (text field front, kept, w) (inl h)))
  quote_follow field o p (cut_behind front v one short) =
      let less = skip_less v in
      let low : length (skipped v) ≤ length a = omega arith in
      past (subst (λ (l : Option (List ℕ × List ℕ)).
      left_in after (quote_atom log field l) ≤ length a) (sym one) low)
  quote_follow field o p (cut_never none) =
      let low : 0 ≤ length a = omega arith in
      past (subst (λ (l : Option (List ℕ × List ℕ)).
      left_in after (quote_atom log field l) ≤ length a) (sym none) low)

  slash_follow : (field : List ℕ) (m n : ℕ) (o p : Option (List ℕ × List ℕ)) → IsCut x a b o p
      → Follow x a b after (slash_atom log field m o) (slash_atom kept field n p)
  unfolding slash_atom
  slash_follow field m n o p (cut_ahead front v w one other h) =
      subst (λ (l : Option (List ℕ × List ℕ)). Follow x a b after (slash_atom log field m l)
      (slash_atom kept field n p)) (sym one)
      (subst (λ (l : Option (List ℕ × List ℕ)).
      Follow x a b after (slash_atom log field m (Some (front, v))) (slash_atom kept field n l))
      (sym other)
      (goes_near x a b after
      (pattern field (length log), log ++ record { left = m; raw = front } ∷ [], v)
      (pattern field (length kept), kept ++ record { left = n; raw = front } ∷ [], w) (inl h)))
  slash_follow field m n o p (cut_behind front v one short) =
      let less = skip_less v in
      let low : length (skipped v) ≤ length a = omega arith in
      past (subst (λ (l : Option (List ℕ × List ℕ)).
      left_in after (slash_atom log field m l) ≤ length a) (sym one) low)
  slash_follow field m n o p (cut_never none) =
      let low : 0 ≤ length a = omega arith in
      past (subst (λ (l : Option (List ℕ × List ℕ)).
      left_in after (slash_atom log field m l) ≤ length a) (sym none) low)

  slashed_follow : (field t u : List ℕ) → Ahead x a b t u
      → Follow x a b after (slashed log field (length t) (strip (codes "/") t))
      (slashed kept field (length u) (strip (codes "/") u))
  slashed_follow field t u h =
      by_mark x a b after (slashed log field (length t)) (slashed kept field (length u)) 47
      (codes "/") t u refl (first_of x a b t u h)
      (wrong_at x a b after (length t, log) (length u, kept) t u h refl refl)
      (λ v w less lesser near.
      slash_follow field (length t) (length u) (pattern_in v) (pattern_in w)
      (pattern_near x a b v w near))

  quoted_follow : (field t u : List ℕ) → Ahead x a b t u
      → Follow x a b after (quoted log field t (strip (codes "\"") t))
      (quoted kept field u (strip (codes "\"") u))
  quoted_follow field t u h =
      by_mark x a b after (quoted log field t) (quoted kept field u) 34 (codes "\"") t u refl
      (first_of x a b t u h) (slashed_follow field t u h)
      (λ v w less lesser near.
      quote_follow field (cut 34 v) (cut 34 w) (cut_near x a b 34 v w near))

  tested_follow : (field t u : List ℕ) → Near x a b (skipped t) (skipped u)
      → Follow x a b after (tested log field t) (tested kept field u)
  unfolding tested
  tested_follow field t u (inl h) = quoted_follow field (skipped t) (skipped u) h
  tested_follow field t u (inr short) =
      let low = quoted_short log field (skipped t) (strip (codes "\"") (skipped t)) refl in
      past (omega arith)

  tilded_follow : (field t u : List ℕ) → Ahead x a b t u
      → Follow x a b after (tilded log field (length t) (strip (codes "~") t))
      (tilded kept field (length u) (strip (codes "~") u))
  tilded_follow field t u h =
      by_mark x a b after (tilded log field (length t)) (tilded kept field (length u)) 126
      (codes "~") t u refl (first_of x a b t u h)
      (wrong_at x a b after (length t, log) (length u, kept) t u h refl refl)
      (λ v w less lesser near. tested_follow field v w (skipped_near x a b v w near))

  tilde_follow : (field t u : List ℕ) → Near x a b (skipped t) (skipped u)
      → Follow x a b after (tilde_atom log field t) (tilde_atom kept field u)
  unfolding tilde_atom
  tilde_follow field t u (inl h) = tilded_follow field (skipped t) (skipped u) h
  tilde_follow field t u (inr short) =
      let low = tilded_short log field (skipped t) (strip (codes "~") (skipped t)) refl in
      past (omega arith)

  by_name : (k : Bool) (m n : ℕ) (r s : Read)
      → Follow x a b after (Err (m, log)) (Err (n, kept)) → Follow x a b after r s
      → Follow x a b after (cond k (Err (m, log)) r) (cond k (Err (n, kept)) s)
  by_name true m n r s none some = none
  by_name false m n r s none some = some

  field_run : (t u : List ℕ) → Ahead x a b t u → IsRun x a b t u
      → Follow x a b after (field_atom log t) (field_atom kept u)
  unfolding field_atom
  field_run t u h (stops_ahead same hb) =
      subst (λ (name : List ℕ). Follow x a b after
      (cond (eqb (length (run is_key_byte t)) 0) (Err (length t, log))
      (tilde_atom log (run is_key_byte t) (behind is_key_byte t)))
      (cond (eqb (length name) 0) (Err (length u, kept))
      (tilde_atom kept name (behind is_key_byte u)))) (sym same)
      (by_name (eqb (length (run is_key_byte t)) 0) (length t) (length u)
      (tilde_atom log (run is_key_byte t) (behind is_key_byte t))
      (tilde_atom kept (run is_key_byte t) (behind is_key_byte u))
      (wrong_at x a b after (length t, log) (length u, kept) t u h refl refl)
      (tilde_follow (run is_key_byte t) (behind is_key_byte t) (behind is_key_byte u)
      (skipped_near x a b (behind is_key_byte t) (behind is_key_byte u) (inl hb))))
  field_run t u h (goes_behind front m n one other first second short) =
      let some : length (run is_key_byte t) ≡ length (front ++ x ∷ m) =
      ap (λ (l : List ℕ). length l) first in
      let both = length-append front (x ∷ m) in
      let filled : length (run is_key_byte t) ≢ 0 = omega arith in
      let full : eqb (length (run is_key_byte t)) 0 ≡ false =
      ne_eqb (length (run is_key_byte t)) 0 filled in
      let low = tilde_short log (run is_key_byte t) (behind is_key_byte t) in
      let less = skip_less (behind is_key_byte t) in
      let lowest : left_in after (tilde_atom log (run is_key_byte t) (behind is_key_byte t))
      ≤ length a = omega arith in
      past (subst (λ (k : Bool). left_in after (cond k (Err (length t, log))
      (tilde_atom log (run is_key_byte t) (behind is_key_byte t))) ≤ length a) (sym full) lowest)

  field_follow : (t u : List ℕ) → Near x a b t u
      → Follow x a b after (field_atom log t) (field_atom kept u)
  field_follow t u (inl h) = field_run t u h (run_of x a b t u h)
  field_follow t u (inr short) = let low = field_short log t in past (omega arith)

  pub atom_follow : (t u : List ℕ) → Ahead x a b t u
      → Follow x a b after (atom log t) (atom kept u)
  unfolding atom
  atom_follow t u h =
      by_mark x a b after (dotted log t) (dotted kept u) 46 (codes ".") t u refl
      (first_of x a b t u h) (word_run x a b log kept t u (run_of x a b t u h))
      (λ v w less lesser near. field_follow v w near)
