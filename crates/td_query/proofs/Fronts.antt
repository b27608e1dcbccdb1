-- What is read at the front of two texts that are the same up to and with some byte.
use Rattle.std.proofs.Common.{◌≡◌, ◌⊎◌, ℕ, suc, ◌≤◌, Bool, true, false, cond}
use Rattle.std.proofs.Common.{not}
use Rattle.std.proofs.Common.{eqb, List, [], ◌∷◌, ◌++◌, length, length-append, Option, Some, None}
use Rattle.std.proofs.Common.{Result, Ok, Err, refl, sym, ap, subst, ◌∙◌, inl, inr, arith}
use Rattle.td_text.specs.Cut.{strip}
use Rattle.td_text.specs.Lines.{on_ok}
use Rattle.td_text.specs.Runs.{is_space}
use Rattle.td_query.specs.QueryGrammar.{Log}
use Rattle.td_query.specs.Tokens.{skipped, skipped_in}
use Rattle.td_query.proofs.QueryRules.{skipped_short}

-- ---- 1. the two texts

-- two texts are the same up to and with a byte, after which the first has `a` and the second `b`
pub record Ahead (x : ℕ) (a b t u : List ℕ) : Type 0 where
  pub front : List ℕ
  pub one : t ≡ front ++ x ∷ a
  pub other : u ≡ front ++ x ∷ b

-- two texts are the same up to and with the byte, or the first is already after it
abbrev pub Near : ℕ → List ℕ → List ℕ → List ℕ → List ℕ → Type 0
Near x a b t u = Ahead x a b t u ⊎ (length t ≤ length a)

-- two texts begin with the same byte
pub record IsFirst (x : ℕ) (a b t u : List ℕ) : Type 0 where
  pub byte : ℕ
  pub v : List ℕ
  pub w : List ℕ
  pub one : t ≡ byte ∷ v
  pub other : u ≡ byte ∷ w
  pub near : Near x a b v w

pub skip_less : (t : List ℕ) → length (skipped t) ≤ length t
skip_less t = skipped_short false t

module _ (x : ℕ) (a b : List ℕ) where
  by_byte : (s h : Bool) (p q r t u v : List ℕ) → Near x a b p t → Near x a b q u
      → Near x a b r v → Near x a b (cond s p (cond h q r)) (cond s t (cond h u v))
  by_byte true h p q r t u v first second third = first
  by_byte false true p q r t u v first second third = second
  by_byte false false p q r t u v first second third = third

  skip_near : (comment : Bool) (front : List ℕ)
      → Near x a b (skipped_in comment (front ++ x ∷ a)) (skipped_in comment (front ++ x ∷ b))
  unfolding skipped_in
  skip_near true [] = inr (skipped_short (not (eqb x 10)) a)
  skip_near true (y ∷ front) = skip_near (not (eqb y 10)) front
  skip_near false [] =
      by_byte (is_space x) (eqb x 35) (skipped_in false a) (skipped_in true a) (x ∷ a)
      (skipped_in false b) (skipped_in true b) (x ∷ b) (inr (skipped_short false a))
      (inr (skipped_short true a)) (inl (record { front = []; one = refl; other = refl }))
  skip_near false (y ∷ front) =
      by_byte (is_space y) (eqb y 35) (skipped_in false (front ++ x ∷ a))
      (skipped_in true (front ++ x ∷ a)) (y ∷ (front ++ x ∷ a))
      (skipped_in false (front ++ x ∷ b)) (skipped_in true (front ++ x ∷ b))
      (y ∷ (front ++ x ∷ b)) (skip_near false front) (skip_near true front)
      (inl (record { front = y ∷ front; one = refl; other = refl }))

  pub skipped_near : (t u : List ℕ) → Near x a b t u → Near x a b (skipped t) (skipped u)
  skipped_near t u (inl h) =
      subst (λ (l : List ℕ). Near x a b (skipped l) (skipped u)) (sym h.one)
      (subst (λ (l : List ℕ). Near x a b (skipped (h.front ++ x ∷ a)) (skipped l)) (sym h.other)
      (skip_near false h.front))
  skipped_near t u (inr short) = let less = skip_less t in inr (omega arith)

  pub first_of : (t u : List ℕ) → Ahead x a b t u → IsFirst x a b t u
  first_of t u h = by h.front h.one h.other
    where
      by : (front : List ℕ) → t ≡ front ++ x ∷ a → u ≡ front ++ x ∷ b → IsFirst x a b t u
      by [] one other = record {
        byte = x;
        v = a;
        w = b;
        one = one;
        other = other;
        near = inr (omega arith);
      }
      by (y ∷ front) one other = record {
        byte = y;
        v = front ++ x ∷ a;
        w = front ++ x ∷ b;
        one = one;
        other = other;
        near = inl (record { front = front; one = refl; other = refl });
      }

  pub ahead_room : (t u : List ℕ) → Ahead x a b t u → suc (length a) ≤ length t
  ahead_room t u h =
      let whole : length t ≡ length (h.front ++ x ∷ a) = ap (λ (l : List ℕ). length l) h.one in
      let parts = length-append h.front (x ∷ a) in
      omega arith

  pub other_room : (t u : List ℕ) → Ahead x a b t u → suc (length b) ≤ length u
  other_room t u h =
      let whole : length u ≡ length (h.front ++ x ∷ b) = ap (λ (l : List ℕ). length l) h.other in
      let parts = length-append h.front (x ∷ b) in
      omega arith

-- ---- 2. what is read of them

-- how much is left: after whitespace and comments if something is read, else at the wrong byte
abbrev pub left_in : {Y : Type 0} → (Y → List ℕ) → Result Y (ℕ × Log) → ℕ
left_in rest (Ok y) = length (skipped (rest y))
left_in rest (Err e) = e.0

-- what is read of the second text follows what is read of the first
pub data Follow {Y : Type 0} (x : ℕ) (a b : List ℕ) (rest : Y → List ℕ)
    (r s : Result Y (ℕ × Log)) : Type 0 where
  -- both are read, and the byte is ahead
  goes : (y z : Y) → r ≡ Ok y → s ≡ Ok z → Ahead x a b (skipped (rest y)) (skipped (rest z))
      → Follow x a b rest r s
  -- both are wrong at one byte
  wrong : (d e : ℕ × Log) → r ≡ Err d → s ≡ Err e → (front : List ℕ)
      → d.0 ≡ length (front ++ x ∷ a) → e.0 ≡ length (front ++ x ∷ b) → Follow x a b rest r s
  -- the byte is passed in the first text
  past : left_in rest r ≤ length a → Follow x a b rest r s

pub short_chain : {Y Z : Type 0} (rest : Y → List ℕ) (last : Z → List ℕ) (r : Result Y (ℕ × Log))
    (f : Y → Result Z (ℕ × Log)) (n : ℕ) → left_in rest r ≤ n
    → ((y : Y) → left_in last (f y) ≤ length (skipped (rest y))) → left_in last (on_ok r f) ≤ n
short_chain rest last (Ok y) f n low next = let more = next y in omega arith
short_chain rest last (Err e) f n low next = low

module _ (x : ℕ) (a b : List ℕ) {Y : Type 0} (rest : Y → List ℕ) where
  pub goes_near : (y z : Y) → Near x a b (rest y) (rest z) → Follow x a b rest (Ok y) (Ok z)
  goes_near y z near = by (skipped_near x a b (rest y) (rest z) near)
    where
      by : Near x a b (skipped (rest y)) (skipped (rest z)) → Follow x a b rest (Ok y) (Ok z)
      by (inl h) = goes y z refl refl h
      by (inr short) = past short

  pub wrong_at : (d e : ℕ × Log) (t u : List ℕ) → Ahead x a b t u → d.0 ≡ length t
      → e.0 ≡ length u → Follow x a b rest (Err d) (Err e)
  wrong_at d e t u h one other =
      wrong d e refl refl h.front (one ∙ ap (λ (l : List ℕ). length l) h.one)
      (other ∙ ap (λ (l : List ℕ). length l) h.other)

  -- both texts begin with the mark, or neither does
  pub by_mark : (f g : Option (List ℕ) → Result Y (ℕ × Log)) (m : ℕ) (mark t u : List ℕ)
      → mark ≡ m ∷ [] → IsFirst x a b t u → Follow x a b rest (f None) (g None)
      → ((v w : List ℕ) → suc (length v) ≤ length t → suc (length w) ≤ length u
      → Near x a b v w → Follow x a b rest (f (Some v)) (g (Some w)))
      → Follow x a b rest (f (strip mark t)) (g (strip mark u))
  unfolding strip
  by_mark f g m mark t u is h none some =
      let there : Follow x a b rest (f (strip (m ∷ []) (h.byte ∷ h.v)))
      (g (strip (m ∷ []) (h.byte ∷ h.w))) = by (eqb m h.byte) in
      subst (λ (k : List ℕ). Follow x a b rest (f (strip k t)) (g (strip k u))) (sym is)
      (subst (λ (l : List ℕ). Follow x a b rest (f (strip (m ∷ []) l)) (g (strip (m ∷ []) u)))
      (sym h.one)
      (subst (λ (l : List ℕ). Follow x a b rest (f (strip (m ∷ []) (h.byte ∷ h.v)))
      (g (strip (m ∷ []) l))) (sym h.other) there))
    where
      less : suc (length h.v) ≤ length t
      less = let whole : length t ≡ suc (length h.v) = ap (λ (l : List ℕ). length l) h.one in
          omega arith

      lesser : suc (length h.w) ≤ length u
      lesser = let whole : length u ≡ suc (length h.w) = ap (λ (l : List ℕ). length l) h.other in
          omega arith

      by : (k : Bool) → Follow x a b rest (f (cond k (Some h.v) None)) (g (cond k (Some h.w) None))
      by true = some h.v h.w less lesser h.near
      by false = none

module _ (x : ℕ) (a b : List ℕ) {Y Z : Type 0} (rest : Y → List ℕ) (last : Z → List ℕ)
    (f g : Y → Result Z (ℕ × Log)) where
  pub follow_chain : (r s : Result Y (ℕ × Log)) → Follow x a b rest r s
      → ((y : Y) → left_in last (f y) ≤ length (skipped (rest y)))
      → ((y z : Y) → r ≡ Ok y → s ≡ Ok z
      → Ahead x a b (skipped (rest y)) (skipped (rest z)) → Follow x a b last (f y) (g z))
      → Follow x a b last (on_ok r f) (on_ok s g)
  follow_chain r s (goes y z is also h) short next =
      subst (λ (q : Result Y (ℕ × Log)). Follow x a b last (on_ok q f) (on_ok s g)) (sym is)
      (subst (λ (q : Result Y (ℕ × Log)). Follow x a b last (f y) (on_ok q g)) (sym also)
      (next y z is also h))
  follow_chain r s (wrong d e is also front one other) short next =
      wrong d e (ap (λ (q : Result Y (ℕ × Log)). on_ok q f) is)
      (ap (λ (q : Result Y (ℕ × Log)). on_ok q g) also) front one other
  follow_chain r s (past low) short next = past (short_chain rest last r f (length a) low short)
