-- Queries at the front of two texts that are the same up to and with some byte.
use Rattle.std.proofs.Common.{◌≡◌, ℕ, zero, suc, ◌≤◌, List, []}
use Rattle.std.proofs.Common.{◌∷◌}
use Rattle.std.proofs.Common.{◌++◌, length, Option, Some, None, Ok, Err, refl}
use Rattle.std.proofs.Common.{inl, inr, arith}
use Rattle.std.specs.Prelude.{codes}
use Rattle.td_text.specs.Cut.{strip}
use Rattle.td_text.specs.Lines.{on_ok}
use Rattle.td_query.specs.declared.query.Joint.{Joint}
use Rattle.td_query.specs.declared.query.Joint.TheVariants.{And, Or}
use Rattle.td_query.specs.Query.{Shape, joined, negated}
use Rattle.td_query.specs.QueryGrammar.{Log, Read, and_with, atom, behind_mark, closed, closed_by}
use Rattle.td_query.specs.QueryGrammar.{mark_of, more, negating, next, not_in, or_else, or_with}
use Rattle.td_query.specs.QueryGrammar.{parts_with}
use Rattle.td_query.specs.QuerySpelling.{SpellsPart}
use Rattle.td_query.specs.Tokens.{skipped}
use Rattle.td_query.proofs.FrontAtoms.{atom_follow, atom_short, strip_less}
use Rattle.td_query.proofs.FrontWords.{after}
use Rattle.td_query.proofs.Fronts.{Ahead, Follow, Near, ahead_room, by_mark, first_of, follow_chain}
use Rattle.td_query.proofs.Fronts.{goes, goes_near, left_in, other_room, past, short_chain}
use Rattle.td_query.proofs.Fronts.{skip_less, skipped_near, wrong_at}
use Rattle.td_query.proofs.SpelledAtoms.{Given}
use Rattle.td_query.proofs.SpelledQueries.{all_room, joined_found, part_found, parts_read}

-- ---- 1. no more is left than there was

mark_less : (joint : Joint) (t u : List ℕ) → strip (mark_of joint) t ≡ Some u
    → suc (length u) ≤ length t
mark_less And t u e = strip_less 38 t u e
mark_less Or t u e = strip_less 124 t u e

module _ (joint : Joint) (read : Log → List ℕ → Read)
    (short : (log : Log) (t : List ℕ) → left_in after (read log t) ≤ length (skipped t)) where
  next_short : (n : ℕ) (parts : List Shape) (log : Log) (t : List ℕ)
      → ((parts : List Shape) (log : Log) (t : List ℕ)
      → left_in after (more joint read n parts log t) ≤ length (skipped t))
      → (o : Option (List ℕ)) → behind_mark (mark_of joint) t ≡ o
      → left_in after (next joint read (more joint read n) parts log t o) ≤ length (skipped t)
  unfolding behind_mark
  next_short n parts log t later None is = omega arith
  next_short n parts log t later (Some u) is =
      let low = short log u in
      let less = skip_less u in
      let lesser = mark_less joint (skipped t) u is in
      short_chain after after (read log u) (λ x. more joint read n (parts ++ x.0 ∷ []) x.1 x.2)
      (length (skipped t)) (omega arith) (λ y. later (parts ++ y.0 ∷ []) y.1 y.2)

  more_short : (n : ℕ) (parts : List Shape) (log : Log) (t : List ℕ)
      → left_in after (more joint read n parts log t) ≤ length (skipped t)
  unfolding more
  more_short zero parts log t = omega arith
  more_short (suc n) parts log t =
      next_short n parts log t (λ p l u. more_short n p l u) (behind_mark (mark_of joint) t) refl

  parts_short : (log : Log) (t : List ℕ)
      → left_in after (parts_with joint read log t) ≤ length (skipped t)
  parts_short log t =
      short_chain after after (read log t)
      (λ x. more joint read (length x.2) (x.0 ∷ []) x.1 x.2) (length (skipped t)) (short log t)
      (λ y. more_short (length y.2) (y.0 ∷ []) y.1 y.2)

any_short : (read : Log → List ℕ → Read)
    → ((log : Log) (t : List ℕ) → left_in after (read log t) ≤ length (skipped t))
    → (log : Log) (t : List ℕ) → left_in after (or_with read log t) ≤ length (skipped t)
unfolding or_with
any_short read short log t = parts_short Or (and_with read) (parts_short And read short) log t

closed_by_short : (s : Shape) (log : Log) (t : List ℕ) (o : Option (List ℕ))
    → strip (codes ")") t ≡ o → left_in after (closed_by s log (length t) o) ≤ length t
closed_by_short s log t None is = omega arith
closed_by_short s log t (Some u) is =
    let less = skip_less u in let lesser = strip_less 41 t u is in omega arith

closed_short : (y : Given) → left_in after (closed y) ≤ length (skipped y.2)
unfolding closed
closed_short y = closed_by_short y.0 y.1 (skipped y.2) (strip (codes ")") (skipped y.2)) refl

negating_short : (y : Given) → left_in after (negating y) ≤ length (skipped y.2)
negating_short y = omega arith

module _ (depth : ℕ)
    (short : (log : Log) (t : List ℕ) → left_in after (not_in depth log t) ≤ length (skipped t))
  where
    level_short : (log : Log) (t : List ℕ) (o p : Option (List ℕ)) → strip (codes "!") t ≡ o
        → strip (codes "(") t ≡ p
        → left_in after (or_else o (λ u. on_ok (not_in depth log u) negating)
        (or_else p (λ u. on_ok (or_with (not_in depth) log u) closed) (atom log t))) ≤ length t
    level_short log t (Some u) p bang opens =
        let low = short log u in
        let less = skip_less u in
        let lesser = strip_less 33 t u bang in
        short_chain after after (not_in depth log u) negating (length t)
        (omega arith) negating_short
    level_short log t None (Some u) bang opens =
        let low = any_short (not_in depth) short log u in
        let less = skip_less u in
        let lesser = strip_less 40 t u opens in
        short_chain after after (or_with (not_in depth) log u) closed (length t) (omega arith)
        closed_short
    level_short log t None None bang opens = atom_short log t

last_short : (log : Log) (t : List ℕ) (o p : Option (List ℕ))
    → left_in after (or_else o (λ u. Err (length t, log))
    (or_else p (λ u. Err (length t, log)) (atom log t))) ≤ length t
last_short log t (Some u) p = omega arith
last_short log t None (Some u) = omega arith
last_short log t None None = atom_short log t

pub part_short : (depth : ℕ) (log : Log) (t : List ℕ)
    → left_in after (not_in depth log t) ≤ length (skipped t)
unfolding not_in
part_short zero log t =
    last_short log (skipped t) (strip (codes "!") (skipped t)) (strip (codes "(") (skipped t))
part_short (suc depth) log t =
    level_short depth (λ l u. part_short depth l u) log (skipped t) (strip (codes "!") (skipped t))
    (strip (codes "(") (skipped t)) refl refl

pub query_short : (depth : ℕ) (log : Log) (t : List ℕ)
    → left_in after (or_with (not_in depth) log t) ≤ length (skipped t)
query_short depth log t = any_short (not_in depth) (part_short depth) log t

-- ---- 2. chains

-- what is known of the reading of a part
pub record IsRead (x : ℕ) (a b : List ℕ) (read : Log → List ℕ → Read) : Type 0 where
  pub short : (log : Log) (t : List ℕ) → left_in after (read log t) ≤ length (skipped t)
  pub room : (log : Log) (t : List ℕ) (y : Given) → read log t ≡ Ok y → length y.2 ≤ length t
  pub follows : (log kept : Log) (t u : List ℕ) → Near x a b (skipped t) (skipped u)
      → Follow x a b after (read log t) (read kept u)

mark_byte : Joint → ℕ
mark_byte And = 38
mark_byte Or = 124

mark_is : (joint : Joint) → mark_of joint ≡ mark_byte joint ∷ []
unfolding mark_byte
mark_is And = refl
mark_is Or = refl

module _ (x : ℕ) (a b : List ℕ) (joint : Joint) (read : Log → List ℕ → Read)
    (is : IsRead x a b read) where
  more_follow : (n m : ℕ) (parts others : List Shape) (log kept : Log) (t u : List ℕ)
      → Near x a b (skipped t) (skipped u) → length t ≤ n → length u ≤ m
      → Follow x a b after (more joint read n parts log t) (more joint read m others kept u)
  unfolding more behind_mark
  more_follow n m parts others log kept t u (inr low) one other =
      let less = more_short joint read is.short n parts log t in past (omega arith)
  more_follow zero m parts others log kept t u (inl h) one other =
      let some = ahead_room x a b (skipped t) (skipped u) h in
      let less = skip_less t in
      absurd (omega arith)
  more_follow (suc n) zero parts others log kept t u (inl h) one other =
      let some = other_room x a b (skipped t) (skipped u) h in
      let less = skip_less u in
      absurd (omega arith)
  more_follow (suc n) (suc m) parts others log kept t u (inl h) one other =
      by_mark x a b after (next joint read (more joint read n) parts log t)
      (next joint read (more joint read m) others kept u) (mark_byte joint) (mark_of joint)
      (skipped t) (skipped u) (mark_is joint) (first_of x a b (skipped t) (skipped u) h)
      (goes (joined joint parts, log, t) (joined joint others, kept, u) refl refl h)
      (λ v w less lesser near.
      follow_chain x a b after after
      (λ y. more joint read n (parts ++ y.0 ∷ []) y.1 y.2)
      (λ y. more joint read m (others ++ y.0 ∷ []) y.1 y.2) (read log v) (read kept w)
      (is.follows log kept v w (skipped_near x a b v w near))
      (λ y. more_short joint read is.short n (parts ++ y.0 ∷ []) y.1 y.2)
      (λ y z first second ahead.
      let room = is.room log v y first in
      let also = is.room kept w z second in
      let skip = skip_less t in
      let skips = skip_less u in
      let left : length y.2 ≤ n = omega arith in
      let right : length z.2 ≤ m = omega arith in
      more_follow n m (parts ++ y.0 ∷ []) (others ++ z.0 ∷ []) y.1 z.1 y.2 z.2 (inl ahead) left
      right))

  parts_follow : (log kept : Log) (t u : List ℕ) → Near x a b (skipped t) (skipped u)
      → Follow x a b after (parts_with joint read log t) (parts_with joint read kept u)
  parts_follow log kept t u near =
      follow_chain x a b after after (λ y. more joint read (length y.2) (y.0 ∷ []) y.1 y.2)
      (λ y. more joint read (length y.2) (y.0 ∷ []) y.1 y.2) (read log t) (read kept u)
      (is.follows log kept t u near)
      (λ y. more_short joint read is.short (length y.2) (y.0 ∷ []) y.1 y.2)
      (λ y z first second ahead.
      more_follow (length y.2) (length z.2) (y.0 ∷ []) (z.0 ∷ []) y.1 z.1 y.2 z.2 (inl ahead)
      (omega arith) (omega arith))

-- ---- 3. `!` and brackets

part_room : (depth : ℕ) (log : Log) (t : List ℕ) (y : Given) → not_in depth log t ≡ Ok y
    → length y.2 ≤ length t
part_room depth log t y e =
    (parts_read depth).room log y.1 t y.2 y.0 (part_found depth log t y e)

every_room : (depth : ℕ) (log : Log) (t : List ℕ) (y : Given)
    → and_with (not_in depth) log t ≡ Ok y → length y.2 ≤ length t
every_room depth log t y e =
    all_room (not_in depth) (SpellsPart depth) (parts_read depth) log y.1 t y.2 y.0
    (joined_found And (not_in depth) (SpellsPart depth) (part_found depth) log t y e)

module _ (x : ℕ) (a b : List ℕ) where
  every_is : (depth : ℕ) → IsRead x a b (not_in depth) → IsRead x a b (and_with (not_in depth))
  every_is depth is = record {
    short = parts_short And (not_in depth) is.short;
    room = every_room depth;
    follows = parts_follow x a b And (not_in depth) is;
  }

  any_follow : (depth : ℕ) → IsRead x a b (not_in depth) → (log kept : Log) (t u : List ℕ)
      → Near x a b (skipped t) (skipped u)
      → Follow x a b after (or_with (not_in depth) log t) (or_with (not_in depth) kept u)
  unfolding or_with
  any_follow depth is log kept t u near =
      parts_follow x a b Or (and_with (not_in depth)) (every_is depth is) log kept t u near

  closed_follow : (y z : Given) → Ahead x a b (skipped y.2) (skipped z.2)
      → Follow x a b after (closed y) (closed z)
  unfolding closed
  closed_follow y z h =
      by_mark x a b after (closed_by y.0 y.1 (length (skipped y.2)))
      (closed_by z.0 z.1 (length (skipped z.2))) 41 (codes ")") (skipped y.2) (skipped z.2) refl
      (first_of x a b (skipped y.2) (skipped z.2) h)
      (wrong_at x a b after (length (skipped y.2), y.1) (length (skipped z.2), z.1) (skipped y.2)
      (skipped z.2) h refl refl)
      (λ v w less lesser near. goes_near x a b after (y.0, y.1, v) (z.0, z.1, w) near)

  level_follow : (depth : ℕ) → IsRead x a b (not_in depth) → (log kept : Log) (t u : List ℕ)
      → Ahead x a b t u
      → Follow x a b after
      (or_else (strip (codes "!") t) (λ v. on_ok (not_in depth log v) negating)
      (or_else (strip (codes "(") t) (λ v. on_ok (or_with (not_in depth) log v) closed)
      (atom log t)))
      (or_else (strip (codes "!") u) (λ v. on_ok (not_in depth kept v) negating)
      (or_else (strip (codes "(") u) (λ v. on_ok (or_with (not_in depth) kept v) closed)
      (atom kept u)))
  level_follow depth is log kept t u h =
      by_mark x a b after
      (λ o. or_else o (λ v. on_ok (not_in depth log v) negating)
      (or_else (strip (codes "(") t) (λ v. on_ok (or_with (not_in depth) log v) closed)
      (atom log t)))
      (λ o. or_else o (λ v. on_ok (not_in depth kept v) negating)
      (or_else (strip (codes "(") u) (λ v. on_ok (or_with (not_in depth) kept v) closed)
      (atom kept u))) 33 (codes "!") t u refl (first_of x a b t u h)
      (by_mark x a b after
      (λ o. or_else o (λ v. on_ok (or_with (not_in depth) log v) closed) (atom log t))
      (λ o. or_else o (λ v. on_ok (or_with (not_in depth) kept v) closed) (atom kept u)) 40
      (codes "(") t u refl (first_of x a b t u h) (atom_follow x a b log kept t u h)
      (λ v w less lesser near.
      follow_chain x a b after after closed closed (or_with (not_in depth) log v)
      (or_with (not_in depth) kept w)
      (any_follow depth is log kept v w (skipped_near x a b v w near)) closed_short
      (λ y z first second ahead. closed_follow y z ahead)))
      (λ v w less lesser near.
      follow_chain x a b after after negating negating (not_in depth log v) (not_in depth kept w)
      (is.follows log kept v w (skipped_near x a b v w near)) negating_short
      (λ y z first second ahead.
      goes (negated y.0, y.1, y.2) (negated z.0, z.1, z.2) refl refl ahead))

  last_follow : (log kept : Log) (t u : List ℕ) → Ahead x a b t u
      → Follow x a b after
      (or_else (strip (codes "!") t) (λ v. Err (length t, log))
      (or_else (strip (codes "(") t) (λ v. Err (length t, log)) (atom log t)))
      (or_else (strip (codes "!") u) (λ v. Err (length u, kept))
      (or_else (strip (codes "(") u) (λ v. Err (length u, kept)) (atom kept u)))
  last_follow log kept t u h =
      by_mark x a b after
      (λ o. or_else o (λ v. Err (length t, log))
      (or_else (strip (codes "(") t) (λ v. Err (length t, log)) (atom log t)))
      (λ o. or_else o (λ v. Err (length u, kept))
      (or_else (strip (codes "(") u) (λ v. Err (length u, kept)) (atom kept u))) 33 (codes "!") t u
      refl (first_of x a b t u h)
      (by_mark x a b after (λ o. or_else o (λ v. Err (length t, log)) (atom log t))
      (λ o. or_else o (λ v. Err (length u, kept)) (atom kept u)) 40 (codes "(") t u refl
      (first_of x a b t u h) (atom_follow x a b log kept t u h)
      (λ v w less lesser near.
      wrong_at x a b after (length t, log) (length u, kept) t u h refl refl))
      (λ v w less lesser near.
      wrong_at x a b after (length t, log) (length u, kept) t u h refl refl)

  zero_follow : (log kept : Log) (t u : List ℕ) → Near x a b (skipped t) (skipped u)
      → Follow x a b after (not_in zero log t) (not_in zero kept u)
  unfolding not_in
  zero_follow log kept t u (inl h) = last_follow log kept (skipped t) (skipped u) h
  zero_follow log kept t u (inr low) =
      let less = part_short zero log t in past (omega arith)

  suc_follow : (depth : ℕ) → IsRead x a b (not_in depth) → (log kept : Log) (t u : List ℕ)
      → Near x a b (skipped t) (skipped u)
      → Follow x a b after (not_in (suc depth) log t) (not_in (suc depth) kept u)
  unfolding not_in
  suc_follow depth is log kept t u (inl h) =
      level_follow depth is log kept (skipped t) (skipped u) h
  suc_follow depth is log kept t u (inr low) =
      let less = part_short (suc depth) log t in past (omega arith)

  part_is : (depth : ℕ) → IsRead x a b (not_in depth)
  part_is zero = record {
    short = part_short zero;
    room = part_room zero;
    follows = zero_follow;
  }
  part_is (suc depth) = record {
    short = part_short (suc depth);
    room = part_room (suc depth);
    follows = suc_follow depth (part_is depth);
  }

  pub query_follow : (depth : ℕ) (log kept : Log) (t u : List ℕ)
      → Near x a b (skipped t) (skipped u)
      → Follow x a b after (or_with (not_in depth) log t) (or_with (not_in depth) kept u)
  query_follow depth log kept t u near = any_follow depth (part_is depth) log kept t u near
