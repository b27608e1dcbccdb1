-- What is read of a query begins with an atom.
use Rattle.std.proofs.Common.{◌≡◌, ◌⊎◌, ℕ, zero, suc, List, Option, None, Some, Result, Ok, Err}
use Rattle.std.proofs.Common.{refl, sym, subst, inl, inr}
use Rattle.std.specs.Prelude.{IsOk, IsSome, IsTrue, codes, length}
use Rattle.std.proofs.lemmas.Bool.{false≢true}
use Rattle.td_text.specs.Cut.{strip}
use Rattle.td_text.specs.Lines.{on_ok}
use Rattle.td_text.proofs.Prefix.{strip_found}
use Rattle.td_query.specs.declared.query.Joint.{Joint}
use Rattle.td_query.specs.declared.query.Joint.TheVariants.{And, Or}
use Rattle.td_query.specs.QueryGrammar.{Log, Read, and_with, atom, closed, negating, not_in}
use Rattle.td_query.specs.QueryGrammar.{or_else}
use Rattle.td_query.specs.QueryGrammar.{or_with, part_at, quoted, slash_atom, slashed, tested}
use Rattle.td_query.specs.QueryGrammar.{tilde_atom, tilded}
use Rattle.td_query.specs.QueryRules.{Comes}
use Rattle.td_query.specs.Tokens.{pattern_in, skipped}
use Rattle.td_query.specs.WantOfMemory.{IsAtom, IsBegun, reads_pattern}

-- ---- 1. what goes on was read

first_ok : {A B F : Type 0} (r : Result A F) (f : A → Result B F) → IsOk (on_ok r f) → IsOk r
first_ok (Ok x) f h = refl
first_ok (Err e) f h = absurd (false≢true h)

pub pattern_ok : (r : Read) → IsTrue (reads_pattern r) → IsOk r
pattern_ok (Ok x) h = refl
pattern_ok (Err e) h = absurd (false≢true h)

whole_ok : (read : Log → List ℕ → Read) (log : Log) (t : List ℕ) → IsOk (or_with read log t)
    → IsOk (read log t)
unfolding or_with
whole_ok read log t h = first_ok (read log t) _ (first_ok (and_with read log t) _ h)

-- ---- 2. an atom

closed_pattern : (log : Log) (field : List ℕ) (left : ℕ) (o : Option (List ℕ × List ℕ)) → IsSome o
    → IsTrue (reads_pattern (slash_atom log field left o))
unfolding slash_atom
closed_pattern log field left None h = absurd (false≢true h)
closed_pattern log field left (Some p) h = refl

-- a pattern is read after a field's name if a `~` comes, and then a pattern that is closed
pub tilde_pattern : (log : Log) (field t u w : List ℕ) → strip (codes "~") (skipped t) ≡ Some u
    → strip (codes "\"") (skipped u) ≡ None → strip (codes "/") (skipped u) ≡ Some w
    → IsSome (pattern_in w) → IsTrue (reads_pattern (tilde_atom log field t))
unfolding tilde_atom tested
tilde_pattern log field t u w tilde quote slash closes =
    let left : ℕ = length (skipped u) in
    let behind_quote : IsTrue (reads_pattern (slashed log field left
    (strip (codes "/") (skipped u)))) =
    subst (λ (o : Option (List ℕ)). IsTrue (reads_pattern (slashed log field left o))) (sym slash)
    (closed_pattern log field left (pattern_in w) closes) in
    let behind_tilde : IsTrue (reads_pattern (quoted log field (skipped u)
    (strip (codes "\"") (skipped u)))) =
    subst (λ (o : Option (List ℕ)). IsTrue (reads_pattern (quoted log field (skipped u) o)))
    (sym quote) behind_quote in
    subst (λ (o : Option (List ℕ)).
    IsTrue (reads_pattern (tilded log field (length (skipped t)) o)))
    (sym tilde) behind_tilde

-- ---- 3. a part

pub atom_begun : (depth : ℕ) (log : Log) (t : List ℕ) → IsOk (atom log (skipped t))
    → IsBegun depth t
unfolding IsBegun
atom_begun zero log t h = (log, h)
atom_begun (suc depth) log t h = inl (log, h)

-- a `!` or a `(`, and the beginning of a query after it, are the beginning of a query
pub opened_begun : (depth less : ℕ) (t u : List ℕ) → depth ≡ suc less
    → Comes (codes "!") t u ⊎ Comes (codes "(") t u → IsBegun less u → IsBegun depth t
unfolding IsBegun
opened_begun depth less t u is opens begun =
    let more : IsBegun (suc less) t = inr (u, opens, begun) in
    subst (λ (d : ℕ). IsBegun d t) (sym is) more

-- with no bracket or `!` left to open, what is read begins with an atom
at_last : (log : Log) (t : List ℕ) (o p : Option (List ℕ))
    → IsOk (or_else o (λ u. Err (length (skipped t), log))
    (or_else p (λ u. Err (length (skipped t), log)) (atom log (skipped t)))) → IsAtom t
at_last log t (Some u) p h = absurd (false≢true h)
at_last log t None (Some u) h = absurd (false≢true h)
at_last log t None None h = (log, h)

-- with some bracket or `!` left to open, what is read begins as `IsBegun` says
at_front : (depth : ℕ) → ((log : Log) (t : List ℕ) → IsOk (not_in depth log t) → IsBegun depth t)
    → (log : Log) (t : List ℕ) (o p : Option (List ℕ)) → strip (codes "!") (skipped t) ≡ o
    → strip (codes "(") (skipped t) ≡ p
    → IsOk (or_else o (λ u. on_ok (not_in depth log u) negating)
    (or_else p (λ u. on_ok (or_with (not_in depth) log u) closed) (atom log (skipped t))))
    → IsBegun (suc depth) t
unfolding IsBegun
at_front depth less log t (Some u) p bang bracket h =
    inr (
      u,
      inl (strip_found (codes "!") (skipped t) u bang),
      less log u (first_ok (not_in depth log u) negating h),
    )
at_front depth less log t None (Some u) bang bracket h =
    inr (
      u,
      inr (strip_found (codes "(") (skipped t) u bracket),
      less log u (whole_ok (not_in depth) log u
          (first_ok (or_with (not_in depth) log u) closed h)),
    )
at_front depth less log t None None bang bracket h = inl (log, h)

part_begun : (depth : ℕ) (log : Log) (t : List ℕ) → IsOk (not_in depth log t) → IsBegun depth t
unfolding not_in IsBegun
part_begun zero log t h =
    at_last log t (strip (codes "!") (skipped t)) (strip (codes "(") (skipped t)) h
part_begun (suc depth) log t h =
    at_front depth (λ l u g. part_begun depth l u g) log t (strip (codes "!") (skipped t))
    (strip (codes "(") (skipped t)) refl refl h

-- ---- 4. what a mark joins

pub joined_begun : (joint : Joint) (depth : ℕ) (log : Log) (t : List ℕ)
    → IsOk (part_at joint depth log t) → IsBegun depth t
joined_begun And depth log t h = part_begun depth log t h
joined_begun Or depth log t h = part_begun depth log t (first_ok (not_in depth log t) _ h)
