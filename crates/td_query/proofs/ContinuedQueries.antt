-- How a query that goes wrong at some byte can go on.
use Rattle.std.proofs.Common.{◌≡◌, ℕ, zero, suc, true, List, [], ◌∷◌, ◌++◌, length, Option, Some}
use Rattle.std.proofs.Common.{None, Ok, Err, refl, sym, subst, inl, inr}
use Rattle.std.specs.Prelude.{codes}
use Rattle.td_text.specs.Cut.{strip}
use Rattle.td_text.specs.Lines.{on_ok}
use Rattle.td_text.proofs.Prefix.{strip_found}
use Rattle.td_query.specs.declared.query.Joint.{Joint}
use Rattle.td_query.specs.declared.query.Joint.TheVariants.{And, Or}
use Rattle.td_query.specs.Query.{Shape, always, joined, negated}
use Rattle.td_query.specs.QueryGrammar.{Log, Read, and_with, atom, behind_mark, closed, closed_by}
use Rattle.td_query.specs.QueryGrammar.{mark_of, more, negating, next, not_in, or_else, or_with}
use Rattle.td_query.specs.QueryGrammar.{parts_with}
use Rattle.td_query.specs.QuerySpelling.{EndsWord, Rule, SpellsAll, SpellsAny, SpellsAtom}
use Rattle.td_query.specs.QuerySpelling.{SpellsJoined, SpellsMore, SpellsPart, SpellsQuery, Stands}
use Rattle.td_query.specs.QuerySpelling.{constant}
use Rattle.td_query.specs.Tokens.{skipped}
use Rattle.td_query.proofs.Continued.{Cuts, Moved, chain_fate, cuts_none, prefixed}
use Rattle.td_query.proofs.ContinuedAtoms.{atom_fate}
use Rattle.td_query.proofs.ContinuedCuts.{utf8_after}
use Rattle.td_query.proofs.ContinuedMarks.{Marked, here_stands, line_gap, mark_missing, mark_moved}
use Rattle.td_query.proofs.ContinuedMarks.{stands_again, stands_cut, stands_ends, stands_front}
use Rattle.td_query.proofs.ContinuedWords.{Fine, ReadFate, left_over, logged, true_missing}
use Rattle.td_query.proofs.Gaps.{comes_stands}
use Rattle.td_query.proofs.SpelledAtoms.{Given}
use Rattle.td_query.proofs.SpelledQueries.{mark_stands}

-- ---- 1. chains

-- more parts, each after its mark
abbrev SpellsTail : Joint → Rule → Log → List ℕ → List Shape → Log → List ℕ → Type 0
SpellsTail joint Part log t shapes after rest =
    SpellsMore (mark_of joint) Part shapes log t after rest

-- a part, and then more parts, each after its mark
abbrev SpellsParts : Joint → Rule → Log → List ℕ → Shape × List Shape → Log → List ℕ → Type 0
SpellsParts joint Part log t m after rest = (one : Log) × (v : List ℕ) × Part log t m.0 one v
    × SpellsMore (mark_of joint) Part m.1 one v after rest

mark_ends : (joint : Joint) (t u : List ℕ) → Stands (mark_of joint) t u → EndsWord t
mark_ends And t u h = stands_ends 38 [] t u refl h
mark_ends Or t u h = stands_ends 124 [] t u refl h

mark_cut : (joint : Joint) (t u : List ℕ) (h : Stands (mark_of joint) t u)
    → Cuts (h.gap ++ mark_of joint) u
mark_cut And t u h = stands_cut (codes "&") t u h refl
mark_cut Or t u h = stands_cut (codes "|") t u h refl

module _ (P : List ℕ → Type 0) (joint : Joint) (read : Log → List ℕ → Read) (Part : Rule)
    (fate : (log : Log) (t : List ℕ) → ReadFate P Part log t (read log t)) where
  tail_ends : (log after : Log) (t rest : List ℕ) (shapes : List Shape)
      → SpellsTail joint Part log t shapes after rest → EndsWord rest → EndsWord t
  tail_ends log after t rest [] h ends = subst (λ (l : List ℕ). EndsWord l) h.1 ends
  tail_ends log after t rest (s ∷ shapes) h ends = mark_ends joint t h.0 h.3

  no_tail : (log : Log) (t : List ℕ) → Moved (Fine P) EndsWord (SpellsTail joint Part) log t log t
  no_tail log t = record {
    front = [];
    is = refl;
    cut = cuts_none t;
    before = λ good. good;
    moves = λ good r u ok ends. record {
      meaning = [];
      after = r;
      spelled = (refl, refl);
      good = ok;
    };
  }

  parts_fate_with : (n : ℕ)
      → ((parts : List Shape) (log : Log) (t : List ℕ)
      → ReadFate P (SpellsTail joint Part) log t (more joint read n parts log t))
      → (f : Given → List Shape) (log : Log) (t : List ℕ)
      → ReadFate P (SpellsParts joint Part) log t
      (on_ok (read log t) (λ x. more joint read n (f x) x.1 x.2))
  parts_fate_with n later f log t =
      chain_fate (Fine P) EndsWord EndsWord (Fine P) P Part
      (SpellsTail joint Part) (SpellsParts joint Part)
      (λ s one after t v rest m k p q. ((m, k), (one, v, p, q)))
      tail_ends (λ u. refl) (λ u. u) (λ u h. h)
      (λ s u ok. record { meaning = []; after = s; spelled = (refl, refl); good = ok })
      logged left_over logged left_over log t (read log t) (fate log t)
      (λ x. more joint read n (f x) x.1 x.2) (λ y. later (f y) y.1 y.2)

  next_fate : (n : ℕ)
      → ((parts : List Shape) (log : Log) (t : List ℕ)
      → ReadFate P (SpellsTail joint Part) log t (more joint read n parts log t))
      → (parts : List Shape) (log : Log) (t : List ℕ) (o : Option (List ℕ))
      → behind_mark (mark_of joint) t ≡ o
      → ReadFate P (SpellsTail joint Part) log t (next joint read (more joint read n) parts log t o)
  next_fate n later parts log t None is = no_tail log t
  next_fate n later parts log t (Some u) is =
      let h = mark_stands joint t u is in
      prefixed (Fine P) EndsWord (Fine P) P (SpellsParts joint Part)
      (SpellsTail joint Part) logged left_over (h.gap ++ mark_of joint) t u
      (stands_front (mark_of joint) t u h) (mark_cut joint t u h)
      (λ s after w end m k. (
        m.0 ∷ m.1,
        (w, k.1, k.0, stands_again (mark_of joint) t u h w, k.2, k.3),
      ))
      log (on_ok (read log u) (λ x. more joint read n (parts ++ x.0 ∷ []) x.1 x.2))
      (parts_fate_with n later (λ x. parts ++ x.0 ∷ []) log u)

  more_fate : (n : ℕ) (parts : List Shape) (log : Log) (t : List ℕ)
      → ReadFate P (SpellsTail joint Part) log t (more joint read n parts log t)
  unfolding more
  more_fate zero parts log t = no_tail log t
  more_fate (suc n) parts log t =
      next_fate n (λ p l u. more_fate n p l u) parts log t (behind_mark (mark_of joint) t) refl

-- parts with the mark between them; what is left after the first limits how many there may be
module _ (P : List ℕ → Type 0) (joint : Joint) (read : Log → List ℕ → Read) (Part : Rule)
    (fate : (log : Log) (t : List ℕ) → ReadFate P Part log t (read log t)) where
  some_parts : (log : Log) (t : List ℕ)
      → ReadFate P (SpellsParts joint Part) log t (parts_with joint read log t)
  some_parts log t =
      chain_fate (Fine P) EndsWord EndsWord (Fine P) P Part
      (SpellsTail joint Part) (SpellsParts joint Part)
      (λ s one after t v rest m k p q. ((m, k), (one, v, p, q)))
      (tail_ends P joint read Part fate) (λ u. refl) (λ u. u) (λ u h. h)
      (λ s u ok. record { meaning = []; after = s; spelled = (refl, refl); good = ok })
      logged left_over logged left_over log t (read log t) (fate log t)
      (λ x. more joint read (length x.2) (x.0 ∷ []) x.1 x.2)
      (λ y. more_fate P joint read Part fate (length y.2) (y.0 ∷ []) y.1 y.2)

  joined_fate : (log : Log) (t : List ℕ)
      → ReadFate P (SpellsJoined joint Part) log t (parts_with joint read log t)
  joined_fate log t =
      prefixed (Fine P) EndsWord (Fine P) P (SpellsParts joint Part)
      (SpellsJoined joint Part) logged left_over [] t t refl (cuts_none t)
      (λ s after w end m k. (
        joined joint (m.0 ∷ m.1),
        record {
          first = m.0;
          others = m.1;
          joins = refl;
          one = k.0;
          behind = k.1;
          head = k.2;
          tail = k.3;
        },
      ))
      log (parts_with joint read log t) (some_parts log t)

any_fate : (P : List ℕ → Type 0) (read : Log → List ℕ → Read) (Part : Rule)
    → ((log : Log) (t : List ℕ) → ReadFate P Part log t (read log t)) → (log : Log) (t : List ℕ)
    → ReadFate P (SpellsAny Part) log t (or_with read log t)
unfolding or_with
any_fate P read Part fate log t =
    joined_fate P Or (and_with read) (SpellsAll Part) (joined_fate P And read Part fate) log t

-- ---- 2. `!` and brackets

-- a query, and the bracket that closes it
abbrev SpellsClosed : ℕ → Log → List ℕ → Shape → Log → List ℕ → Type 0
SpellsClosed depth log t s after rest =
    (end : List ℕ) × SpellsAny (SpellsPart depth) log t s after end × Stands (codes ")") end rest

atom_part : (depth : ℕ) (log after : Log) (t rest : List ℕ) (s : Shape)
    → SpellsAtom log t s after rest → SpellsPart depth log t s after rest
unfolding SpellsPart
atom_part zero log after t rest s h = h
atom_part (suc depth) log after t rest s h = inl h

not_part : (depth : ℕ) (log after : Log) (t u rest : List ℕ) (s : Shape) → Stands (codes "!") t u
    → SpellsPart depth log u s after rest → SpellsPart (suc depth) log t (negated s) after rest
unfolding SpellsPart
not_part depth log after t u rest s bang h =
    inr (inl (record {
      behind = u;
      bang = bang;
      inner = s;
      part = h;
      negates = refl;
    }))

brackets_part : (depth : ℕ) (log after : Log) (t u rest : List ℕ) (s : Shape)
    → Stands (codes "(") t u → SpellsClosed depth log u s after rest
    → SpellsPart (suc depth) log t s after rest
unfolding SpellsPart
brackets_part depth log after t u rest s opens h =
    inr (inr (record {
      behind = u;
      opens = opens;
      end = h.0;
      query = h.1;
      closes = h.2;
    }))

module _ (P : List ℕ → Type 0) where
  as_part : (depth : ℕ) (log : Log) (t : List ℕ) (r : Read) → ReadFate P SpellsAtom log t r
      → ReadFate P (SpellsPart depth) log t r
  as_part depth log t r a =
      prefixed (Fine P) EndsWord (Fine P) P SpellsAtom (SpellsPart depth)
      logged left_over [] t t refl (cuts_none t)
      (λ s after w end m k. (m, atom_part depth s after w end m k)) log r a

  closed_by_fate : (s : Shape) (log : Log) (t : List ℕ) (o : Option (List ℕ))
      → strip (codes ")") (skipped t) ≡ o
      → ReadFate P (Marked Log (codes ")")) log t (closed_by s log (length (skipped t)) o)
  closed_by_fate s log t None is =
      mark_missing Log (Fine P) (codes ")") refl (Fine P) P log t log (λ good. good)
  closed_by_fate s log t (Some u) is =
      mark_moved Log (Fine P) (codes ")") refl EndsWord log t u
      (comes_stands 41 [] t u (strip_found (codes ")") (skipped t) u is))

  closed_fate : (y : Given) → ReadFate P (Marked Log (codes ")")) y.1 y.2 (closed y)
  unfolding closed
  closed_fate y = closed_by_fate y.0 y.1 y.2 (strip (codes ")") (skipped y.2)) refl

  negating_fate : (depth : ℕ) (log : Log) (t : List ℕ) (r : Read)
      → ReadFate P (SpellsPart depth) log t r
      → ReadFate P (SpellsPart depth) log t (on_ok r negating)
  negating_fate depth log t (Ok y) a = a
  negating_fate depth log t (Err e) a = a

  module _ (depth : ℕ)
      (fate : (log : Log) (t : List ℕ) → ReadFate P (SpellsPart depth) log t (not_in depth log t))
    where
      bracket_fate : (log : Log) (t : List ℕ)
          → ReadFate P (SpellsClosed depth) log t (on_ok (or_with (not_in depth) log t) closed)
      bracket_fate log t =
          chain_fate (Fine P) EndsWord EndsWord (Fine P) P
          (SpellsAny (SpellsPart depth)) (Marked Log (codes ")")) (SpellsClosed depth)
          (λ s one after t v rest m k p q. (
            m,
            (
              v,
              subst (λ (l : Log). SpellsAny (SpellsPart depth) s t m l v) (sym q.1) p,
              q.0,
            ),
          ))
          (λ s after t rest k q ends. stands_ends 41 [] t rest refl q.0) (λ u. refl)
          (λ u. 41 ∷ 10 ∷ u) (λ u h. utf8_after (41 ∷ 10 ∷ []) u refl h)
          (λ s u ok. record {
            meaning = tt;
            after = s;
            spelled = (record { gap = 10 ∷ []; between = line_gap; spelled = refl }, refl);
            good = ok;
          })
          logged left_over logged left_over log t (or_with (not_in depth) log t)
          (any_fate P (not_in depth) (SpellsPart depth) fate log t) closed closed_fate

      level_fate : (log : Log) (t : List ℕ) (o p : Option (List ℕ))
          → strip (codes "!") (skipped t) ≡ o → strip (codes "(") (skipped t) ≡ p
          → ReadFate P (SpellsPart (suc depth)) log t
          (or_else o (λ u. on_ok (not_in depth log u) negating)
          (or_else p (λ u. on_ok (or_with (not_in depth) log u) closed) (atom log (skipped t))))
      level_fate log t (Some u) p bang opens =
          let h = comes_stands 33 [] t u (strip_found (codes "!") (skipped t) u bang) in
          prefixed (Fine P) EndsWord (Fine P) P (SpellsPart depth)
          (SpellsPart (suc depth)) logged left_over (h.gap ++ codes "!") t u
          (stands_front (codes "!") t u h) (stands_cut (codes "!") t u h refl)
          (λ s after w end m k. (
            negated m,
            not_part depth s after ((h.gap ++ codes "!") ++ w) w end m
                (stands_again (codes "!") t u h w) k,
          ))
          log (on_ok (not_in depth log u) negating)
          (negating_fate depth log u (not_in depth log u) (fate log u))
      level_fate log t None (Some u) bang opens =
          let h = comes_stands 40 [] t u (strip_found (codes "(") (skipped t) u opens) in
          prefixed (Fine P) EndsWord (Fine P) P (SpellsClosed depth)
          (SpellsPart (suc depth)) logged left_over (h.gap ++ codes "(") t u
          (stands_front (codes "(") t u h) (stands_cut (codes "(") t u h refl)
          (λ s after w end m k. (
            m,
            brackets_part depth s after ((h.gap ++ codes "(") ++ w) w end m
                (stands_again (codes "(") t u h w) k,
          ))
          log (on_ok (or_with (not_in depth) log u) closed) (bracket_fate log u)
      level_fate log t None None bang opens =
          as_part (suc depth) log t (atom log (skipped t)) (atom_fate P log t)

  last_fate : (log : Log) (t : List ℕ) (o p : Option (List ℕ))
      → ReadFate P SpellsAtom log t
      (or_else o (λ u. Err (length (skipped t), log))
      (or_else p (λ u. Err (length (skipped t), log)) (atom log (skipped t))))
  last_fate log t (Some u) p = true_missing P log t
  last_fate log t None (Some u) = true_missing P log t
  last_fate log t None None = atom_fate P log t

  part_fate : (depth : ℕ) (log : Log) (t : List ℕ)
      → ReadFate P (SpellsPart depth) log t (not_in depth log t)
  unfolding not_in
  part_fate zero log t =
      as_part zero log t
      (or_else (strip (codes "!") (skipped t)) (λ u. Err (length (skipped t), log))
      (or_else (strip (codes "(") (skipped t)) (λ u. Err (length (skipped t), log))
      (atom log (skipped t))))
      (last_fate log t (strip (codes "!") (skipped t)) (strip (codes "(") (skipped t)))
  part_fate (suc depth) log t =
      level_fate depth (λ l u. part_fate depth l u) log t (strip (codes "!") (skipped t))
      (strip (codes "(") (skipped t)) refl refl

  -- the reading of a query
  pub query_fate : (depth : ℕ) (log : Log) (t : List ℕ)
      → ReadFate P (SpellsQuery depth) log t (or_with (not_in depth) log t)
  query_fate depth log t =
      any_fate P (not_in depth) (SpellsPart depth) (part_fate depth) log t

-- ---- 3. `true` as a query

-- `true` is a query before what ends a word
pub true_query : (depth : ℕ) (log : Log) (rest : List ℕ) → EndsWord rest
    → SpellsQuery depth log (codes "true" ++ rest) (always true) log rest
true_query depth log rest ends = record {
  first = always true;
  others = [];
  joins = refl;
  one = log;
  behind = rest;
  head = record {
    first = always true;
    others = [];
    joins = refl;
    one = log;
    behind = rest;
    head = atom_part depth log log (codes "true" ++ rest) rest (always true)
        (constant true (here_stands (codes "true") rest) ends refl refl);
    tail = (refl, refl);
  };
  tail = (refl, refl);
}
