-- Queries are read as they are spelled.
use Rattle.std.proofs.Common.{◌≡◌, ◌⊎◌, ℕ, zero, suc, ◌≤◌, List}
use Rattle.std.proofs.Common.{[]}
use Rattle.std.proofs.Common.{◌∷◌, ◌++◌, length, Option, Some, None, Ok, Err, refl, sym, ap}
use Rattle.std.proofs.Common.{subst, ◌∙◌, inl, inr, append_assoc, append-nil, arith}
use Rattle.std.specs.Prelude.{codes}
use Rattle.td_text.specs.Cut.{strip}
use Rattle.td_text.specs.Lines.{on_ok}
use Rattle.td_text.proofs.Chain.{on_ok_parts}
use Rattle.td_text.proofs.Prefix.{strip_found}
use Rattle.td_query.specs.declared.query.Joint.{Joint}
use Rattle.td_query.specs.declared.query.Joint.TheVariants.{And, Or}
use Rattle.td_query.specs.Query.{Shape, joined, negated}
use Rattle.td_query.specs.QueryGrammar.{Log, Read, and_with, atom, behind_mark, closed, closed_by}
use Rattle.td_query.specs.QueryGrammar.{mark_of, more, negating, next, not_in, or_else, or_with}
use Rattle.td_query.specs.QueryGrammar.{parts_with}
use Rattle.td_query.specs.QueryRules.{Comes, IsOver}
use Rattle.td_query.specs.QuerySpelling.{Rule, SpellsAll, SpellsAny, SpellsAtom, SpellsBrackets}
use Rattle.td_query.specs.QuerySpelling.{SpellsJoined, SpellsMore, SpellsNot, SpellsPart}
use Rattle.td_query.specs.QuerySpelling.{SpellsQuery, Stands}
use Rattle.td_query.specs.SpellingLaws.{NoMark, PartsAreExact, QueriesAreExact}
use Rattle.td_query.specs.Tokens.{skipped}
use Rattle.td_query.proofs.Gaps.{comes_stands, stands_comes, stands_room}
use Rattle.td_query.proofs.QueryRules.{brackets_are_read, marked, negations_are_read, over}
use Rattle.td_query.proofs.SpelledAtoms.{Given, atom_found, atom_read, atom_room, given}
use Rattle.td_query.proofs.SpelledAtoms.{given_is, none_given, read_as}

-- ---- 1. marks

mark_comes : (joint : Joint) (t u : List ℕ) → Stands (mark_of joint) t u → Comes (mark_of joint) t u
mark_comes And t u h = stands_comes 38 [] t u refl (λ e. omega arith) h
mark_comes Or t u h = stands_comes 124 [] t u refl (λ e. omega arith) h

pub mark_stands : (joint : Joint) (t u : List ℕ) → behind_mark (mark_of joint) t ≡ Some u
    → Stands (mark_of joint) t u
unfolding behind_mark
mark_stands And t u e = comes_stands 38 [] t u (strip_found (codes "&") (skipped t) u e)
mark_stands Or t u e = comes_stands 124 [] t u (strip_found (codes "|") (skipped t) u e)

mark_room : (joint : Joint) (t u : List ℕ) → Stands (mark_of joint) t u → suc (length u) ≤ length t
mark_room And t u h = let room = stands_room (codes "&") t u h in omega arith
mark_room Or t u h = let room = stands_room (codes "|") t u h in omega arith

-- neither mark comes if another byte does
over_at : (x : ℕ) (t u : List ℕ) → skipped t ≡ x ∷ u → strip (codes "&") (x ∷ u) ≡ None
    → strip (codes "|") (x ∷ u) ≡ None → IsOver t
unfolding behind_mark
over_at x t u here a b = (ap (strip (codes "&")) here ∙ a, ap (strip (codes "|")) here ∙ b)

pub over_at_bracket : (t u : List ℕ) → Stands (codes ")") t u → IsOver t
unfolding strip
over_at_bracket t u h = over_at 41 t u (stands_comes 41 [] t u refl (λ e. omega arith) h) refl refl

pub over_at_semicolon : (t u : List ℕ) → Stands (codes ";") t u → IsOver t
unfolding strip
over_at_semicolon t u h =
    over_at 59 t u (stands_comes 59 [] t u refl (λ e. omega arith) h) refl refl

-- ---- 2. chains

-- what comes after parts that `|` joins doesn't go on with an `&`
abbrev Goes : Joint → List ℕ → Type 0
Goes And t = Unit {0}
Goes Or t = behind_mark (codes "&") t ≡ None

goes_at_mark : (joint : Joint) (t u : List ℕ) → Stands (mark_of joint) t u → Goes joint t
unfolding behind_mark strip
goes_at_mark And t u h = tt
goes_at_mark Or t u h = ap (strip (codes "&")) (mark_comes Or t u h)

module _ (joint : Joint) (read : Log → List ℕ → Read) (Part : Rule)
    (reads : (log after : Log) (t rest : List ℕ) (s : Shape) → Part log t s after rest
    → Goes joint rest → read log t ≡ Ok (s, after, rest))
    (room : (log after : Log) (t rest : List ℕ) (s : Shape) → Part log t s after rest
    → length rest ≤ length t) where
  tail_goes : (shapes : List Shape) (log after : Log) (t rest : List ℕ)
      → SpellsMore (mark_of joint) Part shapes log t after rest → Goes joint rest → Goes joint t
  tail_goes [] log after t rest h goes = subst (Goes joint) h.1 goes
  tail_goes (s ∷ shapes) log after t rest h goes = goes_at_mark joint t h.0 h.3

  tail_room : (shapes : List Shape) (log after : Log) (t rest : List ℕ)
      → SpellsMore (mark_of joint) Part shapes log t after rest → length rest ≤ length t
  tail_room [] log after t rest h =
      let same : length rest ≡ length t = ap (λ (l : List ℕ). length l) h.1 in omega arith
  tail_room (s ∷ shapes) log after t rest h =
      let mark = mark_room joint t h.0 h.3 in
      let part = room log h.2 h.0 h.1 s h.4 in
      let later = tail_room shapes h.2 after h.1 rest h.5 in
      omega arith

  tail_read : (n : ℕ) (shapes done : List Shape) (log after : Log) (t rest : List ℕ)
      → SpellsMore (mark_of joint) Part shapes log t after rest → Goes joint rest
      → behind_mark (mark_of joint) rest ≡ None → length t ≤ n
      → more joint read n done log t ≡ Ok (joined joint (done ++ shapes), after, rest)
  unfolding more
  tail_read n [] done log after t rest h goes none short =
      let at : behind_mark (mark_of joint) t ≡ None =
      subst (λ (l : List ℕ). behind_mark (mark_of joint) l ≡ None) h.1 none in
      read_as (more joint read n done log t) (joined joint (done ++ [])) (joined joint done) after
      log t (ap (joined joint) (append-nil done)) h.0 (over joint read n done log t at)
      ∙ ap (λ (l : List ℕ). given (joined joint (done ++ [])) after l) (sym h.1)
  tail_read zero (s ∷ shapes) done log after t rest h goes none short =
      let mark = mark_room joint t h.0 h.3 in absurd (omega arith)
  tail_read (suc n) (s ∷ shapes) done log after t rest h goes none short =
      let mark = mark_room joint t h.0 h.3 in
      let part = room log h.2 h.0 h.1 s h.4 in
      let less : length h.1 ≤ n = omega arith in
      let here = reads log h.2 h.0 h.1 s h.4 (tail_goes shapes h.2 after h.1 rest h.5 goes) in
      ap (next joint read (more joint read n) done log t)
      (marked joint t h.0 (mark_comes joint t h.0 h.3))
      ∙ ap (λ (r : Read). on_ok r (λ x. more joint read n (done ++ x.0 ∷ []) x.1 x.2)) here
      ∙ tail_read n shapes (done ++ s ∷ []) h.2 after h.1 rest h.5 goes none less
      ∙ ap (λ (l : List Shape). given (joined joint l) after rest)
      (append_assoc done (s ∷ []) shapes)

  joined_read : (log after : Log) (t rest : List ℕ) (s : Shape)
      → SpellsJoined joint Part log t s after rest → Goes joint rest
      → behind_mark (mark_of joint) rest ≡ None
      → parts_with joint read log t ≡ Ok (s, after, rest)
  joined_read log after t rest s h goes none =
      read_as (parts_with joint read log t) s (joined joint (h.first ∷ h.others)) after after rest
      h.joins refl
      (ap (λ (r : Read). on_ok r (λ x. more joint read (length x.2) (x.0 ∷ []) x.1 x.2))
      (reads log h.one t h.behind h.first h.head
      (tail_goes h.others h.one after h.behind rest h.tail goes))
      ∙ tail_read (length h.behind) h.others (h.first ∷ []) h.one after h.behind rest h.tail goes
      none (omega arith))

  joined_room : (log after : Log) (t rest : List ℕ) (s : Shape)
      → SpellsJoined joint Part log t s after rest → length rest ≤ length t
  joined_room log after t rest s h =
      let head = room log h.one t h.behind h.first h.head in
      let tail = tail_room h.others h.one after h.behind rest h.tail in
      omega arith

-- ---- 3. what is spelled is read

-- what a rule spells is read, and leaves no more than there was
pub record AreRead (read : Log → List ℕ → Read) (Part : Rule) : Type 0 where
  pub reads : (log after : Log) (t rest : List ℕ) (s : Shape) → Part log t s after rest
      → read log t ≡ Ok (s, after, rest)
  pub room : (log after : Log) (t rest : List ℕ) (s : Shape) → Part log t s after rest
      → length rest ≤ length t

module _ (read : Log → List ℕ → Read) (Part : Rule) (h : AreRead read Part) where
  all_read : (log after : Log) (t rest : List ℕ) (s : Shape)
      → SpellsAll Part log t s after rest → behind_mark (codes "&") rest ≡ None
      → and_with read log t ≡ Ok (s, after, rest)
  all_read log after t rest s spelled none =
      joined_read And read Part (λ log after t rest s part goes. h.reads log after t rest s part)
      h.room log after t rest s spelled tt none

  pub all_room : (log after : Log) (t rest : List ℕ) (s : Shape)
      → SpellsAll Part log t s after rest → length rest ≤ length t
  all_room log after t rest s spelled =
      joined_room And read Part (λ log after t rest s part goes. h.reads log after t rest s part)
      h.room log after t rest s spelled

  any_read : (log after : Log) (t rest : List ℕ) (s : Shape)
      → SpellsAny Part log t s after rest → IsOver rest
      → or_with read log t ≡ Ok (s, after, rest)
  unfolding or_with
  any_read log after t rest s spelled end =
      joined_read Or (and_with read) (SpellsAll Part) all_read all_room log after t rest s spelled
      end.0 end.1

  any_room : (log after : Log) (t rest : List ℕ) (s : Shape)
      → SpellsAny Part log t s after rest → length rest ≤ length t
  any_room log after t rest s spelled =
      joined_room Or (and_with read) (SpellsAll Part) all_read all_room log after t rest s spelled

-- a part with one bracket or `!` more left to open
abbrev pub Level : ℕ → Log → List ℕ → Shape → Log → List ℕ → Type 0
Level depth log t s after rest = SpellsAtom log t s after rest
    ⊎ (SpellsNot (SpellsPart depth) log t s after rest
    ⊎ SpellsBrackets (SpellsPart depth) log t s after rest)

module _ (depth : ℕ) (h : AreRead (not_in depth) (SpellsPart depth)) where
  level_read : (log after : Log) (t rest : List ℕ) (s : Shape) → Level depth log t s after rest
      → not_in (suc depth) log t ≡ Ok (s, after, rest)
  level_read log after t rest s (inl it) = atom_read (suc depth) log after t rest s it
  level_read log after t rest s (inr (inl it)) =
      read_as (not_in (suc depth) log t) s (negated it.inner) after after rest it.negates refl
      (negations_are_read depth log after t it.behind rest it.inner
      (stands_comes 33 [] t it.behind refl (λ e. omega arith) it.bang)
      (h.reads log after it.behind rest it.inner it.part))
  level_read log after t rest s (inr (inr it)) =
      brackets_are_read depth log after t it.behind it.end rest s
      (stands_comes 40 [] t it.behind refl (λ e. omega arith) it.opens)
      (any_read (not_in depth) (SpellsPart depth) h log after it.behind it.end s it.query
      (over_at_bracket it.end rest it.closes))
      (stands_comes 41 [] it.end rest refl (λ e. omega arith) it.closes)

  level_room : (log after : Log) (t rest : List ℕ) (s : Shape) → Level depth log t s after rest
      → length rest ≤ length t
  level_room log after t rest s (inl it) = atom_room log after t rest s it
  level_room log after t rest s (inr (inl it)) =
      let bang = stands_room (codes "!") t it.behind it.bang in
      let part = h.room log after it.behind rest it.inner it.part in
      omega arith
  level_room log after t rest s (inr (inr it)) =
      let opens = stands_room (codes "(") t it.behind it.opens in
      let query = any_room (not_in depth) (SpellsPart depth) h log after it.behind it.end s
      it.query in
      let closes = stands_room (codes ")") it.end rest it.closes in
      omega arith

pub parts_read : (depth : ℕ) → AreRead (not_in depth) (SpellsPart depth)
unfolding SpellsPart
parts_read zero = record {
  reads = λ log after t rest s it. atom_read zero log after t rest s it;
  room = λ log after t rest s it. atom_room log after t rest s it;
}
parts_read (suc depth) = record {
  reads = λ log after t rest s it. level_read depth (parts_read depth) log after t rest s it;
  room = λ log after t rest s it. level_room depth (parts_read depth) log after t rest s it;
}

pub query_read : (depth : ℕ) (log after : Log) (t rest : List ℕ) (s : Shape)
    → SpellsQuery depth log t s after rest → IsOver rest
    → or_with (not_in depth) log t ≡ Ok (s, after, rest)
query_read depth log after t rest s spelled end =
    any_read (not_in depth) (SpellsPart depth) (parts_read depth) log after t rest s spelled end

pub query_room : (depth : ℕ) (log after : Log) (t rest : List ℕ) (s : Shape)
    → SpellsQuery depth log t s after rest → length rest ≤ length t
query_room depth log after t rest s spelled =
    any_room (not_in depth) (SpellsPart depth) (parts_read depth) log after t rest s spelled

-- ---- 4. what is read is spelled

-- what was read so far, and what is read after it
pub record IsTail (joint : Joint) (Part : Rule) (done : List Shape) (log : Log) (t : List ℕ)
    (y : Given) : Type 0 where
  pub shapes : List Shape
  pub joins : y.0 ≡ joined joint (done ++ shapes)
  pub spelled : SpellsMore (mark_of joint) Part shapes log t y.1 y.2

module _ (joint : Joint) (read : Log → List ℕ → Read) (Part : Rule)
    (found : (log : Log) (t : List ℕ) (y : Given) → read log t ≡ Ok y → Part log t y.0 y.1 y.2)
  where
    tail_none : (done : List Shape) (log : Log) (t : List ℕ) (y : Given)
        → ◌≡◌ {A = Read} (Ok (joined joint done, log, t)) (Ok y) → IsTail joint Part done log t y
    tail_none done log t y e =
        let same = given_is (joined joint done, log, t) y e in
        subst (λ (x : Given). IsTail joint Part done log t x) same (record {
          shapes = [];
          joins = ap (joined joint) (sym (append-nil done));
          spelled = (refl, refl);
        })

    tail_more : (n : ℕ) (done : List Shape) (log : Log) (t : List ℕ) (y : Given)
        → ((done : List Shape) (log : Log) (t : List ℕ) → more joint read n done log t ≡ Ok y
        → IsTail joint Part done log t y)
        → (o : Option (List ℕ)) → behind_mark (mark_of joint) t ≡ o
        → next joint read (more joint read n) done log t o ≡ Ok y → IsTail joint Part done log t y
    tail_more n done log t y later None is e = tail_none done log t y e
    tail_more n done log t y later (Some u) is e =
        let p = on_ok_parts (read log u) (λ x. more joint read n (done ++ x.0 ∷ []) x.1 x.2) y e in
        let tail = later (done ++ p.0.0 ∷ []) p.0.1 p.0.2 p.2 in
        record {
          shapes = p.0.0 ∷ tail.shapes;
          joins = tail.joins
              ∙ ap (joined joint) (append_assoc done (p.0.0 ∷ []) tail.shapes);
          spelled = (
            u,
            p.0.2,
            p.0.1,
            mark_stands joint t u is,
            found log u p.0 p.1,
            tail.spelled,
          );
        }

    tail_found : (n : ℕ) (done : List Shape) (log : Log) (t : List ℕ) (y : Given)
        → more joint read n done log t ≡ Ok y → IsTail joint Part done log t y
    unfolding more
    tail_found zero done log t y e = tail_none done log t y e
    tail_found (suc n) done log t y e =
        tail_more n done log t y (λ d l u k. tail_found n d l u y k)
        (behind_mark (mark_of joint) t) refl e

    pub joined_found : (log : Log) (t : List ℕ) (y : Given) → parts_with joint read log t ≡ Ok y
        → SpellsJoined joint Part log t y.0 y.1 y.2
    joined_found log t y e =
        let p =
        on_ok_parts (read log t) (λ x. more joint read (length x.2) (x.0 ∷ []) x.1 x.2) y e in
        let tail = tail_found (length p.0.2) (p.0.0 ∷ []) p.0.1 p.0.2 y p.2 in
        record {
          first = p.0.0;
          others = tail.shapes;
          joins = tail.joins;
          one = p.0.1;
          behind = p.0.2;
          head = found log t p.0 p.1;
          tail = tail.spelled;
        }

any_found : (read : Log → List ℕ → Read) (Part : Rule)
    → ((log : Log) (t : List ℕ) (y : Given) → read log t ≡ Ok y → Part log t y.0 y.1 y.2)
    → (log : Log) (t : List ℕ) (y : Given) → or_with read log t ≡ Ok y
    → SpellsAny Part log t y.0 y.1 y.2
unfolding or_with
any_found read Part found log t y e =
    joined_found Or (and_with read) (SpellsAll Part) (joined_found And read Part found) log t y e

module _ (depth : ℕ) (found : (log : Log) (t : List ℕ) (y : Given) → not_in depth log t ≡ Ok y
    → SpellsPart depth log t y.0 y.1 y.2) (log : Log) (t : List ℕ) (y : Given) where
  not_found : (u : List ℕ) → skipped t ≡ codes "!" ++ u
      → on_ok (not_in depth log u) negating ≡ Ok y
      → SpellsNot (SpellsPart depth) log t y.0 y.1 y.2
  not_found u here e =
      let p = on_ok_parts (not_in depth log u) negating y e in
      let same = given_is (negated p.0.0, p.0.1, p.0.2) y p.2 in
      subst (λ (x : Given). SpellsNot (SpellsPart depth) log t x.0 x.1 x.2) same (record {
        behind = u;
        bang = comes_stands 33 [] t u here;
        inner = p.0.0;
        part = found log u p.0 p.1;
        negates = refl;
      })

  closed_found : (u : List ℕ) → skipped t ≡ codes "(" ++ u → (x : Given)
      → SpellsAny (SpellsPart depth) log u x.0 x.1 x.2 → (o : Option (List ℕ))
      → strip (codes ")") (skipped x.2) ≡ o
      → closed_by x.0 x.1 (length (skipped x.2)) o ≡ Ok y
      → SpellsBrackets (SpellsPart depth) log t y.0 y.1 y.2
  closed_found u here x query None is e =
      absurd (none_given (length (skipped x.2), x.1) y e)
  closed_found u here x query (Some v) is e =
      let same = given_is (x.0, x.1, v) y e in
      subst (λ (z : Given). SpellsBrackets (SpellsPart depth) log t z.0 z.1 z.2) same (record {
        behind = u;
        opens = comes_stands 40 [] t u here;
        end = x.2;
        query = query;
        closes = comes_stands 41 [] x.2 v (strip_found (codes ")") (skipped x.2) v is);
      })

  brackets_found : (u : List ℕ) → skipped t ≡ codes "(" ++ u
      → on_ok (or_with (not_in depth) log u) closed ≡ Ok y
      → SpellsBrackets (SpellsPart depth) log t y.0 y.1 y.2
  unfolding closed
  brackets_found u here e =
      let p = on_ok_parts (or_with (not_in depth) log u) closed y e in
      closed_found u here p.0 (any_found (not_in depth) (SpellsPart depth) found log u p.0 p.1)
      (strip (codes ")") (skipped p.0.2)) refl p.2

  level_found : (o p : Option (List ℕ)) → strip (codes "!") (skipped t) ≡ o
      → strip (codes "(") (skipped t) ≡ p
      → ◌≡◌ {A = Read} (or_else o (λ u. on_ok (not_in depth log u) negating)
      (or_else p (λ u. on_ok (or_with (not_in depth) log u) closed) (atom log (skipped t)))) (Ok y)
      → Level depth log t y.0 y.1 y.2
  level_found (Some u) p bang opens e =
      inr (inl (not_found u (strip_found (codes "!") (skipped t) u bang) e))
  level_found None (Some u) bang opens e =
      inr (inr (brackets_found u (strip_found (codes "(") (skipped t) u opens) e))
  level_found None None bang opens e = inl (atom_found log t y e)

last_level : (log : Log) (t : List ℕ) (y : Given) (o p : Option (List ℕ))
    → ◌≡◌ {A = Read} (or_else o (λ u. Err (length (skipped t), log))
    (or_else p (λ u. Err (length (skipped t), log)) (atom log (skipped t)))) (Ok y)
    → SpellsAtom log t y.0 y.1 y.2
last_level log t y (Some u) p e = absurd (none_given (length (skipped t), log) y e)
last_level log t y None (Some u) e = absurd (none_given (length (skipped t), log) y e)
last_level log t y None None e = atom_found log t y e

pub part_found : (depth : ℕ) (log : Log) (t : List ℕ) (y : Given) → not_in depth log t ≡ Ok y
    → SpellsPart depth log t y.0 y.1 y.2
unfolding not_in SpellsPart
part_found zero log t y e =
    last_level log t y (strip (codes "!") (skipped t)) (strip (codes "(") (skipped t)) e
part_found (suc depth) log t y e =
    level_found depth (λ l u z k. part_found depth l u z k) log t y
    (strip (codes "!") (skipped t)) (strip (codes "(") (skipped t)) refl refl e

pub query_found : (depth : ℕ) (log : Log) (t : List ℕ) (y : Given)
    → or_with (not_in depth) log t ≡ Ok y → SpellsQuery depth log t y.0 y.1 y.2
query_found depth log t y e =
    any_found (not_in depth) (SpellsPart depth) (part_found depth) log t y e

-- ---- 5. both ways

pub parts_are_exact : PartsAreExact
parts_are_exact depth log after t rest s = (
  λ e. part_found depth log t (s, after, rest) e,
  λ h. (parts_read depth).reads log after t rest s h,
)

no_mark : (joint : Joint) (t : List ℕ)
    → ((rest : List ℕ) → Stands (mark_of joint) t rest → ⊥) → behind_mark (mark_of joint) t ≡ None
no_mark joint t none = by (behind_mark (mark_of joint) t) refl
  where
    by : (o : Option (List ℕ)) → behind_mark (mark_of joint) t ≡ o → o ≡ None
    by None is = refl
    by (Some u) is = absurd (none u (mark_stands joint t u is))

pub is_over : (t : List ℕ) → NoMark t → IsOver t
is_over t h = (no_mark And t h.no_and, no_mark Or t h.no_or)

pub queries_are_exact : QueriesAreExact
queries_are_exact depth log after t rest s end = (
  λ e. query_found depth log t (s, after, rest) e,
  λ h. query_read depth log after t rest s h (is_over rest end),
)
