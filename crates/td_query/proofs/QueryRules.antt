-- The rules of queries.
use Rattle.std.proofs.Common.{◌≡◌, ℕ, zero, suc, ◌≤◌, Bool, true, false, not, eqb, List, [], ◌∷◌}
use Rattle.std.proofs.Common.{◌++◌}
use Rattle.std.proofs.Common.{length, Some, None, Ok, refl, ap, ◌∙◌, arith}
use Rattle.std.specs.Prelude.{codes, if◌then◌else◌, is_ok}
use Rattle.std.proofs.lemmas.Bool.{false≢true}
use Rattle.td_text.specs.Cut.{strip}
use Rattle.td_text.specs.Lines.{on_ok}
use Rattle.td_text.specs.Runs.{is_space}
use Rattle.td_query.specs.declared.query.Joint.{Joint}
use Rattle.td_query.specs.declared.query.Joint.TheVariants.{And, Or}
use Rattle.td_query.specs.Query.{Shape, joined, both, negated}
use Rattle.td_query.specs.QueryGrammar.{Log, Read, and_with, atom, behind_mark, closed, closed_by}
use Rattle.td_query.specs.QueryGrammar.{mark_of, more, negating, next, not_in, or_else}
use Rattle.td_query.specs.QueryGrammar.{or_with, parts_with, word_atom}
use Rattle.td_query.specs.QueryRules.{AndBindsBeforeOr, AndBindsBehindOr, BracketsAreRead, Comes}
use Rattle.td_query.specs.QueryRules.{ConjunctionsAreRead, DisjunctionsAreRead}
use Rattle.td_query.specs.QueryRules.{LongConjunctionsAreRead, LongDisjunctionsAreRead}
use Rattle.td_query.specs.QueryRules.{NegationsAreRead, NotBindsBeforeAnd, NotBindsBeforeOr}
use Rattle.td_query.specs.QueryRules.{PartsAreRead}
use Rattle.td_query.specs.Tokens.{skipped, skipped_in}

-- ---- marks

-- the other mark
abbrev other : Joint → Joint
other And = Or
other Or = And

pub marked : (joint : Joint) (t u : List ℕ) → Comes (mark_of joint) t u
    → behind_mark (mark_of joint) t ≡ Some u
unfolding behind_mark strip
marked And t u h = ap (strip (codes "&")) h
marked Or t u h = ap (strip (codes "|")) h

unmarked : (joint : Joint) (t u : List ℕ) → Comes (mark_of joint) t u
    → behind_mark (mark_of (other joint)) t ≡ None
unfolding behind_mark strip
unmarked And t u h = ap (strip (codes "|")) h
unmarked Or t u h = ap (strip (codes "&")) h

none_marked : (joint : Joint) (u : List ℕ) → behind_mark (mark_of joint) [] ≡ Some u → ⊥
unfolding behind_mark strip skipped_in
none_marked And u e = let bad : None ≡ Some u = e in cc
none_marked Or u e = let bad : None ≡ Some u = e in cc

-- ---- parts with a mark between them

module _ (joint : Joint) (read : Log → List ℕ → Read) where
  pub over : (n : ℕ) (parts : List Shape) (log : Log) (t : List ℕ)
      → behind_mark (mark_of joint) t ≡ None
      → more joint read n parts log t ≡ Ok (joined joint parts, log, t)
  unfolding more
  over zero parts log t h = refl
  over (suc n) parts log t h = ap (next joint read (more joint read n) parts log t) h

  one_part : (log after : Log) (t rest : List ℕ) (s : Shape) → read log t ≡ Ok (s, after, rest)
      → behind_mark (mark_of joint) rest ≡ None
      → parts_with joint read log t ≡ Ok (joined joint (s ∷ []), after, rest)
  one_part log after t rest s h none =
      ap (λ (r : Read). on_ok r (λ x. more joint read (length x.2) (x.0 ∷ []) x.1 x.2)) h
      ∙ over (length rest) (s ∷ []) after rest none

  with_next : (n : ℕ) (a b : Shape) (one two : Log) (u v rest : List ℕ)
      → behind_mark (mark_of joint) u ≡ Some v → read one v ≡ Ok (b, two, rest)
      → behind_mark (mark_of joint) rest ≡ None
      → more joint read (suc n) (a ∷ []) one u ≡ Ok (joined joint (a ∷ b ∷ []), two, rest)
  unfolding more
  with_next n a b one two u v rest is h none =
      ap (next joint read (more joint read n) (a ∷ []) one u) is
      ∙ ap (λ (r : Read). on_ok r (λ x. more joint read n ((a ∷ []) ++ x.0 ∷ []) x.1 x.2)) h
      ∙ over n (a ∷ b ∷ []) two rest none

  behind_one : (a b : Shape) (one two : Log) (u v rest : List ℕ)
      → behind_mark (mark_of joint) u ≡ Some v → read one v ≡ Ok (b, two, rest)
      → behind_mark (mark_of joint) rest ≡ None
      → more joint read (length u) (a ∷ []) one u ≡ Ok (joined joint (a ∷ b ∷ []), two, rest)
  behind_one a b one two [] v rest is h none = absurd (none_marked joint v is)
  behind_one a b one two (x ∷ u) v rest is h none =
      with_next (length u) a b one two (x ∷ u) v rest is h none

  two_parts : (log one two : Log) (t u v rest : List ℕ) (a b : Shape) → read log t ≡ Ok (a, one, u)
      → behind_mark (mark_of joint) u ≡ Some v → read one v ≡ Ok (b, two, rest)
      → behind_mark (mark_of joint) rest ≡ None
      → parts_with joint read log t ≡ Ok (joined joint (a ∷ b ∷ []), two, rest)
  two_parts log one two t u v rest a b first is second none =
      ap (λ (r : Read). on_ok r (λ x. more joint read (length x.2) (x.0 ∷ []) x.1 x.2)) first
      ∙ behind_one a b one two u v rest is second none

-- ---- the rules

pub negations_are_read : NegationsAreRead
unfolding not_in strip
negations_are_read depth log after t u rest s here h =
    ap (λ (at : List ℕ).
    or_else (strip (codes "!") at) (λ w. on_ok (not_in depth log w) negating)
    (or_else (strip (codes "(") at) (λ w. on_ok (or_with (not_in depth) log w) closed)
    (atom log at))) here
    ∙ ap (λ (r : Read). on_ok r negating) h

closes : (s : Shape) (log : Log) (t rest : List ℕ) → Comes (codes ")") t rest
    → closed (s, log, t) ≡ Ok (s, log, rest)
unfolding closed strip
closes s log t rest h =
    ap (λ (at : List ℕ). closed_by s log (length at) (strip (codes ")") at)) h

pub brackets_are_read : BracketsAreRead
unfolding not_in strip
brackets_are_read depth log after t u v rest s here h there =
    ap (λ (at : List ℕ).
    or_else (strip (codes "!") at) (λ w. on_ok (not_in depth log w) negating)
    (or_else (strip (codes "(") at) (λ w. on_ok (or_with (not_in depth) log w) closed)
    (atom log at))) here
    ∙ ap (λ (r : Read). on_ok r closed) h ∙ closes s after v rest there

pub parts_are_read : PartsAreRead
unfolding or_with
parts_are_read depth log after t rest s h end =
    one_part Or (and_with (not_in depth)) log after t rest s
    (one_part And (not_in depth) log after t rest s h end.0) end.1

pub conjunctions_are_read : ConjunctionsAreRead
unfolding or_with
conjunctions_are_read depth log one two t u v rest a b first is second end =
    one_part Or (and_with (not_in depth)) log two t rest (both a b)
    (two_parts And (not_in depth) log one two t u v rest a b first (marked And u v is) second end.0)
    end.1

pub disjunctions_are_read : DisjunctionsAreRead
unfolding or_with
disjunctions_are_read depth log one two t u v rest a b first is second end =
    two_parts Or (and_with (not_in depth)) log one two t u v rest a b
    (one_part And (not_in depth) log one t u a first (unmarked Or u v is)) (marked Or u v is)
    (one_part And (not_in depth) one two v rest b second end.0) end.1

pub and_binds_before_or : AndBindsBeforeOr
unfolding or_with
and_binds_before_or depth log one two three t u v w x rest a b c first is second or third end =
    two_parts Or (and_with (not_in depth)) log two three t w x rest (both a b) c
    (two_parts And (not_in depth) log one two t u v w a b first (marked And u v is) second
    (unmarked Or w x or)) (marked Or w x or)
    (one_part And (not_in depth) two three x rest c third end.0) end.1

pub and_binds_behind_or : AndBindsBehindOr
unfolding or_with
and_binds_behind_or depth log one two three t u v w x rest a b c first or second is third end =
    two_parts Or (and_with (not_in depth)) log one three t u v rest a (both b c)
    (one_part And (not_in depth) log one t u a first (unmarked Or u v or)) (marked Or u v or)
    (two_parts And (not_in depth) one two three v w x rest b c second (marked And w x is) third
    end.0) end.1

-- ---- three parts

if_short : (b : Bool) (u v : List ℕ) (n : ℕ) → length u ≤ n → length v ≤ n
    → length (if b then u else v) ≤ n
if_short true u v n p q = p
if_short false u v n p q = q

pub skipped_short : (comment : Bool) (t : List ℕ) → length (skipped_in comment t) ≤ length t
unfolding skipped_in
skipped_short true [] = omega arith
skipped_short false [] = omega arith
skipped_short true (x ∷ t) =
    let h : length (skipped_in (not (eqb x 10)) t) ≤ length t = skipped_short (not (eqb x 10)) t in
    omega arith
skipped_short false (x ∷ t) =
    let plain : length (skipped_in false t) ≤ length t = skipped_short false t in
    let behind : length (skipped_in true t) ≤ length t = skipped_short true t in
    if_short (is_space x) (skipped_in false t) (if eqb x 35 then skipped_in true t else x ∷ t)
    (suc (length t)) (omega arith)
    (if_short (eqb x 35) (skipped_in true t) (x ∷ t) (suc (length t)) (omega arith) (omega arith))

-- no part is read of an empty text
nothing_read : (depth : ℕ) (log after : Log) (s : Shape) (rest : List ℕ)
    → not_in depth log [] ≡ Ok (s, after, rest) → ⊥
unfolding not_in atom word_atom strip skipped_in
nothing_read zero log after s rest h = false≢true (ap (λ (r : Read). is_ok r) h)
nothing_read (suc depth) log after s rest h = false≢true (ap (λ (r : Read). is_ok r) h)

-- a mark and a part after it have two bytes at least
mark_and_part : (mark : ℕ) (depth : ℕ) (log after : Log) (t u rest : List ℕ) (s : Shape)
    → Comes (mark ∷ []) t u → not_in depth log u ≡ Ok (s, after, rest) → 2 ≤ length t
mark_and_part mark depth log after t [] rest s here h =
    absurd (nothing_read depth log after s rest h)
mark_and_part mark depth log after t (x ∷ u) rest s here h =
    let short : length (skipped t) ≤ length t = skipped_short false t in
    let all : length (skipped t) ≡ suc (suc (length u)) = ap length here in
    omega arith

module _ (joint : Joint) (read : Log → List ℕ → Read) (log one two three : Log)
    (t u v w x rest : List ℕ) (a b c : Shape) (first : read log t ≡ Ok (a, one, u))
    (here : behind_mark (mark_of joint) u ≡ Some v) (second : read one v ≡ Ok (b, two, w))
    (there : behind_mark (mark_of joint) w ≡ Some x) (third : read two x ≡ Ok (c, three, rest))
    (none : behind_mark (mark_of joint) rest ≡ None) where
  with_third : (n : ℕ) → more joint read (suc n) (a ∷ b ∷ []) two w
      ≡ Ok (joined joint (a ∷ b ∷ c ∷ []), three, rest)
  unfolding more
  with_third n =
      ap (next joint read (more joint read n) (a ∷ b ∷ []) two w) there
      ∙ ap (λ (r : Read). on_ok r (λ y. more joint read n ((a ∷ b ∷ []) ++ y.0 ∷ []) y.1 y.2)) third
      ∙ over joint read n (a ∷ b ∷ c ∷ []) three rest none

  two_more : (n : ℕ) → more joint read (suc (suc n)) (a ∷ []) one u
      ≡ Ok (joined joint (a ∷ b ∷ c ∷ []), three, rest)
  unfolding more
  two_more n =
      ap (next joint read (more joint read (suc n)) (a ∷ []) one u) here
      ∙ ap (λ (r : Read). on_ok r (λ y. more joint read (suc n) ((a ∷ []) ++ y.0 ∷ []) y.1 y.2))
      second
      ∙ with_third n

  enough : (n : ℕ) → 2 ≤ n → more joint read n (a ∷ []) one u
      ≡ Ok (joined joint (a ∷ b ∷ c ∷ []), three, rest)
  enough zero h = absurd (omega arith)
  enough (suc zero) h = absurd (omega arith)
  enough (suc (suc n)) h = two_more n

  three_parts : 2 ≤ length u
      → parts_with joint read log t ≡ Ok (joined joint (a ∷ b ∷ c ∷ []), three, rest)
  three_parts h =
      ap (λ (r : Read). on_ok r (λ y. more joint read (length y.2) (y.0 ∷ []) y.1 y.2)) first
      ∙ enough (length u) h

pub long_conjunctions : LongConjunctionsAreRead
unfolding or_with
long_conjunctions depth log one two three t u v w x rest a b c first is second also third end =
    one_part Or (and_with (not_in depth)) log three t rest (both a (both b c))
    (three_parts And (not_in depth) log one two three t u v w x rest a b c first (marked And u v is)
    second (marked And w x also) third end.0
    (mark_and_part 38 depth one two u v w b is second)) end.1

pub long_disjunctions : LongDisjunctionsAreRead
unfolding or_with
long_disjunctions depth log one two three t u v w x rest a b c first is second or third end =
    three_parts Or (and_with (not_in depth)) log one two three t u v w x rest a b c
    (one_part And (not_in depth) log one t u a first (unmarked Or u v is)) (marked Or u v is)
    (one_part And (not_in depth) one two v w b second (unmarked Or w x or)) (marked Or w x or)
    (one_part And (not_in depth) two three x rest c third end.0) end.1
    (mark_and_part 124 depth one two u v w b is second)

-- ---- `!` first

pub not_before_and : NotBindsBeforeAnd
not_before_and depth log one two t u v w rest a b bang first is second end =
    conjunctions_are_read (suc depth) log one two t v w rest (negated a) b
    (negations_are_read depth log one t u v a bang first) is second end

pub not_before_or : NotBindsBeforeOr
not_before_or depth log one two t u v w rest a b bang first is second end =
    disjunctions_are_read (suc depth) log one two t v w rest (negated a) b
    (negations_are_read depth log one t u v a bang first) is second end
