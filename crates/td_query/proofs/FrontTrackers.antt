-- Keys at the front of two texts that are the same up to and with some byte: a wrong byte stays
-- wrong whatever follows it.
use Rattle.std.proofs.Common.{◌≡◌, ◌≢◌, ℕ, zero, suc, ◌≤◌, Bool, true, false, cond}
use Rattle.std.proofs.Common.{eqb}
use Rattle.std.proofs.Common.{List, [], ◌∷◌, ◌++◌, length, length-append, Option, Some, None}
use Rattle.std.proofs.Common.{Result}
use Rattle.std.proofs.Common.{Ok, Err, refl, sym, ap, subst, ◌∙◌, inl, inr, arith}
use Rattle.std.specs.Prelude.{codes}
use Rattle.std.specs.Str.{bytes_eq}
use Rattle.std.proofs.lemmas.Bool.{ne_eqb}
use Rattle.td_text.specs.Cut.{cut, strip}
use Rattle.td_text.specs.Lines.{on_ok}
use Rattle.td_text.specs.Runs.{run, behind}
use Rattle.td_query.specs.FaultPlaces.{WrongBytesAreFinal, WrongBytesAreThere}
use Rattle.td_query.specs.QueryGrammar.{Log, Read, or_at}
use Rattle.td_query.specs.Tokens.{is_key_byte, skipped}
use Rattle.td_query.specs.TrackerGrammar.{Said, SaidRead, ended, ended_by, entries, entries_next}
use Rattle.td_query.specs.TrackerGrammar.{entry_at, equalled, front, ignored_query, ignored_text}
use Rattle.td_query.specs.TrackerGrammar.{nothing_said, other_value, title_value, titled, value_at}
use Rattle.td_query.specs.TrackerGrammar.{with_affected, with_bad, with_good}
use Rattle.td_query.proofs.FrontAtoms.{IsCut, cut_ahead, cut_behind, cut_less, cut_near}
use Rattle.td_query.proofs.FrontAtoms.{cut_never, strip_less}
use Rattle.td_query.proofs.FrontQueries.{query_follow, query_short}
use Rattle.td_query.proofs.FrontWords.{IsRun, after, behind_less, goes_behind, run_of}
use Rattle.td_query.proofs.FrontWords.{stops_ahead}
use Rattle.td_query.proofs.Fronts.{Ahead, Follow, Near, ahead_room, by_mark, first_of, follow_chain}
use Rattle.td_query.proofs.Fronts.{goes, goes_near, left_in, other_room, past, short_chain}
use Rattle.td_query.proofs.Fronts.{skip_less, skipped_near, wrong, wrong_at}
use Rattle.td_query.proofs.SpelledTrackers.{Told, entry_found, entry_room, front_is, front_some}

-- what follows the keys that were read
abbrev behind_said : Told → List ℕ
behind_said y = y.1

-- nothing follows what a whole text says
abbrev behind_all : Said → List ℕ
behind_all s = []

-- ---- 1. no more is left than there was

titled_short : (s : Said) (t : List ℕ) (o : Option (List ℕ × List ℕ)) → cut 34 t ≡ o
    → left_in behind_said (titled s o) ≤ length t
titled_short s t None is = omega arith
titled_short s t (Some p) is =
    let less = skip_less p.1 in let lesser = cut_less 34 t p is in omega arith

title_short : (s : Said) (t : List ℕ) (o : Option (List ℕ)) → strip (codes "\"") t ≡ o
    → left_in behind_said (title_value s (length t) o) ≤ length t
title_short s t None is = omega arith
title_short s t (Some u) is =
    let low = titled_short s u (cut 34 u) refl in
    let less = strip_less 34 t u is in
    omega arith

ignored_text_short : (s : Said) (t : List ℕ) (o : Option (List ℕ × List ℕ)) → cut 34 t ≡ o
    → left_in behind_said (ignored_text s o) ≤ length t
ignored_text_short s t None is = omega arith
ignored_text_short s t (Some p) is =
    let less = skip_less p.1 in let lesser = cut_less 34 t p is in omega arith

ignored_short : (s : Said) (r : Read) (n : ℕ) → left_in after r ≤ n
    → left_in behind_said (ignored_query s r) ≤ n
ignored_short s (Ok x) n low = low
ignored_short s (Err e) n low = low

other_short : (s : Said) (t : List ℕ) (o : Option (List ℕ)) → strip (codes "\"") (skipped t) ≡ o
    → left_in behind_said (other_value s t o) ≤ length (skipped t)
unfolding other_value
other_short s t None is =
    ignored_short s (or_at 100 [] t) (length (skipped t)) (query_short 100 [] t)
other_short s t (Some u) is =
    let low = ignored_text_short s u (cut 34 u) refl in
    let less = strip_less 34 (skipped t) u is in
    omega arith

by_key_short : (p q r o : Bool) (title affected good bad other : SaidRead) (n : ℕ)
    → left_in behind_said title ≤ n → left_in behind_said affected ≤ n
    → left_in behind_said good ≤ n → left_in behind_said bad ≤ n → left_in behind_said other ≤ n
    → left_in behind_said (cond p title (cond q affected (cond r good (cond o bad other)))) ≤ n
by_key_short true q r o title affected good bad other n a b c d e = a
by_key_short false true r o title affected good bad other n a b c d e = b
by_key_short false false true o title affected good bad other n a b c d e = c
by_key_short false false false true title affected good bad other n a b c d e = d
by_key_short false false false false title affected good bad other n a b c d e = e

value_short : (key : List ℕ) (s : Said) (t : List ℕ)
    → left_in behind_said (value_at key s t) ≤ length (skipped t)
unfolding value_at
value_short key s t =
    by_key_short (bytes_eq key (codes "title")) (bytes_eq key (codes "is_affected"))
    (bytes_eq key (codes "is_good")) (bytes_eq key (codes "is_bad"))
    (title_value s (length (skipped t)) (strip (codes "\"") (skipped t)))
    (on_ok (or_at 100 s.log t) (with_affected s)) (on_ok (or_at 100 s.log t) (with_good s))
    (on_ok (or_at 100 s.log t) (with_bad s)) (other_value s t (strip (codes "\"") (skipped t)))
    (length (skipped t)) (title_short s (skipped t) (strip (codes "\"") (skipped t)) refl)
    (short_chain after behind_said (or_at 100 s.log t) (with_affected s) (length (skipped t))
    (query_short 100 s.log t) (λ y. omega arith))
    (short_chain after behind_said (or_at 100 s.log t) (with_good s) (length (skipped t))
    (query_short 100 s.log t) (λ y. omega arith))
    (short_chain after behind_said (or_at 100 s.log t) (with_bad s) (length (skipped t))
    (query_short 100 s.log t) (λ y. omega arith))
    (other_short s t (strip (codes "\"") (skipped t)) refl)

ended_by_short : (s : Said) (t : List ℕ) (o : Option (List ℕ)) → strip (codes ";") t ≡ o
    → left_in behind_said (ended_by s (length t) o) ≤ length t
ended_by_short s t None is = omega arith
ended_by_short s t (Some u) is =
    let less = skip_less u in let lesser = strip_less 59 t u is in omega arith

ended_short : (y : Told) → left_in behind_said (ended y) ≤ length (skipped y.1)
unfolding ended
ended_short y = ended_by_short y.0 (skipped y.1) (strip (codes ";") (skipped y.1)) refl

equalled_short : (key : List ℕ) (s : Said) (t : List ℕ) (o : Option (List ℕ))
    → strip (codes "=") t ≡ o → left_in behind_said (equalled key s (length t) o) ≤ length t
equalled_short key s t None is = omega arith
equalled_short key s t (Some u) is =
    let low = value_short key s u in
    let less = skip_less u in
    let lesser = strip_less 61 t u is in
    short_chain behind_said behind_said (value_at key s u) ended (length t)
    (omega arith) ended_short

by_name_short : (k : Bool) (m n : ℕ) (log : Log) (r : SaidRead) → m ≤ n
    → left_in behind_said r ≤ n → left_in behind_said (cond k (Err (m, log)) r) ≤ n
by_name_short true m n log r low short = low
by_name_short false m n log r low short = short

-- the value of the key at the front
abbrev valued : Said → List ℕ → SaidRead
valued s t = equalled (run is_key_byte t) s (length (skipped (behind is_key_byte t)))
    (strip (codes "=") (skipped (behind is_key_byte t)))

valued_short : (s : Said) (t : List ℕ)
    → left_in behind_said (valued s t) ≤ length (behind is_key_byte t)
valued_short s t =
    let low = equalled_short (run is_key_byte t) s (skipped (behind is_key_byte t))
    (strip (codes "=") (skipped (behind is_key_byte t))) refl in
    let less = skip_less (behind is_key_byte t) in
    omega arith

entry_short : (s : Said) (t : List ℕ) → left_in behind_said (entry_at s t) ≤ length t
unfolding entry_at
entry_short s t =
    let low = valued_short s t in
    let less = behind_less t in
    by_name_short (eqb (length (run is_key_byte t)) 0) (length t) (length t) s.log (valued s t)
    (omega arith) (omega arith)

next_short : (n : ℕ) (s : Said) (t : List ℕ)
    → ((s : Said) (t : List ℕ) → left_in behind_all (entries n s t) ≤ length (skipped t))
    → (o : Option (List ℕ)) → front t ≡ o
    → left_in behind_all (entries_next (entries n) s o) ≤ length (skipped t)
next_short n s t later None is = let none = skip_less [] in omega arith
next_short n s t later (Some at) is =
    let same : length (skipped t) ≡ length at = ap (λ (l : List ℕ). length l) (front_is t at is) in
    let low = entry_short s at in
    short_chain behind_said behind_all (entry_at s at) (λ y. entries n y.0 y.1)
    (length (skipped t)) (omega arith) (λ y. later y.0 y.1)

entries_short : (n : ℕ) (s : Said) (t : List ℕ)
    → left_in behind_all (entries n s t) ≤ length (skipped t)
unfolding entries
entries_short zero s t = let none = skip_less [] in omega arith
entries_short (suc n) s t = next_short n s t (λ r u. entries_short n r u) (front t) refl

-- ---- 2. values

module _ (x : ℕ) (a b : List ℕ) where
  titled_follow : (s r : Said) (o p : Option (List ℕ × List ℕ)) → IsCut x a b o p
      → Follow x a b behind_said (titled s o) (titled r p)
  titled_follow s r o p (cut_ahead front v w one other h) =
      subst (λ (l : Option (List ℕ × List ℕ)). Follow x a b behind_said (titled s l) (titled r p))
      (sym one)
      (subst (λ (l : Option (List ℕ × List ℕ)).
      Follow x a b behind_said (titled s (Some (front, v))) (titled r l)) (sym other)
      (goes_near x a b behind_said (record s { title = front }, v) (record r { title = front }, w)
      (inl h)))
  titled_follow s r o p (cut_behind front v one short) =
      let less = skip_less v in
      let low : length (skipped v) ≤ length a = omega arith in
      past (subst (λ (l : Option (List ℕ × List ℕ)).
      left_in behind_said (titled s l) ≤ length a) (sym one) low)
  titled_follow s r o p (cut_never none) =
      let low : 0 ≤ length a = omega arith in
      past (subst (λ (l : Option (List ℕ × List ℕ)).
      left_in behind_said (titled s l) ≤ length a) (sym none) low)

  text_follow : (s r : Said) (o p : Option (List ℕ × List ℕ)) → IsCut x a b o p
      → Follow x a b behind_said (ignored_text s o) (ignored_text r p)
  text_follow s r o p (cut_ahead front v w one other h) =
      subst (λ (l : Option (List ℕ × List ℕ)).
      Follow x a b behind_said (ignored_text s l) (ignored_text r p)) (sym one)
      (subst (λ (l : Option (List ℕ × List ℕ)).
      Follow x a b behind_said (ignored_text s (Some (front, v))) (ignored_text r l)) (sym other)
      (goes_near x a b behind_said (s, v) (r, w) (inl h)))
  text_follow s r o p (cut_behind front v one short) =
      let less = skip_less v in
      let low : length (skipped v) ≤ length a = omega arith in
      past (subst (λ (l : Option (List ℕ × List ℕ)).
      left_in behind_said (ignored_text s l) ≤ length a) (sym one) low)
  text_follow s r o p (cut_never none) =
      let low : 0 ≤ length a = omega arith in
      past (subst (λ (l : Option (List ℕ × List ℕ)).
      left_in behind_said (ignored_text s l) ≤ length a) (sym none) low)

  ignored_follow : (s r : Said) (p q : Read) → Follow x a b after p q
      → Follow x a b behind_said (ignored_query s p) (ignored_query r q)
  ignored_follow s r p q (goes y z is also h) =
      goes (s, y.2) (r, z.2) (ap (ignored_query s) is) (ap (ignored_query r) also) h
  ignored_follow s r p q (wrong d e is also ahead one other) =
      wrong (d.0, s.log) (e.0, r.log) (ap (ignored_query s) is) (ap (ignored_query r) also) ahead
      one other
  ignored_follow s r p q (past low) = past (ignored_short s p (length a) low)

  title_follow : (s r : Said) (t u : List ℕ) → Near x a b t u
      → Follow x a b behind_said (title_value s (length t) (strip (codes "\"") t))
      (title_value r (length u) (strip (codes "\"") u))
  title_follow s r t u (inl h) =
      by_mark x a b behind_said (title_value s (length t)) (title_value r (length u)) 34
      (codes "\"") t u refl (first_of x a b t u h)
      (wrong_at x a b behind_said (length t, s.log) (length u, r.log) t u h refl refl)
      (λ v w less lesser near. titled_follow s r (cut 34 v) (cut 34 w) (cut_near x a b 34 v w near))
  title_follow s r t u (inr low) =
      let short = title_short s t (strip (codes "\"") t) refl in past (omega arith)

  other_follow : (s r : Said) (t u : List ℕ) → Near x a b (skipped t) (skipped u)
      → Follow x a b behind_said (other_value s t (strip (codes "\"") (skipped t)))
      (other_value r u (strip (codes "\"") (skipped u)))
  unfolding other_value
  other_follow s r t u (inl h) =
      by_mark x a b behind_said (other_value s t) (other_value r u) 34 (codes "\"") (skipped t)
      (skipped u) refl (first_of x a b (skipped t) (skipped u) h)
      (ignored_follow s r (or_at 100 [] t) (or_at 100 [] u)
      (query_follow x a b 100 [] [] t u (inl h)))
      (λ v w less lesser near. text_follow s r (cut 34 v) (cut 34 w) (cut_near x a b 34 v w near))
  other_follow s r t u (inr low) =
      let short = other_short s t (strip (codes "\"") (skipped t)) refl in past (omega arith)

  by_key : (p q r o : Bool) (title affected good bad other : SaidRead)
      (title2 affected2 good2 bad2 other2 : SaidRead)
      → Follow x a b behind_said title title2 → Follow x a b behind_said affected affected2
      → Follow x a b behind_said good good2 → Follow x a b behind_said bad bad2
      → Follow x a b behind_said other other2
      → Follow x a b behind_said
      (cond p title (cond q affected (cond r good (cond o bad other))))
      (cond p title2 (cond q affected2 (cond r good2 (cond o bad2 other2))))
  by_key true q r o t1 a1 g1 b1 o1 t2 a2 g2 b2 o2 first second third fourth fifth = first
  by_key false true r o t1 a1 g1 b1 o1 t2 a2 g2 b2 o2 first second third fourth fifth = second
  by_key false false true o t1 a1 g1 b1 o1 t2 a2 g2 b2 o2 first second third fourth fifth = third
  by_key false false false true t1 a1 g1 b1 o1 t2 a2 g2 b2 o2 first second third fourth fifth =
      fourth
  by_key false false false false t1 a1 g1 b1 o1 t2 a2 g2 b2 o2 first second third fourth fifth =
      fifth

  value_follow : (key : List ℕ) (s r : Said) (t u : List ℕ) → Near x a b (skipped t) (skipped u)
      → Follow x a b behind_said (value_at key s t) (value_at key r u)
  unfolding value_at
  value_follow key s r t u near =
      by_key (bytes_eq key (codes "title")) (bytes_eq key (codes "is_affected"))
      (bytes_eq key (codes "is_good")) (bytes_eq key (codes "is_bad"))
      (title_value s (length (skipped t)) (strip (codes "\"") (skipped t)))
      (on_ok (or_at 100 s.log t) (with_affected s)) (on_ok (or_at 100 s.log t) (with_good s))
      (on_ok (or_at 100 s.log t) (with_bad s)) (other_value s t (strip (codes "\"") (skipped t)))
      (title_value r (length (skipped u)) (strip (codes "\"") (skipped u)))
      (on_ok (or_at 100 r.log u) (with_affected r)) (on_ok (or_at 100 r.log u) (with_good r))
      (on_ok (or_at 100 r.log u) (with_bad r)) (other_value r u (strip (codes "\"") (skipped u)))
      (title_follow s r (skipped t) (skipped u) near)
      (follow_chain x a b after behind_said (with_affected s) (with_affected r)
      (or_at 100 s.log t) (or_at 100 r.log u) (query_follow x a b 100 s.log r.log t u near)
      (λ y. omega arith)
      (λ y z is also h.
      goes (record s { affected = Some y.0; log = y.1 }, y.2)
      (record r { affected = Some z.0; log = z.1 }, z.2) refl refl h))
      (follow_chain x a b after behind_said (with_good s) (with_good r)
      (or_at 100 s.log t) (or_at 100 r.log u) (query_follow x a b 100 s.log r.log t u near)
      (λ y. omega arith)
      (λ y z is also h.
      goes (record s { good = Some y.0; log = y.1 }, y.2)
      (record r { good = Some z.0; log = z.1 }, z.2) refl refl h))
      (follow_chain x a b after behind_said (with_bad s) (with_bad r)
      (or_at 100 s.log t) (or_at 100 r.log u) (query_follow x a b 100 s.log r.log t u near)
      (λ y. omega arith)
      (λ y z is also h.
      goes (record s { bad = Some y.0; log = y.1 }, y.2)
      (record r { bad = Some z.0; log = z.1 }, z.2) refl refl h))
      (other_follow s r t u near)

  -- ---- 3. keys

  ended_follow : (y z : Told) → Ahead x a b (skipped y.1) (skipped z.1)
      → Follow x a b behind_said (ended y) (ended z)
  unfolding ended
  ended_follow y z h =
      by_mark x a b behind_said (ended_by y.0 (length (skipped y.1)))
      (ended_by z.0 (length (skipped z.1))) 59 (codes ";") (skipped y.1) (skipped z.1) refl
      (first_of x a b (skipped y.1) (skipped z.1) h)
      (wrong_at x a b behind_said (length (skipped y.1), y.0.log) (length (skipped z.1), z.0.log)
      (skipped y.1) (skipped z.1) h refl refl)
      (λ v w less lesser near. goes_near x a b behind_said (y.0, v) (z.0, w) near)

  equalled_follow : (key : List ℕ) (s r : Said) (t u : List ℕ) → Near x a b t u
      → Follow x a b behind_said (equalled key s (length t) (strip (codes "=") t))
      (equalled key r (length u) (strip (codes "=") u))
  equalled_follow key s r t u (inl h) =
      by_mark x a b behind_said (equalled key s (length t)) (equalled key r (length u)) 61
      (codes "=") t u refl (first_of x a b t u h)
      (wrong_at x a b behind_said (length t, s.log) (length u, r.log) t u h refl refl)
      (λ v w less lesser near.
      follow_chain x a b behind_said behind_said ended ended (value_at key s v)
      (value_at key r w) (value_follow key s r v w (skipped_near x a b v w near)) ended_short
      (λ y z is also ahead. ended_follow y z ahead))
  equalled_follow key s r t u (inr low) =
      let short = equalled_short key s t (strip (codes "=") t) refl in past (omega arith)

  by_name : (k : Bool) (m n : ℕ) (s r : Said) (p q : SaidRead)
      → Follow x a b behind_said (Err (m, s.log)) (Err (n, r.log))
      → Follow x a b behind_said p q
      → Follow x a b behind_said (cond k (Err (m, s.log)) p) (cond k (Err (n, r.log)) q)
  by_name true m n s r p q none some = none
  by_name false m n s r p q none some = some

  entry_run : (s r : Said) (t u : List ℕ) → Ahead x a b t u → IsRun x a b t u
      → Follow x a b behind_said (entry_at s t) (entry_at r u)
  unfolding entry_at
  entry_run s r t u h (stops_ahead same hb) =
      subst (λ (key : List ℕ). Follow x a b behind_said
      (cond (eqb (length (run is_key_byte t)) 0) (Err (length t, s.log)) (valued s t))
      (cond (eqb (length key) 0) (Err (length u, r.log))
      (equalled key r (length (skipped (behind is_key_byte u)))
      (strip (codes "=") (skipped (behind is_key_byte u)))))) (sym same)
      (by_name (eqb (length (run is_key_byte t)) 0) (length t) (length u) s r (valued s t)
      (equalled (run is_key_byte t) r (length (skipped (behind is_key_byte u)))
      (strip (codes "=") (skipped (behind is_key_byte u))))
      (wrong_at x a b behind_said (length t, s.log) (length u, r.log) t u h refl refl)
      (equalled_follow (run is_key_byte t) s r (skipped (behind is_key_byte t))
      (skipped (behind is_key_byte u))
      (skipped_near x a b (behind is_key_byte t) (behind is_key_byte u) (inl hb))))
  entry_run s r t u h (goes_behind ahead m n one other first second short) =
      let some : length (run is_key_byte t) ≡ length (ahead ++ x ∷ m) =
      ap (λ (l : List ℕ). length l) first in
      let both = length-append ahead (x ∷ m) in
      let filled : length (run is_key_byte t) ≢ 0 = omega arith in
      let full : eqb (length (run is_key_byte t)) 0 ≡ false =
      ne_eqb (length (run is_key_byte t)) 0 filled in
      let low = valued_short s t in
      let lowest : left_in behind_said (valued s t) ≤ length a = omega arith in
      past (subst (λ (k : Bool). left_in behind_said
      (cond k (Err (length t, s.log)) (valued s t)) ≤ length a) (sym full) lowest)

  ahead_front : (t u : List ℕ) → Ahead x a b (skipped t) (skipped u)
      → (front t ≡ Some (skipped t)) × (front u ≡ Some (skipped u))
  ahead_front t u h =
      let one = ahead_room x a b (skipped t) (skipped u) h in
      let other = other_room x a b (skipped t) (skipped u) h in
      (front_some t (omega arith), front_some u (omega arith))

  entries_follow : (n m : ℕ) (s r : Said) (t u : List ℕ) → Near x a b (skipped t) (skipped u)
      → length t ≤ n → length u ≤ m → Follow x a b behind_all (entries n s t) (entries m r u)
  unfolding entries
  entries_follow n m s r t u (inr low) one other =
      let short = entries_short n s t in past (omega arith)
  entries_follow zero m s r t u (inl h) one other =
      let some = ahead_room x a b (skipped t) (skipped u) h in
      let less = skip_less t in
      absurd (omega arith)
  entries_follow (suc n) zero s r t u (inl h) one other =
      let some = other_room x a b (skipped t) (skipped u) h in
      let less = skip_less u in
      absurd (omega arith)
  entries_follow (suc n) (suc m) s r t u (inl h) one other =
      let fronts = ahead_front t u h in
      subst (λ (o : Option (List ℕ)). Follow x a b behind_all (entries_next (entries n) s o)
      (entries_next (entries m) r (front u))) (sym fronts.0)
      (subst (λ (o : Option (List ℕ)). Follow x a b behind_all
      (entries_next (entries n) s (Some (skipped t))) (entries_next (entries m) r o))
      (sym fronts.1)
      (follow_chain x a b behind_said behind_all (λ y. entries n y.0 y.1)
      (λ y. entries m y.0 y.1) (entry_at s (skipped t)) (entry_at r (skipped u))
      (entry_run s r (skipped t) (skipped u) h (run_of x a b (skipped t) (skipped u) h))
      (λ y. entries_short n y.0 y.1)
      (λ y z is also ahead.
      let room = entry_room s y.0 t y.1 (entry_found s t y is) in
      let rooms = entry_room r z.0 u z.1 (entry_found r u z also) in
      let left : length y.1 ≤ n = omega arith in
      let right : length z.1 ≤ m = omega arith in
      entries_follow n m y.0 z.0 y.1 z.1 (inl ahead) left right)))

-- ---- 4. a whole text

pub wrong_bytes_are_there : WrongBytesAreThere
wrong_bytes_are_there text left log e =
    let low = entries_short (length text) nothing_said text in
    let less = skip_less text in
    let same : left_in behind_all (entries (length text) nothing_said text) ≡ left =
    ap (left_in behind_all) e in
    omega arith

abbrev wrong_told : ℕ → Log → Result Said (ℕ × Log)
wrong_told n log = Err (n, log)

pub wrong_bytes_are_final : WrongBytesAreFinal
wrong_bytes_are_final before rest other x log e =
    by (entries_follow x rest other (length (before ++ x ∷ rest)) (length (before ++ x ∷ other))
    nothing_said nothing_said (before ++ x ∷ rest) (before ++ x ∷ other)
    (skipped_near x rest other (before ++ x ∷ rest) (before ++ x ∷ other)
    (inl (record { front = before; one = refl; other = refl }))) (omega arith) (omega arith))
  where
    by : Follow x rest other behind_all
        (entries (length (before ++ x ∷ rest)) nothing_said (before ++ x ∷ rest))
        (entries (length (before ++ x ∷ other)) nothing_said (before ++ x ∷ other))
        → (kept : Log)
        × (entries (length (before ++ x ∷ other)) nothing_said (before ++ x ∷ other)
        ≡ Err (suc (length other), kept))
    by (goes y z is also h) =
        absurd (let bad : ◌≡◌ {A = Result Said (ℕ × Log)} (Ok y) (Err (suc (length rest), log)) =
        sym is ∙ e in cc)
    by (past low) =
        let same : left_in behind_all
        (entries (length (before ++ x ∷ rest)) nothing_said (before ++ x ∷ rest))
        ≡ suc (length rest) = ap (left_in behind_all) e in
        absurd (omega arith)
    by (wrong d f is also ahead one two) =
        let same : d.0 ≡ suc (length rest) =
        ap (left_in behind_all) (sym is ∙ e) in
        let first = length-append ahead (x ∷ rest) in
        let second = length-append ahead (x ∷ other) in
        let left : f.0 ≡ suc (length other) = omega arith in
        (f.1, also ∙ ap (λ (n : ℕ). wrong_told n f.1) left)
