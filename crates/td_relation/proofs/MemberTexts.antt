-- The members of a relation, as they are read.
use Rattle.std.proofs.Common.{◌≡◌, ℕ, zero, suc, ◌+◌, ◌-◌, ◌≤◌, Bool, true, false, cond, List, []}
use Rattle.std.proofs.Common.{◌∷◌, ◌++◌, map, length, take, drop, Result, Ok, Err, refl, sym, ap}
use Rattle.std.proofs.Common.{◌∙◌, append_assoc, arith}
use Rattle.std.proofs.lemmas.List.{length-append, length-map, append-nil}
use Rattle.td_text.specs.Lines.{on_ok, pieces_of}
use Rattle.td_text.proofs.Chain.{on_ok_parts, ok_is}
use Rattle.td_relation.specs.declared.relation.Alternative.{Alternative}
use Rattle.td_relation.specs.declared.relation_fault.RelationFault.{RelationFault}
use Rattle.td_relation.specs.declared.relation_fault.RelationFault.TheVariants.{BadName}
use Rattle.td_relation.specs.declared.relation_fault.RelationFault.TheVariants.{BadOperator}
use Rattle.td_relation.specs.declared.relation_fault.RelationFault.TheVariants.{BadVersion}
use Rattle.td_relation.specs.declared.relation_fault.RelationFault.TheVariants.{BadArchList}
use Rattle.td_relation.specs.declared.relation_fault.RelationFault.TheVariants.{BadProfile, Empty}
use Rattle.td_relation.specs.declared.relation_fault.RelationFault.TheVariants.{NoMemory}
use Rattle.td_relation.specs.Asked.{Asked, asked}
use Rattle.td_relation.specs.Members.{chunked, total}
use Rattle.td_text.specs.Runs.{is_blank}
use Rattle.td_relation.specs.RelationGrammar.{over, alternative_at, alternative_step, member_at}
use Rattle.td_relation.specs.RelationGrammar.{member_step, some_members, relation_at}
use Rattle.td_relation.specs.RelationViews.{IsFaultOf}
use Rattle.td_relation.proofs.PieceLaws.{faulted_first, faulted_same}

-- ---- the alternatives of a member, behind others

behind_step : (seen s : List Asked) (r : Result Asked RelationFault) (ps : List (List ℕ))
    → ((more : List Asked)
    → over alternative_step (seen ++ more) ps
    ≡ on_ok (over alternative_step more ps) (λ m. Ok (seen ++ m)))
    → on_ok (on_ok r (λ a. Ok ((seen ++ s) ++ a ∷ []))) (λ more. over alternative_step more ps)
    ≡ on_ok (on_ok (on_ok r (λ a. Ok (s ++ a ∷ []))) (λ more. over alternative_step more ps))
    (λ m. Ok (seen ++ m))
behind_step seen s (Err e) ps later = refl
behind_step seen s (Ok a) ps later =
    ap (λ l. over alternative_step l ps) (append_assoc seen s (a ∷ [])) ∙ later (s ++ a ∷ [])

pub over-behind : (seen s : List Asked) (ps : List (List ℕ)) → over alternative_step (seen ++ s) ps
    ≡ on_ok (over alternative_step s ps) (λ m. Ok (seen ++ m))
unfolding over
over-behind seen s [] = refl
over-behind seen s (p ∷ ps) =
    behind_step seen s (alternative_at p) ps (λ more. over-behind seen more ps)

-- what was added is the member
pub member_added : (seen : List Asked) (text : List ℕ)
    → over alternative_step seen (pieces_of 124 text) ≡ on_ok (member_at text) (λ m. Ok (seen ++ m))
member_added seen text =
    ap (λ l. over alternative_step l (pieces_of 124 text)) (sym (append-nil seen))
    ∙ over-behind seen [] (pieces_of 124 text)

-- ---- members one behind the other

take-behind : {A : Type 0} (n : ℕ) (xs ys : List A) → n ≤ length xs → take n (xs ++ ys) ≡ take n xs
take-behind zero xs ys h = refl
take-behind (suc n) [] ys h = absurd (omega arith)
take-behind (suc n) (x ∷ xs) ys h = ap (λ l. x ∷ l) (take-behind n xs ys (omega arith))

drop-behind : {A : Type 0} (n : ℕ) (xs ys : List A) → n ≤ length xs
    → drop n (xs ++ ys) ≡ drop n xs ++ ys
drop-behind zero xs ys h = refl
drop-behind (suc n) [] ys h = absurd (omega arith)
drop-behind (suc n) (x ∷ xs) ys h = drop-behind n xs ys (omega arith)

take-whole : {A : Type 0} (xs : List A) (n : ℕ) → n ≡ length xs → take n xs ≡ xs
take-whole [] zero h = refl
take-whole [] (suc n) h = absurd (omega arith)
take-whole (x ∷ xs) zero h = absurd (omega arith)
take-whole (x ∷ xs) (suc n) h = ap (λ l. x ∷ l) (take-whole xs n (omega arith))

length-left : {A : Type 0} (n : ℕ) (xs : List A) → n ≤ length xs
    → length (drop n xs) + n ≡ length xs
length-left zero xs h = omega arith
length-left (suc n) [] h = absurd (omega arith)
length-left (suc n) (x ∷ xs) h = let later = length-left n xs (omega arith) in omega arith

pub chunked-push : {A : Type 0} (ns : List ℕ) (n : ℕ) (xs ys : List A) → total ns ≡ length xs
    → n ≡ length ys → chunked (ns ++ n ∷ []) (xs ++ ys) ≡ chunked ns xs ++ ys ∷ []
chunked-push [] n [] ys h k = ap (λ l. l ∷ []) (take-whole ys n k)
chunked-push [] n (x ∷ xs) ys h k = absurd (omega arith)
chunked-push (m ∷ ns) n xs ys h k =
    let low : m ≤ length xs = omega arith in
    let left : total ns ≡ length (drop m xs) = omega (arith, length-left m xs low) in
    rw (take-behind m xs ys low, drop-behind m xs ys low)
    (ap (λ l. take m xs ∷ l) (chunked-push ns n (drop m xs) ys left k))

pub total-push : (ns : List ℕ) (n : ℕ) → total (ns ++ n ∷ []) ≡ total ns + n
total-push [] n = omega arith
total-push (m ∷ ns) n = omega (arith, total-push ns n)

map-take : {A B : Type 0} (f : A → B) (n : ℕ) (xs : List A) → map f (take n xs) ≡ take n (map f xs)
map-take f zero xs = refl
map-take f (suc n) [] = refl
map-take f (suc n) (x ∷ xs) = ap (λ l. f x ∷ l) (map-take f n xs)

map-drop : {A B : Type 0} (f : A → B) (n : ℕ) (xs : List A) → map f (drop n xs) ≡ drop n (map f xs)
map-drop f zero xs = refl
map-drop f (suc n) [] = refl
map-drop f (suc n) (x ∷ xs) = map-drop f n xs

-- members seen through a view
pub map-chunked : {A B : Type 0} (f : A → B) (ns : List ℕ) (xs : List A)
    → map (λ m. map f m) (chunked ns xs) ≡ chunked ns (map f xs)
map-chunked f [] xs = refl
map-chunked f (n ∷ ns) xs = rw (map-take f n xs, map-chunked f ns (drop n xs), map-drop f n xs) refl

-- ---- a member that was pushed

module _ (ns : List ℕ) (old new : List Alternative) (text : List ℕ) (n : ℕ)
    (whole : total ns ≡ length old)
    (read : over alternative_step (map asked old) (pieces_of 124 text) ≡ Ok (map asked new))
    (size : n ≡ length new - length old) where
  parts : (m : List Asked) × (member_at text ≡ Ok m) × (map asked old ++ m ≡ map asked new)
  parts =
      let p = on_ok_parts (member_at text) (λ m. Ok (map asked old ++ m)) (map asked new)
      (sym (member_added (map asked old) text) ∙ read) in
      (p.0, p.1, ok_is RelationFault (map asked old ++ p.0) (map asked new) p.2)

  lengths : length new ≡ length old + length parts.0
  unfolding parts
  lengths =
      omega (
        arith,
        ap length parts.2,
        length-append (map asked old) parts.0,
        length-map old asked,
        length-map new asked,
      )

  pub member_pushed : on_ok (member_at text) (λ m. Ok (chunked ns (map asked old) ++ m ∷ []))
      ≡ Ok (chunked (ns ++ n ∷ []) (map asked new))
  unfolding parts lengths
  member_pushed =
      let front : total ns ≡ length (map asked old) = whole ∙ sym (length-map old asked) in
      let last : n ≡ length parts.0 = omega (arith, lengths, size) in
      ap (λ r. on_ok r (λ m. Ok (chunked ns (map asked old) ++ m ∷ []))) parts.1
      ∙ ap Ok (sym (chunked-push ns n (map asked old) parts.0 front last)
      ∙ ap (chunked (ns ++ n ∷ [])) parts.2)

  pub total_pushed : total (ns ++ n ∷ []) ≡ length new
  unfolding parts lengths
  total_pushed = omega (arith, total-push ns n, lengths, size, whole)

-- a fault of a member's alternatives is the member's
pub member_fails : (seen : List Asked) (text : List ℕ) (e : RelationFault)
    → IsFaultOf (over alternative_step seen (pieces_of 124 text)) e → IsFaultOf (member_at text) e
member_fails seen text e is = by (member_at text) e (faulted_same e _ _ (member_added seen text) is)
  where
    by : (r : Result (List Asked) RelationFault) (f : RelationFault)
        → IsFaultOf (on_ok r (λ m. Ok (seen ++ m))) f → IsFaultOf r f
    by (Err x) f h = h
    by (Ok m) NoMemory h = tt
    by (Ok m) BadName h = absurd cc
    by (Ok m) BadOperator h = absurd cc
    by (Ok m) BadVersion h = absurd cc
    by (Ok m) BadArchList h = absurd cc
    by (Ok m) BadProfile h = absurd cc
    by (Ok m) Empty h = absurd cc

-- ---- the members of a relation

pub member_step-blank : (seen : List (List Asked)) (piece : List ℕ) → is_blank piece ≡ true
    → member_step seen piece ≡ Ok seen
member_step-blank seen piece h =
    ap (λ (b : Bool). cond b (Ok seen) (on_ok (member_at piece) (λ m. Ok (seen ++ m ∷ [])))) h

pub member_step-filled : (seen : List (List Asked)) (piece : List ℕ) → is_blank piece ≡ false
    → member_step seen piece ≡ on_ok (member_at piece) (λ m. Ok (seen ++ m ∷ []))
member_step-filled seen piece h =
    ap (λ (b : Bool). cond b (Ok seen) (on_ok (member_at piece) (λ m. Ok (seen ++ m ∷ [])))) h

pub member_step-fails : (seen : List (List Asked)) (piece : List ℕ) (e : RelationFault)
    → is_blank piece ≡ false → IsFaultOf (member_at piece) e → IsFaultOf (member_step seen piece) e
member_step-fails seen piece e h is =
    faulted_same e _ _ (sym (member_step-filled seen piece h))
    (faulted_first e (member_at piece) (λ m. Ok (seen ++ m ∷ [])) is)

-- ---- the whole text

pub relation-fails : (text : List ℕ) (e : RelationFault)
    → IsFaultOf (over member_step [] (pieces_of 44 text)) e → IsFaultOf (relation_at text) e
unfolding relation_at
relation-fails text e is = faulted_first e (over member_step [] (pieces_of 44 text)) some_members is

pub relation-empty : (text : List ℕ) (ns : List ℕ) (xs : List Asked) → over member_step []
    (pieces_of 44 text) ≡ Ok (chunked ns xs) → length ns ≡ 0 → relation_at text ≡ Err Empty
unfolding relation_at
relation-empty text [] xs h k = ap (λ r. on_ok r some_members) h
relation-empty text (n ∷ ns) xs h k = absurd (omega arith)

pub relation-read : (text : List ℕ) (ns : List ℕ) (xs : List Alternative)
    → over member_step [] (pieces_of 44 text) ≡ Ok (chunked ns (map asked xs)) → ¬ (length ns ≡ 0)
    → relation_at text ≡ Ok (map (λ m. map asked m) (chunked ns xs))
unfolding relation_at
relation-read text [] xs h k = absurd (k refl)
relation-read text (n ∷ ns) xs h k =
    ap (λ r. on_ok r some_members) h ∙ ap Ok (sym (map-chunked asked (n ∷ ns) xs))
