-- The stanza at a place of a flat list.
use Rattle.std.proofs.Common.{◌≡◌, ℕ, suc, zero, ◌+◌, ◌-◌, ◌≤◌, List, [], ◌∷◌, length, map, take}
use Rattle.std.proofs.Common.{drop, Option, Some, None, option_map, add-one, refl, sym, ap, subst}
use Rattle.std.proofs.Common.{◌∙◌, arith}
use Rattle.std.specs.List.{slice_get, AllByRecursion}
use Rattle.std.specs.Borrow.{Bor}
use Rattle.std.specs.Slice.{IsItemAt}
use Rattle.std.proofs.lemmas.Option.{slice_get_past, slice_get_read}
use Rattle.std.proofs.lemmas.List.{length-append, length-map}
use Rattle.td_text.proofs.Chain.{some_is}
use Rattle.td_stanza.specs.declared.entry.Field.{Field}
use Rattle.td_stanza.specs.Field.{Entry}
use Rattle.td_stanza.specs.StanzaGrammar.{IsDistinct}
use Rattle.td_stanza.specs.Table.{shown, pieces, starts_from, joined, IsTable}
use Rattle.td_stanza.proofs.Tables.{pieces-joined}

pub pieces_past : (fs : List Entry) (starts : List ℕ) (i : ℕ) → slice_get starts i ≡ None
    → slice_get (pieces fs starts) i ≡ None
pieces_past fs [] i e = refl
pieces_past fs (a ∷ []) zero e = absurd cc
pieces_past fs (a ∷ []) (suc i) e = refl
pieces_past fs (a ∷ b ∷ starts) zero e = absurd cc
pieces_past fs (a ∷ b ∷ starts) (suc i) e = pieces_past fs (b ∷ starts) i e

pub pieces_last : (fs : List Entry) (starts : List ℕ) (i a : ℕ) → slice_get starts i ≡ Some a
    → slice_get starts (suc i) ≡ None → slice_get (pieces fs starts) i ≡ Some (drop a fs)
pieces_last fs [] i a e n = absurd cc
pieces_last fs (x ∷ []) zero a e n = ap (λ (k : ℕ). Some (drop k fs)) (some_is x a e)
pieces_last fs (x ∷ []) (suc i) a e n = absurd cc
pieces_last fs (x ∷ y ∷ starts) zero a e n = absurd cc
pieces_last fs (x ∷ y ∷ starts) (suc i) a e n = pieces_last fs (y ∷ starts) i a e n

pub pieces_inner : (fs : List Entry) (starts : List ℕ) (i a b : ℕ) → slice_get starts i ≡ Some a
    → slice_get starts (suc i) ≡ Some b
    → slice_get (pieces fs starts) i ≡ Some (take (b - a) (drop a fs))
pieces_inner fs [] i a b e n = absurd cc
pieces_inner fs (x ∷ []) zero a b e n = absurd cc
pieces_inner fs (x ∷ []) (suc i) a b e n = absurd cc
pieces_inner fs (x ∷ y ∷ starts) zero a b e n =
    let is : x ≡ a = some_is x a e in let next : y ≡ b = some_is y b n in rw (is, next) refl
pieces_inner fs (x ∷ y ∷ starts) (suc i) a b e n = pieces_inner fs (y ∷ starts) i a b e n

-- ---- where a start lies

start_from : (at : ℕ) (ss : List (List Entry)) (i a : ℕ) → slice_get (starts_from at ss) i ≡ Some a
    → (at ≤ a) × (a ≤ at + length (joined ss))
start_from at [] i a e = absurd cc
start_from at (s ∷ ss) zero a e = let is : at ≡ a = some_is at a e in (omega arith, omega arith)
start_from at (s ∷ ss) (suc i) a e =
    let h = start_from (at + length s) ss i a e in
    (omega (arith, h.0), omega (arith, h.1, length-append s (joined ss)))

start_order : (at : ℕ) (ss : List (List Entry)) (i a b : ℕ)
    → slice_get (starts_from at ss) i ≡ Some a → slice_get (starts_from at ss) (suc i) ≡ Some b
    → a ≤ b
start_order at [] i a b e n = absurd cc
start_order at (s ∷ ss) zero a b e n =
    let is : at ≡ a = some_is at a e in
    let h = start_from (at + length s) ss zero b n in omega (arith, h.0)
start_order at (s ∷ ss) (suc i) a b e n = start_order (at + length s) ss i a b e n

pub start_within : (fields : List Field) (starts : List ℕ) (i a : ℕ) → IsTable fields starts
    → slice_get starts i ≡ Some a → a ≤ length fields
start_within fields starts i a t e =
    let h =
    start_from 0 t.stanzas i a (sym (ap (λ (l : List ℕ). slice_get l i) t.starts_are) ∙ e) in
    let len : length fields ≡ length (joined t.stanzas) =
    sym (length-map fields shown) ∙ ap length t.fields_are in
    omega (arith, h.1)

pub starts_ordered : (fields : List Field) (starts : List ℕ) (i a b : ℕ) → IsTable fields starts
    → slice_get starts i ≡ Some a → slice_get starts (suc i) ≡ Some b → a ≤ b
starts_ordered fields starts i a b t e n =
    start_order 0 t.stanzas i a b (sym (ap (λ (l : List ℕ). slice_get l i) t.starts_are) ∙ e)
    (sym (ap (λ (l : List ℕ). slice_get l (suc i)) t.starts_are) ∙ n)

-- ---- the table's stanzas

pub table_is : (fields : List Field) (starts : List ℕ) (t : IsTable fields starts)
    → pieces (map shown fields) starts ≡ t.stanzas
table_is fields starts t =
    ap (λ (l : List Entry). pieces l starts) t.fields_are
    ∙ ap (pieces (joined t.stanzas)) t.starts_are ∙ pieces-joined t.stanzas

pub length-pieces : (fs : List Entry) (starts : List ℕ) → length (pieces fs starts) ≡ length starts
length-pieces fs [] = refl
length-pieces fs (a ∷ []) = refl
length-pieces fs (a ∷ b ∷ starts) = ap suc (length-pieces fs (b ∷ starts))

distinct_at : (ss : List (List Entry)) (i : ℕ) (s : List Entry) → AllByRecursion IsDistinct ss
    → slice_get ss i ≡ Some s → IsDistinct s
distinct_at [] i s h e = absurd cc
distinct_at (t ∷ ss) zero s h e = subst IsDistinct (some_is t s e) h.0
distinct_at (t ∷ ss) (suc i) s h e = distinct_at ss i s h.1 e

pub stanza_distinct : (fields : List Field) (starts : List ℕ) (i : ℕ) (s : List Entry)
    → IsTable fields starts → slice_get (pieces (map shown fields) starts) i ≡ Some s → IsDistinct s
stanza_distinct fields starts i s t e =
    distinct_at t.stanzas i s t.distinct
    (sym (ap (λ (ss : List (List Entry)). slice_get ss i) (table_is fields starts t)) ∙ e)

-- ---- what `get` gives

pub got : {X : Type 0} (xs : List X) (i : ℕ) (r : Option (Bor X)) → IsItemAt xs i r
    → option_map (λ x. x.now) r ≡ slice_get xs i
got xs i None h = sym (slice_get_past xs i h.3)
got xs i (Some x) h = sym (slice_get_read xs (length xs) i x.now refl h.3.0 h.1)

pub got_next : (xs : List ℕ) (i : ℕ) (r : Option (Bor ℕ)) → IsItemAt xs (i + 1) r
    → slice_get xs (suc i) ≡ option_map (λ x. x.now) r
got_next xs i r h = sym (ap (slice_get xs) (add-one i)) ∙ sym (got xs (i + 1) r h)
