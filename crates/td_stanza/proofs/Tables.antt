-- A flat list of fields, with where each stanza starts.
use Rattle.std.proofs.Common.{◌≡◌, ◌≢◌, ℕ, ◌+◌, ◌-◌, cond, eqb, List, [], ◌∷◌, ◌++◌, length, take}
use Rattle.std.proofs.Common.{drop, refl, sym, ap, ◌∙◌, append_assoc, arith, add-zero}
use Rattle.std.proofs.lemmas.Bool.{ne_eqb, eq-eqb}
use Rattle.std.proofs.lemmas.List.{append-nil, length-append, take_at, drop_at}
use Rattle.std.proofs.lemmas.List.Concat.{flat_map-append}
use Rattle.td_stanza.specs.Field.{Entry}
use Rattle.td_stanza.specs.Table.{pieces, starts_from, joined}
use Rattle.td_stanza.proofs.Grammar.{closed}

pub joined-closed : (ss : List (List Entry)) (fs : List Entry)
    → joined (closed ss fs) ≡ joined ss ++ fs
joined-closed ss [] = sym (append-nil (joined ss))
joined-closed ss (f ∷ fs) =
    flat_map-append (λ s. s) ss ((f ∷ fs) ∷ [])
    ∙ ap (λ (l : List Entry). joined ss ++ l) (append-nil (f ∷ fs))

pub starts_from-snoc : (at : ℕ) (ss : List (List Entry)) (s : List Entry)
    → starts_from at (ss ++ s ∷ []) ≡ starts_from at ss ++ (at + length (joined ss)) ∷ []
starts_from-snoc at [] s = ap (λ (n : ℕ). n ∷ []) (sym (add-zero at))
starts_from-snoc at (t ∷ ss) s =
    let sum : at + length t + length (joined ss) ≡ at + length (t ++ joined ss) =
    omega (arith, length-append t (joined ss)) in
    ap (λ (l : List ℕ). at ∷ l)
    (starts_from-snoc (at + length t) ss s
    ∙ ap (λ (n : ℕ). starts_from (at + length t) ss ++ n ∷ []) sum)

pub starts_next : (ss : List (List Entry)) (fs : List Entry) (f : Entry) (starts : List ℕ)
    (first len : ℕ)
    → starts ≡ starts_from 0 (closed ss fs) → first ≡ length (joined ss)
    → len ≡ length (joined ss ++ fs)
    → cond (eqb first len) (starts ++ first ∷ []) starts ≡ starts_from 0 (closed ss (fs ++ f ∷ []))
starts_next ss [] f starts first len are is len_is =
    let same : first ≡ len = is ∙ ap length (sym (append-nil (joined ss))) ∙ sym len_is in
    let place : first ≡ 0 + length (joined ss) = omega arith in
    rw (eq-eqb first len same)
    (ap (λ (l : List ℕ). l ++ first ∷ []) are ∙ ap (λ (n : ℕ). starts_from 0 ss ++ n ∷ []) place
    ∙ sym (starts_from-snoc 0 ss (f ∷ [])))
starts_next ss (g ∷ fs) f starts first len are is len_is =
    let apart : first ≢ len = λ e. (let l = length-append (joined ss) (g ∷ fs) in omega arith) in
    rw (ne_eqb first len apart)
    (are ∙ starts_from-snoc 0 ss (g ∷ fs) ∙ sym (starts_from-snoc 0 ss (g ∷ (fs ++ f ∷ []))))

pieces_after : (front : List Entry) (ss : List (List Entry))
    → pieces (front ++ joined ss) (starts_from (length front) ss) ≡ ss
pieces_after front [] = refl
pieces_after front (s ∷ []) =
    ap (λ (l : List Entry). l ∷ []) (drop_at front (s ++ []) (length front) refl ∙ append-nil s)
pieces_after front (s ∷ t ∷ ss) =
    let size : length front + length s - length front ≡ length s = omega arith in
    let own : take (length front + length s - length front)
    (drop (length front) (front ++ (s ++ joined (t ∷ ss)))) ≡ s =
    ap (λ (n : ℕ). take n (drop (length front) (front ++ (s ++ joined (t ∷ ss))))) size
    ∙ ap (take (length s)) (drop_at front (s ++ joined (t ∷ ss)) (length front) refl)
    ∙ take_at s (joined (t ∷ ss)) (length s) refl in
    let later : pieces (front ++ (s ++ joined (t ∷ ss)))
    (starts_from (length front + length s) (t ∷ ss)) ≡ t ∷ ss =
    ap (λ (l : List Entry). pieces l (starts_from (length front + length s) (t ∷ ss)))
    (sym (append_assoc front s (joined (t ∷ ss))))
    ∙ ap (λ (n : ℕ). pieces ((front ++ s) ++ joined (t ∷ ss)) (starts_from n (t ∷ ss)))
    (sym (length-append front s))
    ∙ pieces_after (front ++ s) (t ∷ ss) in
    ap (λ (l : List Entry).
    l ∷ pieces (front ++ (s ++ joined (t ∷ ss))) (starts_from (length front + length s) (t ∷ ss)))
    own ∙ ap (λ (l : List (List Entry)). s ∷ l) later

-- the stanzas that a list stands for
pub pieces-joined : (ss : List (List Entry)) → pieces (joined ss) (starts_from 0 ss) ≡ ss
pieces-joined ss = pieces_after [] ss
