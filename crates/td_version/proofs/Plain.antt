-- A text without an epoch, each of whose bytes may stand where it does.
use Rattle.std.proofs.Common.{◌≡◌, ℕ, ◌||◌, Bool, true, false, eqb, List, [], ◌∷◌, ◌++◌}
use Rattle.std.proofs.Common.{length, Option, Some, None, Ok, Err, refl, sym, ap, subst, ◌∙◌}
use Rattle.std.proofs.Common.{arith, inl, inr}
use Rattle.std.specs.List.{list_all}
use Rattle.std.proofs.lemmas.Bool.{and_parts, lt-ltb, ne_eqb, or_right}
use Rattle.std.proofs.lemmas.List.Folds.{list_all-append}
use Rattle.td_text.specs.Cut.{Without}
use Rattle.td_text.proofs.Cut.{Without-from_test, cut_none}
use Rattle.td_version.specs.declared.version.VersionFault.TheVariants.{Empty}
use Rattle.td_version.specs.Grammar.{Written, is_part, is_revision_byte, is_upstream_byte}
use Rattle.td_version.specs.Reading.{cut_last, is_empty_part, judged, pieces, reading}
use Rattle.td_version.specs.Reading.{with_epoch, with_revision}
use Rattle.td_version.proofs.Cuts.{IsLastCut, cut_last_is}
use Rattle.td_version.proofs.Outcomes.{IsOutcome, judged_only}

-- each byte may stand in an upstream part that has no epoch in front
abbrev pub IsPlain : List ℕ → Type 0
IsPlain t = list_all (is_upstream_byte false) t ≡ true

-- it has no colon, so its pieces are those at the last hyphen
pub pieces-plain : (t : List ℕ) → IsPlain t → pieces t ≡ with_revision None t (cut_last 45 t)
unfolding pieces
pieces-plain t plain =
    ap (with_epoch t) (cut_none 58 t (Without-from_test (is_upstream_byte false) 58 t refl plain))

alone_true : (a : Bool) → (a || false) ≡ true → a ≡ true
alone_true true h = refl
alone_true false h = h

-- behind the last hyphen stand bytes of a revision
revision_bytes : (t : List ℕ) → IsPlain t → Without 45 t → list_all is_revision_byte t ≡ true
revision_bytes [] plain none = refl
revision_bytes (x ∷ t) plain none =
    let both = and_parts (is_upstream_byte false x) (list_all (is_upstream_byte false) t) plain in
    let first : (is_revision_byte x || (false || false)) ≡ true =
    subst (λ b. (is_revision_byte x || (b || false)) ≡ true) (ne_eqb x 45 none.0) both.0 in
    rw (alone_true (is_revision_byte x) first, revision_bytes t both.1 none.1) refl

fits : (may : ℕ → Bool) (x : ℕ) (part : List ℕ) → list_all may (x ∷ part) ≡ true
    → is_part may (x ∷ part) ≡ true
fits may x part all = rw (lt-ltb 0 (length (x ∷ part)) (omega arith), all) refl

filled : (x : ℕ) (part : List ℕ) → eqb (length (x ∷ part)) 0 ≡ false
filled x part = ne_eqb (length (x ∷ part)) 0 (λ e. omega arith)

pub both_false : (a b : Bool) → a ≡ false → b ≡ false → (a || b) ≡ false
both_false a b ha hb = rw (ha, hb) refl

-- ---- where no revision is written

alone_empty : (t : List ℕ) → (eqb (length t) 0 || false) ≡ true
    → IsOutcome (with_revision None t None) (Err Empty)
alone_empty [] h = (tt, inl refl)
alone_empty (x ∷ t) h =
    absurd (let g = sym (both_false _ false (filled x t) refl) ∙ h in cc)

alone_whole : (t : List ℕ) → IsPlain t → (eqb (length t) 0 || false) ≡ false
    → IsOutcome (with_revision None t None) (Ok (record { epoch = 0; upstream = t; revision = None }))
alone_whole [] plain h = absurd cc
alone_whole (x ∷ t) plain h = (tt, fits (is_upstream_byte false) x t plain, tt, refl)

-- ---- where one is

both_empty : (a b : List ℕ) → IsPlain a → (eqb (length a) 0 || eqb (length b) 0) ≡ true
    → IsOutcome (with_revision None (a ++ 45 ∷ b) (Some (a, b))) (Err Empty)
both_empty [] b plain h = (tt, inl refl)
both_empty (x ∷ a) [] plain h = (tt, inr (fits (is_upstream_byte false) x a plain, refl))
both_empty (x ∷ a) (y ∷ b) plain h =
    absurd (let g = sym (both_false _ _ (filled x a) (filled y b)) ∙ h in cc)

both_whole : (a b : List ℕ) → IsPlain a → list_all is_revision_byte b ≡ true
    → (eqb (length a) 0 || eqb (length b) 0) ≡ false
    → IsOutcome (with_revision None (a ++ 45 ∷ b) (Some (a, b)))
    (Ok (record { epoch = 0; upstream = a; revision = Some b }))
both_whole [] b plain revision h = absurd cc
both_whole (x ∷ a) [] plain revision h =
    absurd (let g = sym (or_right (eqb (length (x ∷ a)) 0) true refl) ∙ h in cc)
both_whole (x ∷ a) (y ∷ b) plain revision h =
    (tt, fits (is_upstream_byte false) x a plain, fits is_revision_byte y b revision, refl)

-- ---- either

cut_plain : (a b : List ℕ) → IsPlain (a ++ 45 ∷ b) → Without 45 b
    → IsPlain a × (list_all is_revision_byte b ≡ true)
cut_plain a b plain none =
    let both = and_parts (list_all (is_upstream_byte false) a)
    (list_all (is_upstream_byte false) (45 ∷ b))
    (sym (list_all-append (is_upstream_byte false) a (45 ∷ b)) ∙ plain) in
    (both.0, revision_bytes b both.1 none)

empty_by : (t : List ℕ) (o : Option (List ℕ × List ℕ)) → IsLastCut 45 t o → IsPlain t
    → (eqb (length (with_revision None t o).upstream) 0
    || is_empty_part (with_revision None t o).revision) ≡ true
    → IsOutcome (with_revision None t o) (Err Empty)
empty_by t None last plain h = alone_empty t h
empty_by t (Some p) last plain h =
    both_empty p.0 p.1 ((cut_plain p.0 p.1 (subst IsPlain last.0 plain) last.1).0) h

whole_by : (t : List ℕ) (o : Option (List ℕ × List ℕ)) → IsLastCut 45 t o → IsPlain t
    → (eqb (length (with_revision None t o).upstream) 0
    || is_empty_part (with_revision None t o).revision) ≡ false
    → IsOutcome (with_revision None t o) (Ok (record {
      epoch = 0;
      upstream = (with_revision None t o).upstream;
      revision = (with_revision None t o).revision;
    }))
whole_by t None last plain h = alone_whole t plain h
whole_by t (Some p) last plain h =
    let parts = cut_plain p.0 p.1 (subst IsPlain last.0 plain) last.1 in
    both_whole p.0 p.1 parts.0 parts.1 h

-- what is read where one of the pieces is empty, and where none is
pub reading-empty : (t : List ℕ) (w : Written) → w ≡ with_revision None t (cut_last 45 t)
    → IsPlain t → (eqb (length w.upstream) 0 || is_empty_part w.revision) ≡ true
    → reading t ≡ Err Empty
reading-empty t w is plain h =
    ap judged (pieces-plain t plain)
    ∙ judged_only (with_revision None t (cut_last 45 t)) (Err Empty)
    (empty_by t (cut_last 45 t) (cut_last_is 45 t) plain
    (subst (λ v. (eqb (length v.upstream) 0 || is_empty_part v.revision) ≡ true) is h))

pub reading-whole : (t : List ℕ) (w : Written) → w ≡ with_revision None t (cut_last 45 t)
    → IsPlain t → (eqb (length w.upstream) 0 || is_empty_part w.revision) ≡ false
    → reading t ≡ Ok (record { epoch = 0; upstream = w.upstream; revision = w.revision })
reading-whole t w is plain h =
    ap judged (pieces-plain t plain)
    ∙ judged_only (with_revision None t (cut_last 45 t)) _
    (whole_by t (cut_last 45 t) (cut_last_is 45 t) plain
    (subst (λ v. (eqb (length v.upstream) 0 || is_empty_part v.revision) ≡ false) is h))
    ∙ ap (λ v. Ok (record { epoch = 0; upstream = v.upstream; revision = v.revision })) (sym is)
