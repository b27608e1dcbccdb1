-- A version with a rebuild suffix is a version, and rises with the number.
use Rattle.std.proofs.Common.{◌≡◌, ◌≢◌, ℕ, suc, zero, ◌<◌, ◌^◌, Bool, true, false, ltb, List, []}
use Rattle.std.proofs.Common.{◌∷◌, ◌++◌, length, Option, Some, None, refl, sym, ap, ◌∙◌}
use Rattle.std.proofs.Common.{append_assoc, arith}
use Rattle.std.specs.Prelude.{is_some, IsTrue}
use Rattle.std.specs.Char.{is_ascii_digit}
use Rattle.std.specs.Fmt.{decimal}
use Rattle.std.specs.List.{list_all}
use Rattle.std.specs.declared.cmp.Ordering.TheVariants.{Less}
use Rattle.std.specs.Str.{all_ascii_digits}
use Rattle.std.proofs.lemmas.Bool.{and_parts, and_from, or_left, or_right, ltb-true, lt-ltb}
use Rattle.std.proofs.lemmas.Cmp.{tied_itself, nat_cmp_total}
use Rattle.std.proofs.lemmas.Fmt.{digits_decimal}
use Rattle.std.proofs.lemmas.List.{append-nil, length-append}
use Rattle.std.proofs.lemmas.List.Folds.{list_all-append}
use Rattle.td_text.specs.Cut.{Without}
use Rattle.td_text.proofs.Cut.{Without-append, Without-left, Without-right}
use Rattle.td_text.proofs.Numbers.{decimal_model}
use Rattle.td_version.specs.Version.{Parts}
use Rattle.td_version.specs.Order.{is_letter, version_cmp}
use Rattle.td_version.specs.Grammar.{Written, epoch_front, revision_back, written_text}
use Rattle.td_version.specs.Grammar.{IsFirstColon, IsLastHyphen, IsCut, is_revision_byte}
use Rattle.td_version.specs.Grammar.{is_upstream_byte, is_part, EpochFits, UpstreamFits}
use Rattle.td_version.specs.Grammar.{RevisionFits, epoch_number, parts_written, IsVersion}
use Rattle.td_version.specs.Rebuild.{rebuild_suffix, rebuild_text}
use Rattle.td_version.specs.Laws.{RebuildsAreVersions, RebuildsRise}
use Rattle.td_version.proofs.Outcomes.{pieces_cut, pieces_only}
use Rattle.td_version.specs.Reading.{pieces}
use Rattle.td_version.proofs.Total.{part_total}
use Rattle.td_version.proofs.Rising.{part_cmp-suffixes}

abbrev pub extended : Option (List ℕ) → List ℕ → Option (List ℕ) → List ℕ → Written
extended epoch upstream None s = record { epoch = epoch; upstream = upstream ++ s; revision = None }
extended epoch upstream (Some revision) s =
    record { epoch = epoch; upstream = upstream; revision = Some (revision ++ s) }

-- the pieces with a suffix behind the last of them
abbrev pub extend : Written → List ℕ → Written
extend w s = extended w.epoch w.upstream w.revision s

first_colon-extended : (epoch : Option (List ℕ)) (upstream : List ℕ) (revision : Option (List ℕ))
    (s : List ℕ) → Without 58 s → IsFirstColon epoch (upstream ++ revision_back revision)
    → IsFirstColon (extended epoch upstream revision s).epoch
    ((extended epoch upstream revision s).upstream
    ++ revision_back (extended epoch upstream revision s).revision)
first_colon-extended (Some digits) upstream None s none first = first
first_colon-extended (Some digits) upstream (Some revision) s none first = first
first_colon-extended None upstream None s none first =
    Without-append 58 (upstream ++ s) []
    (Without-append 58 upstream s (Without-left 58 upstream [] first) none) tt
first_colon-extended None upstream (Some revision) s none first =
    let back = Without-right 58 upstream (45 ∷ revision) first in
    Without-append 58 upstream (45 ∷ (revision ++ s))
    (Without-left 58 upstream (45 ∷ revision) first)
    (back.0, Without-append 58 revision s back.1 none)

last_hyphen-extended : (epoch : Option (List ℕ)) (upstream : List ℕ) (revision : Option (List ℕ))
    (s : List ℕ) → Without 45 s → IsLastHyphen upstream revision → IsLastHyphen
    (extended epoch upstream revision s).upstream (extended epoch upstream revision s).revision
last_hyphen-extended epoch upstream None s none last = Without-append 45 upstream s last none
last_hyphen-extended epoch upstream (Some revision) s none last =
    Without-append 45 revision s last none

text-extended : (epoch : Option (List ℕ)) (upstream : List ℕ) (revision : Option (List ℕ))
    (s : List ℕ) → (epoch_front epoch ++ (upstream ++ revision_back revision)) ++ s
    ≡ written_text (extended epoch upstream revision s)
text-extended epoch upstream None s = simp (append-nil, append_assoc)
text-extended epoch upstream (Some revision) s = simp append_assoc

cut_extended : (text : List ℕ) (w : Written) (s : List ℕ) → IsCut text w → Without 58 s
    → Without 45 s → IsCut (text ++ s) (extend w s)
cut_extended text w s cut colons hyphens = record {
  joined = ap (λ (l : List ℕ). l ++ s) cut.joined ∙ text-extended w.epoch w.upstream w.revision s;
  first_colon = first_colon-extended w.epoch w.upstream w.revision s colons cut.first_colon;
  last_hyphen = last_hyphen-extended w.epoch w.upstream w.revision s hyphens cut.last_hyphen;
}

-- ---- the suffix

digits_lack : (c : ℕ) (t : List ℕ) → is_ascii_digit c ≡ false → all_ascii_digits t ≡ true
    → Without c t
digits_lack c [] out h = tt
digits_lack c (x ∷ t) out h =
    let p = and_parts (is_ascii_digit x) (all_ascii_digits t) h in (
      λ e. (let bad : false ≡ true = sym out ∙ ap is_ascii_digit (sym e) ∙ p.0 in cc),
      digits_lack c t out p.1,
    )

suffix_lacks : (c n : ℕ) → is_ascii_digit c ≡ false → 43 ≢ c → 98 ≢ c → n < 2 ^ 64
    → Without c (rebuild_suffix n)
suffix_lacks c zero out plus letter small = tt
suffix_lacks c (suc n) out plus letter small = (
  plus,
  (letter, digits_lack c (decimal (suc n)) out (digits_decimal decimal_model (suc n) small)),
)

-- a rebuild is cut where its base is
cut_rebuild : (base : List ℕ) (n : ℕ) → n < 2 ^ 64
    → IsCut (rebuild_text base n) (extend (pieces base) (rebuild_suffix n))
cut_rebuild base n small =
    cut_extended base (pieces base) (rebuild_suffix n) (pieces_cut base)
    (suffix_lacks 58 n refl (λ e. omega arith) (λ e. omega arith) small)
    (suffix_lacks 45 n refl (λ e. omega arith) (λ e. omega arith) small)

digits_may_stand : (t : List ℕ) → all_ascii_digits t ≡ true → list_all is_revision_byte t ≡ true
digits_may_stand [] h = refl
digits_may_stand (x ∷ t) h =
    let p = and_parts (is_ascii_digit x) (all_ascii_digits t) h in
    and_from _ _ (or_right (is_letter x) _ (or_left (is_ascii_digit x) _ p.0))
    (digits_may_stand t p.1)

suffix_may_stand : (n : ℕ) → n < 2 ^ 64 → list_all is_revision_byte (rebuild_suffix n) ≡ true
suffix_may_stand zero small = refl
suffix_may_stand (suc n) small =
    digits_may_stand (decimal (suc n)) (digits_decimal decimal_model (suc n) small)

all_in_upstream : (has_epoch : Bool) (t : List ℕ) → list_all is_revision_byte t ≡ true
    → list_all (is_upstream_byte has_epoch) t ≡ true
all_in_upstream has_epoch [] h = refl
all_in_upstream has_epoch (x ∷ t) h =
    let p = and_parts (is_revision_byte x) (list_all is_revision_byte t) h in
    and_from _ _ (or_left (is_revision_byte x) _ p.0) (all_in_upstream has_epoch t p.1)

is_part-append : (may : ℕ → Bool) (a b : List ℕ) → is_part may a ≡ true → list_all may b ≡ true
    → is_part may (a ++ b) ≡ true
is_part-append may a b h k =
    let p = and_parts (ltb 0 (length a)) (list_all may a) h in
    let some = ltb-true 0 (length a) p.0 in
    let longer = length-append a b in
    and_from _ _ (lt-ltb 0 (length (a ++ b)) (omega arith))
    (list_all-append may a b ∙ and_from _ _ p.1 k)

-- ---- the two laws

parts_fit : (epoch : Option (List ℕ)) (upstream : List ℕ) (revision : Option (List ℕ)) (n : ℕ)
    → n < 2 ^ 64 → EpochFits epoch → IsTrue (is_part (is_upstream_byte (is_some epoch)) upstream)
    → RevisionFits revision
    → (EpochFits (extended epoch upstream revision (rebuild_suffix n)).epoch
    × UpstreamFits (extended epoch upstream revision (rebuild_suffix n)))
    × RevisionFits (extended epoch upstream revision (rebuild_suffix n)).revision
parts_fit epoch upstream None n small e u r = (
  (
    e,
    is_part-append (is_upstream_byte (is_some epoch)) upstream (rebuild_suffix n) u
        (all_in_upstream (is_some epoch) (rebuild_suffix n) (suffix_may_stand n small)),
  ),
  tt,
)
parts_fit epoch upstream (Some revision) n small e u r = (
  (e, u),
  is_part-append is_revision_byte revision (rebuild_suffix n) r (suffix_may_stand n small),
)

pub rebuilds_read : RebuildsAreVersions
rebuilds_read base p n v bounded =
    let small : n < 2 ^ 64 = omega arith in
    let w = v.written in
    let fit = parts_fit w.epoch w.upstream w.revision n small v.epoch v.upstream v.revision in (
      parts_written (extend w (rebuild_suffix n)),
      record {
        written = extend w (rebuild_suffix n);
        cut = cut_extended base w (rebuild_suffix n) v.cut
            (suffix_lacks 58 n refl (λ e. omega arith) (λ e. omega arith) small)
            (suffix_lacks 45 n refl (λ e. omega arith) (λ e. omega arith) small);
        epoch = fit.0.0;
        upstream = fit.0.1;
        revision = fit.1;
        parts = refl;
      },
    )

parts_rise : (epoch : Option (List ℕ)) (upstream : List ℕ) (revision : Option (List ℕ)) (m n : ℕ)
    → m < n → n < 2 ^ 64
    → version_cmp (parts_written (extended epoch upstream revision (rebuild_suffix m)))
    (parts_written (extended epoch upstream revision (rebuild_suffix n))) ≡ Less
parts_rise epoch upstream None m n lt small =
    rw (tied_itself nat_cmp_total (epoch_number epoch), part_cmp-suffixes upstream m n lt small)
    refl
parts_rise epoch upstream (Some revision) m n lt small =
    rw (
      tied_itself nat_cmp_total (epoch_number epoch),
      tied_itself part_total upstream,
      part_cmp-suffixes revision m n lt small,
    ) refl

-- the parts of a rebuild
pub parts_are : (base : List ℕ) (n : ℕ) (p : Parts) → n < 2 ^ 64 → IsVersion (rebuild_text base n) p
    → p ≡ parts_written (extend (pieces base) (rebuild_suffix n))
parts_are base n p small v =
    v.parts ∙ ap parts_written
    (sym (pieces_only (rebuild_text base n) v.written v.cut)
    ∙ pieces_only (rebuild_text base n) (extend (pieces base) (rebuild_suffix n))
    (cut_rebuild base n small))

pub rebuilds_rise : RebuildsRise
rebuilds_rise base m n lt bounded low high v w =
    rw (parts_are base m low (omega arith) v, parts_are base n high (omega arith) w)
    (parts_rise (pieces base).epoch (pieces base).upstream (pieces base).revision m n lt
    (omega arith))
