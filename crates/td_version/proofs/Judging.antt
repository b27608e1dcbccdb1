-- The steps of the reader, from what its helpers answer.
use Rattle.std.proofs.Common.{◌≡◌, ℕ, ◌+◌, Bool, not, List, [], ◌∷◌, length, Option, Some, None}
use Rattle.std.proofs.Common.{option_map, Result, refl, sym, ap, subst, ◌∙◌, arith}
use Rattle.std.specs.Prelude.{is_some}
use Rattle.std.specs.List.{position}
use Rattle.std.proofs.lemmas.List.{length-append}
use Rattle.td_version.specs.declared.version.VersionFault.{VersionFault}
use Rattle.td_version.specs.declared.reading.Pieces.{Pieces}
use Rattle.td_version.specs.Grammar.{Written, epoch_front, written_text, is_upstream_byte}
use Rattle.td_version.specs.Faults.{upstream_start, revision_start}
use Rattle.td_version.specs.Reading.{cut_last, with_revision, with_epoch, pieces, written_of}
use Rattle.td_version.specs.Reading.{checked, part_at, revision_at}
use Rattle.td_text.specs.Cut.{cut}
use Rattle.td_version.proofs.Cuts.{IsFirstCut, cut_is}
use Rattle.td_version.proofs.Outcomes.{pieces_cut}

is_some-option_map : {A B : Type 0} (f : A → B) (o : Option A)
    → is_some (option_map f o) ≡ is_some o
is_some-option_map f None = refl
is_some-option_map f (Some x) = refl

-- the check of the upstream part
pub upstream_step : (p : Pieces) (has : Bool) (bad : Option ℕ) (r : Result Unit VersionFault)
    → p.start ≡ upstream_start (written_of p) → has ≡ is_some p.epoch
    → bad ≡ position (λ b. not (is_upstream_byte has b)) p.upstream.now
    → r ≡ checked p.upstream.now p.start bad → part_at (is_upstream_byte
    (is_some (written_of p).epoch)) (upstream_start (written_of p)) p.upstream.now ≡ r
upstream_step p has bad r start is place answer =
    ap (λ (h : Bool). part_at (is_upstream_byte h) (upstream_start (written_of p)) p.upstream.now)
    (is_some-option_map (λ x. x.now) p.epoch ∙ sym is)
    ∙ ap (λ (s : ℕ). part_at (is_upstream_byte has) s p.upstream.now) (sym start)
    ∙ ap (λ (o : Option ℕ). checked p.upstream.now p.start o) (sym place)
    ∙ sym answer

-- the check of the revision
pub revision_step : (p : Pieces) (r : Result Unit VersionFault)
    → p.start ≡ upstream_start (written_of p)
    → r ≡ revision_at (p.start + length p.upstream.now + 1) (written_of p).revision
    → revision_at (revision_start (written_of p)) (written_of p).revision ≡ r
revision_step p r start answer =
    ap (λ (s : ℕ). revision_at (s + length p.upstream.now + 1) (written_of p).revision) (sym start)
    ∙ sym answer

-- ---- the lengths of the pieces

pub length-cut : (c : ℕ) (text : List ℕ) (digits rest : List ℕ) → cut c text ≡ Some (digits, rest)
    → length text ≡ length digits + 1 + length rest
length-cut c text digits rest e =
    let cut = subst (IsFirstCut c text) e (cut_is c text) in
    let whole = ap length cut.0 in
    let parts = length-append digits (c ∷ rest) in
    omega arith

epoch-with_revision : (epoch : Option (List ℕ)) (rest : List ℕ) (o : Option (List ℕ × List ℕ))
    → (with_revision epoch rest o).epoch ≡ epoch
epoch-with_revision epoch rest None = refl
epoch-with_revision epoch rest (Some p) = refl

pub start-with_revision : (w : Written) (digits rest : List ℕ)
    → w ≡ with_revision (Some digits) rest (cut_last 45 rest) → upstream_start w ≡ length digits + 1
start-with_revision w digits rest is =
    ap upstream_start is ∙ ap (λ (epoch : Option (List ℕ)). length (epoch_front epoch))
    (epoch-with_revision (Some digits) rest (cut_last 45 rest)) ∙ length-append digits (58 ∷ [])

pub length-with_revision : (text : List ℕ) (w : Written) (digits rest : List ℕ)
    → cut 58 text ≡ Some (digits, rest) → w ≡ with_revision (Some digits) rest (cut_last 45 rest)
    → length (written_text w) ≡ length text
unfolding pieces
length-with_revision text w digits rest e is =
    let joined = subst (λ o. text ≡ written_text (with_epoch text o)) e (pieces_cut text).joined in
    ap (λ v. length (written_text v)) is ∙ ap length (sym joined)
