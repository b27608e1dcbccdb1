-- The reader finds the grammar's versions, and else the first fault.
use Rattle.std.proofs.Common.{◌≡◌, ℕ, ◌+◌, ◌<◌, ◌⊎◌, Bool, true, false, not, ltb, List, [], ◌∷◌}
use Rattle.std.proofs.Common.{◌++◌, length, Option, Some, None, Result, Ok, Err, refl, sym, ap}
use Rattle.std.proofs.Common.{subst, ◌∙◌, append_assoc, arith, one-add, inl, inr}
use Rattle.std.specs.Prelude.{is_some, IfOk, IfErr, IsOkAnd}
use Rattle.std.specs.List.{list_all, position, position_or_len}
use Rattle.std.proofs.lemmas.Bool.{cases_Bool, and_parts, lt-ltb, le-ltb, ne_eqb}
use Rattle.std.proofs.lemmas.Bool.{false_from_ne_true}
use Rattle.std.proofs.lemmas.List.{append-nil}
use Rattle.td_version.specs.declared.version.VersionFault.{VersionFault}
use Rattle.td_version.specs.declared.version.VersionFault.TheVariants.{Empty, BadEpoch}
use Rattle.td_version.specs.declared.version.VersionFault.TheVariants.{BadCharacter}
use Rattle.td_version.specs.declared.version.Version.{Version}
use Rattle.td_version.specs.Version.{Parts, parts_of}
use Rattle.td_version.specs.Grammar.{Written, epoch_front, revision_back, IsFirstColon}
use Rattle.td_version.specs.Grammar.{IsLastHyphen, IsCut, is_revision_byte, is_upstream_byte}
use Rattle.td_version.specs.Grammar.{is_epoch, is_part, EpochFits, UpstreamFits, RevisionFits}
use Rattle.td_version.specs.Grammar.{epoch_number, parts_written, IsVersion}
use Rattle.td_version.specs.Faults.{upstream_start, revision_start, HasFault, IsFirstFault}
use Rattle.td_version.specs.Reading.{cut_last, with_revision, with_epoch, pieces, digits_at}
use Rattle.td_version.specs.Reading.{epoch_at, placed, part_at, revision_at, judged, reading}
use Rattle.td_version.specs.Reading.{parts_read}
use Rattle.td_text.specs.Cut.{cut}
use Rattle.td_text.proofs.Cut.{cut-at, cut_none}
use Rattle.td_version.proofs.Cuts.{cut_is, IsFirstCut, cut_last-at, cut_last_none, cut_last_is}
use Rattle.td_version.proofs.Cuts.{IsLastCut}

-- ---- the pieces

cut_with : (text : List ℕ) (epoch : Option (List ℕ)) (rest : List ℕ) (o : Option (List ℕ × List ℕ))
    → IsLastCut 45 rest o → text ≡ epoch_front epoch ++ rest → IsFirstColon epoch rest
    → IsCut text (with_revision epoch rest o)
cut_with text epoch rest None last whole colon = record {
  joined = whole ∙ ap (λ (l : List ℕ). epoch_front epoch ++ l) (sym (append-nil rest));
  first_colon = subst (IsFirstColon epoch) (sym (append-nil rest)) colon;
  last_hyphen = last;
}
cut_with text epoch rest (Some p) last whole colon = record {
  joined = whole ∙ ap (λ (l : List ℕ). epoch_front epoch ++ l) last.0;
  first_colon = subst (IsFirstColon epoch) last.0 colon;
  last_hyphen = last.1;
}

cut_by : (text : List ℕ) (o : Option (List ℕ × List ℕ)) → IsFirstCut 58 text o
    → IsCut text (with_epoch text o)
cut_by text None first = cut_with text None text (cut_last 45 text) (cut_last_is 45 text) refl first
cut_by text (Some p) first =
    cut_with text (Some p.0) p.1 (cut_last 45 p.1) (cut_last_is 45 p.1)
    (first.0 ∙ sym (append_assoc p.0 (58 ∷ []) p.1)) first.1

-- a text is cut into its pieces ..
pub pieces_cut : (text : List ℕ) → IsCut text (pieces text)
unfolding pieces
pieces_cut text = cut_by text (cut 58 text) (cut_is 58 text)

revision_of : (epoch : Option (List ℕ)) (upstream : List ℕ) (revision : Option (List ℕ))
    → IsLastHyphen upstream revision
    → with_revision epoch (upstream ++ revision_back revision)
    (cut_last 45 (upstream ++ revision_back revision))
    ≡ record { epoch = epoch; upstream = upstream; revision = revision }
revision_of epoch upstream None last = rw (append-nil, cut_last_none 45 upstream last) refl
revision_of epoch upstream (Some revision) last = rw (cut_last-at 45 upstream revision last) refl

pieces_of : (epoch : Option (List ℕ)) (upstream : List ℕ) (revision : Option (List ℕ))
    → IsFirstColon epoch (upstream ++ revision_back revision) → IsLastHyphen upstream revision
    → pieces (epoch_front epoch ++ (upstream ++ revision_back revision))
    ≡ record { epoch = epoch; upstream = upstream; revision = revision }
unfolding pieces
pieces_of None upstream revision first last =
    rw (cut_none 58 (upstream ++ revision_back revision) first)
    (revision_of None upstream revision last)
pieces_of (Some digits) upstream revision first last =
    rw (
      append_assoc digits (58 ∷ []) (upstream ++ revision_back revision),
      cut-at 58 digits (upstream ++ revision_back revision) first,
    ) (revision_of (Some digits) upstream revision last)

-- .. and into no others
pub pieces_only : (text : List ℕ) (w : Written) → IsCut text w → pieces text ≡ w
pieces_only text w cut =
    ap pieces cut.joined ∙ pieces_of w.epoch w.upstream w.revision cut.first_colon cut.last_hyphen

-- ---- the checks of a part

all_pass : (may : ℕ → Bool) (t : List ℕ) → list_all may t ≡ true
    → position_or_len (λ b. not (may b)) t ≡ length t
all_pass may [] h = refl
all_pass may (x ∷ t) h =
    let p = and_parts (may x) (list_all may t) h in
    rw (p.0, one-add, all_pass may t p.1) refl

some_fails : (may : ℕ → Bool) (t : List ℕ) → list_all may t ≡ false
    → position_or_len (λ b. not (may b)) t < length t
some_fails may [] h = absurd cc
some_fails may (x ∷ t) h =
    elim (cases_Bool (may x)) [
      | inl good ↦ let lt = some_fails may t (sym (rw good refl) ∙ h) in rw good (omega arith)
      | inr bad ↦ rw bad (omega arith)
    ]

part_fits : (may : ℕ → Bool) (start : ℕ) (part : List ℕ) → is_part may part ≡ true
    → part_at may start part ≡ Ok tt
part_fits may start [] h = absurd cc
part_fits may start (x ∷ part) h =
    let p = and_parts (ltb 0 (length (x ∷ part))) (list_all may (x ∷ part)) h in
    rw (
      ne_eqb (length (x ∷ part)) 0 (λ e. omega arith),
      all_pass may (x ∷ part) p.1,
      le-ltb (length (x ∷ part)) (length (x ∷ part)) (omega arith),
    ) refl

part_empty : (may : ℕ → Bool) (start : ℕ) (part : List ℕ) → part ≡ []
    → part_at may start part ≡ Err Empty
part_empty may start part h = rw h refl

part_bad : (may : ℕ → Bool) (start : ℕ) (part : List ℕ) (i : ℕ) → position (λ b. not (may b)) part
    ≡ Some i → part_at may start part ≡ Err (BadCharacter (start + i))
part_bad may start [] i h = absurd cc
part_bad may start (x ∷ part) i h =
    rw (ne_eqb (length (x ∷ part)) 0 (λ e. omega arith)) (ap (placed start) h)

-- a part fits, is empty, or has a first bad byte
data PartCase (may : ℕ → Bool) (part : List ℕ) : Type 0 where
  fits : is_part may part ≡ true → PartCase may part
  empty : part ≡ [] → PartCase may part
  bad : (i : ℕ) → position (λ b. not (may b)) part ≡ Some i → PartCase may part

part_case : (may : ℕ → Bool) (part : List ℕ) → PartCase may part
part_case may [] = empty refl
part_case may (x ∷ part) =
    elim (cases_Bool (list_all may (x ∷ part))) [
      | inl all ↦ fits (rw (lt-ltb 0 (length (x ∷ part)) (omega arith), all) refl)
      | inr fails ↦
          bad (position_or_len (λ b. not (may b)) (x ∷ part))
          (rw (lt-ltb _ _ (some_fails may (x ∷ part) fails)) refl)
    ]

-- ---- the checks of a whole

epoch_fits : (epoch : Option (List ℕ)) → EpochFits epoch → epoch_at epoch ≡ Ok (epoch_number epoch)
unfolding epoch_at digits_at
epoch_fits None h = refl
epoch_fits (Some digits) h = rw h refl

epoch_bad : (epoch : Option (List ℕ)) → (¬ EpochFits epoch) → epoch_at epoch ≡ Err BadEpoch
unfolding epoch_at digits_at
epoch_bad None h = absurd (h tt)
epoch_bad (Some digits) h = rw (false_from_ne_true (is_epoch digits) h) refl

epoch_case : (epoch : Option (List ℕ)) → EpochFits epoch ⊎ (¬ EpochFits epoch)
epoch_case None = inl tt
epoch_case (Some digits) =
    elim (cases_Bool (is_epoch digits)) [
      | inl yes_epoch ↦ inl yes_epoch
      | inr no_epoch ↦ inr (λ h. (let e = sym no_epoch ∙ h in cc))
    ]

revision_fits : (start : ℕ) (revision : Option (List ℕ)) → RevisionFits revision
    → revision_at start revision ≡ Ok tt
unfolding revision_at
revision_fits start None h = refl
revision_fits start (Some part) h = part_fits is_revision_byte start part h

-- what the checks answer to these pieces
abbrev pub IsOutcome : Written → Result Parts VersionFault → Type 0
IsOutcome w (Ok p) =
    EpochFits w.epoch × UpstreamFits w × RevisionFits w.revision × (p ≡ parts_written w)
IsOutcome w (Err fault) = HasFault w fault

pub judged_only : (w : Written) (r : Result Parts VersionFault) → IsOutcome w r → judged w ≡ r
unfolding judged revision_at
judged_only w (Ok p) o =
    rw (
      epoch_fits w.epoch o.0,
      part_fits (is_upstream_byte (is_some w.epoch)) (upstream_start w) w.upstream o.1,
      revision_fits (revision_start w) w.revision o.2,
      o.3,
    ) refl
judged_only w (Err BadEpoch) o = rw (epoch_bad w.epoch o) refl
judged_only w (Err Empty) o =
    elim o.1 [
      | inl none ↦
          rw (
            epoch_fits w.epoch o.0,
            part_empty (is_upstream_byte (is_some w.epoch)) (upstream_start w) w.upstream none,
          ) refl
      | inr later ↦
          rw (
            epoch_fits w.epoch o.0,
            part_fits (is_upstream_byte (is_some w.epoch)) (upstream_start w) w.upstream later.0,
            later.1,
          ) refl
    ]
judged_only w (Err (BadCharacter place)) o =
    elim o.1 [
      | inl early ↦
          rw (
            epoch_fits w.epoch o.0,
            part_bad (is_upstream_byte (is_some w.epoch)) (upstream_start w) w.upstream early.0
                early.1,
            early.2,
          ) refl
      | inr later ↦
          rw (
            epoch_fits w.epoch o.0,
            part_fits (is_upstream_byte (is_some w.epoch)) (upstream_start w) w.upstream later.0,
            later.1.1,
            part_bad is_revision_byte (revision_start w) later.1.0 later.1.2.0 later.1.2.1,
            later.1.2.2,
          ) refl
    ]

-- a revision is missing, fits, is empty, or has a first bad byte
data RevisionCase (revision : Option (List ℕ)) : Type 0 where
  sound : RevisionFits revision → RevisionCase revision
  blank : revision ≡ Some [] → RevisionCase revision
  faulty : (part : List ℕ) → revision ≡ Some part → (i : ℕ)
      → position (λ b. not (is_revision_byte b)) part ≡ Some i → RevisionCase revision

revision_case : (revision : Option (List ℕ)) → RevisionCase revision
revision_case None = sound tt
revision_case (Some part) =
    elim (part_case is_revision_byte part) [
      | fits h ↦ sound h
      | empty h ↦ blank (ap (λ (l : List ℕ). Some l) h)
      | bad i h ↦ faulty part refl i h
    ]

-- the checks have an outcome
outcome : (w : Written) → (r : Result Parts VersionFault) × IsOutcome w r
outcome w =
    elim (epoch_case w.epoch) [
      | inr no_epoch ↦ (Err BadEpoch, no_epoch)
      | inl epoch ↦
          elim (part_case (is_upstream_byte (is_some w.epoch)) w.upstream) [
            | empty h ↦ (Err Empty, (epoch, inl h))
            | bad i h ↦ (Err (BadCharacter (upstream_start w + i)), (epoch, inl (i, h, refl)))
            | fits upstream ↦
                elim (revision_case w.revision) [
                  | sound h ↦ (Ok (parts_written w), (epoch, upstream, h, refl))
                  | blank h ↦ (Err Empty, (epoch, inr (upstream, h)))
                  | faulty part is i h ↦ (
                    Err (BadCharacter (revision_start w + i)),
                    (epoch, inr (upstream, (part, is, (i, h, refl)))),
                  )
                ]
          ]
    ]

judged_is : (w : Written) → IsOutcome w (judged w)
judged_is w = let o = outcome w in subst (IsOutcome w) (sym (judged_only w o.0 o.1)) o.1

-- ---- the reader

pub read_found : (text : List ℕ) (p : Parts) → reading text ≡ Ok p → IsVersion text p
read_found text p e =
    let o = subst (IsOutcome (pieces text)) e (judged_is (pieces text)) in
    record {
      written = pieces text;
      cut = pieces_cut text;
      epoch = o.0;
      upstream = o.1;
      revision = o.2;
      parts = o.3;
    }

pub read_only : (text : List ℕ) (p : Parts) → IsVersion text p → reading text ≡ Ok p
read_only text p v =
    ap judged (pieces_only text v.written v.cut)
    ∙ judged_only v.written (Ok p) (v.epoch, v.upstream, v.revision, v.parts)

pub read_fault : (text : List ℕ) (fault : VersionFault) → reading text ≡ Err fault
    → IsFirstFault text fault
read_fault text fault e =
    (pieces text, pieces_cut text, subst (IsOutcome (pieces text)) e (judged_is (pieces text)))

pub read_refused : (text : List ℕ) (fault : VersionFault) → IsFirstFault text fault
    → reading text ≡ Err fault
read_refused text fault f = ap judged (pieces_only text f.0 f.1) ∙ judged_only f.0 (Err fault) f.2

-- ---- the same of what the call returned

pub found : (text : List ℕ) (r : Result Version VersionFault) → parts_read r ≡ reading text
    → IfOk r (λ version. IsVersion text (parts_of version))
found text (Ok version) e = read_found text (parts_of version) (sym e)
found text (Err fault) e = tt

pub only : (text : List ℕ) (r : Result Version VersionFault) → parts_read r ≡ reading text
    → (p : Parts) → IsVersion text p → IsOkAnd r (λ version. parts_of version ≡ p)
only text (Ok version) e p v = let f = e ∙ read_only text p v in cc
only text (Err fault) e p v = absurd (let f = e ∙ read_only text p v in cc)

pub faulted : (text : List ℕ) (r : Result Version VersionFault) → parts_read r ≡ reading text
    → IfErr r (λ fault. IsFirstFault text fault)
faulted text (Ok version) e = tt
faulted text (Err fault) e = read_fault text fault (sym e)

pub refused : (text : List ℕ) (r : Result Version VersionFault) → parts_read r ≡ reading text
    → (fault : VersionFault) → IsFirstFault text fault → r ≡ Err fault
refused text (Ok version) e fault f = absurd (let g = e ∙ read_refused text fault f in cc)
refused text (Err other) e fault f = let g = e ∙ read_refused text fault f in cc

-- ---- the steps of `judge`

pub judged-upstream : (w : Written) (n : ℕ) (fault : VersionFault) → epoch_at w.epoch ≡ Ok n
    → part_at (is_upstream_byte (is_some w.epoch)) (upstream_start w) w.upstream ≡ Err fault
    → judged w ≡ Err fault
unfolding judged
judged-upstream w n fault e u = rw (e, u) refl

pub judged-revision : (w : Written) (n : ℕ) (fault : VersionFault) → epoch_at w.epoch ≡ Ok n
    → part_at (is_upstream_byte (is_some w.epoch)) (upstream_start w) w.upstream ≡ Ok tt
    → revision_at (revision_start w) w.revision ≡ Err fault → judged w ≡ Err fault
unfolding judged
judged-revision w n fault e u v = rw (e, u, v) refl

pub judged-whole : (w : Written) (n : ℕ) → epoch_at w.epoch ≡ Ok n
    → part_at (is_upstream_byte (is_some w.epoch)) (upstream_start w) w.upstream ≡ Ok tt
    → revision_at (revision_start w) w.revision ≡ Ok tt
    → judged w ≡ Ok (record { epoch = n; upstream = w.upstream; revision = w.revision })
unfolding judged
judged-whole w n e u v = rw (e, u, v) refl
