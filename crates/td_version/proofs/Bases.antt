-- The base of a version is what its text splits into.
use Rattle.std.proofs.Common.{◌≡◌, ℕ, suc, zero, ◌<◌, ◌≤◌, Bool, true, false, cond, ltb, List}
use Rattle.std.proofs.Common.{[], ◌∷◌, ◌++◌, length, Option, Some, None, refl, sym, ap, subst, ◌∙◌}
use Rattle.std.proofs.Common.{append_assoc, arith}
use Rattle.std.specs.Prelude.{is_some}
use Rattle.std.specs.List.{list_all}
use Rattle.std.proofs.lemmas.Bool.{and_parts, ltb-true, ne_eqb}
use Rattle.std.proofs.lemmas.List.{append-nil, length-append}
use Rattle.td_version.specs.Base.{rebuilt_from, base_part, upstream_base, base_of, SplitsHaveBases}
use Rattle.td_version.specs.Grammar.{Written, epoch_front, revision_back}
use Rattle.td_version.specs.Grammar.{is_upstream_byte, UpstreamFits, epoch_number, parts_written}
use Rattle.td_version.specs.Grammar.{IsVersion}
use Rattle.td_version.specs.Rebuild.{rebuild_suffix, rebuild_text, EndsInNoRebuild}
use Rattle.td_version.proofs.Outcomes.{pieces_only}
use Rattle.td_version.proofs.Rebuilds.{part_again, rebuilt_found}
use Rattle.td_version.proofs.Suffixed.{extended, extend, parts_are}

either_same : (b : Bool) (x : List ℕ) → cond b x x ≡ x
either_same true x = refl
either_same false x = refl

-- ---- a text that ends in no suffix

revision_stays : (epoch : Option (List ℕ)) (upstream revision : List ℕ) (o : Option (List ℕ))
    → rebuilt_from revision ≡ o
    → EndsInNoRebuild (epoch_front epoch ++ (upstream ++ 45 ∷ revision))
    → base_part revision ≡ revision
revision_stays epoch upstream revision None e plain = rw e refl
revision_stays epoch upstream revision (Some b) e plain =
    let found = rebuilt_found revision b e in
    let front = epoch_front epoch in
    let longer : 0 < length (front ++ (upstream ++ 45 ∷ b)) = simp length-append (omega arith) in
    let joined : (front ++ (upstream ++ 45 ∷ b)) ++ rebuild_suffix found.0
    ≡ front ++ (upstream ++ 45 ∷ rebuild_text b found.0) =
    append_assoc front (upstream ++ 45 ∷ b) (rebuild_suffix found.0)
    ∙ ap (λ (l : List ℕ). front ++ l) (append_assoc upstream (45 ∷ b) (rebuild_suffix found.0)) in
    absurd (plain (front ++ (upstream ++ 45 ∷ b)) found.0 longer found.1 found.2
    (ap (λ (l : List ℕ). front ++ (upstream ++ 45 ∷ l)) found.3 ∙ sym joined))

upstream_stays : (epoch : Option (List ℕ)) (upstream : List ℕ) (o : Option (List ℕ))
    → rebuilt_from upstream ≡ o
    → EndsInNoRebuild (epoch_front epoch ++ (upstream ++ []))
    → upstream_base (epoch_number epoch) upstream ≡ upstream
upstream_stays epoch upstream None e plain = rw e (either_same _ upstream)
upstream_stays None upstream (Some []) e plain = rw e refl
upstream_stays None upstream (Some (x ∷ b)) e plain =
    let found = rebuilt_found upstream (x ∷ b) e in
    let longer : 0 < length (x ∷ b) = omega arith in
    absurd (plain (x ∷ b) found.0 longer found.1 found.2 (append-nil upstream ∙ found.3))
upstream_stays (Some digits) upstream (Some b) e plain =
    let found = rebuilt_found upstream b e in
    let front = digits ++ 58 ∷ [] in
    let longer : 0 < length (front ++ b) = simp length-append (omega arith) in
    let joined : (front ++ b) ++ rebuild_suffix found.0 ≡ front ++ rebuild_text b found.0 =
    append_assoc front b (rebuild_suffix found.0) in
    absurd (plain (front ++ b) found.0 longer found.1 found.2
    (ap (λ (l : List ℕ). front ++ l) (append-nil upstream ∙ found.3) ∙ sym joined))

version_stays : (epoch : Option (List ℕ)) (upstream : List ℕ) (revision : Option (List ℕ))
    → EndsInNoRebuild (epoch_front epoch ++ (upstream ++ revision_back revision))
    → base_of (record { epoch = epoch_number epoch; upstream = upstream; revision = revision })
    ≡ record { epoch = epoch_number epoch; upstream = upstream; revision = revision }
version_stays epoch upstream None plain =
    ap (λ (l : List ℕ). record { epoch = epoch_number epoch; upstream = l; revision = None })
    (upstream_stays epoch upstream (rebuilt_from upstream) refl plain)
version_stays epoch upstream (Some revision) plain =
    ap (λ (l : List ℕ). record {
      epoch = epoch_number epoch;
      upstream = upstream;
      revision = Some l;
    }) (revision_stays epoch upstream revision (rebuilt_from revision) refl plain)

-- ---- a text with a suffix

upstream_loses : (epoch : ℕ) (upstream : List ℕ) (n : ℕ) → 0 < length upstream → 0 < n → n ≤ 9999
    → upstream_base epoch (rebuild_text upstream n) ≡ upstream
upstream_loses epoch upstream n longer some bounded =
    rw (part_again upstream n some bounded, ne_eqb (length upstream) 0 (λ e. omega arith)) refl

version_loses : (epoch : Option (List ℕ)) (upstream : List ℕ) (revision : Option (List ℕ)) (n : ℕ)
    → 0 < length upstream → 0 < n → n ≤ 9999
    → base_of (parts_written (extended epoch upstream revision (rebuild_suffix n)))
    ≡ record { epoch = epoch_number epoch; upstream = upstream; revision = revision }
version_loses epoch upstream None n longer some bounded =
    ap (λ (l : List ℕ). record { epoch = epoch_number epoch; upstream = l; revision = None })
    (upstream_loses (epoch_number epoch) upstream n longer some bounded)
version_loses epoch upstream (Some revision) n longer some bounded =
    ap (λ (l : List ℕ). record {
      epoch = epoch_number epoch;
      upstream = upstream;
      revision = Some l;
    }) (part_again revision n some bounded)

upstream_longer : (w : Written) → UpstreamFits w → 0 < length w.upstream
upstream_longer w fits =
    ltb-true 0 (length w.upstream)
    (and_parts (ltb 0 (length w.upstream))
    (list_all (is_upstream_byte (is_some w.epoch)) w.upstream) fits).0

-- ---- the law

pub splits : SplitsHaveBases
splits text base zero p q is v w =
    let v' : IsVersion base p = subst (λ t. IsVersion t p) (is.spelled ∙ append-nil base) v in
    let pieces_same = sym (pieces_only base v'.written v'.cut) ∙ pieces_only base w.written w.cut in
    let same : p ≡ q = v'.parts ∙ ap parts_written pieces_same ∙ sym w.parts in
    let plain = subst EndsInNoRebuild w.cut.joined (is.plain refl) in
    ap base_of (same ∙ w.parts)
    ∙ version_stays w.written.epoch w.written.upstream w.written.revision plain ∙ sym w.parts
splits text base (suc n) p q is v w =
    let v' : IsVersion (rebuild_text base (suc n)) p = subst (λ t. IsVersion t p) is.spelled v in
    let bounded : suc n ≤ 9999 = is.bounded in
    let parts = parts_are base (suc n) p (omega arith) v'
    ∙ ap (λ (x : Written). parts_written (extend x (rebuild_suffix (suc n))))
    (pieces_only base w.written w.cut) in
    ap base_of parts ∙ version_loses w.written.epoch w.written.upstream w.written.revision (suc n)
    (upstream_longer w.written w.upstream) (omega arith) bounded ∙ sym w.parts
