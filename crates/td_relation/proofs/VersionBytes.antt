-- The bytes of a version.
use Rattle.std.proofs.Common.{◌≡◌, ℕ, ◌<◌, Bool, true, false, ltb, ◌&&◌, ◌||◌, List, [], ◌∷◌, ◌++◌}
use Rattle.std.proofs.Common.{length, Option, Some, None, refl, ap, ◌∙◌, arith}
use Rattle.std.specs.Prelude.{is_some}
use Rattle.std.specs.Char.{is_ascii_digit}
use Rattle.std.specs.List.{list_all}
use Rattle.std.specs.Str.{all_ascii_digits}
use Rattle.std.proofs.lemmas.Bool.{and_parts, and_from, or_left, or_right, ltb-true}
use Rattle.std.proofs.lemmas.List.{length-append}
use Rattle.std.proofs.lemmas.List.Folds.{list_all-append}
use Rattle.td_version.specs.Order.{is_letter}
use Rattle.td_version.specs.Version.{Parts}
use Rattle.td_version.specs.Grammar.{epoch_front, revision_back, is_revision_byte, is_upstream_byte}
use Rattle.td_version.specs.Grammar.{EpochFits, RevisionFits, IsVersion}
use Rattle.td_relation.specs.RelationGrammar.{is_version_byte}

pass_on : (p q : ℕ → Bool) (t : List ℕ) → ((b : ℕ) → p b ≡ true → q b ≡ true) → list_all p t ≡ true
    → list_all q t ≡ true
pass_on p q [] f h = refl
pass_on p q (x ∷ t) f h =
    let a = and_parts (p x) (list_all p t) h in
    and_from _ _ (f x a.0) (pass_on p q t f a.1)

-- each kind of byte is one of a version
widen : (r m e c : Bool) → (r || (m || (e && c))) ≡ true → (r || (m || c)) ≡ true
widen true m e c h = refl
widen false true e c h = refl
widen false false true c h = h
widen false false false c h = absurd cc

revision_byte : (b : ℕ) → is_revision_byte b ≡ true → is_version_byte b ≡ true
revision_byte b h = or_left (is_revision_byte b) _ h

digit_bytes : (t : List ℕ) → all_ascii_digits t ≡ true → list_all is_version_byte t ≡ true
digit_bytes [] h = refl
digit_bytes (x ∷ t) h =
    let a = and_parts (is_ascii_digit x) (all_ascii_digits t) h in
    and_from _ _ (revision_byte x (or_right (is_letter x) _ (or_left (is_ascii_digit x) _ a.0)))
    (digit_bytes t a.1)

epoch_bytes : (epoch : Option (List ℕ)) → EpochFits epoch
    → list_all is_version_byte (epoch_front epoch) ≡ true
epoch_bytes None h = refl
epoch_bytes (Some digits) h =
    let a = and_parts (ltb 0 (length digits)) _ h in
    let b = and_parts (all_ascii_digits digits) _ a.1 in
    list_all-append is_version_byte digits (58 ∷ [])
    ∙ and_from _ _ (digit_bytes digits b.0) refl

revision_bytes : (revision : Option (List ℕ)) → RevisionFits revision
    → list_all is_version_byte (revision_back revision) ≡ true
revision_bytes None h = refl
revision_bytes (Some revision) h =
    let a = and_parts (ltb 0 (length revision)) (list_all is_revision_byte revision) h in
    pass_on is_revision_byte is_version_byte revision revision_byte a.1

module _ (text : List ℕ) (p : Parts) (v : IsVersion text p) where
  upstream : (0 < length v.written.upstream) × (list_all is_version_byte v.written.upstream ≡ true)
  upstream =
      let w = v.written in
      let a = and_parts (ltb 0 (length w.upstream))
      (list_all (is_upstream_byte (is_some w.epoch)) w.upstream) v.upstream in (
        ltb-true 0 (length w.upstream) a.0,
        pass_on (is_upstream_byte (is_some w.epoch)) is_version_byte w.upstream
            (λ b h. widen _ _ (is_some w.epoch) _ h) a.1,
      )

  pub version_bytes : list_all is_version_byte text ≡ true
  version_bytes =
      let w = v.written in
      ap (list_all is_version_byte) v.cut.joined
      ∙ list_all-append is_version_byte (epoch_front w.epoch)
      (w.upstream ++ revision_back w.revision)
      ∙ and_from _ _ (epoch_bytes w.epoch v.epoch)
      (list_all-append is_version_byte w.upstream (revision_back w.revision)
      ∙ and_from _ _ upstream.1 (revision_bytes w.revision v.revision))

  pub version_filled : 0 < length text
  version_filled =
      let w = v.written in
      let some = upstream.0 in
      omega (
        arith,
        ap length v.cut.joined,
        length-append (epoch_front w.epoch) (w.upstream ++ revision_back w.revision),
        length-append w.upstream (revision_back w.revision),
      )
