-- A key is read exactly from its text.
use Rattle.std.proofs.Common.{◌≡◌, ◌≢◌, ℕ, false, ◌&&◌, List, ◌∷◌, ◌++◌, Some, refl, sym, subst}
use Rattle.std.proofs.Common.{arith}
use Rattle.std.proofs.lemmas.Bool.{and_parts}
use Rattle.td_text.specs.Cut.{Without}
use Rattle.td_text.specs.Exact.{Exact}
use Rattle.td_text.specs.Words.{is_name, is_name_byte, is_arch}
use Rattle.td_text.proofs.Chain.{chained, when_some}
use Rattle.td_text.proofs.Cut.{cut-at, cut_found, Without-append}
use Rattle.td_text.proofs.Words.{Without-name, Without-arch}
use Rattle.td_rows.specs.declared.key.Key.{Key}
use Rattle.td_rows.specs.KeyText.{key_text, KeyFits, key_apart, key_at}

-- a byte that no name has stands in no key's text
pub Without-key_text : (c : ℕ) (k : Key) → c ≢ 47 → Without c k.source → Without c k.arch
    → Without c (key_text k)
Without-key_text c k other source arch =
    Without-append c k.source (47 ∷ k.arch) source ((λ e. other (sym e)), arch)

-- no space stands in a key's text
pub key_lacks_space : (k : Key) → KeyFits k → Without 32 (key_text k)
key_lacks_space k h =
    Without-key_text 32 k (λ e. omega arith) (Without-name 32 k.source refl h.source)
    (Without-arch 32 k.arch refl h.arch)

-- nor a newline
pub key_lacks_newline : (k : Key) → KeyFits k → Without 10 (key_text k)
key_lacks_newline k h =
    Without-key_text 10 k (λ e. omega arith) (Without-name 10 k.source refl h.source)
    (Without-arch 10 k.arch refl h.arch)

-- a key is read where its source and architecture stand apart by a byte
pub key_apart-found : (c : ℕ) (t : List ℕ) (k : Key) → key_apart c t ≡ Some k
    → (t ≡ k.source ++ c ∷ k.arch) × KeyFits k
key_apart-found c t k e =
    let a = chained _ _ _ e in
    let w = when_some (is_name a.0.0 && is_arch a.0.1) (record { source = a.0.0; arch = a.0.1 }) k
    a.2 in
    let fit = and_parts (is_name a.0.0) (is_arch a.0.1) w.0 in
    subst (λ (q : Key). (t ≡ q.source ++ c ∷ q.arch) × KeyFits q) w.1
    ((cut_found c t a.0 a.1).0, record { source = fit.0; arch = fit.1 })

-- and read again, where no name has that byte
pub key_apart-again : (c : ℕ) (k : Key) → is_name_byte c ≡ false → KeyFits k
    → key_apart c (k.source ++ c ∷ k.arch) ≡ Some k
key_apart-again c k out h =
    let source = h.source in
    let arch = h.arch in
    rw (cut-at c k.source k.arch (Without-name c k.source out source), source, arch) refl

key_found : (t : List ℕ) (k : Key) → key_at t ≡ Some k → (t ≡ key_text k) × KeyFits k
unfolding key_at
key_found t k e = key_apart-found 47 t k e

key_again : (k : Key) → KeyFits k → key_at (key_text k) ≡ Some k
unfolding key_at
key_again k h = key_apart-again 47 k refl h

pub key_exact : Exact key_at key_text KeyFits
key_exact = record { found = key_found; again = key_again }
