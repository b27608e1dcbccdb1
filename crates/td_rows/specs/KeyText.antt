-- The text of a key: `source/arch`. This project's own.
use Rattle.std.specs.Prelude.{ℕ, List, ◌∷◌, ◌++◌, Option, Some, None, IsTrue, ◌&&◌, if◌then◌else◌}
use Rattle.td_text.specs.Chain.{◌>>=◌}
use Rattle.td_text.specs.Cut.{cut}
use Rattle.td_text.specs.Words.{is_name, is_arch}
use Rattle.td_rows.specs.declared.key.Key.{Key}

-- the source, a slash, the architecture
abbrev pub key_text : Key → List ℕ
key_text k = k.source ++ 47 ∷ k.arch

-- a key that can be written: the source is a package's name (Debian Policy 5.6.1)
pub record KeyFits (k : Key) : Type 0 where
  pub source : IsTrue (is_name k.source)
  pub arch : IsTrue (is_arch k.arch)

-- the key whose source comes before the first byte c of a text, and whose architecture comes after
abbrev pub key_apart : ℕ → List ℕ → Option Key
key_apart c text = cut c text >>= λ p.
    if is_name p.0 && is_arch p.1 then Some (record { source = p.0; arch = p.1 }) else None

-- the key that a text is
unfoldable pub key_at : List ℕ → Option Key
key_at text = key_apart 47 text
