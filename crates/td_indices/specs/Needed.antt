-- What a stanza of either file needs (Debian Policy 5.3 and 5.4).
use Rattle.std.specs.Prelude.{◌≡◌, ℕ, IsTrue, List, Some, codes}
use Rattle.td_text.specs.Words.{is_name}
use Rattle.td_stanza.specs.Field.{Entry}
use Rattle.td_indices.specs.Fields.{value_of}

-- the stanza has the three fields that both files need, and a legal name
pub record HasNeeded (fields : List Entry) (version arch : List ℕ) : Type 0 where
  pub name : List ℕ
  pub named : value_of fields (codes "Package") ≡ Some name
  pub legal : IsTrue (is_name name)
  pub versioned : value_of fields (codes "Version") ≡ Some version
  pub there : value_of fields (codes "Architecture") ≡ Some arch
