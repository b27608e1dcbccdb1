-- Whether names are new is a fact that can be kept in a value. This project's own.
use mathlib.Core.Bool.{Bool-set}
use mathlib.Core.HLevel.{×_prop, Unit-prop}
use Rattle.std.specs.Prelude.{ℕ, List, [], ◌∷◌, ◌++◌}
use Rattle.td_stanza.specs.Field.{Entry}
use Rattle.td_stanza.specs.StanzaGrammar.{AreNew, IsDistinct, names_of}

-- that names come neither before nor twice is so in one way at most
AreNew-prop : (seen names : List (List ℕ)) → IsProp (AreNew seen names)
AreNew-prop seen [] = Unit-prop
AreNew-prop seen (name ∷ names) = ×_prop (Bool-set _ _) (AreNew-prop (seen ++ name ∷ []) names)

-- that no two fields have one name is so in one way at most
pub IsDistinct-prop : (fields : List Entry) → IsProp (IsDistinct fields)
IsDistinct-prop fields = AreNew-prop [] (names_of fields)
