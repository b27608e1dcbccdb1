-- Rows, architectures and packages as calls give them, and the definitions of them.
use Rattle.std.proofs.Common.{◌≡◌, ℕ, ◌&&◌, [], Bool, true, false, List, Option, None, Some}
use Rattle.std.proofs.Common.{option_map, slice_get, refl, sym, ap, ◌∙◌}
use Rattle.std.specs.Option.{option_map_or}
use Rattle.std.proofs.lemmas.Bool.{false≢true}
use Rattle.std.proofs.lemmas.Option.{some_pair_parts}
use Rattle.td_relation.specs.Arch.{ArchWords}
use Rattle.td_rows.specs.declared.key.Key.{Key}
use Rattle.td_rows.specs.declared.row.Row.{Row}
use Rattle.td_rows.specs.Keys.{ascending}
use Rattle.td_rows.specs.Table.{IsAt, Table, keys_of, row_of}
use Rattle.td_rows.proofs.Tables.{row_of-at}
use Rattle.td_indices.specs.declared.packaged.Binary.{Binary}
use Rattle.td_indices.specs.Kept.{KeptBinary}
use Rattle.td_indices.specs.Seen.{seen_binary, shown_binary}
use Rattle.td_plan.specs.Premises.{arch_at}

-- ---- 1. rows

arch-named : (o : Option ArchWords) (name : List ℕ) → option_map (λ a. a.name) o ≡ Some name
    → option_map_or (λ a. a.name) o [] ≡ name
arch-named None name h = absurd (cc)
arch-named (Some a) name h = cc

-- the name of the architecture at a place
pub arch-is : (table : List ArchWords) (place : ℕ) (name : List ℕ)
    → option_map (λ a. a.name) (slice_get table place) ≡ Some name → arch_at table place ≡ name
arch-is table place name h = arch-named (slice_get table place) name h

-- the row with the number that a key's row has
pub row-found : (t : Table) (k q : Key) (number : ℕ) (row : Row) → ascending (keys_of t) ≡ true
    → IsAt t k number → Some (q, row) ≡ slice_get t number → Some row ≡ row_of t k
row-found t k q number row up is at =
    let parts = some_pair_parts q k row is.row (at ∙ is.at) in
    ap (λ (r : Row). Some r) parts.1 ∙ sym (row_of-at t k number is.row up is.at)

-- ---- 2. packages

-- a package that isn't bad passes no test that includes being bad
pub not-both : (o : Option KeptBinary) (one other : KeptBinary → Bool)
    → option_map_or other o false ≡ false → option_map_or (λ b. one b && other b) o false ≡ false
not-both None one other h = refl
not-both (Some b) one other h = by (one b)
  where
    by : (v : Bool) → (v && other b) ≡ false
    by true = h
    by false = refl

both-is : (one other r : Bool) → r ≡ one → other ≡ true → r ≡ (one && other)
both-is true other r h is = h ∙ sym is
both-is false other r h is = h

-- a package that was found, and is bad, by what else is asked of it
pub found-both : (o : Option KeptBinary) (x : Binary) (one other : KeptBinary → Bool) (r : Bool)
    → Some (seen_binary x) ≡ option_map shown_binary o → option_map_or other o false ≡ true
    → ((b : KeptBinary) → seen_binary x ≡ shown_binary b → r ≡ one b)
    → r ≡ option_map_or (λ b. one b && other b) o false
found-both None x one other r found is so = absurd (false≢true is)
found-both (Some b) x one other r found is so =
    let seen : seen_binary x ≡ shown_binary b = cc in
    both-is (one b) (other b) r (so b seen) is

-- if no package was found, none passes
pub found-none : (o : Option KeptBinary) (test : KeptBinary → Bool)
    → None ≡ option_map shown_binary o → false ≡ option_map_or test o false
found-none None test h = refl
found-none (Some b) test h = absurd (cc)

-- a test of three parts is the third if two hold
pub last-of : (one two three : Bool) → one ≡ true → two ≡ true → (one && (two && three)) ≡ three
last-of one two three first second =
    ap (λ (b : Bool). b && (two && three)) first ∙ ap (λ (b : Bool). b && three) second
