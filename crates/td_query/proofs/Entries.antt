-- Keys, one after another.
use Rattle.std.proofs.Common.{◌≡◌, ℕ, zero, suc, ◌<◌, ◌≤◌, List, length, Some, None, Result, Ok}
use Rattle.std.proofs.Common.{Err, refl, sym, ap, ◌∙◌, arith}
use Rattle.td_text.specs.Lines.{on_ok}
use Rattle.td_query.specs.declared.tracker_reading.Keys.{Keys}
use Rattle.td_query.specs.declared.read_fault.ReadFault.{ReadFault}
use Rattle.td_query.specs.declared.read_fault.ReadFault.TheVariants.{Syntax, NoMemory}
use Rattle.td_query.specs.QueryGrammar.{Log}
use Rattle.td_query.specs.TrackerGrammar.{Said, SaidRead, front, entry_at, entries_next, entries}
use Rattle.td_query.specs.TrackerViews.{GivesSaid, GivesFault}

-- if something is left, another key comes
pub taken : (n : ℕ) (s : Said) (t at : List ℕ) (total : Result Said (ℕ × Log)) → front t ≡ Some at
    → 0 < length at → length at ≤ length t → length t ≤ n → entries n s t ≡ total
    → (m : ℕ) × (n ≡ suc m) × (on_ok (entry_at s at) (λ x. entries m x.0 x.1) ≡ total)
unfolding entries
taken zero s t at total is some less room h = absurd (omega arith)
taken (suc m) s t at total is some less room h =
    (m, refl, sym (ap (entries_next (entries m) s) is) ∙ h)

-- if nothing is left, the keys end
pub ends : (n : ℕ) (s : Said) (t : List ℕ) (total : Result Said (ℕ × Log)) → front t ≡ None
    → entries n s t ≡ total → total ≡ Ok s
unfolding entries
ends zero s t total is h = sym h
ends (suc m) s t total is h = sym h ∙ ap (entries_next (entries m) s) is

-- a fault of a key is the fault of the whole
pub fails_on : (fault : ReadFault) (k : Keys) (first : SaidRead)
    (f : Said × List ℕ → Result Said (ℕ × Log)) (total : Result Said (ℕ × Log))
    → on_ok first f ≡ total → GivesSaid (Err fault) k first → GivesFault fault k total
fails_on NoMemory k first f total h e = tt
fails_on (Syntax left) k first f total h e = sym h ∙ ap (λ r. on_ok r f) e

-- if a key is read, what follows it decides
pub goes_on : (first : SaidRead) (x : Said × List ℕ) (f : Said × List ℕ → Result Said (ℕ × Log))
    (total : Result Said (ℕ × Log)) → on_ok first f ≡ total → first ≡ Ok x → f x ≡ total
goes_on first x f total h e = sym (ap (λ r. on_ok r f) e) ∙ h
