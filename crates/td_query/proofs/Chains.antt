-- Parts between `&` and `|`, one after another.
use Rattle.std.proofs.Common.{◌≡◌, ℕ, zero, suc, ◌<◌, ◌≤◌, List, [], ◌∷◌, ◌++◌, length, Some, Ok}
use Rattle.std.proofs.Common.{Err, refl, sym, ap, ◌∙◌, arith}
use Rattle.td_text.specs.Lines.{on_ok}
use Rattle.td_query.specs.declared.read_fault.RawPattern.{RawPattern}
use Rattle.td_query.specs.declared.read_fault.ReadFault.{ReadFault}
use Rattle.td_query.specs.declared.read_fault.ReadFault.TheVariants.{Syntax, NoMemory}
use Rattle.td_query.specs.declared.query.Joint.{Joint}
use Rattle.td_query.specs.Query.{Shape}
use Rattle.td_query.specs.QueryGrammar.{Log, Read, behind_mark, mark_of, more, next}
use Rattle.td_query.specs.Views.{Gives}

-- a fault of a part is the fault of the whole
pub fails_on : (fault : ReadFault) (log : List RawPattern) (first : Read)
    (f : Shape × Log × List ℕ → Read) (total : Read) → on_ok first f ≡ total
    → Gives (Err fault) log first → Gives (Err fault) log total
fails_on NoMemory log first f total h e = tt
fails_on (Syntax left) log first f total h e = sym h ∙ ap (λ r. on_ok r f) e

-- if a part is read, what follows it decides
pub goes_on : (first : Read) (x : Shape × Log × List ℕ) (f : Shape × Log × List ℕ → Read)
    (total : Read) → on_ok first f ≡ total → first ≡ Ok x → f x ≡ total
goes_on first x f total h e = sym (ap (λ r. on_ok r f) e) ∙ h

-- if the mark comes next, another part is read
pub taken : (joint : Joint) (read : Log → List ℕ → Read) (n : ℕ) (parts : List Shape) (log : Log)
    (t u : List ℕ) (total : Read)
    → behind_mark (mark_of joint) t ≡ Some u → length u < length t → length t ≤ n
    → more joint read n parts log t ≡ total
    → (m : ℕ) × (n ≡ suc m)
    × (on_ok (read log u) (λ x. more joint read m (parts ++ x.0 ∷ []) x.1 x.2) ≡ total)
unfolding more
taken joint read zero parts log t u total is less room h = absurd (omega arith)
taken joint read (suc m) parts log t u total is less room h =
    (m, refl, sym (ap (next joint read (more joint read m) parts log t) is) ∙ h)
