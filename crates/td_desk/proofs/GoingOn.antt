-- The entries with which a desk was opened stay over every call of its book.
use Rattle.std.proofs.Common.{◌≡◌, ℕ, zero, suc, ◌-◌, List, [], ◌∷◌, ◌++◌, map, length, take, refl}
use Rattle.std.proofs.Common.{sym, ap, ◌∙◌, append-nil, append_assoc, arith}
use Rattle.std.proofs.lemmas.List.{length-map, map-append, take_all}
use Rattle.td_journal.specs.declared.entry.Entry.{Entry}
use Rattle.td_journal.specs.declared.entry.Marked.{Marked}
use Rattle.td_journal.specs.Entries.{undone, undone_at}
use Rattle.td_core.specs.History.{history_of}
use Rattle.td_book.specs.Reopening.{given_back}
use Rattle.td_desk.specs.GoingOn.{Begins, GoesOn}
use Rattle.td_desk.specs.Names.{Origin}

abbrev entries : List Marked → List Entry
entries ms = map (λ m. m.entry) ms

-- the entries of one journal, and then more, whatever their marks
pub record Extends (old new : List Marked) : Type 0 where
  pub more : List Entry
  pub is : entries new ≡ entries old ++ more

extends-same : (old new : List Marked) → entries new ≡ entries old → Extends old new
extends-same old new same = record { more = []; is = same ∙ sym (append-nil (entries old)) }

pub extends-append : (old new more : List Marked) → new ≡ old ++ more → Extends old new
extends-append old new more at =
    record { more = entries more; is = ap entries at ∙ map-append (λ m. m.entry) old more }

pub extends-twice : (old mid new : List Marked) → Extends old mid → Extends mid new
    → Extends old new
extends-twice old mid new f g =
    record {
      more = f.more ++ g.more;
      is = g.is ∙ ap (λ es. es ++ g.more) f.is ∙ append_assoc (entries old) f.more g.more;
    }

entries-undone_at : (ms : List Marked) (i : ℕ) → entries (undone_at ms i) ≡ entries ms
entries-undone_at [] i = refl
entries-undone_at (m ∷ ms) zero = refl
entries-undone_at (m ∷ ms) (suc i) = ap (λ es. m.entry ∷ es) (entries-undone_at ms i)

-- an undo changes a mark
pub extends-undone : (old new : List Marked) (n : ℕ) → new ≡ undone old n → Extends old new
extends-undone old new n at =
    extends-same old new (ap entries at ∙ entries-undone_at old (n - 1))

take-within : (n : ℕ) (xs ys : List Entry) → length (take n xs) ≡ n
    → take n (xs ++ ys) ≡ take n xs
take-within zero xs ys h = refl
take-within (suc n) [] ys h = absurd (let e : zero ≡ suc n = h in cc)
take-within (suc n) (x ∷ xs) ys h =
    ap (λ es. x ∷ es) (take-within n xs ys (let e = h in omega arith))

-- the entries that were first stay first
goes_on-extends : (before old new : List Marked) → GoesOn before old → Extends old new
    → GoesOn before new
goes_on-extends before old new on e =
    ap (take (length before)) e.is
    ∙ take-within (length before) (entries old) e.more
    (ap length on ∙ length-map before (λ m. m.entry))
    ∙ on

-- a journal goes on with itself
pub goes_on-same : (before now : List Marked) → now ≡ before → GoesOn before now
goes_on-same before now same =
    ap (λ ms. take (length before) (entries ms)) same
    ∙ take_all (length before) (entries before) (omega (arith, length-map before (λ m. m.entry)))

pub begins-on : (origin : Origin) (old new : List Marked) → Begins origin old → Extends old new
    → Begins origin new
begins-on origin old new began e = λ text before is reads.
    goes_on-extends (given_back (history_of origin.rows before)).journal old new
    (began text before is reads) e
