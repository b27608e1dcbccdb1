-- What a script's requests ask for, as it is told.
use Rattle.std.proofs.Common.{ℕ, Bool, true, false, List, ◌++◌, append-nil, Option, Some, None}
use Rattle.std.proofs.Common.{[], sym, ap, ◌∙◌}
use Rattle.std.specs.Prelude.{codes}
use Rattle.td_rows.specs.declared.key.Key.{Key}
use Rattle.td_rows.specs.declared.row.Row.{Row}
use Rattle.td_journal.specs.declared.entry.Marked.{Marked}
use Rattle.td_core.specs.History.{History}
use Rattle.td_journal.specs.JournalText.{entry_line}
use Rattle.td_script.specs.Replies.{Reply, ended, refusal_line, refuses, says, shows_row}
use Rattle.td_script.specs.Replying.{IsFoundPut, IsPut, IsRowPut}
use Rattle.td_lasting.specs.DeskView.{IsShown}

-- a text that is put is said
pub said_shown : (h : History) (text before now : List ℕ) (refused : Bool)
    → IsPut text false before now refused → IsShown (says h text) before now refused
said_shown h text before now refused put = record { text = put.text_is; refusal = put.refusal }

-- a refusal that is put is one
pub refusal_shown : (h : History) (name before now : List ℕ) (refused : Bool)
    → IsPut (refusal_line name) true before now refused
    → IsShown (refuses h name []) before now refused
refusal_shown h name before now refused put = record {
  text = put.text_is ∙ ap (λ (l : List ℕ). before ++ l) (sym (append-nil (refusal_line name)));
  refusal = put.refusal;
}

pub row_shown : (h : History) (k : Key) (o : Option Row) (before now : List ℕ) (refused : Bool)
    → IsRowPut k o before now refused → IsShown (shows_row h k o) before now refused
row_shown h k None before now refused put =
    refusal_shown h (codes "NoSuchRow") before now refused put
row_shown h k (Some row) before now refused put = said_shown h _ before now refused put

-- an entry by what is found of it
abbrev pub shows_found : History → ℕ → Option Marked → Reply
shows_found h n o = elim o [
  | Some m ↦ says h (ended (entry_line n m))
  | None ↦ refuses h (codes "NoSuchEntry") []
]

pub entry_shown : (h : History) (n : ℕ) (o : Option Marked) (before now : List ℕ)
    (refused : Bool) → IsFoundPut n o before now refused
    → IsShown (shows_found h n o) before now refused
entry_shown h n None before now refused put =
    refusal_shown h (codes "NoSuchEntry") before now refused put
entry_shown h n (Some m) before now refused put = said_shown h _ before now refused put
