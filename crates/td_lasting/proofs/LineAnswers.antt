-- The answers to lines that change nothing, and to those that are typed.
use Rattle.std.proofs.Common.{◌≡◌, ℕ, Bool, true, false, List, [], Option, Some, None, Result}
use Rattle.std.proofs.Common.{Ok, Err, refl, sym, subst, inl}
use Rattle.std.specs.Prelude.{codes, if◌then◌else◌}
use Rattle.td_rows.specs.Appending.{Grown}
use Rattle.td_rows.specs.declared.key.Key.{Key}
use Rattle.td_rows.specs.declared.row.Row.{Row}
use Rattle.td_rows.specs.Table.{Table, row_of}
use Rattle.td_journal.specs.declared.entry.Marked.{Marked}
use Rattle.td_journal.specs.Entries.{entry_at}
use Rattle.td_core.specs.History.{History, rows_of}
use Rattle.td_supply.specs.Supply.{Stock}
use Rattle.td_wbread.specs.declared.fault.CommandFault.{CommandFault}
use Rattle.td_wbread.specs.Command.{CommandParts}
use Rattle.td_script.specs.declared.request.Request.{Request}
use Rattle.td_script.specs.declared.request.Request.TheVariants as asked
use Rattle.td_script.specs.declared.line.Said.TheVariants.{Asked}
use Rattle.td_script.specs.Replies.{Reply, Setting, asks, refusal_line, refuses, reports, says}
use Rattle.td_script.specs.Replies.{shows_row, types, fault_name}
use Rattle.td_script.specs.Replying.{IsPut}
use Rattle.td_lasting.specs.declared.chronicle.DeskFault.{DeskFault}
use Rattle.td_lasting.specs.declared.chronicle.DeskFault.TheVariants.{NoMemory}
use Rattle.td_lasting.specs.declared.own_request.OwnRequest.{OwnRequest}
use Rattle.td_lasting.specs.DeskAnswers.{own_asks, readies}
use Rattle.td_lasting.specs.DeskView.{DeskView, IsAtRest, IsShown, OnlyAsks}
use Rattle.td_lasting.specs.Events.{undo_named}
use Rattle.td_lasting.specs.inner.Answered.{IsAnswered}
use Rattle.td_lasting.specs.Ready.{by_priority, is_known, queued_on, queued_text}
use Rattle.td_lasting.proofs.AnswerLaws.{lacking, shown}
use Rattle.td_lasting.proofs.Asked.{shows_found}
use Rattle.td_lasting.proofs.EventLaws.{Stays}
use Rattle.td_lasting.proofs.Shown.{refused_shown}

-- ---- 1. what is shown

-- memory ran out in a call, and what this handed on is the answer
pub lacks : (r : Reply) (asks : Option ℕ) (v : DeskView) (before now : List ℕ)
    (result : Result Bool DeskFault) → IsAtRest v → Grown before now
    → (fault : DeskFault) × (result ≡ Err fault) × (fault ≡ NoMemory)
    → IsAnswered r asks v v before now result
lacks r asks v before now result rest front is =
    subst (λ (x : Result Bool DeskFault). IsAnswered r asks v v before now x) (sym is.1)
    (lacking r asks v before now is.0 is.2 rest front)

-- a reply that was shown is the answer, where nothing changes by it
pub answer_shown : (r : Reply) (asks : Option ℕ) (v : DeskView) (before now : List ℕ)
    (refused : Bool) → IsAtRest v → v.stopped ≡ false → Stays v.history r asks
    → IsShown r before now refused → IsAnswered r asks v v before now (Ok refused)
answer_shown r asks v before now refused rest on stays is =
    shown r asks v before now refused rest on stays is.text is.refusal

-- what is said of a history leaves it
pub says_stays : (h : History) (text : List ℕ) → Stays h (says h text) None
says_stays h text = (refl, inl refl)

-- so does what is told of the rows that are to be built
pub ready_stays : (s : Setting) (h : History) (arch : Option (List ℕ))
    → Stays h (readies s h arch) None
ready_stays s h arch = by (is_known s.stock.table arch)
  where
    by : (b : Bool) → Stays h (if b
        then says h (queued_text (by_priority (queued_on arch (rows_of h))))
        else refuses h (codes "UnknownArch") []) None
    by true = (refl, inl refl)
    by false = (refl, inl refl)

row_stays : (h : History) (k : Key) (o : Option Row) → Stays h (shows_row h k o) None
row_stays h k None = (refl, inl refl)
row_stays h k (Some row) = (refl, inl refl)

found_stays : (h : History) (n : ℕ) (o : Option Marked) → Stays h (shows_found h n o) None
found_stays h n None = (refl, inl refl)
found_stays h n (Some m) = (refl, inl refl)

report_stays : (h : History) (o : Option (Table → List ℕ)) → Stays h (reports h o) None
report_stays h None = (refl, inl refl)
report_stays h (Some report) = (refl, inl refl)

-- and a request that asks for no change
pub request_stays : (s : Setting) (h : History) (r : Request) → OnlyAsks r
    → Stays h (asks s h r) (undo_named (Asked r))
request_stays s h (asked.Undo n) is = absurd is
request_stays s h (asked.Arrive k) is = absurd is
request_stays s h asked.Sweep is = absurd is
request_stays s h (asked.Row k) is = row_stays h k (row_of (rows_of h) k)
request_stays s h (asked.Entry n) is = found_stays h n (entry_at h.journal n)
request_stays s h asked.Report is = report_stays h s.report
request_stays s h asked.Journal is = (refl, inl refl)

-- one of the five lines that asks for no change
pub own_shown : (s : Setting) (r q : OwnRequest) (v : DeskView) (before now : List ℕ)
    (refused : Bool) → IsAtRest v → v.stopped ≡ false → r ≡ q
    → Stays v.history (own_asks s v.history q) None
    → IsShown (own_asks s v.history q) before now refused
    → IsAnswered (own_asks s v.history r) None v v before now (Ok refused)
own_shown s r q v before now refused rest on is stays put =
    subst (λ (x : OwnRequest). IsAnswered (own_asks s v.history x) None v v before now (Ok refused))
    (sym is) (answer_shown (own_asks s v.history q) None v before now refused rest on stays put)

-- ---- 2. what is typed

-- a line that is none is refused
pub typed_refused : (s : Stock) (fault : CommandFault) (read : Result CommandParts CommandFault)
    (v : DeskView) (before now : List ℕ) (refused : Bool) → IsAtRest v → v.stopped ≡ false
    → read ≡ Err fault → IsPut (refusal_line (fault_name fault)) true before now refused
    → IsAnswered (types s v.history read) None v v before now (Ok refused)
typed_refused s fault read v before now refused rest on is put =
    subst (λ (x : Result CommandParts CommandFault).
    IsAnswered (types s v.history x) None v v before now (Ok refused)) (sym is)
    (refused_shown (fault_name fault) None v before now refused rest on put)
