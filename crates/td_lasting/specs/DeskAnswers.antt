-- The answers to the lines of a desk in a file: those of a script, and five more. This project's
-- own.
use Rattle.std.specs.Prelude.{ℕ, ◌+◌, Bool, true, false, List, [], ◌∷◌, ◌++◌, Option, Some, None}
use Rattle.std.specs.Prelude.{length, is_some, unwrap_or, if◌then◌else◌, codes, decimal}
use Rattle.std.specs.Option.{option_or}
use Rattle.td_rows.specs.declared.key.Key.{Key}
use Rattle.td_rows.specs.declared.row.Row.{Row}
use Rattle.td_rows.specs.declared.kind.Kind.{Kind}
use Rattle.td_rows.specs.declared.kind.Kind.TheVariants as kinds
use Rattle.td_rows.specs.declared.outcome.Outcome.{Outcome}
use Rattle.td_rows.specs.declared.outcome.Outcome.TheVariants.{Waits}
use Rattle.td_rows.specs.Keys.{names}
use Rattle.td_rows.specs.KeyText.{key_text}
use Rattle.td_rows.specs.Meaning.{applies}
use Rattle.td_rows.specs.Notes.{notes}
use Rattle.td_rows.specs.StateWriting.{state_text}
use Rattle.td_rows.specs.Table.{row_of}
use Rattle.td_text.specs.Lines.{text_of}
use Rattle.td_version.specs.Rebuild.{rebuild_text}
use Rattle.td_journal.specs.declared.entry.Entry.{Entry}
use Rattle.td_journal.specs.Entries.{standing}
use Rattle.td_supply.specs.Supply.{version_of}
use Rattle.td_core.specs.History.{History, rows_of, with_entry}
use Rattle.td_core.specs.Offers.{supply_now}
use Rattle.td_script.specs.Replies.{Setting, Reply, answer, ended, enters, refuses, says}
use Rattle.td_script.specs.Replies.{state_refused}
use Rattle.td_lasting.specs.declared.own_request.OwnRequest.{OwnRequest}
use Rattle.td_lasting.specs.declared.own_request.OwnRequest.TheVariants.{Ready, Claim, Finish, Rows}
use Rattle.td_lasting.specs.declared.own_request.OwnRequest.TheVariants.{Lines}
use Rattle.td_lasting.specs.declared.hearing.Heard.{Heard}
use Rattle.td_lasting.specs.declared.hearing.Heard.TheVariants.{Own, Bad, Scripted}
use Rattle.td_lasting.specs.Hands.{held_by}
use Rattle.td_lasting.specs.OwnReading.{heard_at}
use Rattle.td_lasting.specs.Ready.{by_priority, is_known, queued_on, queued_text}
use Rattle.td_lasting.specs.Sending.{is_relation, standing_lines}

-- ---- 1. what is to be built

-- the rows that need a build, on an architecture of the table if one is named
abbrev pub readies : Setting → History → Option (List ℕ) → Reply
readies s h arch = if is_known s.stock.table arch
    then says h (queued_text (by_priority (queued_on arch (rows_of h))))
    else refuses h (codes "UnknownArch") []

-- ---- 2. a claim

-- the version that a rebuild of the row has: the source's, and `+bN` behind it where the row has a
-- number (a source without a version has none here either: no desk over an archive has such a row)
abbrev pub built_version : Setting → History → Key → Row → List ℕ
built_version s h k row =
    rebuild_text (unwrap_or (version_of (supply_now s.stock h) k.source) []) row.number

-- the message of an entry, where it is a rebuild of the key's row
abbrev pub message_in : Key → Kind → List Key → Option (List ℕ)
message_in k (kinds.Nmu number extra message) keys = if names keys k then Some message else None
message_in k kind keys = None

-- the message of the latest of these entries that is a rebuild of the key's row, if one is
abbrev pub last_message : Key → List Entry → Option (List ℕ)
last_message k [] = None
last_message k (e ∷ es) = option_or (last_message k es) (message_in k e.kind e.keys)

-- the same; none where there is no such
abbrev pub message_of : List Entry → Key → List ℕ
message_of es k = unwrap_or (last_message k es) []

-- what the builder is told: the row, its version and number, what its rebuild needs beside its
-- build dependencies, and why it is built
abbrev pub builds_line : Setting → History → Key → Row → List ℕ
builds_line s h k row =
    ended (codes "entry " ++ (decimal (length h.journal + 1) ++ (codes " builds " ++ (key_text k
    ++ 32 ∷ (built_version s h k row ++ 32 ∷ (decimal row.number
    ++ notes (row.extra, message_of (standing h.journal) k)))))))

-- the entry is made, and this is said
abbrev pub makes : History → Entry → List ℕ → Reply
makes h e text = record { text = text; after = with_entry h e; refused = false }

-- the entry of a builder's claim
abbrev pub claim_entry : ℕ → Key → Entry
claim_entry b k = record { kind = kinds.Claim b; keys = k ∷ [] }

-- a builder without a row takes one that needs a build
abbrev pub claims : Setting → History → ℕ → Key → Option Row → Reply
claims s h b k None = refuses h (codes "NoSuchRow") []
claims s h b k (Some row) =
    if is_some (held_by (rows_of h) b) then refuses h (codes "NotFree") []
    else (if applies (kinds.Claim b) row then makes h (claim_entry b k) (builds_line s h k row)
    else refuses h (state_refused row) [])

-- ---- 3. the end of a build

-- what a build waits for is a relation
abbrev pub is_readable : Outcome → Bool
is_readable (Waits t) = is_relation t
is_readable o = true

-- the entry of how a builder's build ended
abbrev pub end_entry : ℕ → Outcome → Key → Entry
end_entry b o k = record { kind = kinds.Outcome b o; keys = k ∷ [] }

-- the row that the builder has, if it has one, ends so
abbrev pub ends : History → ℕ → Outcome → Option Key → Reply
ends h b o None = refuses h (codes "NothingHeld") []
ends h b o (Some k) = enters h (end_entry b o k) []

-- the build of a builder ends, where what it waits for can be read
abbrev pub finishes : History → ℕ → Outcome → Reply
finishes h b o =
    if is_readable o then ends h b o (held_by (rows_of h) b)
    else refuses h (codes "BadRelation") []

-- ---- 4. a line

-- what is asked for by one of the five
abbrev pub own_asks : Setting → History → OwnRequest → Reply
own_asks s h (Ready arch) = readies s h arch
own_asks s h (Claim b k) = claims s h b k (row_of (rows_of h) k)
own_asks s h (Finish b o) = finishes h b o
own_asks s h Rows = says h (state_text (rows_of h))
own_asks s h Lines =
    says h (text_of (standing_lines (supply_now s.stock h) s.suites h.journal))

-- the answer by what the line is; those of a script are answered as there
abbrev pub desk_replies : Setting → History → List ℕ → Heard → Reply
desk_replies s h line (Own r) = own_asks s h r
desk_replies s h line Bad = refuses h (codes "BadLine") []
desk_replies s h line Scripted = answer s h line

-- the answer to a line
abbrev pub desk_answer : Setting → History → List ℕ → Reply
desk_answer s h line = desk_replies s h line (heard_at line)
