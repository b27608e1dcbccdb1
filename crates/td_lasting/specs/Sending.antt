-- The standing commands as lines that the release team can send. This project's own, in the style
-- of wanna-build.
use Rattle.std.specs.Prelude.{◌≡◌, ℕ, zero, suc, ◌+◌, ◌==◌, ◌&&◌, ◌||◌, not, Bool, true, false}
use Rattle.std.specs.Prelude.{List}
use Rattle.std.specs.Prelude.{[], ◌∷◌, ◌++◌, Option, Some, None, is_some, is_none, length}
use Rattle.std.specs.Prelude.{map}
use Rattle.std.specs.Prelude.{if◌then◌else◌, codes, decimal}
use Rattle.std.specs.Fmt.{signed_decimal}
use Rattle.std.specs.List.{flat_map, list_any}
use Rattle.std.specs.Result.{is_ok}
use Rattle.std.specs.Str.{bytes_eq}
use Rattle.td_relation.specs.Arch.{ArchWords}
use Rattle.td_relation.specs.RelationGrammar.{relation_at}
use Rattle.td_version.specs.Splitting.{rebuild_at}
use Rattle.td_rows.specs.declared.key.Key.{Key}
use Rattle.td_rows.specs.declared.kind.Kind.{Kind}
use Rattle.td_rows.specs.declared.kind.Kind.TheVariants.{Gb, Nmu, Bp, Dw}
use Rattle.td_journal.specs.declared.entry.Marked.{Marked}
use Rattle.td_journal.specs.Commands.{is_command}
use Rattle.td_journal.specs.Entries.{is_standing}
use Rattle.td_supply.specs.Supply.{SupplyView, version_of}

-- ---- 1. a text as one word

-- whether a byte stands in a text
abbrev pub has : ℕ → List ℕ → Bool
has b text = list_any (λ x. x == b) text

-- whether a shell would read a text otherwise between double quotes: it has a double quote, a
-- dollar, a backquote or a backslash
abbrev pub is_read_by_shells : List ℕ → Bool
is_read_by_shells text = has 34 text || (has 36 text || (has 96 text || has 92 text))

-- the quote between two of which a text is one word of a line: double where a shell leaves the
-- text, else single, else double where the text has none; a text with both has no such quote
abbrev pub quote_of : List ℕ → Option ℕ
quote_of text =
    if not (is_read_by_shells text) then Some 34
    else (if not (has 39 text) then Some 39 else (if not (has 34 text) then Some 34 else None))

-- the text between its quotes, behind the option and a space before each; nothing for an empty text
abbrev pub option_words : List ℕ → List ℕ → List ℕ
option_words name [] = []
option_words name (x ∷ text) = elim (quote_of (x ∷ text)) [
  | Some q ↦ 32 ∷ (name ++ 32 ∷ (q ∷ ((x ∷ text) ++ q ∷ [])))
  | None ↦ []
]

-- ---- 2. which entries a line can make

-- whether a text is a relation (Debian Policy 7.1)
abbrev pub is_relation : List ℕ → Bool
is_relation text = is_ok (relation_at text)

-- whether a text is a relation with a quote round it. One with both quotes, which a profile's name
-- may have, has none
abbrev pub is_quotable : List ℕ → Bool
is_quotable text = is_relation text && is_some (quote_of text)

-- whether a line can have these: a number from 1 on if any, extra dependencies that are a relation
-- with a quote round it if any, a message with a quote round it
abbrev pub can_ask : Option ℕ → List ℕ → List ℕ → Bool
can_ask number extra message =
    not (elim number [ Some n ↦ n == 0 | None ↦ false ])
    && (((length extra == 0) || is_quotable extra) && is_some (quote_of message))

-- whether a command comes from a line: what is in a file may not
abbrev pub can_be_sent : Kind → Bool
can_be_sent Gb = true
can_be_sent (Nmu number extra message) = can_ask number extra message
can_be_sent (Bp p) = true
can_be_sent (Dw relation) = is_quotable relation
can_be_sent kind = false

-- ---- 3. the line of a command on rows of one source

-- the verb, with its number where it has one
abbrev pub verb_words : Kind → List ℕ
verb_words Gb = codes "gb"
verb_words (Nmu None e m) = codes "nmu"
verb_words (Nmu (Some n) e m) = codes "nmu " ++ decimal n
verb_words (Bp p) = codes "bp " ++ signed_decimal p
verb_words (Dw t) = codes "dw"
verb_words kind = []

-- the source with its version; one whose version ends in `+bN` can't be named with it
abbrev pub package_word : List ℕ → Option (List ℕ) → List ℕ
package_word source None = source
package_word source (Some version) =
    if is_none (rebuild_at version) then source ++ 95 ∷ version else source

-- the architectures of the keys, in the order of the table, a space before each
abbrev pub arch_words : List ArchWords → List Key → List ℕ
arch_words table keys =
    flat_map (λ a. if list_any (λ k. bytes_eq k.arch a.name) keys then 32 ∷ a.name else []) table

-- the suite, if the desk has one
abbrev pub suite_words : List (List ℕ) → List ℕ
suite_words [] = []
suite_words (suite ∷ suites) = codes " . " ++ suite

-- a dot before a text that isn't empty
abbrev pub dot_before : List ℕ → List ℕ
dot_before [] = []
dot_before (x ∷ text) = codes " ."

-- the options of a kind, behind their dot where there are any
abbrev pub options : Kind → List ℕ
options (Nmu number extra message) =
    dot_before (message ++ extra)
    ++ (option_words (codes "-m") message ++ option_words (codes "--extra-depends") extra)
options (Dw relation) = codes " ." ++ option_words (codes "-m") relation
options kind = []

-- the line of a command on these keys of a source
abbrev pub sent_line : SupplyView → List (List ℕ) → Kind → List ℕ → List Key → List ℕ
sent_line s suites kind source keys =
    verb_words kind ++ (32 ∷ (package_word source (version_of s source)
    ++ (codes " ." ++ (arch_words s.table keys ++ (suite_words suites
    ++ options kind)))))

-- ---- 4. the lines of an entry: one a source, in the order of its keys

-- the keys before the first of another source, and from that on
abbrev pub same_source : List ℕ → List Key → List Key × List Key
same_source source [] = ([], [])
same_source source (k ∷ keys) = if bytes_eq k.source source
    then (k ∷ (same_source source keys).0, (same_source source keys).1) else ([], k ∷ keys)

-- the keys of each source together, of at most so many sources
abbrev pub groups_within : ℕ → List Key → List (List ℕ × List Key)
groups_within zero keys = []
groups_within (suc n) [] = []
groups_within (suc n) (k ∷ keys) =
    (k.source, k ∷ (same_source k.source keys).0)
    ∷ groups_within n (same_source k.source keys).1

-- all of them: keys rise, so those of one source stand together
abbrev pub by_source : List Key → List (List ℕ × List Key)
by_source keys = groups_within (length keys) keys

-- what stands for a standing command: a line a source, or, where no line can make it, a comment
abbrev pub sent_lines : SupplyView → List (List ℕ) → ℕ → Marked → List (List ℕ)
sent_lines s suites n m = if can_be_sent m.entry.kind
    then map (λ g. sent_line s suites m.entry.kind g.0 g.1) (by_source m.entry.keys)
    else (codes "# entry " ++ (decimal n ++ codes ": no line")) ∷ []

-- whether an entry is a standing command
abbrev pub is_sent : Marked → Bool
is_sent m = is_standing m.mark && is_command m.entry.kind

-- those of a journal's standing commands, in order; the first entry has the number given
abbrev pub sent_from : SupplyView → List (List ℕ) → ℕ → List Marked → List (List ℕ)
sent_from s suites n [] = []
sent_from s suites n (m ∷ ms) = if is_sent m
    then sent_lines s suites n m ++ sent_from s suites (n + 1) ms
    else sent_from s suites (n + 1) ms

-- all of them, and else that nothing stands
abbrev pub standing_lines : SupplyView → List (List ℕ) → List Marked → List (List ℕ)
standing_lines s suites ms = elim (sent_from s suites 1 ms) [
  | [] ↦ codes "nothing stands" ∷ []
  | line ∷ lines ↦ line ∷ lines
]
