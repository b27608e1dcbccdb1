-- The patterns of a tracker, as `regex` is given them. This project's own.
use Rattle.std.specs.Prelude.{◌≡◌, ℕ, ◌+◌, ◌*◌, ◌^◌, ◌≤◌, ◌==◌, ◌&&◌, Bool, false, List, [], ◌∷◌}
use Rattle.std.specs.Prelude.{if◌then◌else◌}
use Rattle.std.specs.List.{AllByRecursion}
use Rattle.regex.specs.Patterns.{Re, Refuses, default_config}
use Rattle.regex.specs.Strings.{regex_config, regex_size, IsReadFromSource}
use Rattle.regex.specs.Failures.{IsPattern, IsRightKind}
use Rattle.regex.specs.declared.error.Error.{Error}
use Rattle.regex.specs.declared.string.regex.Regex.{Regex}
use Rattle.regex.specs.declared.error.Error.TheVariants.{CompiledTooBig, Internal, OutOfMemory}
use Rattle.regex.specs.declared.error.Error.TheVariants.{Syntax}
use Rattle.regex_hir.specs.Meaning.{meaning}
use Rattle.td_query.specs.QueryGrammar.{Raw, Log}

-- whether a text begins with a slash
abbrev pub begins_slash : List ℕ → Bool
begins_slash [] = false
begins_slash (x ∷ t) = x == 47

-- what is between a pattern's slashes, with `/` for each `\/`
unfoldable pub unescaped : List ℕ → List ℕ
unescaped [] = []
unescaped (x ∷ t) = if (x == 92) && begins_slash t then unescaped t else x ∷ unescaped t

-- a text without a backslash at its end
unfoldable pub without_last : List ℕ → List ℕ
without_last [] = []
without_last (x ∷ []) = if x == 92 then [] else x ∷ []
without_last (x ∷ y ∷ t) = x ∷ without_last (y ∷ t)

-- the text that `regex` is given
abbrev pub source_of : Raw → List ℕ
source_of r = unescaped r.raw

-- the grammar of `regex` reads these patterns
abbrev pub ArePatterns : Log → Type 0
ArePatterns log = AllByRecursion (λ r. IsPattern default_config (source_of r)) log

-- the grammar of `regex` reads this pattern in a text, with the default options
abbrev pub IsReadAs : List ℕ → Re → Type 0
IsReadAs text re = (p : IsPattern default_config text) × (re ≡ meaning p.0)

-- what an error of `regex` says of a text. One of syntax: the grammar doesn't read it, or it is
-- nested deeper than the limit. Too large: it is a pattern, and no more, since the contract of
-- `Regex::new` says nothing else of that (its clause `kind`)
abbrev pub IsCause : List ℕ → Error → Type 0
IsCause text (Syntax fault) = Refuses default_config text fault.kind
    × IsRightKind default_config text (Syntax fault)
IsCause text CompiledTooBig = IsPattern default_config text
IsCause text Internal = ⊥
IsCause text OutOfMemory = ⊥

-- `regex` may refuse the text for another cause than lack of memory; its contract leaves open if a
-- legal pattern is too large
abbrev pub IsRefusedForCause : List ℕ → Type 0
IsRefusedForCause text = (e : Error) × IsCause text e

-- a pattern as `Regex::new` gives it: what the grammar of `regex` reads in its text, with the
-- default options, and within the limit of size that its clause `small` names
abbrev pub IsDefault : Regex → Type 0
IsDefault r = (regex_config r ≡ default_config) × IsReadFromSource r
    × (regex_size r ≤ 10 * 2 ^ 20 + 24)

-- patterns that are all as `Regex::new` gives them
abbrev pub AreDefault : List Regex → Type 0
AreDefault patterns = AllByRecursion IsDefault patterns
