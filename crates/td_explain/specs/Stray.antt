-- What comes at the byte at which a tracker goes wrong: one of the forms of ben's trackers that
-- aren't read here (ben 0.10.1's manual has them), the end of the text, or something else. This
-- project's own.
use Rattle.std.specs.Prelude.{ℕ, ◌==◌, nat_eq, nat_le, ◌&&◌, ◌||◌, Bool, List, [], ◌∷◌, length}
use Rattle.std.specs.Prelude.{codes, drop, take, if◌then◌else◌}
use Rattle.std.specs.List.{ends_with, starts_with}
use Rattle.std.specs.Str.{bytes_eq}
use Rattle.td_text.specs.Runs.{run}
use Rattle.td_explain.specs.declared.stray.Stray.{Stray}
use Rattle.td_explain.specs.declared.stray.Stray.TheVariants as stray

-- a small letter
abbrev pub is_letter : ℕ → Bool
is_letter b = nat_le 97 b && nat_le b 122

-- a word that other languages have for `&`, `|` and `!`
abbrev pub is_logic_word : List ℕ → Bool
is_logic_word word =
    bytes_eq word (codes "and") || (bytes_eq word (codes "or") || bytes_eq word (codes "not"))

-- a word of small letters
abbrev pub stray_word : List ℕ → Stray
stray_word word = if bytes_eq word (codes "source") then stray.Source
    else (if is_logic_word word then stray.Word else stray.Other)

-- the first bytes of ben's comparisons
abbrev pub begins_comparison : List ℕ → Bool
begins_comparison rest =
    starts_with nat_eq rest (codes "<")
    || (starts_with nat_eq rest (codes ">")
    || (starts_with nat_eq rest (codes "=") || starts_with nat_eq rest (codes "!=")))

-- what comes, by its first bytes, or by the small letters at its front
abbrev pub stray_front : List ℕ → Stray
stray_front rest = if starts_with nat_eq rest (codes "[") then stray.List
    else (if starts_with nat_eq rest (codes "'") then stray.Apostrophe
    else (if begins_comparison rest then stray.Comparison
    else (if starts_with nat_eq rest (codes "&") || starts_with nat_eq rest (codes "|")
    then stray.Joint
    else stray_word (run is_letter rest))))

-- what comes, by the bytes before it and those from it on: first whether it ends the text, then
-- whether a slash or an escaped quote is right before it
abbrev pub stray_of : List ℕ → List ℕ → Stray
stray_of before rest = if length rest == 0 then stray.End
    else (if ends_with nat_eq before (codes "/") then stray.AfterSlash
    else (if ends_with nat_eq before (92 ∷ 34 ∷ []) then stray.AfterQuote
    else stray_front rest))

-- what comes after this many bytes of a text
abbrev pub stray_at : ℕ → List ℕ → Stray
stray_at at text = stray_of (take at text) (drop at text)
