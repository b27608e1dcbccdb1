-- What is wrong first with the head of a command line, said of the whole list of its words: the
-- fault, and the word or the end at which it is. This project's own, in the style of wanna-build.
use Rattle.std.specs.Prelude.{◌≡◌, ◌≢◌, ◌↔◌, ◌⊎◌, ℕ, true, false, Bool, List, [], ◌∷◌, ◌++◌, Err}
use Rattle.std.specs.Prelude.{codes, ℤ}
use Rattle.std.specs.List.{list_all, list_any}
use Rattle.td_relation.specs.Arch.{ArchWords}
use Rattle.td_wbread.specs.declared.command.Verb.{Verb}
use Rattle.td_wbread.specs.declared.fault.CommandFault.{CommandFault}
use Rattle.td_wbread.specs.declared.fault.CommandFault.TheVariants.{Wrong}
use Rattle.td_wbread.specs.declared.fault.LineFault.{LineFault}
use Rattle.td_wbread.specs.declared.fault.LineFault.TheVariants.{UnknownCommand, BadNumber}
use Rattle.td_wbread.specs.declared.fault.LineFault.TheVariants.{NoPackage, BadPackage, NoDot}
use Rattle.td_wbread.specs.declared.fault.LineFault.TheVariants.{NoArch, UnknownArch}
use Rattle.td_wbread.specs.declared.word.Word.{Word}
use Rattle.td_wbread.specs.declared.word.End.{End}
use Rattle.td_wbread.specs.Archs.{archs_at, is_arch_word, is_choice}
use Rattle.td_wbread.specs.Command.{head_at}
use Rattle.td_wbread.specs.Faults.{is_dot, missing}
use Rattle.td_wbread.specs.PackageLaws.{ArePackages}
use Rattle.td_wbread.specs.Packages.{is_package, packages_at}
use Rattle.td_wbread.specs.VerbLaws.{BeginsWithNumber, Follows, IsPriority, IsRebuildNumber, IsVerb}
use Rattle.td_wbread.specs.Verbs.{verb_at}

-- ---- 1. the verb and its number

-- the word is one of the verbs
abbrev pub IsVerbWord : Word → Type 0
IsVerbWord word = (word.text ≡ codes "gb") ⊎ ((word.text ≡ codes "nmu")
    ⊎ ((word.text ≡ codes "bp") ⊎ (word.text ≡ codes "dw")))

-- There is no word, or the first one is no verb.
abbrev pub IsNoVerb : End → List Word → CommandFault → Type 0
IsNoVerb end words fault =
    ((words ≡ []) × (fault ≡ missing end UnknownCommand))
    ⊎ ((word : Word) × (rest : List Word) × (words ≡ word ∷ rest) × (¬ IsVerbWord word)
    × (fault ≡ Wrong UnknownCommand word.place))

-- After `bp` comes no word, or one that is no priority.
abbrev pub IsNoPriority : End → List Word → CommandFault → Type 0
IsNoPriority end words fault =
    (Follows (codes "bp") words [] × (fault ≡ missing end BadNumber))
    ⊎ ((number : Word) × (rest : List Word) × Follows (codes "bp") words (number ∷ rest)
    × ((priority : ℤ) → ¬ IsPriority number.text priority) × (fault ≡ Wrong BadNumber number.place))

-- After `nmu` comes a word of digits, which is its number since another word follows, and no
-- rebuild has that number.
abbrev pub IsNoRebuild : End → List Word → CommandFault → Type 0
IsNoRebuild end words fault = (number : Word) × (rest : List Word)
    × Follows (codes "nmu") words (number ∷ rest) × BeginsWithNumber end (number ∷ rest)
    × ((n : ℕ) → ¬ IsRebuildNumber number.text n) × (fault ≡ Wrong BadNumber number.place)

-- what is wrong with the verb or with its number
abbrev pub IsVerbFault : End → List Word → CommandFault → Type 0
IsVerbFault end words fault =
    IsNoVerb end words fault ⊎ (IsNoPriority end words fault ⊎ IsNoRebuild end words fault)

-- ---- 2. the words up to a dot

-- each of these words passes the test, and none is the dot
pub record AllPass (test : List ℕ → Bool) (words : List Word) : Type 0 where
  pub no_dot : list_any is_dot words ≡ false
  pub all : list_all (λ w. test w.text) words ≡ true

-- The word is the first, up to a dot or the end, that doesn't pass the test.
pub record IsFirstOther (test : List ℕ → Bool) (words : List Word) (word : Word) : Type 0 where
  pub front : List Word
  pub rest : List Word
  pub joined : words ≡ front ++ word ∷ rest
  pub before : AllPass test front
  pub no_dot : is_dot word ≡ false
  pub other : test word.text ≡ false

-- there is no word, or the first one is the dot
abbrev pub IsUnfilled : End → LineFault → List Word → CommandFault → Type 0
IsUnfilled end what words fault =
    ((words ≡ []) × (fault ≡ missing end what))
    ⊎ ((dot : Word) × (rest : List Word) × (words ≡ dot ∷ rest) × (is_dot dot ≡ true)
    × (fault ≡ Wrong what dot.place))

-- ---- 3. packages

-- what is wrong with the packages: there is none; a word is no package; or no dot follows them
abbrev pub IsPackageFault : End → List Word → CommandFault → Type 0
IsPackageFault end words fault =
    IsUnfilled end NoPackage words fault
    ⊎ (((word : Word) × IsFirstOther is_package words word × (fault ≡ Wrong BadPackage word.place))
    ⊎ ((words ≢ []) × AllPass is_package words × (fault ≡ missing end NoDot)))

-- ---- 4. architectures

-- what is wrong with the architectures: there is none; the first word chooses none; or a further
-- one neither chooses nor takes away
abbrev pub IsArchFault : List ArchWords → End → List Word → CommandFault → Type 0
IsArchFault table end words fault =
    IsUnfilled end NoArch words fault
    ⊎ (((word : Word) × (rest : List Word) × (words ≡ word ∷ rest) × (is_dot word ≡ false)
    × (is_choice table word.text ≡ false) × (fault ≡ Wrong UnknownArch word.place))
    ⊎ ((first : Word) × (rest : List Word) × (word : Word) × (words ≡ first ∷ rest)
    × (is_dot first ≡ false) × (is_choice table first.text ≡ true)
    × IsFirstOther (is_arch_word table) rest word × (fault ≡ Wrong UnknownArch word.place)))

-- ---- 5. the head

-- what is wrong first with the head: the verb; or a verb is there, and the packages are wrong; or
-- both are there, and the architectures are wrong
abbrev pub IsHeadFault : List ArchWords → End → List Word → CommandFault → Type 0
IsHeadFault table end words fault =
    IsVerbFault end words fault
    ⊎ (((verb : Verb) × (rest : List Word) × IsVerb end words verb rest
    × IsPackageFault end rest fault)
    ⊎ ((verb : Verb) × (rest : List Word) × (packages : List Word) × (behind : List Word)
    × IsVerb end words verb rest × ArePackages rest packages behind
    × IsArchFault table end behind fault))

-- a verb is refused with a fault if and only if that is what is wrong with it
abbrev pub VerbFaultsAreExact : Type 0
VerbFaultsAreExact = (end : End) (words : List Word) (fault : CommandFault)
    → (verb_at end words ≡ Err fault) ↔ IsVerbFault end words fault

-- packages are refused with a fault if and only if that is what is wrong with them
abbrev pub PackageFaultsAreExact : Type 0
PackageFaultsAreExact = (end : End) (words : List Word) (fault : CommandFault)
    → (packages_at end words ≡ Err fault) ↔ IsPackageFault end words fault

-- architectures are refused with a fault if and only if that is what is wrong with them
abbrev pub ArchFaultsAreExact : Type 0
ArchFaultsAreExact = (table : List ArchWords) (end : End) (words : List Word)
    (fault : CommandFault)
    → (archs_at table end words ≡ Err fault) ↔ IsArchFault table end words fault

-- a head is refused with a fault if and only if that is what is wrong first with it
abbrev pub HeadFaultsAreExact : Type 0
HeadFaultsAreExact = (table : List ArchWords) (end : End) (words : List Word)
    (fault : CommandFault)
    → (head_at table end words ≡ Err fault) ↔ IsHeadFault table end words fault
