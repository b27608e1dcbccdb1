-- The lines of a plan are read as the commands that they are said to be.
use Rattle.std.proofs.Common.{◌≡◌, ◌<◌, ◌^◌, ◌+◌, ℕ, true, false, List, [], ◌∷◌, ◌++◌}
use Rattle.std.proofs.Common.{Option}
use Rattle.std.proofs.Common.{Some, None, Result, Ok, length, map, refl, sym, ap, subst, ◌∙◌, arith}
use Rattle.std.proofs.Common.{append_assoc, append-nil, codes, decimal}
use Rattle.std.specs.Prelude.{filter, is_ok, is_some}
use Rattle.std.specs.List.{AllByRecursion, cons_option, flat_map}
use Rattle.std.specs.Str.{bytes_eq}
use Rattle.std.proofs.lemmas.Bool.{or_from, and_from}
use Rattle.td_text.specs.Lines.{on_ok}
use Rattle.td_relation.specs.Arch.{ArchWords}
use Rattle.td_indices.specs.Sources.{KeptSource}
use Rattle.td_wbread.specs.declared.command.Verb.{Verb}
use Rattle.td_wbread.specs.declared.command.Verb.TheVariants.{Dw, Nmu}
use Rattle.td_wbread.specs.declared.fault.CommandFault.{CommandFault}
use Rattle.td_wbread.specs.declared.word.Word.{Word}
use Rattle.td_wbread.specs.declared.word.End.{End}
use Rattle.td_wbread.specs.declared.word.End.TheVariants.{Closed}
use Rattle.td_wbread.specs.Archs.{archs_at, chosen_names}
use Rattle.td_wbread.specs.Command.{CommandParts, Head, Spoken, command_at, command_from}
use Rattle.td_wbread.specs.Command.{command_of}
use Rattle.td_wbread.specs.Command.{head_at, spoken_at}
use Rattle.td_wbread.specs.Packages.{PackageText, is_package, packages_at}
use Rattle.td_wbread.specs.Tail.{Values, is_relation, is_suite, needs_relation, tail_at}
use Rattle.td_wbread.specs.Tail.{takes_message}
use Rattle.td_wbread.specs.Verbs.{verb_at}
use Rattle.td_wbread.specs.Words.{words_of}
use Rattle.td_wbread.specs.WordLaws.{Bare, Piece, Quoted, piece_text}
use Rattle.td_wbread.proofs.Dotted.{packages_exact}
use Rattle.td_wbread.proofs.Undotted.{archs_exact}
use Rattle.td_wbread.proofs.VerbShapes.{verbs_exact}
use Rattle.td_plan.specs.Lines.{Words, dw_line, nmu_line, source_word, spaced}
use Rattle.td_plan.specs.Message.{between, quote_of}
use Rattle.td_plan.specs.ReadingLaws.{DwLinesAreRead, IsSayable, NmuLinesAreRead}
use Rattle.td_plan.specs.ReadingLaws.{command_with, package_of}
use Rattle.td_plan.proofs.SaidArchs.{IsArchWord, archs_chosen, archs_undotted, chosen_again}
use Rattle.td_plan.proofs.SaidArchs.{table_words}
use Rattle.td_plan.proofs.SaidBytes.{IsSuite, lacks_any, message_piece, named_long, named_piece}
use Rattle.td_plan.proofs.SaidBytes.{bare_piece, number_piece, quoted_piece, suite_parts}
use Rattle.td_plan.proofs.SaidBytes.{suite_piece}
use Rattle.td_plan.proofs.SaidParts.{package_read, source_undotted, tail_read}
use Rattle.td_plan.proofs.SaidWords.{IsWordPiece, joined, line_read, line_words, past, place_past}
use Rattle.td_plan.proofs.SaidWords.{word_at, words_at, words_at-append}

-- ---- 1. the text of a line

-- the pieces after the architectures
abbrev tail_pieces : List ℕ → ℕ → List ℕ → List Piece
tail_pieces suite q text = Bare (codes ".") ∷ Bare suite ∷ Bare (codes ".") ∷ Bare (codes "-m")
    ∷ Quoted q text ∷ []

-- the pieces after the verb
abbrev pieces : List ℕ → List (List ℕ) → List ℕ → ℕ → List ℕ → List Piece
pieces source archs suite q text = Bare source ∷ Bare (codes ".")
    ∷ (map (λ a. Bare a) archs ++ tail_pieces suite q text)

joined_more : (archs : List (List ℕ)) (ps : List Piece)
    → flat_map (λ a. codes " " ++ a) archs ++ joined ps ≡ joined (map (λ a. Bare a) archs ++ ps)
joined_more [] ps = refl
joined_more (a ∷ archs) ps =
    append_assoc (32 ∷ a) (flat_map (λ x. codes " " ++ x) archs) (joined ps)
    ∙ ap (λ (t : List ℕ). 32 ∷ (a ++ t)) (joined_more archs ps)

joined_archs : (archs : List (List ℕ)) (ps : List Piece) → 0 < length archs
    → 32 ∷ (spaced archs ++ joined ps) ≡ joined (map (λ a. Bare a) archs ++ ps)
joined_archs [] ps some = absurd (omega arith)
joined_archs (a ∷ archs) ps some =
    ap (λ (t : List ℕ). 32 ∷ t)
    (append_assoc a (flat_map (λ x. codes " " ++ x) archs) (joined ps)
    ∙ ap (λ (t : List ℕ). a ++ t) (joined_more archs ps))

-- what comes after the verb
front_text : (source : List ℕ) (archs : List (List ℕ)) (suite : List ℕ) (q : ℕ) (text : List ℕ)
    → 0 < length archs
    → 32 ∷ (source ++ (codes " . " ++ (spaced archs
    ++ (codes " . " ++ (suite ++ (codes " . -m " ++ between q text))))))
    ≡ joined (pieces source archs suite q text)
front_text source archs suite q text some =
    ap (λ (t : List ℕ). 32 ∷ (source ++ (codes " . " ++ (spaced archs
    ++ (codes " . " ++ (suite ++ (codes " . -m " ++ t)))))))
    (sym (append-nil (between q text)))
    ∙ ap (λ (t : List ℕ). 32 ∷ (source ++ (32 ∷ (46 ∷ t))))
    (joined_archs archs (tail_pieces suite q text) some)

-- ---- 2. the command of words

-- a reading that went well goes on
goes_on : {A B F : Type 0} (r : Result A F) (x : A) (f : A → Result B F) → r ≡ Ok x
    → on_ok r f ≡ f x
goes_on {A} {B} {F} r x f h = ap (λ (s : Result A F). on_ok s f) h

-- how the head of a command is read on, from its architectures, its packages, and its verb
abbrev from_archs : Verb → List Word → List Word × Option (List Word) → Result Head CommandFault
from_archs verb packages x =
    Ok (record { verb = verb; packages = packages; archs = x.0; behind = x.1 })

abbrev from_packages : List ArchWords → End → Verb → List Word × List Word
    → Result Head CommandFault
from_packages table end verb x = on_ok (archs_at table end x.1) (from_archs verb x.0)

abbrev from_verb : List ArchWords → End → Verb × List Word → Result Head CommandFault
from_verb table end x = on_ok (packages_at end x.1) (from_packages table end x.0)

-- how a command is read on after its head
abbrev from_values : Head → Values → Result Spoken CommandFault
from_values head values = Ok (record {
  verb = head.verb;
  packages = head.packages;
  archs = head.archs;
  values = values;
})

abbrev from_head : List (List ℕ) → End → Head → Result Spoken CommandFault
from_head suites end head =
    on_ok (tail_at head.verb suites end head.behind) (from_values head)

abbrev from_spoken : List ArchWords → Spoken → Result CommandParts CommandFault
from_spoken table s = Ok (command_of table s)

-- a command is read if each of its parts is
parts_read : (table : List ArchWords) (suites : List (List ℕ)) (end : End)
    (words more after front archs : List Word) (last : List Word) (verb : Verb) (values : Values)
    → verb_at end words ≡ Ok (verb, more)
    → packages_at end more ≡ Ok (front, after)
    → archs_at table end after ≡ Ok (archs, Some last)
    → tail_at verb suites end (Some last) ≡ Ok values
    → command_from table suites end words
    ≡ Ok (command_of table
    (record { verb = verb; packages = front; archs = archs; values = values }))
unfolding spoken_at
parts_read table suites end words more after front archs last verb values v p a t =
    let head : Head =
    record { verb = verb; packages = front; archs = archs; behind = Some last } in
    let head_is : head_at table end words ≡ Ok head =
    goes_on (verb_at end words) (verb, more) (from_verb table end) v
    ∙ goes_on (packages_at end more) (front, after) (from_packages table end verb) p
    ∙ goes_on (archs_at table end after) (archs, Some last) (from_archs verb front) a in
    let spoken : Spoken =
    record { verb = verb; packages = front; archs = archs; values = values } in
    let spoken_is : on_ok (head_at table end words) (from_head suites end) ≡ Ok spoken =
    goes_on (head_at table end words) head (from_head suites end) head_is
    ∙ goes_on (tail_at verb suites end (Some last)) values (from_values head) t in
    goes_on (on_ok (head_at table end words) (from_head suites end)) spoken (from_spoken table)
    spoken_is

abbrev read_as : CommandParts → Result CommandParts CommandFault
read_as c = Ok c

-- ---- 3. what comes after the verb

all_both : {X : Type 0} (P : X → Type 0) (xs ys : List X) → AllByRecursion P xs
    → AllByRecursion P ys → AllByRecursion P (xs ++ ys)
all_both P [] ys a b = b
all_both P (x ∷ xs) ys a b = (a.0, all_both P xs ys a.1 b)

all_pieces : (table : List ArchWords) (names : List (List ℕ))
    → AllByRecursion (IsArchWord table) names
    → AllByRecursion IsWordPiece (map (λ a. Bare a) names)
all_pieces table [] all = tt
all_pieces table (x ∷ names) all = (all.0.piece, all_pieces table names all.1)

dot_piece : IsWordPiece (Bare (codes "."))
dot_piece = bare_piece (codes ".") refl (omega arith)

-- architectures that are said, and are those of a table
record AreSaid (table : List ArchWords) (archs : List (List ℕ)) : Type 0 where
  some : 0 < length archs
  words : AllByRecursion (IsArchWord table) archs
  chosen : (place : ℕ)
      → chosen_names table (words_at place (map (λ a. Bare a) archs)) ≡ archs

module _ (table : List ArchWords) (suites : List (List ℕ)) (s : KeptSource) (words : Words)
    (archs : List (List ℕ)) (y : IsSayable table s words archs)
    (known : is_suite suites words.suite ≡ true) where
  said : AreSaid table archs
  said =
      let test = y.chosen.0 in
      let kept = filter test (map (λ (a : ArchWords). a.name) table) in
      let all = table_words table test y.table_fits in
      let all_said : AreSaid table kept = record {
        some = subst (λ (l : List (List ℕ)). 0 < length l) y.chosen.1 y.some;
        words = all;
        chosen = λ place. chosen_again table test place all;
      } in
      subst (AreSaid table) (sym y.chosen.1) all_said

  source : List ℕ
  source = source_word s

  suite_is : IsSuite words.suite
  suite_is = suite_parts words.suite y.suite

  pieces_fit : (q : ℕ) (text : List ℕ) → IsWordPiece (Quoted q text)
      → AllByRecursion IsWordPiece (pieces (source_word s) archs words.suite q text)
  pieces_fit q text w = (
    named_piece s.head.name s.head.version y.name y.version,
    (
      dot_piece,
      all_both IsWordPiece (map (λ a. Bare a) archs) (tail_pieces words.suite q text)
          (all_pieces table archs said.words) (
            dot_piece,
            (
              suite_piece words.suite y.suite,
              (dot_piece, (bare_piece (codes "-m") refl (omega arith), (w, tt))),
            ),
          ),
    ),
  )

  -- after a verb, the words are read as the source, the architectures and the text
  rest_read : (verb : Verb) (q : ℕ) (text : List ℕ) (place len : ℕ) (all : List Word)
      → verb_at (Closed len) all
      ≡ Ok (verb, words_at place (pieces (source_word s) archs words.suite q text))
      → takes_message verb ≡ true
      → (needs_relation verb ≡ true → is_relation text ≡ true)
      → command_from table suites (Closed len) all
      ≡ Ok (command_with verb s archs text)
  rest_read verb q text place len all v takes relation =
      let first = word_at (place + 1) (Bare (source_word s)) in
      let p1 = past (place + 1) (Bare (source_word s)) in
      let dot = word_at (p1 + 1) (Bare (codes ".")) in
      let p2 = past (p1 + 1) (Bare (codes ".")) in
      let arch_pieces = map (λ a. Bare a) archs in
      let arch_words = words_at p2 arch_pieces in
      let p3 = place_past p2 arch_pieces in
      let dot2 = word_at (p3 + 1) (Bare (codes ".")) in
      let p4 = past (p3 + 1) (Bare (codes ".")) in
      let p5 = past (p4 + 1) (Bare words.suite) in
      let p6 = past (p5 + 1) (Bare (codes ".")) in
      let p7 = past (p6 + 1) (Bare (codes "-m")) in
      let value = word_at (p7 + 1) (Quoted q text) in
      let last = word_at (p4 + 1) (Bare words.suite) ∷ word_at (p5 + 1) (Bare (codes "."))
      ∷ word_at (p6 + 1) (Bare (codes "-m")) ∷ value ∷ [] in
      let after = words_at p2 (arch_pieces ++ tail_pieces words.suite q text) in
      let values : Values = record { message = Some value; extra = None } in
      let named = package_read s.head.name s.head.version y.name y.version in
      let undotted = source_undotted s.head.name s.head.version y.name in
      parts_read table suites (Closed len) all
      (words_at place (pieces (source_word s) archs words.suite q text)) after (first ∷ [])
      arch_words last verb values v
      ((packages_exact (Closed len) (first ∷ dot ∷ after) (first ∷ []) after).1 (record {
        dot = dot;
        joined = refl;
        dotted = refl;
        no_dot = or_from (bytes_eq (source_word s) (codes ".")) false undotted refl;
        some = omega arith;
        packages = and_from (is_package (source_word s)) true (ap is_some named) refl;
      }))
      ((archs_exact table (Closed len) after arch_words (Some last)).1 (record {
        joined = (dot2, words_at-append p2 arch_pieces (tail_pieces words.suite q text), refl);
        no_dot = archs_undotted table p2 archs said.words;
        archs = archs_chosen table p2 archs said.some said.words;
      }))
      (tail_read verb suites len words.suite q text (p4 + 1) (p5 + 1) (p6 + 1) (p7 + 1) suite_is
      known takes relation)
      ∙ ap (λ (o : Option PackageText). read_as (record {
        verb = verb;
        packages = cons_option o [];
        archs = chosen_names table arch_words;
        message = text;
        extra = [];
      })) named
      ∙ ap (λ (names : List (List ℕ)). read_as (record {
        verb = verb;
        packages = package_of s ∷ [];
        archs = names;
        message = text;
        extra = [];
      })) (said.chosen p2)

-- ---- 4. the lines

-- a line of pieces is read as its words are
line_command : (table : List ArchWords) (suites : List (List ℕ)) (line : List ℕ) (p : Piece)
    (ps : List Piece) (c : CommandParts) → line ≡ piece_text p ++ joined ps → IsWordPiece p
    → AllByRecursion IsWordPiece ps
    → command_from table suites (Closed (length (piece_text p ++ joined ps))) (line_words p ps)
    ≡ Ok c
    → command_at table suites line ≡ Ok c
line_command table suites line p ps c is w all read =
    let l = line_read p ps w all in
    ap (command_at table suites) is
    ∙ ap (λ (end : End). command_from table suites end (words_of (piece_text p ++ joined ps))) l.1
    ∙ ap (command_from table suites (Closed (length (piece_text p ++ joined ps)))) l.0
    ∙ read

pub nmu_lines_are_read : NmuLinesAreRead
nmu_lines_are_read table suites s words number archs y known some small =
    let q = quote_of words.message in
    let ps = pieces (source_word s) archs words.suite q words.message in
    let fit = message_piece words.message y.message in
    let below : number < 2 ^ 64 = omega arith in
    let first = word_at 0 (Bare (codes "nmu")) in
    let p1 = past 0 (Bare (codes "nmu")) in
    let second = word_at (p1 + 1) (Bare (decimal number)) in
    let p2 = past (p1 + 1) (Bare (decimal number)) in
    let len = length (codes "nmu" ++ joined (Bare (decimal number) ∷ ps)) in
    let verb : verb_at (Closed len) (first ∷ second ∷ words_at p2 ps)
    ≡ Ok (Nmu (Some number), words_at p2 ps) =
    (verbs_exact (Closed len) (first ∷ second ∷ words_at p2 ps) (Nmu (Some number))
    (words_at p2 ps)).1 (
      second,
      (first, refl, refl),
      record { written = refl; positive = omega arith; bounded = small },
      λ dot. omega (arith, ap length dot.1, named_long s.head.name s.head.version y.name),
    ) in
    line_command table suites (nmu_line words s number archs) (Bare (codes "nmu"))
    (Bare (decimal number) ∷ ps) (command_with (Nmu (Some number)) s archs words.message)
    (ap (λ (t : List ℕ). (codes "nmu " ++ decimal number) ++ t)
    (front_text (source_word s) archs words.suite q words.message y.some))
    (bare_piece (codes "nmu") refl (omega arith))
    (number_piece number below, pieces_fit table suites s words archs y known q words.message fit)
    (rest_read table suites s words archs y known (Nmu (Some number)) q words.message p2 len
    (first ∷ second ∷ words_at p2 ps) verb refl (λ needs. absurd cc))

pub dw_lines_are_read : DwLinesAreRead
dw_lines_are_read table suites s words relation archs y known r =
    let ps = pieces (source_word s) archs words.suite 34 relation in
    let fit = quoted_piece 34 relation refl (lacks_any 34 relation r.unquoted) r.one_line in
    let first = word_at 0 (Bare (codes "dw")) in
    let p1 = past 0 (Bare (codes "dw")) in
    let len = length (codes "dw" ++ joined ps) in
    let verb : verb_at (Closed len) (first ∷ words_at p1 ps) ≡ Ok (Dw, words_at p1 ps) =
    (verbs_exact (Closed len) (first ∷ words_at p1 ps) Dw (words_at p1 ps)).1
    (first, refl, refl) in
    line_command table suites (dw_line words s archs relation) (Bare (codes "dw")) ps
    (command_with Dw s archs relation)
    (ap (λ (t : List ℕ). codes "dw" ++ t)
    (front_text (source_word s) archs words.suite 34 relation y.some))
    (bare_piece (codes "dw") refl (omega arith))
    (pieces_fit table suites s words archs y known 34 relation fit)
    (rest_read table suites s words archs y known Dw 34 relation p1 len (first ∷ words_at p1 ps)
    verb refl
    (λ needs. ap is_ok r.read))
