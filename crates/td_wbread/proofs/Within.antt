-- The place of each fault lies within its line.
use Rattle.std.proofs.Common.{◌≡◌, ◌⊎◌, ℕ, ◌+◌, ◌≤◌, Bool, List, [], ◌∷◌, ◌++◌, Option, Some, None}
use Rattle.std.proofs.Common.{length, codes, sym, ap, subst, ◌∙◌, inl, inr, arith, length-append}
use Rattle.std.specs.List.{AllByRecursion}
use Rattle.td_relation.specs.Arch.{ArchWords}
use Rattle.td_wbread.specs.declared.command.Verb.{Verb}
use Rattle.td_wbread.specs.declared.command.Verb.TheVariants.{Gb, Nmu, Bp, Dw}
use Rattle.td_wbread.specs.declared.option_reading.Flag.{Flag}
use Rattle.td_wbread.specs.declared.fault.CommandFault.{CommandFault}
use Rattle.td_wbread.specs.declared.fault.CommandFault.TheVariants.{Wrong, NoMemory}
use Rattle.td_wbread.specs.declared.fault.LineFault.{LineFault}
use Rattle.td_wbread.specs.declared.word.Word.{Word}
use Rattle.td_wbread.specs.declared.word.End.{End}
use Rattle.td_wbread.specs.declared.word.End.TheVariants.{Closed, Open}
use Rattle.td_wbread.specs.ArchLaws.{GoesOn}
use Rattle.td_wbread.specs.Faults.{missing}
use Rattle.td_wbread.specs.HeadFaults.{IsArchFault, IsFirstOther, IsHeadFault, IsPackageFault}
use Rattle.td_wbread.specs.HeadFaults.{IsUnfilled, IsVerbFault}
use Rattle.td_wbread.specs.PlaceLaws.{PlacesLieWithin}
use Rattle.td_wbread.specs.Tail.{Values, missing_value, no_values}
use Rattle.td_wbread.specs.TailFaults.{IsDotFault, IsEndFault, IsLateFault, IsNextFault}
use Rattle.td_wbread.specs.TailFaults.{IsOptionFault, IsSuiteFault, IsTailFault, IsValueFault}
use Rattle.td_wbread.specs.VerbLaws.{Follows, IsVerb}
use Rattle.td_wbread.specs.WordLaws.{AreWords, EndsLine, written}
use Rattle.td_wbread.proofs.CommandFaults.{command_faults_are_exact}
use Rattle.td_wbread.proofs.Written.{first_long}

module _ (len : ℕ) where
  -- the word begins within the line
  abbrev pub IsWithin : Word → Type 0
  IsWithin word = word.place ≤ len

  abbrev pub AreWithin : List Word → Type 0
  AreWithin words = AllByRecursion (λ w. w.place ≤ len) words

  -- the end lies within it
  abbrev pub EndsWithin : End → Type 0
  EndsWithin (Closed place) = place ≤ len
  EndsWithin (Open place) = place ≤ len

  -- a fault's place does
  abbrev pub FaultWithin : CommandFault → Type 0
  FaultWithin NoMemory = Unit {0}
  FaultWithin (Wrong what place) = place ≤ len

  -- ---- words

  end_within : (place : ℕ) (end : End) (text : List ℕ) → place + length text ≡ len
      → EndsLine place end text → EndsWithin end
  end_within place (Closed n) text whole is = (let k = is.1 in omega arith)
  end_within place (Open n) text whole o =
      (let k = o.stands in
      omega (
        arith,
        ap length o.joined,
        length-append o.space (written o.pieces ++ o.q ∷ o.inside),
        length-append (written o.pieces) (o.q ∷ o.inside),
      ))

  pub words_within : (words : List Word) (place : ℕ) (end : End) (text : List ℕ)
      → place + length text ≡ len → AreWords place words end text
      → AreWithin words × EndsWithin end
  words_within [] place end text whole h = (tt, end_within place end text whole h)
  words_within (word ∷ words) place end text whole (rest, f, later) =
      let long = first_long place text word rest f in
      let next = word.place + length (written f.pieces) in
      let more = words_within words next end rest (long ∙ whole) later in
      let here : word.place ≤ len = omega arith in
      ((here, more.0), more.1)

  -- ---- parts of lists

  along : (a b : List Word) → a ≡ b → AreWithin a → AreWithin b
  along a b same h = subst AreWithin same h

  behind_front : (front rest : List Word) → AreWithin (front ++ rest) → AreWithin rest
  behind_front [] rest h = h
  behind_front (w ∷ front) rest h = behind_front front rest h.1

  -- a fault that is this one
  is_within : (fault this : CommandFault) → fault ≡ this → FaultWithin this → FaultWithin fault
  is_within fault this same h = subst FaultWithin (sym same) h

  missing_within : (end : End) (what : LineFault) → EndsWithin end → FaultWithin (missing end what)
  missing_within (Closed place) what h = h
  missing_within (Open place) what h = h

  follows_within : (text : List ℕ) (words rest : List Word) → Follows text words rest
      → AreWithin words → AreWithin rest
  follows_within text words rest (word, joined, is) h = (along words (word ∷ rest) joined h).1

  verb_within : (end : End) (words : List Word) (verb : Verb) (rest : List Word)
      → IsVerb end words verb rest → AreWithin words → AreWithin rest
  verb_within end words Gb rest v h = follows_within (codes "gb") words rest v h
  verb_within end words (Nmu None) rest v h = follows_within (codes "nmu") words rest v.0 h
  verb_within end words (Nmu (Some n)) rest (number, follows, is, on) h =
      (follows_within (codes "nmu") words (number ∷ rest) follows h).1
  verb_within end words (Bp priority) rest (number, follows, is) h =
      (follows_within (codes "bp") words (number ∷ rest) follows h).1
  verb_within end words Dw rest v h = follows_within (codes "dw") words rest v h

  other_within : (test : List ℕ → Bool) (words : List Word) (word : Word)
      → IsFirstOther test words word → AreWithin words → word.place ≤ len
  other_within test words word o h =
      (behind_front o.front (word ∷ o.rest)
      (along words (o.front ++ word ∷ o.rest) o.joined h)).0

  -- ---- the faults

  verb_fault : (end : End) (words : List Word) (fault : CommandFault) → IsVerbFault end words fault
      → AreWithin words → EndsWithin end → FaultWithin fault
  verb_fault end words fault (inl (inl (none, is))) h e =
      is_within fault _ is (missing_within end _ e)
  verb_fault end words fault (inl (inr (word, rest, joined, other, is))) h e =
      is_within fault _ is (along words (word ∷ rest) joined h).0
  verb_fault end words fault (inr (inl (inl (follows, is)))) h e =
      is_within fault _ is (missing_within end _ e)
  verb_fault end words fault (inr (inl (inr (number, rest, follows, none, is)))) h e =
      is_within fault _ is (follows_within (codes "bp") words (number ∷ rest) follows h).0
  verb_fault end words fault (inr (inr (number, rest, follows, begins, none, is))) h e =
      is_within fault _ is (follows_within (codes "nmu") words (number ∷ rest) follows h).0

  unfilled : (end : End) (what : LineFault) (words : List Word) (fault : CommandFault)
      → IsUnfilled end what words fault → AreWithin words → EndsWithin end → FaultWithin fault
  unfilled end what words fault (inl (none, is)) h e =
      is_within fault _ is (missing_within end what e)
  unfilled end what words fault (inr (dot, rest, joined, d, is)) h e =
      is_within fault _ is (along words (dot ∷ rest) joined h).0

  package_fault : (end : End) (words : List Word) (fault : CommandFault)
      → IsPackageFault end words fault → AreWithin words → EndsWithin end → FaultWithin fault
  package_fault end words fault (inl u) h e = unfilled end _ words fault u h e
  package_fault end words fault (inr (inl (word, o, is))) h e =
      is_within fault _ is (other_within _ words word o h)
  package_fault end words fault (inr (inr (some, a, is))) h e =
      is_within fault _ is (missing_within end _ e)

  arch_fault : (table : List ArchWords) (end : End) (words : List Word) (fault : CommandFault)
      → IsArchFault table end words fault → AreWithin words → EndsWithin end → FaultWithin fault
  arch_fault table end words fault (inl u) h e = unfilled end _ words fault u h e
  arch_fault table end words fault (inr (inl (word, rest, joined, d, c, is))) h e =
      is_within fault _ is (along words (word ∷ rest) joined h).0
  arch_fault table end words fault (inr (inr (first, rest, word, joined, d, c, o, is))) h e =
      is_within fault _ is
      (other_within _ rest word o (along words (first ∷ rest) joined h).1)

  head_fault : (table : List ArchWords) (end : End) (words : List Word) (fault : CommandFault)
      → IsHeadFault table end words fault → AreWithin words → EndsWithin end → FaultWithin fault
  head_fault table end words fault (inl v) h e = verb_fault end words fault v h e
  head_fault table end words fault (inr (inl (verb, rest, v, p))) h e =
      package_fault end rest fault p (verb_within end words verb rest v h) e
  head_fault table end words fault (inr (inr (verb, rest, packages, behind, v, p, a))) h e =
      arch_fault table end behind fault a
      (behind_front packages (p.dot ∷ behind)
      (along rest (packages ++ p.dot ∷ behind) p.joined
      (verb_within end words verb rest v h))).1 e

  end_fault : (verb : Verb) (end : End) (seen : Values) (fault : CommandFault)
      → IsEndFault verb end seen fault → EndsWithin end → FaultWithin fault
  end_fault verb (Closed place) seen fault (needs, none, is) e = is_within fault _ is e
  end_fault verb (Open place) seen fault is e = is_within fault _ is e

  value_fault : (verb : Verb) (end : End) (flag : Flag) (words : List Word) (fault : CommandFault)
      → IsValueFault verb end flag words fault → AreWithin words → EndsWithin end
      → FaultWithin fault
  value_fault verb end flag [] fault is h e =
      is_within fault _ is (missing_within end (missing_value flag) e)
  value_fault verb end flag (value ∷ words) fault (wants, other, is) h e =
      is_within fault _ is h.0

  next_fault : (verb : Verb) (end : End) (seen : Values) (words : List Word) (fault : CommandFault)
      → IsNextFault verb end seen words fault → AreWithin words → EndsWithin end
      → FaultWithin fault
  next_fault verb end seen [] fault is h e = end_fault verb end seen fault is e
  next_fault verb end seen (word ∷ words) fault (inl (none, is)) h e = is_within fault _ is h.0
  next_fault verb end seen (word ∷ words) fault (inr (flag, may, is)) h e =
      value_fault verb end flag words fault is h.1 e

  option_fault : (verb : Verb) (end : End) (words : List Word) (fault : CommandFault)
      → IsOptionFault verb end words fault → AreWithin words → EndsWithin end → FaultWithin fault
  option_fault verb end words fault (front, rest, seen, joined, are, n) h e =
      next_fault verb end seen rest fault n
      (behind_front front rest (along words (front ++ rest) joined h)) e

  suite_fault : (verb : Verb) (end : End) (words : List Word) (fault : CommandFault)
      → IsSuiteFault verb end words fault → AreWithin words → EndsWithin end → FaultWithin fault
  suite_fault verb end [] fault is h e = end_fault verb end no_values fault is e
  suite_fault verb end (word ∷ words) fault (inl (other, is)) h e = is_within fault _ is h.0
  suite_fault verb end (word ∷ words) fault (inr (dot, is)) h e =
      option_fault verb end words fault is h.1 e

  dot_fault : (verb : Verb) (suites : List (List ℕ)) (end : End) (words : List Word)
      (fault : CommandFault) → IsDotFault verb suites end words fault → AreWithin words
      → EndsWithin end → FaultWithin fault
  dot_fault verb suites end [] fault is h e = end_fault verb end no_values fault is e
  dot_fault verb suites end (word ∷ words) fault (inl (option, is)) h e =
      option_fault verb end (word ∷ words) fault is h e
  dot_fault verb suites end (word ∷ words) fault (inr (inl (option, named, is))) h e =
      suite_fault verb end words fault is h.1 e
  dot_fault verb suites end (word ∷ words) fault (inr (inr (option, named, is))) h e =
      is_within fault _ is h.0

  tail_fault : (verb : Verb) (suites : List (List ℕ)) (end : End) (behind : Option (List Word))
      (words : List Word) (fault : CommandFault) → IsTailFault verb suites end behind fault
      → (front : List Word) → GoesOn words front behind → AreWithin words → EndsWithin end
      → FaultWithin fault
  tail_fault verb suites end None words fault is front on h e =
      end_fault verb end no_values fault is e
  tail_fault verb suites end (Some rest) words fault is front (dot, joined, d) h e =
      dot_fault verb suites end rest fault is
      (behind_front front (dot ∷ rest) (along words (front ++ dot ∷ rest) joined h)).1 e

  pub late_fault : (table : List ArchWords) (suites : List (List ℕ)) (end : End)
      (words : List Word) (fault : CommandFault)
      → IsHeadFault table end words fault ⊎ IsLateFault table suites end words fault
      → AreWithin words → EndsWithin end → FaultWithin fault
  late_fault table suites end words fault (inl wrong) h e = head_fault table end words fault wrong h e
  late_fault table suites end words fault
      (inr (verb, rest, packages, behind, archs, after, v, p, a, wrong)) h e =
      tail_fault verb suites end after behind fault wrong archs a.joined
      (behind_front packages (p.dot ∷ behind)
      (along rest (packages ++ p.dot ∷ behind) p.joined
      (verb_within end words verb rest v h))).1 e

pub places_lie_within : PlacesLieWithin
places_lie_within table suites line what place h =
    let (words, end, are, wrong) =
    (command_faults_are_exact table suites line (Wrong what place)).0 h in
    let whole : 0 + length line ≡ length line = omega arith in
    let in_line = words_within (length line) words 0 end line whole are in
    late_fault (length line) table suites end words (Wrong what place) wrong in_line.0 in_line.1
