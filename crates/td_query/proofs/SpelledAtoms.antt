-- Atoms are read as they are spelled.
use Rattle.std.proofs.Common.{◌≡◌, ◌≢◌, ℕ, ◌<◌, ◌≤◌, Bool, true, false, cond}
use Rattle.std.proofs.Common.{eqb, List, [], ◌∷◌, ◌++◌, length, length-append, Option, Some, None}
use Rattle.std.proofs.Common.{Ok, Err, refl, sym, ap, subst, ◌∙◌, inl, inr, one-add, ◌-◌}
use Rattle.std.proofs.Common.{arith}
use Rattle.std.specs.Prelude.{codes}
use Rattle.std.specs.List.{list_all}
use Rattle.std.specs.Str.{bytes_eq}
use Rattle.std.proofs.lemmas.Bool.{and_parts, cases_Bool}
use Rattle.std.proofs.lemmas.Slice.Eq.{bytes_eq-Decides}
use Rattle.td_text.specs.Cut.{cut, strip}
use Rattle.td_text.specs.Runs.{is_space, run, behind}
use Rattle.td_text.proofs.Chain.{guard, ok_is}
use Rattle.td_text.proofs.Cut.{cut-at, cut_found}
use Rattle.td_text.proofs.Prefix.{strip_found}
use Rattle.td_text.proofs.RunTexts.{Stops, behind_again, not_space, run_again}
use Rattle.td_text.proofs.RunTexts.{run_joined, run_passes}
use Rattle.td_query.specs.AtomRules.{IsTested, IsWord}
use Rattle.td_query.specs.Query.{Shape, always, text, pattern}
use Rattle.td_query.specs.QueryGrammar.{Log, Read, atom, begun, dotted, field_atom, not_in}
use Rattle.td_query.specs.QueryGrammar.{quote_atom, quoted, slash_atom, slashed, tested, tilde_atom}
use Rattle.td_query.specs.QueryGrammar.{tilded, word_atom}
use Rattle.td_query.specs.QuerySpelling.{EndsWord, IsKey, SpellsAtom, SpellsField, Stands, constant}
use Rattle.td_query.specs.QuerySpelling.{constant_text, field_pattern, field_text}
use Rattle.td_query.specs.Tokens.{is_key_byte, pattern_in, skipped}
use Rattle.td_query.proofs.AtomRules.{false_is_read, patterns_are_read, texts_are_read}
use Rattle.td_query.proofs.AtomRules.{true_is_read}
use Rattle.td_query.proofs.Gaps.{comes_stands, stands_comes, stands_room}
use Rattle.td_query.proofs.PatternEnds.{patterns_end}

-- ---- 1. words

stops : (rest : List ℕ) → EndsWord rest → Stops is_key_byte rest
stops [] h = tt
stops (x ∷ t) h = h

pub word_is : (word rest t : List ℕ) → list_all is_key_byte word ≡ true → EndsWord rest
    → t ≡ word ++ rest → IsWord word t rest
word_is word rest t legal ends e = (
  ap (run is_key_byte) e ∙ run_again is_key_byte word rest legal (stops rest ends),
  ap (behind is_key_byte) e ∙ behind_again is_key_byte word rest legal (stops rest ends),
)

pub behind_ends : (t : List ℕ) → EndsWord (behind is_key_byte t)
behind_ends [] = tt
behind_ends (x ∷ t) =
    elim (cases_Bool (is_key_byte x)) [
      | inl is ↦ rw (is, one-add) (behind_ends t)
      | inr out ↦ rw out out
    ]

pub some_length : (word : List ℕ) → word ≢ [] → 0 < length word
some_length [] some = absurd (some refl)
some_length (x ∷ t) some = omega arith

-- a key is no whitespace and no `#`
pub key_comes : (word t rest : List ℕ) → IsKey word → Stands word t rest
    → skipped t ≡ word ++ rest
key_comes [] t rest legal h = absurd (legal.0 refl)
key_comes (x ∷ word) t rest legal h =
    stands_comes x word t rest (no_space x (first x word legal.1))
    (no_hash x (first x word legal.1))
    h
  where
    first : (x : ℕ) (word : List ℕ) → list_all is_key_byte (x ∷ word) ≡ true
        → is_key_byte x ≡ true
    first x word h = (and_parts (is_key_byte x) (list_all is_key_byte word) h).0

    no_space : (x : ℕ) → is_key_byte x ≡ true → is_space x ≡ false
    no_space x h =
        not_space is_key_byte x (record { space = refl; tab = refl; newline = refl }) h

    no_hash : (x : ℕ) → is_key_byte x ≡ true → x ≢ 35
    no_hash x h e =
        (let bad : false ≡ true = ap is_key_byte (sym e) ∙ h in cc)

-- ---- 2. what is spelled is read

-- what is read, with what follows it
abbrev pub given : Shape → Log → List ℕ → Read
given s log rest = Ok (s, log, rest)

-- another way to write what was read
pub read_as : (r : Read) (s told : Shape) (after kept : Log) (rest : List ℕ) → s ≡ told
    → after ≡ kept → r ≡ Ok (told, kept, rest) → r ≡ Ok (s, after, rest)
read_as r s told after kept rest is same h =
    h ∙ ap (λ (x : Shape). given x kept rest) (sym is)
    ∙ ap (λ (l : Log). given s l rest) (sym same)

field_is : (name t rest : List ℕ) → SpellsField name t rest → IsTested name t rest
field_is name t rest h = (
  name ++ h.behind,
  h.behind,
  stands_comes 46 [] t (name ++ h.behind) refl (λ e. omega arith) h.dot,
  word_is name h.behind (name ++ h.behind) h.legal.1 h.ends refl,
  some_length name h.legal.0,
  stands_comes 126 [] h.behind rest refl (λ e. omega arith) h.tilde,
)

pub atom_read : (depth : ℕ) (log after : Log) (t rest : List ℕ) (s : Shape)
    → SpellsAtom log t s after rest → not_in depth log t ≡ Ok (s, after, rest)
atom_read depth log after t rest s (constant true there ends is same) =
    let word : IsWord (codes "true") (skipped t) rest =
    word_is (codes "true") rest (skipped t) refl ends
    (stands_comes 116 (codes "rue") t rest refl (λ e. omega arith) there) in
    read_as (not_in depth log t) s (always true) after log rest is same
    (true_is_read depth log t rest word)
atom_read depth log after t rest s (constant false there ends is same) =
    let word : IsWord (codes "false") (skipped t) rest =
    word_is (codes "false") rest (skipped t) refl ends
    (stands_comes 102 (codes "alse") t rest refl (λ e. omega arith) there) in
    read_as (not_in depth log t) s (always false) after log rest is same
    (false_is_read depth log t rest word)
atom_read depth log after t rest s (field_text name value u field there none is same) =
    read_as (not_in depth log t) s (text name value) after log rest is same
    (texts_are_read depth log t u (value ++ (codes "\"" ++ rest)) name value rest
    (field_is name t u field)
    (stands_comes 34 [] u (value ++ (codes "\"" ++ rest)) refl (λ e. omega arith) there)
    (cut-at 34 value rest none))
atom_read depth log after t rest s (field_pattern name raw u field there between is same) =
    let behind_slash : List ℕ = raw ++ (codes "/" ++ rest) in
    read_as (not_in depth log t) s (pattern name (length log)) after
    (log ++ record { left = length (codes "/" ++ behind_slash); raw = raw } ∷ []) rest is same
    (patterns_are_read depth log t u behind_slash name raw rest (field_is name t u field)
    (stands_comes 47 [] u behind_slash refl (λ e. omega arith) there)
    ((patterns_end behind_slash raw rest).1 (refl, between)))

-- ---- 3. how much is left

field_room : (name t rest : List ℕ) → SpellsField name t rest → length rest ≤ length t
field_room name t rest h =
    let dot = stands_room (codes ".") t (name ++ h.behind) h.dot in
    let parts = length-append name h.behind in
    let tilde = stands_room (codes "~") h.behind rest h.tilde in
    omega arith

pub atom_room : (log after : Log) (t rest : List ℕ) (s : Shape) → SpellsAtom log t s after rest
    → length rest ≤ length t
atom_room log after t rest s (constant answer there ends is same) =
    let room = stands_room (constant_text answer) t rest there in omega arith
atom_room log after t rest s (field_text name value u field there none is same) =
    let front = field_room name t u field in
    let room = stands_room (codes "\"") u (value ++ (codes "\"" ++ rest)) there in
    let parts = length-append value (codes "\"" ++ rest) in
    omega arith
atom_room log after t rest s (field_pattern name raw u field there between is same) =
    let front = field_room name t u field in
    let room = stands_room (codes "/") u (raw ++ (codes "/" ++ rest)) there in
    let parts = length-append raw (codes "/" ++ rest) in
    omega arith

-- ---- 4. what is read is spelled

-- what a reading gave
abbrev pub Given : Type 0
Given = Shape × Log × List ℕ

pub given_is : (x y : Given) → ◌≡◌ {A = Read} (Ok x) (Ok y) → x ≡ y
given_is x y e = ok_is (ℕ × Log) x y e

pub none_given : (e : ℕ × Log) (y : Given) → ◌≡◌ {A = Read} (Err e) (Ok y) → ⊥
none_given e y h = cc

module _ (log : Log) (t word rest : List ℕ) (y : Given) (whole : skipped t ≡ word ++ rest)
    (ends : EndsWord rest) where
  constant_there : (answer : Bool) → word ≡ constant_text answer
      → Stands (constant_text answer) t rest
  constant_there true is =
      comes_stands 116 (codes "rue") t rest (whole ∙ ap (λ (w : List ℕ). w ++ rest) is)
  constant_there false is =
      comes_stands 102 (codes "alse") t rest (whole ∙ ap (λ (w : List ℕ). w ++ rest) is)

  constant_found : (answer : Bool) → word ≡ constant_text answer
      → ◌≡◌ {A = Read} (Ok (always answer, log, rest)) (Ok y) → SpellsAtom log t y.0 y.1 y.2
  constant_found answer is e =
      subst (λ (x : Given). SpellsAtom log t x.0 x.1 x.2) (given_is (always answer, log, rest) y e)
      (constant answer (constant_there answer is) ends refl refl)

  by_words : (a b : Bool) (wrong : ℕ × Log) → bytes_eq word (codes "true") ≡ a
      → bytes_eq word (codes "false") ≡ b
      → ◌≡◌ {A = Read} (cond a (Ok (always true, log, rest))
      (cond b (Ok (always false, log, rest)) (Err wrong))) (Ok y)
      → SpellsAtom log t y.0 y.1 y.2
  by_words true b wrong is other e =
      constant_found true ((bytes_eq-Decides word (codes "true")).0 is) e
  by_words false true wrong other is e =
      constant_found false ((bytes_eq-Decides word (codes "false")).0 is) e
  by_words false false wrong other also e = absurd (none_given wrong y e)

word_found : (log : Log) (t : List ℕ) (y : Given) → word_atom log (skipped t) ≡ Ok y
    → SpellsAtom log t y.0 y.1 y.2
unfolding word_atom
word_found log t y e =
    by_words log t (run is_key_byte (skipped t)) (behind is_key_byte (skipped t)) y
    (run_joined is_key_byte (skipped t)) (behind_ends (skipped t))
    (bytes_eq (run is_key_byte (skipped t)) (codes "true"))
    (bytes_eq (run is_key_byte (skipped t)) (codes "false"))
    (length (skipped t) - begun (run is_key_byte (skipped t)), log) refl refl e

-- what is read after the name of a field is spelled
module _ (log : Log) (t u name v : List ℕ) (y : Given) (dot : Stands (codes ".") t u)
    (whole : u ≡ name ++ v) (legal : IsKey name) (ends : EndsWord v) where
  field_spelled : (w : List ℕ) → Stands (codes "~") v w → SpellsField name t w
  field_spelled w tilde = record {
    behind = v;
    dot = subst (λ (l : List ℕ). Stands (codes ".") t l) whole dot;
    legal = legal;
    ends = ends;
    tilde = tilde;
  }

  text_found : (w q : List ℕ) → Stands (codes "~") v w → skipped w ≡ codes "\"" ++ q
      → (o : Option (List ℕ × List ℕ)) → cut 34 q ≡ o → quote_atom log name o ≡ Ok y
      → SpellsAtom log t y.0 y.1 y.2
  text_found w q tilde quote None is e = absurd (none_given (0, log) y e)
  text_found w q tilde quote (Some p) is e =
      let found = cut_found 34 q p is in
      subst (λ (x : Given). SpellsAtom log t x.0 x.1 x.2)
      (given_is (text name p.0, log, p.1) y e)
      (field_text name p.0 w (field_spelled w tilde)
      (comes_stands 34 [] w (p.0 ++ (codes "\"" ++ p.1))
      (quote ∙ ap (λ (l : List ℕ). 34 ∷ l) found.0)) found.1 refl refl)

  pattern_found : (w q : List ℕ) → Stands (codes "~") v w → skipped w ≡ codes "/" ++ q
      → (o : Option (List ℕ × List ℕ)) → pattern_in q ≡ o
      → slash_atom log name (length (skipped w)) o ≡ Ok y → SpellsAtom log t y.0 y.1 y.2
  unfolding slash_atom
  pattern_found w q tilde slash None is e = absurd (none_given (0, log) y e)
  pattern_found w q tilde slash (Some p) is e =
      let found = (patterns_end q p.0 p.1).0 is in
      let behind_slash : List ℕ = p.0 ++ (codes "/" ++ p.1) in
      let there : skipped w ≡ 47 ∷ behind_slash = slash ∙ ap (λ (l : List ℕ). 47 ∷ l) found.0 in
      let left : length (skipped w) ≡ length (codes "/" ++ behind_slash) =
      ap (λ (l : List ℕ). length l) there in
      let logged : Log = log ++ record { left = length (skipped w); raw = p.0 } ∷ [] in
      subst (λ (x : Given). SpellsAtom log t x.0 x.1 x.2)
      (given_is (pattern name (length log), logged, p.1) y e)
      (field_pattern name p.0 w (field_spelled w tilde)
      (comes_stands 47 [] w behind_slash there) found.1 refl
      (ap (λ (n : ℕ). log ++ record { left = n; raw = p.0 } ∷ []) left))

  slashed_found : (w : List ℕ) → Stands (codes "~") v w → (o : Option (List ℕ))
      → strip (codes "/") (skipped w) ≡ o → slashed log name (length (skipped w)) o ≡ Ok y
      → SpellsAtom log t y.0 y.1 y.2
  slashed_found w tilde None is e = absurd (none_given (length (skipped w), log) y e)
  slashed_found w tilde (Some q) is e =
      pattern_found w q tilde (strip_found (codes "/") (skipped w) q is) (pattern_in q) refl e

  quoted_found : (w : List ℕ) → Stands (codes "~") v w → (o : Option (List ℕ))
      → strip (codes "\"") (skipped w) ≡ o → quoted log name (skipped w) o ≡ Ok y
      → SpellsAtom log t y.0 y.1 y.2
  quoted_found w tilde None is e =
      slashed_found w tilde (strip (codes "/") (skipped w)) refl e
  quoted_found w tilde (Some q) is e =
      text_found w q tilde (strip_found (codes "\"") (skipped w) q is) (cut 34 q) refl e

  tilde_found : (o : Option (List ℕ)) → strip (codes "~") (skipped v) ≡ o
      → tilded log name (length (skipped v)) o ≡ Ok y → SpellsAtom log t y.0 y.1 y.2
  unfolding tested
  tilde_found None is e = absurd (none_given (length (skipped v), log) y e)
  tilde_found (Some w) is e =
      quoted_found w (comes_stands 126 [] v w (strip_found (codes "~") (skipped v) w is))
      (strip (codes "\"") (skipped w)) refl e

pub filled : (word : List ℕ) → eqb (length word) 0 ≡ false → word ≢ []
filled word some none =
    (let bad : true ≡ false = sym (ap (λ (w : List ℕ). eqb (length w) 0) none) ∙ some in cc)

field_found : (log : Log) (t u : List ℕ) (y : Given) → skipped t ≡ codes "." ++ u
    → field_atom log u ≡ Ok y → SpellsAtom log t y.0 y.1 y.2
unfolding field_atom tilde_atom
field_found log t u y dot e =
    let name : List ℕ = run is_key_byte u in
    let v : List ℕ = behind is_key_byte u in
    let told = guard (eqb (length (run is_key_byte u)) 0) (length u, log)
    (tilde_atom log (run is_key_byte u) (behind is_key_byte u)) y e in
    tilde_found log t u name v y (comes_stands 46 [] t u dot) (run_joined is_key_byte u)
    (filled name told.0, run_passes is_key_byte u) (behind_ends u)
    (strip (codes "~") (skipped v)) refl told.1

dotted_found : (log : Log) (t : List ℕ) (y : Given) (o : Option (List ℕ))
    → strip (codes ".") (skipped t) ≡ o → dotted log (skipped t) o ≡ Ok y
    → SpellsAtom log t y.0 y.1 y.2
dotted_found log t y None is e = word_found log t y e
dotted_found log t y (Some u) is e =
    field_found log t u y (strip_found (codes ".") (skipped t) u is) e

pub atom_found : (log : Log) (t : List ℕ) (y : Given) → atom log (skipped t) ≡ Ok y
    → SpellsAtom log t y.0 y.1 y.2
unfolding atom
atom_found log t y e = dotted_found log t y (strip (codes ".") (skipped t)) refl e
