-- What a search for a newline says of what is ahead of an inlet.
use Rattle.std.proofs.Common.{◌≡◌, ◌≢◌, ℕ, ◌+◌, ◌<◌, ◌≤◌, false, List, ◌∷◌, ◌++◌, Option, Some}
use Rattle.std.proofs.Common.{None}
use Rattle.std.proofs.Common.{length, get_or, take, drop, ap, sym, subst, ◌∙◌, arith, eq-eqb}
use Rattle.std.proofs.lemmas.Bool.{eqb-true}
use Rattle.std.proofs.Math.Seq.{take-add}
use Rattle.std.proofs.lemmas.List.{drop-drop, drop_more, get_or-drop, get_or-take, length-take-le}
use Rattle.std.proofs.lemmas.List.{length-drop, take-append-drop, take_all}
use Rattle.std.proofs.lemmas.List.Elements.{All-append, All-from_get_or}
use Rattle.memchr.specs.Find.{IsFirstByte, Nowhere, Passes, is_byte}
use Rattle.td_ledger.specs.Lines.{IsLine}
use Rattle.td_lasting.specs.declared.framing.Framed.{Framed}
use Rattle.td_lasting.specs.inner.Inlets.{FramesAs, InletView, IsInlet, TellsWhole}

-- none of the first ones is a newline
none_first : (hay : List ℕ) (place : ℕ) → place ≤ length hay
    → Nowhere (Passes (is_byte 10) hay) 0 place → IsLine (take place hay)
none_first hay place within none =
    All-from_get_or (λ b. b ≢ 10) (take place hay) 0
    (λ i low newline.
    let long = length-take-le place hay within in
    let less : i < place = omega arith in
    none i (omega arith) less
    (eq-eqb (get_or hay i 0) 10 (sym (get_or-take place hay i 0 less) ∙ newline)))

-- those that were sought, and those before the place of the first of the others
front_line : (rest : List ℕ) (sought place : ℕ) → sought + place ≤ length rest
    → IsLine (take sought rest) → Nowhere (Passes (is_byte 10) (drop sought rest)) 0 place
    → IsLine (take (sought + place) rest)
front_line rest sought place within front none =
    let long = length-drop sought rest in
    subst IsLine (sym (take-add sought place rest))
    (All-append (λ b. b ≢ 10) (take sought rest) (take place (drop sought rest)) front
    (none_first (drop sought rest) place (omega arith) none))

-- a newline is found: it ends the first line of what is ahead
pub record IsSplit (bytes : List ℕ) (told len : ℕ) : Type 0 where
  pub parts : drop told bytes ≡ take len (drop told bytes) ++ 10 ∷ drop (told + (len + 1)) bytes
  pub is_line : IsLine (take len (drop told bytes))
  pub within : told + (len + 1) ≤ length bytes

pub newline_at : (bytes : List ℕ) (told sought place : ℕ) → IsInlet bytes told sought
    → IsFirstByte (is_byte 10) (drop sought (drop told bytes)) (Some place)
    → IsSplit bytes told (sought + place)
newline_at bytes told sought place inlet first =
    let rest = drop told bytes in
    let of_rest = length-drop told bytes in
    let of_hay = length-drop sought rest in
    let low : place < length (drop sought rest) = first.0.high in
    let within = inlet.within in
    let less : sought + place < length rest = omega arith in
    let newline : get_or rest (sought + place) 0 ≡ 10 =
    sym (get_or-drop sought rest place 0)
    ∙ eqb-true (get_or (drop sought rest) place 0) 10 first.1 in
    record {
      parts = sym (take-append-drop (sought + place) rest)
          ∙ ap (λ (l : List ℕ). take (sought + place) rest ++ l)
          (drop_more rest (sought + place) 0 less
          ∙ ap (λ (b : ℕ). b ∷ drop (sought + place + 1) rest) newline
          ∙ ap (λ (l : List ℕ). 10 ∷ l) (drop-drop (sought + place + 1) told bytes));
      is_line = front_line rest sought place (omega arith) inlet.no_newline first.0.before;
      within = omega arith;
    }

-- none is found: what is ahead is no whole line
pub no_newline : (bytes : List ℕ) (told sought : ℕ) → IsInlet bytes told sought
    → IsFirstByte (is_byte 10) (drop sought (drop told bytes)) None
    → IsLine (drop told bytes)
no_newline bytes told sought inlet none =
    let rest = drop told bytes in
    let of_rest = length-drop told bytes in
    let of_hay = length-drop sought rest in
    let within = inlet.within in
    let n = length (drop sought rest) in
    subst IsLine (take_all (sought + n) rest (omega arith))
    (front_line rest sought n (omega arith) inlet.no_newline none)

-- and then all of it is sought
pub all_sought : (bytes : List ℕ) (told : ℕ) → told ≤ length bytes → IsLine (drop told bytes)
    → IsInlet bytes told (length (drop told bytes))
all_sought bytes told within line =
    let rest = drop told bytes in
    let of_rest = length-drop told bytes in
    record {
      within = omega arith;
      no_newline = subst IsLine (sym (take_all (length rest) rest (omega arith))) line;
    }

-- what the search saw is what is ahead
pub seen_all : (bytes slice rest hay : List ℕ) (told sought : ℕ) (found : Option ℕ)
    → slice ≡ bytes → rest ≡ drop told slice → hay ≡ drop sought rest
    → IsFirstByte (is_byte 10) hay found
    → IsFirstByte (is_byte 10) (drop sought (drop told bytes)) found
seen_all bytes slice rest hay told sought found same back more first =
    subst (λ (l : List ℕ). IsFirstByte (is_byte 10) l found)
    (more ∙ ap (drop sought) (back ∙ ap (drop told) same)) first

-- the first line of what is ahead is told of
pub told_split : (old new : InletView) (bytes : List ℕ) (told len : ℕ) (line : List ℕ)
    (framed : Framed) → IsSplit bytes told len → old.ahead ≡ drop told bytes
    → new.ahead ≡ drop (told + (len + 1)) bytes → new.long ≡ false
    → line ≡ take len (drop told bytes) → FramesAs old.long line framed
    → TellsWhole old new (Some framed)
told_split old new bytes told len line framed split ahead behind short is frames = (
  line,
  ahead ∙ split.parts
      ∙ ap (λ (l : List ℕ). l ++ 10 ∷ drop (told + (len + 1)) bytes) (sym is)
      ∙ ap (λ (l : List ℕ). line ++ 10 ∷ l) (sym behind),
  subst IsLine (sym is) split.is_line,
  short,
  frames,
)
