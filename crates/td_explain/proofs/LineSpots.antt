-- A line and a byte are found by their numbers.
use Rattle.std.proofs.Common.{◌≡◌, ℕ, ◌+◌, ◌-◌, ◌<◌, ◌≤◌, Bool, true, false, cond, leb, List, []}
use Rattle.std.proofs.Common.{◌∷◌, ◌++◌, length, Some, refl, sym, ap, subst, ◌∙◌}
use Rattle.std.proofs.Common.{arith, length-append}
use Rattle.std.proofs.lemmas.Bool.{leb-true, leb-false, le-leb, lt-leb}
use Rattle.td_text.specs.Lines.{lines_of, text_of}
use Rattle.td_text.proofs.Chain.{some_is}
use Rattle.td_stanza.specs.Line.{is_separator}
use Rattle.td_explain.specs.declared.spot.Point.TheVariants.{Line, Byte}
use Rattle.td_explain.specs.Spot.{SpotWords, spot_in}
use Rattle.td_explain.specs.SpotLaws.{BytesAreExact, LinesAreExact}
use Rattle.td_explain.proofs.Spots.{spot_with}

-- a spot by its parts
by_parts : (n k : ℕ) (s : SpotWords) → n ≡ s.number → k ≡ s.offset → spot_with n k s.line ≡ s
by_parts n k s a b = λ i. record { number = a i; offset = b i; line = s.line }

-- ---- lines

-- the spot among lines that are counted from this number on
record IsAmong (n number : ℕ) (lines : List (List ℕ)) (s : SpotWords) : Type 0 where
  before : List (List ℕ)
  after : List (List ℕ)
  parts : lines ≡ before ++ s.line ∷ after
  counted : n ≡ length before + 1
  number_is : s.number ≡ number + length before
  front : s.offset ≡ 0

line_found : (lines : List (List ℕ)) (n number : ℕ) (apart : Bool) (s : SpotWords) → 0 < n
    → spot_in (Line n) apart number lines ≡ Some s → IsAmong n number lines s
unfolding spot_in
line_found [] n number apart s some h = absurd cc
line_found (line ∷ lines) n number apart s some h =
    by (leb n 1) refl h
    (λ (low : 1 < n) (k : spot_in (Line (n - 1)) (is_separator line) (number + 1)
    lines ≡ Some s). line_found lines (n - 1) (number + 1) (is_separator line) s (omega arith) k)
  where
    by : (b : Bool) → leb n 1 ≡ b
        → cond b (Some (spot_with number 0 line))
        (spot_in (Line (n - 1)) (is_separator line) (number + 1) lines) ≡ Some s
        → ((low : 1 < n) → spot_in (Line (n - 1)) (is_separator line) (number + 1) lines ≡ Some s
        → IsAmong (n - 1) (number + 1) lines s) → IsAmong n number (line ∷ lines) s
    by true is k later =
        let low : n ≤ 1 = leb-true n 1 is in
        let same : spot_with number 0 line ≡ s = some_is (spot_with number 0 line) s k in
        subst (λ (x : SpotWords). IsAmong n number (line ∷ lines) x) same (record {
          before = [];
          after = lines;
          parts = refl;
          counted = omega arith;
          number_is = omega arith;
          front = refl;
        })
    by false is k later =
        let low : 1 < n = leb-false n 1 is in
        let f = later low k in
        record {
          before = line ∷ f.before;
          after = f.after;
          parts = ap (λ (l : List (List ℕ)). line ∷ l) f.parts;
          counted = (let c = f.counted in omega arith);
          number_is = (let c = f.number_is in omega arith);
          front = f.front;
        }

line_again : (before : List (List ℕ)) (after : List (List ℕ)) (n number : ℕ) (apart : Bool)
    (s : SpotWords) → n ≡ length before + 1 → s.number ≡ number + length before → s.offset ≡ 0
    → spot_in (Line n) apart number (before ++ s.line ∷ after) ≡ Some s
unfolding spot_in
line_again [] after n number apart s counted is front =
    let low : leb n 1 ≡ true = le-leb n 1 (omega arith) in
    let whole : number ≡ s.number = omega arith in
    rw low (ap (λ (x : SpotWords). Some x) (by_parts number 0 s whole (sym front)))
line_again (line ∷ before) after n number apart s counted is front =
    let high : leb n 1 ≡ false = lt-leb n 1 (omega arith) in
    rw high (line_again before after (n - 1) (number + 1) (is_separator line) s (omega arith)
    (omega arith) front)

pub lines_are_exact : LinesAreExact
lines_are_exact n text s some = (
  λ h. (let f = line_found (lines_of text) n 1 true s some h in
      record {
        before = f.before;
        after = f.after;
        parts = f.parts;
        counted = f.counted;
        number = (let a = f.counted in let b = f.number_is in omega arith);
        front = f.front;
      }),
  λ l. ap (spot_in (Line n) true 1) l.parts
      ∙ line_again l.before l.after n 1 true s l.counted
      (let a = l.counted in let b = l.number in omega arith) l.front,
)

-- ---- bytes

-- the spot of a byte among lines that are counted from this number on
record IsByteAmong (at number : ℕ) (lines : List (List ℕ)) (s : SpotWords) : Type 0 where
  before : List (List ℕ)
  after : List (List ℕ)
  parts : lines ≡ before ++ s.line ∷ after
  counted : at ≡ length (text_of before) + s.offset
  within : s.offset ≤ length s.line
  number_is : s.number ≡ number + length before

-- the bytes of a line more
line_more : (line : List ℕ) (before : List (List ℕ))
    → length (text_of (line ∷ before)) ≡ length line + 1 + length (text_of before)
line_more line before =
    length-append (line ++ 10 ∷ []) (text_of before)
    ∙ ap (λ (n : ℕ). n + length (text_of before)) (length-append line (10 ∷ []))

byte_found : (lines : List (List ℕ)) (at number : ℕ) (apart : Bool) (s : SpotWords)
    → spot_in (Byte at) apart number lines ≡ Some s → IsByteAmong at number lines s
unfolding spot_in
byte_found [] at number apart s h = absurd cc
byte_found (line ∷ lines) at number apart s h =
    by (leb at (length line)) refl h
    (λ (k : spot_in (Byte (at - length line - 1)) (is_separator line) (number + 1) lines ≡ Some s).
    byte_found lines (at - length line - 1) (number + 1) (is_separator line) s k)
  where
    by : (b : Bool) → leb at (length line) ≡ b
        → cond b (Some (spot_with number at line))
        (spot_in (Byte (at - length line - 1)) (is_separator line) (number + 1) lines) ≡ Some s
        → (spot_in (Byte (at - length line - 1)) (is_separator line) (number + 1) lines ≡ Some s
        → IsByteAmong (at - length line - 1) (number + 1) lines s)
        → IsByteAmong at number (line ∷ lines) s
    by true is k later =
        let low : at ≤ length line = leb-true at (length line) is in
        let same : spot_with number at line ≡ s = some_is (spot_with number at line) s k in
        subst (λ (x : SpotWords). IsByteAmong at number (line ∷ lines) x) same (record {
          before = [];
          after = lines;
          parts = refl;
          counted = omega arith;
          within = low;
          number_is = omega arith;
        })
    by false is k later =
        let high : length line < at = leb-false at (length line) is in
        let f = later k in
        record {
          before = line ∷ f.before;
          after = f.after;
          parts = ap (λ (l : List (List ℕ)). line ∷ l) f.parts;
          counted = (let c = f.counted in let m = line_more line f.before in omega arith);
          within = f.within;
          number_is = (let c = f.number_is in omega arith);
        }

byte_again : (before after : List (List ℕ)) (at number : ℕ) (apart : Bool) (s : SpotWords)
    → at ≡ length (text_of before) + s.offset → s.offset ≤ length s.line
    → s.number ≡ number + length before
    → spot_in (Byte at) apart number (before ++ s.line ∷ after) ≡ Some s
unfolding spot_in
byte_again [] after at number apart s counted within is =
    let here : at ≡ s.offset = omega arith in
    let low : leb at (length s.line) ≡ true = le-leb at (length s.line) (omega arith) in
    let whole : number ≡ s.number = omega arith in
    rw low (ap (λ (x : SpotWords). Some x) (by_parts number at s whole here))
byte_again (line ∷ before) after at number apart s counted within is =
    let more = line_more line before in
    let high : leb at (length line) ≡ false = lt-leb at (length line) (omega arith) in
    rw high (byte_again before after (at - length line - 1) (number + 1) (is_separator line) s
    (omega arith) within (omega arith))

pub bytes_are_exact : BytesAreExact
bytes_are_exact at text s = (
  λ h. (let f = byte_found (lines_of text) at 1 true s h in
      record {
        before = f.before;
        after = f.after;
        parts = f.parts;
        counted = f.counted;
        within = f.within;
        number = (let a = f.number_is in omega arith);
      }),
  λ b. ap (spot_in (Byte at) true 1) b.parts
      ∙ byte_again b.before b.after at 1 true s b.counted b.within
      (let a = b.number in omega arith),
)
