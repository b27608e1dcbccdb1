-- How a text that goes wrong at some byte can go on: what is before the byte, with something
-- else after it, is spelled. Here is what all rules share.
use Rattle.std.proofs.Common.{◌≡◌, ℕ, List, [], ◌∷◌, ◌++◌, length, Option, Some, None, Result, Ok}
use Rattle.std.proofs.Common.{Err, sym, ap, subst, ◌∙◌, append_assoc, append-nil}
use Rattle.std.specs.Str.{IsUtf8}
use Rattle.std.proofs.lemmas.Str.{IsUtf8-append, IsUtf8-nil}
use Rattle.td_text.specs.Lines.{on_ok}
use Rattle.td_query.specs.QueryGrammar.{Log}
use Rattle.td_query.specs.TokenRules.{IsBetweenSlashes}
use Rattle.td_query.specs.Tokens.{pattern_in}

-- ---- 1. what is read, and what stops

-- a cut of a text of characters between two of them
abbrev pub Cuts : List ℕ → List ℕ → Type 0
Cuts front back = IsUtf8 (front ++ back) → IsUtf8 front × IsUtf8 back

pub cuts_none : (t : List ℕ) → Cuts [] t
cuts_none t h = (IsUtf8-nil, h)

pub cuts_all : (t : List ℕ) → Cuts t []
cuts_all t h = (subst (λ (l : List ℕ). IsUtf8 l) (append-nil t) h, IsUtf8-nil)

pub cuts_join : (a b c : List ℕ) → Cuts a (b ++ c) → Cuts b c → Cuts (a ++ b) c
cuts_join a b c one two h =
    let first = one (subst (λ (l : List ℕ). IsUtf8 l) (append_assoc a b c) h) in
    let second = two first.1 in
    (IsUtf8-append a b first.0 second.0, second.1)

-- a cut after a front, and a cut of what follows the front, make one of the whole
pub cuts_behind : (a b c d : List ℕ) → d ≡ b ++ c → Cuts a d → Cuts b c → Cuts (a ++ b) c
cuts_behind a b c d is one two =
    cuts_join a b c (subst (λ (l : List ℕ). Cuts a l) is one) two

-- a text is spelled by a rule, from what was said before it to what is said after it, which is good
pub record Spelled {S M : Type 0} (Good : S → Type 0)
    (Part : S → List ℕ → M → S → List ℕ → Type 0) (s : S) (t rest : List ℕ) : Type 0 where
  pub meaning : M
  pub after : S
  pub spelled : Part s t meaning after rest
  pub good : Good after

-- what is read comes before the rest, and is spelled before another rest too, which is free to be
-- there, whatever was said before it
pub record Moved {S M : Type 0} (Good : S → Type 0) (Free : List ℕ → Type 0)
    (Part : S → List ℕ → M → S → List ℕ → Type 0) (s : S) (t : List ℕ) (one : S)
    (rest : List ℕ) : Type 0 where
  pub front : List ℕ
  pub is : t ≡ front ++ rest
  pub cut : Cuts front rest
  pub before : Good one → Good s
  pub moves : Good one → (r : S) (u : List ℕ) → Good r → Free u
      → Spelled Good Part r (front ++ u) u

-- a pattern may be open at the end of a text: after its slash comes this, and no slash closes it
abbrev pub Opened : Option (List ℕ) → List ℕ → ℕ → Type 0
Opened None t left = Unit {0}
Opened (Some raw) t left = (left ≡ 0) × (before : List ℕ) × (t ≡ before ++ 47 ∷ raw)
    × (pattern_in raw ≡ None)

-- with these bytes an open pattern, if there is one, may end, and `P` holds of it
abbrev pub Asked : (List ℕ → Type 0) → Option (List ℕ) → List ℕ → Type 0
Asked P None bytes = Unit {0}
Asked P (Some raw) bytes = IsBetweenSlashes (raw ++ bytes) × P (raw ++ bytes)

-- if a pattern is open, a text begins with these bytes and the slash after them; what follows is of
-- characters
abbrev pub Closed : Option (List ℕ) → List ℕ → List ℕ → Type 0
Closed None bytes t = IsUtf8 t
Closed (Some raw) bytes t = (rest : List ℕ) × (t ≡ bytes ++ 47 ∷ rest) × IsUtf8 rest

-- what is before the wrong byte goes on, up to a newline and whatever follows it; first with
-- the bytes that close an open pattern, if there is one
pub record Stopped {S M : Type 0} (Good : S → Type 0) (Legal : Log → Type 0)
    (P : List ℕ → Type 0) (Part : S → List ℕ → M → S → List ℕ → Type 0) (s : S) (t : List ℕ)
    (e : ℕ × Log) : Type 0 where
  pub front : List ℕ
  pub back : List ℕ
  pub is : t ≡ front ++ back
  pub cut : Cuts front back
  pub there : length back ≡ e.0
  pub inside : Option (List ℕ)
  pub opened : Opened inside t e.0
  pub more : List ℕ → List ℕ → List ℕ
  pub closed : (bytes u : List ℕ) → IsUtf8 u → Closed inside bytes (more bytes u)
  pub before : Legal e.1 → Good s
  pub goes : Legal e.1 → (bytes : List ℕ) → Asked P inside bytes → (r : S) (u : List ℕ) → Good r
      → Spelled Good Part r (front ++ more bytes u) (10 ∷ u)

-- a reading that succeeds is `Moved`, and one that fails is `Stopped`
abbrev pub Fate : {S M Y : Type 0} → (S → Type 0) → (List ℕ → Type 0) → (Log → Type 0)
    → (List ℕ → Type 0) → (S → List ℕ → M → S → List ℕ → Type 0) → (Y → S) → (Y → List ℕ)
    → S → List ℕ → Result Y (ℕ × Log) → Type 0
Fate Good Free Legal P Part state rest s t (Ok y) =
    Moved Good Free Part s t (state y) (rest y)
Fate Good Free Legal P Part state rest s t (Err e) =
    Stopped Good Legal P Part s t e

-- ---- 2. one after the other

pub opened_in : (o : Option (List ℕ)) (pre t u : List ℕ) (left : ℕ) → t ≡ pre ++ u
    → Opened o u left → Opened o t left
opened_in None pre t u left is h = tt
opened_in (Some raw) pre t u left is h = (
  h.0,
  pre ++ h.1,
  is ∙ ap (λ (l : List ℕ). pre ++ l) h.2 ∙ sym (append_assoc pre h.1 (47 ∷ raw)),
  h.3,
)

module _ {S M K Y : Type 0} (Good : S → Type 0) (Free : List ℕ → Type 0) (Legal : Log → Type 0)
    (P : List ℕ → Type 0)
    (One : S → List ℕ → M → S → List ℕ → Type 0) (Both : S → List ℕ → K → S → List ℕ → Type 0)
    (state : Y → S) (rest : Y → List ℕ) where
  -- the fate of what is read after a prefix is the fate of the whole
  pub prefixed : (pre t u : List ℕ) → t ≡ pre ++ u → Cuts pre u
      → ((s after : S) (w end : List ℕ) (m : M) → One s w m after end
      → (k : K) × Both s (pre ++ w) k after end)
      → (s : S) (r : Result Y (ℕ × Log)) → Fate Good Free Legal P One state rest s u r
      → Fate Good Free Legal P Both state rest s t r
  prefixed pre t u is cut adds s (Ok y) a = record {
    front = pre ++ a.front;
    is = is ∙ ap (λ (l : List ℕ). pre ++ l) a.is ∙ sym (append_assoc pre a.front (rest y));
    cut = cuts_behind pre a.front (rest y) u a.is cut a.cut;
    before = a.before;
    moves = λ good r v ok free.
        (let first = a.moves good r v ok free in
        let both = adds r first.after (a.front ++ v) v first.meaning first.spelled in
        subst (λ (l : List ℕ). Spelled Good Both r l v) (sym (append_assoc pre a.front v))
        (record {
          meaning = both.0;
          after = first.after;
          spelled = both.1;
          good = first.good;
        }));
  }
  prefixed pre t u is cut adds s (Err e) a = record {
    front = pre ++ a.front;
    back = a.back;
    is = is ∙ ap (λ (l : List ℕ). pre ++ l) a.is ∙ sym (append_assoc pre a.front a.back);
    cut = cuts_behind pre a.front a.back u a.is cut a.cut;
    there = a.there;
    inside = a.inside;
    opened = opened_in a.inside pre t u e.0 is a.opened;
    more = a.more;
    closed = a.closed;
    before = a.before;
    goes = λ legal bytes asked r v ok.
        (let first = a.goes legal bytes asked r v ok in
        let both = adds r first.after (a.front ++ a.more bytes v) (10 ∷ v) first.meaning
        first.spelled in
        subst (λ (l : List ℕ). Spelled Good Both r l (10 ∷ v))
        (sym (append_assoc pre a.front (a.more bytes v)))
        (record {
          meaning = both.0;
          after = first.after;
          spelled = both.1;
          good = first.good;
        }));
  }

module _ {S M N K Y Z : Type 0} (Good : S → Type 0) (Free Later : List ℕ → Type 0)
    (Legal : Log → Type 0) (P : List ℕ → Type 0)
    (One : S → List ℕ → M → S → List ℕ → Type 0) (Two : S → List ℕ → N → S → List ℕ → Type 0)
    (Both : S → List ℕ → K → S → List ℕ → Type 0)
    (joins : (s one after : S) (t v rest : List ℕ) (m : M) (n : N) → One s t m one v
    → Two one v n after rest → (k : K) × Both s t k after rest)
    (ends : (s after : S) (t rest : List ℕ) (n : N) → Two s t n after rest → Later rest → Free t)
    (newline : (u : List ℕ) → Later (10 ∷ u))
    (close : List ℕ → List ℕ) (shut : (u : List ℕ) → IsUtf8 u → IsUtf8 (close u))
    (closes : (s : S) (u : List ℕ) → Good s → Spelled Good Two s (10 ∷ close u) (10 ∷ u))
    (state : Y → S) (rest : Y → List ℕ) (last : Z → S) (end : Z → List ℕ) where
  moved_on : (s : S) (t : List ℕ) (one : S) (v : List ℕ) → Moved Good Free One s t one v
      → (r : Result Z (ℕ × Log)) → Fate Good Later Legal P Two last end one v r
      → Fate Good Later Legal P Both last end s t r
  moved_on s t one v a (Ok z) b = record {
    front = a.front ++ b.front;
    is = a.is ∙ ap (λ (l : List ℕ). a.front ++ l) b.is
        ∙ sym (append_assoc a.front b.front (end z));
    cut = cuts_behind a.front b.front (end z) v b.is a.cut b.cut;
    before = λ good. a.before (b.before good);
    moves = λ good r u ok free.
        (let inner = b.before good in
        let there = b.moves good r u ok free in
        let first = a.moves inner r (b.front ++ u) ok
        (ends r there.after (b.front ++ u) u there.meaning there.spelled free) in
        let second = b.moves good first.after u first.good free in
        let both = joins r first.after second.after (a.front ++ (b.front ++ u)) (b.front ++ u) u
        first.meaning second.meaning first.spelled second.spelled in
        subst (λ (l : List ℕ). Spelled Good Both r l u) (sym (append_assoc a.front b.front u))
        (record {
          meaning = both.0;
          after = second.after;
          spelled = both.1;
          good = second.good;
        }));
  }
  moved_on s t one v a (Err e) b = record {
    front = a.front ++ b.front;
    back = b.back;
    is = a.is ∙ ap (λ (l : List ℕ). a.front ++ l) b.is
        ∙ sym (append_assoc a.front b.front b.back);
    cut = cuts_behind a.front b.front b.back v b.is a.cut b.cut;
    there = b.there;
    inside = b.inside;
    opened = opened_in b.inside a.front t v e.0 a.is b.opened;
    more = b.more;
    closed = b.closed;
    before = λ legal. a.before (b.before legal);
    goes = λ legal bytes asked r u ok.
        (let inner = b.before legal in
        let there = b.goes legal bytes asked r u ok in
        let first = a.moves inner r (b.front ++ b.more bytes u) ok
        (ends r there.after (b.front ++ b.more bytes u) (10 ∷ u) there.meaning there.spelled
        (newline u)) in
        let second = b.goes legal bytes asked first.after u first.good in
        let both = joins r first.after second.after (a.front ++ (b.front ++ b.more bytes u))
        (b.front ++ b.more bytes u) (10 ∷ u) first.meaning second.meaning first.spelled
        second.spelled in
        subst (λ (l : List ℕ). Spelled Good Both r l (10 ∷ u))
        (sym (append_assoc a.front b.front (b.more bytes u)))
        (record {
          meaning = both.0;
          after = second.after;
          spelled = both.1;
          good = second.good;
        }));
  }

  pub chain_fate : (s : S) (t : List ℕ) (r : Result Y (ℕ × Log))
      → Fate Good Free Legal P One state rest s t r → (f : Y → Result Z (ℕ × Log))
      → ((y : Y) → Fate Good Later Legal P Two last end (state y) (rest y) (f y))
      → Fate Good Later Legal P Both last end s t (on_ok r f)
  chain_fate s t (Ok y) a f later = moved_on s t (state y) (rest y) a (f y) (later y)
  chain_fate s t (Err e) a f later = record {
    front = a.front;
    back = a.back;
    is = a.is;
    cut = a.cut;
    there = a.there;
    inside = a.inside;
    opened = a.opened;
    more = λ bytes u. a.more bytes (close u);
    closed = λ bytes u h. a.closed bytes (close u) (shut u h);
    before = a.before;
    goes = λ legal bytes asked r u ok.
        (let first = a.goes legal bytes asked r (close u) ok in
        let second = closes first.after u first.good in
        let both = joins r first.after second.after (a.front ++ a.more bytes (close u))
        (10 ∷ close u) (10 ∷ u) first.meaning second.meaning first.spelled second.spelled in
        record {
          meaning = both.0;
          after = second.after;
          spelled = both.1;
          good = second.good;
        });
  }
