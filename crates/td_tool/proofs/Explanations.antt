-- The line that explains an ending, and how much of it is written.
use Rattle.std.proofs.Common.{◌≡◌, ◌⊎◌, ◌≤◌, ℕ, Bool, true, false, List, [], length, Option}
use Rattle.std.proofs.Common.{Some, None, IfSome, Result, Ok, Err, IfOk, IfErr, MatchResult, OnOk}
use Rattle.std.proofs.Common.{OnErr, String, string_bytes, append-nil, inl, inr, refl, sym, subst}
use Rattle.std.proofs.Common.{◌∙◌, IsSomeAnd, option_map}
use Rattle.std.specs.Prelude.{OnSome}
use Rattle.std.specs.declared.alloc.Global.{Global}
use Rattle.td_bytes.specs.Pieces.{AppendsPrefix}
use Rattle.std.specs.Io.KnownBytes.{Appends, Keeps}
use Rattle.std.proofs.KnownBytes.{Appends-trans}
use Rattle.td_bytes.proofs.Prefixes.{AppendsPrefix-second}
use Rattle.td_words.specs.declared.request.Request.{Request}
use Rattle.td_words.specs.declared.request.Request.TheVariants as asked
use Rattle.td_tool.specs.Ending.{line_of}
use Rattle.td_tool.specs.Explained.{Causes, Explains, Given, HasNone, IsKept, Packings, SaysAll}
use Rattle.td_tool.specs.Explained.{SaysOf, TellsCause, TellsOwn, known_of_request, line_if}
use Rattle.td_tool.specs.Explained.{paths_of, unread_line}
use Rattle.td_tool.specs.declared.cause.Cause.{Cause}
use Rattle.td_inputs.specs.declared.role.Role.{Role}
use Rattle.td_tool.specs.declared.ending.Ended.{Ended}
use Rattle.td_tool.specs.declared.ending.Ending.{Ending}
use Rattle.td_tool.specs.declared.ending.Ending.TheVariants.{CannotRead}
use Rattle.td_tool.specs.declared.explaining.Unexplained.{Unexplained}
use Rattle.td_tool.specs.declared.explaining.Unexplained.TheVariants as unexplained

-- ---- the files of a request

-- the path that is known of a role is the request's
path_known : (request : Request) (known : Option (List ℕ)) (bytes : List ℕ → Option (List ℕ))
    (r : Role) → paths_of request r ≡ (known_of_request request known bytes r).path
path_known asked.Simulate known bytes r = refl
path_known (asked.Check w) known bytes r = refl
path_known (asked.Track w) known bytes r = refl
path_known (asked.Waves w) known bytes r = refl
path_known (asked.Plan w) known bytes r = refl
path_known (asked.Run w) known bytes r = refl
path_known (asked.Desk w) known bytes r = refl

-- a cause that a path may have is some cause
some_cause : (can_be : Causes) (path : Option (List ℕ)) (r : Role) (line : List ℕ)
    → IsSomeAnd path (λ p. TellsCause can_be p r line)
    → (cause : Option Cause) × (line ≡ unread_line r path cause)
some_cause can_be None r line told = absurd told
some_cause can_be (Some p) r line told = (Some told.0, told.2)

-- a line that tells a cause that the file may have explains that it isn't read
pub own_cause_explains : (can_be : Causes) (request : Request) (known : Option (List ℕ))
    (bytes : List ℕ → Option (List ℕ)) (notes : Option (List ℕ)) (r : Role)
    (made : Result (Option (String Global)) Unexplained)
    → IfOk made (λ told. IfSome told (λ line. IsSomeAnd (paths_of request r)
    (λ path. TellsCause can_be path r (string_bytes line))))
    → IfOk made (λ told. IfSome told (λ line.
    Explains (known_of_request request known bytes) notes (CannotRead r) (string_bytes line)))
own_cause_explains can_be request known bytes notes r (Ok (Some line)) told =
    subst (λ path. (cause : Option Cause) × (string_bytes line ≡ unread_line r path cause))
    (path_known request known bytes r)
    (some_cause can_be (paths_of request r) r (string_bytes line) told)
own_cause_explains can_be request known bytes notes r (Ok None) told = tt
own_cause_explains can_be request known bytes notes r (Err e) told = tt

-- the line of the ending, or a front of it, is enough for `SaysOf`
pub line_alone : (explained : Bool) (known : Role → Given) (notes : Option (List ℕ))
    (ending : Ending) (before said : Option (List ℕ)) → AppendsPrefix before said (line_of ending)
    → SaysOf explained known notes ending before said
line_alone false known notes ending before said line = line
line_alone true known notes ending before said line = inl line

-- bytes that are written whole are written as a front of themselves
whole_front : (before said : Option (List ℕ)) (bytes : List ℕ) → Appends before said bytes
    → AppendsPrefix before said bytes
whole_front before said bytes whole = (bytes, [], sym (append-nil bytes), whole)

-- what is written is a front of what was to be, whether or not the write fails
pub front_said : {T E : Type 0} (before said : Option (List ℕ)) (bytes : List ℕ) (r : Result T E)
    → OnOk r (Appends before said bytes) → OnErr r (AppendsPrefix before said bytes)
    → AppendsPrefix before said bytes
front_said before said bytes (Ok u) whole front = whole_front before said bytes whole
front_said before said bytes (Err e) whole front = front

-- writing a front of nothing more leaves a front of the line
nothing_said : (L : List ℕ) (before between said : Option (List ℕ)) → Appends before between L
    → AppendsPrefix between said [] → AppendsPrefix before said L
nothing_said L before between said line none =
    subst (AppendsPrefix before said) (append-nil L)
    (AppendsPrefix-second before between said L [] line none)

-- what a line says, it says as one that there is
pub told_some : (P : List ℕ → Type 0) (made : Result (String Global) Unexplained)
    (told : Result (Option (String Global)) Unexplained) → IfOk made (λ text. told ≡ Ok (Some text))
    → IfErr made (λ e. told ≡ Err e) → IfOk made (λ line. P (string_bytes line))
    → IfOk told (λ t. IfSome t (λ line. P (string_bytes line)))
told_some P (Ok text) told is err holds =
    subst (λ x. IfOk x (λ t. IfSome t (λ line. P (string_bytes line)))) (sym is) holds
told_some P (Err e) told is err holds =
    subst (λ x. IfOk x (λ t. IfSome t (λ line. P (string_bytes line)))) (sym err) tt

-- what is kept is kept with nothing after it
kept_as_nothing : (before said : Option (List ℕ)) → Keeps before said → Appends before said []
kept_as_nothing None said same = tt
kept_as_nothing (Some xs) None same = absurd same
kept_as_nothing (Some xs) (Some ys) same = same ∙ sym (append-nil xs)

-- what is written of an explanation, by what was made of it and by how the write ends
abbrev Put : Option (List ℕ) → Option (List ℕ) → Result (Option (String Global)) Unexplained
    → Result (Unit {0}) Unexplained → Type 0
Put between said r q =
    IfOk r (λ told. MatchResult q (λ u. Appends between said (line_if told))
    (λ e. (e ≡ unexplained.CannotWrite) × AppendsPrefix between said (line_if told)))

-- nothing is written if there is no explanation for a fault, and that fault is answered
abbrev Left : Option (List ℕ) → Option (List ℕ) → Result (Option (String Global)) Unexplained
    → Result (Unit {0}) Unexplained → Type 0
Left between said r q = IfErr r (λ e. (q ≡ Err e) × Keeps between said)

-- not all is written because a write failed, or because the explanation did for this
pub said_not : (Fails : Unexplained → Type 0) (between said : Option (List ℕ))
    (r : Result (Option (String Global)) Unexplained) (q : Result (Unit {0}) Unexplained)
    → IfErr r Fails → Put between said r q → Left between said r q
    → IfErr q (λ e. (e ≡ unexplained.CannotWrite) ⊎ Fails e)
said_not Fails between said (Ok told) (Ok u) fails put left = tt
said_not Fails between said (Ok told) (Err e) fails put left = inl put.0
said_not Fails between said (Err e) q fails put left =
    subst (λ x. IfErr x (λ f. (f ≡ unexplained.CannotWrite) ⊎ Fails f)) (sym left.0) (inr fails)

-- an explanation, after the line of the ending
module _ (known : Role → Given) (ended : Ended) (request : Request)
    (can_be : Causes) (can_pack : Packings) (before between said : Option (List ℕ)) where
  abbrev Explained : Result (Option (String Global)) Unexplained → Type 0
  Explained r = IfOk r (λ told. IfSome told (λ line.
      Explains known (option_map string_bytes ended.notes) ended.ending (string_bytes line)))

  abbrev Caused : Result (Option (String Global)) Unexplained → Type 0
  Caused r = IfOk r (λ told. IfSome told (λ line.
      TellsOwn can_be can_pack request ended.ending (string_bytes line)))

  -- an explanation that is written without a fault is written whole
  pub said_whole : (r : Result (Option (String Global)) Unexplained)
      (q : Result (Unit {0}) Unexplained) → Appends before between (line_of ended.ending)
      → Explained r → Caused r → IfOk r (λ told. told ≡ None
      → HasNone can_be ended request)
      → Put between said r q → Left between said r q
      → OnOk q (SaysAll true known can_be can_pack ended request before said)
  said_whole (Ok (Some line)) (Ok u) first explained caused none put left =
      inl (
        string_bytes line,
        explained,
        caused,
        Appends-trans before between said (line_of ended.ending) (string_bytes line) first put,
      )
  said_whole (Ok None) (Ok u) first explained caused none put left =
      inr (
        none refl,
        subst (Appends before said) (append-nil (line_of ended.ending))
            (Appends-trans before between said (line_of ended.ending) [] first put),
      )
  said_whole (Ok told) (Err e) first explained caused none put left = tt
  said_whole (Err e) (Ok u) first explained caused none put left =
      (let other : Ok u ≡ Err e = left.0 in absurd cc)
  said_whole (Err e) (Err f) first explained caused none put left = tt

  -- a front of the explanation is written in any case
  pub said_front : (r : Result (Option (String Global)) Unexplained)
      (q : Result (Unit {0}) Unexplained) → Appends before between (line_of ended.ending)
      → Explained r → Put between said r q → Left between said r q
      → SaysOf true known (option_map string_bytes ended.notes) ended.ending before said
  said_front (Ok (Some line)) (Ok u) first explained put left =
      inr (
        string_bytes line,
        explained,
        AppendsPrefix-second before between said (line_of ended.ending) (string_bytes line) first
            (whole_front between said (string_bytes line) put),
      )
  said_front (Ok (Some line)) (Err e) first explained put left =
      inr (
        string_bytes line,
        explained,
        AppendsPrefix-second before between said (line_of ended.ending) (string_bytes line) first
            put.1,
      )
  said_front (Ok None) (Ok u) first explained put left =
      inl (nothing_said (line_of ended.ending) before between said first
      (whole_front between said [] put))
  said_front (Ok None) (Err e) first explained put left =
      inl (nothing_said (line_of ended.ending) before between said first put.1)
  said_front (Err e) q first explained put left =
      inl (nothing_said (line_of ended.ending) before between said first
      (whole_front between said [] (kept_as_nothing between said left.1)))

-- ---- an ending with no text kept

pub ends_alone : (P : Ending → Type 0) (ending : Ending) (made : Ended)
    → made ≡ record { ending = ending; input = None; notes = None } → P ending → P made.ending
ends_alone P ending made is holds = subst (λ (x : Ended). P x.ending) (sym is) holds

pub kept_alone : (known : Role → Given) (ending : Ending) (made : Ended)
    → made ≡ record { ending = ending; input = None; notes = None } → IsKept known made.input
kept_alone known ending made is = subst (λ (x : Ended). IsKept known x.input) (sym is) tt

pub short_alone : (limit : ℕ) (ending : Ending) (made : Ended)
    → made ≡ record { ending = ending; input = None; notes = None }
    → IfSome made.input (λ kept. length (string_bytes kept) ≤ limit)
short_alone limit ending made is =
    subst (λ (x : Ended). IfSome x.input (λ kept. length (string_bytes kept) ≤ limit)) (sym is) tt

-- nothing is noted, whatever could be
pub noted_alone : (P : List ℕ → Type 0) (ending : Ending) (made : Ended)
    → made ≡ record { ending = ending; input = None; notes = None }
    → IfSome (option_map string_bytes made.notes) P
noted_alone P ending made is =
    subst (λ (x : Ended). IfSome (option_map string_bytes x.notes) P) (sym is) tt

-- ---- an ending by its parts

pub none_noted : (P : List ℕ → Type 0) (made : Ended) → made.notes ≡ None
    → IfSome (option_map string_bytes made.notes) P
none_noted P made is =
    subst (λ (o : Option (String Global)). IfSome (option_map string_bytes o) P) (sym is) tt

pub kept_none : (known : Role → Given) (input : Option (String Global)) → input ≡ None
    → IsKept known input
kept_none known input is = subst (IsKept known) (sym is) tt

pub short_none : (limit : ℕ) (input : Option (String Global)) → input ≡ None
    → IfSome input (λ kept. length (string_bytes kept) ≤ limit)
short_none limit input is =
    subst (λ (o : Option (String Global)). IfSome o (λ kept. length (string_bytes kept) ≤ limit))
    (sym is) tt

pub steady_none : (P : Type 0) (input : Option (String Global)) → input ≡ None → OnSome input P
steady_none P input is = subst (λ (o : Option (String Global)). OnSome o P) (sym is) tt
