-- What may follow the architectures is read, and nothing else.
use Rattle.std.proofs.Common.{◌≡◌, ℕ, Bool, true, false, cond, ◌&&◌, List, [], ◌∷◌, Option, Some}
use Rattle.std.proofs.Common.{None, Result, Ok, Err, codes, refl, sym, ap, subst, ◌∙◌, inl, inr}
use Rattle.std.specs.Prelude.{is_none, is_some}
use Rattle.std.specs.Str.{bytes_eq}
use Rattle.std.proofs.lemmas.Bool.{and_parts, and_from}
use Rattle.std.proofs.lemmas.Slice.Eq.{bytes_eq-Decides}
use Rattle.td_text.specs.Lines.{on_ok}
use Rattle.td_text.proofs.Chain.{on_ok_parts}
use Rattle.td_wbread.specs.declared.command.Verb.{Verb}
use Rattle.td_wbread.specs.declared.option_reading.Flag.{Flag}
use Rattle.td_wbread.specs.declared.option_reading.Flag.TheVariants.{Message, ExtraDepends}
use Rattle.td_wbread.specs.declared.fault.CommandFault.{CommandFault}
use Rattle.td_wbread.specs.declared.fault.CommandFault.TheVariants.{Wrong}
use Rattle.td_wbread.specs.declared.fault.LineFault.TheVariants.{UnknownSuite, BadRelation}
use Rattle.td_wbread.specs.declared.fault.LineFault.TheVariants.{MissingMessage, Extra}
use Rattle.td_wbread.specs.declared.word.Word.{Word}
use Rattle.td_wbread.specs.declared.word.End.{End}
use Rattle.td_wbread.specs.declared.word.End.TheVariants.{Closed, Open}
use Rattle.td_wbread.specs.Faults.{is_dot, missing}
use Rattle.td_wbread.specs.Tail.{Values, dot_end, finished, flag_at, is_extra, is_message}
use Rattle.td_wbread.specs.Tail.{is_option, is_relation, is_suite, missing_value, needs_relation}
use Rattle.td_wbread.specs.Tail.{no_values, options_at, relation_checked, suite_end, tail_at}
use Rattle.td_wbread.specs.Tail.{takes_extra, takes_message, valued, wants_relation, with_value}
use Rattle.td_wbread.specs.TailLaws.{AreBothOptions, AreOptions, FollowArchs, FollowDot}
use Rattle.td_wbread.specs.TailLaws.{FollowSuite, IsExtra, IsMessage, IsOneOption, MayEnd}
use Rattle.td_wbread.specs.TailLaws.{TailsAreExact}

-- ---- the end

some_of : (o : Option Word) → (true && is_none o) ≡ false → is_some o ≡ true
some_of None h = absurd cc
some_of (Some w) h = refl

none_of : (o : Option Word) → is_some o ≡ true → is_none o ≡ false
none_of None h = absurd cc
none_of (Some w) h = refl

end_is : (verb : Verb) (end : End) (seen values : Values) → finished verb end seen ≡ Ok values
    → (values ≡ seen) × MayEnd verb end values
end_is verb (Open place) seen values h = absurd cc
end_is verb (Closed place) seen values h = by (needs_relation verb && is_none seen.message) refl h
  where
    by : (b : Bool) → (needs_relation verb && is_none seen.message) ≡ b
        → cond b (Err (Wrong MissingMessage place)) (Ok seen) ≡ Ok values
        → (values ≡ seen) × MayEnd verb (Closed place) values
    by true is g = absurd cc
    by false is g =
        let same : seen ≡ values = cc in (
          sym same,
          λ needs. subst (λ (v : Values). is_some v.message ≡ true) same
              (some_of seen.message (sym (ap (λ (b : Bool). b && is_none seen.message) needs)
              ∙ is)),
        )

end_found : (verb : Verb) (end : End) (seen : Values) → MayEnd verb end seen
    → finished verb end seen ≡ Ok seen
end_found verb (Open place) seen may = absurd may
end_found verb (Closed place) seen may = by (needs_relation verb) refl
  where
    by : (b : Bool) → needs_relation verb ≡ b → finished verb (Closed place) seen ≡ Ok seen
    by true needs = rw (needs, none_of seen.message (may needs)) refl
    by false needs = rw needs refl

-- ---- one option

-- what a word is that is read as an option
abbrev pub FlagIs : Verb → Values → Word → Flag → Type 0
FlagIs verb seen word Message = (is_message word ≡ true) × (takes_message verb ≡ true)
    × (is_none seen.message ≡ true)
FlagIs verb seen word ExtraDepends = (is_extra word ≡ true) × (takes_extra verb ≡ true)
    × (is_none seen.extra ≡ true)

pub flag_is : (verb : Verb) (seen : Values) (word : Word) (flag : Flag)
    → flag_at verb seen word ≡ Ok flag → FlagIs verb seen word flag
flag_is verb seen word flag h = by (is_message word && (takes_message verb && is_none seen.message))
    (is_extra word && (takes_extra verb && is_none seen.extra)) refl refl h
  where
    by : (a b : Bool) → (is_message word && (takes_message verb && is_none seen.message)) ≡ a
        → (is_extra word && (takes_extra verb && is_none seen.extra)) ≡ b
        → cond a (Ok Message) (cond b (Ok ExtraDepends) (Err (Wrong Extra word.place))) ≡ Ok flag
        → FlagIs verb seen word flag
    by true b is other g =
        let p = and_parts (is_message word) (takes_message verb && is_none seen.message) is in
        let q = and_parts (takes_message verb) (is_none seen.message) p.1 in
        let same : Message ≡ flag = cc in
        subst (FlagIs verb seen word) same (p.0, q.0, q.1)
    by false true is other g =
        let p = and_parts (is_extra word) (takes_extra verb && is_none seen.extra) other in
        let q = and_parts (takes_extra verb) (is_none seen.extra) p.1 in
        let same : ExtraDepends ≡ flag = cc in
        subst (FlagIs verb seen word) same (p.0, q.0, q.1)
    by false false is other g = absurd cc

-- a word isn't both
pub extra_alone : (word : Word) → is_extra word ≡ true → is_message word ≡ false
extra_alone word is =
    let p = and_parts word.is_bare (bytes_eq word.text (codes "--extra-depends")) is in
    let text : word.text ≡ codes "--extra-depends" =
    (bytes_eq-Decides word.text (codes "--extra-depends")).0 p.1 in
    rw (p.0, text) refl

-- the value of an option fits
abbrev pub ValueFits : Verb → Flag → Word → Type 0
ValueFits verb flag value = wants_relation verb flag ≡ true → is_relation value.text ≡ true

relation_is : (value : Word) (x : Unit {0}) → relation_checked value ≡ Ok x
    → is_relation value.text ≡ true
relation_is value x h = by (is_relation value.text) h
  where
    by : (b : Bool) → cond b (Ok (tt {0})) (Err (Wrong BadRelation value.place)) ≡ Ok x → b ≡ true
    by true g = refl
    by false g = absurd cc

pub value_is : (verb : Verb) (flag : Flag) (seen more : Values) (value : Word)
    → valued verb flag seen value ≡ Ok more
    → (with_value flag seen value ≡ more) × ValueFits verb flag value
value_is verb flag seen more value h = by (wants_relation verb flag) refl h
  where
    by : (b : Bool) → wants_relation verb flag ≡ b → cond b (on_ok (relation_checked value)
        (λ _. Ok (with_value flag seen value))) (Ok (with_value flag seen value)) ≡ Ok more
        → (with_value flag seen value ≡ more) × ValueFits verb flag value
    by true wants g =
        let (x, checked, same) =
        on_ok_parts (relation_checked value) (λ _. Ok (with_value flag seen value)) more g in
        ((let e = same in cc), λ _. relation_is value x checked)
    by false wants g = ((let e = g in cc), λ yes. absurd (let bad = sym wants ∙ yes in cc))

value_found : (verb : Verb) (flag : Flag) (seen : Values) (value : Word) → ValueFits verb flag value
    → valued verb flag seen value ≡ Ok (with_value flag seen value)
value_found verb flag seen value fits = by (wants_relation verb flag) refl
  where
    by : (b : Bool) → wants_relation verb flag ≡ b
        → valued verb flag seen value ≡ Ok (with_value flag seen value)
    by true wants = rw (wants, fits wants) refl
    by false wants = rw wants refl

-- ---- options, one after the other

module _ (verb : Verb) (end : End) where
  step : (seen values : Values) (word value : Word) (words : List Word)
      → options_at verb end seen (word ∷ value ∷ words) ≡ Ok values
      → (flag : Flag) × FlagIs verb seen word flag × ValueFits verb flag value
      × (options_at verb end (with_value flag seen value) words ≡ Ok values)
  unfolding options_at
  step seen values word value words h =
      let (flag, found, rest) =
      on_ok_parts (flag_at verb seen word)
      (λ flag. on_ok (valued verb flag seen value) (λ more. options_at verb end more words))
      values h in
      let (more, fitting, last) = on_ok_parts (valued verb flag seen value)
      (λ more. options_at verb end more words) values rest in
      let v = value_is verb flag seen more value fitting in (
        flag,
        flag_is verb seen word flag found,
        v.1,
        subst (λ m. options_at verb end m words ≡ Ok values) (sym v.0) last,
      )

  -- an option without a value isn't read
  lone : (seen values : Values) (word : Word) → options_at verb end seen (word ∷ []) ≡ Ok values → ⊥
  unfolding options_at
  lone seen values word h =
      let (flag, found, rest) = on_ok_parts (flag_at verb seen word)
      (λ flag. Err (missing end (missing_value flag))) values h in
      let bad = rest in absurd cc

  -- nor is a third one
  third : (values : Values) (a b : Word) (word : Word) (words : List Word)
      → options_at verb end (record { message = Some a; extra = Some b }) (word ∷ words) ≡ Ok values
      → ⊥
  third values a b word [] h = lone (record { message = Some a; extra = Some b }) values word h
  third values a b word (value ∷ words) h = let s =
      step (record { message = Some a; extra = Some b }) values word value words h in by s.0 s.1
    where
      by : (flag : Flag) → FlagIs verb (record { message = Some a; extra = Some b }) word flag → ⊥
      by Message is = let bad = is.2 in absurd cc
      by ExtraDepends is = let bad = is.2 in absurd cc

  last_is : (seen values : Values) → options_at verb end seen [] ≡ Ok values
      → (values ≡ seen) × MayEnd verb end values
  unfolding options_at
  last_is seen values h = end_is verb end seen values h

  push : (seen : Values) (word value : Word) (words : List Word) (flag : Flag)
      → flag_at verb seen word ≡ Ok flag → ValueFits verb flag value
      → options_at verb end seen (word ∷ value ∷ words) ≡ options_at verb end
      (with_value flag seen value) words
  unfolding options_at
  push seen word value words flag is fits = rw (is, value_found verb flag seen value fits) refl

  last_found : (seen : Values) → MayEnd verb end seen → options_at verb end seen [] ≡ Ok seen
  unfolding options_at
  last_found seen may = end_found verb end seen may

  closed : (seen values : Values) → values ≡ seen → MayEnd verb end values
      → options_at verb end seen [] ≡ Ok values
  closed seen values is may = subst (λ v. options_at verb end seen [] ≡ Ok v) (sym is)
      (last_found seen (subst (MayEnd verb end) is may))

  -- what is read of a word by the two tests
  abbrev pub picked : Word → Bool → Bool → Result Flag CommandFault
  picked word a b = cond a (Ok Message) (cond b (Ok ExtraDepends) (Err (Wrong Extra word.place)))

  message_flag : (seen : Values) (word value : Word) → IsMessage verb word value
      → is_none seen.message ≡ true → flag_at verb seen word ≡ Ok Message
  message_flag seen word value m none =
      ap (λ (a : Bool). picked word a (is_extra word && (takes_extra verb && is_none seen.extra)))
      (and_from (is_message word) (takes_message verb && is_none seen.message) m.sign
      (and_from (takes_message verb) (is_none seen.message) m.taken none))

  extra_flag : (seen : Values) (word value : Word) → IsExtra verb word value
      → is_none seen.extra ≡ true → flag_at verb seen word ≡ Ok ExtraDepends
  extra_flag seen word value x none =
      ap (λ (a : Bool). picked word (a && (takes_message verb && is_none seen.message))
      (is_extra word && (takes_extra verb && is_none seen.extra))) (extra_alone word x.sign)
      ∙ ap (picked word false)
      (and_from (is_extra word) (takes_extra verb && is_none seen.extra) x.sign
      (and_from (takes_extra verb) (is_none seen.extra) x.taken none))

  -- ---- forward

  message_of : (seen : Values) (word value : Word) → FlagIs verb seen word Message
      → ValueFits verb Message value → IsMessage verb word value
  message_of seen word value is fits = record { sign = is.0; taken = is.1; relation = fits }

  extra_of : (seen : Values) (word value : Word) → FlagIs verb seen word ExtraDepends
      → ValueFits verb ExtraDepends value → IsExtra verb word value
  extra_of seen word value is fits = record { sign = is.0; taken = is.1; relation = fits refl }

  one : (values : Values) (word value : Word) (flag : Flag) → FlagIs verb no_values word flag
      → ValueFits verb flag value
      → options_at verb end (with_value flag no_values value) [] ≡ Ok values
      → IsOneOption verb word value values × MayEnd verb end values
  one values word value Message is fits h =
      let l = last_is (with_value Message no_values value) values h in
      (inl (message_of no_values word value is fits, l.0), l.1)
  one values word value ExtraDepends is fits h =
      let l = last_is (with_value ExtraDepends no_values value) values h in
      (inr (extra_of no_values word value is fits, l.0), l.1)

  two : (values : Values) (word value other second : Word) (flag next : Flag)
      → FlagIs verb no_values word flag → ValueFits verb flag value
      → FlagIs verb (with_value flag no_values value) other next → ValueFits verb next second
      → options_at verb end (with_value next (with_value flag no_values value) second) []
      ≡ Ok values → AreBothOptions verb word value other second values × MayEnd verb end values
  two values word value other second Message Message is fits also suits h = let bad = also.2 in
      absurd cc
  two values word value other second Message ExtraDepends is fits also suits h =
      let l = last_is (with_value ExtraDepends (with_value Message no_values value) second) values
      h in (
        inl (
          message_of no_values word value is fits,
          extra_of (with_value Message no_values value) other second also suits,
          l.0,
        ),
        l.1,
      )
  two values word value other second ExtraDepends Message is fits also suits h =
      let l = last_is (with_value Message (with_value ExtraDepends no_values value) second) values
      h in (
        inr (
          extra_of no_values word value is fits,
          message_of
              (with_value ExtraDepends no_values value) other second also suits,
          l.0,
        ),
        l.1,
      )
  two values word value other second ExtraDepends ExtraDepends is fits also suits h = let bad =
      also.2 in absurd cc

  more_than_two : (values : Values) (word value other second last : Word) (words : List Word)
      (flag next : Flag) → FlagIs verb (with_value flag no_values value) other next
      → options_at verb end (with_value next (with_value flag no_values value) second)
      (last ∷ words) ≡ Ok values → ⊥
  more_than_two values word value other second last words Message Message also h = let bad =
      also.2 in absurd cc
  more_than_two values word value other second last words Message ExtraDepends also h =
      third values value second last words h
  more_than_two values word value other second last words ExtraDepends Message also h =
      third values second value last words h
  more_than_two values word value other second last words ExtraDepends ExtraDepends also h =
      let bad = also.2 in absurd cc

  options_are : (words : List Word) (values : Values) → options_at verb end no_values words
      ≡ Ok values → AreOptions verb words values × MayEnd verb end values
  options_are [] values h = last_is no_values values h
  options_are (word ∷ []) values h = absurd (lone no_values values word h)
  options_are (word ∷ value ∷ []) values h =
      let (flag, is, fits, rest) = step no_values values word value [] h in
      one values word value flag is fits rest
  options_are (word ∷ value ∷ other ∷ []) values h =
      let (flag, is, fits, rest) = step no_values values word value (other ∷ []) h in
      absurd (lone (with_value flag no_values value) values other rest)
  options_are (word ∷ value ∷ other ∷ second ∷ []) values h =
      let (flag, is, fits, rest) = step no_values values word value (other ∷ second ∷ []) h in
      let (next, also, suits, last) =
      step (with_value flag no_values value) values other second [] rest in
      two values word value other second flag next is fits also suits last
  options_are (word ∷ value ∷ other ∷ second ∷ x ∷ words) values h =
      let (flag, is, fits, rest) =
      step no_values values word value (other ∷ second ∷ x ∷ words) h in
      let (next, also, suits, last) = step (with_value flag no_values value) values other second
      (x ∷ words) rest in
      absurd (more_than_two values word value other second x words flag next also last)

  suite_is : (words : List Word) (values : Values) → suite_end verb end words ≡ Ok values
      → FollowSuite verb words values × MayEnd verb end values
  suite_is [] values h = end_is verb end no_values values h
  suite_is (dot ∷ words) values h = by (is_dot dot) refl h
    where
      by : (b : Bool) → is_dot dot ≡ b
          → cond b (options_at verb end no_values words) (Err (Wrong Extra dot.place)) ≡ Ok values
          → FollowSuite verb (dot ∷ words) values × MayEnd verb end values
      by true is g = let o = options_are words values g in ((is, o.0), o.1)
      by false is g = absurd cc

  dot_is : (suites : List (List ℕ)) (words : List Word) (values : Values)
      → dot_end verb suites end words ≡ Ok values
      → FollowDot verb suites words values × MayEnd verb end values
  dot_is suites [] values h = end_is verb end no_values values h
  dot_is suites (word ∷ words) values h =
      by (is_option word) (is_suite suites word.text) refl refl h
    where
      by : (a b : Bool) → is_option word ≡ a → is_suite suites word.text ≡ b
          → cond a (options_at verb end no_values (word ∷ words))
          (cond b (suite_end verb end words) (Err (Wrong UnknownSuite word.place))) ≡ Ok values
          → FollowDot verb suites (word ∷ words) values × MayEnd verb end values
      by true b is named g = let o = options_are (word ∷ words) values g in (inl (is, o.0), o.1)
      by false true is named g = let f = suite_is words values g in (inr (is, named, f.0), f.1)
      by false false is named g = absurd cc

  tail_is : (suites : List (List ℕ)) (behind : Option (List Word)) (values : Values)
      → tail_at verb suites end behind ≡ Ok values
      → FollowArchs verb suites behind values × MayEnd verb end values
  tail_is suites None values h = end_is verb end no_values values h
  tail_is suites (Some words) values h = dot_is suites words values h

  -- ---- and back

  ended : (values : Values) → values ≡ no_values → MayEnd verb end values
      → finished verb end no_values ≡ Ok values
  ended values is may = subst (λ v. finished verb end no_values ≡ Ok v) (sym is)
      (end_found verb end no_values (subst (MayEnd verb end) is may))

  pub push_message : (seen : Values) (word value : Word) (words : List Word) → IsMessage verb word value
      → is_none seen.message ≡ true
      → options_at verb end seen (word ∷ value ∷ words) ≡ options_at verb end
      (with_value Message seen value) words
  push_message seen word value words m none =
      push seen word value words Message (message_flag seen word value m none) m.relation

  pub push_extra : (seen : Values) (word value : Word) (words : List Word) → IsExtra verb word value
      → is_none seen.extra ≡ true
      → options_at verb end seen (word ∷ value ∷ words) ≡ options_at verb end
      (with_value ExtraDepends seen value) words
  push_extra seen word value words x none = push seen word value words ExtraDepends
      (extra_flag seen word value x none) (λ _. x.relation)

  options_found : (words : List Word) (values : Values) → AreOptions verb words values
      → MayEnd verb end values → options_at verb end no_values words ≡ Ok values
  options_found [] values is may = closed no_values values is may
  options_found (word ∷ []) values is may = absurd is
  options_found (word ∷ value ∷ []) values (inl is) may =
      push_message no_values word value [] is.0 refl
      ∙ closed (with_value Message no_values value) values is.1 may
  options_found (word ∷ value ∷ []) values (inr is) may =
      push_extra no_values word value [] is.0 refl
      ∙ closed (with_value ExtraDepends no_values value) values is.1 may
  options_found (word ∷ value ∷ other ∷ []) values is may = absurd is
  options_found (word ∷ value ∷ other ∷ second ∷ []) values (inl is) may =
      push_message no_values word value (other ∷ second ∷ []) is.0 refl
      ∙ push_extra (with_value Message no_values value) other second [] is.1 refl
      ∙ closed (with_value ExtraDepends (with_value Message no_values value) second) values is.2 may
  options_found (word ∷ value ∷ other ∷ second ∷ []) values (inr is) may =
      push_extra no_values word value (other ∷ second ∷ []) is.0 refl
      ∙ push_message (with_value ExtraDepends no_values value) other second [] is.1 refl
      ∙ closed (with_value Message (with_value ExtraDepends no_values value) second) values is.2 may
  options_found (word ∷ value ∷ other ∷ second ∷ x ∷ words) values is may = absurd is

  abbrev pub behind_suite : Word → List Word → Bool → Result Values CommandFault
  behind_suite dot words b = cond b (options_at verb end no_values words)
      (Err (Wrong Extra dot.place))

  suite_found : (words : List Word) (values : Values) → FollowSuite verb words values
      → MayEnd verb end values → suite_end verb end words ≡ Ok values
  suite_found [] values is may = ended values is may
  suite_found (dot ∷ words) values is may = ap (behind_suite dot words) is.0
      ∙ options_found words values is.1 may

  abbrev pub behind_dot_word : Word → List Word → Bool → Bool → Result Values CommandFault
  behind_dot_word word words a b = cond a (options_at verb end no_values (word ∷ words))
      (cond b (suite_end verb end words) (Err (Wrong UnknownSuite word.place)))

  dot_found : (suites : List (List ℕ)) (words : List Word) (values : Values)
      → FollowDot verb suites words values → MayEnd verb end values
      → dot_end verb suites end words ≡ Ok values
  dot_found suites [] values is may = ended values is may
  dot_found suites (word ∷ words) values (inl is) may =
      ap (λ (a : Bool). behind_dot_word word words a (is_suite suites word.text)) is.0
      ∙ options_found (word ∷ words) values is.1 may
  dot_found suites (word ∷ words) values (inr is) may =
      ap (λ (a : Bool). behind_dot_word word words a (is_suite suites word.text)) is.0
      ∙ ap (behind_dot_word word words false) is.1 ∙ suite_found words values is.2 may

  tail_found : (suites : List (List ℕ)) (behind : Option (List Word)) (values : Values)
      → FollowArchs verb suites behind values → MayEnd verb end values
      → tail_at verb suites end behind ≡ Ok values
  tail_found suites None values is may = ended values is may
  tail_found suites (Some words) values is may = dot_found suites words values is may

pub tails_exact : TailsAreExact
tails_exact = λ verb suites end behind values.
    (tail_is verb end suites behind values, λ a. tail_found verb end suites behind values a.0 a.1)
