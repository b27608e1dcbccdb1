-- What is wrong first with what follows the architectures.
use Rattle.std.proofs.Common.{◌≡◌, ◌⊎◌, ℕ, Bool, true, false, cond, ◌&&◌, List, [], ◌∷◌, ◌++◌}
use Rattle.std.proofs.Common.{Option}
use Rattle.std.proofs.Common.{Some, None, Result, Ok, Err, refl, sym, ap, subst, ◌∙◌, inl, inr}
use Rattle.std.specs.Prelude.{is_none}
use Rattle.std.proofs.lemmas.Bool.{and_parts, and_from}
use Rattle.td_text.specs.Lines.{on_ok}
use Rattle.td_wbread.specs.declared.command.Verb.{Verb}
use Rattle.td_wbread.specs.declared.option_reading.Flag.{Flag}
use Rattle.td_wbread.specs.declared.option_reading.Flag.TheVariants.{Message, ExtraDepends}
use Rattle.td_wbread.specs.declared.fault.CommandFault.{CommandFault}
use Rattle.td_wbread.specs.declared.fault.CommandFault.TheVariants.{Wrong}
use Rattle.td_wbread.specs.declared.fault.LineFault.TheVariants.{UnterminatedQuote, UnknownSuite}
use Rattle.td_wbread.specs.declared.fault.LineFault.TheVariants.{BadRelation, MissingMessage, Extra}
use Rattle.td_wbread.specs.declared.word.Word.{Word}
use Rattle.td_wbread.specs.declared.word.End.{End}
use Rattle.td_wbread.specs.declared.word.End.TheVariants.{Closed, Open}
use Rattle.td_wbread.specs.Faults.{is_dot, missing}
use Rattle.td_wbread.specs.Tail.{Values, dot_end, finished, flag_at, is_extra, is_message}
use Rattle.td_wbread.specs.Tail.{is_option, is_relation, is_suite, missing_value, needs_relation}
use Rattle.td_wbread.specs.Tail.{no_values, options_at, suite_end, tail_at, takes_extra}
use Rattle.td_wbread.specs.Tail.{takes_message, valued, wants_relation, with_value}
use Rattle.td_wbread.specs.TailFaults.{IsDotFault, IsEndFault, IsNextFault, IsOptionFault}
use Rattle.td_wbread.specs.TailFaults.{IsSuiteFault, IsTailFault, MayStand}
use Rattle.td_wbread.specs.TailFaults.{TailFaultsAreExact}
use Rattle.td_wbread.specs.TailLaws.{AreBothOptions, AreOptions, IsOneOption}
use Rattle.td_wbread.proofs.ListFaults.{err_is, not_both}
use Rattle.td_wbread.proofs.Tails.{FlagIs, ValueFits, extra_alone, flag_is, push_extra}
use Rattle.td_wbread.proofs.Tails.{push_message}
use Rattle.td_wbread.proofs.Tails.{value_is}

-- ---- the end

none_is : (o : Option Word) → is_none o ≡ true → o ≡ None
none_is None h = refl
none_is (Some w) h = absurd cc

end_faulty : (verb : Verb) (end : End) (seen : Values) (fault : CommandFault)
    → finished verb end seen ≡ Err fault → IsEndFault verb end seen fault
end_faulty verb (Open place) seen fault h =
    sym (err_is {A = Values} (Wrong UnterminatedQuote place) fault h)
end_faulty verb (Closed place) seen fault h =
    by (needs_relation verb && is_none seen.message) refl h
  where
    by : (b : Bool) → (needs_relation verb && is_none seen.message) ≡ b
        → cond b (Err (Wrong MissingMessage place)) (Ok seen) ≡ Err fault
        → IsEndFault verb (Closed place) seen fault
    by true is g =
        let p = and_parts (needs_relation verb) (is_none seen.message) is in (
          p.0,
          none_is seen.message p.1,
          sym (err_is {A = Values} (Wrong MissingMessage place) fault g),
        )
    by false is g = absurd (not_both seen fault g)

end_fails : (verb : Verb) (end : End) (seen : Values) (fault : CommandFault)
    → IsEndFault verb end seen fault → finished verb end seen ≡ Err fault
end_fails verb (Open place) seen fault is = ap (λ (x : CommandFault). Err x) (sym is)
end_fails verb (Closed place) seen fault (needs, none, is) =
    ap (λ (b : Bool). cond b (Err (Wrong MissingMessage place)) (Ok seen))
    (and_from (needs_relation verb) (is_none seen.message) needs (ap is_none none))
    ∙ ap (λ (x : CommandFault). Err x) (sym is)

-- ---- one option

-- what may stand is what is read as an option
stands : (verb : Verb) (seen : Values) (word : Word) (flag : Flag) → FlagIs verb seen word flag
    → MayStand verb seen word flag
stands verb seen word Message is = (is.0, is.1, none_is seen.message is.2)
stands verb seen word ExtraDepends is = (is.0, is.1, none_is seen.extra is.2)

abbrev picks : Word → Bool → Bool → Result Flag CommandFault
picks word a b = cond a (Ok Message) (cond b (Ok ExtraDepends) (Err (Wrong Extra word.place)))

abbrev reads_message : Verb → Values → Word → Bool
reads_message verb seen word = is_message word && (takes_message verb && is_none seen.message)

abbrev reads_extra : Verb → Values → Word → Bool
reads_extra verb seen word = is_extra word && (takes_extra verb && is_none seen.extra)

message_test : (verb : Verb) (seen : Values) (word : Word) → MayStand verb seen word Message
    → reads_message verb seen word ≡ true
message_test verb seen word m =
    and_from (is_message word) (takes_message verb && is_none seen.message) m.0
    (and_from (takes_message verb) (is_none seen.message) m.1 (ap is_none m.2))

extra_test : (verb : Verb) (seen : Values) (word : Word) → MayStand verb seen word ExtraDepends
    → reads_extra verb seen word ≡ true
extra_test verb seen word x =
    and_from (is_extra word) (takes_extra verb && is_none seen.extra) x.0
    (and_from (takes_extra verb) (is_none seen.extra) x.1 (ap is_none x.2))

flag_again : (verb : Verb) (seen : Values) (word : Word) (flag : Flag)
    → MayStand verb seen word flag → flag_at verb seen word ≡ Ok flag
flag_again verb seen word Message m =
    ap (λ (a : Bool). picks word a (reads_extra verb seen word)) (message_test verb seen word m)
flag_again verb seen word ExtraDepends x =
    ap (λ (a : Bool). picks word (a && (takes_message verb && is_none seen.message))
    (reads_extra verb seen word)) (extra_alone word x.0)
    ∙ ap (picks word false) (extra_test verb seen word x)

-- a word that is read as no option may not stand there
flag_faulty : (verb : Verb) (seen : Values) (word : Word) (e : CommandFault)
    → flag_at verb seen word ≡ Err e
    → ((flag : Flag) → ¬ MayStand verb seen word flag) × (e ≡ Wrong Extra word.place)
flag_faulty verb seen word e h =
    by (reads_message verb seen word) (reads_extra verb seen word) refl refl h
  where
    no_flag : (flag : Flag) → reads_message verb seen word ≡ false
        → reads_extra verb seen word ≡ false → ¬ MayStand verb seen word flag
    no_flag Message a b m =
        absurd (let bad : false ≡ true = sym a ∙ message_test verb seen word m in cc)
    no_flag ExtraDepends a b x =
        absurd (let bad : false ≡ true = sym b ∙ extra_test verb seen word x in cc)

    by : (a b : Bool) → reads_message verb seen word ≡ a → reads_extra verb seen word ≡ b
        → picks word a b ≡ Err e
        → ((flag : Flag) → ¬ MayStand verb seen word flag) × (e ≡ Wrong Extra word.place)
    by true b c d g = absurd (not_both Message e g)
    by false true c d g = absurd (not_both ExtraDepends e g)
    by false false c d g = (
      λ flag. no_flag flag c d,
      sym (err_is {A = Flag} (Wrong Extra word.place) e g),
    )

flag_fails : (verb : Verb) (seen : Values) (word : Word)
    → ((flag : Flag) → ¬ MayStand verb seen word flag)
    → flag_at verb seen word ≡ Err (Wrong Extra word.place)
flag_fails verb seen word none = by (flag_at verb seen word) refl
  where
    by : (r : Result Flag CommandFault) → flag_at verb seen word ≡ r
        → flag_at verb seen word ≡ Err (Wrong Extra word.place)
    by (Ok flag) is =
        absurd (none flag (stands verb seen word flag (flag_is verb seen word flag is)))
    by (Err e) is =
        is ∙ ap (λ (x : CommandFault). Err x) (flag_faulty verb seen word e is).1

-- ---- its value

value_faulty : (verb : Verb) (flag : Flag) (seen : Values) (value : Word) (e : CommandFault)
    → valued verb flag seen value ≡ Err e
    → (wants_relation verb flag ≡ true) × (is_relation value.text ≡ false)
    × (e ≡ Wrong BadRelation value.place)
value_faulty verb flag seen value e h =
    by (wants_relation verb flag) (is_relation value.text) refl refl h
  where
    by : (a b : Bool) → wants_relation verb flag ≡ a → is_relation value.text ≡ b
        → cond a (on_ok (cond b (Ok (tt {0})) (Err (Wrong BadRelation value.place)))
        (λ _. Ok (with_value flag seen value))) (Ok (with_value flag seen value)) ≡ Err e
        → (wants_relation verb flag ≡ true) × (is_relation value.text ≡ false)
        × (e ≡ Wrong BadRelation value.place)
    by true true c d g = absurd (not_both (with_value flag seen value) e g)
    by true false c d g =
        (c, d, sym (err_is {A = Values} (Wrong BadRelation value.place) e g))
    by false b c d g = absurd (not_both (with_value flag seen value) e g)

value_fails : (verb : Verb) (flag : Flag) (seen : Values) (value : Word)
    → wants_relation verb flag ≡ true → is_relation value.text ≡ false
    → valued verb flag seen value ≡ Err (Wrong BadRelation value.place)
value_fails verb flag seen value wants other = rw (wants, other) refl

-- ---- options, one after the other

module _ (verb : Verb) (end : End) (fault : CommandFault) where
  -- an option and its value are read, and the fault is behind them
  record GoesOn (seen : Values) (words : List Word) : Type 0 where
    flag : Flag
    word : Word
    value : Word
    rest : List Word
    joined : words ≡ word ∷ value ∷ rest
    is : FlagIs verb seen word flag
    fits : ValueFits verb flag value
    later : options_at verb end (with_value flag seen value) rest ≡ Err fault

  next : (seen : Values) (words : List Word) → options_at verb end seen words ≡ Err fault
      → IsNextFault verb end seen words fault ⊎ GoesOn seen words
  unfolding options_at
  next seen [] h = inl (end_faulty verb end seen fault h)
  next seen (word ∷ []) h = by (flag_at verb seen word) refl h
    where
      by : (r : Result Flag CommandFault) → flag_at verb seen word ≡ r
          → on_ok {B = Values} r (λ flag. Err (missing end (missing_value flag))) ≡ Err fault
          → IsNextFault verb end seen (word ∷ []) fault ⊎ GoesOn seen (word ∷ [])
      by (Err e) is g =
          let f = flag_faulty verb seen word e is in
          inl (inl (f.0, sym (err_is {A = Values} e fault g) ∙ f.1))
      by (Ok flag) is g =
          inl (inr (
            flag,
            stands verb seen word flag (flag_is verb seen word flag is),
            sym (err_is {A = Values} (missing end (missing_value flag)) fault g),
          ))
  next seen (word ∷ value ∷ words) h = by (flag_at verb seen word) refl h
    where
      read : (flag : Flag) → flag_at verb seen word ≡ Ok flag → (r : Result Values CommandFault)
          → valued verb flag seen value ≡ r
          → on_ok r (λ more. options_at verb end more words) ≡ Err fault
          → IsNextFault verb end seen (word ∷ value ∷ words) fault
          ⊎ GoesOn seen (word ∷ value ∷ words)
      read flag is (Err e) bad g =
          let v = value_faulty verb flag seen value e bad in
          inl (inr (
            flag,
            stands verb seen word flag (flag_is verb seen word flag is),
            (v.0, v.1, sym (err_is {A = Values} e fault g) ∙ v.2),
          ))
      read flag is (Ok more) good g =
          let v = value_is verb flag seen more value good in
          inr (record {
            flag = flag;
            word = word;
            value = value;
            rest = words;
            joined = refl;
            is = flag_is verb seen word flag is;
            fits = v.1;
            later = subst (λ m. options_at verb end m words ≡ Err fault) (sym v.0) g;
          })

      by : (r : Result Flag CommandFault) → flag_at verb seen word ≡ r
          → on_ok r (λ flag. on_ok (valued verb flag seen value)
          (λ more. options_at verb end more words)) ≡ Err fault
          → IsNextFault verb end seen (word ∷ value ∷ words) fault
          ⊎ GoesOn seen (word ∷ value ∷ words)
      by (Err e) is g =
          let f = flag_faulty verb seen word e is in
          inl (inl (f.0, sym (err_is {A = Values} e fault g) ∙ f.1))
      by (Ok flag) is g = read flag is (valued verb flag seen value) refl g

  next_fails : (seen : Values) (words : List Word) → IsNextFault verb end seen words fault
      → options_at verb end seen words ≡ Err fault
  unfolding options_at
  next_fails seen [] is = end_fails verb end seen fault is
  next_fails seen (word ∷ []) (inl (none, is)) =
      ap (λ r. on_ok r (λ flag. Err (missing end (missing_value flag))))
      (flag_fails verb seen word none)
      ∙ ap (λ (x : CommandFault). Err x) (sym is)
  next_fails seen (word ∷ value ∷ words) (inl (none, is)) =
      ap (λ r. on_ok r (λ flag. on_ok (valued verb flag seen value)
      (λ more. options_at verb end more words))) (flag_fails verb seen word none)
      ∙ ap (λ (x : CommandFault). Err x) (sym is)
  next_fails seen (word ∷ []) (inr (flag, may, is)) =
      ap (λ r. on_ok r (λ (f : Flag). Err (missing end (missing_value f))))
      (flag_again verb seen word flag may)
      ∙ ap (λ (x : CommandFault). Err x) (sym is)
  next_fails seen (word ∷ value ∷ words) (inr (flag, may, (wants, other, is))) =
      ap (λ r. on_ok r (λ (f : Flag). on_ok (valued verb f seen value)
      (λ more. options_at verb end more words))) (flag_again verb seen word flag may)
      ∙ ap (λ r. on_ok r (λ more. options_at verb end more words))
      (value_fails verb flag seen value wants other)
      ∙ ap (λ (x : CommandFault). Err x) (sym is)

  one_is : (flag : Flag) (word value : Word) → FlagIs verb no_values word flag
      → ValueFits verb flag value
      → IsOneOption verb word value (with_value flag no_values value)
  one_is Message word value is fits =
      inl (record { sign = is.0; taken = is.1; relation = fits }, refl)
  one_is ExtraDepends word value is fits =
      inr (record { sign = is.0; taken = is.1; relation = fits refl }, refl)

  both_are : (flag other : Flag) (word value second third : Word)
      → FlagIs verb no_values word flag → ValueFits verb flag value
      → FlagIs verb (with_value flag no_values value) second other → ValueFits verb other third
      → AreBothOptions verb word value second third
      (with_value other (with_value flag no_values value) third)
  both_are Message Message word value second third is fits also suits =
      absurd (let bad = also.2 in cc)
  both_are Message ExtraDepends word value second third is fits also suits =
      inl (
        record { sign = is.0; taken = is.1; relation = fits },
        record { sign = also.0; taken = also.1; relation = suits refl },
        refl,
      )
  both_are ExtraDepends Message word value second third is fits also suits =
      inr (
        record { sign = is.0; taken = is.1; relation = fits refl },
        record { sign = also.0; taken = also.1; relation = suits },
        refl,
      )
  both_are ExtraDepends ExtraDepends word value second third is fits also suits =
      absurd (let bad = also.2 in cc)

  -- there is no third option
  no_third : (flag other last : Flag) (value second third word : Word)
      → FlagIs verb (with_value flag no_values value) second other
      → FlagIs verb (with_value other (with_value flag no_values value) third) word last → ⊥
  no_third Message Message last value second third word also is = absurd (let bad = also.2 in cc)
  no_third ExtraDepends ExtraDepends last value second third word also is =
      absurd (let bad = also.2 in cc)
  no_third Message ExtraDepends Message value second third word also is =
      absurd (let bad = is.2 in cc)
  no_third Message ExtraDepends ExtraDepends value second third word also is =
      absurd (let bad = is.2 in cc)
  no_third ExtraDepends Message Message value second third word also is =
      absurd (let bad = is.2 in cc)
  no_third ExtraDepends Message ExtraDepends value second third word also is =
      absurd (let bad = is.2 in cc)

  option_faulty : (words : List Word) → options_at verb end no_values words ≡ Err fault
      → IsOptionFault verb end words fault
  option_faulty words h =
      elim (next no_values words h) [
        | inl n ↦ ([], words, no_values, refl, refl, n)
        | inr a ↦
            let seen = with_value a.flag no_values a.value in
            elim (next seen a.rest a.later) [
              | inl n ↦ (
                a.word ∷ a.value ∷ [],
                a.rest,
                seen,
                a.joined,
                one_is a.flag a.word a.value a.is a.fits,
                n,
              )
              | inr b ↦
                  let more = with_value b.flag seen b.value in
                  elim (next more b.rest b.later) [
                    | inl n ↦ (
                      a.word ∷ a.value ∷ b.word ∷ b.value ∷ [],
                      b.rest,
                      more,
                      a.joined ∙ ap (λ (l : List Word). a.word ∷ a.value ∷ l) b.joined,
                      both_are a.flag b.flag a.word a.value b.word b.value a.is a.fits b.is b.fits,
                      n,
                    )
                    | inr d ↦
                        absurd (no_third a.flag b.flag d.flag a.value b.word b.value d.word b.is
                        d.is)
                  ]
            ]
      ]

  -- options that are fine are passed
  passed : (front rest : List Word) (seen : Values) → AreOptions verb front seen
      → options_at verb end no_values (front ++ rest) ≡ options_at verb end seen rest
  passed [] rest seen is =
      ap (λ (v : Values). options_at verb end v rest) (sym is)
  passed (word ∷ []) rest seen is = absurd is
  passed (word ∷ value ∷ []) rest seen (inl is) =
      push_message verb end no_values word value rest is.0 refl
      ∙ ap (λ (v : Values). options_at verb end v rest) (sym is.1)
  passed (word ∷ value ∷ []) rest seen (inr is) =
      push_extra verb end no_values word value rest is.0 refl
      ∙ ap (λ (v : Values). options_at verb end v rest) (sym is.1)
  passed (word ∷ value ∷ other ∷ []) rest seen is = absurd is
  passed (word ∷ value ∷ other ∷ second ∷ []) rest seen (inl is) =
      push_message verb end no_values word value (other ∷ second ∷ rest) is.0 refl
      ∙ push_extra verb end (with_value Message no_values value) other second rest is.1 refl
      ∙ ap (λ (v : Values). options_at verb end v rest) (sym is.2)
  passed (word ∷ value ∷ other ∷ second ∷ []) rest seen (inr is) =
      push_extra verb end no_values word value (other ∷ second ∷ rest) is.0 refl
      ∙ push_message verb end (with_value ExtraDepends no_values value) other second rest is.1 refl
      ∙ ap (λ (v : Values). options_at verb end v rest) (sym is.2)
  passed (word ∷ value ∷ other ∷ second ∷ x ∷ words) rest seen is = absurd is

  option_fails : (words : List Word) → IsOptionFault verb end words fault
      → options_at verb end no_values words ≡ Err fault
  option_fails words (front, rest, seen, joined, are, n) =
      ap (options_at verb end no_values) joined ∙ passed front rest seen are
      ∙ next_fails seen rest n

  -- ---- a suite, and the whole

  abbrev suite_by : Word → List Word → Bool → Result Values CommandFault
  suite_by word words b =
      cond b (options_at verb end no_values words) (Err (Wrong Extra word.place))

  suite_faulty : (words : List Word) → suite_end verb end words ≡ Err fault
      → IsSuiteFault verb end words fault
  suite_faulty [] h = end_faulty verb end no_values fault h
  suite_faulty (word ∷ words) h = by (is_dot word) refl h
    where
      by : (b : Bool) → is_dot word ≡ b → suite_by word words b ≡ Err fault
          → IsSuiteFault verb end (word ∷ words) fault
      by true is g = inr (is, option_faulty words g)
      by false is g = inl (is, sym (err_is {A = Values} (Wrong Extra word.place) fault g))

  suite_fails : (words : List Word) → IsSuiteFault verb end words fault
      → suite_end verb end words ≡ Err fault
  suite_fails [] is = end_fails verb end no_values fault is
  suite_fails (word ∷ words) (inl (other, is)) =
      ap (suite_by word words) other ∙ ap (λ (x : CommandFault). Err x) (sym is)
  suite_fails (word ∷ words) (inr (dot, is)) =
      ap (suite_by word words) dot ∙ option_fails words is

  abbrev dot_by : Word → List Word → Bool → Bool → Result Values CommandFault
  dot_by word words a b = cond a (options_at verb end no_values (word ∷ words))
      (cond b (suite_end verb end words) (Err (Wrong UnknownSuite word.place)))

  dot_faulty : (suites : List (List ℕ)) (words : List Word)
      → dot_end verb suites end words ≡ Err fault → IsDotFault verb suites end words fault
  dot_faulty suites [] h = end_faulty verb end no_values fault h
  dot_faulty suites (word ∷ words) h = by (is_option word) (is_suite suites word.text) refl refl h
    where
      by : (a b : Bool) → is_option word ≡ a → is_suite suites word.text ≡ b
          → dot_by word words a b ≡ Err fault → IsDotFault verb suites end (word ∷ words) fault
      by true b is named g = inl (is, option_faulty (word ∷ words) g)
      by false true is named g = inr (inl (is, named, suite_faulty words g))
      by false false is named g =
          inr (inr (
            is,
            named,
            sym (err_is {A = Values} (Wrong UnknownSuite word.place) fault g),
          ))

  dot_fails : (suites : List (List ℕ)) (words : List Word) → IsDotFault verb suites end words fault
      → dot_end verb suites end words ≡ Err fault
  dot_fails suites [] is = end_fails verb end no_values fault is
  dot_fails suites (word ∷ words) (inl (option, is)) =
      ap (λ (a : Bool). dot_by word words a (is_suite suites word.text)) option
      ∙ option_fails (word ∷ words) is
  dot_fails suites (word ∷ words) (inr (inl (option, named, is))) =
      ap (λ (a : Bool). dot_by word words a (is_suite suites word.text)) option
      ∙ ap (dot_by word words false) named ∙ suite_fails words is
  dot_fails suites (word ∷ words) (inr (inr (option, named, is))) =
      ap (λ (a : Bool). dot_by word words a (is_suite suites word.text)) option
      ∙ ap (dot_by word words false) named ∙ ap (λ (x : CommandFault). Err x) (sym is)

  tail_faulty : (suites : List (List ℕ)) (behind : Option (List Word))
      → tail_at verb suites end behind ≡ Err fault → IsTailFault verb suites end behind fault
  tail_faulty suites None h = end_faulty verb end no_values fault h
  tail_faulty suites (Some words) h = dot_faulty suites words h

  tail_fails : (suites : List (List ℕ)) (behind : Option (List Word))
      → IsTailFault verb suites end behind fault → tail_at verb suites end behind ≡ Err fault
  tail_fails suites None is = end_fails verb end no_values fault is
  tail_fails suites (Some words) is = dot_fails suites words is

pub tail_faults_are_exact : TailFaultsAreExact
tail_faults_are_exact verb suites end behind fault =
    (tail_faulty verb end fault suites behind, tail_fails verb end fault suites behind)
