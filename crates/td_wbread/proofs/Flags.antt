-- Options, one by one.
use Rattle.std.proofs.Common.{◌≡◌, ◌≢◌, ◌&&◌, ◌||◌, Bool, true, false, cond, List, [], ◌∷◌, Result}
use Rattle.std.proofs.Common.{Ok, Err, is_none, refl, sym, ap, ◌∙◌, subst}
use Rattle.std.specs.List.{list_any}
use Rattle.td_text.specs.Lines.{on_ok}
use Rattle.td_wbread.specs.declared.command.Verb.{Verb}
use Rattle.td_wbread.specs.declared.option_reading.Flag.{Flag}
use Rattle.td_wbread.specs.declared.option_reading.Flag.TheVariants.{Message, ExtraDepends}
use Rattle.td_wbread.specs.declared.fault.CommandFault.{CommandFault}
use Rattle.td_wbread.specs.declared.fault.CommandFault.TheVariants.{Wrong, NoMemory}
use Rattle.td_wbread.specs.declared.word.Word.{Word}
use Rattle.td_wbread.specs.declared.fault.LineFault.{LineFault}
use Rattle.td_wbread.specs.declared.fault.LineFault.TheVariants.{Extra}
use Rattle.td_wbread.specs.declared.word.End.{End}
use Rattle.td_wbread.specs.declared.word.End.TheVariants.{Closed, Open}
use Rattle.td_wbread.specs.Faults.{IsFaultOf, missing}
use Rattle.td_wbread.specs.Tail.{Values, asks_relation, finished, flag_at, is_extra, is_message}
use Rattle.td_wbread.specs.Tail.{missing_value, needs_relation, options_at, takes_extra}
use Rattle.td_wbread.specs.Tail.{takes_message, value_at, valued, wants_relation}

-- a fault of an equal reading
pub fault_same : {A : Type 0} (e : CommandFault) (r s : Result A CommandFault) → r ≡ s
    → IsFaultOf r e → IsFaultOf s e
fault_same e r s same is = subst (λ x. IsFaultOf x e) same is

-- a fault that is named is the reading's
pub fault_is : {A : Type 0} (e : CommandFault) (r : Result A CommandFault) → r ≡ Err e
    → IsFaultOf r e
fault_is NoMemory r h = tt
fault_is (Wrong what place) r h = h

-- a fault of a part is that of what goes on from it
pub fault_first : {A B : Type 0} (e : CommandFault) (r : Result A CommandFault)
    (f : A → Result B CommandFault) → IsFaultOf r e → IsFaultOf (on_ok r f) e
fault_first NoMemory r f is = tt
fault_first (Wrong what place) r f is = ap (λ x. on_ok x f) is

module _ (verb : Verb) (end : End) (seen : Values) (total : Result Values CommandFault) where
  -- no word is left
  pub options_end : (rest : List Word) → rest ≡ [] → options_at verb end seen rest ≡ total
      → finished verb end seen ≡ total
  unfolding options_at
  options_end rest is h = sym (ap (options_at verb end seen) is) ∙ h

  -- a word that is no option here
  pub no_option : (rest after : List Word) (word : Word) (e : CommandFault) → rest ≡ word ∷ after
      → flag_at verb seen word ≡ Err e → options_at verb end seen rest ≡ total → total ≡ Err e
  unfolding options_at
  no_option rest [] word e is f h = sym h ∙ ap (options_at verb end seen) is
      ∙ ap (λ r. on_ok r (λ flag. Err (missing end (missing_value flag)))) f
  no_option rest (value ∷ words) word e is f h = sym h ∙ ap (options_at verb end seen) is
      ∙ ap (λ r. on_ok r (λ flag. on_ok (valued verb flag seen value)
      (λ more. options_at verb end more words))) f

  -- an option without a value
  pub no_value : (rest after : List Word) (word : Word) (flag : Flag) → rest ≡ word ∷ after
      → after ≡ [] → flag_at verb seen word ≡ Ok flag → options_at verb end seen rest ≡ total
      → total ≡ Err (missing end (missing_value flag))
  unfolding options_at
  no_value rest after word flag is none f h = sym h
      ∙ ap (options_at verb end seen) (is ∙ ap (λ (ws : List Word). word ∷ ws) none)
      ∙ ap (λ r. on_ok r (λ (o : Flag). Err (missing end (missing_value o)))) f

  -- an option with its value
  one_value : (rest after words : List Word) (word value : Word) (flag : Flag) → rest ≡ word ∷ after
      → after ≡ value ∷ words → flag_at verb seen word ≡ Ok flag → options_at verb end seen rest
      ≡ total → on_ok (valued verb flag seen value) (λ more. options_at verb end more words) ≡ total
  unfolding options_at
  one_value rest after words word value flag is next f h =
      sym (ap (options_at verb end seen) (is ∙ ap (λ (ws : List Word). word ∷ ws) next)
      ∙ ap (λ r. on_ok r (λ (o : Flag). on_ok (valued verb o seen value)
      (λ more. options_at verb end more words))) f) ∙ h

  pub bad_value : (rest after words : List Word) (word value : Word) (flag : Flag)
      (e : CommandFault) → rest ≡ word ∷ after → after ≡ value ∷ words
      → flag_at verb seen word ≡ Ok flag → options_at verb end seen rest ≡ total
      → IsFaultOf (valued verb flag seen value) e → IsFaultOf total e
  bad_value rest after words word value flag e is next f h v =
      fault_same e _ total (one_value rest after words word value flag is next f h)
      (fault_first e _ (λ more. options_at verb end more words) v)

  pub good_value : (rest after words : List Word) (word value : Word) (flag : Flag) (more : Values)
      → rest ≡ word ∷ after → after ≡ value ∷ words → flag_at verb seen word ≡ Ok flag
      → options_at verb end seen rest ≡ total → valued verb flag seen value ≡ Ok more
      → options_at verb end more words ≡ total
  good_value rest after words word value flag more is next f h v =
      sym (ap (λ r. on_ok r (λ m. options_at verb end m words)) v)
      ∙ one_value rest after words word value flag is next f h

-- ---- the value of an option

pair_same : (p q : Word × List Word)
    → ◌≡◌ {A = Result (Word × List Word) CommandFault} (Ok p) (Ok q) → p ≡ q
pair_same p q h = cc

fault_of_same : (e f : CommandFault)
    → ◌≡◌ {A = Result (Word × List Word) CommandFault} (Err e) (Err f) → e ≡ f
fault_of_same e f h = cc

-- a value that is found stands in front of what follows it
pub value_there : (end : End) (flag : Flag) (words behind : List Word) (value : Word)
    → value_at end flag words ≡ Ok (value, behind) → words ≡ value ∷ behind
value_there end flag [] behind value h = absurd cc
value_there end flag (first ∷ words) behind value h =
    ap (λ (p : Word × List Word). p.0 ∷ p.1) (pair_same (first, words) (value, behind) h)

-- a value that is missing would stand where no word is
pub value_missing : (end : End) (flag : Flag) (words : List Word) (e : CommandFault)
    → value_at end flag words ≡ Err e → (words ≡ []) × (missing end (missing_value flag) ≡ e)
value_missing end flag [] e h = (refl, fault_of_same (missing end (missing_value flag)) e h)
value_missing end flag (first ∷ words) e h = absurd cc

-- ---- what is told whatever memory there is

pub missing_certain : (end : End) (what : LineFault) → missing end what ≢ NoMemory
missing_certain (Closed place) what = λ h. cc
missing_certain (Open place) what = λ h. cc

pub flag_certain : (verb : Verb) (seen : Values) (word : Word) (e : CommandFault)
    → flag_at verb seen word ≡ Err e → e ≢ NoMemory
flag_certain verb seen word e =
    by (is_message word && (takes_message verb && is_none seen.message))
    (is_extra word && (takes_extra verb && is_none seen.extra))
  where
    by : (m x : Bool) → cond m (Ok Message) (cond x (Ok ExtraDepends) (Err (Wrong Extra word.place)))
        ≡ Err e → e ≢ NoMemory
    by true x h = absurd cc
    by false true h = absurd cc
    by false false h = λ none. cc

-- an option that is taken has a value that may be any text, where it doesn't ask for a relation
pub any_value : (verb : Verb) (seen : Values) (word : Word) (flag : Flag)
    → flag_at verb seen word ≡ Ok flag → asks_relation verb word ≡ false
    → wants_relation verb flag ≡ false
any_value verb seen word Message =
    by (is_message word) (takes_message verb && is_none seen.message)
    (is_extra word && (takes_extra verb && is_none seen.extra)) (needs_relation verb)
    (is_extra word && takes_extra verb)
  where
    by : (m t x r o : Bool)
        → cond (m && t) (Ok Message) (cond x (Ok ExtraDepends) (Err (Wrong Extra word.place)))
        ≡ Ok Message → ((m && r) || o) ≡ false → r ≡ false
    by true t x false o h none = refl
    by true t x true o h none = absurd cc
    by false t true r o h none = absurd cc
    by false t false r o h none = absurd cc
any_value verb seen word ExtraDepends =
    by (is_message word && (takes_message verb && is_none seen.message)) (is_extra word)
    (takes_extra verb) (is_none seen.extra) (is_message word && needs_relation verb)
  where
    by : (m x t n o : Bool)
        → cond m (Ok Message) (cond (x && (t && n)) (Ok ExtraDepends)
        (Err (Wrong Extra word.place))) ≡ Ok ExtraDepends → (o || (x && t)) ≡ false
        → true ≡ false
    by true x t n o h none = absurd cc
    by false false t n o h none = absurd cc
    by false true false n o h none = absurd cc
    by false true true n true h none = none
    by false true true n false h none = none

-- no word passes a test: the first doesn't, nor do those behind it
pub none_first : (test : Word → Bool) (words behind : List Word) (word : Word)
    → words ≡ word ∷ behind → list_any test words ≡ false
    → (test word ≡ false) × (list_any test behind ≡ false)
none_first test words behind word is none =
    by (test word) (list_any test behind) (sym (ap (list_any test) is) ∙ none)
  where
    by : (b c : Bool) → (b || c) ≡ false → (b ≡ false) × (c ≡ false)
    by true c h = absurd cc
    by false c h = (refl, h)
