-- What `clap` reads in words whose values are words of their own, whatever the subcommand.
use Rattle.std.proofs.Common.{◌≡◌, ℕ, false, List, [], ◌∷◌, ◌++◌, None, codes, refl, ap, ap₂, ◌∙◌}
use Rattle.std.specs.List.{fold}
use Rattle.std.specs.Str.{bytes_eq}
use Rattle.clap.specs.Kinds.{Kinds, or_else}
use Rattle.clap.specs.Lexer.{short_of, strip_byte}
use Rattle.clap.specs.Faults.{check_fault, defaults_fault, level_fault, settle_fault, turn_fault}
use Rattle.clap.specs.Faults.{walk_fault}
use Rattle.clap.specs.Walk.{Held, Rule, Walk, arg_by_id, finished, nothing_held, option}
use Rattle.clap.specs.Walk.{option_word, settled, walk_from, walked}
use Rattle.clap.specs.Simple.{Shape}
use Rattle.clap.proofs.OnLiterals.{clap_on_literals}
use Rattle.td_words.specs.CommandLine.{IsPlainPath}

-- ---- one path

-- an option waits for its value
abbrev waits : Held → List ℕ → Walk
waits h id =
    record { held = h; waiting = option id; position = 1; is_trailing = false; stopped = None }

-- the walk once an option has taken a word as its value
abbrev taken : List Rule → Held → List ℕ → List ℕ → Walk
taken c h id word =
    record {
      held = (option_word (arg_by_id c id) id word h).0;
      waiting = (option_word (arg_by_id c id) id word h).1;
      position = 1;
      is_trailing = false;
      stopped = None;
    }

no_dash : (word : List ℕ) → IsPlainPath word → strip_byte 45 word ≡ None
no_dash [] plain = absurd plain
no_dash (x ∷ xs) plain = rw plain refl

no_dashes : (word : List ℕ) → IsPlainPath word → bytes_eq word (45 ∷ 45 ∷ []) ≡ false
no_dashes [] plain = absurd plain
no_dashes (x ∷ xs) plain = rw plain refl

no_flags : (word : List ℕ) → IsPlainPath word → short_of word ≡ None
no_flags word plain = rw (no_dash word plain) refl

takes_value : (c : List Rule) (h : Held) (id word : List ℕ) → IsPlainPath word
    → walked c [] (waits h id) word ≡ taken c h id word
unfolding clap_on_literals
takes_value c h id word plain =
    rw (no_dashes word plain, no_dash word plain, no_flags word plain) refl

no_fault : (s : Shape) (h : Held) (id word : List ℕ) → IsPlainPath word
    → turn_fault s [] (waits h id) word ≡ []
unfolding clap_on_literals
no_fault s h id word plain = rw (no_dashes word plain, no_dash word plain, no_flags word plain) refl

-- a word that is a plain path is taken, and the words after it decide what is wrong
passes : (s : Shape) (h : Held) (id word : List ℕ) (rest : List (List ℕ)) → IsPlainPath word
    → walk_fault s [] (waits h id) (word ∷ rest) ≡ walk_fault s [] (taken s.rules h id word) rest
unfolding clap_on_literals
passes s h id word rest plain =
    ap₂ (λ kinds w. or_else kinds (walk_fault s [] w rest)) (no_fault s h id word plain)
    (takes_value s.rules h id word plain)

-- ---- some options, each with its value

abbrev pub Given : Type 0
Given = List ℕ × List ℕ

abbrev pub option_named : List ℕ → List ℕ
option_named name = codes "--" ++ name

abbrev pub words_of : List Given → List (List ℕ)
words_of [] = []
words_of (g ∷ gs) = option_named g.0 ∷ g.1 ∷ words_of gs

abbrev pub stepped : Shape → Walk → List ℕ → Walk
stepped b w word = walked b.rules [] w word

-- the walk after an option and its value
abbrev pub past : Shape → Walk → Given → Walk
past b w g = taken b.rules (stepped b w (option_named g.0)).held g.0 g.1

abbrev pub behind : Shape → Walk → List Given → Walk
behind b w [] = w
behind b w (g ∷ gs) = behind b (past b w g) gs

-- each option waits for its value, which isn't taken for an option, and nothing is wrong with it
abbrev pub Opens : Shape → Walk → List Given → Type 0
Opens b w [] = Unit {0}
Opens b w (g ∷ gs) =
    (stepped b w (option_named g.0) ≡ waits (stepped b w (option_named g.0)).held g.0)
    × (turn_fault b [] w (option_named g.0) ≡ []) × IsPlainPath g.1 × Opens b (past b w g) gs

pub walk_is : (b : Shape) (w : Walk) (gs : List Given) → Opens b w gs
    → fold (stepped b) w (words_of gs) ≡ behind b w gs
walk_is b w [] h = refl
walk_is b w (g ∷ gs) h =
    ap (λ v. fold (stepped b) (stepped b v g.1) (words_of gs)) h.0
    ∙ ap (λ v. fold (stepped b) v (words_of gs))
    (takes_value b.rules (stepped b w (option_named g.0)).held g.0 g.1 h.2)
    ∙ walk_is b (past b w g) gs h.3

walk_passes : (b : Shape) (w : Walk) (gs : List Given) → Opens b w gs
    → walk_fault b [] w (words_of gs) ≡ []
unfolding walk_fault
walk_passes b w [] h = refl
walk_passes b w (g ∷ gs) h =
    ap₂ (λ kinds v. or_else kinds (walk_fault b [] v (g.1 ∷ words_of gs))) h.1 h.0
    ∙ passes b (stepped b w (option_named g.0)).held g.0 g.1 (words_of gs) h.2
    ∙ walk_passes b (past b w g) gs h.3

abbrev pub ended : Shape → List Given → Walk
ended b gs = behind b (walk_from nothing_held) gs

-- what is left to be wrong at the end
abbrev pub end_fault : Shape → List Given → Kinds
end_fault b gs =
    or_else [] (or_else [] (or_else (settle_fault b.rules b.args_override_self (ended b gs).held)
    (or_else (defaults_fault (settled b.rules (ended b gs).held).rows b.rules)
    (check_fault b (finished b.rules (ended b gs).held) false))))

pub level_passes : (b : Shape) (gs : List Given) → Opens b (walk_from nothing_held) gs
    → end_fault b gs ≡ [] → level_fault b [] nothing_held (words_of gs) false [] ≡ []
unfolding clap_on_literals
level_passes b gs h end =
    ap₂ (λ kinds w.
    or_else kinds (or_else [] (or_else (settle_fault b.rules b.args_override_self w.held)
    (or_else (defaults_fault (settled b.rules w.held).rows b.rules)
    (check_fault b (finished b.rules w.held) false)))))
    (walk_passes b (walk_from nothing_held) gs h) (walk_is b (walk_from nothing_held) gs h)
    ∙ end
