-- The options of a command's line, as they are written.
use Rattle.std.proofs.Common.{◌≡◌, ℕ, ◌==◌, Bool, true, false, List, [], ◌∷◌, ◌++◌, length}
use Rattle.std.proofs.Common.{append_assoc, arith, refl, sym, ap, ◌∙◌, Option, Result}
use Rattle.std.proofs.Common.{Ok, Err}
use Rattle.std.specs.Prelude.{OnOk, codes}
use Rattle.std.proofs.lemmas.Bool.{eqb-true}
use Rattle.td_rows.specs.declared.kind.Kind.{Kind}
use Rattle.td_rows.specs.declared.kind.Kind.TheVariants.{Nmu, Dw}
use Rattle.td_lasting.specs.Sending.{dot_before, option_words, options}

dot_some : (text : List ℕ) → (length text == 0) ≡ false → dot_before text ≡ codes " ."
dot_some [] is = absurd cc
dot_some (x ∷ text) is = refl

dot_either : (message extra : List ℕ) → (length extra == 0) ≡ false
    → dot_before (message ++ extra) ≡ codes " ."
dot_either [] extra is = dot_some extra is
dot_either (x ∷ message) extra is = refl

dot_first : (message extra : List ℕ) → (length message == 0) ≡ false
    → dot_before (message ++ extra) ≡ codes " ."
dot_first [] extra is = absurd cc
dot_first (x ∷ message) extra is = refl

empty : (text : List ℕ) → (length text == 0) ≡ true → text ≡ []
empty [] is = refl
empty (x ∷ text) is =
    let none : length (x ∷ text) ≡ 0 = eqb-true (length (x ∷ text)) 0 is in absurd (omega arith)

-- the dot of a rebuild: there is a text behind it, or none
pub dot_by_extra : (message extra : List ℕ) (e : Bool) → e ≡ (length extra == 0) → e ≡ false
    → dot_before (message ++ extra) ≡ codes " ."
dot_by_extra message extra e is none = dot_either message extra (sym is ∙ none)

pub dot_by_message : (message extra : List ℕ) (m : Bool) → m ≡ (length message == 0) → m ≡ false
    → dot_before (message ++ extra) ≡ codes " ."
dot_by_message message extra m is none = dot_first message extra (sym is ∙ none)

pub no_dot : (message extra : List ℕ) (e m : Bool) → e ≡ (length extra == 0) → e ≡ true
    → m ≡ (length message == 0) → m ≡ true → dot_before (message ++ extra) ≡ []
no_dot message extra e m is none its empty_too =
    ap (λ (l : List ℕ). dot_before (l ++ extra)) (empty message (sym its ∙ empty_too))
    ∙ ap dot_before (empty extra (sym is ∙ none))

-- the options of a rebuild
pub put_nmu : {E : Type 0} (result : Result (Unit {0}) E) (kind : Kind) (number : Option ℕ)
    (extra message before first second now message_is extra_is dot : List ℕ)
    → kind ≡ Nmu number extra message → dot_before (message ++ extra) ≡ dot
    → first ≡ before ++ dot → message_is ≡ message → extra_is ≡ extra
    → second ≡ first ++ option_words (codes "-m") message_is
    → OnOk result (now ≡ second ++ option_words (codes "--extra-depends") extra_is)
    → OnOk result (now ≡ before ++ options kind)
put_nmu (Err e) kind number extra message before first second now mi ei dot is dots one mis eis two
    three = tt
put_nmu (Ok u) kind number extra message before first second now mi ei dot is dots one mis eis two
    three =
    let m = option_words (codes "-m") message in
    let x = option_words (codes "--extra-depends") extra in
    three ∙ ap (λ (l : List ℕ). second ++ option_words (codes "--extra-depends") l) eis
    ∙ ap (λ (l : List ℕ). l ++ x)
    (two ∙ ap (λ (l : List ℕ). first ++ option_words (codes "-m") l) mis)
    ∙ ap (λ (l : List ℕ). (l ++ m) ++ x) (one ∙ ap (λ (l : List ℕ). before ++ l) (sym dots))
    ∙ append_assoc (before ++ dot_before (message ++ extra)) m x
    ∙ append_assoc before (dot_before (message ++ extra)) (m ++ x)
    ∙ ap (λ (k : Kind). before ++ options k) (sym is)

-- the option of a dep-wait
pub put_dw : {E : Type 0} (result : Result (Unit {0}) E) (kind : Kind)
    (relation before first now relation_is : List ℕ) → kind ≡ Dw relation
    → first ≡ before ++ codes " ." → relation_is ≡ relation
    → OnOk result (now ≡ first ++ option_words (codes "-m") relation_is)
    → OnOk result (now ≡ before ++ options kind)
put_dw (Err e) kind relation before first now ri is one ris two = tt
put_dw (Ok u) kind relation before first now ri is one ris two =
    let m = option_words (codes "-m") relation in
    two ∙ ap (λ (l : List ℕ). first ++ option_words (codes "-m") l) ris
    ∙ ap (λ (l : List ℕ). l ++ m) one ∙ append_assoc before (codes " .") m
    ∙ ap (λ (k : Kind). before ++ options k) (sym is)
