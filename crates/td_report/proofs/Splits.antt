-- What chunks have one after the other is what the whole has.
use Rattle.std.proofs.Common.{◌≡◌, ℕ, List, [], ◌∷◌, ◌++◌, map, refl, sym, ap, ◌∙◌, Result, Ok}
use Rattle.std.proofs.Common.{Err}
use Rattle.std.specs.Prelude.{MatchResult, IfOk}
use Rattle.std.specs.List.{AllZip, flat_map}

-- what is made of each item, one after the other
pub flat_map-zipped : {X Y E : Type 0} (P : X → Result Y E → Type 0) (f : X → List ℕ)
    (g : Y → List ℕ)
    → ((x : X) (y : Y) → P x (Ok y) → g y ≡ f x) → (xs : List X) (ys : List Y)
    → AllZip P xs (map Ok ys) → flat_map g ys ≡ flat_map f xs
flat_map-zipped P f g says [] [] h = refl
flat_map-zipped P f g says [] (y ∷ ys) h = absurd h
flat_map-zipped P f g says (x ∷ xs) [] h = absurd h
flat_map-zipped P f g says (x ∷ xs) (y ∷ ys) h =
    ap (λ l. l ++ flat_map g ys) (says x y h.0)
    ∙ ap (λ l. f x ++ l) (flat_map-zipped P f g says xs ys h.1)

-- a text of a list that goes part by part
pub text-parts : {X : Type 0} (f : List X → List ℕ) → f [] ≡ [] → ((xs ys : List X) → f (xs ++ ys)
    ≡ f xs ++ f ys) → (xss : List (List X)) → flat_map f xss ≡ f (flat_map (λ l. l) xss)
text-parts f none more [] = sym none
text-parts f none more (xs ∷ xss) = ap (λ l. f xs ++ l) (text-parts f none more xss)
    ∙ sym (more xs (flat_map (λ l. l) xss))

-- what holds in either case holds of an `Ok`
pub IfOk-matched : {T E : Type 0} (r : Result T E) (P : T → Type 0) (Q : E → Type 0)
    (R : T → Type 0) → MatchResult r P Q → ((v : T) → P v → R v) → IfOk r R
IfOk-matched (Ok v) P Q R m h = h v m
IfOk-matched (Err e) P Q R m h = tt
