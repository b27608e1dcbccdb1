-- Chains of readings, taken apart.
use Rattle.std.proofs.Common.{◌≡◌, ℕ, Bool, true, false, cond, ◌||◌, not, List, [], ◌∷◌, map}
use Rattle.std.proofs.Common.{Option, Some, None, Result, Ok, Err, refl, sym, ap, subst, ◌∙◌, inl}
use Rattle.std.proofs.Common.{inr}
use Rattle.std.specs.List.{list_any}
use Rattle.std.specs.Str.{bytes_eq}
use Rattle.std.proofs.lemmas.Bool.{cases_Bool}
use Rattle.std.proofs.lemmas.Slice.Eq.{bytes_eq-Decides}
use Rattle.td_text.specs.Chain.{◌>>=◌}
use Rattle.td_text.specs.Lines.{on_ok}

-- the first step of a chain that gave something, and what the chain goes on with
pub chained : {A B : Type 0} (o : Option A) (f : A → Option B) (y : B) → (o >>= f) ≡ Some y
    → (x : A) × (o ≡ Some x) × (f x ≡ Some y)
chained None f y e = absurd cc
chained (Some x) f y e = (x, refl, e)

pub some_is : {A : Type 0} (x y : A) → Some x ≡ Some y → x ≡ y
some_is x y e = cc

-- where there is nothing there is no value
pub no_value : {A B : Type 0} (x : A) → None ≡ Some x → B
no_value x e = absurd cc

-- a test before a value
pub when_some : {A : Type 0} (b : Bool) (x y : A) → cond b (Some x) None ≡ Some y
    → (b ≡ true) × (x ≡ y)
when_some true x y e = (refl, some_is x y e)
when_some false x y e = absurd cc

-- a test that rules a reading out
pub when_none : {A : Type 0} (b : Bool) (x : Option A) (y : A) → cond b None x ≡ Some y
    → (b ≡ false) × (x ≡ Some y)
when_none true x y e = absurd cc
when_none false x y e = (refl, e)

-- the same three of a `Result`
pub on_ok_parts : {A B F : Type 0} (r : Result A F) (f : A → Result B F) (y : B) → on_ok r f ≡ Ok y
    → (x : A) × (r ≡ Ok x) × (f x ≡ Ok y)
on_ok_parts (Ok x) f y e = (x, refl, e)
on_ok_parts (Err d) f y e = absurd cc

abbrev done : {A : Type 0} (F : Type 0) → A → Result A F
done F x = Ok x

pub ok_is : {A : Type 0} (F : Type 0) (x y : A) → done F x ≡ done F y → x ≡ y
ok_is F x y e = cc

pub guard : {A F : Type 0} (b : Bool) (d : F) (r : Result A F) (y : A) → cond b (Err d) r ≡ Ok y
    → (b ≡ false) × (r ≡ Ok y)
guard true d r y e = absurd cc
guard false d r y e = (refl, e)

pub not-true : (b : Bool) → not b ≡ true → b ≡ false
not-true true e = absurd cc
not-true false e = refl

pub or-false : (a b : Bool) → (a || b) ≡ false → (a ≡ false) × (b ≡ false)
or-false true b e = absurd cc
or-false false b e = (refl, e)

pub or_right : (a b : Bool) → b ≡ true → (a || b) ≡ true
or_right true b h = refl
or_right false b h = h

-- a word that is tested for, or what follows the test
pub or_word : {V : Type 0} (spell : V → List ℕ) (Fits : V → Type 0) (t : List ℕ) (s v : V)
    (rest : Option V) → Fits v → (rest ≡ Some s → (t ≡ spell s) × Fits s)
    → cond (bytes_eq t (spell v)) (Some v) rest ≡ Some s → (t ≡ spell s) × Fits s
or_word spell Fits t s v rest fits later e =
    elim (cases_Bool (bytes_eq t (spell v))) [
      | inl met ↦
          let q : Some v ≡ Some s = sym (rw met refl) ∙ e in
          subst (λ y. (t ≡ spell y) × Fits y) (some_is v s q)
          ((bytes_eq-Decides t (spell v)).0 met, fits)
      | inr unmet ↦ later (sym (rw unmet refl) ∙ e)
    ]

-- a test of views is a test of what is viewed
pub list_any-map : {A B : Type 0} (test : B → Bool) (view : A → B) (xs : List A)
    → list_any test (map view xs) ≡ list_any (λ x. test (view x)) xs
list_any-map test view [] = refl
list_any-map test view (x ∷ xs) = ap (λ (b : Bool). test (view x) || b) (list_any-map test view xs)
