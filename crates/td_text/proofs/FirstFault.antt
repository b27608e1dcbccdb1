-- The first line with a fault, for any step.
use Rattle.std.proofs.Common.{◌≡◌, ℕ, suc, ◌+◌, List, [], ◌∷◌, ◌++◌, length, Result, Ok, Err, refl}
use Rattle.std.proofs.Common.{ap, ◌∙◌, arith, add-zero}
use Rattle.td_text.specs.Lines.{on_ok, over_lines}
use Rattle.td_text.specs.FirstFault.{FirstFault}
use Rattle.td_text.proofs.Chain.{on_ok_parts}

fault_by : {S F : Type 0} (step : ℕ → S → List ℕ → Result S F) (number : ℕ) (seen : S)
    (line : List ℕ) (lines : List (List ℕ)) (e : F)
    → ((m : ℕ) (more : S) → over_lines step m more lines ≡ Err e → FirstFault step m more lines e)
    → (r : Result S F) → step number seen line ≡ r
    → on_ok r (λ more. over_lines step (number + 1) more lines) ≡ Err e
    → FirstFault step number seen (line ∷ lines) e
unfolding over_lines
fault_by step number seen line lines e later (Err d) is g =
    record {
      before = [];
      line = line;
      after = lines;
      so_far = seen;
      parts = refl;
      fine = refl;
      fault = simp add-zero (is ∙ g);
    }
fault_by step number seen line lines e later (Ok more) is g =
    let f = later (number + 1) more g in
    record {
      before = line ∷ f.before;
      line = f.line;
      after = f.after;
      so_far = f.so_far;
      parts = ap (λ (l : List (List ℕ)). line ∷ l) f.parts;
      fine = rw is f.fine;
      fault = ap (λ (n : ℕ). step n f.so_far f.line)
          (let e : number + suc (length f.before) ≡ number + 1 + length f.before = omega arith in e)
          ∙ f.fault;
    }

-- where the steps over lines give a fault, it is that of the first line with one
pub first_fault : {S F : Type 0} (step : ℕ → S → List ℕ → Result S F) (number : ℕ) (seen : S)
    (lines : List (List ℕ)) (e : F) → over_lines step number seen lines ≡ Err e
    → FirstFault step number seen lines e
unfolding over_lines
first_fault step number seen [] e h = absurd cc
first_fault step number seen (line ∷ lines) e h =
    fault_by step number seen line lines e (λ m more g. first_fault step m more lines e g)
    (step number seen line) refl h

-- lines that come after others
pub over_lines-append : {S F : Type 0} (step : ℕ → S → List ℕ → Result S F) (number : ℕ)
    (seen so_far : S) (before after : List (List ℕ))
    → over_lines step number seen before ≡ Ok so_far
    → over_lines step number seen (before ++ after)
    ≡ over_lines step (number + length before) so_far after
unfolding over_lines
over_lines-append step number seen so_far [] after h =
    let is : seen ≡ so_far = cc in rw (add-zero, is) refl
over_lines-append step number seen so_far (line ∷ before) after h =
    let a = on_ok_parts (step number seen line) (λ more. over_lines step (number + 1) more before)
    so_far h in
    let later : over_lines step (number + 1) a.0 (before ++ after)
    ≡ over_lines step (number + 1 + length before) so_far after =
    over_lines-append step (number + 1) a.0 so_far before after a.2 in
    let is : number + 1 + length before ≡ number + suc (length before) = omega arith in
    rw a.1 (later ∙ ap (λ (n : ℕ). over_lines step n so_far after) is)

-- and the other way round: where the lines before a fault are read, it is what the lines give
pub first_fault_again : {S F : Type 0} (step : ℕ → S → List ℕ → Result S F) (number : ℕ) (seen : S)
    (lines : List (List ℕ)) (e : F) → FirstFault step number seen lines e
    → over_lines step number seen lines ≡ Err e
unfolding over_lines
first_fault_again step number seen lines e f =
    ap (over_lines step number seen) f.parts
    ∙ over_lines-append step number seen f.so_far f.before (f.line ∷ f.after) f.fine
    ∙ rw f.fault refl
