-- A table of architectures is read if and only if its lines are those of architectures.
use Rattle.std.proofs.Common.{◌≡◌, ◌≢◌, ℕ, ◌+◌, ◌≤◌, ◌&&◌, not, Bool, true, false, cond, eqb, ltb}
use Rattle.std.proofs.Common.{List, [], ◌∷◌, ◌++◌, length, map, Option, Some, None, Result, Ok, Err}
use Rattle.std.proofs.Common.{inl, inr, ◌⊎◌, refl, sym, ap, subst, ◌∙◌, append_assoc, arith}
use Rattle.std.specs.Prelude.{codes}
use Rattle.std.specs.List.{filter, list_all}
use Rattle.std.specs.Str.{bytes_eq}
use Rattle.std.proofs.lemmas.Bool.{ne_eqb, eqb-true, eqb-false, eq-eqb, and_parts, and_from}
use Rattle.std.proofs.lemmas.List.{append-nil, length-append}
use Rattle.td_text.specs.Exact.{Exact}
use Rattle.td_text.specs.Cut.{Without}
use Rattle.td_text.specs.Lines.{on_ok, over_lines}
use Rattle.td_text.specs.Words.{is_alphanumeric, is_arch}
use Rattle.td_text.proofs.Chain.{chained, when_some, on_ok_parts, guard, ok_is}
use Rattle.td_text.proofs.Cut.{cut_found, cut-at, Without-from_test}
use Rattle.td_text.proofs.FirstFault.{first_fault, first_fault_again}
use Rattle.td_text.proofs.Lines.{fails}
use Rattle.td_text.proofs.Words.{Without-arch}
use Rattle.td_relation.specs.declared.archs.ArchsFault.{ArchsFault}
use Rattle.td_relation.specs.declared.archs.ArchsFault.TheVariants.{BadLine, Twice, TooMany}
use Rattle.td_relation.specs.declared.archs.ArchsFault.TheVariants.{NoMemory}
use Rattle.td_relation.specs.Arch.{ArchWords, is_table_name, is_machine_word, arch_line, ArchFits}
use Rattle.td_relation.specs.ArchReading.{arch_at, add_arch, arch_step}
use Rattle.td_relation.specs.Fails.{Fails}
use Rattle.td_relation.specs.Table.{Fresh, is_named, is_skipped}
use Rattle.td_relation.specs.TableFile.{AreLinesOf, IsTable, IsFaulty, IsFirstFault, FaultOf}

-- ---- a line

arch_found : (text : List ℕ) (v : ArchWords) → arch_at text ≡ Some v
    → (text ≡ arch_line v) × ArchFits v
unfolding arch_at
arch_found text v e =
    let a = chained _ _ v e in
    let b = chained _ _ v a.2 in
    let g = when_some (is_table_name a.0.0 && (is_machine_word b.0.0 && is_machine_word b.0.1))
    (record { name = a.0.0; os = b.0.0; cpu = b.0.1 }) v b.2 in
    let n = and_parts (is_table_name a.0.0) (is_machine_word b.0.0 && is_machine_word b.0.1) g.0 in
    let m = and_parts (is_machine_word b.0.0) (is_machine_word b.0.1) n.1 in
    subst (λ (y : ArchWords). (text ≡ arch_line y) × ArchFits y) g.1 (
      (cut_found 32 text a.0 a.1).0
          ∙ ap (λ (l : List ℕ). a.0.0 ++ 32 ∷ l) (cut_found 32 a.0.1 b.0 b.1).0,
      record { name = n.0; os = m.0; cpu = m.1 },
    )

machine_Without : (t : List ℕ) → is_machine_word t ≡ true → Without 32 t
machine_Without t h =
    let a = and_parts (ltb 0 (length t))
    (list_all is_alphanumeric t && not (bytes_eq t (codes "any"))) h in
    let b = and_parts (list_all is_alphanumeric t) (not (bytes_eq t (codes "any"))) a.1 in
    Without-from_test is_alphanumeric 32 t refl b.0

arch_again : (v : ArchWords) → ArchFits v → arch_at (arch_line v) ≡ Some v
unfolding arch_at
arch_again v fits =
    let first : Without 32 v.name =
    Without-arch 32 v.name refl (and_parts (is_arch v.name) _ fits.name).0 in
    let second : Without 32 v.os = machine_Without v.os fits.os in
    let all : (is_table_name v.name && (is_machine_word v.os && is_machine_word v.cpu)) ≡ true =
    and_from _ _ fits.name (and_from _ _ fits.os fits.cpu) in
    rw (cut-at 32 v.name (v.os ++ 32 ∷ v.cpu) first, cut-at 32 v.os v.cpu second)
    (ap (λ (b : Bool). cond b (Some v) None) all)

pub arch_exact : Exact arch_at arch_line ArchFits
arch_exact = record { found = arch_found; again = arch_again }

-- ---- what was added

added : (n : ℕ) (seen more : List ArchWords) (line : List ℕ) (o : Option ArchWords)
    → arch_at line ≡ o → add_arch n seen o ≡ Ok more
    → (a : ArchWords) × (more ≡ seen ++ a ∷ []) × (line ≡ arch_line a) × ArchFits a
    × (is_named seen a.name ≡ false) × (length seen ≢ 32)
added n seen more line None is e = absurd cc
added n seen more line (Some p) is e =
    let a = guard (is_named seen p.name) (Twice n)
    (cond (eqb (length seen) 32) (Err TooMany) (Ok (seen ++ p ∷ []))) more e in
    let c = guard (eqb (length seen) 32) TooMany (Ok (seen ++ p ∷ [])) more a.1 in
    let f = arch_exact.found line p is in
    (p, sym (ok_is ArchsFault _ _ c.1), f.0, f.1, a.0, eqb-false (length seen) 32 c.0)

-- ---- a line that is skipped, and one that is kept

pub arch_step-skipped : (n : ℕ) (seen : List ArchWords) (line : List ℕ) → is_skipped line ≡ true
    → arch_step n seen line ≡ Ok seen
arch_step-skipped n seen line h =
    ap (λ (b : Bool). cond b (Ok seen) (add_arch n seen (arch_at line))) h

pub arch_step-kept : (n : ℕ) (seen : List ArchWords) (line : List ℕ) → is_skipped line ≡ false
    → arch_step n seen line ≡ add_arch n seen (arch_at line)
arch_step-kept n seen line h =
    ap (λ (b : Bool). cond b (Ok seen) (add_arch n seen (arch_at line))) h

abbrev Kept : List (List ℕ) → List (List ℕ)
Kept lines = filter (λ line. not (is_skipped line)) lines

Kept-skipped : (line : List ℕ) (lines : List (List ℕ)) → is_skipped line ≡ true
    → Kept (line ∷ lines) ≡ Kept lines
Kept-skipped line lines h = ap (λ (b : Bool). cond (not b) (line ∷ Kept lines) (Kept lines)) h

Kept-kept : (line : List ℕ) (lines : List (List ℕ)) → is_skipped line ≡ false
    → Kept (line ∷ lines) ≡ line ∷ Kept lines
Kept-kept line lines h = ap (λ (b : Bool). cond (not b) (line ∷ Kept lines) (Kept lines)) h

abbrev IsFound : List ArchWords → List ArchWords → List (List ℕ) → Type 0
IsFound seen total lines =
    (archs : List ArchWords) × (total ≡ seen ++ archs) × AreLinesOf seen archs lines

pub archs_found : (n : ℕ) (seen total : List ArchWords) (lines : List (List ℕ)) → length seen ≤ 32
    → over_lines arch_step n seen lines ≡ Ok total → IsFound seen total lines
unfolding over_lines
archs_found n seen total [] few e = (
  [],
  sym (ok_is ArchsFault _ _ e) ∙ sym (append-nil seen),
  record {
    spelled = refl;
    fits = tt;
    fresh = tt;
    limited = subst (λ (t : List ArchWords). length t ≤ 32) (sym (append-nil seen)) few;
  },
)
archs_found n seen total (line ∷ lines) few e =
    by (λ more h q. archs_found (n + 1) more total lines h q) (is_skipped line) refl
  where
    by : ((more : List ArchWords) → length more ≤ 32
        → over_lines arch_step (n + 1) more lines ≡ Ok total → IsFound more total lines)
        → (b : Bool) → is_skipped line ≡ b → IsFound seen total (line ∷ lines)
    by later true is =
        let q : over_lines arch_step (n + 1) seen lines ≡ Ok total =
        sym (ap (λ r. on_ok r (λ next. over_lines arch_step (n + 1) next lines))
        (arch_step-skipped n seen line is)) ∙ e in
        let h = later seen few q in (
          h.0,
          h.1,
          record {
            spelled = Kept-skipped line lines is ∙ h.2.spelled;
            fits = h.2.fits;
            fresh = h.2.fresh;
            limited = h.2.limited;
          },
        )
    by later false is =
        let q : on_ok (add_arch n seen (arch_at line))
        (λ next. over_lines arch_step (n + 1) next lines) ≡ Ok total =
        sym (ap (λ r. on_ok r (λ next. over_lines arch_step (n + 1) next lines))
        (arch_step-kept n seen line is)) ∙ e in
        let a = on_ok_parts _ _ _ q in
        let r = added n seen a.0 line (arch_at line) refl a.1 in
        let below : length a.0 ≤ 32 =
        (let other = r.5 in omega (arith, ap length r.1, length-append seen (r.0 ∷ []))) in
        let h = later a.0 below a.2 in
        let fresh : Fresh (seen ++ r.0 ∷ []) h.0 =
        subst (λ (l : List ArchWords). Fresh l h.0) r.1 h.2.fresh in
        let joined : a.0 ++ h.0 ≡ seen ++ r.0 ∷ h.0 =
        ap (λ (l : List ArchWords). l ++ h.0) r.1 ∙ append_assoc seen (r.0 ∷ []) h.0 in (
          r.0 ∷ h.0,
          h.1 ∙ joined,
          record {
            spelled = (let s = h.2.spelled in let l = r.2 in
                let k = Kept-kept line lines is in cc);
            fits = (r.3, h.2.fits);
            fresh = (r.4, fresh);
            limited = subst (λ (t : List ArchWords). length t ≤ 32) joined h.2.limited;
          },
        )

-- ---- and the other way round

add_arch-again : (n : ℕ) (seen : List ArchWords) (p : ArchWords) → ArchFits p
    → is_named seen p.name ≡ false → length (seen ++ p ∷ []) ≤ 32
    → add_arch n seen (arch_at (arch_line p)) ≡ Ok (seen ++ p ∷ [])
add_arch-again n seen p fits fresh few =
    let read : arch_at (arch_line p) ≡ Some p = arch_exact.again p fits in
    let below : eqb (length seen) 32 ≡ false =
    ne_eqb (length seen) 32 (λ e. omega (arith, length-append seen (p ∷ []))) in
    rw (read, fresh, below) refl

few_before : (seen : List ArchWords) (p : ArchWords) (archs : List ArchWords)
    → length (seen ++ p ∷ archs) ≤ 32 → length (seen ++ p ∷ []) ≤ 32
few_before seen p archs h =
    omega (arith, length-append seen (p ∷ []), length-append seen (p ∷ archs))

pub archs_again : (n : ℕ) (seen archs : List ArchWords) (lines : List (List ℕ))
    → AreLinesOf seen archs lines → over_lines arch_step n seen lines ≡ Ok (seen ++ archs)
unfolding over_lines
archs_again n seen [] [] h = ap Ok (sym (append-nil seen))
archs_again n seen (r ∷ archs) [] h = absurd (let s = h.spelled in cc)
archs_again n seen archs (line ∷ lines) h =
    by (λ more rest g. archs_again (n + 1) more rest lines g) (is_skipped line) refl
  where
    one : ((more archs : List ArchWords) → AreLinesOf more archs lines
        → over_lines arch_step (n + 1) more lines ≡ Ok (more ++ archs)) → (more : List ArchWords)
        → AreLinesOf seen more (line ∷ lines) → is_skipped line ≡ false
        → over_lines arch_step n seen (line ∷ lines) ≡ Ok (seen ++ more)
    one later [] g is = absurd (let s = g.spelled in let k = Kept-kept line lines is in cc)
    one later (r ∷ more) g is =
        let k = Kept-kept line lines is in
        let same : line ≡ arch_line r = (let s = g.spelled in cc) in
        let rest : Kept lines ≡ map arch_line more = (let s = g.spelled in cc) in
        let step : arch_step n seen line ≡ Ok (seen ++ r ∷ []) =
        arch_step-kept n seen line is ∙ ap (λ (l : List ℕ). add_arch n seen (arch_at l)) same
        ∙ add_arch-again n seen r g.fits.0 g.fresh.0 (few_before seen r more g.limited) in
        let joined = append_assoc seen (r ∷ []) more in
        ap (λ q. on_ok q (λ next. over_lines arch_step (n + 1) next lines)) step
        ∙ later (seen ++ r ∷ []) more
        (record {
          spelled = rest;
          fits = g.fits.1;
          fresh = g.fresh.1;
          limited = subst (λ (t : List ArchWords). length t ≤ 32) (sym joined) g.limited;
        })
        ∙ ap Ok joined

    by : ((more archs : List ArchWords) → AreLinesOf more archs lines
        → over_lines arch_step (n + 1) more lines ≡ Ok (more ++ archs)) → (b : Bool)
        → is_skipped line ≡ b → over_lines arch_step n seen (line ∷ lines) ≡ Ok (seen ++ archs)
    by later true is =
        ap (λ q. on_ok q (λ next. over_lines arch_step (n + 1) next lines))
        (arch_step-skipped n seen line is)
        ∙ later seen archs (record {
          spelled = sym (Kept-skipped line lines is) ∙ h.spelled;
          fits = h.fits;
          fresh = h.fresh;
          limited = h.limited;
        })
    by later false is = one later archs h is

-- ---- a step of the code

module _ (n : ℕ) (seen : List ArchWords) (line : List ℕ) (p : ArchWords)
    (is : Some p ≡ arch_at line) where
  pub add_arch-twice : is_named seen p.name ≡ true → add_arch n seen (arch_at line) ≡ Err (Twice n)
  add_arch-twice h = rw (← is, h) refl

  pub add_arch-many : is_named seen p.name ≡ false → length seen ≡ 32
      → add_arch n seen (arch_at line) ≡ Err TooMany
  add_arch-many h many =
      let full : eqb (length seen) 32 ≡ true = eq-eqb (length seen) 32 many in
      rw (← is, h, full) refl

  pub add_arch-ok : is_named seen p.name ≡ false → length seen ≢ 32
      → add_arch n seen (arch_at line) ≡ Ok (seen ++ p ∷ [])
  add_arch-ok h few =
      let below : eqb (length seen) 32 ≡ false = ne_eqb (length seen) 32 few in
      rw (← is, h, below) refl

-- a fault at a line is that of all lines
pub Fails-over_lines : (e : ArchsFault) (n : ℕ) (seen : List ArchWords) (line : List ℕ)
    (after : List (List ℕ)) (total : Result (List ArchWords) ArchsFault)
    → is_skipped line ≡ false → Fails e (add_arch n seen (arch_at line))
    → over_lines arch_step n seen (line ∷ after) ≡ total → Fails e total
Fails-over_lines NoMemory n seen line after total is f h = tt
Fails-over_lines (BadLine k) n seen line after total is f h =
    fails arch_step n seen line after total (BadLine k) (arch_step-kept n seen line is ∙ f) h
Fails-over_lines (Twice k) n seen line after total is f h =
    fails arch_step n seen line after total (Twice k) (arch_step-kept n seen line is ∙ f) h
Fails-over_lines TooMany n seen line after total is f h =
    fails arch_step n seen line after total TooMany (arch_step-kept n seen line is ∙ f) h

-- ---- what the whole text is

pub IsTable-read : (lines : List (List ℕ)) (archs : List ArchWords)
    → over_lines arch_step 1 [] lines ≡ Ok archs → IsTable lines archs
IsTable-read lines archs e =
    let h = archs_found 1 [] archs lines (omega arith) e in
    subst (λ (r : List ArchWords). AreLinesOf [] r lines) (sym h.1) h.2

pub IsTable-one : (lines : List (List ℕ)) (t u : List ArchWords)
    → over_lines arch_step 1 [] lines ≡ Ok t → IsTable lines u → t ≡ u
IsTable-one lines t u e is = ok_is ArchsFault t u (sym e ∙ archs_again 1 [] u lines is)

pub IsTable-fails : (lines : List (List ℕ)) (t : List ArchWords) (e : ArchsFault) → IsTable lines t
    → Fails e (over_lines arch_step 1 [] lines) → e ≡ NoMemory
IsTable-fails lines t NoMemory is f = refl
IsTable-fails lines t (BadLine n) is f = absurd (let r = archs_again 1 [] t lines is in cc)
IsTable-fails lines t (Twice n) is f = absurd (let r = archs_again 1 [] t lines is in cc)
IsTable-fails lines t TooMany is f = absurd (let r = archs_again 1 [] t lines is in cc)

-- ---- the first fault

kept-step : (n : ℕ) (seen : List ArchWords) (line : List ℕ) (e : ArchsFault) → arch_step n seen line
    ≡ Err e → (is_skipped line ≡ false) × (add_arch n seen (arch_at line) ≡ Err e)
kept-step n seen line e h = by (is_skipped line) refl
  where
    by : (b : Bool) → is_skipped line ≡ b
        → (is_skipped line ≡ false) × (add_arch n seen (arch_at line) ≡ Err e)
    by true is = absurd (let s = arch_step-skipped n seen line is in cc)
    by false is = (is, sym (arch_step-kept n seen line is) ∙ h)

faulty : (n : ℕ) (seen : List ArchWords) (line : List ℕ) (e : ArchsFault) (o : Option ArchWords)
    → arch_at line ≡ o → add_arch n seen o ≡ Err e → IsFaulty seen n line e
faulty n seen line e None is h =
    let what : BadLine n ≡ e = cc in
    subst (λ (x : ArchsFault). IsFaulty seen n line x) what (
      refl,
      λ p fits spelled. (let read : arch_at line ≡ Some p =
          ap arch_at spelled ∙ arch_exact.again p fits in let bad : None ≡ Some p = sym is ∙ read in
          cc),
    )
faulty n seen line e (Some p) is h = named (is_named seen p.name) refl h
  where
    found : (line ≡ arch_line p) × ArchFits p
    found = arch_exact.found line p is

    many : (f : Bool) → eqb (length seen) 32 ≡ f → is_named seen p.name ≡ false
        → cond f (Err TooMany) (Ok (seen ++ p ∷ [])) ≡ Err e → IsFaulty seen n line e
    many true full fresh g =
        let what : TooMany ≡ e = cc in
        subst (λ (x : ArchsFault). IsFaulty seen n line x) what (
          record { arch = p; spelled = found.0; fits = found.1; named = fresh },
          eqb-true (length seen) 32 full,
        )
    many false full fresh g = absurd cc

    named : (b : Bool) → is_named seen p.name ≡ b → cond b (Err (Twice n)) (cond
        (eqb (length seen) 32) (Err TooMany) (Ok (seen ++ p ∷ []))) ≡ Err e → IsFaulty seen n line e
    named true is_so g =
        let what : Twice n ≡ e = cc in
        subst (λ (x : ArchsFault). IsFaulty seen n line x) what
        (refl, record { arch = p; spelled = found.0; fits = found.1; named = is_so })
    named false fresh g = many (eqb (length seen) 32) refl fresh g

first_of : (lines : List (List ℕ)) (e : ArchsFault) → over_lines arch_step 1 [] lines ≡ Err e
    → IsFirstFault lines e
first_of lines e h =
    let f = first_fault arch_step 1 [] lines e h in
    let step = kept-step (1 + length f.before) f.so_far f.line e f.fault in
    record {
      before = f.before;
      line = f.line;
      after = f.after;
      parts = f.parts;
      seen = f.so_far;
      fine = IsTable-read f.before f.so_far f.fine;
      kept = step.0;
      faulty = faulty (1 + length f.before) f.so_far f.line e (arch_at f.line) refl step.1;
    }

pub FaultOf-read : (lines : List (List ℕ)) (e : ArchsFault)
    → Fails e (over_lines arch_step 1 [] lines) → FaultOf lines e
FaultOf-read lines NoMemory f = tt
FaultOf-read lines (BadLine n) f = first_of lines (BadLine n) f
FaultOf-read lines (Twice n) f = first_of lines (Twice n) f
FaultOf-read lines TooMany f = first_of lines TooMany f

-- ---- and a text with a fault has no other

faulty-again : (seen : List ArchWords) (number : ℕ) (line : List ℕ) (e : ArchsFault)
    → IsFaulty seen number line e → add_arch number seen (arch_at line) ≡ Err e
faulty-again seen number line (BadLine n) f = unread (arch_at line) refl
  where
    unread : (o : Option ArchWords) → arch_at line ≡ o
        → add_arch number seen (arch_at line) ≡ Err (BadLine n)
    unread None is = ap (add_arch number seen) is ∙ ap (λ (k : ℕ). Err (BadLine k)) (sym f.0)
    unread (Some p) is = let found = arch_exact.found line p is in absurd (f.1 p found.1 found.0)
faulty-again seen number line (Twice n) f =
    let read : Some f.1.arch ≡ arch_at line =
    sym (ap arch_at f.1.spelled ∙ arch_exact.again f.1.arch f.1.fits) in
    add_arch-twice number seen line f.1.arch read f.1.named
    ∙ ap (λ (k : ℕ). Err (Twice k)) (sym f.0)
faulty-again seen number line TooMany f =
    let read : Some f.0.arch ≡ arch_at line =
    sym (ap arch_at f.0.spelled ∙ arch_exact.again f.0.arch f.0.fits) in
    add_arch-many number seen line f.0.arch read f.0.named f.1
faulty-again seen number line NoMemory f = absurd f

pub first-again : (lines : List (List ℕ)) (e : ArchsFault) → IsFirstFault lines e
    → over_lines arch_step 1 [] lines ≡ Err e
first-again lines e f =
    first_fault_again arch_step 1 [] lines e (record {
      before = f.before;
      line = f.line;
      after = f.after;
      so_far = f.seen;
      parts = f.parts;
      fine = archs_again 1 [] f.seen f.before f.fine;
      fault = arch_step-kept (1 + length f.before) f.seen f.line f.kept
          ∙ faulty-again f.seen (1 + length f.before) f.line e f.faulty;
    })

pub refused-for : (lines : List (List ℕ)) (fault e : ArchsFault) → IsFirstFault lines fault
    → Fails e (over_lines arch_step 1 [] lines) → (e ≡ NoMemory) ⊎ (e ≡ fault)
refused-for lines fault NoMemory is f = inl refl
refused-for lines fault (BadLine n) is f = inr (let h = first-again lines fault is in cc)
refused-for lines fault (Twice n) is f = inr (let h = first-again lines fault is in cc)
refused-for lines fault TooMany is f = inr (let h = first-again lines fault is in cc)

pub not-refused : (lines : List (List ℕ)) (t : List ArchWords) (fault : ArchsFault)
    → over_lines arch_step 1 [] lines ≡ Ok t → IsFirstFault lines fault → ⊥
not-refused lines t fault read is =
    let h = first-again lines fault is in
    let bad : ◌≡◌ {A = Result (List ArchWords) ArchsFault} (Ok t) (Err fault) = sym read ∙ h in cc
