-- State files are read if and only if their lines are those of opening rows.
use Rattle.std.proofs.Common.{◌≡◌, ◌≢◌, ℕ, suc, ◌+◌, ◌≤◌, Bool, true, false, cond, eqb, List, []}
use Rattle.std.proofs.Common.{◌∷◌, ◌++◌, length, map, Option, Some, None, Result, Ok, Err, is_some}
use Rattle.std.proofs.Common.{refl, sym, ap, subst, ◌∙◌, append_assoc, arith}
use Rattle.std.specs.Prelude.{decimal}
use Rattle.std.specs.Fmt.{signed_decimal}
use Rattle.std.specs.Map.{lookup}
use Rattle.std.specs.List.{filter}
use Rattle.std.proofs.lemmas.Bool.{ne_eqb, eqb-true, eqb-false, eq-eqb}
use Rattle.std.proofs.lemmas.List.{append-nil, length-append}
use Rattle.td_text.specs.Cut.{Without}
use Rattle.td_text.specs.Lines.{on_ok, over_lines}
use Rattle.td_text.proofs.Chain.{on_ok_parts, guard, ok_is}
use Rattle.td_text.proofs.Cut.{Without-left, Without-right}
use Rattle.td_text.proofs.FirstFault.{first_fault}
use Rattle.td_text.proofs.Lines.{fails}
use Rattle.td_rows.proofs.NoteLines.{key_lacks, extra_lacks, text_lacks}
use Rattle.td_rows.specs.declared.key.Key.{Key}
use Rattle.td_rows.specs.declared.row.Row.{Row}
use Rattle.td_rows.specs.declared.state_file.StateFault.{StateFault}
use Rattle.td_rows.specs.declared.state_file.StateFault.TheVariants.{BadLine, Twice, NotOpening}
use Rattle.td_rows.specs.declared.state_file.StateFault.TheVariants.{TooManyRows, NoMemory}
use Rattle.td_rows.specs.Text.{has_newline}
use Rattle.td_rows.specs.Keys.{same_key, names}
use Rattle.td_rows.specs.States.{is_building}
use Rattle.td_rows.specs.Table.{Table, keys_of, row_of}
use Rattle.td_rows.specs.StateWord.{state_word}
use Rattle.td_rows.specs.KeyText.{key_text}
use Rattle.td_rows.specs.Notes.{extra_part, text_part, notes}
use Rattle.td_rows.specs.RowLine.{row_words, row_line, RowFits}
use Rattle.td_rows.specs.RowReading.{row_line_at}
use Rattle.td_rows.specs.StateFile.{is_filled, Opens, Fresh, AreLinesOf, IsStateFile, IsFaulty}
use Rattle.td_rows.specs.StateFile.{IsFirstFault, FaultOf}
use Rattle.td_rows.specs.StateReading.{add_row, state_step, Fails}
use Rattle.td_rows.proofs.Lookups.{lookup-row_of}
use Rattle.td_rows.proofs.RowLines.{row_exact}
use Rattle.td_rows.proofs.Sorting.{table-same}

-- ---- a name among keys, and its row

-- a key is among the keys exactly where it has a row
pub names-row_of : (t : Table) (k : Key) → names (keys_of t) k ≡ is_some (row_of t k)
names-row_of [] k = refl
names-row_of (p ∷ t) k =
    elim (same_key k p.0) as (λ b.
    (cond b true (names (keys_of t) k)) ≡ is_some (cond b (Some p.1) (row_of t k))) [
      | true ↦ refl
      | false ↦ names-row_of t k
    ]

-- a key that isn't among the keys has no row
pub row_of-unnamed : (t : Table) (k : Key) → names (keys_of t) k ≡ false → row_of t k ≡ None
row_of-unnamed t k h = by (row_of t k) (sym (names-row_of t k) ∙ h)
  where
    by : (o : Option Row) → is_some o ≡ false → o ≡ None
    by None e = refl
    by (Some r) e = cc

-- ---- a line that is read

-- what was added is a row that the line spells
added : (n : ℕ) (seen more : Table) (line : List ℕ) (o : Option (Key × Row)) → row_line_at line ≡ o
    → add_row n seen o ≡ Ok more
    → (p : Key × Row) × (more ≡ seen ++ p ∷ []) × (line ≡ row_line p) × Opens p
    × (names (keys_of seen) p.0 ≡ false) × (length seen ≢ 1048576)
added n seen more line None is e = absurd cc
added n seen more line (Some p) is e =
    let a = guard (names (keys_of seen) p.0) (Twice n)
    (cond (is_building p.1.state) (Err (NotOpening n))
    (cond (eqb (length seen) 1048576) (Err TooManyRows) (Ok (seen ++ p ∷ [])))) more e in
    let b = guard (is_building p.1.state) (NotOpening n)
    (cond (eqb (length seen) 1048576) (Err TooManyRows) (Ok (seen ++ p ∷ []))) more a.1 in
    let c = guard (eqb (length seen) 1048576) TooManyRows (Ok (seen ++ p ∷ [])) more b.1 in
    let f = row_exact.found line p is in (
      p,
      sym (ok_is StateFault _ _ c.1),
      f.0,
      record { fits = f.1; free = b.0 },
      a.0,
      eqb-false (length seen) 1048576 c.0,
    )

pub rows_found : (n : ℕ) (seen total : Table) (lines : List (List ℕ)) → length seen ≤ 1048576
    → over_lines state_step n seen lines ≡ Ok total
    → (rows : Table) × (total ≡ seen ++ rows) × AreLinesOf seen rows lines
unfolding over_lines
rows_found n seen total [] few e = (
  [],
  sym (ok_is StateFault _ _ e) ∙ sym (append-nil seen),
  record {
    spelled = refl;
    opening = tt;
    fresh = tt;
    limited = subst (λ (t : Table). length t ≤ 1048576) (sym (append-nil seen)) few;
  },
)
rows_found n seen total ([] ∷ lines) few e =
    let h = rows_found (n + 1) seen total lines few e in (
      h.0,
      h.1,
      record {
        spelled = h.2.spelled;
        opening = h.2.opening;
        fresh = h.2.fresh;
        limited = h.2.limited;
      },
    )
rows_found n seen total ((x ∷ line) ∷ lines) few e =
    let q : on_ok (add_row n seen (row_line_at (x ∷ line)))
    (λ more. over_lines state_step (n + 1) more lines) ≡ Ok total =
    sym (rw (ne_eqb (suc (length line)) 0 (λ z. omega arith)) refl) ∙ e in
    let a = on_ok_parts _ _ _ q in
    let r = added n seen a.0 (x ∷ line) (row_line_at (x ∷ line)) refl a.1 in
    let below : length a.0 ≤ 1048576 =
    (let other = r.5 in omega (arith, ap length r.1, length-append seen (r.0 ∷ []))) in
    let h = rows_found (n + 1) a.0 total lines below a.2 in
    let fresh : Fresh (seen ++ r.0 ∷ []) h.0 = subst (λ (l : Table). Fresh l h.0) r.1 h.2.fresh in
    let joined : a.0 ++ h.0 ≡ seen ++ r.0 ∷ h.0 =
    ap (λ (l : Table). l ++ h.0) r.1 ∙ append_assoc seen (r.0 ∷ []) h.0 in (
      r.0 ∷ h.0,
      h.1 ∙ joined,
      record {
        spelled = (let s = h.2.spelled in let l = r.2 in cc);
        opening = (r.3, h.2.opening);
        fresh = (r.4, fresh);
        limited = subst (λ (t : Table). length t ≤ 1048576) joined h.2.limited;
      },
    )

-- the row of a line that is one is added
add_row-again : (n : ℕ) (seen : Table) (p : Key × Row) → Opens p → names (keys_of seen) p.0 ≡ false
    → length (seen ++ p ∷ []) ≤ 1048576
    → add_row n seen (row_line_at (row_line p)) ≡ Ok (seen ++ p ∷ [])
add_row-again n seen p opens fresh few =
    let read : row_line_at (row_line p) ≡ Some p = row_exact.again p opens.fits in
    let free = opens.free in
    let below : eqb (length seen) 1048576 ≡ false =
    ne_eqb (length seen) 1048576 (λ e. omega (arith, length-append seen (p ∷ []))) in
    rw (read, fresh, free, below) refl

few_before : (seen : Table) (p : Key × Row) (rows : Table) → length (seen ++ p ∷ rows) ≤ 1048576
    → length (seen ++ p ∷ []) ≤ 1048576
few_before seen p rows h = omega (arith, length-append seen (p ∷ []), length-append seen (p ∷ rows))

pub rows_again : (n : ℕ) (seen rows : Table) (lines : List (List ℕ)) → AreLinesOf seen rows lines
    → over_lines state_step n seen lines ≡ Ok (seen ++ rows)
unfolding over_lines
rows_again n seen [] [] h = ap Ok (sym (append-nil seen))
rows_again n seen (r ∷ rows) [] h = absurd (let s = h.spelled in cc)
rows_again n seen rows ([] ∷ lines) h =
    rows_again (n + 1) seen rows lines
    (record { spelled = h.spelled; opening = h.opening; fresh = h.fresh; limited = h.limited })
rows_again n seen [] ((x ∷ line) ∷ lines) h = absurd (let s = h.spelled in cc)
rows_again n seen (r ∷ rows) ((x ∷ line) ∷ lines) h =
    let is : x ∷ line ≡ row_line r = (let s = h.spelled in cc) in
    let rest : filter is_filled lines ≡ map row_line rows = (let s = h.spelled in cc) in
    let some : eqb (suc (length line)) 0 ≡ false =
    ne_eqb (suc (length line)) 0 (λ z. omega arith) in
    let step : add_row n seen (row_line_at (x ∷ line)) ≡ Ok (seen ++ r ∷ []) =
    ap (λ (l : List ℕ). add_row n seen (row_line_at l)) is
    ∙ add_row-again n seen r h.opening.0 h.fresh.0 (few_before seen r rows h.limited) in
    let joined = append_assoc seen (r ∷ []) rows in
    rw (
      some,
      step,
    ) (rows_again (n + 1) (seen ++ r ∷ []) rows lines
    (record {
      spelled = rest;
      opening = h.opening.1;
      fresh = h.fresh.1;
      limited = subst (λ (t : Table). length t ≤ 1048576) (sym joined) h.limited;
    }) ∙ ap Ok joined)

-- ---- a step of the code

-- the texts of a line, in which no newline stands
pub record LacksNewlines (p : Key × Row) : Type 0 where
  pub source : has_newline p.0.source ≡ false
  pub arch : has_newline p.0.arch ≡ false
  pub extra : has_newline p.1.extra ≡ false
  pub dep_wait : has_newline p.1.dep_wait ≡ false

pub line_lacks_newlines : (line : List ℕ) (p : Key × Row) → Without 10 line
    → Some p ≡ row_line_at line → LacksNewlines p
line_lacks_newlines line p w is =
    let f = row_exact.found line p (sym is) in
    let whole : Without 10 (row_line p) = subst (λ (t : List ℕ). Without 10 t) f.0 w in
    let words : Without 10 (row_words p.1) =
    (Without-right 10 (key_text p.0) (32 ∷ row_words p.1) whole).1 in
    let numbers : Without 10
    (signed_decimal p.1.priority ++ 32 ∷ (decimal p.1.number ++ notes (p.1.extra, p.1.dep_wait))) =
    (Without-right 10 (state_word p.1.state)
    (32 ∷ (signed_decimal p.1.priority ++ 32
    ∷ (decimal p.1.number ++ notes (p.1.extra, p.1.dep_wait)))) words).1 in
    let number : Without 10 (decimal p.1.number ++ notes (p.1.extra, p.1.dep_wait)) =
    (Without-right 10 (signed_decimal p.1.priority)
    (32 ∷ (decimal p.1.number ++ notes (p.1.extra, p.1.dep_wait))) numbers).1 in
    let texts : Without 10 (notes (p.1.extra, p.1.dep_wait)) =
    Without-right 10 (decimal p.1.number) (notes (p.1.extra, p.1.dep_wait)) number in
    record {
      source = (key_lacks p.0 f.1.key).0;
      arch = (key_lacks p.0 f.1.key).1;
      extra = extra_lacks p.1.extra
          (Without-left 10 (extra_part p.1.extra) (text_part p.1.dep_wait) texts);
      dep_wait = text_lacks p.1.dep_wait
          (Without-right 10 (extra_part p.1.extra) (text_part p.1.dep_wait) texts);
    }

-- a key that a look-up finds is among the keys
pub names-contains : (t : Table) (k : Key) (b : Bool) → b ≡ is_some (lookup (same_key k) t)
    → names (keys_of t) k ≡ b
names-contains t k b is = names-row_of t k ∙ ap is_some (sym (lookup-row_of k t)) ∙ sym is

-- a line that is read, and whether its key was found
module _ (n : ℕ) (seen : Table) (line : List ℕ) (p : Key × Row) (is : Some p ≡ row_line_at line)
    (key : Key) (same : key ≡ p.0) (has : Bool) (told : has ≡ is_some (lookup (same_key key) seen))
  where
    named : names (keys_of seen) p.0 ≡ has
    named = ap (names (keys_of seen)) (sym same) ∙ names-contains seen key has told

    pub add_row-twice : has ≡ true → add_row n seen (row_line_at line) ≡ Err (Twice n)
    add_row-twice h = let old = named ∙ h in rw (← is, old) refl

    pub add_row-building : has ≡ false → is_building p.1.state ≡ true
        → add_row n seen (row_line_at line) ≡ Err (NotOpening n)
    add_row-building h b = let new = named ∙ h in rw (← is, new, b) refl

    pub add_row-many : has ≡ false → is_building p.1.state ≡ false → length seen ≡ 1048576
        → add_row n seen (row_line_at line) ≡ Err TooManyRows
    add_row-many h b many =
        let new = named ∙ h in
        let full : eqb (length seen) 1048576 ≡ true = eq-eqb (length seen) 1048576 many in
        rw (← is, new, b, full) refl

    pub add_row-ok : (row : Row) → row ≡ p.1 → has ≡ false → is_building p.1.state ≡ false
        → length seen ≢ 1048576 → add_row n seen (row_line_at line) ≡ Ok (seen ++ (key, row) ∷ [])
    add_row-ok row is_row h b few =
        let new = named ∙ h in
        let below : eqb (length seen) 1048576 ≡ false = ne_eqb (length seen) 1048576 few in
        rw (← is, new, b, below) (λ j. Ok (seen ++ (sym same j, sym is_row j) ∷ []))

-- ---- the loop over lines

pub state_step-empty : (n : ℕ) (seen : Table) (line : List ℕ) → eqb (length line) 0 ≡ true
    → state_step n seen line ≡ Ok seen
state_step-empty n seen line h = rw h refl

pub state_step-filled : (n : ℕ) (seen : Table) (line : List ℕ) → eqb (length line) 0 ≡ false
    → state_step n seen line ≡ add_row n seen (row_line_at line)
state_step-filled n seen line h = rw h refl

-- a fault at a line is that of all lines
pub Fails-over_lines : (e : StateFault) (n : ℕ) (seen : Table) (line : List ℕ)
    (after : List (List ℕ)) (total : Result Table StateFault)
    → eqb (length line) 0 ≡ false → Fails e (add_row n seen (row_line_at line))
    → over_lines state_step n seen (line ∷ after) ≡ total → Fails e total
Fails-over_lines NoMemory n seen line after total filled f h = tt
Fails-over_lines (BadLine k) n seen line after total filled f h =
    fails state_step n seen line after total (BadLine k) (state_step-filled n seen line filled ∙ f)
    h
Fails-over_lines (Twice k) n seen line after total filled f h =
    fails state_step n seen line after total (Twice k) (state_step-filled n seen line filled ∙ f) h
Fails-over_lines (NotOpening k) n seen line after total filled f h =
    fails state_step n seen line after total (NotOpening k)
    (state_step-filled n seen line filled ∙ f) h
Fails-over_lines TooManyRows n seen line after total filled f h =
    fails state_step n seen line after total TooManyRows (state_step-filled n seen line filled ∙ f)
    h

-- ---- what the whole text is

-- rows that are read are those of the lines
pub AreLinesOf-state_rows : (lines : List (List ℕ)) (rows : Table)
    → over_lines state_step 1 [] lines ≡ Ok rows → AreLinesOf [] rows lines
AreLinesOf-state_rows lines rows e =
    let h = rows_found 1 [] rows lines (omega arith) e in
    subst (λ (r : Table). AreLinesOf [] r lines) (sym h.1) h.2

-- the rows of a state file are determined
pub IsStateFile-one : (lines : List (List ℕ)) (t u : Table) → IsStateFile lines t
    → IsStateFile lines u → t ≡ u
IsStateFile-one lines t u a b =
    let same : a.rows ≡ b.rows =
    ok_is StateFault a.rows b.rows
    (sym (rows_again 1 [] a.rows lines a.written) ∙ rows_again 1 [] b.rows lines b.written) in
    table-same t u a.rising b.rising (λ k.
    a.same k ∙ ap (λ (r : Table). row_of r k) same ∙ sym (b.same k))

-- a state file isn't refused but for want of memory
pub IsStateFile-read : (lines : List (List ℕ)) (t : Table) (e : StateFault) → IsStateFile lines t
    → Fails e (over_lines state_step 1 [] lines) → e ≡ NoMemory
IsStateFile-read lines t NoMemory is f = refl
IsStateFile-read lines t (BadLine n) is f =
    absurd (let r = rows_again 1 [] is.rows lines is.written in cc)
IsStateFile-read lines t (Twice n) is f =
    absurd (let r = rows_again 1 [] is.rows lines is.written in cc)
IsStateFile-read lines t (NotOpening n) is f =
    absurd (let r = rows_again 1 [] is.rows lines is.written in cc)
IsStateFile-read lines t TooManyRows is f =
    absurd (let r = rows_again 1 [] is.rows lines is.written in cc)

-- ---- the first fault

filled-step : (n : ℕ) (seen : Table) (line : List ℕ) (e : StateFault) → state_step n seen line
    ≡ Err e → (is_filled line ≡ true) × (add_row n seen (row_line_at line) ≡ Err e)
filled-step n seen [] e h = absurd cc
filled-step n seen (x ∷ line) e h = (
  refl,
  sym (state_step-filled n seen (x ∷ line) (ne_eqb (suc (length line)) 0 (λ z. omega arith))) ∙ h,
)

-- the line with a fault, in the words of the grammar
faulty : (n : ℕ) (seen : Table) (line : List ℕ) (e : StateFault) (o : Option (Key × Row))
    → row_line_at line ≡ o → add_row n seen o ≡ Err e → IsFaulty seen n line e
faulty n seen line e None is h =
    let what : BadLine n ≡ e = cc in
    subst (λ (x : StateFault). IsFaulty seen n line x) what (
      refl,
      λ p fits spelled. (let read : row_line_at line ≡ Some p =
          ap row_line_at spelled ∙ row_exact.again p fits in
          let bad : None ≡ Some p = sym is ∙ read in cc),
    )
faulty n seen line e (Some p) is h = named (names (keys_of seen) p.0) refl h
  where
    found : (line ≡ row_line p) × RowFits p
    found = row_exact.found line p is

    many : (f : Bool) → eqb (length seen) 1048576 ≡ f → names (keys_of seen) p.0 ≡ false
        → is_building p.1.state ≡ false → cond f (Err TooManyRows) (Ok (seen ++ p ∷ [])) ≡ Err e
        → IsFaulty seen n line e
    many true full fresh free g =
        let what : TooManyRows ≡ e = cc in
        subst (λ (x : StateFault). IsFaulty seen n line x) what (
          record { row = p; spelled = found.0; fits = found.1; fresh = fresh },
          free,
          eqb-true (length seen) 1048576 full,
        )
    many false full fresh free g = absurd cc

    building : (b : Bool) → is_building p.1.state ≡ b → names (keys_of seen) p.0 ≡ false
        → cond b (Err (NotOpening n)) (cond (eqb (length seen) 1048576) (Err TooManyRows)
        (Ok (seen ++ p ∷ []))) ≡ Err e → IsFaulty seen n line e
    building true is_so fresh g =
        let what : NotOpening n ≡ e = cc in
        subst (λ (x : StateFault). IsFaulty seen n line x) what
        (refl, (record { row = p; spelled = found.0; fits = found.1; fresh = fresh }, is_so))
    building false free fresh g = many (eqb (length seen) 1048576) refl fresh free g

    named : (b : Bool) → names (keys_of seen) p.0 ≡ b
        → cond b (Err (Twice n))
        (cond (is_building p.1.state) (Err (NotOpening n)) (cond (eqb (length seen) 1048576)
        (Err TooManyRows) (Ok (seen ++ p ∷ [])))) ≡ Err e → IsFaulty seen n line e
    named true is_so g =
        let what : Twice n ≡ e = cc in
        subst (λ (x : StateFault). IsFaulty seen n line x) what
        (refl, record { row = p; spelled = found.0; fits = found.1; repeated = is_so })
    named false fresh g = building (is_building p.1.state) refl fresh g

first_of : (lines : List (List ℕ)) (e : StateFault) → over_lines state_step 1 [] lines ≡ Err e
    → IsFirstFault lines e
first_of lines e h =
    let f = first_fault state_step 1 [] lines e h in
    let step = filled-step (1 + length f.before) f.so_far f.line e f.fault in
    record {
      before = f.before;
      line = f.line;
      after = f.after;
      parts = f.parts;
      seen = f.so_far;
      fine = AreLinesOf-state_rows f.before f.so_far f.fine;
      filled = step.0;
      faulty = faulty (1 + length f.before) f.so_far f.line e (row_line_at f.line) refl step.1;
    }

-- a fault of the reading is that of the first faulty line
pub FaultOf-state_rows : (lines : List (List ℕ)) (e : StateFault)
    → Fails e (over_lines state_step 1 [] lines) → FaultOf lines e
FaultOf-state_rows lines NoMemory f = tt
FaultOf-state_rows lines (BadLine n) f = first_of lines (BadLine n) f
FaultOf-state_rows lines (Twice n) f = first_of lines (Twice n) f
FaultOf-state_rows lines (NotOpening n) f = first_of lines (NotOpening n) f
FaultOf-state_rows lines TooManyRows f = first_of lines TooManyRows f
