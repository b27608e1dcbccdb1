-- What becomes of rows over which a state file is put.
use Rattle.std.proofs.Common.{◌≡◌, ◌↔◌, ℕ, List, false, Option, Some, None, Result, Ok, Err}
use Rattle.std.proofs.Common.{IfOk, IfErr, refl, sym, ap, subst, ◌∙◌, option_map, unwrap_or}
use Rattle.std.specs.Prelude.{MatchResult}
use Rattle.td_text.specs.Lines.{lines_of}
use Rattle.td_rows.specs.declared.key.Key.{Key}
use Rattle.td_rows.specs.declared.row.Row.{Row}
use Rattle.td_rows.specs.declared.rows.OverlayError.{OverlayError}
use Rattle.td_rows.specs.declared.rows.OverlayError.TheVariants.{NoSuchRow}
use Rattle.td_rows.specs.Overlay.{first_missing, overlaid}
use Rattle.td_rows.specs.StateFile.{FaultOf, IsStateFile}
use Rattle.td_rows.specs.States.{is_building}
use Rattle.td_rows.specs.Table.{Table, row_of}
use Rattle.td_rows.specs.declared.state_file.StateFault.{StateFault}
use Rattle.td_rows.specs.declared.state_file.StateFault.TheVariants as state
use Rattle.td_rows.proofs.Tables.{row_of-each_row}
use Rattle.td_core.specs.Phases.{NoneBuilt}
use Rattle.td_core.proofs.Openings.{NoneBuilt-state_file}
use Rattle.td_inputs.specs.declared.form_fault.FormFault.TheVariants as form
use Rattle.td_inputs.specs.declared.open_fault.OpenFault.{OpenFault}
use Rattle.td_inputs.specs.declared.open_fault.OpenFault.TheVariants.{NoMemory}
use Rattle.td_inputs.specs.Opened.{OrMemory, of_form}
use Rattle.td_inputs.specs.inner.StateOver.{CanReplace, IsPutOver, IsRefusedIn, IsReplacedIn}

-- rows that no builder has, over others that none has
none_built_over : (given opened : Table) → NoneBuilt given → NoneBuilt opened
    → NoneBuilt (overlaid given opened)
none_built_over given opened g o k row h =
    here (row_of opened k) refl
    (sym (row_of-each_row (λ q r. unwrap_or (row_of given q) r) opened k) ∙ h)
  where
    chosen : (own new : Row) (r : Option Row) → row_of given k ≡ r → row_of opened k ≡ Some own
        → unwrap_or r own ≡ new → is_building new.state ≡ false
    chosen own new None is at e = subst (λ (x : Row). is_building x.state ≡ false) e (o k own at)
    chosen own new (Some r) is at e = subst (λ (x : Row). is_building x.state ≡ false) e (g k r is)

    here : (r : Option Row) → row_of opened k ≡ r
        → option_map (λ x. unwrap_or (row_of given k) x) r ≡ Some row
        → is_building row.state ≡ false
    here None at e = absurd cc
    here (Some own) at e =
        let same : unwrap_or (row_of given k) own ≡ row = cc in
        chosen own row (row_of given k) refl at same

pub missing_key : {A : Type 0} (rows given : Table) (r : Result A OverlayError) (e : OverlayError)
    → r ≡ Err e → ((k : Key) → (r ≡ Err (NoSuchRow k)) ↔ (first_missing rows given ≡ Some k))
    → (k : Key) × (first_missing rows given ≡ Some k)
missing_key rows given r (NoSuchRow k) is both = (k, (both k).0 is)

-- rows that can be put over others all have a place
missing_stops : (rows given : Table) (t : List ℕ) (k : Key) → first_missing rows given ≡ Some k
    → ((u : Table) → IsStateFile (lines_of t) u → given ≡ u) → CanReplace rows t → ⊥
missing_stops rows given t k missing same can =
    can.2 k (subst (λ g. first_missing rows g ≡ Some k) (same can.0 can.1) missing)

state_refused : (opened : Table) (text : List ℕ) (f : StateFault) → FaultOf (lines_of text) f
    → OrMemory (IsRefusedIn opened text) (of_form (form.State f))
state_refused opened text (state.BadLine n) h = h
state_refused opened text (state.Twice n) h = h
state_refused opened text (state.NotOpening n) h = h
state_refused opened text state.TooManyRows h = h
state_refused opened text state.NoMemory h = tt

-- what holds of the rows, or of the refusal
pub record IsStatePut (opened : Table) (text : List ℕ) (r : Result Table OpenFault) : Type 0 where
  pub rows : IfOk r (IsReplacedIn opened text)
  pub idle : IfOk r NoneBuilt
  pub refused : IfErr r (OrMemory (IsRefusedIn opened text))
  pub only : IfErr r (λ fault. CanReplace opened text → fault ≡ NoMemory)

pub state_put : (opened : Table) (text : List ℕ) (read : Result Table StateFault)
    (r : Result Table OpenFault) → NoneBuilt opened → IfOk read (IsStateFile (lines_of text))
    → ((t : Table) → IsStateFile (lines_of text) t
    → MatchResult read (λ rows. rows ≡ t) (λ e. e ≡ state.NoMemory))
    → IfErr read (FaultOf (lines_of text)) → IfOk read (λ given. IsPutOver opened text given r)
    → IfErr read (λ f. r ≡ Err (of_form (form.State f))) → IsStatePut opened text r
state_put opened text (Ok given) (Ok rows) idle found only fault put refused = record {
  rows = record {
    given = given;
    are_given = found;
    none_missing = put.1;
    replaced = put.0;
  };
  idle = subst NoneBuilt (sym put.0)
      (none_built_over given opened (NoneBuilt-state_file found) idle);
  refused = tt;
  only = tt;
}
state_put opened text (Ok given) (Err e) idle found only fault put refused = record {
  rows = tt;
  idle = tt;
  refused = subst (OrMemory (IsRefusedIn opened text)) (sym put.1) (given, found, put.2);
  only = λ can. absurd (missing_stops opened given text put.3.0 put.3.1 (λ u is. only u is) can);
}
state_put opened text (Err f) r idle found only fault put refused =
    subst (IsStatePut opened text) (sym refused) (record {
      rows = tt;
      idle = tt;
      refused = state_refused opened text f fault;
      only = λ can. ap (λ (y : StateFault). of_form (form.State y)) (only can.0 can.1);
    })
