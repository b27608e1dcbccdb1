-- How a session ends, layer by layer.
use Rattle.std.proofs.Common.{◌≡◌, ℕ, List, Option, Some, None, Result, Ok, Err, IsTrue}
use Rattle.std.proofs.Common.{IfErr}
use Rattle.std.proofs.Common.{refl, sym, subst}
use Rattle.std.specs.Io.KnownBytes.{Keeps}
use Rattle.td_rows.specs.Table.{Table}
use Rattle.td_indices.specs.Archive.{Contents}
use Rattle.td_inputs.specs.Inputs.{Texts}
use Rattle.td_ledger.specs.Calls.{Known}
use Rattle.td_script.specs.Replies.{Setting}
use Rattle.td_lasting.specs.Basis.{header_of}
use Rattle.td_lasting.specs.DeskView.{DeskView}
use Rattle.td_lasting.specs.Opened.{IsOpened, LosesNothing}
use Rattle.td_lasting.specs.Sessions.{IsServed}
use Rattle.td_lasting.specs.declared.serving.ServeEnd.{ServeEnd}
use Rattle.td_lasting.specs.declared.serving.ServeFault.{ServeFault}
use Rattle.td_lasting.specs.declared.serving.ServeFault.TheVariants as serve
use Rattle.td_session.specs.declared.fault.SessionFault.{SessionFault}
use Rattle.td_session.specs.declared.fault.SessionFault.TheVariants.{Input, NoMemory, Unopened}
use Rattle.td_session.specs.declared.fault.SessionFault.TheVariants.{File, Serve}
use Rattle.td_session.specs.Grounds.{IsGround}
use Rattle.td_session.specs.Sessions.{ComesFirst, Ends, EndsAt, IsTurnAt, IsTurnOver}
use Rattle.td_session.specs.Sessions.{MayRefuse}
use Rattle.td_session.specs.inner.Holding.{AreServed, end_of_served}
use Rattle.td_session.specs.inner.Judging.{IsRefusalOf, IsUngrounded}

pub keeps-same : (o : Option (List ℕ)) → Keeps o o
keeps-same None = tt
keeps-same (Some xs) = refl

-- ---- 1. the lines

module _ (header : List ℕ) (rows : Table) (s : Setting) (found : Known)
    (known left old new : Option (List ℕ)) where
  -- lines that are answered from the history that the file tells
  served_so : (desk ended : DeskView) (r : Result ServeEnd ServeFault)
      → IsOpened header rows s.stock found desk
      → (IsTrue found.honest → LosesNothing header rows found desk.device)
      → IsServed s known old new desk ended r
      → EndsAt header rows s found (Some ended.device) known left old new (end_of_served r)
  served_so desk ended (Ok end) opens keeps served = (
    ended.device,
    refl,
    record {
      opened = desk;
      ended = ended;
      opens = opens;
      keeps = keeps;
      served = served;
      last_is = refl;
    },
  )
  served_so desk ended (Err fault) opens keeps served = (
    ended.device,
    refl,
    record {
      opened = desk;
      ended = ended;
      opens = opens;
      keeps = keeps;
      served = served;
      last_is = refl;
    },
  )

  pub answered : (desk : DeskView) (last : Option Known) (end : Result ServeEnd SessionFault)
      → IsOpened header rows s.stock found desk
      → (IsTrue found.honest → LosesNothing header rows found desk.device)
      → AreServed s desk last known old new end
      → EndsAt header rows s found last known left old new end
  answered desk last end opens keeps served =
      subst (λ (l : Option Known). EndsAt header rows s found l known left old new end)
      (sym served.last_is)
      (subst (λ (e : Result ServeEnd SessionFault).
      EndsAt header rows s found (Some served.ended.device) known left old new e)
      (sym served.end_is)
      (served_so desk served.ended served.result opens keeps served.served))

-- ---- 2. the ground

module _ (header : List ℕ) (rows : Table) (s : Setting) (found : Known) (last : Option Known)
    (known left old new : Option (List ℕ)) where
  -- who has a ground isn't refused for want of one
  pub not_first : (P : Type 0) (end : Result ServeEnd SessionFault)
      → EndsAt header rows s found last known left old new end → IfErr end (λ e. ComesFirst e → P)
  not_first P (Ok end) ends = tt
  not_first P (Err (Input e)) ends = λ _. absurd ends
  not_first P (Err NoMemory) ends = λ _. absurd ends
  not_first P (Err (Unopened e)) ends = λ first. absurd first
  not_first P (Err (File e)) ends = λ first. absurd first
  not_first P (Err (Serve e)) ends = λ first. absurd first

  pub not_refused : (x : Texts) (end : Result ServeEnd SessionFault)
      → EndsAt header rows s found last known left old new end → IfErr end (MayRefuse x)
  not_refused x (Ok end) ends = tt
  not_refused x (Err (Input e)) ends = absurd ends
  not_refused x (Err NoMemory) ends = tt
  not_refused x (Err (Unopened e)) ends = tt
  not_refused x (Err (File e)) ends = tt
  not_refused x (Err (Serve e)) ends = tt

-- over what the texts say
module _ (x : Texts) (c : Contents) (rows : Table) (s : Setting) (found : Known)
    (last : Option Known) (known left old new : Option (List ℕ)) where
  with_ground : (end : Result ServeEnd SessionFault) → IsGround x c rows s
      → EndsAt (header_of c rows) rows s found last known left old new end
      → Ends x found last known left old new end
  with_ground (Ok end) ground ends = (c, rows, s, ground, ends)
  with_ground (Err (Input e)) ground ends = absurd ends
  with_ground (Err NoMemory) ground ends = absurd ends
  with_ground (Err (Unopened e)) ground ends = (c, rows, s, ground, ends)
  with_ground (Err (File e)) ground ends = (c, rows, s, ground, ends)
  with_ground (Err (Serve e)) ground ends = (c, rows, s, ground, ends)

  pub over_ground : (header : List ℕ) (end : Result ServeEnd SessionFault)
      → header ≡ header_of c rows → IsGround x c rows s
      → EndsAt header rows s found last known left old new end
      → Ends x found last known left old new end
  over_ground header end is ground ends =
      with_ground end ground
      (subst (λ (h : List ℕ). EndsAt h rows s found last known left old new end) is ends)

-- more may be read at a desk over what the texts say
pub turn_over : (x : Texts) (c : Contents) (rows : Table) (s : Setting) (found : Known)
    (known left old new : Option (List ℕ)) (header : List ℕ) → header ≡ header_of c rows
    → IsGround x c rows s → IsTurnAt header rows s found known left old new
    → IsTurnOver x found known left old new
turn_over x c rows s found known left old new header is ground turn = (
  c,
  rows,
  s,
  ground,
  subst (λ (h : List ℕ). IsTurnAt h rows s found known left old new) is turn,
)

-- ---- 3. without a ground

module _ (x : Texts) (found : Known) (known old : Option (List ℕ)) where
  refused_for : (fault : SessionFault) → IsRefusalOf x fault
      → Ends x found None known known old old (Err fault)
  refused_for (Input e) refused = (refused, refl, (keeps-same known, keeps-same old))
  refused_for NoMemory refused = (refl, (keeps-same known, keeps-same old))
  refused_for (Unopened e) refused = absurd refused
  refused_for (File e) refused = absurd refused
  refused_for (Serve e) refused = absurd refused

  -- a session whose texts are refused
  pub refused_ends : (last : Option Known) (end : Result ServeEnd SessionFault) → last ≡ None
      → IsUngrounded x end → Ends x found last known known old old end
  refused_ends last end is none =
      subst (λ (l : Option Known). Ends x found l known known old old end) (sym is)
      (subst (λ (e : Result ServeEnd SessionFault). Ends x found None known known old old e)
      (sym none.end_is) (refused_for none.fault none.refused))
