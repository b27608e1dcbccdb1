-- What a clerk with builders says is what a book of the desk answers, in the words of scripts.
use Rattle.std.proofs.Common.{◌≡◌, ℕ, Bool, true, false, List, [], ◌∷◌, ◌++◌, Option, Some}
use Rattle.std.proofs.Common.{None, Result, Ok, Err, refl, sym, ap, ◌∙◌, append-nil}
use Rattle.std.proofs.Common.{subst}
use Rattle.std.specs.declared.alloc.AllocError.{AllocError}
use Rattle.std.specs.Prelude.{IfOk, IsOkAnd, MatchOption, OnErr, OnOk, codes, decimal, string_bytes}
use Rattle.std.specs.List.{flat_map}
use Rattle.atomic_table.specs.Seated.{TableId}
use Rattle.td_rows.specs.declared.key.Key.{Key}
use Rattle.td_rows.specs.declared.kind.Kind.{Kind}
use Rattle.td_rows.specs.declared.kind.Kind.TheVariants as kinds
use Rattle.td_rows.specs.StateWord.{state_word}
use Rattle.td_rows.specs.Table.{Table}
use Rattle.td_journal.specs.declared.entry.Mark.{Mark}
use Rattle.td_core.specs.History.{History}
use Rattle.td_wbread.specs.declared.fault.CommandFault.{CommandFault}
use Rattle.td_wbread.specs.declared.fault.CommandFault.TheVariants.{Wrong}
use Rattle.td_wbread.specs.declared.fault.LineFault.{LineFault}
use Rattle.td_wbread.specs.FaultNames.{name_of}
use Rattle.td_wbread.specs.Faults.{IsFaultOf}
use Rattle.td_wbread.specs.Command.{CommandParts, command_at}
use Rattle.td_wbread.specs.Kinds.{kind_of}
use Rattle.td_book.specs.declared.arriving.ArriveRefusal.{ArriveRefusal}
use Rattle.td_book.specs.declared.arriving.ArriveRefusal.TheVariants as arrivals
use Rattle.td_book.specs.declared.commanding.CommandRefusal.{CommandRefusal}
use Rattle.td_book.specs.declared.commanding.CommandRefusal.TheVariants as commands
use Rattle.td_book.specs.declared.commanding.Taken.{Taken}
use Rattle.td_book.specs.declared.undoing.UndoRefusal.{UndoRefusal}
use Rattle.td_book.specs.declared.undoing.UndoRefusal.TheVariants as undos
use Rattle.td_book.specs.Commands.{named_by}
use Rattle.td_book.specs.Desk.{BookModel}
use Rattle.td_desk.specs.declared.receipt.Receipt.{Receipt}
use Rattle.td_desk.specs.declared.receipt.Receipt.TheVariants.{Made, Swept, Undid}
use Rattle.td_desk.specs.Calls.{Arriving, Commanding, IsMetBy, Sweeping, Undoing, arrival_receipt}
use Rattle.td_desk.specs.Calls.{command_receipt, without}
use Rattle.td_desk.specs.Clerks.{ClerkModel, with_receipt}
use Rattle.td_desk.specs.Names.{Origin}
use Rattle.td_script.specs.declared.request.Request.{Request}
use Rattle.td_script.specs.declared.request.Request.TheVariants as requests
use Rattle.td_script.specs.declared.line.Said.{Said}
use Rattle.td_script.specs.declared.line.Said.TheVariants.{Skipped, Asked, Bad, Typed}
use Rattle.td_script.specs.Reading.{said_at}
use Rattle.td_script.specs.Replies.{Reply, Setting, ended, entry_made, refusal_line, skip_line}
use Rattle.td_script.specs.Replies.{undo_name}
use Rattle.td_script.specs.Answering.{Answers}
use Rattle.td_script.specs.Replying.{IsArrivalRefused, IsCommandRefused, IsPut, IsUndoPut}
use Rattle.td_crew.specs.declared.shown.Shown.{Shown}
use Rattle.td_crew.specs.declared.shown.View.{View}
use Rattle.td_crew.specs.Replies.{DeskReply, IsArrivalTold, IsCommandTold, IsOfSweep, IsOfUndo}
use Rattle.td_crew.specs.Replies.{IsSaid, IsShown, MayAnswer, MayArrive}
use Rattle.td_crew.specs.Replies.{MayCommand, MayReply, MaySay, MayShow, MaySweep}
use Rattle.td_crew.specs.Replies.{MayType, MayUndo, Says}
use Rattle.td_crew.specs.Replies.{declines, keys_at, makes, shown_by, tells}
use Rattle.td_crew.specs.CrewText.{AreTold, Told, with_reply}

-- ---- 1. what is put

-- the clerk says a refusal, and gets no receipt
said_refused : (name before now : List ℕ) (old new : List Receipt) (refused : Bool)
    → IsPut (refusal_line name) true before now refused → new ≡ old
    → IsSaid (declines name []) before now old new refused
said_refused name before now old new refused put same = record {
  text_is = put.text_is ∙ ap (λ (l : List ℕ). before ++ l) (sym (append-nil (refusal_line name)));
  receipts_are = same ∙ sym (append-nil old);
  refusal = put.refusal;
}

-- the clerk says the line of an entry, and gets its receipt
made_said : (n : ℕ) (keys : List Key) (behind before now : List ℕ) (receipt : Receipt)
    (old new : ClerkModel) (refused : Bool)
    → IsPut (entry_made n keys ++ behind) false before now refused
    → new ≡ with_receipt receipt old
    → IsSaid (makes n keys behind receipt) before now old.receipts new.receipts refused
made_said n keys behind before now receipt old new refused put got = record {
  text_is = put.text_is;
  receipts_are = ap (λ (c : ClerkModel). c.receipts) got;
  refusal = put.refusal;
}

-- what holds of a value that was taken out of an answer holds of the answer
pub taken_out : {A : Type 0} (P : A → Type 0) (told answer : Result A AllocError) (a : A)
    → answer ≡ told → answer ≡ Ok a → P a → IsOkAnd told P
taken_out P told answer a taken is holds = subst (λ r. IsOkAnd r P) (sym is ∙ taken) holds

-- ---- 2. calls

-- an undo is refused by a book
undo_refused : (Of : BookModel → Type 0) (n : ℕ) (e : UndoRefusal) (before now : List ℕ)
    (old new : ClerkModel) (refused : Bool) → Undoing n Of (Err e)
    → IsOfUndo n (Err e) (declines (undo_name e) []) → new ≡ old
    → IsPut (refusal_line (undo_name e)) true before now refused
    → Says (MayUndo Of n) before now old.receipts new.receipts refused
undo_refused Of n e before now old new refused a of same put = (
  declines (undo_name e) [],
  (a.0, a.1, Err e, a.2, a.3, of),
  said_refused (undo_name e) before now old.receipts new.receipts refused put
      (ap (λ (c : ClerkModel). c.receipts) same),
)

-- what a clerk says to an undo
pub undo_said : (Of : BookModel → Type 0) (n : ℕ)
    (answer : Result (Unit {0}) UndoRefusal) (before now : List ℕ) (old new : ClerkModel)
    (refused : Bool) → Undoing n Of answer
    → OnOk answer (new ≡ with_receipt (Undid n) old) → OnErr answer (new ≡ old)
    → IsUndoPut n answer before now refused
    → Says (MayUndo Of n) before now old.receipts new.receipts refused
undo_said Of n (Ok u) before now old new refused its ok err put = (
  record {
    text = ended (codes "undone " ++ decimal n);
    refused = false;
    receipts = Undid n ∷ [];
  },
  (its.0, its.1, Ok u, its.2, its.3, refl),
  record {
    text_is = put.text_is;
    receipts_are = ap (λ (c : ClerkModel). c.receipts) ok;
    refusal = put.refusal;
  },
)
undo_said Of n (Err undos.NoMemory) before now old new refused a ok err put = absurd put
undo_said Of n (Err undos.NoSuchEntry) before now old new refused a ok err put =
    undo_refused Of n undos.NoSuchEntry before now old new refused
    a refl err put
undo_said Of n (Err undos.NotACommand) before now old new refused a ok err put =
    undo_refused Of n undos.NotACommand before now old new refused
    a refl err put
undo_said Of n (Err undos.AlreadyUndone) before now old new refused a ok err put =
    undo_refused Of n undos.AlreadyUndone before now old new refused
    a refl err put
undo_said Of n (Err (undos.Blocked m)) before now old new refused a ok err put =
    undo_refused Of n (undos.Blocked m) before now old new refused
    a refl err put

-- an undo takes none of the clerk's parts
pub parts_undone : (n : ℕ) (answer : Result (Unit {0}) UndoRefusal) (old new : ClerkModel)
    → OnOk answer (new ≡ with_receipt (Undid n) old) → OnErr answer (new ≡ old)
    → new.parts ≡ old.parts
parts_undone n (Ok u) old new ok err = ap (λ (c : ClerkModel). c.parts) ok
parts_undone n (Err e) old new ok err = ap (λ (c : ClerkModel). c.parts) err

-- what a clerk says to an arrival that is entered
arrival_made : (Of : BookModel → Type 0) (k : Key) (n : ℕ) (keys : List Key)
    (before now : List ℕ) (old new : ClerkModel) (refused : Bool)
    → Arriving k Of (Ok n)
    → new ≡ with_receipt (arrival_receipt k n) old → keys ≡ k ∷ []
    → IsPut (entry_made n keys) false before now refused
    → Says (MayArrive Of k) before now old.receipts new.receipts refused
arrival_made Of k n keys before now old new refused its got own put =
    let line = ap (λ (ks : List Key). entry_made n ks) own
    ∙ sym (append-nil (entry_made n (k ∷ []))) in (
      makes n (k ∷ []) [] (arrival_receipt k n),
      (its.0, its.1, Ok n, its.2, its.3, refl),
      made_said n (k ∷ []) [] before now (arrival_receipt k n) old new refused
          (subst (λ (l : List ℕ). IsPut l false before now refused) line put) got,
    )

-- an arrival takes none of the clerk's parts
pub parts_arrived : (k : Key) (answer : Result ℕ ArriveRefusal) (old new : ClerkModel)
    → IfOk answer (λ n. new ≡ with_receipt (arrival_receipt k n) old)
    → OnErr answer (new ≡ old) → new.parts ≡ old.parts
parts_arrived k (Ok n) old new ok err = ap (λ (c : ClerkModel). c.parts) ok
parts_arrived k (Err e) old new ok err = ap (λ (c : ClerkModel). c.parts) err

-- what a clerk says to an arrival that is refused
arrival_refused : (Of : BookModel → Type 0) (k : Key) (e : ArriveRefusal)
    (before now : List ℕ) (old new : ClerkModel) (refused : Bool)
    → Arriving k Of (Err e)
    → new ≡ old → IsArrivalRefused e before now refused
    → Says (MayArrive Of k) before now old.receipts new.receipts refused
arrival_refused Of k arrivals.NoSuchRow before now old new refused its same put = (
  declines (codes "NoSuchRow") [],
  (its.0, its.1, Err arrivals.NoSuchRow, its.2, its.3, refl),
  said_refused (codes "NoSuchRow") before now old.receipts new.receipts refused put
      (ap (λ (c : ClerkModel). c.receipts) same),
)
arrival_refused Of k (arrivals.DoesNotApply s) before now old new refused its same put = (
  declines (codes "DoesNotApply " ++ state_word s) [],
  (its.0, its.1, Err (arrivals.DoesNotApply s), its.2, its.3, refl),
  said_refused (codes "DoesNotApply " ++ state_word s) before now old.receipts new.receipts
      refused put (ap (λ (c : ClerkModel). c.receipts) same),
)
arrival_refused Of k arrivals.NoMemory before now old new refused a same put = absurd put

-- what a clerk says to an arrival
pub arrival_said : (Of : BookModel → Type 0) (k : Key) (answer : Result ℕ ArriveRefusal)
    (keys : List Key) (before now : List ℕ) (old new : ClerkModel) (refused : Bool)
    → Arriving k Of answer → IfOk answer (λ n. new ≡ with_receipt (arrival_receipt k n) old)
    → OnErr answer (new ≡ old)
    → ((front : List Receipt) (n : ℕ) (kind : Kind) (own : List Key)
    → new.receipts ≡ front ++ Made n kind own ∷ [] → keys ≡ own)
    → IsArrivalTold answer keys before now refused
    → Says (MayArrive Of k) before now old.receipts new.receipts refused
arrival_said Of k (Ok n) keys before now old new refused its ok err own put =
    arrival_made Of k n keys before now old new refused its ok
    (own old.receipts n kinds.Arrive (k ∷ []) (ap (λ (c : ClerkModel). c.receipts) ok)) put
arrival_said Of k (Err e) keys before now old new refused its ok err own put =
    arrival_refused Of k e before now old new refused its err put

-- what a clerk says to a sweep that finds something: it has the receipt when the entry is seen
sweep_made : (Of : ℕ → List Receipt → BookModel → Type 0) (n : ℕ) (b : BookModel)
    (before now : List ℕ) (old mid new : ClerkModel) (refused : Bool)
    → Sweeping (Of old.parts old.receipts) (Ok (Some n)) → Of mid.parts mid.receipts b
    → mid ≡ with_receipt (Swept n) old → new ≡ mid
    → IsPut (entry_made n (keys_at b.history.journal n)) false before now refused
    → Says (MaySweep (Of old.parts) old.receipts) before now old.receipts new.receipts refused
sweep_made Of n b before now old mid new refused a of got still put =
    let keys = keys_at b.history.journal n in (
      makes n keys [] (Swept n),
      (
        a.0,
        a.1,
        Some n,
        a.2,
        a.3,
        (b, subst (λ (c : ClerkModel). Of c.parts c.receipts b) got of, refl),
      ),
      made_said n keys [] before now (Swept n) old new refused
          (subst (λ (l : List ℕ). IsPut l false before now refused)
          (sym (append-nil (entry_made n keys))) put) (still ∙ got),
    )

-- what a clerk says to a sweep whose entry is seen
pub sweep_seen : {S : Type 0} (bytes : S → List ℕ) (Of : ℕ → List Receipt → BookModel → Type 0)
    (n : ℕ) (answer : Result (Option ℕ) AllocError) (seen : Result S AllocError)
    (before now : List ℕ) (old mid new : ClerkModel) (refused : Bool)
    → answer ≡ Ok (Some n) → Sweeping (Of old.parts old.receipts) answer
    → IfOk answer (λ swept. MatchOption swept (mid ≡ old) (λ m. mid ≡ with_receipt (Swept m) old))
    → ((b : BookModel) × Of mid.parts mid.receipts b
    × IfOk seen (λ text. bytes text ≡ entry_made n (keys_at b.history.journal n)))
    → new ≡ mid → IsOkAnd seen (λ text. IsPut (bytes text) false before now refused)
    → Says (MaySweep (Of old.parts) old.receipts) before now old.receipts new.receipts refused
sweep_seen bytes Of n answer (Err e) before now old mid new refused is its ok looked still put =
    absurd put
sweep_seen bytes Of n answer (Ok text) before now old mid new refused is its ok looked still put =
    let told = subst (λ (r : Result (Option ℕ) AllocError). Sweeping (Of old.parts old.receipts) r)
    is its in
    let got = subst (λ (r : Result (Option ℕ) AllocError). IfOk r (λ swept.
    MatchOption swept (mid ≡ old) (λ m. mid ≡ with_receipt (Swept m) old))) is ok in
    sweep_made Of n looked.0 before now old mid new refused told looked.1 got still
    (subst (λ (l : List ℕ). IsPut l false before now refused) looked.2 put)

-- a sweep takes none of the clerk's parts
pub parts_swept : (answer : Result (Option ℕ) AllocError) (old new : ClerkModel)
    → IfOk answer (λ swept. MatchOption swept
    (new ≡ old)
    (λ n. new ≡ with_receipt (Swept n) old))
    → OnErr answer (new ≡ old) → new.parts ≡ old.parts
parts_swept (Ok None) old new ok err = ap (λ (c : ClerkModel). c.parts) ok
parts_swept (Ok (Some n)) old new ok err = ap (λ (c : ClerkModel). c.parts) ok
parts_swept (Err e) old new ok err = ap (λ (c : ClerkModel). c.parts) err

-- what a clerk says to a sweep that finds nothing
sweep_none : (Of : List Receipt → BookModel → Type 0)
    (answer : Result (Option ℕ) AllocError) (before now : List ℕ)
    (old new : ClerkModel) (refused : Bool) → answer ≡ Ok None → Sweeping (Of old.receipts) answer
    → IfOk answer (λ swept. MatchOption swept (new ≡ old) (λ m. new ≡ with_receipt (Swept m) old))
    → IsPut (ended (codes "nothing to sweep")) false before now refused
    → Says (MaySweep Of old.receipts) before now old.receipts new.receipts refused
sweep_none Of answer before now old new refused is its ok put =
    let a = subst (λ (r : Result (Option ℕ) AllocError). Sweeping (Of old.receipts) r) is its in
    let same = subst (λ (r : Result (Option ℕ) AllocError). IfOk r (λ swept.
    MatchOption swept (new ≡ old) (λ m. new ≡ with_receipt (Swept m) old))) is ok in (
      tells (ended (codes "nothing to sweep")),
      (a.0, a.1, None, a.2, a.3, refl),
      record {
        text_is = put.text_is;
        receipts_are = ap (λ (c : ClerkModel). c.receipts) same ∙ sym (append-nil old.receipts);
        refusal = put.refusal;
      },
    )

-- what a clerk says to a sweep that finds nothing, unless memory runs out
pub sweep_unmade : (Of : List Receipt → BookModel → Type 0)
    (answer : Result (Option ℕ) AllocError) (r : Result Bool AllocError) (before now : List ℕ)
    (old new : ClerkModel) → OnOk r (answer ≡ Ok None) → Sweeping (Of old.receipts) answer
    → IfOk answer (λ swept. MatchOption swept (new ≡ old) (λ m. new ≡ with_receipt (Swept m) old))
    → IfOk r (IsPut (ended (codes "nothing to sweep")) false before now)
    → IfOk r (Says (MaySweep Of old.receipts) before now old.receipts new.receipts)
sweep_unmade Of answer (Ok refused) before now old new is its ok put =
    sweep_none Of answer before now old new refused is its ok put
sweep_unmade Of answer (Err e) before now old new is its ok put = tt

-- what a clerk says to a command that is entered: the keys are those of its receipt
command_made : (Of : BookModel → Type 0) (c : CommandParts) (t : Taken)
    (keys : List Key) (before now : List ℕ) (old new : ClerkModel) (refused : Bool)
    → Commanding c Of old new (Ok t)
    → ((front : List Receipt) (n : ℕ) (kind : Kind) (own : List Key)
    → new.receipts ≡ front ++ Made n kind own ∷ [] → keys ≡ own)
    → IsPut (entry_made t.number keys ++ flat_map skip_line t.skips) false before now refused
    → Says (MayCommand Of c) before now old.receipts new.receipts refused
command_made Of c t keys before now old new refused its own put =
    let kept = without (named_by c its.0) t.skips in
    let same = own old.receipts t.number (kind_of c) kept
    (ap (λ (x : ClerkModel). x.receipts) its.4) in (
      makes t.number kept (flat_map skip_line t.skips) (command_receipt c its.0 t),
      (its.0, its.1, Ok t, its.2, its.3, refl),
      made_said t.number kept (flat_map skip_line t.skips) before now
          (command_receipt c its.0 t) old new refused
          (subst (λ (ks : List Key).
          IsPut (entry_made t.number ks ++ flat_map skip_line t.skips) false before now refused)
          same put) its.4,
    )

-- a command takes none of the clerk's parts
pub parts_commanded : (table : TableId) (origin : Origin) (opened : List Mark) (parts : ℕ)
    (had : List Receipt) (c : CommandParts) (answer : Result Taken CommandRefusal)
    (old new : ClerkModel) → Commanding c (IsMetBy table origin opened parts had) old new answer
    → OnErr answer (new ≡ old) → new.parts ≡ old.parts
parts_commanded table origin opened parts had c (Ok t) old new its err =
    ap (λ (x : ClerkModel). x.parts) its.4
parts_commanded table origin opened parts had c (Err e) old new its err =
    ap (λ (x : ClerkModel). x.parts) err

-- what a clerk says to a command that is refused
command_refused : (Of : BookModel → Type 0) (c : CommandParts) (e : CommandRefusal)
    (before now : List ℕ) (old new : ClerkModel) (refused : Bool)
    → Commanding c Of old new (Err e) → new ≡ old → IsCommandRefused e before now refused
    → Says (MayCommand Of c) before now old.receipts new.receipts refused
command_refused Of c (commands.NothingApplies skips) before now old new refused its same put = (
  declines (codes "NothingApplies") (flat_map skip_line skips),
  (its.0, its.1, Err (commands.NothingApplies skips), its.2, its.3, refl),
  record {
    text_is = put.text_is;
    receipts_are = ap (λ (x : ClerkModel). x.receipts) same ∙ sym (append-nil old.receipts);
    refusal = put.refusal;
  },
)
command_refused Of c commands.NoMemory before now old new refused a same put = absurd put

-- what a clerk says to a command
pub command_said : (Of : BookModel → Type 0) (c : CommandParts)
    (answer : Result Taken CommandRefusal) (keys : List Key) (before now : List ℕ)
    (old new : ClerkModel) (refused : Bool) → Commanding c Of old new answer
    → OnErr answer (new ≡ old)
    → ((front : List Receipt) (n : ℕ) (kind : Kind) (own : List Key)
    → new.receipts ≡ front ++ Made n kind own ∷ [] → keys ≡ own)
    → IsCommandTold answer keys before now refused
    → Says (MayCommand Of c) before now old.receipts new.receipts refused
command_said Of c (Ok t) keys before now old new refused its err own put =
    command_made Of c t keys before now old new refused its own put
command_said Of c (Err e) keys before now old new refused its err own put =
    command_refused Of c e before now old new refused its err put

-- what a clerk says to what changes nothing
pub shown_said : (Of : BookModel → Type 0) (reply : History → Reply)
    (answer : Result Shown AllocError) (before now : List ℕ) (receipts : List Receipt)
    (refused : Bool) → ((b : BookModel) × Of b × IfOk answer (IsShown (reply b.history)))
    → IsOkAnd answer (λ shown. (now ≡ before ++ string_bytes shown.text)
    × (refused ≡ shown.refused))
    → Says (MayShow Of reply) before now receipts receipts refused
shown_said Of reply (Err e) before now receipts refused seen put = absurd put
shown_said Of reply (Ok shown) before now receipts refused seen put =
    let b = seen.0 in (
      record {
        text = (reply b.history).text;
        refused = (reply b.history).refused;
        receipts = [];
      },
      (b, seen.1, refl),
      record {
        text_is = put.0 ∙ ap (λ (l : List ℕ). before ++ l) seen.2.0;
        receipts_are = sym (append-nil receipts);
        refusal = put.1 ∙ seen.2.1;
      },
    )

-- what is put of a view is put of an equal one
pub viewed : (report : Option (Table → List ℕ)) (b : BookModel) (view own : View)
    (r : Result Bool AllocError) (before now : List ℕ) → view ≡ own
    → IfOk r (Answers (shown_by report b.history own) b b before now)
    → IfOk r (Answers (shown_by report b.history view) b b before now)
viewed report b view own r before now is put =
    subst (λ (v : View). IfOk r (Answers (shown_by report b.history v) b b before now)) (sym is) put

-- an answer to a request is one to an equal request
pub asked_for : (Of : List Receipt → BookModel → Type 0) (s : Setting) (q request : Request)
    (r : Result Bool AllocError) (before now : List ℕ) (old new : ClerkModel) → request ≡ q
    → new ≡ old
    → IfOk r (Says (MayAnswer Of s old.receipts q) before now old.receipts old.receipts)
    → IfOk r (Says (MayAnswer Of s old.receipts request) before now old.receipts new.receipts)
asked_for Of s q request r before now old new is same said =
    subst (λ (c : ClerkModel).
    IfOk r (Says (MayAnswer Of s old.receipts request) before now old.receipts c.receipts))
    (sym same)
    (subst (λ (x : Request).
    IfOk r (Says (MayAnswer Of s old.receipts x) before now old.receipts old.receipts)) (sym is)
    said)

pub refusal_said : (May : DeskReply → Type 0) (name before now : List ℕ) (receipts : List Receipt)
    → May (declines name []) → now ≡ before ++ refusal_line name
    → Says May before now receipts receipts true
refusal_said May name before now receipts may put = (
  declines name [],
  may,
  said_refused name before now receipts receipts true (record { text_is = put; refusal = refl })
      refl,
)

-- what a clerk says to a line that is typed and has a fault
pub fault_said : (Of : BookModel → Type 0) (read : Result CommandParts CommandFault)
    (e : CommandFault) (what : LineFault) (place : ℕ) (before now : List ℕ)
    (receipts : List Receipt) → IsFaultOf read e → e ≡ Wrong what place
    → now ≡ before ++ refusal_line (name_of what)
    → Says (MayType Of read) before now receipts receipts true
fault_said Of read e what place before now receipts is same put =
    subst (λ (k : Result CommandParts CommandFault).
    Says (MayType Of k) before now receipts receipts true) (sym (subst (IsFaultOf read) same is))
    (refusal_said (MayType Of (Err (Wrong what place))) (name_of what) before now receipts refl put)

-- what a clerk says to a line that says nothing
pub skipped_said : (Of : List Receipt → BookModel → Type 0) (s : Setting) (line text : List ℕ)
    (receipts : List Receipt) (said : Said) → said ≡ said_at line → said ≡ Skipped
    → Says (MayReply Of s receipts line) text text receipts receipts false
skipped_said Of s line text receipts said at is = (
  tells [],
  subst (λ (w : Said). MaySay Of s receipts line w (tells [])) (sym is ∙ at) refl,
  record {
    text_is = sym (append-nil text);
    receipts_are = sym (append-nil receipts);
    refusal = refl;
  },
)

-- what a clerk says to a line that can't be read
pub bad_said : (Of : List Receipt → BookModel → Type 0) (s : Setting) (line before now : List ℕ)
    (receipts : List Receipt) (said : Said) → said ≡ said_at line → said ≡ Bad
    → now ≡ before ++ refusal_line (codes "BadLine")
    → Says (MayReply Of s receipts line) before now receipts receipts true
bad_said Of s line before now receipts said at is put =
    refusal_said (MayReply Of s receipts line) (codes "BadLine") before now receipts
    (subst (λ (w : Said). MaySay Of s receipts line w (declines (codes "BadLine") []))
    (sym is ∙ at) refl)
    put

-- ---- 3. from some books to others

swept_more : (Of Also : ℕ → BookModel → Type 0) → ((n : ℕ) (b : BookModel) → Of n b → Also n b)
    → (swept : Option ℕ) (r : DeskReply) → IsOfSweep Of swept r → IsOfSweep Also swept r
swept_more Of Also f None r m = m
swept_more Of Also f (Some n) r m = (m.0, f n m.0 m.1, m.2)

answer_more : (Of Also : List Receipt → BookModel → Type 0)
    → ((had : List Receipt) (b : BookModel) → Of had b → Also had b) → (s : Setting)
    (had : List Receipt) (q : Request) (r : DeskReply) → MayAnswer Of s had q r
    → MayAnswer Also s had q r
answer_more Of Also f s had (requests.Undo n) r m = (m.0, m.1, m.2, f had m.0 m.3, m.4, m.5)
answer_more Of Also f s had (requests.Arrive k) r m = (m.0, m.1, m.2, f had m.0 m.3, m.4, m.5)
answer_more Of Also f s had requests.Sweep r m =
    let behind = λ (n : ℕ). had ++ Swept n ∷ [] in (
      m.0,
      m.1,
      m.2,
      f had m.0 m.3,
      m.4,
      swept_more (λ n. Of (behind n)) (λ n. Also (behind n)) (λ n. f (behind n)) m.2 r m.5,
    )
answer_more Of Also f s had (requests.Row k) r m = (m.0, f had m.0 m.1, m.2)
answer_more Of Also f s had (requests.Entry n) r m = (m.0, f had m.0 m.1, m.2)
answer_more Of Also f s had requests.Report r m = (m.0, f had m.0 m.1, m.2)
answer_more Of Also f s had requests.Journal r m = (m.0, f had m.0 m.1, m.2)

type_more : (Of Also : BookModel → Type 0) → ((b : BookModel) → Of b → Also b)
    → (c : Result CommandParts CommandFault) (r : DeskReply) → MayType Of c r → MayType Also c r
type_more Of Also f (Ok c) r m = (m.0, m.1, m.2, f m.0 m.3, m.4, m.5)
type_more Of Also f (Err e) r m = m

say_more : (Of Also : List Receipt → BookModel → Type 0)
    → ((had : List Receipt) (b : BookModel) → Of had b → Also had b) → (s : Setting)
    (had : List Receipt) (line : List ℕ) (said : Said) (r : DeskReply)
    → MaySay Of s had line said r → MaySay Also s had line said r
say_more Of Also f s had line Skipped r m = m
say_more Of Also f s had line (Asked q) r m = answer_more Of Also f s had q r m
say_more Of Also f s had line Bad r m = m
say_more Of Also f s had line Typed r m =
    type_more (Of had) (Also had) (f had) (command_at s.stock.table s.suites line) r m

-- lines that are answered over some books are answered over more books
pub told_more : (Of Also : List Receipt → BookModel → Type 0)
    → ((had : List Receipt) (b : BookModel) → Of had b → Also had b) → (s : Setting)
    (lines : List (List ℕ)) (t last : Told) → AreTold (MayReply Of s) lines t last
    → AreTold (MayReply Also s) lines t last
told_more Of Also f s [] t last m = m
told_more Of Also f s (line ∷ lines) t last m = (
  m.0,
  say_more Of Also f s t.receipts line (said_at line) m.0 m.1,
  told_more Of Also f s lines (with_reply t m.0) last m.2,
)
