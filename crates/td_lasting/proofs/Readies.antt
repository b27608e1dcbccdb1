-- The rows that are ready, as they are told.
use Rattle.std.proofs.Common.{◌≡◌, ℕ, ◌<◌, Bool, true, false, List, [], ◌∷◌, ◌++◌, length}
use Rattle.std.proofs.Common.{append-nil}
use Rattle.std.proofs.Common.{Option, refl, sym, ap, subst, ◌∙◌, arith}
use Rattle.std.specs.Prelude.{codes, if◌then◌else◌, Result, Ok, Err, OnOk}
use Rattle.std.specs.Result.{is_ok}
use Rattle.td_rows.specs.StateWriting.{state_text}
use Rattle.td_rows.specs.Table.{Table}
use Rattle.td_supply.specs.Supply.{Stock, SupplyView}
use Rattle.td_core.specs.History.{History, rows_of}
use Rattle.td_core.specs.Offers.{supply_now}
use Rattle.td_script.specs.Replies.{Reply, Setting, refusal_line, refuses, says}
use Rattle.td_script.specs.Replying.{IsPut}
use Rattle.td_lasting.specs.DeskAnswers.{readies}
use Rattle.td_lasting.specs.DeskView.{IsShown}
use Rattle.td_lasting.specs.Ready.{by_priority, is_known, queued_on, queued_text}

readies_by : (s : Setting) (h : History) (arch : Option (List ℕ)) (stock : Stock)
    (supply : SupplyView) (is : Bool) → s.stock ≡ stock → supply ≡ supply_now stock h
    → is ≡ is_known supply.table arch
    → readies s h arch ≡ (if is then says h (queued_text (by_priority (queued_on arch (rows_of h))))
    else refuses h (codes "UnknownArch") [])
readies_by s h arch stock supply is same offers tells =
    ap (λ (b : Bool). if b then says h (queued_text (by_priority (queued_on arch (rows_of h))))
    else refuses h (codes "UnknownArch") [])
    (ap (λ (x : Stock). is_known x.table arch) same
    ∙ ap (λ (v : SupplyView). is_known v.table arch) (sym offers) ∙ sym tells)

-- an architecture that the table hasn't is refused
pub unknown_shown : (s : Setting) (h : History) (arch : Option (List ℕ)) (stock : Stock)
    (supply : SupplyView) (is : Bool) (before now : List ℕ) (refused : Bool) → s.stock ≡ stock
    → supply ≡ supply_now stock h → is ≡ is_known supply.table arch → is ≡ false
    → IsPut (refusal_line (codes "UnknownArch")) true before now refused
    → IsShown (readies s h arch) before now refused
unknown_shown s h arch stock supply is before now refused same offers tells none put =
    subst (λ (r : Reply). IsShown r before now refused)
    (sym (readies_by s h arch stock supply is same offers tells
    ∙ ap (λ (b : Bool). if b then says h (queued_text (by_priority (queued_on arch (rows_of h))))
    else refuses h (codes "UnknownArch") []) none))
    (record {
      text = put.text_is ∙ ap (λ (l : List ℕ). before ++ l)
          (sym (append-nil (refusal_line (codes "UnknownArch"))));
      refusal = put.refusal;
    })

-- the rows that are ready are told, or that there are none
pub ready_shown : (s : Setting) (h : History) (arch : Option (List ℕ)) (stock : Stock)
    (supply : SupplyView) (is : Bool) (rows told : Table) (before now : List ℕ) → s.stock ≡ stock
    → supply ≡ supply_now stock h → is ≡ is_known supply.table arch → is ≡ true
    → rows ≡ rows_of h → told ≡ by_priority (queued_on arch rows)
    → now ≡ before ++ queued_text told → IsShown (readies s h arch) before now false
ready_shown s h arch stock supply is rows told before now same offers tells known rows_are ready
    put =
    subst (λ (r : Reply). IsShown r before now false)
    (sym (readies_by s h arch stock supply is same offers tells
    ∙ ap (λ (b : Bool). if b then says h (queued_text (by_priority (queued_on arch (rows_of h))))
    else refuses h (codes "UnknownArch") []) known))
    (record {
      text = put ∙ ap (λ (t : Table). before ++ queued_text t)
          (ready ∙ ap (λ (t : Table). by_priority (queued_on arch t)) rows_are);
      refusal = refl;
    })

-- ---- as they are written

pub none_queued : (t : Table) (numbers : List ℕ) → length t ≡ length numbers → length numbers ≡ 0
    → queued_text t ≡ codes "nothing to build\n"
none_queued [] numbers each none = refl
none_queued (p ∷ t) numbers each none = absurd (omega arith)

pub some_queued : (t : Table) (numbers : List ℕ) → length t ≡ length numbers → 0 < length numbers
    → queued_text t ≡ state_text t
some_queued [] numbers each some = absurd (omega arith)
some_queued (p ∷ t) numbers each some = refl

pub pushed_ok : {E : Type 0} (before now text : List ℕ) (put : Result (Unit {0}) E)
    → now ≡ (if is_ok put then before ++ text else before) → OnOk put (now ≡ before ++ text)
pushed_ok before now text (Ok u) is = is
pushed_ok before now text (Err e) is = tt
