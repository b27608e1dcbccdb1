-- The answers to the lines so far.
use Rattle.std.proofs.Common.{◌≡◌, ℕ, ◌+◌, ◌≤◌, ◌<◌, ◌^◌, ◌-◌, List, [], ◌∷◌, length, Option, Some}
use Rattle.std.proofs.Common.{None, fold, Bor, refl, sym, ap, subst, ◌∙◌, arith, ◌++◌, append_assoc}
use Rattle.std.proofs.Common.{inl, inr}
use Rattle.std.specs.Prelude.{IfSome}
use Rattle.std.specs.String.{string_bytes}
use Rattle.std.proofs.lemmas.Grind.{fold-append}
use Rattle.atomic_table.specs.Seated.{TableId}
use Rattle.td_rows.specs.Table.{Table}
use Rattle.td_text.specs.Lines.{lines_of, lines_left, left_len}
use Rattle.td_supply.specs.Supply.{Stock}
use Rattle.td_book.specs.Desk.{BookModel, Fixed}
use Rattle.td_script.specs.declared.told.Told.{Told as ToldText}
use Rattle.td_script.specs.Ends.{IsAnswered}
use Rattle.td_core.specs.History.{History}
use Rattle.td_script.specs.Answering.{IsLeftBy}
use Rattle.td_script.specs.Replies.{Setting, answer}
use Rattle.td_script.specs.Settings.{IsLentTo}
use Rattle.td_script.proofs.Staying.{opening-stays}
use Rattle.td_script.specs.Script.{Told, begun, with_line, script, told_of, IsAdded, IsTold}
use Rattle.td_script.specs.Script.{IsAnsweredUpTo}

abbrev pub setting_of : Stock → List (List ℕ) → Option (Table → List ℕ) → Setting
setting_of stock suites report = record { stock = stock; suites = suites; report = report }

-- the history after the first lines
abbrev behind : Setting → History → List (List ℕ) → History
behind s h lines = (fold (with_line s) (begun h) lines).after

-- one line more is answered from the history after those before it
behind-next : (s : Setting) (h : History) (lines : List (List ℕ)) (line : List ℕ)
    → behind s h (lines ++ line ∷ []) ≡ (answer s (behind s h lines) line).after
behind-next s h lines line =
    ap (λ (t : Told). t.after) (fold-append (with_line s) (begun h) lines (line ∷ []))

-- the answers so far, with those to the lines that are left, are those to the whole script
pub record IsSoFar (suites : List (List ℕ)) (report : Option (Table → List ℕ)) (all : List ℕ)
    (first now : BookModel) (told : ToldText) (rest : Option (Bor (List ℕ))) : Type 0 where
  pub is : fold (with_line (setting_of first.fixed.stock suites report)) (told_of told now.history)
      (lines_left rest) ≡ script (setting_of first.fixed.stock suites report) first.history all
  pub fixed : now.fixed ≡ first.fixed
  pub opening : now.history.opening ≡ first.history.opening
  pub counted : told.refused + left_len rest ≤ length all + 1
  pub front : List (List ℕ)
  pub parted : lines_of all ≡ front ++ lines_left rest
  pub after : now.history
      ≡ behind (setting_of first.fixed.stock suites report) first.history front

pub IsSoFar-begun : (suites : List (List ℕ)) (report : Option (Table → List ℕ)) (all : Bor (List ℕ))
    (first : BookModel) (told : ToldText) → string_bytes told.text ≡ [] → told.refused ≡ 0
    → IsSoFar suites report all.now first first told (Some all)
IsSoFar-begun suites report all first told none zero_ = record {
  is =
      ap (λ (t : List ℕ). fold (with_line (setting_of first.fixed.stock suites report))
      (record { text = t; after = first.history; refused = told.refused }) (lines_of all.now)) none
      ∙ ap (λ (n : ℕ). fold (with_line (setting_of first.fixed.stock suites report))
      (record { text = []; after = first.history; refused = n }) (lines_of all.now)) zero_;
  fixed = refl;
  opening = refl;
  counted = omega (arith, zero_);
  front = [];
  parted = refl;
  after = refl;
}

pub IsSoFar-next : (suites : List (List ℕ)) (report : Option (Table → List ℕ)) (all line : List ℕ)
    (first now next : BookModel) (before after : ToldText) (rest : Bor (List ℕ))
    (more : Option (Bor (List ℕ))) → IsSoFar suites report all first now before (Some rest)
    → lines_of rest.now ≡ line ∷ lines_left more → left_len more ≤ length rest.now
    → IsAdded (setting_of now.fixed.stock suites report) line now next before after
    → IsSoFar suites report all first next after more
IsSoFar-next suites report all line first now next before after rest more h lines shorter added =
    let s = setting_of first.fixed.stock suites report in
    let one : told_of after next.history ≡ with_line s (told_of before now.history) line =
    added.is ∙ ap (λ (f : Fixed).
    with_line (setting_of f.stock suites report) (told_of before now.history) line) h.fixed in
    record {
      is = ap (λ (t : Told). fold (with_line s) t (lines_left more)) one
          ∙ ap (fold (with_line s) (told_of before now.history)) (sym lines) ∙ h.is;
      fixed = added.fixed ∙ h.fixed;
      opening = ap (λ (t : Told). t.after.opening) added.is
          ∙ opening-stays (setting_of now.fixed.stock suites report) now.history line ∙ h.opening;
      counted = omega (arith, h.counted, shorter, added.counted);
      front = h.front ++ line ∷ [];
      parted = h.parted ∙ ap (λ (l : List (List ℕ)). h.front ++ l) lines
          ∙ sym (append_assoc h.front (line ∷ []) (lines_left more));
      after = ap (λ (t : Told). t.after) one
          ∙ ap (λ (x : History). (answer s x line).after) h.after
          ∙ sym (behind-next s first.history h.front line);
    }

pub IsSoFar-done : (suites : List (List ℕ)) (report : Option (Table → List ℕ)) (all : List ℕ)
    (first now : BookModel) (told : ToldText) (rest : Option (Bor (List ℕ)))
    → IsSoFar suites report all first now told rest → rest ≡ None
    → IsTold (setting_of first.fixed.stock suites report) all first now told
IsSoFar-done suites report all first now told rest h none = record {
  is = sym (ap (λ (r : Option (Bor (List ℕ))).
      fold (with_line (setting_of first.fixed.stock suites report)) (told_of told now.history)
      (lines_left r)) none) ∙ h.is;
  fixed = h.fixed;
}

-- the lines so far are answered
pub up_to_here : (suites : List (List ℕ)) (report : Option (Table → List ℕ)) (all : List ℕ)
    (first now : BookModel) (told : ToldText) (rest : Option (Bor (List ℕ)))
    → IsSoFar suites report all first now told rest
    → IsAnsweredUpTo (setting_of first.fixed.stock suites report) all first now
up_to_here suites report all first now told rest h = record {
  front = h.front;
  behind = lines_left rest;
  lines = h.parted;
  history = h.after;
  fixed = h.fixed;
}

-- the lines so far are answered, and maybe the next one, though its answer isn't in the text
pub up_to_next : (suites : List (List ℕ)) (report : Option (Table → List ℕ)) (all line : List ℕ)
    (first now next : BookModel) (told : ToldText) (rest : Bor (List ℕ))
    (more : Option (Bor (List ℕ))) → IsSoFar suites report all first now told (Some rest)
    → lines_of rest.now ≡ line ∷ lines_left more
    → IsLeftBy (answer (setting_of now.fixed.stock suites report) now.history line) now next
    → IsAnsweredUpTo (setting_of first.fixed.stock suites report) all first next
up_to_next suites report all line first now next told rest more h lines left =
    let s = setting_of first.fixed.stock suites report in
    let fixed = left.fixed ∙ h.fixed in
    elim left.history [
      | inl same ↦ record {
        front = h.front;
        behind = lines_of rest.now;
        lines = h.parted;
        history = same ∙ h.after;
        fixed = fixed;
      }
      | inr done ↦ record {
        front = h.front ++ line ∷ [];
        behind = lines_left more;
        lines = h.parted ∙ ap (λ (l : List (List ℕ)). h.front ++ l) lines
            ∙ sym (append_assoc h.front (line ∷ []) (lines_left more));
        history = done
            ∙ ap (λ (f : Fixed). (answer (setting_of f.stock suites report) now.history line).after)
            h.fixed
            ∙ ap (λ (x : History). (answer s x line).after) h.after
            ∙ sym (behind-next s first.history h.front line);
        fixed = fixed;
      }
    ]

pub room : (suites : List (List ℕ)) (report : Option (Table → List ℕ)) (all : List ℕ)
    (first now : BookModel) (told : ToldText) (rest : Bor (List ℕ))
    → IsSoFar suites report all first now told (Some rest) → length all < 2 ^ 63 - 1
    → told.refused < 2 ^ 63
room suites report all first now told rest h small = omega (arith, h.counted, small)

-- what is lent to a book stays lent to it
pub lent_still : {R : Type 0} (Fits : R → Table → Fixed → Type 0) (board : TableId)
    (reports : Option (Bor R)) (first now : BookModel) → IsLentTo Fits board reports first
    → now.fixed ≡ first.fixed → now.history.opening ≡ first.history.opening
    → IsLentTo Fits board reports now
lent_still Fits board reports first now lent fixed opening = record {
  board = lent.board ∙ ap (λ (f : Fixed). f.table) (sym fixed);
  alone = ap (λ (f : Fixed). f.builders) fixed ∙ lent.alone;
  fits = subst (λ (f : Fixed). IfSome reports (λ r. Fits r.now now.history.opening f)) (sym fixed)
      (subst (λ (t : Table). IfSome reports (λ r. Fits r.now t first.fixed)) (sym opening)
      lent.fits);
}

-- what `tell` has of a whole script answers it
pub told_answered : (s : Setting) (lines : List ℕ) (old new : BookModel) (told : ToldText)
    → IsTold s lines old new told
    → IsAnswered s old.history lines (string_bytes told.text) told.refused
told_answered s lines old new told h = record {
  text_is = ap (λ (t : Told). t.text) h.is;
  refused_is = ap (λ (t : Told). t.refused) h.is;
}
