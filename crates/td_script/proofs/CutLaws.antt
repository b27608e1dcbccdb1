-- The answers to a script are those to its parts.
use Rattle.std.proofs.Common.{◌≡◌, ℕ, ◌+◌, List, [], ◌∷◌, ◌++◌, fold, Some, refl, sym, ap, ap₂, ◌∙◌}
use Rattle.std.proofs.Common.{arith, if◌then◌else◌}
use Rattle.std.proofs.lemmas.List.{append-nil, append_assoc}
use Rattle.std.proofs.lemmas.List.Sums.{fold-append}
use Rattle.td_text.specs.Lines.{lines_of}
use Rattle.td_text.proofs.CutLines.{lines_of-cut}
use Rattle.td_journal.proofs.JournalFiles.{texts_are_one}
use Rattle.td_core.specs.History.{History, history_of}
use Rattle.td_book.specs.Reopening.{given_back, with_entries}
use Rattle.td_script.specs.Openings.{IsBegun}
use Rattle.td_script.specs.Replies.{Reply, Setting, answer}
use Rattle.td_script.specs.Script.{Told, begun, script, with_line}
use Rattle.td_script.specs.Cutting.{CutScriptsTellTheSame, IsLeftAs, joined}

-- ---- 1. answers after earlier answers

one_more : (s : Setting) (t u : Told) (line : List ℕ)
    → with_line s (joined t u) line ≡ joined t (with_line s u line)
one_more s t u line =
    let r : Reply = answer s u.after line in
    let n : ℕ = if r.refused then 1 else 0 in
    let same : t.refused + u.refused + n ≡ t.refused + (u.refused + n) = omega arith in
    ap₂ (λ (x : List ℕ) (k : ℕ).
    (let y : Told = record { text = x; after = r.after; refused = k } in y))
    (append_assoc t.text u.text r.text) same

all_more : (s : Setting) (t u : Told) (lines : List (List ℕ))
    → fold (with_line s) (joined t u) lines ≡ joined t (fold (with_line s) u lines)
all_more s t u [] = refl
all_more s t u (l ∷ ls) =
    ap (λ (v : Told). fold (with_line s) v ls) (one_more s t u l)
    ∙ all_more s t (with_line s u l) ls

none_yet : (t : Told) → joined t (begun t.after) ≡ t
none_yet t =
    let same : t.refused + 0 ≡ t.refused = omega arith in
    ap₂ (λ (x : List ℕ) (k : ℕ).
    (let y : Told = record { text = x; after = t.after; refused = k } in y))
    (append-nil t.text) same

script-cut : (s : Setting) (h : History) (a b : List ℕ)
    → script s h (a ++ 10 ∷ b) ≡ joined (script s h a) (script s (script s h a).after b)
script-cut s h a b =
    let t : Told = script s h a in
    ap (fold (with_line s) (begun h)) (lines_of-cut a b)
    ∙ fold-append (with_line s) (begun h) (lines_of a) (lines_of b)
    ∙ ap (λ (v : Told). fold (with_line s) v (lines_of b)) (sym (none_yet t))
    ∙ all_more s t (begun t.after) (lines_of b)

-- ---- 2. the history that is read again

same_history : (h g : History) (text : List ℕ) → IsLeftAs h text → IsBegun (Some text) h.opening g
    → g ≡ h
same_history h g text left is =
    let own : history_of h.opening is.0 ≡ h =
    ap (history_of h.opening)
    (texts_are_one h.opening text is.0 h.journal left.small is.1 left.is_text) in
    is.2 ∙ ap given_back own ∙ ap (with_entries h) left.none_left
    ∙ ap (history_of h.opening) (append-nil h.journal)

pub cut_scripts : CutScriptsTellTheSame
cut_scripts s h g front back text left is =
    script-cut s h front back
    ∙ ap (λ (k : History). joined (script s h front) (script s k back))
    (sym (same_history (script s h front).after g text left is))
