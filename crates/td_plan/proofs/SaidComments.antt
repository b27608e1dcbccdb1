-- The comments of a plan begin with `#`, and have no newline.
use Rattle.std.proofs.Common.{◌≡◌, ◌<◌, ◌≤◌, ◌^◌, ℕ, Bool, true, false, cond, eqb, List, []}
use Rattle.std.proofs.Common.{◌∷◌}
use Rattle.std.proofs.Common.{◌++◌, map, refl, ◌∙◌, arith, codes, decimal}
use Rattle.std.specs.List.{AllByRecursion, flat_map, list_all, onto_first}
use Rattle.std.specs.Char.{is_ascii_digit}
use Rattle.std.specs.Str.{all_ascii_digits}
use Rattle.std.proofs.lemmas.Bool.{and_parts, or_from}
use Rattle.std.proofs.lemmas.Fmt.{digits_decimal}
use Rattle.std.proofs.lemmas.List.Folds.{list_any-append}
use Rattle.td_text.specs.Lines.{lines_of}
use Rattle.td_text.specs.Words.{is_arch_byte, is_name, is_name_byte}
use Rattle.td_text.proofs.Numbers.{decimal_model}
use Rattle.td_text.proofs.RunTexts.{misses}
use Rattle.td_rows.specs.declared.key.Key.{Key}
use Rattle.td_rows.specs.declared.row.Row.{Row}
use Rattle.td_rows.specs.declared.state.State.{State}
use Rattle.td_rows.specs.declared.state.State.TheVariants.{NeedsBuild, Building, Built, Uploaded}
use Rattle.td_rows.specs.declared.state.State.TheVariants.{Installed, DepWait, BdUninstallable}
use Rattle.td_rows.specs.declared.state.State.TheVariants.{BuildAttempted, Failed, NotForUs}
use Rattle.td_rows.specs.KeyText.{KeyFits, key_text}
use Rattle.td_rows.specs.StateWord.{StateFits, state_word}
use Rattle.td_rows.specs.Text.{has_newline}
use Rattle.td_query.specs.declared.status.Status.{Status}
use Rattle.td_query.specs.declared.status.Status.TheVariants.{Good, Bad, Partial, Unknown}
use Rattle.td_query.specs.Statuses.{status_name}
use Rattle.td_plan.specs.Lines.{comment, spaced, title_lines}
use Rattle.td_plan.specs.ReadingLaws.{CommentsAreSkipped, IsComment}
use Rattle.td_plan.specs.Reasons.{Reason, state, number, old, all, source, reason_name}
use Rattle.td_plan.proofs.SaidBytes.{name_parts}

-- ---- 1. texts without a newline

lines_join : (a b : List ℕ) → has_newline a ≡ false → has_newline b ≡ false
    → has_newline (a ++ b) ≡ false
lines_join a b p q = list_any-append (λ x. eqb x 10) a b
    ∙ or_from (has_newline a) (has_newline b) p q

by_bytes : (test : ℕ → Bool) (t : List ℕ) → test 10 ≡ false → list_all test t ≡ true
    → has_newline t ≡ false
by_bytes test [] out h = refl
by_bytes test (x ∷ t) out h =
    let a = and_parts (test x) (list_all test t) h in
    or_from (eqb x 10) (has_newline t) (misses test 10 x out a.0) (by_bytes test t out a.1)

name_line : (name : List ℕ) → is_name name ≡ true → has_newline name ≡ false
name_line name h = by_bytes is_name_byte name refl (name_parts name h).1

digits_line : (t : List ℕ) → all_ascii_digits t ≡ true → has_newline t ≡ false
digits_line [] h = refl
digits_line (x ∷ t) h =
    let a = and_parts (is_ascii_digit x) (all_ascii_digits t) h in
    or_from (eqb x 10) (has_newline t) (misses is_ascii_digit 10 x refl a.0) (digits_line t a.1)

number_line : (n : ℕ) → n < 2 ^ 64 → has_newline (decimal n) ≡ false
number_line n small = digits_line (decimal n) (digits_decimal decimal_model n small)

key_line : (k : Key) → KeyFits k → has_newline (key_text k) ≡ false
key_line k h =
    let arch : has_newline (47 ∷ k.arch) ≡ false = by_bytes is_arch_byte k.arch refl
    (and_parts _ (list_all is_arch_byte k.arch) h.arch).1 in
    lines_join k.source (47 ∷ k.arch) (name_line k.source h.source) arch

status_line : (status : Status) → has_newline (status_name status) ≡ false
status_line Good = refl
status_line Bad = refl
status_line Partial = refl
status_line Unknown = refl

reason_line : (reason : Reason) → has_newline (reason_name reason) ≡ false
reason_line state = refl
reason_line number = refl
reason_line old = refl
reason_line all = refl
reason_line source = refl

state_line : (s : State) → StateFits s → has_newline (state_word s) ≡ false
state_line NeedsBuild h = refl
state_line (Building builder) h =
    lines_join (codes "Building=") (decimal builder) refl (number_line builder h)
state_line Built h = refl
state_line Uploaded h = refl
state_line Installed h = refl
state_line DepWait h = refl
state_line BdUninstallable h = refl
state_line BuildAttempted h = refl
state_line Failed h = refl
state_line NotForUs h = refl

-- words with a space before each
spaces_line : (names : List (List ℕ)) → AllByRecursion (λ name. is_name name ≡ true) names
    → has_newline (flat_map (λ y. codes " " ++ y) names) ≡ false
spaces_line [] h = refl
spaces_line (x ∷ names) h =
    lines_join (32 ∷ x) (flat_map (λ y. codes " " ++ y) names) (name_line x h.0)
    (spaces_line names h.1)

spaced_line : (names : List (List ℕ)) → AllByRecursion (λ name. is_name name ≡ true) names
    → has_newline (spaced names) ≡ false
spaced_line [] h = refl
spaced_line (x ∷ names) h =
    lines_join x (flat_map (λ y. codes " " ++ y) names) (name_line x h.0) (spaces_line names h.1)

-- ---- 2. comments

comment_is : (text : List ℕ) → has_newline text ≡ false → IsComment (comment text)
comment_is text h = record { rest = 32 ∷ text; begins = refl; one_line = h }

-- the first line with one byte more
more_first : (x : ℕ) (ls : List (List ℕ)) → eqb x 10 ≡ false
    → AllByRecursion (λ l. has_newline l ≡ false) ls
    → AllByRecursion (λ l. has_newline l ≡ false) (onto_first x ls)
more_first x [] out h = (or_from (eqb x 10) false out refl, tt)
more_first x (l ∷ ls) out h = (or_from (eqb x 10) (has_newline l) out h.0, h.1)

lines_lack : (t : List ℕ) → AllByRecursion (λ l. has_newline l ≡ false) (lines_of t)
lines_lack [] = (refl, tt)
lines_lack (x ∷ t) = by (eqb x 10) refl (lines_lack t)
  where
    by : (b : Bool) → eqb x 10 ≡ b → AllByRecursion (λ l. has_newline l ≡ false) (lines_of t)
        → AllByRecursion (λ l. has_newline l ≡ false)
        (cond b ([] ∷ lines_of t) (onto_first x (lines_of t)))
    by true is later = (refl, later)
    by false is later = more_first x (lines_of t) is later

all_comments : (ls : List (List ℕ)) → AllByRecursion (λ l. has_newline l ≡ false) ls
    → AllByRecursion IsComment (map comment ls)
all_comments [] h = tt
all_comments (l ∷ ls) h = (comment_is l h.0, all_comments ls h.1)

titles : (ls : List (List ℕ)) → AllByRecursion (λ l. has_newline l ≡ false) ls
    → AllByRecursion IsComment (title_lines ls)
titles [] h = tt
titles (l ∷ ls) h = (comment_is (codes "tracker " ++ l) h.0, all_comments ls h.1)

left_is : (k : Key) (status : Status) (row : Row) (reason : Reason) → KeyFits k
    → StateFits row.state → row.number ≤ 9999
    → has_newline (codes "not planned: " ++ (key_text k ++ 32 ∷ (status_name status
    ++ 32 ∷ (state_word row.state ++ 32 ∷ (decimal row.number ++ 32 ∷ reason_name reason)))))
    ≡ false
left_is k status row reason fits word within =
    let small : row.number < 2 ^ 64 = omega arith in
    lines_join (key_text k) _ (key_line k fits)
    (lines_join (status_name status) _ (status_line status)
    (lines_join (state_word row.state) _ (state_line row.state word)
    (lines_join (decimal row.number) _ (number_line row.number small) (reason_line reason))))

pub comments_are_skipped : CommentsAreSkipped
comments_are_skipped = record {
  title = λ title. titles (lines_of title) (lines_lack title);
  step = λ step small. comment_is (codes "step " ++ decimal step) (number_line step small);
  part = λ sources h. comment_is (spaced sources ++ codes " build on one another")
      (lines_join (spaced sources) (codes " build on one another") (spaced_line sources h) refl);
  check = λ k name on fits h g. comment_is (codes "check: "
      ++ (key_text k ++ (codes " waits for " ++ (name ++ (codes " of an older " ++ on)))))
      (lines_join (key_text k) _ (key_line k fits)
      (lines_join name (codes " of an older " ++ on) (name_line name h) (name_line on g)));
  no_wait = λ k on fits h. comment_is (codes "no wait: " ++ (key_text k ++ (codes " for " ++ on)))
      (lines_join (key_text k) (codes " for " ++ on) (key_line k fits) (name_line on h));
  left = λ k status row reason fits word within. comment_is _
      (left_is k status row reason fits word within);
}
