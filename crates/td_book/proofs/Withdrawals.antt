-- Withdrawals and entries, one row after another.
use Rattle.std.proofs.Common.{◌≡◌, ◌≢◌, ℕ, zero, suc, ◌+◌, ◌<◌, ◌≤◌, Bool, true, false, ◌&&◌, List}
use Rattle.std.proofs.Common.{[], ◌∷◌, ◌++◌, Option, Some, None, IfSome, IfNone, if◌then◌else◌}
use Rattle.std.proofs.Common.{length, take, drop, map, set, slice_get, option_to_list, ap, refl}
use Rattle.std.proofs.Common.{sym, subst, ◌∙◌, arith, append_assoc}
use Rattle.std.proofs.lemmas.Bool.{and_parts}
use Rattle.std.proofs.lemmas.Option.{same_Some}
use Rattle.std.proofs.Math.Bool.{and-false}
use Rattle.td_board.specs.declared.views.RowView.{RowView}
use Rattle.td_board.specs.declared.views.RowView.TheVariants.{In, Known}
use Rattle.td_board.specs.declared.views.DeskTry.{DeskTry}
use Rattle.td_board.specs.declared.views.DeskTry.TheVariants.{WithdrawalWon, WithdrawalLost}
use Rattle.td_board.specs.declared.views.DeskTry.TheVariants.{ClaimNoted}
use Rattle.td_rows.specs.declared.key.Key.{Key}
use Rattle.td_rows.specs.declared.kind.Kind.{Kind}
use Rattle.td_rows.specs.declared.kind.Kind.TheVariants.{Gb, Nmu, Bp, Dw, Claim, Outcome as Ended}
use Rattle.td_rows.specs.declared.kind.Kind.TheVariants.{Arrive, Sweep}
use Rattle.td_rows.specs.Kinds.{cells}
use Rattle.td_rows.specs.Keys.{same_key, names, below_all, ascending}
use Rattle.td_rows.specs.Table.{Table, applied, fits, AppliesOn, keys_of}
use Rattle.td_rows.proofs.Keys.{same_key-true}
use Rattle.td_rows.proofs.Lists.{take-next}
use Rattle.td_change.specs.Saved.{number_of}
use Rattle.td_journal.specs.declared.entry.Marked.{Marked}
use Rattle.td_journal.specs.Commands.{is_command}
use Rattle.td_journal.specs.Entries.{standing, entry_at, CanBeUndone}
use Rattle.td_journal.specs.Replay.{Lawful}
use Rattle.td_journal.specs.Touching.{blocker}
use Rattle.td_core.specs.Committing.{takes}
use Rattle.td_core.specs.History.{History, rows_of, with_entry, without_entry}
use Rattle.td_core.specs.History.{IsAppended}
use Rattle.td_core.specs.Refusals.{is_queued_at}
use Rattle.td_core.proofs.Inverse.{undo_has_an_inverse}
use Rattle.td_core.proofs.Phases.{keys_of-rows_of}
use Rattle.td_core.proofs.Taking.{AppliesOn-filter, names-filter}
use Rattle.td_core.proofs.Worlds.{rows_of-with_entry}
use Rattle.td_book.specs.Seen.{seen_off, is_desks}
use Rattle.td_book.specs.Watching.{WatchedView}
use Rattle.td_book.specs.Desk.{InnerModel, Stays, Spent, claim_of}
use Rattle.td_book.specs.Calls.{is_lost, noting_one, noting, OutAt, Lost, WithdrewAt, Withdrew}
use Rattle.td_book.specs.Calls.{IsKeyAt, entered, entered_no}
use Rattle.td_book.specs.Tries.{tries_at, tries_for, wins_for, offers_for}
use Rattle.td_book.specs.Undoing.{Unlost, LostOne}
use Rattle.td_book.proofs.Seeing.{withdrawn_off, stays_off, claimed_off}
use Rattle.td_book.proofs.Seeing.{desks_off}
use Rattle.td_book.proofs.Steps.{idle_row, longer, lost_at, noting_one-lost}
use Rattle.td_naming.proofs.Numbered.{named_at}
use Rattle.td_book.proofs.Steps.{noting_one-won, spent_more, spent_none, stays_more}
use Rattle.td_book.proofs.Steps.{stays_none}
use Rattle.td_book.proofs.Steps.{unnamed_before, pos_lost}
use Rattle.td_book.proofs.Tries.{tries_at-out, tries_at-won, tries_at-lost, tries_at-noted}
use Rattle.td_book.proofs.Tries.{withdrawal-lost, none_more, tries_more, tries_for-push}
use Rattle.td_book.proofs.Tries.{wins_for-push, split_at}

-- ---- 1. withdrawals

-- what the desk knows, of one named key more
next_off : (named : List Key) (i : ℕ) (k : Key) (t : Table) → slice_get named i ≡ Some k
    → seen_off (take i named ++ k ∷ []) t ≡ seen_off (take (i + 1) named) t
next_off named i k t at = ap (λ (ks : List Key). seen_off ks t) (sym (take-next named i k at))

-- a withdrawal that isn't lost: what is kept stays
unlost_step : (named : List Key) (i : ℕ) (k : Key) (old new : InnerModel) (answer : Option ℕ)
    → slice_get named i ≡ Some k → new.books ≡ old.books → answer ≡ None
    → new.view ≡ seen_off (take i named ++ k ∷ []) (rows_of old.books.history)
    → new.tries ≡ old.tries ++ tries_at (rows_of old.books.history) k 0 → Stays old new
    → WithdrewAt named i old new answer
unlost_step named i k old new answer at same none view tries stays =
    let t = rows_of old.books.history in
    let hist : new.books.history ≡ old.books.history = ap (λ (b : WatchedView). b.history) same in
    record {
      key = k;
      at = at;
      by = 0;
      some_builder = omega arith;
      answers = none ∙ sym
          (ap (λ b. if b then Some (length old.books.history.journal + 1) else None)
          (and-false (is_queued_at t k)));
      history = hist ∙ sym (noting_one-won old.books.history k);
      view = view ∙ next_off named i k t at
          ∙ ap (λ (h : History). seen_off (take (i + 1) named) (rows_of h)) (sym hist);
      tries = tries;
      stays = stays;
      spent = subst (Spent (k ∷ []) old.books) (sym same) (spent_none (k ∷ []) old.books);
      kept = λ _. same;
    }

-- a withdrawal is won
pub won_step : (named : List Key) (i n : ℕ) (k : Key) (old new : InnerModel) (answer : Option ℕ)
    → slice_get named i ≡ Some k → old.view ≡ seen_off (take i named) (rows_of old.books.history)
    → ascending (keys_of (rows_of old.books.history)) ≡ true
    → OutAt (rows_of old.books.history) k n
    → new ≡ (record old { view = set old.view n In; tries = old.tries ++ WithdrawalWon n ∷ [] })
    → answer ≡ None → WithdrewAt named i old new answer
won_step named i n k old new answer at view up out is none =
    unlost_step named i k old new answer at (ap (λ (m : InnerModel). m.books) is) none
    (ap (λ (m : InnerModel). m.view) is ∙ ap (λ (v : List RowView). set v n In) view
    ∙ withdrawn_off (take i named) (rows_of old.books.history) n k out.row up out.at out.out)
    (ap (λ (m : InnerModel). m.tries) is
    ∙ ap (λ (l : List DeskTry). old.tries ++ l)
    (sym (tries_at-out (rows_of old.books.history) k n 0 up out)))
    (subst (Stays old) (sym is)
    (record { table = refl; stock = refl; builders = refl; since = refl; watch = refl }))

-- a row that is not out is left
pub idle_step : (named : List Key) (i : ℕ) (k : Key) (old new : InnerModel) (answer : Option ℕ)
    → slice_get named i ≡ Some k → old.view ≡ seen_off (take i named) (rows_of old.books.history)
    → ascending (keys_of (rows_of old.books.history)) ≡ true
    → is_queued_at (rows_of old.books.history) k ≡ false → new ≡ old → answer ≡ None
    → WithdrewAt named i old new answer
idle_step named i k old new answer at view up idle is none =
    let t = rows_of old.books.history in
    unlost_step named i k old new answer at (ap (λ (m : InnerModel). m.books) is) none
    (ap (λ (m : InnerModel). m.view) is ∙ view
    ∙ stays_off (take i named) t k up (idle_row t k idle))
    (ap (λ (m : InnerModel). m.tries) is ∙ none_more old.tries t k 0 idle)
    (subst (Stays old) (sym is) (stays_none old))

some_not : (o : Option ℕ) (n : ℕ) → o ≡ Some n → o ≡ None → ⊥
some_not o n some none = absurd (let e : None ≡ Some n = sym none ∙ some in cc)

-- a withdrawal is lost
pub lost_step : (named : List Key) (i n : ℕ) (k : Key) (old new : InnerModel) (answer : Option ℕ)
    → slice_get named i ≡ Some k → old.view ≡ seen_off (take i named) (rows_of old.books.history)
    → ascending (keys_of (rows_of old.books.history)) ≡ true
    → OutAt (rows_of old.books.history) k n → Lost old new n (k ∷ [])
    → answer ≡ Some (length old.books.history.journal + 1) → WithdrewAt named i old new answer
lost_step named i n k old new answer at view up out lost told =
    let t = rows_of old.books.history in
    let b = lost.0 in
    let same : new.books.history ≡ with_entry old.books.history (claim_of b k) = lost.1.history in
    let rows : rows_of new.books.history ≡ applied (Claim b) (k ∷ []) t =
    ap rows_of same ∙ rows_of-with_entry old.books.history (claim_of b k) in
    record {
      key = k;
      at = at;
      by = b;
      some_builder = lost.1.some_builder;
      answers =
          told ∙ sym (ap (λ v. if v then Some (length old.books.history.journal + 1) else None)
          (lost_at t k n b up out lost.1.one));
      history = same ∙ sym (noting_one-lost old.books.history k n b up out lost.1.one);
      view =
          lost.1.view ∙ ap (λ (v : List RowView). set v n (Known b)) view
          ∙ claimed_off (take i named) t n k out.row b up out.at
          ∙ next_off named i k (applied (Claim b) (k ∷ []) t) at
          ∙ ap (λ (u : Table). seen_off (take (i + 1) named) u) (sym rows);
      tries = lost.1.tries ∙ ap (λ (l : List DeskTry). old.tries ++ l)
          (sym (tries_at-out t k n b up out
          ∙ withdrawal-lost n b (pos_lost b lost.1.one)));
      stays = lost.1.stays;
      spent = lost.1.spent;
      kept = λ none. absurd (some_not answer (length old.books.history.journal + 1) told none);
    }

-- a withdrawal, by its answer
pub withdrew_either : (named : List Key) (i n : ℕ) (k : Key) (keys : List Key)
    (old new : InnerModel) (answer : Option ℕ)
    → slice_get named i ≡ Some k → old.view ≡ seen_off (take i named) (rows_of old.books.history)
    → ascending (keys_of (rows_of old.books.history)) ≡ true
    → OutAt (rows_of old.books.history) k n → keys ≡ k ∷ []
    → IfNone answer
    (new ≡ (record old { view = set old.view n In; tries = old.tries ++ WithdrawalWon n ∷ [] }))
    → IfSome answer (λ m. m ≡ length old.books.history.journal + 1)
    → IfSome answer (λ m. Lost old new n keys)
    → WithdrewAt named i old new answer
withdrew_either named i n k keys old new None at view up out one won number lost =
    won_step named i n k old new None at view up out won refl
withdrew_either named i n k keys old new (Some m) at view up out one won number lost =
    lost_step named i n k old new (Some m) at view up out
    (subst (λ (u : List Key). Lost old new n u) one lost) (ap (λ (x : ℕ). Some x) number)

-- one more named key
pub noting-push : (h : History) (ks : List Key) (bs : List ℕ) (k : Key) (b : ℕ)
    → length bs ≡ length ks
    → noting h (ks ++ k ∷ []) (bs ++ b ∷ []) ≡ noting_one (noting h ks bs) k b
noting-push h [] [] k b e = refl
noting-push h [] (c ∷ bs) k b e = absurd (cc)
noting-push h (q ∷ ks) [] k b e = absurd (cc)
noting-push h (q ∷ ks) (c ∷ bs) k b e =
    noting-push (noting_one h q c) ks bs k b
    (let s : suc (length bs) ≡ suc (length ks) = e in omega arith)

choice_push : (n : ℕ) (bs : List ℕ) (b : ℕ) → ((i c : ℕ) → slice_get bs i ≡ Some c → c ≤ n) → b ≤ n
    → (i c : ℕ) → slice_get (bs ++ b ∷ []) i ≡ Some c → c ≤ n
choice_push n [] b h le zero c at =
    let e : Some b ≡ Some c = at in let f : b ≡ c = cc in omega arith
choice_push n [] b h le (suc i) c at = absurd (cc)
choice_push n (x ∷ bs) b h le zero c at = h 0 c at
choice_push n (x ∷ bs) b h le (suc i) c at = choice_push n bs b (λ j d. h (suc j) d) le i c at

longer_by : (bs : List ℕ) (b : ℕ) → length (bs ++ b ∷ []) ≡ length bs + 1
longer_by [] b = refl
longer_by (x ∷ bs) b = let h = longer_by bs b in omega arith

-- the withdrawals go on by one key
pub withdrew_more : (named : List Key) (i : ℕ) (first old new : InnerModel) (answer : Option ℕ)
    → ascending named ≡ true → Withdrew (take i named) first old → WithdrewAt named i old new answer
    → Withdrew (take (i + 1) named) first new
withdrew_more named i first old new answer rise w s =
    let ks = take i named in
    let more : take (i + 1) named ≡ ks ++ s.key ∷ [] = take-next named i s.key s.at in
    let le : s.by ≤ first.builders = subst (λ (n : ℕ). s.by ≤ n) w.stays.builders s.some_builder in
    let len : length (w.choices ++ s.by ∷ []) ≡ length (ks ++ s.key ∷ []) =
    longer_by w.choices s.by ∙ ap (λ (n : ℕ). n + 1) w.chosen.one_each ∙ sym (longer ks s.key) in
    let apart = unnamed_before named i s.key rise s.at in
    let t = rows_of first.books.history in
    let one : tries_at (rows_of old.books.history) s.key s.by ≡ tries_at t s.key s.by =
    ap (λ (h : History). tries_at (rows_of h) s.key s.by) w.history
    ∙ tries_at-noted first.books.history ks w.choices s.key s.by apart in
    let pushed : tries_for t ks w.choices ++ tries_at t s.key s.by
    ≡ tries_for t (take (i + 1) named) (w.choices ++ s.by ∷ []) =
    sym (tries_for-push t ks w.choices s.key s.by w.chosen.one_each)
    ∙ ap (λ (u : List Key). tries_for t u (w.choices ++ s.by ∷ [])) (sym more) in
    record {
      choices = w.choices ++ s.by ∷ [];
      chosen = record {
        one_each = len ∙ ap length (sym more);
        bound = choice_push first.builders w.choices s.by w.chosen.bound le;
      };
      history = s.history ∙ ap (λ (h : History). noting_one h s.key s.by) w.history
          ∙ sym (noting-push first.books.history ks w.choices s.key s.by w.chosen.one_each)
          ∙ ap (λ (u : List Key). noting first.books.history u (w.choices ++ s.by ∷ [])) (sym more);
      view = s.view;
      tries = tries_more first.tries old.tries new.tries (tries_for t ks w.choices)
          (tries_at t s.key s.by) w.tries
          (s.tries ∙ ap (λ (l : List DeskTry). old.tries ++ l) one)
          ∙ ap (λ (l : List DeskTry). first.tries ++ l) pushed;
      stays = stays_more first old new w.stays s.stays;
      spent = subst (λ (u : List Key). Spent u first.books new.books) (sym more)
          (spent_more ks s.key first.books old.books new.books apart w.spent s.spent);
    }

-- ---- 2. withdrawals up to the first that is lost

pub unlost_more : (named : List Key) (i : ℕ) (first old new : InnerModel) (answer : Option ℕ)
    → Unlost (take i named) first old → WithdrewAt named i old new answer → answer ≡ None
    → Unlost (take (i + 1) named) first new
unlost_more named i first old new answer u s none =
    let ks = take i named in
    let t = rows_of first.books.history in
    let more : take (i + 1) named ≡ ks ++ s.key ∷ [] = take-next named i s.key s.at in
    let hist : old.books.history ≡ first.books.history =
    ap (λ (b : WatchedView). b.history) u.books in
    let one : tries_at (rows_of old.books.history) s.key s.by ≡ tries_at t s.key 0 =
    tries_at-won old.books.history s.key s.by (sym none ∙ s.answers)
    ∙ ap (λ (h : History). tries_at (rows_of h) s.key 0) hist in
    record {
      books = s.kept none ∙ u.books;
      view = s.view;
      tries = tries_more first.tries old.tries new.tries (wins_for t ks) (tries_at t s.key 0)
          u.tries (s.tries ∙ ap (λ (l : List DeskTry). old.tries ++ l) one)
          ∙ ap (λ (l : List DeskTry). first.tries ++ l)
          (sym (wins_for-push t ks s.key) ∙ ap (wins_for t) (sym more));
      stays = stays_more first old new u.stays s.stays;
    }

pos_of : (b : ℕ) → is_lost b ≡ true → 1 ≤ b
pos_of zero h = cc
pos_of (suc b) h = omega arith

some_is : (v : Bool) (a n : ℕ) → Some n ≡ (if v then Some a else None) → (v ≡ true) × (n ≡ a)
some_is true a n e = (refl, cc)
some_is false a n e = cc

pub lost_one : (named : List Key) (i : ℕ) (first old new last : InnerModel) (n : ℕ)
    → Unlost (take i named) first old → WithdrewAt named i old new (Some n)
    → last ≡ (record new {
      view = seen_off [] (rows_of new.books.history);
      tries = new.tries ++ offers_for (rows_of new.books.history) (take (i + 1) named);
    }) → LostOne first last named n
lost_one named i first old new last n u s back =
    let told = some_is (is_queued_at (rows_of old.books.history) s.key && is_lost s.by)
    (length old.books.history.journal + 1) n s.answers in
    let both = and_parts (is_queued_at (rows_of old.books.history) s.key) (is_lost s.by) told.0 in
    let hist : old.books.history ≡ first.books.history =
    ap (λ (b : WatchedView). b.history) u.books in
    let same : last.books.history ≡ new.books.history =
    ap (λ (m : InnerModel). m.books.history) back in
    let out : is_queued_at (rows_of first.books.history) s.key ≡ true =
    ap (λ (h : History). is_queued_at (rows_of h) s.key) (sym hist) ∙ both.0 in
    let now : last.books.history ≡ with_entry first.books.history (claim_of s.by s.key) =
    same ∙ s.history
    ∙ ap (λ b. if b then with_entry old.books.history (claim_of s.by s.key)
    else old.books.history) told.0
    ∙ ap (λ (h : History). with_entry h (claim_of s.by s.key)) hist in
    let t = rows_of first.books.history in
    let at : ℕ = number_of t s.key in
    let held : List DeskTry = WithdrawalLost at s.by ∷ ClaimNoted at s.by ∷ [] in
    let one : tries_at (rows_of old.books.history) s.key s.by ≡ held =
    ap (λ (h : History). tries_at (rows_of h) s.key s.by) hist
    ∙ tries_at-lost t s.key s.by out both.1 in
    let offered : List DeskTry =
    offers_for (rows_of new.books.history) (take (i + 1) named) in
    let wins : List DeskTry = wins_for t (take i named) in
    let again : offered
    ≡ offers_for (rows_of last.books.history) (take i named ++ s.key ∷ []) =
    λ j. offers_for (rows_of (sym same j)) (take-next named i s.key s.at j) in
    record {
      won = record {
        key = s.key;
        is_named = named_at named i s.key s.at;
        out = out;
        by = s.by;
        one = pos_of s.by both.1;
        some_builder = subst (λ (m : ℕ). s.by ≤ m) u.stays.builders s.some_builder;
        now = now;
        number = told.1 ∙ ap (λ (h : History). length h.journal + 1) hist;
      };
      view = ap (λ (m : InnerModel). m.view) back
          ∙ ap (λ (h : History). seen_off [] (rows_of h)) (sym same);
      tries = record {
        first = take i named;
        key = s.key;
        rest = drop (suc i) named;
        split = split_at named i s.key s.at;
        out = out;
        by = s.by;
        one = pos_of s.by both.1;
        some_builder = subst (λ (m : ℕ). s.by ≤ m) u.stays.builders s.some_builder;
        now = now;
        tries = ap (λ (m : InnerModel). m.tries) back
            ∙ ap (λ (l : List DeskTry). l ++ offered)
            (tries_more first.tries old.tries new.tries wins held u.tries
            (s.tries ∙ ap (λ (l : List DeskTry). old.tries ++ l) one))
            ∙ append_assoc first.tries (wins ++ held) offered
            ∙ ap (λ (l : List DeskTry). first.tries ++ l) (append_assoc wins held offered)
            ∙ ap (λ (l : List DeskTry). first.tries ++ (wins ++ (held ++ l))) again;
      };
      stays = stays_more first old last u.stays
          (stays_more old new last s.stays
          (subst (Stays new) (sym back)
          (record { table = refl; stock = refl; builders = refl; since = refl; watch = refl })));
    }

-- ---- 3. the lists of one key that are handed out

pub same_claim : (named : List Key) (i : ℕ) (k : Key) (claim : List Key)
    → slice_get named i ≡ Some k → IsKeyAt named i claim → claim ≡ k ∷ []
same_claim named i k claim at one =
    one.2 ∙ ap (λ (x : Key). x ∷ []) (same_Some one.0 k (sym one.1 ∙ at))

abbrev pub ones : List Key → List (List Key)
ones ks = map (λ key. key ∷ []) ks

first_one : (ks : List Key) (i : ℕ) (left rest : List (List Key)) (claim : List Key)
    → left ≡ ones (drop i ks) → left ≡ claim ∷ rest
    → (IsKeyAt ks i claim) × (rest ≡ ones (drop (i + 1) ks))
first_one [] zero left rest claim l h = absurd (let bad : [] ≡ claim ∷ rest = sym l ∙ h in cc)
first_one [] (suc i) left rest claim l h = absurd (let bad : [] ≡ claim ∷ rest = sym l ∙ h in cc)
first_one (k ∷ ks) zero left rest claim l h =
    let e : (k ∷ []) ∷ ones ks ≡ claim ∷ rest = sym l ∙ h in
    let c : claim ≡ k ∷ [] = cc in
    let r : rest ≡ ones ks = cc in
    ((k, refl, c), r)
first_one (k ∷ ks) (suc i) left rest claim l h =
    let f = first_one ks i left rest claim l h in
    let e : suc (i + 1) ≡ suc i + 1 = omega arith in
    (f.0, f.1 ∙ ap (λ (j : ℕ). ones (drop j (k ∷ ks))) e)

pub is_key_at : (named : List Key) (i : ℕ) (left rest : List (List Key)) (claim : List Key)
    → left ≡ ones (drop i named) → left ≡ option_to_list (Some claim) ++ rest
    → IsKeyAt named i claim
is_key_at named i left rest claim l h = (first_one named i left rest claim l h).0

pub left_more : (named : List Key) (i : ℕ) (left rest : List (List Key)) (claim : List Key)
    → left ≡ ones (drop i named) → left ≡ option_to_list (Some claim) ++ rest
    → rest ≡ ones (drop (i + 1) named)
left_more named i left rest claim l h = (first_one named i left rest claim l h).1

pub none_left : (named : List Key) (i : ℕ) → i < length named → [] ≡ ones (drop i named) → ⊥
none_left [] i h e = absurd (omega arith)
none_left (x ∷ ks) zero h e = cc
none_left (x ∷ ks) (suc i) h e = none_left ks i (omega arith) e

below_take : (x : Key) (ks : List Key) (i : ℕ) → below_all x ks ≡ true
    → below_all x (take i ks) ≡ true
below_take x ks zero h = refl
below_take x [] (suc i) h = refl
below_take x (k ∷ ks) (suc i) h =
    let both = and_parts _ _ h in
    ap (λ b. b && below_all x (take i ks)) both.0 ∙ below_take x ks i both.1

pub ascending_take : (ks : List Key) (i : ℕ) → ascending ks ≡ true → ascending (take i ks) ≡ true
ascending_take ks zero h = refl
ascending_take [] (suc i) h = refl
ascending_take (k ∷ ks) (suc i) h =
    let both = and_parts _ _ h in
    ap (λ b. b && ascending (take i ks)) (below_take k ks i both.0) ∙ ascending_take ks i both.1

pub one_named : (named : List Key) (i : ℕ) (key : Key) (claim : List Key) (k : Key)
    → slice_get named i ≡ Some key → claim ≡ key ∷ [] → names claim k ≡ true → names named k ≡ true
one_named named i key claim k at one is =
    whole (same_key k key) refl (ap (λ (ks : List Key). names ks k) (sym one) ∙ is)
  where
    whole : (v : Bool) → same_key k key ≡ v → (if v then true else false) ≡ true
        → names named k ≡ true
    whole true same h = ap (names named) (same_key-true k key same) ∙ named_at named i key at
    whole false same h = cc

-- ---- 4. the entry

pub commands_desks : (kind : Kind) → is_command kind ≡ true → is_desks kind ≡ true
commands_desks Gb h = refl
commands_desks (Nmu n e m) h = refl
commands_desks (Bp p) h = refl
commands_desks (Dw t) h = refl
commands_desks (Claim b) h = cc
commands_desks (Ended b o) h = cc
commands_desks Arrive h = cc
commands_desks Sweep h = cc

-- what a commit did, by its answer
pub entered_of : (h now : History) (kind : Kind) (ts : List Key) (r : Option ℕ)
    → IfNone r ((ts ≡ []) × (now ≡ h)) → IfSome r (λ n. ts ≢ [])
    → IfSome r (IsAppended h (record { kind = kind; keys = ts }) now)
    → (r ≡ entered_no h ts) × (now ≡ entered h kind ts)
entered_of h now kind ts None none taken made =
    (sym (ap (entered_no h) none.0), none.1 ∙ sym (ap (entered h kind) none.0))
entered_of h now kind [] (Some n) none taken made = absurd (taken refl)
entered_of h now kind (k ∷ ks) (Some n) none taken made =
    (ap (λ (x : ℕ). Some x) made.number, made.history)

pub entered_off : (h now : History) (kind : Kind) (named off : List Key)
    → ascending (keys_of (rows_of h)) ≡ true → is_desks kind ≡ true
    → ((cells kind).state ≡ true → (k : Key) → names named k ≡ true → names off k ≡ true)
    → now ≡ entered h kind (takes (rows_of h) kind named)
    → seen_off off (rows_of now) ≡ seen_off off (rows_of h)
entered_off h now kind named off up desks within is =
    ap (λ (x : History). seen_off off (rows_of x)) is
    ∙ cases (takes (rows_of h) kind named) (AppliesOn-filter (rows_of h) kind named)
    (λ k t. names-filter (fits (rows_of h) kind) named k t)
  where
    cases : (ts : List Key) → AppliesOn (rows_of h) kind ts
        → ((k : Key) → names ts k ≡ true → names named k ≡ true)
        → seen_off off (rows_of (entered h kind ts)) ≡ seen_off off (rows_of h)
    cases [] fit among = refl
    cases (t ∷ ts) fit among =
        ap (seen_off off) (rows_of-with_entry h (record { kind = kind; keys = t ∷ ts }))
        ∙ desks_off off (t ∷ ts) kind (rows_of h) up desks fit (λ has k e. within has k (among k e))

-- ---- 5. the undo

pub undone_off : (h now : History) (n : ℕ) (off : List Key) (m : Marked) → CanBeUndone h.journal n
    → blocker h.journal n ≡ None → Lawful h.opening (standing h.journal)
    → ascending (keys_of h.opening) ≡ true → entry_at h.journal n ≡ Some m
    → ((cells m.entry.kind).state ≡ true → (k : Key) → names m.entry.keys k ≡ true
    → names off k ≡ true) → now ≡ without_entry h n
    → seen_off off (rows_of h) ≡ seen_off off (rows_of now)
undone_off h now n off m c free lawful up there within is =
    let back = undo_has_an_inverse h n c free lawful in
    let same : m ≡ c.marked = same_Some m c.marked (sym there ∙ c.there) in
    let e = c.marked.entry in
    let within' : (cells e.kind).state ≡ true → (k : Key) → names e.keys k ≡ true
    → names off k ≡ true =
    subst (λ (x : Marked).
    (cells x.entry.kind).state ≡ true → (k : Key) → names x.entry.keys k ≡ true
    → names off k ≡ true) same within in
    ap (seen_off off) back.rows
    ∙ desks_off off e.keys e.kind (rows_of (without_entry h n))
    (ap ascending (keys_of-rows_of (without_entry h n)) ∙ up) (commands_desks e.kind c.command)
    back.applies within'
    ∙ ap (λ (x : History). seen_off off (rows_of x)) (sym is)
