-- What the values of a tracker's keys say.
use Rattle.std.proofs.Common.{◌≡◌, ◌≢◌, ℕ, ◌<◌, false, eqb, List, length, ap, ◌∙◌, refl, arith}
use Rattle.std.specs.Prelude.{codes}
use Rattle.std.proofs.lemmas.Bool.{ne_eqb}
use Rattle.td_text.specs.Cut.{strip}
use Rattle.td_text.specs.Lines.{on_ok}
use Rattle.td_query.specs.QueryGrammar.{Read}
use Rattle.td_query.specs.KeyRules.{EntriesAreSaid, QueriesAreSaid, TitlesAreSaid}
use Rattle.td_query.specs.TrackerGrammar.{Said, SaidRead, ended, ended_by, entry_at, equalled}
use Rattle.td_query.specs.TrackerGrammar.{title_value, titled, value_at, with_affected, with_bad}
use Rattle.td_query.specs.TrackerGrammar.{with_good}
use Rattle.td_query.specs.AtomRules.{IsWord}
use Rattle.td_query.specs.Tokens.{skipped}

pub queries_are_said : QueriesAreSaid
unfolding value_at
queries_are_said s t query log rest h =
    record {
      affected = ap (λ (r : Read). on_ok r (with_affected s)) h;
      good = ap (λ (r : Read). on_ok r (with_good s)) h;
      bad = ap (λ (r : Read). on_ok r (with_bad s)) h;
    }

pub titles_are_said : TitlesAreSaid
unfolding value_at strip
titles_are_said s t u title rest h k =
    ap (λ (at : List ℕ). title_value s (length at) (strip (codes "\"") at)) h
    ∙ ap (titled s) k

behind_key : (s : Said) (t key u : List ℕ) → IsWord key t u → 0 < length key
    → entry_at s t ≡ equalled key s (length (skipped u)) (strip (codes "=") (skipped u))
unfolding entry_at
behind_key s t key u is some =
    let filled : length key ≢ 0 = omega arith in
    let full : eqb (length key) 0 ≡ false = ne_eqb (length key) 0 filled in
    rw (is.0, is.1, full) refl

pub entries_are_said : EntriesAreSaid
unfolding ended strip
entries_are_said s said t key u v w rest is some equals value ends =
    behind_key s t key u is some
    ∙ ap (λ (at : List ℕ). equalled key s (length at) (strip (codes "=") at)) equals
    ∙ ap (λ (r : SaidRead). on_ok r ended) value
    ∙ ap (λ (at : List ℕ). ended_by said (length at) (strip (codes ";") at)) ends
