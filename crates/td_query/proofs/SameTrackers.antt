-- Two trackers of one text: their queries are the same, and their patterns match alike.
use Rattle.std.proofs.Common.{◌≡◌, ℕ, not, ◌&&◌, ◌||◌, false, List, [], ◌∷◌, Ok, Option, None, Some}
use Rattle.std.proofs.Common.{map, slice_get, refl, sym, ap, ap₂, subst, ◌∙◌}
use Rattle.std.specs.List.{AllZip}
use Rattle.std.specs.Option.{option_map_or}
use Rattle.regex.specs.Patterns.{Re, SameCaptures}
use Rattle.regex_hir.specs.Meaning.{meaning}
use Rattle.td_stanza.specs.Field.{Entry}
use Rattle.td_indices.specs.Fields.{value_of}
use Rattle.td_query.specs.Marks.{mark_by}
use Rattle.td_query.specs.Query.{Shape, always, text, pattern, negated, both, either}
use Rattle.td_query.specs.QueryGrammar.{Log}
use Rattle.td_query.specs.Sources.{ArePatterns, IsReadAs, source_of}
use Rattle.td_query.specs.TrackerGrammar.{Said}
use Rattle.td_query.specs.TrackerLaws.{HaveBytes, IsSameTracker, TrackersAreOne, TrackersAreThere}
use Rattle.td_query.specs.TrackerLaws.{TrackersHoldAlike}
use Rattle.td_query.specs.Tracking.{IsTracker, Tracking}
use Rattle.td_query.specs.Truth.{is_found, truth}
use Rattle.td_query.specs.inner.Alike.{AreAlike, AreBytes}
use Rattle.td_query.proofs.AlikePatterns.{alike_all, same_patterns}

-- ---- 1. a text is of one tracker

-- what a text says is the same by both of its trackers
same_said : (file : List ℕ) (t u : Tracking) (is : IsTracker file t) (also : IsTracker file u)
    → also.says ≡ is.says
same_said file t u is also =
    let both : Ok also.says ≡ Ok is.says = sym also.read ∙ is.read in cc

same_sources : (file : List ℕ) (t u : Tracking) → IsTracker file t → IsTracker file u
    → t.sources ≡ u.sources
same_sources file t u is also =
    is.held.sources
    ∙ ap (λ (s : Said). map source_of s.log) (sym (same_said file t u is also))
    ∙ sym also.held.sources

match_alike : (file : List ℕ) (t u : Tracking) → IsTracker file t → IsTracker file u
    → AllZip SameCaptures t.patterns u.patterns
match_alike file t u is also =
    same_patterns t.sources t.patterns u.patterns is.compiled
    (subst (λ (texts : List (List ℕ)). AllZip IsReadAs texts u.patterns)
    (sym (same_sources file t u is also)) also.compiled)

pub trackers_are_one : TrackersAreOne
trackers_are_one file t u is also =
    let said : also.says ≡ is.says = same_said file t u is also in
    record {
      title = also.held.title ∙ ap (λ (s : Said). s.title) said ∙ sym is.held.title;
      affected = (let same : Some u.affected ≡ Some t.affected =
          sym also.held.affected ∙ ap (λ (s : Said). s.affected) said ∙ is.held.affected in cc);
      good = (let same : Some u.good ≡ Some t.good =
          sym also.held.good ∙ ap (λ (s : Said). s.good) said ∙ is.held.good in cc);
      bad = (let same : Some u.bad ≡ Some t.bad =
          sym also.held.bad ∙ ap (λ (s : Said). s.bad) said ∙ is.held.bad in cc);
      sources = sym (same_sources file t u is also);
      patterns = match_alike file t u is also;
    }

-- ---- 2. a tracker is there

each_read : (log : Log) → ArePatterns log → (ps : List Re) × AllZip IsReadAs (map source_of log) ps
each_read [] are = ([], tt)
each_read (r ∷ log) are =
    let rest : (ps : List Re) × AllZip IsReadAs (map source_of log) ps = each_read log are.1 in
    (meaning are.0.0 ∷ rest.0, ((are.0, refl), rest.1))

pub trackers_are_there : TrackersAreThere
trackers_are_there file s affected good bad said is_affected is_good is_bad are =
    let compiled : (ps : List Re) × AllZip IsReadAs (map source_of s.log) ps =
    each_read s.log are in (
      record {
        title = s.title;
        affected = affected;
        good = good;
        bad = bad;
        sources = map source_of s.log;
        patterns = compiled.0;
      },
      record {
        says = s;
        read = said;
        held = record {
          title = refl;
          affected = is_affected;
          good = is_good;
          bad = is_bad;
          sources = refl;
        };
        are_patterns = are;
        compiled = compiled.1;
      },
    )

-- ---- 3. a query holds by both trackers, or by neither

module _ (ps qs : List Re) (alike : AreAlike ps qs) (fields : List Entry)
    (bytes : HaveBytes fields) where
  found : (number : ℕ) (o : Option (List ℕ)) → ((value : List ℕ) → o ≡ Some value → AreBytes value)
      → option_map_or (λ value. is_found (slice_get ps number) value) o false
      ≡ option_map_or (λ value. is_found (slice_get qs number) value) o false
  found number None are = refl
  found number (Some value) are = alike number value (are value refl)

  hold_alike : (query : Shape) → truth ps fields query ≡ truth qs fields query
  hold_alike (always answer) = refl
  hold_alike (text field t) = refl
  hold_alike (pattern field number) = found number (value_of fields field) (bytes field)
  hold_alike (negated s) = ap not (hold_alike s)
  hold_alike (both s t) = ap₂ (λ a b. a && b) (hold_alike s) (hold_alike t)
  hold_alike (either s t) = ap₂ (λ a b. a || b) (hold_alike s) (hold_alike t)

pub trackers_hold_alike : TrackersHoldAlike
trackers_hold_alike file t u is also fields bytes query =
    sym (hold_alike t.patterns u.patterns
    (alike_all t.patterns u.patterns (match_alike file t u is also)) fields bytes query)

-- ---- 4. both trackers mark alike

-- with the same patterns, two trackers of one text mark each stanza alike
pub same_marks : (file : List ℕ) (t u : Tracking) → IsTracker file t → IsTracker file u
    → (patterns : List Re) → mark_by patterns u ≡ mark_by patterns t
same_marks file t u is also patterns =
    let same : IsSameTracker t u = trackers_are_one file t u is also in
    rw (same.affected, same.good, same.bad) refl

-- the patterns of two trackers of one text are found alike
pub alike_patterns : (file : List ℕ) (t u : Tracking) → IsTracker file t → IsTracker file u
    → AreAlike t.patterns u.patterns
alike_patterns file t u is also =
    alike_all t.patterns u.patterns (match_alike file t u is also)
