-- Patterns, one after another.
use Rattle.std.proofs.Common.{◌≡◌, ℕ, suc, ◌+◌, ◌-◌, ◌<◌, List, [], ◌∷◌, ◌++◌, length, get_or, take}
use Rattle.std.proofs.Common.{drop, map, refl, sym, ap, ◌∙◌}
use Rattle.std.proofs.lemmas.List.{take-append-drop, take_more, map-append}
use Rattle.std.proofs.Math.Seq.{drop-cons}
use Rattle.regex.specs.Failures.{IsPattern}
use Rattle.regex.specs.Patterns.{default_config}
use Rattle.regex.specs.Strings.{regex_source}
use Rattle.regex.specs.declared.string.regex.Regex.{Regex}
use Rattle.td_query.specs.declared.read_fault.RawPattern.{RawPattern}
use Rattle.td_query.specs.QueryGrammar.{Raw, Log}
use Rattle.td_query.specs.Sources.{source_of, AreDefault, ArePatterns, IsDefault}
use Rattle.td_query.specs.Sources.{IsRefusedForCause}
use Rattle.td_query.specs.TrackerFaults.{IsFirstRefused}
use Rattle.td_query.specs.Views.{raw_of}

ArePatterns-push : (log : Log) (r : Raw) → ArePatterns log → IsPattern default_config (source_of r)
    → ArePatterns (log ++ r ∷ [])
ArePatterns-push [] r h p = (p, tt)
ArePatterns-push (x ∷ log) r h p = (h.0, ArePatterns-push log r h.1 p)

-- if the grammar reads the patterns so far and the next, it reads all up to that one
pub more : (log : List RawPattern) (i : ℕ) (d : RawPattern) → i < length log
    → ArePatterns (map raw_of (take i log)) → IsPattern default_config
    (source_of (raw_of (get_or log i d))) → ArePatterns (map raw_of (take (i + 1) log))
more log i d h fine p =
    rw (take_more log i d h, map-append raw_of (take i log) (get_or log i d ∷ []))
    (ArePatterns-push (map raw_of (take i log)) (raw_of (get_or log i d)) fine p)

pub sources_more : (log : List RawPattern) (i : ℕ) (d : RawPattern) (rs ss : List Regex) (r : Regex)
    → i < length log → ss ≡ rs ++ r ∷ []
    → map regex_source rs ≡ map source_of (map raw_of (take i log)) → regex_source r ≡ source_of
    (raw_of (get_or log i d)) → map regex_source ss ≡ map source_of (map raw_of (take (i + 1) log))
sources_more log i d rs ss r h pushed so_far here =
    rw (
      pushed,
      take_more log i d h,
      map-append regex_source rs (r ∷ []),
      map-append raw_of (take i log) (get_or log i d ∷ []),
      map-append source_of
          (map raw_of (take i log)) (raw_of (get_or log i d) ∷ []),
      so_far,
      here,
    ) refl

-- if the patterns so far and one more are as `Regex::new` gives them, all are
AreDefault-push : (rs : List Regex) (r : Regex) → AreDefault rs
    → IsDefault r → AreDefault (rs ++ r ∷ [])
AreDefault-push [] r h p = (p, tt)
AreDefault-push (x ∷ rs) r h p = (h.0, AreDefault-push rs r h.1 p)

pub compiled_more : (rs ss : List Regex) (r : Regex) → ss ≡ rs ++ r ∷ [] → AreDefault rs
    → IsDefault r → AreDefault ss
compiled_more rs ss r pushed h p = rw pushed (AreDefault-push rs r h p)

-- the first pattern that is refused
pub refused_here : (size : ℕ) (log : List RawPattern) (i : ℕ) (d : RawPattern) (place : ℕ)
    → i < length log → ArePatterns (map raw_of (take i log))
    → IsRefusedForCause (source_of (raw_of (get_or log i d))) → place ≡ size - (get_or log i d).left
    → IsFirstRefused size (map raw_of log) place
refused_here size log i d place h fine bad is = record {
  before = map raw_of (take i log);
  at = raw_of (get_or log i d);
  after = map raw_of (drop (suc i) log);
  parts = ap (map raw_of) (sym (take-append-drop i log)
      ∙ ap (λ (l : List RawPattern). take i log ++ l) (drop-cons log i d h))
      ∙ map-append raw_of (take i log) (get_or log i d ∷ drop (suc i) log);
  fine = fine;
  refused = bad;
  there = is;
}
