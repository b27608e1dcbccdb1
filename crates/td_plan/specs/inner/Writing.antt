-- The lines of a source, by what it waits for as that lies in memory.
use Rattle.std.specs.Prelude.{ℕ, List, [], ◌∷◌, filter, map, slice_get}
use Rattle.std.specs.Borrow.{Bor}
use Rattle.std.specs.List.{flat_map}
use Rattle.std.specs.Option.{option_map_or}
use Rattle.td_relation.specs.Arch.{ArchWords}
use Rattle.td_rows.specs.declared.key.Key.{Key}
use Rattle.td_indices.specs.Sources.{KeptSource}
use Rattle.td_plan.specs.declared.waits.Wait.{Wait}
use Rattle.td_plan.specs.declared.waits.Waits.{Waits}
use Rattle.td_plan.specs.declared.words.Words.{Words as WordsHeld}
use Rattle.td_plan.specs.Lines.{Words, check_line, dw_line, no_wait_line}
use Rattle.td_plan.specs.Premises.{arch_at}
use Rattle.td_plan.specs.inner.Told.{Group}
use Rattle.td_plan.specs.inner.Waiting.{seen}

-- the message and the suite
abbrev pub seen_words : WordsHeld → Words
seen_words w = record { message = w.message.now; suite = w.suite.now }

-- the key of a source on the architecture at a place
abbrev pub key_on : List ArchWords → List ℕ → ℕ → Key
key_on table source place = record { source = source; arch = arch_at table place }

-- a comment for each wait for a package of an older version
abbrev pub checks_of : Key → List Wait → List (List ℕ)
checks_of k waits = map (λ v. check_line k v.name v.on) (filter (λ v. v.older) (map seen waits))

-- a comment for each source for which another can't be told to wait
abbrev pub no_waits_of : Key → List (Bor (List ℕ)) → List (List ℕ)
no_waits_of k waitless = map (λ on. no_wait_line k on.now) waitless

-- what a source waits for at a place
abbrev pub waits_at : List Waits → ℕ → List Wait
waits_at all place = option_map_or (λ w. w.waits.items) (slice_get all place) []

-- the sources for which another can't be told to wait at a place
abbrev pub waitless_at : List Waits → ℕ → List (Bor (List ℕ))
waitless_at all place = option_map_or (λ w. w.waitless.items) (slice_get all place) []

-- the comments of a place
abbrev pub checks_at : List ArchWords → List ℕ → List Waits → ℕ → List (List ℕ)
checks_at table source all place = checks_of (key_on table source place) (waits_at all place)

abbrev pub no_waits_at : List ArchWords → List ℕ → List Waits → ℕ → List (List ℕ)
no_waits_at table source all place =
    no_waits_of (key_on table source place) (waitless_at all place)

-- the line of one relation, with its comments after it
abbrev pub group_lines : Words → List ArchWords → KeptSource → List Waits → Group → List (List ℕ)
group_lines words table s all g =
    dw_line words s (map (arch_at table) g.places) g.relation
    ∷ flat_map (checks_at table s.head.name all) g.places
