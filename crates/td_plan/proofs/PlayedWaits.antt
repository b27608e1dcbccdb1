-- The commands by which a source waits: each place that waits is in exactly one of them, that of
-- its relation.
use Rattle.std.proofs.Common.{◌≡◌, ◌⊎◌, ℕ, ◌&&◌, ◌||◌, Bool, true, false, List, [], ◌∷◌, ◌++◌, map}
use Rattle.std.proofs.Common.{Some, refl, sym, ap, subst, ◌∙◌, inl, inr}
use Rattle.std.specs.Prelude.{filter, if◌then◌else◌}
use Rattle.std.specs.List.{Contains, list_any}
use Rattle.std.specs.Str.{bytes_eq}
use Rattle.std.proofs.lemmas.Bool.{cases_Bool, cond-true, cond-false, false_from_ne_true}
use Rattle.std.proofs.lemmas.Bool.{false≢true, or_from, or_left, or_right}
use Rattle.std.proofs.lemmas.Slice.Eq.{bytes_eq-Decides}
use Rattle.td_text.proofs.Anywhere.{any-push}
use Rattle.td_text.proofs.Chain.{list_any-map}
use Rattle.td_rows.specs.declared.key.Key.{Key}
use Rattle.td_rows.specs.declared.row.Row.{Row}
use Rattle.td_rows.specs.declared.state.State.TheVariants.{DepWait, NeedsBuild}
use Rattle.td_rows.specs.States.{waits_for}
use Rattle.td_indices.specs.Sources.{KeptSource}
use Rattle.td_indices.proofs.OfferLaws.{has_cases, has_first, has_more}
use Rattle.td_wbread.specs.Command.{CommandParts}
use Rattle.td_wbread.specs.declared.command.Verb.{Verb}
use Rattle.td_wbread.specs.declared.command.Verb.TheVariants.{Dw}
use Rattle.td_plan.specs.Plan.{WaitingAt, arch_names, is_alike}
use Rattle.td_plan.specs.PlayLaws.{dw_commands}
use Rattle.td_plan.specs.Premises.{Premises, arch_at, key_at, row_at}
use Rattle.td_plan.specs.ReadingLaws.{command_with}
use Rattle.td_plan.specs.Relations.{relation_of}
use Rattle.td_plan.proofs.Existing.{any-some, filter-has, has-filter, none_has, some-any}
use Rattle.td_plan.proofs.Played.{AllName, Goes, Unnamed, after, goes-by, is_for, matches}
use Rattle.td_plan.proofs.Played.{unnamed-append}

-- ---- 1. which keys a command of a source names

-- the architecture at a place is the key's
abbrev pub is_mine_at : Premises → Key → ℕ → Bool
is_mine_at p k place = bytes_eq (arch_at p.archive.table place) k.arch

-- none of another source
pub other-source : (s : KeptSource) (k : Key) (verb : Verb) (archs : List (List ℕ)) (text : List ℕ)
    → bytes_eq s.head.name k.source ≡ false → is_for (command_with verb s archs text) k ≡ false
other-source s k verb archs text other =
    ap (λ (b : Bool). (b || false) && list_any (λ a. bytes_eq a k.arch) archs) other

-- those of its own on its architectures
pub own-source : (p : Premises) (s : KeptSource) (k : Key) (verb : Verb) (places : List ℕ)
    (text : List ℕ) → s.head.name ≡ k.source
    → is_for (command_with verb s (arch_names p places) text) k ≡ list_any (is_mine_at p k) places
own-source p s k verb places text own =
    ap (λ (b : Bool). (b || false) && list_any (λ a. bytes_eq a k.arch) (arch_names p places))
    ((bytes_eq-Decides s.head.name k.source).1 own)
    ∙ list_any-map (λ a. bytes_eq a k.arch) (arch_at p.archive.table) places

-- the command by which a source waits at some places
abbrev pub dw_of : Premises → KeptSource → WaitingAt → List WaitingAt → CommandParts
dw_of p s w ws =
    command_with Dw s (arch_names p (map (λ (v : WaitingAt). v.place) ws)) (relation_of w.waits)

abbrev pub is_mine : Premises → Key → WaitingAt → Bool
is_mine p k w = is_mine_at p k w.place

dw-names : (p : Premises) (s : KeptSource) (k : Key) (w : WaitingAt) (ws : List WaitingAt)
    → s.head.name ≡ k.source → is_for (dw_of p s w ws) k ≡ list_any (is_mine p k) ws
dw-names p s k w ws own =
    own-source p s k Dw (map (λ (v : WaitingAt). v.place) ws) (relation_of w.waits) own
    ∙ list_any-map (is_mine_at p k) (λ (v : WaitingAt). v.place) ws

pub others-unnamed : (p : Premises) (s : KeptSource) (k : Key) (before ws : List WaitingAt)
    → bytes_eq s.head.name k.source ≡ false → Unnamed k (dw_commands p s before ws)
others-unnamed p s k before [] other = tt
others-unnamed p s k before (w ∷ ws) other =
    unnamed-append k (if list_any (is_alike w) before then []
    else dw_of p s w (filter (is_alike w) (w ∷ ws)) ∷ [])
    (dw_commands p s (before ++ w ∷ []) ws) (by (list_any (is_alike w) before))
    (others-unnamed p s k (before ++ w ∷ []) ws other)
  where
    by : (b : Bool)
        → Unnamed k (if b then [] else dw_of p s w (filter (is_alike w) (w ∷ ws)) ∷ [])
    by true = tt
    by false = (
      other-source s k Dw
          (arch_names p (map (λ (v : WaitingAt). v.place) (filter (is_alike w) (w ∷ ws))))
          (relation_of w.waits) other,
      tt,
    )

-- ---- 2. places of one relation

alike-is : (v w : WaitingAt) → is_alike v w ≡ true → relation_of v.waits ≡ relation_of w.waits
alike-is v w alike = (bytes_eq-Decides (relation_of v.waits) (relation_of w.waits)).0 alike

is-alike : (v w : WaitingAt) → relation_of v.waits ≡ relation_of w.waits → is_alike v w ≡ true
is-alike v w same = (bytes_eq-Decides (relation_of v.waits) (relation_of w.waits)).1 same

alike-any : (v w : WaitingAt) (ws : List WaitingAt) → relation_of v.waits ≡ relation_of w.waits
    → list_any (is_alike v) ws ≡ list_any (is_alike w) ws
alike-any v w ws same =
    ap (λ (r : List ℕ). list_any (λ (u : WaitingAt). bytes_eq r (relation_of u.waits)) ws) same

-- ---- 3. the commands of the key's source

-- a row that waits for a relation
abbrev pub waiting : Row → List ℕ → Row
waiting row text = record row { state = DepWait; dep_wait = text }

module _ (p : Premises) (s : KeptSource) (k : Key) (own : s.head.name ≡ k.source) where
  -- places whose relation was told before are in no later command
  pub told-before : (before ws : List WaitingAt)
      → ((v : WaitingAt) → Contains ws v → is_mine p k v ≡ true
      → list_any (is_alike v) before ≡ true) → Unnamed k (dw_commands p s before ws)
  told-before before [] told = tt
  told-before before (w ∷ ws) told =
      unnamed-append k (if list_any (is_alike w) before then []
      else dw_of p s w (filter (is_alike w) (w ∷ ws)) ∷ [])
      (dw_commands p s (before ++ w ∷ []) ws) (by (list_any (is_alike w) before) refl)
      (told-before (before ++ w ∷ []) ws (λ v has mine.
      any-push (is_alike v) before w
      ∙ or_left (list_any (is_alike v) before) (is_alike v w)
      (told v (has_more w ws v has) mine)))
    where
      by : (b : Bool) → list_any (is_alike w) before ≡ b
          → Unnamed k (if b then [] else dw_of p s w (filter (is_alike w) (w ∷ ws)) ∷ [])
      by true is = tt
      by false is = (
        false_from_ne_true (is_for (dw_of p s w (filter (is_alike w) (w ∷ ws))) k) (λ named.
            let found = any-some (is_mine p k) (filter (is_alike w) (w ∷ ws))
            (sym (dw-names p s k w (filter (is_alike w) (w ∷ ws)) own) ∙ named) in
            let kept = has-filter (is_alike w) (w ∷ ws) found.0 found.1 in
            false≢true (sym is ∙ alike-any w found.0 before (alike-is w found.0 kept.1)
            ∙ told found.0 kept.0 found.2)),
        tt,
      )

  module _ (fine : (archs : List (List ℕ)) (text : List ℕ) (row : Row)
      → matches p (command_with Dw s archs text) k row ≡ true) (mine : WaitingAt)
      (here : is_mine p k mine ≡ true) where
    -- a row that is to be built is told to wait, once
    pub told-once : (before ws : List WaitingAt) (row : Row) → row.state ≡ NeedsBuild
        → Contains ws mine
        → ((v : WaitingAt) → Contains ws v → is_mine p k v ≡ true
        → relation_of v.waits ≡ relation_of mine.waits)
        → list_any (is_alike mine) before ≡ false
        → Goes p (dw_commands p s before ws) k row (waiting row (relation_of mine.waits))
    told-once before [] row state has one fresh = absurd (none_has mine has)
    told-once before (w ∷ ws) row state has one fresh =
        by (list_any (is_alike w) before) refl (cases_Bool (is_alike w mine))
        (λ has fresh. told-once (before ++ w ∷ []) ws row state has
        (λ v there is. one v (has_more w ws v there) is) fresh)
      where
        text : List ℕ
        text = relation_of mine.waits

        alike : List WaitingAt
        alike = filter (is_alike w) (w ∷ ws)

        rest : List CommandParts
        rest = dw_commands p s (before ++ w ∷ []) ws

        other-later : is_alike w mine ≡ false → Contains ws mine
        other-later other = elim (has_cases w ws mine has) [
          | inl same ↦ absurd (false≢true (sym other
              ∙ is-alike w mine (ap (λ (v : WaitingAt). relation_of v.waits) same)))
          | inr later ↦ later
        ]

        other-fresh : is_alike w mine ≡ false → list_any (is_alike mine) (before ++ w ∷ []) ≡ false
        other-fresh other =
            any-push (is_alike mine) before w
            ∙ or_from (list_any (is_alike mine) before) (is_alike mine w) fresh
            (false_from_ne_true (is_alike mine w) (λ back.
            false≢true (sym other ∙ is-alike w mine (sym (alike-is mine w back)))))

        -- the command of the row's relation names the row
        named : is_alike w mine ≡ true → is_for (dw_of p s w alike) k ≡ true
        named like =
            dw-names p s k w alike own
            ∙ some-any (is_mine p k) alike mine (filter-has (is_alike w) (w ∷ ws) mine has like)
            here

        -- the command of another relation doesn't
        passed : is_alike w mine ≡ false → is_for (dw_of p s w alike) k ≡ false
        passed other = false_from_ne_true (is_for (dw_of p s w alike) k) (λ is.
            let found = any-some (is_mine p k) alike (sym (dw-names p s k w alike own) ∙ is) in
            let kept = has-filter (is_alike w) (w ∷ ws) found.0 found.1 in
            false≢true (sym other ∙ is-alike w mine
            (alike-is w found.0 kept.1 ∙ one found.0 kept.0 found.2)))

        told : is_alike w mine ≡ true
            → after (dw_of p s w alike) k row ≡ waiting row text
        told like =
            cond-true (is_for (dw_of p s w alike) k) (waiting row (relation_of w.waits)) row
            (named like)
            ∙ ap (waiting row) (alike-is w mine like)

        later-told : is_alike w mine ≡ true → Unnamed k rest
        later-told like = told-before (before ++ w ∷ []) ws (λ v there is.
            any-push (is_alike v) before w
            ∙ or_right (list_any (is_alike v) before) (is_alike v w)
            (is-alike v w (one v (has_more w ws v there) is ∙ sym (alike-is w mine like))))

        by : (b : Bool) → list_any (is_alike w) before ≡ b
            → (is_alike w mine ≡ true) ⊎ (is_alike w mine ≡ false)
            → (Contains ws mine → list_any (is_alike mine) (before ++ w ∷ []) ≡ false
            → Goes p rest k row (waiting row text))
            → Goes p ((if b then [] else dw_of p s w alike ∷ []) ++ rest) k row (waiting row text)
        by true is (inl like) later = absurd (false≢true (sym fresh
            ∙ alike-any mine w before (sym (alike-is w mine like)) ∙ is))
        by true is (inr other) later = later (other-later other) (other-fresh other)
        by false is (inl like) later = (
          (λ _. (
            fine (arch_names p (map (λ (v : WaitingAt). v.place) alike)) (relation_of w.waits) row,
            ap waits_for state,
          )),
          subst (λ (r : Row). Goes p rest k r (waiting row text)) (sym (told like))
              (goes-by p rest k (waiting row text) (later-told like)),
        )
        by false is (inr other) later = (
          (λ named. absurd (false≢true (sym (passed other) ∙ named))),
          subst (λ (r : Row). Goes p rest k r (waiting row text))
              (sym
              (cond-false (is_for (dw_of p s w alike) k) (waiting row (relation_of w.waits)) row
              (passed other)))
              (later (other-later other) (other-fresh other)),
        )

-- ---- 4. each command names a row

pub all-named : (p : Premises) (s : KeptSource) (before ws : List WaitingAt)
    → ((v : WaitingAt) → Contains ws v → (row : Row) × (row_at p s v.place ≡ Some row))
    → AllName p.rows (dw_commands p s before ws)
all-named p s before [] there = tt
all-named p s before (w ∷ ws) there =
    by (list_any (is_alike w) before)
    (all-named p s (before ++ w ∷ []) ws (λ v has. there v (has_more w ws v has)))
  where
    alike : List WaitingAt
    alike = filter (is_alike w) (w ∷ ws)

    by : (b : Bool) → AllName p.rows (dw_commands p s (before ++ w ∷ []) ws)
        → AllName p.rows ((if b then [] else dw_of p s w alike ∷ [])
        ++ dw_commands p s (before ++ w ∷ []) ws)
    by true later = later
    by false later =
        let row = there w (has_first w ws) in (
          record {
            key = key_at p s w.place;
            row = row.0;
            there = row.1;
            named = dw-names p s (key_at p s w.place) w alike refl
                ∙ some-any (is_mine p (key_at p s w.place)) alike w
                (filter-has (is_alike w) (w ∷ ws) w (has_first w ws) (is-alike w w refl))
                ((bytes_eq-Decides (arch_at p.archive.table w.place)
                (arch_at p.archive.table w.place)).1 refl);
          },
          later,
        )
