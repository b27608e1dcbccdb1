-- What was kept, given back past later entries that share no cell with it.
use Rattle.std.proofs.Common.{◌≡◌, Bool, true, false, List, [], ◌∷◌, Option, Some, None, option_map}
use Rattle.std.proofs.Common.{unwrap_or, if◌then◌else◌, ap, refl, sym, subst, ◌∙◌}
use Rattle.td_rows.specs.declared.key.Key.{Key}
use Rattle.td_rows.specs.declared.row.Row.{Row}
use Rattle.td_rows.specs.declared.kind.Kind.{Kind}
use Rattle.td_rows.specs.Blank.{blank}
use Rattle.td_rows.specs.Cells.{restore, Disjoint}
use Rattle.td_rows.specs.Keys.{names}
use Rattle.td_rows.specs.Kinds.{cells, written}
use Rattle.td_rows.specs.Meaning.{applies, means}
use Rattle.td_rows.specs.Table.{Table, row_of, meant, applied, fits}
use Rattle.td_rows.proofs.CellLaws.{restore-means, means-restore, applies-restore, Disjoint-written}
use Rattle.td_rows.proofs.Tables.{row_of-each_row, each_row-each_row, each_row-alike}
use Rattle.td_rows.proofs.Tables.{each_row-itself, each_row-agree}
use Rattle.td_rows.specs.GivenBack.{row_at, given_back}
use Rattle.td_change.specs.Laws.{Steps, after, Lawful, Untouched, BackAtOnce, BackPastOthers}
use Rattle.td_change.specs.Laws.{LawfulWithout}

pub back_at_once : BackAtOnce
back_at_once kind keys t up =
    each_row-each_row (meant kind keys)
    (λ k row. if names keys k then restore (written kind) (row_at t k) row else row) t
    ∙ each_row-agree _ (λ k r. r) t up agree
    ∙ each_row-itself t
  where
    agree : (k : Key) (r : Row) → row_of t k ≡ Some r
        → (if names keys k then restore (written kind) (row_at t k) (if names keys k
        then means kind r else r) else (if names keys k then means kind r else r)) ≡ r
    agree k r found =
        elim (names keys k) as (λ b.
        (if b then restore (written kind) (row_at t k) (if b then means kind r else r)
        else (if b then means kind r else r)) ≡ r) [
          | true ↦
              ap (λ (o : Option Row). restore (written kind) (unwrap_or o blank) (means kind r))
              found ∙ restore-means kind r
          | false ↦ refl
        ]

-- cells that a kind hasn't, kept of a row that both name, may be given back before it or after it
module _ (kind : Kind) (keys : List Key) (was : Table) where
  abbrev pub back : Key → Row → Row
  back k row = if names keys k then restore (written kind) (row_at was k) row else row

  pub applied-given_back : (other : Kind) (named : List Key) (t : Table) → ((k : Key)
      → names keys k ≡ true → names named k ≡ true → Disjoint (cells other) (cells kind))
      → applied other named (given_back (written kind) keys was t)
      ≡ given_back (written kind) keys was (applied other named t)
  applied-given_back other named t apart =
      each_row-each_row back (meant other named) t
      ∙ each_row-alike (λ k r. meant other named k (back k r))
      (λ k r. back k (meant other named k r)) t alike
      ∙ sym (each_row-each_row (meant other named) back t)
    where
      alike : (k : Key) (r : Row) → meant other named k (back k r) ≡ back k (meant other named k r)
      alike k r =
          elim (names keys k) as (λ b.
          names keys k ≡ b → (if names named k
          then means other (if b then restore (written kind) (row_at was k) r else r)
          else (if b then restore (written kind) (row_at was k) r else r))
          ≡ (if b then restore (written kind) (row_at was k)
          (if names named k then means other r else r)
          else (if names named k then means other r else r))) [
            | true ↦
                λ on. elim (names named k) as (λ b.
                names named k ≡ b → (if b then means other (restore (written kind) (row_at was k) r)
                else restore (written kind) (row_at was k) r)
                ≡ restore (written kind) (row_at was k) (if b then means other r else r)) [
                  | true ↦
                      λ here. means-restore other (written kind) (row_at was k) r
                      (Disjoint-written (cells other) kind (apart k on here))
                  | false ↦ λ _. refl
                ] refl
            | false ↦ λ _. refl
          ] refl

  pub fits-given_back : (other : Kind) (named : List Key) (t : Table) → ((k : Key)
      → names keys k ≡ true → names named k ≡ true → Disjoint (cells other) (cells kind))
      → (k : Key) → names named k ≡ true
      → fits (given_back (written kind) keys was t) other k ≡ fits t other k
  fits-given_back other named t apart k here =
      ap (λ o. elim o as (λ _. Bool) [ Some row ↦ applies other row | None ↦ false ])
      (row_of-each_row back t k)
      ∙ elim (row_of t k) as (λ o.
      (elim (option_map (back k) o) as (λ _. Bool) [ Some row ↦ applies other row | None ↦ false ])
      ≡ (elim o as (λ _. Bool) [ Some row ↦ applies other row | None ↦ false ])) [
        | Some r ↦ same r
        | None ↦ refl
      ]
    where
      same : (r : Row) → applies other (back k r) ≡ applies other r
      same r =
          elim (names keys k) as (λ b.
          names keys k ≡ b → applies other
          (if b then restore (written kind) (row_at was k) r else r) ≡ applies other r) [
            | true ↦
                λ on. applies-restore other (written kind) (row_at was k) r
                (Disjoint-written (cells other) kind (apart k on here))
            | false ↦ λ _. refl
          ] refl

  pub after-given_back : (steps : Steps) (t : Table) → Untouched kind keys steps → after steps
      (given_back (written kind) keys was t) ≡ given_back (written kind) keys was (after steps t)
  after-given_back [] t apart = refl
  after-given_back (s ∷ steps) t apart =
      ap (after steps) (applied-given_back s.0 s.1 t apart.0)
      ∙ after-given_back steps (applied s.0 s.1 t) apart.1

  pub Lawful-given_back : (steps : Steps) (t : Table) → Untouched kind keys steps → Lawful t steps
      → Lawful (given_back (written kind) keys was t) steps
  Lawful-given_back [] t apart law = tt
  Lawful-given_back (s ∷ steps) t apart law = (
    (λ k here. fits-given_back s.0 s.1 t apart.0 k here ∙ law.0 k here),
    subst (λ (u : Table). Lawful u steps) (sym (applied-given_back s.0 s.1 t apart.0))
        (Lawful-given_back steps (applied s.0 s.1 t) apart.1 law.1),
  )

pub back_past_others : BackPastOthers
back_past_others kind keys steps t up apart =
    sym (after-given_back kind keys t steps (applied kind keys t) apart)
    ∙ ap (after steps) (back_at_once kind keys t up)

pub lawful_without : LawfulWithout
lawful_without kind keys steps t up apart law =
    subst (λ (u : Table). Lawful u steps) (back_at_once kind keys t up)
    (Lawful-given_back kind keys t steps (applied kind keys t) apart law)
