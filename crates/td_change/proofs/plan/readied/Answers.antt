-- `readied`: its loop.
use Rattle.std.proofs.Common.{◌≡◌, ◌+◌, ℕ, List, map, take, ap, ◌∙◌, arith}
use Rattle.std.specs.BTreeMap.{BTreeMap, insert_entry}
use Rattle.td_rows.specs.declared.key.Key.{Key}
use Rattle.td_rows.specs.declared.row.Row.{Row}
use Rattle.td_rows.specs.Keys.{key_cmp}
use Rattle.td_rows.specs.Kept.{texts_of}
use Rattle.td_rows.specs.Table.{IsAt}
use Rattle.td_change.specs.Inside.{ready}
use Rattle.td_change.proofs.Plans.{entries-next, no_row}
use Rattle.td_change.proofs.plan.readied.Goals as goal
use Rattle.td_change.proofs.plan.readied.Goals.{in-Some+in_ok-texts+in_ok-copy+in_ok-insert+in-Some-1}
use Rattle.td_change.proofs.plan.readied.Goals.{in-Some+in_ok-texts+in_ok-copy+in_ok-insert+in-None-1}
use Rattle.td_change.proofs.plan.readied.Goals.{in_default}

pub loop-key-preserved : goal.loop-key-preserved
loop-key-preserved c =
    let kind = c.args.kind.now in
    let t = c.args.rows.now in
    let ks = c.args.keys.now in
    let i = c.loop-key.key-index in
    let k = c.key-item.result in
    let next : (n : ℕ) (texts : Row) (copy : Key) (entries : List (Key × (ℕ × Row))) → IsAt t k n
    → texts ≡ texts_of kind → copy ≡ k
    → entries ≡ insert_entry key_cmp c.loop-key.made.entries copy (n, texts)
    → entries ≡ map (ready kind t) (take (i + 1) ks) =
    λ n texts copy entries at texts_are copied inserted.
    inserted ∙ ap (λ (q : Key). insert_entry key_cmp c.loop-key.made.entries q (n, texts)) copied
    ∙ entries-next kind t ks i k n texts c.loop-key.made.entries c.requires.rising
    c.len-rising.ensures.rising (omega arith) c.key-item.is at texts_are c.loop-key.invariant in
    elim c.match-number.branch [
      | in-Some+in_ok-texts+in_ok-copy+in_ok-insert+in-Some-1 w ↦
          ap (λ (m : BTreeMap Key (ℕ × Row)). m.entries) w.made-is
          ∙ next w.in-Some.number w.in_ok-texts.texts w.in_ok-copy.field-0 w.insert.new.self.entries
          w.in-Some.ensures.found w.in_ok-texts.ensures.texts w.in_ok-copy.ensures
          w.in_ok-insert.ensures.entries
      | in-Some+in_ok-texts+in_ok-copy+in_ok-insert+in-None-1 w ↦
          ap (λ (m : BTreeMap Key (ℕ × Row)). m.entries) w.made-is
          ∙ next w.in-Some.number w.in_ok-texts.texts w.in_ok-copy.field-0 w.insert.new.self.entries
          w.in-Some.ensures.found w.in_ok-texts.ensures.texts w.in_ok-copy.ensures
          w.in_ok-insert.ensures.entries
      | in_default w ↦
          absurd (no_row t ks i k c.requires.rows (omega arith) c.key-item.is
          w.in_default.ensures.absent)
    ]
