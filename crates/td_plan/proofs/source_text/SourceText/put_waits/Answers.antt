-- `SourceText::put_waits`: its calls, and what it appends.
use Rattle.std.proofs.Common.{◌≡◌, ◌<◌, ◌++◌, [], List, ap, ap₂, length, map, string_bytes, subst}
use Rattle.std.proofs.Common.{sym, ℕ, ◌∙◌}
use Rattle.std.specs.Prelude.{filter}
use Rattle.std.specs.List.{All, flat_map, range_with_len}
use Rattle.std.proofs.lemmas.Result.{on_ok_weaker}
use Rattle.td_text.specs.Lines.{text_of}
use Rattle.td_plan.specs.declared.relations.Told.{Told}
use Rattle.td_plan.specs.declared.waits.Waits.{Waits}
use Rattle.td_plan.specs.Plan.{is_waiting}
use Rattle.td_plan.specs.inner.Told.{groups, seen_told, waiting_from}
use Rattle.td_plan.specs.inner.Waiters.{kept_of}
use Rattle.td_plan.specs.inner.Writing.{group_lines, no_waits_at, seen_words}
use Rattle.td_plan.proofs.SourceSteps.{waits-lines}
use Rattle.td_plan.proofs.SourceTexts.{lines-then}
use Rattle.td_plan.proofs.SourceWaits.{told-below}
use Rattle.td_plan.proofs.source_text.SourceText.put_waits.Goals as goal

-- there are as many waits as places, and the relations are of them
pub put_all_told-requires : goal.put_all_told-requires
put_all_told-requires c =
    let limit = length c.args.self.now.archive.now.table in
    record {
      all = ap length c.deref-2.ensures.value ∙ c.in_ok-all.ensures.len;
      places =
          subst (λ (l : List Told). All (λ one. All (λ place. place < limit) one.places.items) l)
          (sym c.deref-3.ensures.value)
          (told-below c.in_ok-told.told.items c.in_ok-all.all.items limit c.in_ok-all.ensures.len
          (c.in_ok-told.ensures ∙ ap (λ (l : List Waits). groups [] (filter is_waiting
          (waiting_from 0 l))) c.deref.ensures.value));
    }

pub put_no_waits-requires : goal.put_no_waits-requires
put_no_waits-requires c = ap length c.deref-4.ensures.value ∙ c.in_ok-all.ensures.len

pub returns-clause-ok : goal.returns-clause-ok
returns-clause-ok c =
    let t = c.args.self.now in
    let m = c.args.mover.now in
    let words = seen_words t.words.now in
    let all = c.in_ok-all.all.items in
    let told = c.in_ok-told.told.items in
    let start = string_bytes c.args.out.now in
    let mid = string_bytes c.put_all_told.new.out in
    let groups_of = λ (a : List Waits) (l : List Told).
    flat_map (group_lines words t.archive.now.table (kept_of m) a) (map seen_told l) in
    let names_of = λ (a : List Waits). flat_map
    (no_waits_at t.archive.now.table m.source.name.now a) (range_with_len 0 (length a)) in
    let first : mid ≡ start ++ text_of (groups_of all told) =
    c.in_ok-put_all_told.ensures.ok
    ∙ ap₂ (λ (a : List Waits) (l : List Told). start ++ text_of (groups_of a l))
    c.deref-2.ensures.value c.deref-3.ensures.value in
    on_ok_weaker c.put_no_waits.result (λ more p x s is at.
    lines-then start mid (string_bytes c.put_no_waits.new.out) (groups_of all told)
    (names_of all) first
    (more ∙ ap (λ (a : List Waits). mid ++ text_of (names_of a)) c.deref-4.ensures.value)
    ∙ ap (λ (l : List (List ℕ)). start ++ text_of l)
    (waits-lines p x s t is m at words all told (c.in_ok-all.ensures.waits p x s is at)
    (c.in_ok-told.ensures ∙ ap (λ (l : List Waits). groups [] (filter is_waiting
    (waiting_from 0 l))) c.deref.ensures.value))) c.put_no_waits.ensures.ok
