-- `Tracker::status`: what it answers.
use Rattle.std.proofs.Common.{◌≡◌, ◌∙◌, map, ap, sym, true, rules}
use Rattle.regex.specs.Strings.{matcher_pattern, regex_pattern}
use Rattle.td_relation.specs.Table.{place_of}
use Rattle.td_relation.specs.TableView.{table}
use Rattle.td_indices.specs.Archive.{has_row_at, number_named}
use Rattle.td_query.specs.Marks.{row_mark}
use Rattle.td_query.specs.Tracking.{tracking}
use Rattle.td_query.proofs.RowStatuses.{status_named, status_there}
use Rattle.td_query.proofs.tracker.Tracker.status.Goals as goal

pub returns : goal.returns
returns c =
    let a = c.args.archive.now in
    let t = tracking c.args.self.now in
    let source = c.in-Some.source in
    let place = c.in-Some-index.place in
    let some : has_row_at a source place ≡ true = search rules in
    let same : map matcher_pattern c.in_ok-matchers.matchers.items ≡ t.patterns =
    c.in_ok-matchers.ensures.patterns ∙ ap (map regex_pattern) c.as_slice.ensures.value in
    record {
      status = c.status.ensures.value
          ∙ status_there a t source place c.row_mark.result some
          (c.row_mark.ensures.mark ∙ ap (λ p. row_mark a p t source place) same)
          ∙ status_named a t c.args.key.now source place
          (ap (number_named a) (sym c.source.ensures.text) ∙ sym c.in-Some.ensures.number)
          (ap (λ tb. place_of tb c.args.key.now.arch) (sym c.archs.ensures)
          ∙ ap (place_of (table c.archs.result.now)) (sym c.arch.ensures.text)
          ∙ sym c.in-Some-index.ensures);
    }
