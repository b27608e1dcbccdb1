-- `Archive::read`: the archive of both texts, of which the stanzas are found first.
use Rattle.std.proofs.Common.{ℕ, List, subst}
use Rattle.td_text.specs.Lines.{lines_of}
use Rattle.td_relation.specs.TableView.{table}
use Rattle.td_indices.specs.Archive.{IsRead}
use Rattle.td_indices.proofs.archive.Archive.read.Goals as goal

pub returns : goal.returns
returns g c =
    let t = table c.args.archs.now in
    subst (λ (s : List ℕ). IsRead t (lines_of c.args.packages.now) (lines_of s) c.of_texts.result)
    c.read-sources.ensures
    (subst (λ (p : List ℕ). IsRead t (lines_of p) (lines_of c.read-sources.result)
    c.of_texts.result) c.read-packages.ensures c.of_texts.ensures)
