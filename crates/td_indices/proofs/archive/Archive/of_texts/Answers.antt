-- `Archive::of_texts`: the archive of both texts.
use Rattle.td_text.specs.Lines.{lines_of}
use Rattle.td_indices.proofs.archive.Archive.of_texts.Goals as goal

pub returns : goal.returns
returns g c =
    c.of_indices.ensures (lines_of c.args.packages) (lines_of c.args.sources)
    c.read_indices-packages.ensures.packages c.read_indices-packages.ensures.sources
