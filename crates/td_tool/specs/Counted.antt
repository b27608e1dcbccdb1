-- What a check counts, and the text that it writes. This project's own.
use Rattle.std.specs.Prelude.{ℕ, Bool, true, false, List, ◌++◌, length, codes, decimal}
use Rattle.td_text.specs.Lines.{lines_of, text_of}
use Rattle.td_details.specs.CutOff.{cut_lines, is_cut_off}
use Rattle.td_details.specs.Details.{details_lines}
use Rattle.td_details.specs.TrackerDetails.{tracker_lines}
use Rattle.td_relation.specs.TableFile.{IsTable}
use Rattle.td_indices.specs.Archive.{Contents, IsArchive}
use Rattle.td_indices.specs.Rows.{row_count}
use Rattle.td_query.specs.Tracking.{Tracking}
use Rattle.td_tool.specs.declared.early_texts.CutOff.{CutOff}

-- the line of these numbers of sources, binary packages and rows
abbrev pub line_of_counts : ℕ → ℕ → ℕ → List ℕ
line_of_counts sources binaries rows =
    codes "sources " ++ (decimal sources
    ++ (codes " binaries "
    ++ (decimal binaries ++ (codes " rows " ++ (decimal rows ++ codes "\n")))))

-- the line of an archive: its sources, its binary packages, and the rows with which a desk opens
abbrev pub counts_line : Contents → List ℕ
counts_line c = line_of_counts (length c.sources) (length c.binaries) (row_count c.table c.sources)

-- which of these two indices may be cut off
abbrev pub cut_in : List ℕ → List ℕ → CutOff
cut_in packages sources = record {
  packages = is_cut_off packages;
  sources = is_cut_off sources;
}

-- the details of an archive, and the warnings of those of its indices that may be cut off
abbrev pub details_text : CutOff → Contents → List ℕ
details_text cut c = text_of (details_lines c) ++ text_of (cut_lines cut.packages cut.sources)

-- what is said of an archive: that line, and after it the details if they are asked for
abbrev pub check_text : Bool → CutOff → Contents → List ℕ
check_text false cut c = counts_line c
check_text true cut c = counts_line c ++ details_text cut c

-- what is said of an archive and a tracker: with the details, and after them what the tracker asks
-- of the archive
abbrev pub tracked_text : CutOff → Contents → Tracking → List ℕ
tracked_text cut c t = check_text true cut c ++ text_of (tracker_lines c t)

-- the three texts are a table of architectures and the indices of this archive
pub record IsArchiveOf (archs packages sources : List ℕ) (c : Contents) : Type 0 where
  pub is_table : IsTable (lines_of archs) c.table
  pub is_archive : IsArchive c.table (lines_of packages) (lines_of sources) c
