-- How a check ends, with a tracker or without. This project's own.
use Rattle.std.specs.Prelude.{ℕ, Bool, List, Option, Some, None}
use Rattle.td_bytes.specs.declared.text.TextFault.{TextFault}
use Rattle.td_words.specs.CheckWords.{CheckWords}
use Rattle.td_tool.specs.Checks.{Checks, Files, files_of}
use Rattle.td_tool.specs.Tracks.{EndsBy, TrackFiles, details_of, track_files}
use Rattle.td_tool.specs.declared.ending.Ending.{Ending}

-- the files of the check that the words ask for
abbrev pub check_files : (List ℕ → Option (List ℕ)) → (List ℕ → TextFault → Bool) → CheckWords
    → Files
check_files bytes can_fail w = files_of bytes can_fail w.archs w.packages w.sources

-- those files, and the tracker's
abbrev pub tracked_files : (List ℕ → Option (List ℕ)) → (List ℕ → TextFault → Bool) → CheckWords
    → List ℕ → TrackFiles
tracked_files bytes can_fail w tracker =
    track_files bytes can_fail w.archs w.packages w.sources None tracker

-- the check that the words ask for ends so: with a tracker as the text that this says over the
-- archive, which has the details; words with a tracker ask for these
abbrev pub CheckEndsWith : Option (List ℕ) → (List ℕ → Option (List ℕ))
    → (List ℕ → TextFault → Bool) → CheckWords → Option (List ℕ) → Option (List ℕ) → Ending
    → Type 0
CheckEndsWith None bytes can_fail w old new ending =
    Checks w.details (check_files bytes can_fail w) old new ending
CheckEndsWith (Some tracker) bytes can_fail w old new ending =
    EndsBy details_of (tracked_files bytes can_fail w tracker) old new ending

abbrev pub CheckEnds : (List ℕ → Option (List ℕ)) → (List ℕ → TextFault → Bool) → CheckWords
    → Option (List ℕ) → Option (List ℕ) → Ending → Type 0
CheckEnds bytes can_fail w old new ending =
    CheckEndsWith w.tracker bytes can_fail w old new ending
