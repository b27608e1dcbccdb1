-- The paths of files: a file's own option gives it, or else a folder in which it has a name. This
-- project's own.
use Rattle.std.specs.Prelude.{ℕ, List, ◌++◌, Bool, true, Option, Some, None, option_map, codes}
use Rattle.std.specs.Prelude.{if◌then◌else◌}
use Rattle.std.specs.Option.{option_or}
use Rattle.clap.specs.Walk.{Row, first_of}

-- the path of the file with this name in a folder: `FOLDER/NAME`
abbrev pub in_folder : List ℕ → List ℕ → List ℕ
in_folder name folder = (folder ++ codes "/") ++ name

-- the folder that the options give, if they give one
abbrev pub folder_in : List Row → Option (List ℕ)
folder_in options = first_of (codes "folder") options

-- a path, if its file counts as being there
abbrev pub if_there : Bool → Option (List ℕ) → Option (List ℕ)
if_there there None = None
if_there there (Some path) = if there then Some path else None

-- the path of the file of this name: that of its own option, or else the one in the folder, which
-- counts only if the file is there
abbrev pub path_if : Bool → List ℕ → List Row → Option (List ℕ)
path_if there name options =
    option_or (first_of name options)
    (if_there there (option_map (in_folder name) (folder_in options)))

-- the path of a file that is needed: in the folder it counts whether it is there or not
abbrev pub path_in : List ℕ → List Row → Option (List ℕ)
path_in name options = path_if true name options

-- the text if a folder is given, and neither it nor an option has the tracker
abbrev pub tracker_said : List ℕ
tracker_said =
    codes
    "error: the following required arguments were not provided:\n  --tracker <FILE>\n\nFor more information, try '--help'.\n"
