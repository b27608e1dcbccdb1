-- The words of the states. This project's own, in the style of wanna-build.
use Rattle.std.specs.Prelude.{ℕ, ◌<◌, ◌^◌, ◌-◌, List, ◌++◌, Option, Some, codes, decimal}
use Rattle.std.specs.Prelude.{if◌then◌else◌}
use Rattle.std.specs.Str.{bytes_eq}
use Rattle.td_text.specs.Chain.{◌>>=◌}
use Rattle.td_text.specs.Cut.{strip}
use Rattle.td_text.specs.Numbers.{number_at}
use Rattle.td_rows.specs.declared.state.State.{State}
use Rattle.td_rows.specs.declared.state.State.TheVariants.{NeedsBuild, Building, Built, Uploaded}
use Rattle.td_rows.specs.declared.state.State.TheVariants.{Installed, DepWait, BdUninstallable}
use Rattle.td_rows.specs.declared.state.State.TheVariants.{BuildAttempted, Failed, NotForUs}

-- how a state is written
abbrev pub state_word : State → List ℕ
state_word NeedsBuild = codes "Needs-Build"
state_word (Building builder) = codes "Building=" ++ decimal builder
state_word Built = codes "Built"
state_word Uploaded = codes "Uploaded"
state_word Installed = codes "Installed"
state_word DepWait = codes "Dep-Wait"
state_word BdUninstallable = codes "BD-Uninstallable"
state_word BuildAttempted = codes "Build-Attempted"
state_word Failed = codes "Failed"
state_word NotForUs = codes "Not-For-Us"

-- a state that can be written: a builder's number has 64 bits
abbrev pub StateFits : State → Type 0
StateFits (Building builder) = builder < 2 ^ 64
StateFits s = Unit {0}

-- the state that a word is
unfoldable pub state_at : List ℕ → Option State
state_at text =
    if bytes_eq text (codes "Needs-Build") then Some NeedsBuild
    else (if bytes_eq text (codes "Built") then Some Built
    else (if bytes_eq text (codes "Uploaded") then Some Uploaded
    else (if bytes_eq text (codes "Installed") then Some Installed
    else (if bytes_eq text (codes "Dep-Wait") then Some DepWait
    else (if bytes_eq text (codes "BD-Uninstallable") then Some BdUninstallable
    else (if bytes_eq text (codes "Build-Attempted") then Some BuildAttempted
    else (if bytes_eq text (codes "Failed") then Some Failed
    else (if bytes_eq text (codes "Not-For-Us") then Some NotForUs
    else (strip (codes "Building=") text >>= λ digits. number_at (2 ^ 64 - 1) digits >>= λ n.
    Some (Building n))))))))))
