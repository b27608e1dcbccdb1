-- What `Version::read` gives, as a function of the text.
use Rattle.std.proofs.Common.{◌≡◌, ℕ, List, Result, Ok, Err, sym}
use Rattle.std.specs.Prelude.{IfOk, IfErr}
use Rattle.td_version.specs.declared.version.Version.{Version}
use Rattle.td_version.specs.declared.version.VersionFault.{VersionFault}
use Rattle.td_version.specs.Version.{parts_of}
use Rattle.td_version.specs.Grammar.{IsVersion}
use Rattle.td_version.specs.Faults.{IsFirstFault}
use Rattle.td_version.specs.Reading.{parts_read, reading}
use Rattle.td_version.proofs.Outcomes.{read_only, read_refused}

pub read_is : (text : List ℕ) (r : Result Version VersionFault) → IfOk r (λ version. IsVersion text
    (parts_of version)) → IfErr r (λ fault. IsFirstFault text fault) → parts_read r ≡ reading text
read_is text (Ok version) found fault = sym (read_only text (parts_of version) found)
read_is text (Err e) found fault = sym (read_refused text e fault)
