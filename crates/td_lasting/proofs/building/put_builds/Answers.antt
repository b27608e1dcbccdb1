-- `put_builds`: its two parts are the line that the builder is told.
use Rattle.std.proofs.Common.{◌≡◌, ◌++◌, ◌∷◌, [], ◌+◌, ℕ, List, length, ap, ◌∙◌}
use Rattle.std.specs.Prelude.{codes, decimal}
use Rattle.std.specs.String.{string_bytes}
use Rattle.std.proofs.lemmas.Result.{on_ok_weaker}
use Rattle.td_rows.specs.KeyText.{key_text}
use Rattle.td_rows.specs.Notes.{notes}
use Rattle.td_journal.specs.declared.entry.Marked.{Marked}
use Rattle.td_journal.specs.Entries.{standing}
use Rattle.td_lasting.specs.DeskAnswers.{built_version, message_of}
use Rattle.td_lasting.proofs.Messages.{builds_put}
use Rattle.td_lasting.proofs.building.put_builds.Goals as goal

pub returns-clause-ok : goal.returns-clause-ok
returns-clause-ok c = λ s same.
    let h = c.args.books.now.history in
    let key = c.args.key.now in
    let row = c.args.row.now in
    let before = string_bytes c.args.out.now in
    let mid = string_bytes c.put_built_key.new.out in
    let version = built_version s h key row in
    let message = message_of (standing h.journal) key in
    let version_is : c.as_str.result.now ≡ version =
    c.as_str.ensures.value ∙ c.in_ok-version.ensures s same in
    let message_is : c.message_of-message.result.now ≡ message =
    c.message_of-message.ensures
    ∙ ap (λ (ms : List Marked). message_of (standing ms) key) c.journal.ensures in
    on_ok_weaker c.put_build.result
    (λ put. builds_put (decimal (length h.journal + 1)) (key_text key) version
    (decimal row.number) (notes (row.extra, message)) before mid
    (string_bytes c.put_build.new.out)
    (c.in_ok-put_built_key.ensures.ok
    ∙ ap (λ (n : ℕ).
    before ++ (codes "entry " ++ (decimal n ++ (codes " builds " ++ (key_text key ++ 32 ∷ [])))))
    c.requires)
    (put
    ∙ ap (λ (v : List ℕ). mid ++ (v ++ 32 ∷ (decimal c.get.result
    ++ (notes (c.as_str-2.result.now, c.message_of-message.result.now) ++ 10 ∷ [])))) version_is
    ∙ ap (λ (n : ℕ). mid ++ (version ++ 32 ∷ (decimal n
    ++ (notes (c.as_str-2.result.now, c.message_of-message.result.now) ++ 10 ∷ []))))
    c.get.ensures.value
    ∙ ap (λ (e : List ℕ). mid ++ (version ++ 32 ∷ (decimal row.number
    ++ (notes (e, c.message_of-message.result.now) ++ 10 ∷ [])))) c.as_str-2.ensures.text
    ∙ ap (λ (m : List ℕ). mid ++ (version ++ 32 ∷ (decimal row.number
    ++ (notes (row.extra, m) ++ 10 ∷ [])))) message_is))
    c.put_build.ensures.ok
