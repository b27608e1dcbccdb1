-- `put_sent_line`: its two parts are its line.
use Rattle.std.proofs.Common.{◌≡◌, ◌++◌, ◌∷◌, ℕ, List, map, ap, ◌∙◌}
use Rattle.std.specs.Prelude.{codes}
use Rattle.std.specs.String.{string_bytes}
use Rattle.std.proofs.lemmas.Result.{on_ok_weaker}
use Rattle.td_rows.specs.declared.key.Key.{Key}
use Rattle.td_supply.specs.Supply.{version_of}
use Rattle.td_lasting.specs.Sending.{arch_words, options, package_word, suite_words, verb_words}
use Rattle.td_lasting.proofs.SentLines.{first_is, line_put}
use Rattle.td_lasting.proofs.sending.put_sent_line.Goals as goal

pub returns-clause-ok : goal.returns-clause-ok
returns-clause-ok c = λ k at.
    let supply = c.args.supply.now in
    let verb = verb_words c.args.kind.now in
    let before = string_bytes c.args.out.now in
    let source : c.source.result.now ≡ k.source =
    c.source.ensures.text
    ∙ ap (λ (q : Key). q.source)
    (first_is c.args.keys.now c.in-Some.first.now k c.in-Some.ensures.value at) in
    on_ok_weaker c.put_back.result
    (λ put. line_put verb (package_word k.source (version_of supply k.source))
    (arch_words supply.table c.args.keys.now) (suite_words (map (λ s. s.now) c.args.suites.now))
    (options c.args.kind.now) before (string_bytes c.put_front.new.out)
    (string_bytes c.put_back.new.out)
    (c.in_ok-put_front.ensures.ok
    ∙ ap (λ (l : List ℕ).
    before ++ (verb ++ 32 ∷ (package_word l (version_of supply l) ++ codes " ."))) source)
    put) c.put_back.ensures.ok
