-- `named`: the clause `keys`.
use Rattle.std.proofs.Common.{◌≡◌, ◌&&◌, [], ◌∙◌, ap}
use Rattle.std.specs.Prelude.{string_bytes}
use Rattle.std.specs.List.{list_any}
use Rattle.std.specs.Str.{bytes_eq}
use Rattle.td_wbread.specs.Naming.{is_named}
use Rattle.td_wbread.specs.Views.{parts_of}
use Rattle.td_naming.specs.Naming.{keys_at, named_in}
use Rattle.td_naming.proofs.Finding.{adds_same, named_all, named_same}
use Rattle.td_naming.proofs.Numbered.{rising_keys, ok_more}
use Rattle.td_naming.proofs.naming.named.Goals as goal

pub returns-clause-keys : goal.returns-clause-keys
returns-clause-keys c =
    let t = c.args.rows.now in
    let command = c.args.command.now in
    let found = keys_at t c.in_ok-numbers.numbers.items in
    let sorted = keys_at t c.sort_numbers.new.numbers.items in
    let is = named_all t found sorted (λ k. is_named (parts_of command) k.source k.arch)
    c.len-rising.ensures.rising
    (rising_keys t c.sort_numbers.new.numbers.items c.len-rising.ensures.rising
    c.sort_numbers.ensures.rising) (c.sort_numbers.ensures.same t)
    (adds_same t [] found (λ k.
    list_any (λ p. bytes_eq (string_bytes p.source) k.source) c.deref.result.now
    && list_any (λ a. bytes_eq a.now k.arch) c.deref-2.result.now)
    (λ k. is_named (parts_of command) k.source k.arch)
    (λ k. (λ j. list_any (λ p. bytes_eq (string_bytes p.source) k.source) (c.deref.ensures.value j)
    && list_any (λ a. bytes_eq a.now k.arch) (c.deref-2.ensures.value j))
    ∙ named_same command k.source k.arch)
    c.in_ok-numbers.ensures) in
    ok_more (λ keys. keys.items ≡ keys_at t c.deref-3.result.now)
    (λ keys. keys.items ≡ named_in (parts_of command) t) c.keys_of.result
    (λ keys e. e ∙ ap (keys_at t) c.deref-3.ensures.value ∙ is) c.keys_of.ensures
