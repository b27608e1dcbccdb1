-- `put_package`: whether the version is written.
use Rattle.std.specs.String.{string_bytes}
use Rattle.td_lasting.proofs.PackageWords.{named, numbered, put_named, put_unnamed}
use Rattle.td_lasting.proofs.sending.put_package.Goals as goal

pub returns-in_ok-push_str-in-Some-clause-ok : goal.returns-in_ok-push_str-in-Some-clause-ok
returns-in_ok-push_str-in-Some-clause-ok c =
    put_named c.push_str-in-Some-2.result (string_bytes c.args.out.now)
    (string_bytes c.push_str.new.self) (string_bytes c.push_str-in-Some.new.self)
    (string_bytes c.push_str-in-Some-2.new.self) c.args.source.now c.in-Some.version.now _
    c.in_ok-push_str.ensures.bytes c.in_ok-push_str-in-Some.ensures.bytes
    c.push_str-in-Some-2.ensures.bytes c.in-Some.ensures.text
    (named c.in-Some.version.now c.split_rebuild.result.1 c.if-split_rebuild-eq0.true
    (λ base n is. (c.split_rebuild.ensures.only base n is).1))

pub returns-in_default-clause-ok : goal.returns-in_default-clause-ok
returns-in_default-clause-ok c =
    put_unnamed (string_bytes c.args.out.now) (string_bytes c.push_str.new.self) c.args.source.now
    c.in-Some.version.now _ c.in_ok-push_str.ensures.bytes c.in-Some.ensures.text
    (numbered c.in-Some.version.now c.split_rebuild.result.1 c.if-split_rebuild-eq0.false
    (λ base n is. (c.split_rebuild.ensures.only base n is).1))
