use Rattle.std.proofs.Common.{◌++◌, string_bytes, ◌∙◌, ap}
use Rattle.pl_wire.proofs.Gathered.{pieces}
use Rattle.pl_wire.proofs.written.front_text.Goals as goal

pub returns : goal.returns
returns c =
    let head = string_bytes c.in_ok-head.head in
    let kind = string_bytes c.in_ok-kind.kind in
    let len = string_bytes c.in_ok-len.len in
    pieces head (string_bytes c.push_str.new.self) (string_bytes c.push_str-2.new.self)
    (string_bytes c.push_str-3.new.self) kind len c.args.status c.args.len c.args.kind.now
    (c.in_ok-push_str.ensures.bytes ∙ ap (λ s. head ++ s) c.as_str.ensures.value)
    (c.in_ok-push_str-2.ensures.bytes ∙ ap (λ s. string_bytes c.push_str.new.self ++ s)
    c.as_str-2.ensures.value)
    c.in_ok-push_str-3.ensures.bytes c.in_ok-head.ensures c.in_ok-kind.ensures c.in_ok-len.ensures
