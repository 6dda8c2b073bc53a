use Rattle.std.proofs.Common.{◌∙◌, ap, take}
use Rattle.pl_wire.proofs.Readings.{whole_message}
use Rattle.pl_wire.proofs.next.with_head.Goals as goal

pub returns : goal.returns
returns c =
    let h = c.requires in
    whole_message c.args.bytes.now c.args.head c.split_at-2.result.0.now c.in_ok-message.message h.0
    h.1 h.2
    (c.split_at-2.ensures.front ∙ ap (take c.args.head.content) c.split_at.ensures.back)
    c.split_at-2.ensures.front_len
    c.in_ok-message.ensures
