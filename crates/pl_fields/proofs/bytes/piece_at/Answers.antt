use Rattle.std.proofs.Common.{◌≡◌, ◌≤◌, length, take, drop, rules, arith}
use Rattle.pl_fields.proofs.Front.{text_found, no_text_behind, no_text_counted}
use Rattle.pl_fields.proofs.bytes.piece_at.Goals as goal

pub returns-in_err-count : goal.returns-in_err-count
returns-in_err-count c = rw c.from_residual.ensures
    (no_text_counted c.args.bytes.now c.in_err-count.ensures)

pub returns-then-rest-count : goal.returns-then-rest-count
returns-then-rest-count c =
    no_text_behind c.args.bytes.now c.in_ok-count.count c.in_ok-count.rest.now
    c.in_ok-count.ensures.0 c.in_ok-count.ensures.1 c.if-rest-count.true

pub returns : goal.returns
returns c =
    text_found c.args.bytes.now c.in_ok-count.count c.in_ok-count.rest.now c.split_at.result.0.now
    c.split_at.result.1.now
    c.in_ok-count.ensures.0 c.in_ok-count.ensures.1 c.if-rest-count.false c.split_at.ensures.front
    c.split_at.ensures.back
