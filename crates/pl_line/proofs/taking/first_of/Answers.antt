use Rattle.std.proofs.Common.{◌≡◌, ◌-◌, take, drop, length, ap, ◌∙◌, arith}
use Rattle.std.specs.Prelude.{chars, encode_utf8_all}
use Rattle.std.proofs.lemmas.List.{drop-drop}
use Rattle.pl_line.proofs.Laws.Taking.{took, bytes_fit, bytes_end, bytes_are}
use Rattle.pl_line.proofs.taking.first_of.Goals as goal

pub loop-preserved : goal.loop-preserved
loop-preserved c =
    took c.next.result (chars c.loop.rest.text.now) (chars c.next.new.self.text.now) c.next.ensures
    ∙ ap (drop 1) c.loop.invariant
    ∙ drop-drop 1 c.loop.counter (chars c.args.text.now)

pub overflow_sub-bytes : goal.overflow_sub-bytes
overflow_sub-bytes c =
    bytes_fit c.args.text.now c.text.result.now c.loop.counter c.utf8.text c.text.utf8
    (ap chars c.text.ensures ∙ c.loop.invariant)

pub range-requires-clause-end_boundary : goal.range-requires-clause-end_boundary
range-requires-clause-end_boundary c =
    bytes_end c.args.text.now c.text.result.now c.loop.counter c.utf8.text c.text.utf8
    (ap chars c.text.ensures ∙ c.loop.invariant)

pub returns : goal.returns
returns c =
    let all : c.loop.counter ≡ c.args.len = omega arith in
    let bytes : length c.args.text.now - length c.text.result.now - 0 ≡
    length c.args.text.now - length c.text.result.now = omega arith in
    c.range.ensures.value
    ∙ ap (λ n. take n c.args.text.now) bytes
    ∙ bytes_are c.args.text.now c.text.result.now c.loop.counter c.utf8.text c.text.utf8
    (ap chars c.text.ensures ∙ c.loop.invariant)
    ∙ ap (λ n. encode_utf8_all (take n (chars c.args.text.now))) all
