use Rattle.std.proofs.Common.{◌≡◌, ◌-◌, Some, None, Ok, refl, ap, ◌∙◌}
use Rattle.std.specs.Option.{option_map}
use Rattle.std.proofs.lemmas.Result.{err_from_is_err_and}
use Rattle.pl_base.specs.declared.node.NodeBody.TheVariants.{Seq}
use Rattle.pl_line.specs.Lines.{row}
use Rattle.pl_reading.specs.Steps.{◌>>=◌}
use Rattle.pl_yaml.specs.declared.stack.Open.TheVariants as opens
use Rattle.pl_yaml.specs.Nodes.{next_item}
use Rattle.pl_yaml.specs.Stack.{into, node_from}
use Rattle.pl_yaml.proofs.Laws.Many.{items_stop, items_break, items_end, items_go}
use Rattle.pl_yaml.proofs.entries.next_of_sequence.Goals as goal

pub returns-in_err-line-clause-gives : goal.returns-in_err-line-clause-gives
returns-in_err-line-clause-gives c = λ turns some.
    let s = c.args.sequence.now in
    let p = err_from_is_err_and c.from_residual.result c.from_residual.ensures.1 in
    rw (p.1, p.2)
    (items_stop c.args.file.now s turns s.items c.args.reader.now some c.in_err-line.field-0.0
    c.in_err-line.ensures.gives)

pub returns-in_default-clause-gives : goal.returns-in_default-clause-gives
returns-in_default-clause-gives c = λ turns some.
    let s = c.args.sequence.now in
    let none : next_item s.parent s.start.column c.args.reader.now ≡
    Ok (None, c.next_item.new.reader) =
    c.in_ok-line.ensures.gives ∙ ap (λ f. Ok (option_map row f, c.next_item.new.reader))
    c.in_default.is
    in
    items_end c.args.file.now s turns s.items c.args.reader.now some c.next_item.new.reader
    (node_from c.args.file.now s.start (Seq s.items)) none refl

pub returns-in_err-found-clause-gives : goal.returns-in_err-found-clause-gives
returns-in_err-found-clause-gives c = λ turns some.
    let s = c.args.sequence.now in
    let p = err_from_is_err_and c.from_residual-in_err-found.result
    c.from_residual-in_err-found.ensures.1 in
    let found : next_item s.parent s.start.column c.args.reader.now ≡
    Ok (Some (row c.in-Some.line), c.next_item.new.reader) =
    c.in_ok-line.ensures.gives ∙ ap (λ f. Ok (option_map row f, c.next_item.new.reader))
    c.in-Some.is
    in
    rw (p.1, p.2)
    (items_break c.args.file.now s turns s.items c.args.reader.now some c.next_item.new.reader
    (row c.in-Some.line)
    c.in_err-found.field-0.0 found c.in_err-found.ensures.gives)

pub returns-clause-gives : goal.returns-clause-gives
returns-clause-gives c = λ turns some.
    let s = c.args.sequence.now in
    let found : next_item s.parent s.start.column c.args.reader.now ≡
    Ok (Some (row c.in-Some.line), c.next_item.new.reader) =
    c.in_ok-line.ensures.gives ∙ ap (λ f. Ok (option_map row f, c.next_item.new.reader))
    c.in-Some.is
    in
    items_go c.args.file.now s turns s.items c.args.reader.now some c.next_item.new.reader
    (row c.in-Some.line) found
    ∙ ap (λ r. r >>= into c.args.file.now (turns - 1) (opens.Sequence s))
    c.in_ok-found.ensures.gives
