use Rattle.std.proofs.Common.{◌≡◌, ◌-◌, ◌++◌, [], ◌∷◌, Some, None, Ok, refl, sym, ap, ◌∙◌}
use Rattle.std.specs.Option.{option_map}
use Rattle.std.proofs.lemmas.Result.{err_from_is_err_and}
use Rattle.pl_base.specs.declared.node.NodeBody.TheVariants.{Map}
use Rattle.pl_base.specs.Places.{place_at}
use Rattle.pl_line.specs.Lines.{row}
use Rattle.pl_reading.specs.Steps.{◌>>=◌}
use Rattle.pl_line.specs.Trees.{pair_of}
use Rattle.pl_yaml.specs.Keys.{found_key, next_key}
use Rattle.pl_yaml.specs.Stack.{pairs_from, found, node_from}
use Rattle.pl_yaml.proofs.Laws.Many.{bind_bind, pairs_stop, pairs_break, pairs_end, pairs_go}
use Rattle.pl_yaml.proofs.entries.next_of_mapping.Goals as goal

pub returns-in_err-key-clause-gives : goal.returns-in_err-key-clause-gives
returns-in_err-key-clause-gives c = λ turns some.
    let m = c.args.mapping.now in
    let p = err_from_is_err_and c.from_residual.result c.from_residual.ensures.1 in
    rw (p.1, p.2)
    (pairs_stop c.args.file.now m turns m.pairs.pairs c.args.reader.now some c.in_err-key.field-0.0
    c.in_err-key.ensures.gives)

pub returns-in_default-clause-gives : goal.returns-in_default-clause-gives
returns-in_default-clause-gives c = λ turns some.
    let m = c.args.mapping.now in
    let none : next_key c.args.file.now m.depth m.start.column c.args.reader.now ≡
    Ok (None, c.next_key.new.reader) =
    c.in_ok-key.ensures.gives ∙ ap (λ f. Ok (option_map found_key f, c.next_key.new.reader))
    c.in_default.is
    in
    pairs_end c.args.file.now m turns m.pairs.pairs c.args.reader.now some c.next_key.new.reader
    (node_from c.args.file.now m.start (Map m.pairs.pairs)) none refl

pub returns-in_err-found-clause-gives : goal.returns-in_err-found-clause-gives
returns-in_err-found-clause-gives c = λ turns some.
    let m = c.args.mapping.now in
    let p = err_from_is_err_and c.from_residual-in_err-found.result
    c.from_residual-in_err-found.ensures.1 in
    let key : next_key c.args.file.now m.depth m.start.column c.args.reader.now ≡
    Ok (Some (found_key c.in-Some.key), c.next_key.new.reader) =
    c.in_ok-key.ensures.gives ∙ ap (λ f. Ok (option_map found_key f, c.next_key.new.reader))
    c.in-Some.is
    in
    rw (p.1, p.2)
    (pairs_break c.args.file.now m turns m.pairs.pairs c.args.reader.now some c.next_key.new.reader
    (found_key c.in-Some.key)
    c.in_err-found.field-0.0 key c.in_err-found.ensures.gives)

pub returns-clause-gives : goal.returns-clause-gives
returns-clause-gives c = λ turns some.
    let m = c.args.mapping.now in
    let file = c.args.file.now in
    let key : next_key file m.depth m.start.column c.args.reader.now ≡
    Ok (Some (found_key c.in-Some.key), c.next_key.new.reader) =
    c.in_ok-key.ensures.gives ∙ ap (λ f. Ok (option_map found_key f, c.next_key.new.reader))
    c.in-Some.is
    in
    pairs_go file m turns m.pairs.pairs c.args.reader.now some c.next_key.new.reader
    (found_key c.in-Some.key) key
    ∙ ap (λ r. r >>= λ read. pairs_from file m (turns - 1) (m.pairs.pairs ++ read.0 ∷ []) read.1)
    c.in_ok-found.ensures.gives
    ∙ bind_bind (found file c.in_ok-found.found c.pair.new.reader)
    (λ value. Ok (pair_of file (row c.in-Some.key.start) c.in-Some.key.text value.0, value.1))
    (λ read. pairs_from file m (turns - 1) (m.pairs.pairs ++ read.0 ∷ []) read.1)
    ∙ ap (λ start. found file c.in_ok-found.found c.pair.new.reader >>=
    λ value. pairs_from file m (turns - 1)
    (m.pairs.pairs ++ record {
      key = c.in-Some.key.text;
      key_place =
          place_at file start.line start.column;
      item = value.0;
    } ∷ []) value.1)
    (sym c.start_of-mapping.ensures)
