use Rattle.std.proofs.Common.{◌≡◌, drop, ◌+◌, ◌-◌, Ok, Err, [], length, sym, ap, ap₂, ◌∙◌, arith}
use Rattle.std.specs.Prelude.{string_bytes}
use Rattle.std.proofs.lemmas.List.{drop-drop, length-drop}
use Rattle.pl_line.specs.Characters.{all_of}
use Rattle.pl_line.specs.Lines.{row}
use Rattle.pl_line.specs.Reading.{fault_behind}
use Rattle.pl_line.specs.Quoted.{pieces_of}
use Rattle.pl_line.proofs.Laws.Faults.{fails_as}
use Rattle.pl_line.proofs.Laws.Quotes.{pieces_seen}
use Rattle.pl_line.proofs.quotes.pieces.Goals as goal

pub loop-character-preserved : goal.loop-character-preserved
loop-character-preserved c =
    let inv = c.loop-character.invariant in
    let within = c.in-Character.ensures.within in
    let rest = c.in-Character.ensures.left in
    let left : length (all_of c.take_piece.new.rest) ≡
    length (all_of c.loop-character.rest) - c.in-Character.taken =
    ap length rest ∙ length-drop c.in-Character.taken (all_of c.loop-character.rest)
    in (
      inv.0 - 1,
      omega (arith, inv.1, within.0),
      omega (arith, inv.2),
      omega (arith, inv.3, within.1, left),
      rest ∙ ap (drop c.in-Character.taken) inv.4 ∙ drop-drop c.in-Character.taken
          c.loop-character.len (all_of c.args.line.now.text),
      ap (λ b. pieces_of c.args.style (row c.args.line.now) (inv.0 - 1) b
          (c.loop-character.len + c.in-Character.taken)) c.in_ok-push-in-Character.ensures.bytes
          ∙ sym (pieces_seen c.args.style (row c.args.line.now) inv.0
          (string_bytes c.loop-character.text) c.loop-character.len
          (all_of c.loop-character.rest) _
          (omega (arith, inv.1, inv.3)) inv.4 c.in-Character.ensures.value)
          ∙ inv.5,
    )

pub returns-in-Close-clause-gives : goal.returns-in-Close-clause-gives
returns-in-Close-clause-gives c =
    let inv = c.loop-character.invariant in
    sym inv.5
    ∙ pieces_seen c.args.style (row c.args.line.now) inv.0 (string_bytes c.loop-character.text)
    c.loop-character.len (all_of c.loop-character.rest) _
    (omega (arith, inv.1, inv.3)) inv.4 c.in-Close.ensures.value
    ∙ ap (λ t. Ok (t, c.loop-character.len + 1)) (sym c.from_string.ensures)

pub returns-in-BadEscape-clause-gives : goal.returns-in-BadEscape-clause-gives
returns-in-BadEscape-clause-gives c =
    let inv = c.loop-character.invariant in
    fails_as c.fault_behind.result _ (pieces_of c.args.style (row c.args.line.now)
    (length (all_of c.args.line.now.text)) [] 1) c.fault_behind.ensures
    (sym inv.5
    ∙ pieces_seen c.args.style (row c.args.line.now) inv.0 (string_bytes c.loop-character.text)
    c.loop-character.len (all_of c.loop-character.rest) _
    (omega (arith, inv.1, inv.3)) inv.4 c.in-BadEscape.ensures.value)

pub returns-in-Open-clause-gives : goal.returns-in-Open-clause-gives
returns-in-Open-clause-gives c =
    let inv = c.loop-character.invariant in
    fails_as c.fault_behind-in-Open.result _ (pieces_of c.args.style (row c.args.line.now)
    (length (all_of c.args.line.now.text)) [] 1) c.fault_behind-in-Open.ensures
    (sym inv.5
    ∙ pieces_seen c.args.style (row c.args.line.now) inv.0 (string_bytes c.loop-character.text)
    c.loop-character.len (all_of c.loop-character.rest) _
    (omega (arith, inv.1, inv.3)) inv.4 c.in-Open.ensures.value
    ∙ ap₂ (λ k n. Err (fault_behind k n (row c.args.line.now))) (sym c.end_code.ensures)
    (sym c.len.ensures))
