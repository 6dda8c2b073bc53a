use Rattle.std.proofs.Common.{◌≡◌, false, ◌∙◌, sym, drop, arith}
use Rattle.std.specs.Prelude.{string_bytes}
use Rattle.pl_line.specs.Lines.{row}
use Rattle.pl_line.specs.Left.{is_bare, is_comment}
use Rattle.pl_yaml.proofs.Laws.Content.{size_drop}
use Rattle.pl_yaml.proofs.Laws.Plain.{further_ends, further_more}
use Rattle.pl_yaml.proofs.scalar.further.Goals as goal

pub returns-then-len-clause-gives : goal.returns-then-len-clause-gives
returns-then-len-clause-gives c =
    let line = c.in-Some.line in
    let bare : is_bare (row line) ≡ false = sym c.is_bare.ensures ∙ c.if-is_bare.false in
    let comment : is_comment (row line) ≡ false = sym c.is_comment.ensures ∙
    c.if-is_comment.false in
    sym c.loop-line.invariant.gives
    ∙ further_ends (string_bytes c.loop-line.text) (string_bytes c.push_folded.new.text)
    (string_bytes c.push_part.new.text) c.args.parent c.loop-line.last c.in_ok-len.len
    (row line)
    c.loop-line.reader (drop 1 c.loop-line.reader) c.advance-in-Some.new.self c.in-Some.ensures
    c.advance-in-Some.ensures bare comment c.in_ok-stands.ensures (omega arith)
    c.in_ok-len.ensures.gives
    c.in_ok-push_folded.ensures c.in_ok-push_part.ensures (omega arith)

pub loop-line-preserved : goal.loop-line-preserved
loop-line-preserved c =
    let line = c.in-Some.line in
    let bare : is_bare (row line) ≡ false = sym c.is_bare.ensures ∙ c.if-is_bare.false in
    let comment : is_comment (row line) ≡ false = sym c.is_comment.ensures ∙
    c.if-is_comment.false in
    record {
      gives =
          further_more (string_bytes c.loop-line.text) (string_bytes c.push_folded.new.text)
          (string_bytes c.push_part.new.text) c.args.parent c.loop-line.last c.in_ok-len.len
          (row line)
          c.loop-line.reader (drop 1 c.loop-line.reader) c.advance-in-Some.new.self
          c.in-Some.ensures c.advance-in-Some.ensures bare comment c.in_ok-stands.ensures
          (omega arith) c.in_ok-len.ensures.gives
          c.in_ok-push_folded.ensures c.in_ok-push_part.ensures c.in_ok-len.ensures.within
          (omega arith)
          ∙ c.loop-line.invariant.gives;
      falls = grind (arith, size_drop);
    }
