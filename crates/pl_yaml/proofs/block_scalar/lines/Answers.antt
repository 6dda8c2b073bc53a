use Rattle.std.proofs.Common.{◌≡◌, ◌∷◌, take, drop, length, ap, sym, ◌∙◌, arith}
use Rattle.std.proofs.lemmas.List.{drop-drop}
use Rattle.pl_line.specs.Lines.{row}
use Rattle.pl_yaml.specs.BlockScalars.{text_lines, lines}
use Rattle.pl_yaml.proofs.Laws.BlockScalars.{prefixed, line_read}
use Rattle.pl_yaml.proofs.Laws.Content.{size_drop}
use Rattle.pl_yaml.proofs.block_scalar.lines.Goals as goal

pub loop-line-preserved : goal.loop-line-preserved
loop-line-preserved c =
    let start = c.args.reader.now in
    let is : c.loop-line.reader ≡ row c.in-Some.line ∷ drop 1 c.loop-line.reader =
    c.in-Some.ensures in
    record {
      gives =
          ap (λ n. prefixed (take n (text_lines c.args.column start))
          (lines c.args.column c.advance.new.self)) c.in_ok-count.ensures
          ∙ line_read c.args.column c.loop-line.count start c.loop-line.reader c.advance.new.self
          (row c.in-Some.line) is c.loop-line.invariant.at c.advance.ensures
          (sym c.belongs.ensures ∙ c.if-not-belongs.false) c.in_ok-inside.ensures
          ∙ c.loop-line.invariant.gives;
      at = c.advance.ensures ∙ ap (drop 1) c.loop-line.invariant.at ∙ drop-drop 1 c.loop-line.count
          start ∙ ap (λ n. drop n start) (sym c.in_ok-count.ensures);
      within = omega (
        arith,
        c.in_ok-count.ensures,
        ap length is,
        ap length c.advance.ensures,
        c.loop-line.invariant.within,
      );
      falls =
          rw (c.advance.ensures)
          (omega (arith, size_drop c.loop-line.reader, c.loop-line.invariant.falls));
    }
