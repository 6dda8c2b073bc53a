use Rattle.std.proofs.Common.{◌∙◌}
use Rattle.std.specs.Prelude.{string_bytes, option_to_list}
use Rattle.std.specs.Option.{option_map}
use Rattle.pl_yaml.specs.BlockScalars.{text_line}
use Rattle.pl_yaml.proofs.Laws.BlockScalars.{text_goes}
use Rattle.pl_yaml.proofs.block_text.block_text.Goals as goal

pub loop-next-preserved : goal.loop-next-preserved
loop-next-preserved c = record {
  gives =
      text_goes c.args.folded c.args.chomping (string_bytes c.loop-next.text)
      (string_bytes c.push_line.new.text) (string_bytes c.push_break.new.text)
      (option_to_list c.break_before.result)
      (text_line c.in-Some.line) c.loop-next.after c.next.new.self
      (option_map text_line c.next_behind-next.result) c.in-Some.ensures
      c.next_behind-next.ensures c.break_before.ensures
      c.in_ok-push_line.ensures c.in_ok-push_break.ensures
      ∙ c.loop-next.invariant.gives;
  next = c.next_behind-next.ensures;
}
