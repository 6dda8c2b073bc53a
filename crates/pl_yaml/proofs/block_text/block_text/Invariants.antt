use Rattle.std.proofs.Common.{◌≡◌, ◌++◌, length}
use Rattle.std.specs.Prelude.{string_bytes, encode_utf8_all}
use Rattle.std.specs.Option.{option_map}
use Rattle.pl_yaml.specs.BlockScalars.{text_line, next_line, block_text}
use Rattle.pl_yaml.proofs.block_text.block_text.Given as goal

abbrev pub invariant-loop-next : goal.invariant-loop-next
invariant-loop-next l = record {
  gives : string_bytes l.text ++ encode_utf8_all (block_text l.folded l.chomping l.after) ≡
      encode_utf8_all (block_text l.folded l.chomping l.fn.lines);
  next : option_map text_line l.next ≡ next_line l.after;
}

abbrev pub decreases-loop-next : goal.decreases-loop-next
decreases-loop-next l = length l.after
