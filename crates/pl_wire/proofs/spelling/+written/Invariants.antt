use Rattle.std.proofs.Common.{◌≡◌, ◌++◌, drop, map}
use Rattle.pl_wire.specs.Json.{joined, tokens_in, tokens_of}
use Rattle.pl_wire.proofs.spelling.+written.Given as goal

abbrev pub invariant-put_items-loop-item : goal.invariant-put_items-loop-item
invariant-put_items-loop-item l = record {
  tokens : l.writer.tokens ++ joined (map tokens_of (drop l.item-index l.items)) ≡
      l.fn.writer.tokens ++ joined (map tokens_of l.items);
  before : l.writer.before ≡ l.fn.writer.before;
}

abbrev pub invariant-put_members-loop-member : goal.invariant-put_members-loop-member
invariant-put_members-loop-member l = record {
  tokens : l.writer.tokens ++ joined (map tokens_in (drop l.member-index l.members)) ≡
      l.fn.writer.tokens ++ joined (map tokens_in l.members);
  before : l.writer.before ≡ l.fn.writer.before;
}
