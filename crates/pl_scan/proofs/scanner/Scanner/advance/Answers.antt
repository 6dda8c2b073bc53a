use Rattle.pl_scan.proofs.Opening.{followed}
use Rattle.pl_scan.proofs.scanner.Scanner.advance.Goals as goal

pub returns-clause-partial : goal.returns-clause-partial
returns-clause-partial c truth =
    followed c.loop-self.self c.args.bytes.now c.loop-self.invariant.follows c.loop-self-test.false
    c.loop-self.invariant.short
