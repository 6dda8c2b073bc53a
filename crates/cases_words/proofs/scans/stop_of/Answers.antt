use Rattle.std.proofs.Common.{[], arith, subst, List, ℕ}
use Rattle.pl_scan.specs.Scans.{Follows}
use Rattle.pl_scan.proofs.Following.{follows_on}
use Rattle.cases_words.proofs.scans.stop_of.Goals as goal

pub loop-init : goal.loop-init
loop-init c = record { follows = c.new-scanner.ensures []; within = omega arith }

pub loop-preserved : goal.loop-preserved
loop-preserved c =
    let scanner = c.advance.new.self in
    let follows =
    subst (λ (b : List ℕ). Follows scanner b) c.split_at.ensures.front c.advance.ensures.follows in
    record {
      follows =
          follows_on scanner c.args.bytes.now c.loop.len c.min-len.result
          (omega arith) (omega arith) follows;
      within = omega arith;
    }
