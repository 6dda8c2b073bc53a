use Rattle.std.proofs.Common.{map, refl}
use Rattle.pl_limits.proofs.Texts.{rising_by_bytes}
use Rattle.pl_limits.proofs.lists.rise_sorted.Goals as goal

pub returns : goal.returns
returns c =
    rising_by_bytes (λ text. text.now) (map (λ text. text.now) c.args.texts.items)
    c.args.texts.items c.sort.new.self.items c.rise_by_bytes.result refl
    c.in_ok-sort.ensures.permutation c.in_ok-sort.ensures.sorted
    (rw c.as_slice.ensures.value at c.rise_by_bytes.ensures)
