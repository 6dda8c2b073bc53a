use Rattle.std.proofs.Common.{false, true, ap, ◌∙◌}
use Rattle.std.specs.List.{filter}
use Rattle.pl_file_sets.specs.Tries.{is_on_side}
use Rattle.pl_file_sets.proofs.Tries.{parted_tells}
use Rattle.pl_file_sets.proofs.trie.parted.Goals as goal

pub returns : goal.returns
returns c =
    parted_tells c.args.bit c.args.files c.in_ok-low-2.low c.in_ok-high-2.high c.in_ok-low.low
    c.in_ok-high.high c.in_ok-low-2.ensures c.in_ok-high-2.ensures
    (c.in_ok-low.ensures
    ∙ ap (filter (λ file. is_on_side false c.args.bit file.key)) c.as_slice.ensures)
    (c.in_ok-high.ensures
    ∙ ap (filter (λ file. is_on_side true c.args.bit file.key)) c.as_slice-2.ensures)
