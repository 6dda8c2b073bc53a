use Rattle.pl_template.proofs.Closing.{is_end, may_cut_before, begins_closing, is_split}
use Rattle.pl_template.proofs.ends.split_closing.Goals as goal

pub split_at-requires : goal.split_at-requires
split_at-requires c = may_cut_before _ _ (is_end _ _ c.in_ok-count.ensures)

pub skip_closing-requires : goal.skip_closing-requires
skip_closing-requires c =
    begins_closing _ _ _ (is_end _ _ c.in_ok-count.ensures) c.split_at.ensures.back

pub returns : goal.returns
returns c = is_split _ _ _ _ _ (is_end _ _ c.in_ok-count.ensures) c.split_at.ensures.front
    c.split_at.ensures.back c.skip_closing.ensures
