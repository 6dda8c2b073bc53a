use Rattle.std.proofs.Common.{refl}
use Rattle.std.proofs.lemmas.List.{take_more}
use Rattle.std.proofs.lemmas.Slice.Zip.{all_zipped_more}
use Rattle.pl_seeing.proofs.seeing.seen_rows.Goals as goal

pub loop-row-preserved : goal.loop-row-preserved
loop-row-preserved c = record {
  seen = rw (
    take_more _ _ c.row-item.result c.loop-row-test.true,
    ← c.row-item.is,
    c.in_ok-push.ensures.items,
  )
      (all_zipped_more _ _ _ _ _ c.loop-row.invariant.seen (record {
        same = refl;
        read = c.in_ok-kept.ensures;
        made = c.in_ok-compiled.ensures.made;
      }));
  own = c.in_ok-compiled.ensures.own;
}
