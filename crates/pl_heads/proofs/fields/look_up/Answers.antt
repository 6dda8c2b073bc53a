use Rattle.pl_heads.proofs.FieldLemmas.{found_more}
use Rattle.pl_heads.proofs.fields.look_up.Goals as goal

pub loop-field-preserved : goal.loop-field-preserved
loop-field-preserved c =
    found_more c.args.bytes.now c.args.name.now c.args.fields.now c.loop-field.field-index
    c.loop-field.found
    c.after_field-found.result c.loop-field-test.true c.requires c.loop-field.invariant
    c.after_field-found.ensures
