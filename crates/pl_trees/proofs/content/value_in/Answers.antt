use Rattle.std.proofs.Common.{sym, ap, ◌∙◌}
use Rattle.std.proofs.lemmas.Result.{IfOk-weaker}
use Rattle.serde_json.specs.Read.{read}
use Rattle.pl_trees.proofs.Whole.{data_is, data_none}
use Rattle.pl_trees.proofs.content.value_in.Goals as goal

pub returns-in-Ok : goal.returns-in-Ok
returns-in-Ok c =
    let told = c.in-Ok.ensures.cases in
    IfOk-weaker c.read_all.result _ _
    (λ value is. is ∙ ap read told.0 ∙ sym (data_is c.args.content.now told.1)) c.read_all.ensures

pub returns-in-Err : goal.returns-in-Err
returns-in-Err c = sym (data_none c.args.content.now c.in-Err.ensures.cases.0)
