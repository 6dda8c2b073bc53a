use Rattle.std.proofs.Common.{[], fold, ap, sym, ◌∙◌}
use Rattle.std.proofs.lemmas.List.Sums.{fold-append}
use Rattle.pl_base.specs.declared.value.Value.{out-Value}
use Rattle.pl_frame.specs.Variables.{placed, written_in, run_variables}
use Rattle.pl_frame.proofs.variables.variables_of.Goals as goal

pub returns : goal.returns
returns c =
    let written = written_in (out-Value c.args.value.now) in
    let run = run_variables c.args.git_ref.now in
    c.into_variables.ensures
    ∙ (c.in_ok-all.ensures
    ∙ (ap (λ text. fold placed c.in_ok-written.written.variables (run_variables text))
    c.as_str.ensures
    ∙ (ap (λ all. fold placed all run) (c.in_ok-written.ensures
    ∙ ap (λ none. fold placed none written) c.new.ensures)
    ∙ sym (fold-append placed [] written run))))
