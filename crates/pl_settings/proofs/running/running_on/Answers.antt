use Rattle.std.proofs.Common.{◌≡◌, flat_map, ap, ◌∙◌}
use Rattle.std.proofs.lemmas.Result.{IfOk-weaker}
use Rattle.pl_journal.specs.Log.{Log}
use Rattle.pl_settings.specs.Running.{running_of, running_on}
use Rattle.pl_settings.proofs.OpenAlone.{open_alone}
use Rattle.pl_settings.proofs.running.running_on.Goals as goal

pub returns : goal.returns
returns c =
    let key = c.args.key.now in
    IfOk-weaker c.running_in.result
    (λ found. found ≡ flat_map (running_of c.journal.result.now.facts key) c.open_runs.result.now)
    (λ found. found ≡ running_on c.args.journal.now.facts key)
    (λ found made. made
    ∙ ap (λ (log : Log). flat_map (running_of log.facts key) c.open_runs.result.now)
    c.journal.ensures
    ∙ ap (flat_map (running_of c.args.journal.now.facts key)) c.open_runs.ensures
    ∙ open_alone c.args.journal.now.facts key)
    c.running_in.ensures
