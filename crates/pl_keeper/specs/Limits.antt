-- The limits of what rows keep.
use Rattle.std.specs.Prelude.{nat_le, Bool, true, false, not, ◌&&◌}
use Rattle.std.specs.List.{list_all}
use Rattle.std.specs.Option.{option_map_or}
use Rattle.pl_base.specs.declared.outcome.Outcome.{Outcome}
use Rattle.pl_base.specs.declared.outcome.Outcome.TheVariants.{Skipped}
use Rattle.pl_digests.specs.Digests.{is_of_nothing}
use Rattle.pl_limits.specs.Limits.{are_capabilities, are_outputs, is_check, is_counted, is_ending}
use Rattle.pl_limits.specs.Limits.{is_file_text, is_run, may_be_granted}
use Rattle.pl_names.specs.Names.{is_key, is_name, is_path, is_repository}
use Rattle.pl_keeper.specs.declared.records.KeptFile.{KeptFile}
use Rattle.pl_keeper.specs.declared.records.JobEnd.{JobEnd}
use Rattle.pl_keeper.specs.declared.records.Record.{Record}
use Rattle.pl_keeper.specs.declared.records.Record.TheVariants.{Meta, File, Pipeline, Resource}
use Rattle.pl_keeper.specs.declared.records.Record.TheVariants.{Principal, Agent, Run, Stage, Job}
use Rattle.pl_keeper.specs.declared.records.Record.TheVariants.{Decision}

-- a file by its key, and its text
abbrev pub is_file : KeptFile → Bool
is_file file = is_key file.key && is_file_text file.text

abbrev pub is_skipped : Outcome → Bool
is_skipped Skipped = true
is_skipped _ = false

-- no report says Skipped
abbrev pub is_end : JobEnd → Bool
is_end told = option_map_or is_ending told.rule true && (option_map_or
    (λ outcome. not (is_skipped outcome)) told.reported true && are_outputs told.outputs)

-- a digest of no bytes is nobody's; runs are counted from 1
abbrev pub is_within : Record → Bool
is_within (Meta kept) = nat_le kept.moment 4102444799 && (is_counted kept.run &&
    (is_counted kept.version && (is_counted kept.change && nat_le 1 kept.change)))
is_within (File kept) = is_file kept
is_within (Pipeline kept) = is_name kept.name && (is_repository kept.repo && is_path kept.path)
is_within (Resource kept) = is_name kept.key.name && (may_be_granted kept.pipelines &&
    list_all is_check kept.checks)
is_within (Principal kept) = is_name kept.name && not (is_of_nothing kept.digest)
is_within (Agent kept) = is_name kept.name && (is_name kept.pool &&
    are_capabilities kept.capabilities)
is_within (Run kept) = is_run kept.run && ((is_name kept.pipeline && is_name kept.requester) &&
    (is_key kept.root && (list_all (λ told. is_name told.name) kept.arguments &&
    list_all is_file kept.files)))
is_within (Stage kept) = is_run kept.run && option_map_or (λ told. option_map_or is_ending
    told.rule true) kept.ended true
is_within (Job kept) = is_run kept.run && (option_map_or (λ told. is_name told.agent)
    kept.taken true && option_map_or is_end kept.ended true)
is_within (Decision kept) = is_run kept.run && is_name kept.approver
