use Rattle.std.proofs.Common.{◌<◌, ◌^◌, arith}
use Rattle.pl_rules.specs.declared.rule.Rule.{Rule}
use Rattle.pl_fields.specs.Rules.{rule_number, rule_texts, IsKeptRule}
use Rattle.pl_fields.specs.WaysOfRules.{kept_number}
use Rattle.pl_fields.proofs.Misses.{numbered_reads}
use Rattle.pl_fields.proofs.rules.RuleField.read.Goals as goal

small : (told : Rule) → IsKeptRule told → rule_number told < 2 ^ 64
small told kept = let bounds = kept_number told kept in omega arith

pub returns : goal.returns
returns c =
    numbered_reads rule_number rule_texts IsKeptRule small _ c.in_ok-number.number c.args.bytes.now
    c.in_ok-number.rest.now
    c.in_ok-number.ensures.does_fit c.in_ok-number.ensures.parts c.rule_behind.result
    c.rule_behind.ensures
