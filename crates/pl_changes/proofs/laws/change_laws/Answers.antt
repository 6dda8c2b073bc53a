use Rattle.pl_changes.proofs.Differs.{all_lead, apart, differ, once}
use Rattle.pl_changes.proofs.Leading.{ascend_all}
use Rattle.pl_changes.proofs.There.{there}
use Rattle.pl_changes.proofs.laws.change_laws.Goals as goal

pub returns : goal.returns
returns c = record {
  lead = all_lead;
  differ = differ;
  once = once;
  there = there;
  apart = apart;
  ascend = ascend_all;
}
