use Rattle.std.proofs.Common.{ap, arith, false, sym, unwrap_or, ◌∙◌}
use Rattle.std.proofs.lemmas.Bool.{false≢true}
use Rattle.std.specs.BTreeMap.{is_at}
use Rattle.std.specs.List.{list_any}
use Rattle.std.specs.Map.{lookup}
use Rattle.pl_lock_queues.specs.Queues.{key_cmp, place_cmp}
use Rattle.pl_lock_queues.proofs.entering.none.Goals as goal

pub returns-clause-waiting : goal.returns-clause-waiting
returns-clause-waiting c = record {
  waiting = λ key p. c.new.ensures key p;
  idle = λ p. ap (list_any (is_at (place_cmp p))) c.new-3.ensures.empty;
  giving_way = λ p. (
    λ h. absurd (false≢true (sym (ap (list_any (is_at (place_cmp p))) c.new-4.ensures.empty) ∙ h)),
    λ (one, (k, below, is), at, rest). absurd (omega (arith, below)),
  );
}

pub returns-clause-names : goal.returns-clause-names
returns-clause-names c = λ key p. c.new-5.ensures key p

pub returns-clause-marks : goal.returns-clause-marks
returns-clause-marks c = record {
  held = λ key. ap (λ es. unwrap_or (lookup (is_at (key_cmp key)) es) false) c.new-2.ensures.empty;
  wanted = λ key h. absurd (false≢true h);
  owned = λ key h. absurd (false≢true h);
}
