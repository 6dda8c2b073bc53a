-- What is found in all runs.
use Rattle.std.proofs.Common.{◌≡◌, ◌≤◌, ◌<◌, ℕ, List, Option, Some, None, refl, sym, subst, arith}
use Rattle.std.specs.Option.{IfSome}
use Rattle.std.specs.List.{Any, Contains}
use Rattle.pl_due.proofs.Members.{all_from, any_of, of_member}
use Rattle.pl_due.specs.Contention.{AreThose, Holds, InRun, IsContention, IsEligible, IsOne, locks}
use Rattle.pl_due.specs.Due.{IsDue}
use Rattle.pl_facts.specs.declared.fact.Event.{Event}
use Rattle.pl_facts.specs.declared.fact.Fact.{Fact}
use Rattle.pl_locks.specs.Locks.{IsAt}
use Rattle.pl_locks.specs.declared.contender.Contender.{Contender}
use Rattle.pl_run_laws.proofs.ByRuns.{due_of_all}
use Rattle.pl_run_laws.specs.ByRuns.{DueBy, Firsts, LeastOfAll, by_locks, kinds}
use Rattle.pl_wakes.specs.Steady.{IsBefore}
use Rattle.pl_looks.specs.declared.types.Look.{Look}
use Rattle.pl_looks.specs.Laws.{AreGathered, AreLooks}
use Rattle.pl_looks.specs.Looks.{IsLook, OfRun, found_of}

module _ (facts : List Fact) (moment : ℕ) where
  -- ---- at a later moment

  pub at_later : (run : ℕ) (look : Look) → IsLook facts moment run look → (later : ℕ) →
      moment ≤ later → IsBefore later look.wakes → IsLook facts later run look
  at_later run look is later behind before = record {
    now = is.until later behind before;
    wakes = wakes look.wakes before;
    until = λ after further soon. is.until after (omega (arith, behind, further)) soon;
  }
    where
      wakes : (until : Option ℕ) → IsBefore later until → IfSome until (λ at. later < at)
      wakes None soon = tt
      wakes (Some at) soon = soon

  -- ---- what is due

  pub due_by_looks : (looks : ℕ → Look) (first : Option Firsts) (due : Option Event) →
      AreLooks facts moment looks → LeastOfAll (λ run. found_of (looks run).first) first →
      DueBy (by_locks facts moment) first due → IsDue facts moment due
  due_by_looks looks first due are least by =
      due_of_all facts 0 (kinds facts moment) (by_locks facts moment)
      (λ run. found_of (looks run).first) due first (λ run. (are run).now.first) least by

  -- ---- contenders

  gathered : (P : InRun) (lists : ℕ → List Contender) (stages : List Contender) →
      ((run : ℕ) → AreThose facts (OfRun run P) (lists run)) → AreGathered lists stages →
      AreThose facts P stages
  gathered P lists stages each all = record {
    ordered = all.ordered;
    only = all_from (IsOne facts P) stages (λ stage among.
        let one = of_member (IsOne facts (OfRun stage.run P)) (lists stage.run) stage
        (each stage.run).only ((all.members stage).0 among) in
        record {
          told = one.told;
          one = one.one;
          there = one.there;
          holds = one.holds.1;
          is = one.is;
        });
    all = λ told one run stage there holds.
        found run stage ((each run).all told one run stage there (refl, holds));
  }
    where
      found : (run stage : ℕ) → Any (IsAt run stage) (lists run) → Any (IsAt run stage) stages
      found run stage (k, contender, below, is, at) =
          any_of (IsAt run stage) stages contender
          ((all.members contender).1
          (subst (λ r. Contains (lists r) contender) (sym at.0) (k, below, is))) at

  pub contend : (looks : ℕ → Look) (eligible holders : List Contender) →
      AreLooks facts moment looks → ((run : ℕ) → (looks run).first ≡ None) →
      AreGathered (λ run. (looks run).eligible) eligible →
      AreGathered (λ run. (looks run).holders) holders →
      IsContention facts moment (locks eligible holders)
  contend looks eligible holders are none some hold = record {
    eligible = gathered (IsEligible facts moment) (λ run. (looks run).eligible) eligible
        (λ run. (are run).now.eligible (none run)) some;
    holders = gathered (Holds facts) (λ run. (looks run).holders) holders
        (λ run. (are run).now.holders) hold;
  }
