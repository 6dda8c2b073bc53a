-- Who holds a job by its row holds it.
use Rattle.std.proofs.Common.{◌≡◌, ◌&&◌, ℕ, Bool, true, false, true≢false, List, Option, Some, None}
use Rattle.std.proofs.Common.{refl, sym, ap, subst, ◌∙◌}
use Rattle.std.specs.Option.{option_and_then, option_map}
use Rattle.std.specs.Prelude.{is_some, unwrap_or, if◌then◌else◌}
use Rattle.pl_changes.proofs.Leading.{none_some}
use Rattle.pl_facts.specs.declared.fact.Event.{Event}
use Rattle.pl_facts.specs.declared.fact.Event.TheVariants as event
use Rattle.pl_facts.specs.declared.fact.Fact.{Fact}
use Rattle.pl_plan.specs.declared.plan.PlanJob.{PlanJob}
use Rattle.pl_granting.specs.Below.pl_due.proofs.Standing.{second_of_two}
use Rattle.pl_journal.specs.About.{is_about}
use Rattle.pl_journal.specs.Kinds.{is_job_end}
use Rattle.pl_journal.specs.Runs.{job_end, taker_told, taking}
use Rattle.pl_keeper.specs.declared.records.KeptJob.{KeptJob}
use Rattle.pl_keeper.specs.declared.records.Record.{Record}
use Rattle.pl_keeper.specs.declared.records.Record.TheVariants as kept
use Rattle.pl_kept.specs.Kept.{kept_at, planned_job, Where, Job}
use Rattle.pl_kept.specs.Told.{job_end_at, job_end_told, taking_at, taking_told}
use Rattle.pl_log.specs.Keys as key
use Rattle.pl_torn.specs.Holding.{holder}
use Rattle.pl_torn.specs.Seen.{job_in}
use Rattle.pl_never_torn.specs.Holders.{HoldOne, HoldsJob}
use Rattle.pl_never_torn.proofs.JobRows.{job_of}
use Rattle.pl_never_torn.proofs.Jobs.{job_ends}
use Rattle.pl_never_torn.proofs.Naming.{passes}

take_agent : (moment : ℕ) (told : Event) →
    option_map (λ taken. taken.agent) (taking_at moment told) ≡ taker_told told
take_agent moment (event.JobTaken run stage job agent) = refl
take_agent moment _ = refl

end_there : (moment : ℕ) (told : Event) → is_job_end told ≡ true →
    is_some (job_end_at moment told) ≡ true
end_there moment (event.JobEnded outcome reported stage job run rule outputs) is = refl
end_there moment _ is = absurd (true≢false (sym is))

same_record : (facts : List Fact) (told : KeptJob) →
    kept_at (Job told.run told.stage told.position) facts ≡ Some (kept.Job told) →
    job_of facts told.run told.stage told.position ≡ told
same_record facts told e = go (planned_job told.run told.stage told.position facts) e where
  go : (o : Option PlanJob) →
      option_map (λ _. kept.Job (job_of facts told.run told.stage told.position)) o ≡
      Some (kept.Job told) → job_of facts told.run told.stage told.position ≡ told
  go None h = absurd (none_some None (kept.Job told) refl h)
  go (Some planned) h = ap (λ (o : Option KeptJob). unwrap_or o told)
      (ap (λ (o : Option Record). option_and_then job_in o) h)

holder_of : (facts : List Fact) (agent : List ℕ) (run stage job : ℕ) →
    holder (job_of facts run stage job) ≡ Some agent → HoldsJob facts agent run stage job
holder_of facts agent run stage job h = by_end (job_end run stage job facts) refl where
  by_take : job_end run stage job facts ≡ None → (o : Option Fact) →
      taking run stage job facts ≡ o →
      option_map (λ taken. taken.agent) (taking_told o) ≡ Some agent →
      HoldsJob facts agent run stage job
  by_take none None e g = absurd (none_some None agent refl g)
  by_take none (Some take) e g = record {
    take = take;
    is = e;
    who = sym (take_agent take.moment take.event) ∙ g;
    unended = none;
  }

  by_end : (o : Option Fact) → job_end run stage job facts ≡ o →
      HoldsJob facts agent run stage job
  by_end (Some end) e =
      let kind : is_job_end end.event ≡ true = second_of_two
      (is_about (key.Job run stage job) end) (is_job_end end.event)
      (passes (job_ends run stage job) facts end e) in
      let ended : is_some (job_end_told (job_end run stage job facts)) ≡ true =
      ap (λ (o : Option Fact). is_some (job_end_told o)) e ∙ end_there end.moment end.event kind in
      absurd (none_some None agent refl (sym (ap (λ (b : Bool). if b then None else
      option_map (λ taken. taken.agent) (taking_told (taking run stage job facts))) ended) ∙ h))
  by_end None e =
      by_take e (taking run stage job facts) refl (sym (ap (λ (o : Option Fact).
      if is_some (job_end_told o) then None else
      option_map (λ taken. taken.agent) (taking_told (taking run stage job facts))) e) ∙ h)

pub holds_so : (facts : List Fact) (told : KeptJob) (agent : List ℕ) →
    kept_at (Job told.run told.stage told.position) facts ≡ Some (kept.Job told) →
    holder told ≡ Some agent → HoldsJob facts agent told.run told.stage told.position
holds_so facts told agent e h = holder_of facts agent told.run told.stage told.position
    (ap holder (same_record facts told e) ∙ h)

-- two rows by which one agent holds a job are of one place
pub one_place : (facts : List Fact) → HoldOne facts → (agent : List ℕ) (told also : KeptJob) →
    HoldsJob facts agent told.run told.stage told.position →
    HoldsJob facts agent also.run also.stage also.position →
    Job also.run also.stage also.position ≡ Job told.run told.stage told.position
one_place facts hold agent told also its other =
    let both = hold.one agent also.run also.stage also.position told.run told.stage told.position
    other its in
    ap (λ r. Job r also.stage also.position) both.0
    ∙ (ap (λ s. Job told.run s also.position) both.1
    ∙ ap (λ j. Job told.run told.stage j) both.2)
