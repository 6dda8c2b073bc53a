-- Places that come one after the other, and their rows.
use Rattle.std.proofs.Common.{◌≡◌, ℕ, suc, ◌+◌, List, [], ◌∷◌, ◌++◌, Option, Some, None}
use Rattle.std.proofs.Common.{length, take, get_or, subst, ◌<◌}
use Rattle.std.proofs.lemmas.List.{length-take-le, take_more}
use Rattle.std.proofs.Common.{refl, sym, ap, ◌∙◌, append_assoc, append-nil, arith}
use Rattle.std.specs.List.{cons_option}
use Rattle.std.specs.Option.{option_or}
use Rattle.pl_base.specs.declared.row.Row.{Row}
use Rattle.pl_facts.specs.declared.fact.Fact.{Fact}
use Rattle.pl_plan.specs.declared.plan.PlanJob.{PlanJob}
use Rattle.pl_plan.specs.declared.plan.PlanStage.{PlanStage}
use Rattle.pl_spots.specs.Below.pl_kept.specs.Kept.{row_at, Where, Stage, Job}
use Rattle.pl_changes.specs.Differing.{row_in, Joins}
use Rattle.pl_changes.proofs.Joining.{joins_both}
use Rattle.pl_touched.specs.Touched.{job_places, rows_at, stage_places, touched}
use Rattle.pl_touched.specs.Touched.{touched_by, FitAt}

pub rows_joined : (facts : List Fact) (one two : List Where) →
    rows_at (one ++ two) facts ≡ rows_at one facts ++ rows_at two facts
rows_joined facts [] two = refl
rows_joined facts (place ∷ one) two =
    by (row_at place facts) (rows_joined facts one two) where
      by : (o : Option Row) → rows_at (one ++ two) facts ≡ rows_at one facts ++ rows_at two facts →
          cons_option o (rows_at (one ++ two) facts) ≡
          cons_option o (rows_at one facts) ++ rows_at two facts
      by None e = e
      by (Some row) e = ap (λ (rows : List Row). row ∷ rows) e

-- what places and then others add
pub joins_places : (facts : List Fact) (one two : List Where) (old mid new : List Row) →
    Joins old (rows_at one facts) mid → Joins mid (rows_at two facts) new →
    Joins old (rows_at (one ++ two) facts) new
joins_places facts one two old mid new first second at =
    joins_both old (rows_at one facts) mid (rows_at two facts) new first second at ∙
    ap (λ (more : List Row). option_or (row_in at old) (row_in at more))
    (sym (rows_joined facts one two))

-- what is kept at both can be read again
pub fit_places : (facts : List Fact) (one two : List Where) → FitAt one facts → FitAt two facts →
    FitAt (one ++ two) facts
fit_places facts [] two first second = second
fit_places facts (place ∷ one) two first second =
    (first.0, fit_places facts one two first.1 second)

-- one stage more, and one job more
pub stages_more : (run at : ℕ) (stages : List PlanStage) (stage : PlanStage) →
    stage_places run at (stages ++ stage ∷ []) ≡ stage_places run at stages ++
    (Stage run (at + length stages) ∷ job_places run (at + length stages) 0 stage.jobs)
stages_more run at [] stage =
    let here : at ≡ at + 0 = omega arith in
    append-nil_at ∙ ap (λ (n : ℕ). Stage run n ∷ job_places run n 0 stage.jobs) here where
      append-nil_at : (Stage run at ∷ (job_places run at 0 stage.jobs ++ [])) ≡
          (Stage run at ∷ job_places run at 0 stage.jobs)
      append-nil_at = ap (λ (places : List Where). Stage run at ∷ places)
          (append-nil (job_places run at 0 stage.jobs))
stages_more run at (first ∷ stages) stage =
    let next : (at + 1) + length stages ≡ at + suc (length stages) = omega arith in
    ap (λ (places : List Where). Stage run at ∷ (job_places run at 0 first.jobs ++ places))
    (stages_more run (at + 1) stages stage ∙ ap (λ (n : ℕ). stage_places run (at + 1) stages ++
    (Stage run n ∷ job_places run n 0 stage.jobs)) next) ∙
    ap (λ (places : List Where). Stage run at ∷ places)
    (sym (append_assoc (job_places run at 0 first.jobs) (stage_places run (at + 1) stages)
    (Stage run (at + suc (length stages)) ∷
    job_places run (at + suc (length stages)) 0 stage.jobs)))

pub jobs_more : (run stage at : ℕ) (jobs : List PlanJob) (job : PlanJob) →
    job_places run stage at (jobs ++ job ∷ []) ≡
    job_places run stage at jobs ++ Job run stage (at + length jobs) ∷ []
jobs_more run stage at [] job =
    let here : at ≡ at + 0 = omega arith in
    ap (λ (n : ℕ). Job run stage n ∷ []) here
jobs_more run stage at (first ∷ jobs) job =
    let next : (at + 1) + length jobs ≡ at + suc (length jobs) = omega arith in
    ap (λ (places : List Where). Job run stage at ∷ places)
    (jobs_more run stage (at + 1) jobs job ∙
    ap (λ (n : ℕ). job_places run stage (at + 1) jobs ++ Job run stage n ∷ []) next)

-- the places up to one more
pub jobs_next : (run stage at i : ℕ) (jobs : List PlanJob) (job : PlanJob) → i < length jobs →
    at ≡ i → job_places run stage 0 (take (i + 1) jobs) ≡
    job_places run stage 0 (take i jobs) ++ Job run stage at ∷ []
jobs_next run stage at i jobs job within here =
    let len : 0 + length (take i jobs) ≡ i =
    omega (arith, length-take-le i jobs (omega arith)) in
    ap (job_places run stage 0) (take_more jobs i job within) ∙
    (jobs_more run stage 0 (take i jobs) (get_or jobs i job) ∙
    ap (λ (n : ℕ). job_places run stage 0 (take i jobs) ++ Job run stage n ∷ []) (len ∙ sym here))

pub stages_next : (run at i : ℕ) (stages : List PlanStage) (stage : PlanStage) →
    i < length stages → stage ≡ get_or stages i stage → at ≡ i →
    stage_places run 0 (take (i + 1) stages) ≡
    stage_places run 0 (take i stages) ++ (Stage run at ∷ job_places run at 0 stage.jobs)
stages_next run at i stages stage within is here =
    let len : 0 + length (take i stages) ≡ i =
    omega (arith, length-take-le i stages (omega arith)) in
    let there : 0 + length (take i stages) ≡ at = len ∙ sym here in
    let back : get_or stages i stage ≡ stage = sym is in
    ap (stage_places run 0) (take_more stages i stage within) ∙
    (stages_more run 0 (take i stages) (get_or stages i stage) ∙
    (λ k. stage_places run 0 (take i stages) ++
    (Stage run (there k) ∷ job_places run (there k) 0 (back k).jobs)))

touched_joined : (one two : List Fact) →
    touched_by (one ++ two) ≡ touched_by one ++ touched_by two
touched_joined [] two = refl
touched_joined (fact ∷ one) two =
    ap (λ (places : List Where). touched fact.event ++ places) (touched_joined one two) ∙
    sym (append_assoc (touched fact.event) (touched_by one) (touched_by two))

pub touched_next : (i : ℕ) (facts : List Fact) (fact : Fact) → i < length facts →
    fact ≡ get_or facts i fact →
    touched_by (take (i + 1) facts) ≡ touched_by (take i facts) ++ touched fact.event
touched_next i facts fact within is =
    let back : get_or facts i fact ≡ fact = sym is in
    ap touched_by (take_more facts i fact within) ∙
    (touched_joined (take i facts) (get_or facts i fact ∷ []) ∙
    (λ k. touched_by (take i facts) ++ (touched (back k).event ++ [])) ∙
    ap (λ (places : List Where). touched_by (take i facts) ++ places)
    (append-nil (touched fact.event)))

-- ---- what a turn of a loop adds

module _ (facts : List Fact) (one two all : List Where) (are : all ≡ one ++ two) where
  pub joins_all : (old mid new : List Row) → Joins old (rows_at one facts) mid →
      Joins mid (rows_at two facts) new → Joins old (rows_at all facts) new
  joins_all old mid new first second =
      subst (λ (places : List Where). Joins old (rows_at places facts) new) (sym are)
      (joins_places facts one two old mid new first second)

  pub fit_all : FitAt one facts → FitAt two facts → FitAt all facts
  fit_all first second = subst (λ (places : List Where). FitAt places facts) (sym are)
      (fit_places facts one two first second)
