-- No spelling of a kept file, of an end or of a taking begins another one.
use Rattle.std.proofs.Common.{◌≡◌, ℕ, ◌<◌, ◌^◌, List, [], ◌∷◌, ◌++◌, Option, refl}
use Rattle.std.specs.Prelude.{IfSome}
use Rattle.pl_base.specs.declared.outcome.Outcome.{Outcome}
use Rattle.pl_base.specs.declared.place.FileKey.{FileKey}
use Rattle.pl_rules.specs.declared.rule.Rule.{Rule}
use Rattle.pl_fields.specs.Checks.{file_key, IsFileKey}
use Rattle.pl_fields.specs.Fields.{number, text, option, list, IsShort, IsText, IsListOf}
use Rattle.pl_fields.specs.Kinds.{outcome_number, outcomes}
use Rattle.pl_fields.specs.Reading.{IsOneWay}
use Rattle.pl_fields.specs.Rules.{rule, IsKeptRule}
use Rattle.pl_fields.specs.WaysOfCompounds.{list_one_way, option_one_way, pair_one_way}
use Rattle.pl_fields.specs.WaysOfKinds.{numbered_one_way, outcome_back}
use Rattle.pl_fields.specs.WaysOfRules.{rule_one_way}
use Rattle.pl_fields.specs.WaysOfFields.{number_one_way, piece_one_way, text_one_way}
use Rattle.pl_fields.specs.WaysOfKeys.{file_key_one_way, via_one_way}
use Rattle.pl_keeper.specs.Parts.{job_end, kept_file, stage_end, taking, texts, AreTexts, IsJobEnd}
use Rattle.pl_keeper.specs.Parts.{IsKeptFile, IsStageEnd, IsTaking}
use Rattle.pl_keeper.specs.declared.records.JobEnd.{JobEnd}
use Rattle.pl_keeper.specs.declared.records.KeptFile.{KeptFile}
use Rattle.pl_keeper.specs.declared.records.StageEnd.{StageEnd}
use Rattle.pl_keeper.specs.declared.records.Taking.{Taking}

abbrev pub IsNumber : ℕ → Type 0
IsNumber n = n < 2 ^ 64

abbrev pub outcome : Outcome → List ℕ
outcome told = outcome_number told ∷ []

abbrev pub IsAny : {X : Type 0} → X → Type 0
IsAny x = Unit {0}

pub texts_one_way : IsOneWay texts AreTexts
texts_one_way = pair_one_way text IsText text_one_way text IsText text_one_way

pub kept_file_one_way : IsOneWay kept_file IsKeptFile
kept_file_one_way = via_one_way {X = KeptFile} {Y = FileKey × List ℕ}
    (λ file. (file.key, file.text))
    (λ p. record { key = p.0; text = p.1 })
    (λ p. file_key p.0 ++ text p.1) (λ p. IsFileKey p.0 × IsShort p.1) (λ file. refl)
    (pair_one_way file_key IsFileKey file_key_one_way text IsShort piece_one_way)

pub outcome_one_way : IsOneWay outcome (λ _. Unit {0})
outcome_one_way = numbered_one_way outcome_number outcomes outcome_back

pub optional_rule_one_way : IsOneWay (option rule) (λ told. IfSome told IsKeptRule)
optional_rule_one_way = option_one_way rule IsKeptRule rule_one_way

pub stage_end_one_way : IsOneWay stage_end IsStageEnd
stage_end_one_way = via_one_way {X = StageEnd} {Y = ℕ × (Outcome × Option Rule)}
    (λ told. (told.moment, (told.outcome, told.rule)))
    (λ p. record { moment = p.0; outcome = p.1.0; rule = p.1.1 })
    (λ p. number p.0 ++ (outcome p.1.0 ++ option rule p.1.1))
    (λ p. IsNumber p.0 × (Unit {0} × IfSome p.1.1 IsKeptRule)) (λ told. refl)
    (pair_one_way number IsNumber number_one_way _ _
    (pair_one_way outcome (λ _. Unit {0}) outcome_one_way (option rule)
    (λ told. IfSome told IsKeptRule) optional_rule_one_way))

pub taking_one_way : IsOneWay taking IsTaking
taking_one_way = via_one_way {X = Taking} {Y = List ℕ × ℕ} (λ told. (told.agent, told.moment))
    (λ p. record { agent = p.0; moment = p.1 })
    (λ p. text p.0 ++ number p.1) (λ p. IsText p.0 × IsNumber p.1) (λ told. refl)
    (pair_one_way text IsText text_one_way number IsNumber number_one_way)

abbrev pub Told : Type 0
Told = ℕ × (Outcome × (Option Rule × (Option Outcome × List (List ℕ × List ℕ))))

pub job_end_one_way : IsOneWay job_end IsJobEnd
job_end_one_way = via_one_way {X = JobEnd} {Y = Told}
    (λ told. (told.moment, (told.outcome, (told.rule, (told.reported, told.outputs)))))
    (λ p. record {
      moment = p.0;
      outcome = p.1.0;
      rule = p.1.1.0;
      reported = p.1.1.1.0;
      outputs =
          p.1.1.1.1;
    })
    (λ p. number p.0 ++ (outcome p.1.0 ++
    (option rule p.1.1.0 ++ (option outcome p.1.1.1.0 ++ list texts p.1.1.1.1))))
    (λ p. IsNumber p.0 × (Unit {0} ×
    (IfSome p.1.1.0 IsKeptRule × (IfSome p.1.1.1.0 (λ _. Unit {0}) ×
    IsListOf AreTexts p.1.1.1.1))))
    (λ told. refl)
    (pair_one_way number IsNumber number_one_way _ _
    (pair_one_way outcome (λ _. Unit {0}) outcome_one_way _ _
    (pair_one_way (option rule) (λ told. IfSome told IsKeptRule) optional_rule_one_way _ _
    (pair_one_way (option outcome) (λ told. IfSome told (λ _. Unit {0}))
    (option_one_way outcome (λ _. Unit {0}) outcome_one_way)
    (list texts) (IsListOf AreTexts) (list_one_way texts AreTexts texts_one_way)))))
