use Rattle.std.proofs.Common.{◌≡◌, [], ◌∷◌, ap, ◌∙◌, refl, true}
use Rattle.std.specs.Str.{chars}
use Rattle.pl_generated.specs.Input.{exclusive_pool}
use Rattle.pl_requests.specs.WellFormed.{is_request}
use Rattle.pl_requests.specs.declared.request.Request.TheVariants.{SetResource}
use Rattle.pl_requests.specs.declared.settings.ResourceSetting.{ResourceSetting}
use Rattle.pl_generated.proofs.requests.first_request.Goals as goal

pub returns-clause-request : goal.returns-clause-request
returns-clause-request c = ap (λ (one : ResourceSetting). SetResource one ∷ [])
    (c.in_ok-setting.ensures ∙ c.in_ok-exclusive_pool.ensures)

-- the name `Default` is one
is_well_formed : is_request (SetResource exclusive_pool) ≡ true
unfolding chars
is_well_formed = refl

pub returns-clause-well_formed : goal.returns-clause-well_formed
returns-clause-well_formed c = ap (λ (one : ResourceSetting). is_request (SetResource one))
    (c.in_ok-setting.ensures ∙ c.in_ok-exclusive_pool.ensures) ∙ is_well_formed
