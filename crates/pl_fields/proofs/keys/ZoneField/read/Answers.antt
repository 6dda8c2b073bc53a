use Rattle.std.proofs.Common.{Err, ap, List, ℕ, sym, subst, ◌∙◌}
use Rattle.pl_zones.specs.Zones.{IsZoneText}
use Rattle.pl_fields.specs.WaysOfFields.{text_one_way}
use Rattle.pl_fields.proofs.keys.ZoneField.read.Goals as goal

pub returns-in-Err-Unreadable : goal.returns-in-Err-Unreadable
returns-in-Err-Unreadable c = λ value rest begins.
    let same = text_one_way value c.in_ok-text.text rest c.in_ok-text.rest.now
    begins.does_fit.is_text c.in_ok-text.ensures.does_fit
    (sym begins.parts ∙ c.in_ok-text.ensures.parts) in
    c.in-Err-Unreadable.ensures.unreadable (ap Err c.in-Err-Unreadable.field-0-is)
    (subst IsZoneText same.0 begins.does_fit.names)
