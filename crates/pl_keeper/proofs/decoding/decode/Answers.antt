use Rattle.std.proofs.Common.{◌≡◌, Bool, true, false, cond, true≢false, Ok, Err, refl, sym, ap, ◌∙◌}
use Rattle.std.specs.Prelude.{IsErrOf, Result}
use Rattle.pl_fields.specs.declared.fault.DecodeFault.{DecodeFault}
use Rattle.pl_fields.specs.declared.fault.DecodeFault.TheVariants.{Torn}
use Rattle.pl_keeper.specs.declared.records.Record.{Record}
use Rattle.pl_keeper.specs.Limits.{is_within}
use Rattle.pl_keeper.proofs.OneRow.{one_record}
use Rattle.pl_keeper.proofs.decoding.decode.Goals as goal

-- a record that was refused wasn't good
refused : (told : Record) (read : Result Record DecodeFault) (good : Bool) → read ≡
    cond good (Ok told) (Err Torn) → IsErrOf read Torn → good ≡ false
refused told read true e torn = let both : read ≡ Ok told = e in absurd cc
refused told read false e torn = refl

pub returns-clause-torn : goal.returns-clause-torn
returns-clause-torn c = λ torn kept is within same.
    let one = one_record c.in_ok-record.record kept c.in_ok-record.ensures.ok.0 is
    (sym c.in_ok-record.ensures.ok.1 ∙ same) in
    let not_good = refused c.in_ok-record.record c.kept_if.result c.in_ok-is_good.is_good
    c.kept_if.ensures torn in
    true≢false (sym within ∙ (ap is_within (sym one) ∙
    (sym c.in_ok-is_good.ensures ∙ not_good)))
