use Rattle.pl_reread.proofs.Judging.{none_torn}
use Rattle.pl_reread.proofs.Rereading.{told_by}
use Rattle.pl_reread.proofs.Saying.{say_nothing_bad}
use Rattle.pl_reread.proofs.laws.reread_laws.Goals as goal

pub returns-clause-told : goal.returns-clause-told
returns-clause-told c = told_by c.record_laws.ensures.one

pub returns-clause-torn : goal.returns-clause-torn
returns-clause-torn c = λ admin change log numbers all is there good.
    none_torn admin change log numbers all there (told_by c.record_laws.ensures.one change log all is)
    is.are.ascend good

pub returns-clause-said : goal.returns-clause-said
returns-clause-said c = λ admin change log all is made left.
    say_nothing_bad admin change log all (told_by c.record_laws.ensures.one change log all is)
    is.are.ascend made is.good left
