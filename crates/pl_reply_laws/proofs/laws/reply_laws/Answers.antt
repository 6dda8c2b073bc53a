use Rattle.pl_reply_laws.proofs.Desks.{one_act, one_turns}
use Rattle.pl_reply_laws.proofs.Wanted.{one_made_for, one_wanted}
use Rattle.pl_reply_laws.proofs.Written.{one_session}
use Rattle.pl_reply_laws.proofs.laws.reply_laws.Goals as goal

pub returns : goal.returns
returns c = record {
  wanted = one_wanted;
  made = one_made_for c.sources_compile_again.ensures.one;
  act = one_act c.sources_compile_again.ensures.one c.step_laws.ensures.one;
  acts = one_turns c.sources_compile_again.ensures.one c.step_laws.ensures.one;
  session = one_session c.one_reading.ensures c.sources_compile_again.ensures.one
      c.step_laws.ensures.one;
}
