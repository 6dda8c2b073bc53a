use Rattle.pl_template.proofs.Cuts.{pieces_are, are_cut, written_again}
use Rattle.pl_template.proofs.Judging.{plain_iff, whole_iff, joined_is, unclosed_iff}
use Rattle.pl_template.proofs.laws.form_laws.Goals as goal

pub returns : goal.returns
returns c = record {
  cut = λ text pieces. (are_cut text pieces, pieces_are text pieces);
  again = written_again;
  plain = plain_iff;
  whole = whole_iff;
  joined = joined_is;
  unclosed = unclosed_iff;
}
