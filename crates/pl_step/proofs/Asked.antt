-- What a request is answered where it is known which request it is, and which journal is looked at.
use Rattle.std.proofs.Common.{◌≡◌, ℕ, List, Result, IfOk, sym, subst}
use Rattle.pl_answers.specs.declared.answer.Answer.{Answer}
use Rattle.pl_journal.specs.Log.{Log}
use Rattle.pl_queueing.specs.Queueing.{Made}
use Rattle.pl_requests.specs.declared.request.Request.{Request}
use Rattle.pl_step.specs.Answering.{Answers}

module _ {E : Type 0} (moment : ℕ) (who : List ℕ) (made : Made) (r : Result Answer E) where
  pub as_told : (log : Log) (asked told : Request) → asked ≡ told →
      IfOk r (Answers log moment who made told) → IfOk r (Answers log moment who made asked)
  as_told log asked told is gives =
      subst (λ one. IfOk r (Answers log moment who made one)) (sym is) gives

  pub as_seen : (seen log : Log) (asked told : Request) → seen ≡ log → asked ≡ told →
      IfOk r (Answers seen moment who made told) → IfOk r (Answers log moment who made asked)
  as_seen seen log asked told same is gives = as_told log asked told is
      (subst (λ one. IfOk r (Answers one moment who made told)) same gives)
