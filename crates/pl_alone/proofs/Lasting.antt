-- What a desk is behind messages.
use Rattle.std.proofs.Common.{◌≡◌, ◌<◌, ◌+◌, ◌++◌, ◌⊎◌, inl, inr, ⊎_elim, ℕ, List, [], ◌∷◌, Option}
use Rattle.std.proofs.Common.{Some, None, refl, sym, ap, subst, ◌∙◌, arith}
use mathlib.Core.List.{IsPrefix}
use Rattle.pl_alone.specs.Desk.{Act, Parts, Serves, Stays, past}
use Rattle.pl_alone.specs.Lasting.{DesksLast, HasFailed, Lasts}
use Rattle.pl_base.specs.Counts.{one_more}
use Rattle.pl_base.specs.declared.row.Row.{Row}
use Rattle.pl_service.specs.Below.pl_core.specs.Rows.{AreKept}
use Rattle.pl_facts.specs.declared.entry.Entry.{Entry}
use Rattle.pl_service.specs.Below.pl_history.specs.Claims.{IsOrderly}
use Rattle.pl_service.specs.Below.pl_history.specs.History.{Opening}
use Rattle.pl_service.specs.Below.pl_history.specs.Legal.{Legal}
use Rattle.pl_keeper.specs.Keeping.{WhereTold}
use Rattle.pl_requests.specs.declared.call.Call.{Call}
use Rattle.pl_requests.specs.declared.reply.Reply.{Reply as Replied}
use Rattle.pl_service.proofs.Keeping.{same_where, none_where}
use Rattle.pl_service.specs.Past.{Past, recorded}
use Rattle.pl_service.specs.Rows.{StayKept, state_of}
use Rattle.pl_sessions.specs.Acts.{Acts, Turn}
use Rattle.pl_sessions.specs.declared.answer.Answer.{Answer}
use Rattle.pl_sessions.specs.declared.answer.Answer.TheVariants.{Reply, KeeperFault, Memory}
use Rattle.pl_turn.proofs.Beginnings.{prefix-same, prefix-trans}
use Rattle.pl_wire.specs.declared.message.Message.{Message}
use Rattle.pl_wire.specs.declared.message.Message.TheVariants.{Ask, Refused}

-- what one message makes of a desk
record Steps (old : Parts) (answer : Answer) (new : Parts) : Type 0 where
  pub opening : new.opening ≡ old.opening
  pub begins : IsPrefix old.seen new.seen
  pub legal : Legal old.opening old.seen → Legal new.opening new.seen
  pub rows : WhereTold old.rows new.rows (StayKept (past old) (past new))
  pub failed : answer ≡ KeeperFault → 0 < new.faults
  pub raised : 0 < old.faults → 0 < new.faults
  pub quiet : (¬ (answer ≡ KeeperFault)) → new.faults ≡ old.faults

opening_at : (old new : Parts) → past new ≡ past old → new.opening ≡ old.opening
opening_at old new is = ap (λ (p : Past). p.opening) is

seen_at : (old new : Parts) → past new ≡ past old → new.seen ≡ old.seen
seen_at old new is = ap (λ (p : Past). p.entries) is

legal_at : (old new : Parts) → past new ≡ past old → Legal old.opening old.seen
    → Legal new.opening new.seen
legal_at old new is legal = subst (λ (p : Past). Legal p.opening p.entries) (sym is) legal

one_above : (n : ℕ) → 0 < one_more n
one_above n = omega arith

no_fault : (reply : Replied) → Reply reply ≡ KeeperFault → ⊥
no_fault reply is = cc is

no_memory : Memory ≡ KeeperFault → ⊥
no_memory is = cc is

served : (old new : Parts) (call : Call) (reply : Replied) → Serves old call reply new
    → Steps old (Reply reply) new
served old new call reply s = record {
  opening = s.answers.opening;
  begins = (recorded 0 old.seen call s.answers.added, sym s.answers.entries);
  legal = λ legal. s.legal;
  rows = s.rows;
  failed = λ is. absurd (no_fault reply is);
  raised = λ above. subst (λ n. 0 < n) (sym s.faults) above;
  quiet = λ none. s.faults;
}

stayed : (old new : Parts) (answer : Answer) → Stays old new
    → (answer ≡ KeeperFault → 0 < new.faults) → (0 < old.faults → 0 < new.faults)
    → ((¬ (answer ≡ KeeperFault)) → new.faults ≡ old.faults) → Steps old answer new
stayed old new answer s failed raised quiet = record {
  opening = opening_at old new s.past_is;
  begins = prefix-same old.seen new.seen (sym (seen_at old new s.past_is));
  legal = legal_at old new s.past_is;
  rows = same_where (past old) (past new) s.past_is old.rows new.rows s.rows;
  failed = failed;
  raised = raised;
  quiet = quiet;
}

same : (old new : Parts) (answer : Answer) → (¬ (answer ≡ KeeperFault)) → new ≡ old
    → Steps old answer new
same old new answer none is = subst (λ (p : Parts). Steps old answer p) (sym is)
    (stayed old old answer (record { past_is = refl; rows = none_where old.rows })
    (λ failed. absurd (none failed)) (λ above. above) (λ _. refl))

above_at : (n m : ℕ) → m ≡ one_more n → 0 < m
above_at n m is = subst (λ k. 0 < k) (sym is) (one_above n)

steps : (old new : Parts) (moment : ℕ) (message : Message) (answer : Answer)
    → Act old moment message answer new → Steps old answer new
steps old new moment (Ask caller request) (Reply reply) act = served old new _ reply act
steps old new moment (Ask caller request) KeeperFault act =
    let above = above_at old.faults new.faults act.1 in
    stayed old new KeeperFault act.0 (λ is. above) (λ is. above) (λ none. absurd (none refl))
steps old new moment (Ask caller request) Memory act =
    stayed old new Memory act.0 (λ is. absurd (no_memory is))
    (λ above. subst (λ n. 0 < n) (sym act.1) above) (λ none. act.1)
steps old new moment (Refused fault) (Reply reply) act =
    same old new (Reply reply) (no_fault reply) act.1
steps old new moment (Refused fault) KeeperFault act = absurd act
steps old new moment (Refused fault) Memory act = same old new Memory no_memory act

-- ---- one after the other

stay_then : (a b c : Past) → b.opening ≡ a.opening → (x y z : List Row) → StayKept a b x y
    → StayKept b c y z → StayKept a c x z
stay_then a b c opening x y z one two = λ orderly kept.
    two (subst (λ (o : Opening). IsOrderly o) (sym opening) orderly) (one orderly kept)

where_then : (a b c : Past) → b.opening ≡ a.opening → (x y z : Option (List Row))
    → WhereTold x y (StayKept a b) → WhereTold y z (StayKept b c) → WhereTold x z (StayKept a c)
where_then a b c opening x y None one two = tt
where_then a b c opening x None (Some z) one two = absurd two
where_then a b c opening None (Some y) (Some z) one two = absurd one
where_then a b c opening (Some x) (Some y) (Some z) one two =
    stay_then a b c opening x y z one two

-- ... and a count that is above 0 stays so
record Grows (old : Parts) (turns : List Turn) (new : Parts) : Type 0 where
  pub lasts : Lasts old turns new
  pub raised : 0 < old.faults → 0 < new.faults

first_failed : (answer : Answer) (more : Type 0) → (¬ ((answer ≡ KeeperFault) ⊎ more))
    → ¬ (answer ≡ KeeperFault)
first_failed answer more none = λ is. none (inl is)

later_failed : (answer : Answer) (more : Type 0) → (¬ ((answer ≡ KeeperFault) ⊎ more)) → ¬ more
later_failed answer more none = λ is. none (inr is)

grows : (old new : Parts) (turns : List Turn) → Acts Act old turns new → Grows old turns new
grows old new [] is = subst (λ (p : Parts). Grows old [] p) (sym is)
    (record {
      lasts = record {
        opening = refl;
        begins = prefix-same old.seen old.seen refl;
        legal = λ legal. legal;
        rows = same_where (past old) (past old) refl old.rows old.rows (none_where old.rows);
        failed = λ is. absurd is;
        quiet = λ none. refl;
      };
      raised = λ above. above;
    })
grows old new (turn ∷ turns) acts =
    let between = acts.0 in
    let s = steps old between turn.moment turn.message turn.answer acts.1 in
    let g = grows between new turns acts.2 in
    record {
      lasts = record {
        opening = g.lasts.opening ∙ s.opening;
        begins = prefix-trans old.seen between.seen new.seen s.begins g.lasts.begins;
        legal = λ legal. g.lasts.legal (s.legal legal);
        rows =
            where_then (past old) (past between) (past new) s.opening old.rows between.rows
            new.rows s.rows g.lasts.rows;
        failed = λ failed.
            ⊎_elim (λ is. g.raised (s.failed is)) (λ more. g.lasts.failed more) failed;
        quiet = λ none.
            g.lasts.quiet (later_failed turn.answer (HasFailed turns) none)
            ∙ s.quiet (first_failed turn.answer (HasFailed turns) none);
      };
      raised = λ above. g.raised (s.raised above);
    }

pub lasts : DesksLast
lasts old new turns acts = (grows old new turns acts).lasts
