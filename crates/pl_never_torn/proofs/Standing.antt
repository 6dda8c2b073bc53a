-- What a past has at first it has ever after, so the rows of its state are never torn.
use Rattle.std.proofs.Common.{◌≡◌, ℕ, List, [], Some, None, refl, sym, subst}
use Rattle.std.proofs.Common.{arith}
use Rattle.pl_base.specs.declared.digest.Digest.{Digest}
use Rattle.pl_changes.proofs.Leading.{none_some}
use Rattle.pl_facts.specs.declared.entry.Entry.{Entry}
use Rattle.pl_facts.specs.declared.fact.Fact.{Fact}
use Rattle.pl_history.specs.History.{Opening, log_of, opened}
use Rattle.pl_history.specs.Legal.{Legal}
use Rattle.pl_history.specs.Below.pl_granting_laws.specs.Histories.{AreOrderly}
use Rattle.pl_history.proofs.Orderly.{new_orderly, orderly_all}
use Rattle.pl_history.proofs.Standing.{first_facts, new_sound}
use Rattle.pl_keeper.specs.declared.records.Meta.{Meta}
use Rattle.pl_keeper.specs.declared.records.Record.TheVariants as kept
use Rattle.pl_kept.specs.Kept.{numbers_kept}
use Rattle.pl_reread.specs.Reread.{AreMade, AreReread, AreToldBy, LeaveNothing}
use Rattle.pl_seeing.specs.Below.pl_sources.specs.Again.{CompilesToOne, SourcesCompileAgain}
use Rattle.pl_torn.specs.declared.seen.Seen.{Seen}
use Rattle.pl_never_torn.specs.Free.{AreFree}
use Rattle.pl_never_torn.specs.Holders.{HoldOne}
use Rattle.pl_never_torn.specs.Jobs.{AreJobsInTime, AreSaid}
use Rattle.pl_never_torn.specs.Own.{AreCompiled, AreOwn}
use Rattle.pl_never_torn.specs.Owners.{AreApart}
use Rattle.pl_never_torn.specs.Planned.{ArePlanned}
use Rattle.pl_never_torn.specs.Stages.{AreInTime}
use Rattle.pl_leg_limits.specs.Alike.{LegsAreAlike}
use Rattle.pl_never_torn.specs.Legs.{HaveRoom}
use Rattle.pl_never_torn.specs.Standing.{HasStood}
use Rattle.pl_never_torn.proofs.Deciding.{kept_below, planned_all, the_run}
use Rattle.pl_never_torn.proofs.LegRows.{few_legs}
use Rattle.pl_never_torn.proofs.Legs.{room_all}
use Rattle.pl_never_torn.proofs.First.{first_apart, first_sound}
use Rattle.pl_never_torn.proofs.Late.{none_late}
use Rattle.pl_never_torn.proofs.Leaving.{leave_nothing}
use Rattle.pl_never_torn.proofs.Making.{are_made, own_all}
use Rattle.pl_never_torn.proofs.Naming.{free_all, kept_free}
use Rattle.pl_never_torn.proofs.Owners.{apart_all}
use Rattle.pl_never_torn.proofs.Rising.{rising}
use Rattle.pl_never_torn.proofs.Stages.{in_time_all}
use Rattle.pl_never_torn.proofs.Staying.{Laws}

module _ (opening : Opening) where
  module _ (laws : Laws) (stood : HasStood opening) (entries : List Entry) (legal : Legal opening
      entries)
      (change : ℕ) (numbers : Meta) (all : List Seen)
      (told : AreToldBy change (log_of opening entries) all)
      (is : AreReread change (log_of opening entries) all)
      (again : SourcesCompileAgain) (one : CompilesToOne) (compiled : AreCompiled all)
      (counted : numbers_kept change (log_of opening entries) ≡ Some (kept.Meta numbers)) where
    pub made : AreMade (log_of opening entries) all
    made = are_made one change (log_of opening entries) all told
        (own_all again laws opening entries stood.orderly stood.later
        (subst AreOwn (sym (first_facts opening)) stood.own) legal) compiled

    pub leaves : LegsAreAlike →
        LeaveNothing (log_of opening entries).admin (log_of opening entries) all
    leaves alike =
        let roomed = room_all again alike laws opening entries stood.orderly stood.later (
          (
            (
              first_sound opening stood.sound,
              subst AreSaid (sym (first_facts opening)) stood.said,
              subst AreJobsInTime (sym (first_facts opening)) stood.jobs,
            ),
            subst HoldOne (sym (first_facts opening)) stood.holds,
          ),
          subst AreOwn (sym (first_facts opening)) stood.own,
          subst HaveRoom (sym (first_facts opening)) stood.room,
        ) legal in
        let planned = planned_all laws opening entries stood.orderly stood.later (
          first_sound opening stood.sound,
          subst ArePlanned (sym (first_facts opening)) stood.planned,
        ) legal in
        leave_nothing change (log_of opening entries) numbers all told is.are.ascend made is.good
        counted
        (kept_free (log_of opening entries).facts (free_all laws opening entries stood.orderly
        stood.later
        (subst AreFree (sym (first_facts opening)) stood.free) legal))
        (none_late change (log_of opening entries) numbers (rising opening entries stood.later
        legal)
        counted)
        (kept_below (log_of opening entries) numbers planned
        (the_run change (log_of opening entries) numbers counted))
        (apart_all laws opening entries stood.orderly stood.later (first_apart opening stood.apart) legal)
        (in_time_all laws opening entries stood.orderly stood.later (
          first_sound opening stood.sound,
          subst AreInTime (sym (first_facts opening)) stood.in_time,
        ) legal).1 planned.0.one
        roomed.0.0.2
        (orderly_all laws.settling laws.coming opening entries stood.orderly legal).orderly.done
        roomed.0.1
        (few_legs change (log_of opening entries) numbers all told is.are.ascend counted
        roomed.0.0.2 roomed.2)

pub new_stood : AreOrderly [] → (admin : Digest) → HasStood (opened admin)
unfolding log_of
new_stood first admin = record {
  later = tt;
  free = tt;
  apart = record {
    own = λ name told e. absurd (none_some None told refl e);
    one = λ name other told also e f has. absurd (none_some None told refl e);
  };
  sound = new_sound admin;
  planned = λ run stage name there. absurd (there refl);
  own = tt;
  orderly = new_orderly first admin;
  said = tt;
  jobs = record {
    taken = λ run stage job there. absurd (there refl);
    ended = λ run stage job there. absurd (there refl);
    ends = λ run stage job take end e f. absurd (none_some None take refl e);
    waits = λ run stage job planned take p e. absurd (none_some None take refl e);
  };
  holds = record {
    rise = tt;
    planned = λ run stage job there. absurd (there refl);
    one = λ agent run stage job r s j its other. absurd (none_some None its.take refl its.is);
    last = λ agent run stage job its last e. absurd (none_some None its.take refl its.is);
  };
  room = λ at is_at. absurd (none_some None at.queued refl is_at.queued);
  in_time = record {
    ends = λ run stage start end e f. absurd (none_some None start refl e);
    waits = λ run stage planned start p e. absurd (none_some None start refl e);
  };
}
