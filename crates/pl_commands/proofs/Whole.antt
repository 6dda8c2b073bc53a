-- Which statuses come of which commands.
use Rattle.std.proofs.Common.{◌≡◌, ◌∙◌, ℕ, Bool, true, false, List, Option, Some, None, sym, subst}
use Rattle.std.proofs.Common.{inl, inr, refl}
use Rattle.pl_base.specs.declared.expanded.Argument.{Argument}
use Rattle.pl_commands.specs.Run.{ReadsToItsEnd, Runs, compile_status, inflow_of}
use Rattle.pl_commands.specs.Run.{outflow_of}
use Rattle.pl_listener.specs.Handles.{Handle}
use Rattle.pl_listener.specs.declared.fault.ListenFault.{ListenFault}
use Rattle.pl_listener.specs.declared.fault.ListenFault.TheVariants as listen
use Rattle.pl_offline.specs.Running.{Runs as RunsOffline}
use Rattle.pl_offline.specs.declared.ending.Ending.{Ending}
use Rattle.pl_offline.specs.declared.ending.Ending.TheVariants as ending
use Rattle.pl_outfit.specs.Outside.{Outside}
use Rattle.pl_outfit.specs.declared.status.Status.{Status}
use Rattle.pl_outfit.specs.declared.status.Status.TheVariants as status
use Rattle.pl_rehearse.specs.Rehearse.{Sends}
use Rattle.pl_replaying.specs.Replaying.{status_of}
use Rattle.pl_replaying.specs.Below.pl_service.specs.declared.fault.OpenFault.{OpenFault}
use Rattle.pl_replaying.specs.Below.pl_service.specs.declared.fault.OpenFault.TheVariants as fault
use Rattle.pl_serving.specs.Serving.{ServesHall}
use Rattle.pl_serving.specs.Statuses.{end_status, fault_status}
use Rattle.pl_sessions.specs.Session.{EndsTold}
use Rattle.pl_sessions.specs.Told.{IsAtEnd, Told}
use Rattle.pl_sessions.specs.declared.served.Served.{Served}
use Rattle.pl_sessions.specs.declared.served.Served.TheVariants as served
use Rattle.pl_replaying.specs.Below.pl_unopened.specs.Unopened.{Tells, WritesLine, no_store_status, torn_line, with_store}
use Rattle.pl_words.specs.declared.command.Command.{Command}
use Rattle.pl_words.specs.declared.command.Command.TheVariants.{Compile, Rehearse, Replay, Serve}
use Rattle.pl_worker.specs.declared.why.End.{End}
use Rattle.pl_worker.specs.declared.why.End.TheVariants as the_end

-- ---- statuses of one part, which are neither that of words that are no command nor, but where a
-- ---- source was read to its end or a link stopped, that of a run that finished

no_store_usage : (failed : Bool) → no_store_status failed ≡ status.Usage → ⊥
no_store_usage true is = absurd (cc is)
no_store_usage false is = absurd (cc is)

no_store_finished : (failed : Bool) → no_store_status failed ≡ status.Finished → ⊥
no_store_finished true is = absurd (cc is)
no_store_finished false is = absurd (cc is)

told_usage : (why : OpenFault) (old : Outside) (ends : Status) (new : Outside)
    → Tells why old ends new → ends ≡ status.Usage → ⊥
told_usage (fault.Torn table key bytes) old ends new tells is =
    subst (λ s. WritesLine (torn_line table key) old s new) is tells.writes
told_usage fault.KeeperFault old ends new tells is = absurd (cc (sym tells.0 ∙ is))
told_usage fault.Memory old ends new tells is = absurd (cc (sym tells.0 ∙ is))

told_finished : (why : OpenFault) (old : Outside) (ends : Status) (new : Outside)
    → Tells why old ends new → ends ≡ status.Finished → ⊥
told_finished (fault.Torn table key bytes) old ends new tells is =
    subst (λ s. WritesLine (torn_line table key) old s new) is tells.writes
told_finished fault.KeeperFault old ends new tells is = absurd (cc (sym tells.0 ∙ is))
told_finished fault.Memory old ends new tells is = absurd (cc (sym tells.0 ∙ is))

served_usage : (so : Served) → status_of so ≡ status.Usage → ⊥
served_usage served.Ended is = absurd (cc is)
served_usage (served.Cut len) is = absurd (cc is)
served_usage (served.Bad fault) is = absurd (cc is)
served_usage served.Spent is = absurd (cc is)
served_usage served.Stopped is = absurd (cc is)
served_usage served.ReadFault is = absurd (cc is)
served_usage served.WriteFault is = absurd (cc is)
served_usage served.Memory is = absurd (cc is)

served_finished : (so : Served) (link : Told) → (so ≡ served.Stopped → ⊥) → EndsTold so link
    → status_of so ≡ status.Finished → IsAtEnd link
served_finished served.Ended link goes_on told is = told
served_finished (served.Cut len) link goes_on told is = absurd (cc is)
served_finished (served.Bad fault) link goes_on told is = absurd (cc is)
served_finished served.Spent link goes_on told is = absurd (cc is)
served_finished served.Stopped link goes_on told is = absurd (goes_on refl)
served_finished served.ReadFault link goes_on told is = absurd (cc is)
served_finished served.WriteFault link goes_on told is = absurd (cc is)
served_finished served.Memory link goes_on told is = absurd (cc is)

fault_usage : (why : ListenFault) → fault_status why ≡ status.Usage → ⊥
fault_usage listen.Failed is = absurd (cc is)
fault_usage listen.Memory is = absurd (cc is)

end_usage : (end : End) → end_status end ≡ status.Usage → ⊥
end_usage the_end.Stopped is = absurd (cc is)
end_usage the_end.Failed is = absurd (cc is)
end_usage the_end.Memory is = absurd (cc is)

compiled_usage : (so : Ending) → compile_status so ≡ status.Usage → ⊥
compiled_usage ending.Compiled is = absurd (cc is)
compiled_usage ending.Refused is = absurd (cc is)
compiled_usage ending.NotBundle is = absurd (cc is)
compiled_usage ending.ReadFault is = absurd (cc is)
compiled_usage ending.Spent is = absurd (cc is)
compiled_usage ending.WriteFault is = absurd (cc is)
compiled_usage (ending.Memory passed) is = absurd (cc is)

compiled_finished : (arguments : List Argument) (so : Ending) (old new : Outside)
    → RunsOffline arguments so (inflow_of old.link) (inflow_of new.link) (outflow_of old.link)
    (outflow_of new.link) → compile_status so ≡ status.Finished → IsAtEnd new.link
compiled_finished arguments ending.Compiled old new runs is =
    (runs.1.whole.ended, runs.1.whole.nothing)
compiled_finished arguments ending.Refused old new runs is = absurd (cc is)
compiled_finished arguments ending.NotBundle old new runs is = absurd (cc is)
compiled_finished arguments ending.ReadFault old new runs is = absurd (cc is)
compiled_finished arguments ending.Spent old new runs is = absurd (cc is)
compiled_finished arguments ending.WriteFault old new runs is = absurd (cc is)
compiled_finished arguments (ending.Memory passed) old new runs is = absurd (cc is)

sent_usage : (line : List ℕ) (old : Outside) (ends : Status) (new : Outside)
    → Sends line old ends new → ends ≡ status.Usage → ⊥
sent_usage line old ends new sends is = subst (λ s. Sends line old s new) is sends

-- ---- a run

module _ {L C : Type 0} (coming : C → Option (ℕ → ℕ)) (tells : L → Handle) (old : Outside)
    (ends : Status) (new : Outside) where
  is_command : (command : Command) → Runs coming tells (Some command) old ends new
      → ends ≡ status.Usage → ⊥
  is_command (Replay admin path) (inl lacks) is = absurd (cc (sym lacks.0 ∙ is))
  is_command (Replay admin path) (inr (inl none)) is =
      no_store_usage none.failed (sym none.ending_is ∙ is)
  is_command (Replay admin path) (inr (inr (inl u))) is =
      told_usage u.why _ ends u.refuses.between u.refuses.tells is
  is_command (Replay admin path) (inr (inr (inr r))) is =
      served_usage r.replays.served (sym r.replays.ending_is ∙ is)
  is_command (Serve admin address path) (inl lacks) is = absurd (cc (sym lacks.0 ∙ is))
  is_command (Serve admin address path) (inr (inl none)) is =
      no_store_usage none.failed (sym none.ending_is ∙ is)
  is_command (Serve admin address path) (inr (inr (inl u))) is =
      told_usage u.why _ ends u.refuses.between u.refuses.tells is
  is_command (Serve admin address path) (inr (inr (inr s))) is = go s.serves
    where
      go : ServesHall coming tells s.opening address (with_store path old) ends new → ⊥
      go (inl nobody) = fault_usage nobody.why (sym nobody.ending_is ∙ is)
      go (inr links) = end_usage links.serves.end (sym links.serves.ending_is ∙ is)
  is_command (Compile arguments) (inl lacks) is = absurd (cc (sym lacks.0 ∙ is))
  is_command (Compile arguments) (inr c) is = compiled_usage c.ended (sym c.ending_is ∙ is)
  is_command (Rehearse runs) (inl lacks) is = absurd (cc (sym lacks.0 ∙ is))
  is_command (Rehearse runs) (inr r) is = sent_usage r.line old ends new r.writes.sends is

  pub not_usage : (command : Option Command) → Runs coming tells command old ends new
      → ends ≡ status.Usage → command ≡ None
  not_usage None runs is = refl
  not_usage (Some command) runs is = absurd (is_command command runs is)

  pub usage_of : (command : Option Command) → Runs coming tells command old ends new
      → command ≡ None → ends ≡ status.Usage
  usage_of None runs is = runs.ending_is
  usage_of (Some command) runs is = absurd (cc is)

  pub to_its_end : (command : Option Command) → Runs coming tells command old ends new
      → ReadsToItsEnd command ends new.link
  to_its_end None runs = λ is. absurd (cc (sym runs.ending_is ∙ is))
  to_its_end (Some (Serve admin address path)) runs = tt
  to_its_end (Some (Rehearse many)) runs = tt
  to_its_end (Some (Replay admin path)) (inl lacks) = λ is. absurd (cc (sym lacks.0 ∙ is))
  to_its_end (Some (Replay admin path)) (inr (inl none)) =
      λ is. absurd (no_store_finished none.failed (sym none.ending_is ∙ is))
  to_its_end (Some (Replay admin path)) (inr (inr (inl u))) =
      λ is. absurd (told_finished u.why _ ends u.refuses.between u.refuses.tells is)
  to_its_end (Some (Replay admin path)) (inr (inr (inr r))) =
      λ is. served_finished r.replays.served new.link r.replays.goes_on r.replays.session.told
      (sym r.replays.ending_is ∙ is)
  to_its_end (Some (Compile arguments)) (inl lacks) = λ is. absurd (cc (sym lacks.0 ∙ is))
  to_its_end (Some (Compile arguments)) (inr c) =
      λ is. compiled_finished arguments c.ended old new c.runs (sym c.ending_is ∙ is)
