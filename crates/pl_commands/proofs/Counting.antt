-- Which counts of faults a run raises.
use Rattle.std.proofs.Common.{◌≡◌, ◌⊎◌, ℕ, Bool, true, false, List, Option, Some, None, refl}
use Rattle.std.proofs.Common.{sym, ap, ◌∙◌, subst, inl, inr, zero, nat_lt}
use Rattle.pl_base.specs.Counts.{one_more}
use Rattle.pl_base.specs.declared.digest.Digest.{Digest}
use Rattle.pl_base.specs.declared.expanded.Argument.{Argument}
use Rattle.pl_base.specs.declared.row.Row.{Row}
use Rattle.pl_replaying.specs.Below.pl_alone.specs.Desk.{Parts}
use Rattle.pl_commands.proofs.Rising.{at_most_one, counts_failed, counts_of, failed_by, faulty}
use Rattle.pl_commands.proofs.Rising.{IsOneFaulty, one_failed, rises_of}
use Rattle.pl_commands.specs.Counted.{DoorsCounted, ReadsCounted, StoresCounted, WritesCounted}
use Rattle.pl_commands.specs.Run.{Compiles, LacksMemory, Runs, ShowsUsage, compile_status, inflow_of}
use Rattle.pl_commands.specs.Run.{outflow_of, usage_line}
use Rattle.pl_serving.specs.Below.pl_history.specs.History.{Opening}
use Rattle.pl_listener.specs.Handles.{Handle}
use Rattle.pl_listener.specs.declared.fault.ListenFault.{ListenFault}
use Rattle.pl_listener.specs.declared.fault.ListenFault.TheVariants as listen
use Rattle.pl_offline.specs.Running.{Runs as RunsOffline}
use Rattle.pl_offline.specs.declared.ending.Ending.{Ending}
use Rattle.pl_offline.specs.declared.ending.Ending.TheVariants as ending
use Rattle.pl_outfit.specs.Outside.{Outside}
use Rattle.pl_outfit.specs.Stores.{handed_back, one_more_if}
use Rattle.pl_outfit.specs.declared.status.Status.{Status}
use Rattle.pl_outfit.specs.declared.status.Status.TheVariants as status
use Rattle.pl_rehearse.specs.Rehearse.{WritesLine as WritesSummary}
use Rattle.pl_replaying.specs.Replaying.{Replays, ReplaysAt, status_of}
use Rattle.pl_serving.specs.Below.pl_serve.specs.declared.four.Four.{Four}
use Rattle.pl_replaying.specs.Below.pl_service.specs.Begun.{Fails}
use Rattle.pl_replaying.specs.Below.pl_service.specs.declared.fault.OpenFault.{OpenFault}
use Rattle.pl_replaying.specs.Below.pl_service.specs.declared.fault.OpenFault.TheVariants as fault
use Rattle.pl_serving.specs.Doors.{HasNoDoors, all_ended, counted}
use Rattle.pl_serving.specs.Serving.{Serves, ServesAt, ServesHall, ServesLinks, ServesNobody}
use Rattle.pl_serving.specs.Serving.{handles_of}
use Rattle.pl_serving.specs.Statuses.{end_status, fault_status}
use Rattle.pl_sessions.specs.Session.{CountsReads, CountsWrites}
use Rattle.pl_sessions.specs.Told.{Begun, Writes}
use Rattle.pl_sessions.specs.declared.served.Served.{Served}
use Rattle.pl_sessions.specs.declared.served.Served.TheVariants as served
use Rattle.pl_replaying.specs.Below.pl_unopened.specs.Unopened.{HasNoStore, Tells, Unopens}
use Rattle.pl_replaying.specs.Below.pl_unopened.specs.Unopened.{WritesLine, no_store_status}
use Rattle.pl_replaying.specs.Below.pl_unopened.specs.Unopened.{torn_line, with_store}
use Rattle.pl_words.specs.declared.command.Command.{Command}
use Rattle.pl_words.specs.declared.command.Command.TheVariants.{Compile, Rehearse, Replay, Serve}
use Rattle.pl_worker.specs.Ends.{has_failed}
use Rattle.pl_worker.specs.declared.why.End.{End}
use Rattle.pl_worker.specs.declared.why.End.TheVariants as the_end

pub record AllCounted (ends : Status) (old new : Outside) : Type 0 where
  pub reads : ReadsCounted ends old.link.read_faults new.link.read_faults
  pub writes : WritesCounted ends old.link.write_faults new.link.write_faults
  pub stores : StoresCounted ends old.stores.faults new.stores.faults
  pub doors : DoorsCounted ends old.doors.faults new.doors.faults

-- ---- no store

no_store_counted : (failed : Bool) (old new : Outside) → new.link ≡ old.link → new.doors ≡ old.doors
    → new.stores.faults ≡ one_more_if failed old.stores.faults
    → AllCounted (no_store_status failed) old new
no_store_counted true old new link doors stores = record {
  reads = ap (λ l. l.read_faults) link;
  writes = ap (λ l. l.write_faults) link;
  stores = stores;
  doors = (zero, ap (λ d. d.faults) doors);
}
no_store_counted false old new link doors stores = record {
  reads = ap (λ l. l.read_faults) link;
  writes = ap (λ l. l.write_faults) link;
  stores = inl stores;
  doors = (zero, ap (λ d. d.faults) doors);
}

no_store : (path : Option (List ℕ)) (old : Outside) (ends : Status) (new : Outside)
    → HasNoStore path old ends new → AllCounted ends old new
no_store path old ends new none =
    subst (λ s. AllCounted s old new) (sym none.ending_is)
    (no_store_counted none.failed old new (ap (λ o. o.link) none.is) (ap (λ o. o.doors) none.is)
    (ap (λ o. o.stores.faults) none.is))

-- ---- no service

-- what was written and told of it, and the store that was handed back
module _ (old between new : Outside) (held : Option (List Row)) (faults : ℕ)
    (is : new ≡ record between { stores = handed_back held faults between.stores }) where
  back_link : new.link ≡ between.link
  back_link = ap (λ o. o.link) is

  back_doors : new.doors ≡ between.doors
  back_doors = ap (λ o. o.doors) is

  back_stores : new.stores.faults ≡ one_more_if (nat_lt 0 faults) between.stores.faults
  back_stores = ap (λ o. o.stores.faults) is

  handed : between.stores ≡ old.stores
      → (new.stores.faults ≡ old.stores.faults)
      ⊎ (new.stores.faults ≡ one_more old.stores.faults)
  handed same = go (at_most_one (nat_lt 0 faults) between.stores.faults)
    where
      first : between.stores.faults ≡ old.stores.faults
      first = ap (λ s. s.faults) same

      go : (one_more_if (nat_lt 0 faults) between.stores.faults ≡ between.stores.faults)
          ⊎ (one_more_if (nat_lt 0 faults) between.stores.faults
          ≡ one_more between.stores.faults)
          → (new.stores.faults ≡ old.stores.faults)
          ⊎ (new.stores.faults ≡ one_more old.stores.faults)
      go (inl so) = inl (back_stores ∙ (so ∙ first))
      go (inr so) = inr (back_stores ∙ (so ∙ ap one_more first))

  torn_counted : (line : List ℕ) (ends : Status) → WritesLine line old ends between
      → between ≡ record old { link = between.link } → AllCounted ends old new
  torn_counted line status.Torn writes same = record {
    reads = ap (λ l. l.read_faults) back_link ∙ writes.reading.read_faults;
    writes = ap (λ l. l.write_faults) back_link ∙ writes.write_faults;
    stores = handed (ap (λ o. o.stores) same);
    doors = (zero, ap (λ d. d.faults) (back_doors ∙ ap (λ o. o.doors) same));
  }
  torn_counted line status.WriteFault writes same = record {
    reads = ap (λ l. l.read_faults) back_link ∙ writes.reading.read_faults;
    writes = ap (λ l. l.write_faults) back_link ∙ writes.write_faults;
    stores = handed (ap (λ o. o.stores) same);
    doors = (zero, ap (λ d. d.faults) (back_doors ∙ ap (λ o. o.doors) same));
  }
  torn_counted line status.Memory writes same = record {
    reads = ap (λ l. l.read_faults) back_link ∙ ap (λ o. o.link.read_faults) writes;
    writes = ap (λ l. l.write_faults) back_link ∙ ap (λ o. o.link.write_faults) writes;
    stores = handed (ap (λ o. o.stores) writes);
    doors = (zero, ap (λ d. d.faults) (back_doors ∙ ap (λ o. o.doors) writes));
  }
  torn_counted line status.Finished writes same = absurd writes
  torn_counted line status.ReadFault writes same = absurd writes
  torn_counted line status.Usage writes same = absurd writes
  torn_counted line status.KeeperFault writes same = absurd writes
  torn_counted line status.ListenerFault writes same = absurd writes
  torn_counted line status.Refused writes same = absurd writes
  torn_counted line status.NotWhole writes same = absurd writes
  torn_counted line status.Spent writes same = absurd writes

  -- the count of the store rose from none
  keeper_counted : faults ≡ one_more 0 → between.link ≡ old.link → between.stores ≡ old.stores
      → between.doors ≡ old.doors → AllCounted status.KeeperFault old new
  keeper_counted rose link stores doors = record {
    reads = ap (λ l. l.read_faults) (back_link ∙ link);
    writes = ap (λ l. l.write_faults) (back_link ∙ link);
    stores =
        subst (λ b. new.stores.faults ≡ one_more_if b between.stores.faults) (faulty 0 faults rose)
        back_stores
        ∙ ap (λ s. one_more s.faults) stores;
    doors = (zero, ap (λ d. d.faults) (back_doors ∙ doors));
  }

  memory_counted : between ≡ old → AllCounted status.Memory old new
  memory_counted same = record {
    reads = ap (λ l. l.read_faults) (back_link ∙ ap (λ o. o.link) same);
    writes = ap (λ l. l.write_faults) (back_link ∙ ap (λ o. o.link) same);
    stores = handed (ap (λ o. o.stores) same);
    doors = (zero, ap (λ d. d.faults) (back_doors ∙ ap (λ o. o.doors) same));
  }

  refused_counted : (admin : Digest) (why : OpenFault) (ends : Status) → Tells why old ends between
      → Fails admin held 0 faults why → AllCounted ends old new
  refused_counted admin (fault.Torn table key bytes) ends tells fails =
      torn_counted (torn_line table key) ends tells.writes tells.is
  refused_counted admin fault.KeeperFault ends tells fails =
      subst (λ s. AllCounted s old new) (sym tells.0)
      (keeper_counted fails (ap (λ o. o.link) tells.1) (ap (λ o. o.stores) tells.1)
      (ap (λ o. o.doors) tells.1))
  refused_counted admin fault.Memory ends tells fails =
      subst (λ s. AllCounted s old new) (sym tells.0) (memory_counted tells.1)

-- giving a store counts nothing
with_store_counted : (path : Option (List ℕ)) (old : Outside) (ends : Status) (new : Outside)
    → AllCounted ends (with_store path old) new → AllCounted ends old new
with_store_counted path old ends new all = record {
  reads = all.reads;
  writes = all.writes;
  stores = all.stores;
  doors = all.doors;
}

unopened_counted : (admin : Digest) (path : Option (List ℕ)) (old : Outside) (ends : Status)
    (new : Outside) → Unopens admin path old ends new → AllCounted ends old new
unopened_counted admin path old ends new u =
    with_store_counted path old ends new
    (refused_counted (with_store path old) u.refuses.between new u.held u.faults u.refuses.is admin
    u.why ends u.refuses.tells u.fails)

-- ---- `replay`

reads_by : (so : Served) (old new : ℕ) → CountsReads so old new → ReadsCounted (status_of so) old new
reads_by served.Ended old new is = is
reads_by (served.Cut len) old new is = is
reads_by (served.Bad fault) old new is = is
reads_by served.Spent old new is = is
reads_by served.Stopped old new is = is
reads_by served.ReadFault old new is = is
reads_by served.WriteFault old new is = is
reads_by served.Memory old new is = is

writes_by : (so : Served) (old new : ℕ) → CountsWrites so old new
    → WritesCounted (status_of so) old new
writes_by served.Ended old new is = is
writes_by (served.Cut len) old new is = is
writes_by (served.Bad fault) old new is = is
writes_by served.Spent old new is = is
writes_by served.Stopped old new is = is
writes_by served.ReadFault old new is = is
writes_by served.WriteFault old new is = is
writes_by served.Memory old new is = is

stores_by : (so : Served) (old new : ℕ) → (new ≡ old) ⊎ (new ≡ one_more old)
    → StoresCounted (status_of so) old new
stores_by served.Ended old new is = is
stores_by (served.Cut len) old new is = is
stores_by (served.Bad fault) old new is = is
stores_by served.Spent old new is = is
stores_by served.Stopped old new is = is
stores_by served.ReadFault old new is = is
stores_by served.WriteFault old new is = is
stores_by served.Memory old new is = is

doors_by : (so : Served) (old new : ℕ) → new ≡ old → DoorsCounted (status_of so) old new
doors_by served.Ended old new is = (zero, is)
doors_by (served.Cut len) old new is = (zero, is)
doors_by (served.Bad fault) old new is = (zero, is)
doors_by served.Spent old new is = (zero, is)
doors_by served.Stopped old new is = (zero, is)
doors_by served.ReadFault old new is = (zero, is)
doors_by served.WriteFault old new is = (zero, is)
doors_by served.Memory old new is = (zero, is)

at_most : (b : Bool) (old new : ℕ) → new ≡ one_more_if b old
    → (new ≡ old) ⊎ (new ≡ one_more old)
at_most true old new is = inr is
at_most false old new is = inl is

replayed_counted : (first : Parts) (old : Outside) (ends : Status) (new : Outside)
    → ReplaysAt first old ends new → AllCounted ends old new
replayed_counted first old ends new r =
    subst (λ s. AllCounted s old new) (sym r.ending_is) (record {
      reads = reads_by r.served _ _ r.session.read_faults;
      writes = writes_by r.served _ _ r.session.write_faults;
      stores =
          stores_by r.served _ _
          (at_most (nat_lt 0 r.last.faults) _ _ (ap (λ o. o.stores.faults) r.is));
      doors = doors_by r.served _ _ (ap (λ o. o.doors.faults) r.is);
    })

replays_counted : (admin : Digest) (path : Option (List ℕ)) (old : Outside) (ends : Status)
    (new : Outside) → Replays admin path old ends new → AllCounted ends old new
replays_counted admin path old ends new (inl none) = no_store path old ends new none
replays_counted admin path old ends new (inr (inl u)) =
    unopened_counted admin path old ends new u
replays_counted admin path old ends new (inr (inr r)) =
    with_store_counted path old ends new
    (replayed_counted r.first (with_store path old) ends new r.replays)

-- ---- `serve`

-- one who handed a store back
stores_at : (b : Bool) (old between new : ℕ) → between ≡ old → new ≡ one_more_if b between
    → (new ≡ old) ⊎ (new ≡ one_more old)
stores_at b old between new same is = at_most b old new (is ∙ ap (one_more_if b) same)

nobody_counted : (why : ListenFault) (old new : Outside) → new.link ≡ old.link
    → (new.stores.faults ≡ old.stores.faults) ⊎ (new.stores.faults ≡ one_more old.stores.faults)
    → new.doors.faults ≡ counted why old.doors.faults → AllCounted (fault_status why) old new
nobody_counted listen.Failed old new link stores doors = record {
  reads = ap (λ l. l.read_faults) link;
  writes = ap (λ l. l.write_faults) link;
  stores = stores;
  doors = (zero, doors);
}
nobody_counted listen.Memory old new link stores doors = record {
  reads = ap (λ l. l.read_faults) link;
  writes = ap (λ l. l.write_faults) link;
  stores = stores;
  doors = (zero, doors);
}

same_but_doors : (address : List ℕ) (why : ListenFault) (old new : Outside)
    → HasNoDoors address why old new → (new.link ≡ old.link) × (new.stores ≡ old.stores)
same_but_doors address why old new (inl none, counts) =
    (ap (λ o. o.link) none.is, ap (λ o. o.stores) none.is)
same_but_doors address why old new (inr none, counts) =
    (ap (λ o. o.link) none.is, ap (λ o. o.stores) none.is)

no_doors_counted : (opening : Opening) (address : List ℕ) (old : Outside) (ends : Status)
    (new : Outside) → ServesNobody opening address old ends new → AllCounted ends old new
no_doors_counted opening address old ends new s =
    let same = same_but_doors address s.why old s.between s.none in
    subst (λ st. AllCounted st old new) (sym s.ending_is)
    (nobody_counted s.why old new (ap (λ o. o.link) s.is ∙ same.0)
    (stores_at (nat_lt 0 s.faults) _ _ _ (ap (λ t. t.faults) same.1)
    (ap (λ o. o.stores.faults) s.is))
    (ap (λ o. o.doors.faults) s.is ∙ s.none.1))

module _ {L C : Type 0} (coming : C → Option (ℕ → ℕ)) (tells : L → Handle) where
  one_faulty : (opening : Opening) (doors : Four L) (old : Outside) (ends : Status) (new : Outside)
      (s : ServesLinks coming tells opening doors old ends new) → s.end ≡ the_end.Failed
      → IsOneFaulty (handles_of tells s.left)
  one_faulty opening doors old ends new s is =
      go (one_failed s.reasons (failed_by s.reasons (s.ends ∙ ap Some is)))
    where
      go : (has_failed s.reasons.first ≡ true) ⊎ ((has_failed s.reasons.second ≡ true)
          ⊎ ((has_failed s.reasons.third ≡ true) ⊎ (has_failed s.reasons.fourth ≡ true)))
          → IsOneFaulty (handles_of tells s.left)
      go (inl so) =
          inl (counts_failed s.reasons.first _ _ so s.history.first.works.faults)
      go (inr (inl so)) =
          inr (inl (counts_failed s.reasons.second _ _ so s.history.second.works.faults))
      go (inr (inr (inl so))) =
          inr (inr (inl (counts_failed s.reasons.third _ _ so s.history.third.works.faults)))
      go (inr (inr (inr so))) =
          inr (inr (inr (inl (counts_failed s.reasons.fourth _ _ so
          s.history.fourth.works.faults))))

  by_end : (end : End) (old new : Outside) (handles : List Handle)
      (rows : Option (List Row)) (faults : ℕ)
      → new ≡ record old {
        stores = handed_back rows faults old.stores;
        doors = all_ended handles old.doors;
      }
      → (end ≡ the_end.Failed → IsOneFaulty handles) → AllCounted (end_status end) old new
  by_end the_end.Stopped old new handles rows faults is one = record {
    reads = ap (λ o. o.link.read_faults) is;
    writes = ap (λ o. o.link.write_faults) is;
    stores = at_most (nat_lt 0 faults) _ _ (ap (λ o. o.stores.faults) is);
    doors = (
      (counts_of handles old.doors).0,
      ap (λ o. o.doors.faults) is ∙ (counts_of handles old.doors).1,
    );
  }
  by_end the_end.Memory old new handles rows faults is one = record {
    reads = ap (λ o. o.link.read_faults) is;
    writes = ap (λ o. o.link.write_faults) is;
    stores = at_most (nat_lt 0 faults) _ _ (ap (λ o. o.stores.faults) is);
    doors = (
      (counts_of handles old.doors).0,
      ap (λ o. o.doors.faults) is ∙ (counts_of handles old.doors).1,
    );
  }
  by_end the_end.Failed old new handles rows faults is one = record {
    reads = ap (λ o. o.link.read_faults) is;
    writes = ap (λ o. o.link.write_faults) is;
    stores = at_most (nat_lt 0 faults) _ _ (ap (λ o. o.stores.faults) is);
    doors = (
      (rises_of handles old.doors (one refl)).0,
      ap (λ o. o.doors.faults) is ∙ (rises_of handles old.doors (one refl)).1,
    );
  }

  links_counted : (opening : Opening) (doors : Four L) (old : Outside) (ends : Status)
      (new : Outside) → ServesLinks coming tells opening doors old ends new
      → AllCounted ends old new
  links_counted opening doors old ends new s =
      subst (λ st. AllCounted st old new) (sym s.ending_is)
      (by_end s.end old new (handles_of tells s.left) s.rows s.faults s.is
      (one_faulty opening doors old ends new s))

  -- opening a door counts nothing
  at_counted : (opening : Opening) (address : List ℕ) (old : Outside) (ends : Status)
      (new : Outside) → ServesAt coming tells opening address old ends new
      → AllCounted ends old new
  at_counted opening address old ends new s =
      let all = links_counted opening s.doors s.between ends new s.serves in
      let link = ap (λ o. o.link) s.opens.is in
      record {
        reads = subst (λ l. ReadsCounted ends l.read_faults new.link.read_faults) link all.reads;
        writes =
            subst (λ l. WritesCounted ends l.write_faults new.link.write_faults) link all.writes;
        stores =
            subst (λ n. StoresCounted ends n new.stores.faults)
            (ap (λ o. o.stores.faults) s.opens.is) all.stores;
        doors =
            subst (λ n. DoorsCounted ends n new.doors.faults)
            (ap (λ o. o.doors.faults) s.opens.is) all.doors;
      }

  hall_counted : (opening : Opening) (address : List ℕ) (old : Outside) (ends : Status)
      (new : Outside) → ServesHall coming tells opening address old ends new
      → AllCounted ends old new
  hall_counted opening address old ends new (inl none) =
      no_doors_counted opening address old ends new none
  hall_counted opening address old ends new (inr s) = at_counted opening address old ends new s

  serves_counted : (admin : Digest) (address : List ℕ) (path : Option (List ℕ)) (old : Outside)
      (ends : Status) (new : Outside) → Serves coming tells admin address path old ends new
      → AllCounted ends old new
  serves_counted admin address path old ends new (inl none) = no_store path old ends new none
  serves_counted admin address path old ends new (inr (inl u)) =
      unopened_counted admin path old ends new u
  serves_counted admin address path old ends new (inr (inr s)) =
      with_store_counted path old ends new
      (hall_counted s.opening address (with_store path old) ends new s.serves)

-- ---- `compile`

reads_of : (arguments : List Argument) (so : Ending) (old new : Outside)
    → RunsOffline arguments so (inflow_of old.link) (inflow_of new.link) (outflow_of old.link)
    (outflow_of new.link)
    → ReadsCounted (compile_status so) old.link.read_faults new.link.read_faults
reads_of arguments ending.Compiled old new runs = runs.1.whole.quiet
reads_of arguments ending.Refused old new runs = runs.1.whole.quiet
reads_of arguments ending.NotBundle old new runs = runs.1.quiet
reads_of arguments ending.ReadFault old new runs = runs.0.broken
reads_of arguments ending.Spent old new runs = runs.0.broken.1
reads_of arguments ending.WriteFault old new runs = runs.1.whole.quiet
reads_of arguments (ending.Memory passed) old new runs = runs.3

writes_of : (arguments : List Argument) (so : Ending) (old new : Outside)
    → RunsOffline arguments so (inflow_of old.link) (inflow_of new.link) (outflow_of old.link)
    (outflow_of new.link)
    → WritesCounted (compile_status so) old.link.write_faults new.link.write_faults
writes_of arguments ending.Compiled old new runs = runs.2.quiet
writes_of arguments ending.Refused old new runs = runs.2.quiet
writes_of arguments ending.NotBundle old new runs = ap (λ o. o.faults) runs.3
writes_of arguments ending.ReadFault old new runs = ap (λ o. o.faults) runs.1
writes_of arguments ending.Spent old new runs = ap (λ o. o.faults) runs.1
writes_of arguments ending.WriteFault old new runs = runs.2.counted
writes_of arguments (ending.Memory passed) old new runs = ap (λ o. o.faults) runs.4

no_stores : (so : Ending) (old new : ℕ) → new ≡ old → StoresCounted (compile_status so) old new
no_stores ending.Compiled old new is = inl is
no_stores ending.Refused old new is = inl is
no_stores ending.NotBundle old new is = inl is
no_stores ending.ReadFault old new is = inl is
no_stores ending.Spent old new is = inl is
no_stores ending.WriteFault old new is = inl is
no_stores (ending.Memory passed) old new is = inl is

no_doors : (so : Ending) (old new : ℕ) → new ≡ old → DoorsCounted (compile_status so) old new
no_doors ending.Compiled old new is = (zero, is)
no_doors ending.Refused old new is = (zero, is)
no_doors ending.NotBundle old new is = (zero, is)
no_doors ending.ReadFault old new is = (zero, is)
no_doors ending.Spent old new is = (zero, is)
no_doors ending.WriteFault old new is = (zero, is)
no_doors (ending.Memory passed) old new is = (zero, is)

compiles_counted : (arguments : List Argument) (old : Outside) (ends : Status) (new : Outside)
    → Compiles arguments old ends new → AllCounted ends old new
compiles_counted arguments old ends new c =
    subst (λ s. AllCounted s old new) (sym c.ending_is) (record {
      reads = reads_of arguments c.ended old new c.runs;
      writes = writes_of arguments c.ended old new c.runs;
      stores = no_stores c.ended _ _ (ap (λ o. o.stores.faults) c.is);
      doors = no_doors c.ended _ _ (ap (λ o. o.doors.faults) c.is);
    })

-- ---- `rehearse`

wrote_counted : (line : List ℕ) (old : Outside) (ends : Status) (new : Outside)
    → WritesSummary line old ends new → AllCounted ends old new
wrote_counted line old status.Finished new w = record {
  reads = w.sends.reading.read_faults;
  writes = w.sends.write_faults;
  stores = inl (ap (λ o. o.stores.faults) w.is);
  doors = (zero, ap (λ o. o.doors.faults) w.is);
}
wrote_counted line old status.WriteFault new w = record {
  reads = w.sends.reading.read_faults;
  writes = w.sends.write_faults;
  stores = inl (ap (λ o. o.stores.faults) w.is);
  doors = (zero, ap (λ o. o.doors.faults) w.is);
}
wrote_counted line old status.Memory new w = absurd w.sends
wrote_counted line old status.Torn new w = absurd w.sends
wrote_counted line old status.ReadFault new w = absurd w.sends
wrote_counted line old status.Usage new w = absurd w.sends
wrote_counted line old status.KeeperFault new w = absurd w.sends
wrote_counted line old status.ListenerFault new w = absurd w.sends
wrote_counted line old status.Refused new w = absurd w.sends
wrote_counted line old status.NotWhole new w = absurd w.sends
wrote_counted line old status.Spent new w = absurd w.sends

-- ---- words that are no command, and words for which memory was wanting

usage_counted : (old : Outside) (ends : Status) (new : Outside) → ShowsUsage old ends new
    → AllCounted ends old new
usage_counted old ends new u =
    subst (λ s. AllCounted s old new) (sym u.ending_is) (record {
      reads = go u.shows;
      writes = wrote u.shows;
      stores = inl (ap (λ o. o.stores.faults) u.is);
      doors = (zero, ap (λ o. o.doors.faults) u.is);
    })
  where
    go : (Writes usage_line old.link new.link
        ⊎ Begun usage_line (one_more old.link.write_faults) old.link new.link)
        → new.link.read_faults ≡ old.link.read_faults
    go (inl all) = all.reading.read_faults
    go (inr some) = some.reading.read_faults

    wrote : (Writes usage_line old.link new.link
        ⊎ Begun usage_line (one_more old.link.write_faults) old.link new.link)
        → (new.link.write_faults ≡ old.link.write_faults)
        ⊎ (new.link.write_faults ≡ one_more old.link.write_faults)
    wrote (inl all) = inl all.write_faults
    wrote (inr some) = inr some.write_faults

lacks_counted : (old : Outside) (ends : Status) (new : Outside) → LacksMemory old ends new
    → AllCounted ends old new
lacks_counted old ends new lacks =
    subst (λ s. AllCounted s old new) (sym lacks.0) (record {
      reads = ap (λ o. o.link.read_faults) lacks.1;
      writes = ap (λ o. o.link.write_faults) lacks.1;
      stores = inl (ap (λ o. o.stores.faults) lacks.1);
      doors = (zero, ap (λ o. o.doors.faults) lacks.1);
    })

-- ---- any run

module _ {L C : Type 0} (coming : C → Option (ℕ → ℕ)) (tells : L → Handle) (old : Outside)
    (ends : Status) (new : Outside) where
  pub all_counted : (command : Option Command) → Runs coming tells command old ends new
      → AllCounted ends old new
  all_counted None runs = usage_counted old ends new runs
  all_counted (Some (Replay admin path)) (inl lacks) = lacks_counted old ends new lacks
  all_counted (Some (Replay admin path)) (inr r) = replays_counted admin path old ends new r
  all_counted (Some (Serve admin address path)) (inl lacks) = lacks_counted old ends new lacks
  all_counted (Some (Serve admin address path)) (inr s) =
      serves_counted coming tells admin address path old ends new s
  all_counted (Some (Compile arguments)) (inl lacks) = lacks_counted old ends new lacks
  all_counted (Some (Compile arguments)) (inr c) = compiles_counted arguments old ends new c
  all_counted (Some (Rehearse runs)) (inl lacks) = lacks_counted old ends new lacks
  all_counted (Some (Rehearse runs)) (inr r) = wrote_counted r.line old ends new r.writes
