-- A session at a service that was opened of a store's rows is a replay.
use Rattle.std.proofs.Common.{◌≡◌, ◌≢◌, ◌∙◌, ℕ, false, List, [], Option, Some, sym, ap, subst, inr}
use Rattle.pl_alone.specs.Desk.{Act, Parts, past}
use Rattle.pl_alone.specs.Lasting.{DesksLast}
use Rattle.pl_base.specs.declared.digest.Digest.{Digest}
use Rattle.pl_base.specs.declared.paired.Paired.{Paired}
use Rattle.pl_base.specs.declared.row.Row.{Row}
use Rattle.pl_alone.specs.Below.pl_core.specs.Rows.{AreKept}
use Rattle.pl_alone.specs.Below.pl_core.specs.State.{new_state}
use Rattle.pl_alone.specs.Below.pl_history.specs.Access.{IsSound}
use Rattle.pl_alone.specs.Below.pl_history.specs.Claims.{IsOrderly}
use Rattle.pl_alone.specs.Below.pl_history.specs.History.{opened}
use Rattle.pl_keeper.specs.Keeping.{WhereTold}
use Rattle.pl_outfit.specs.Outfit.{View}
use Rattle.pl_outfit.specs.Outside.{Outside}
use Rattle.pl_outfit.specs.Stores.{BeginsWith, handed_back}
use Rattle.pl_outfit.specs.declared.status.Status.{Status}
use Rattle.pl_replaying.proofs.Anew.{anew}
use Rattle.pl_replaying.specs.Replaying.{Replays, ReplaysAt, start, status_of}
use Rattle.pl_alone.specs.Below.pl_service.specs.Begun.{IsBegun}
use Rattle.pl_alone.specs.Below.pl_service.specs.Rows.{AreSame}
use Rattle.pl_sessions.specs.Session.{Point, Session}
use Rattle.pl_sessions.specs.Told.{Told}
use Rattle.pl_sessions.specs.declared.served.Served.{Served}
use Rattle.pl_sessions.specs.declared.served.Served.TheVariants as ended
use Rattle.pl_unopened.specs.Unopened.{with_store}

-- ---- the outfit behind it

module _ {In Out : Type 0} where
  abbrev pub behind : Paired In Out → Option (List Row) → ℕ → View In Out → View In Out
  behind ends rows faults view = record view {
    ends = ends;
    stores = handed_back rows faults view.stores;
  }

  abbrev pub with_back : Option (List Row) → ℕ → View In Out → View In Out
  with_back rows faults view = record view { stores = handed_back rows faults view.stores }

  abbrev pub with_new : Paired In Out → View In Out → View In Out
  with_new ends view = record view { ends = ends }

  pub view_is : (v x w last : View In Out) (ends : Paired In Out) (rows : Option (List Row))
      (faults : ℕ) → x ≡ v → w ≡ with_new ends x → last ≡ with_back rows faults w
      → last ≡ behind ends rows faults v
  view_is v x w last ends rows faults same new back =
      back ∙ ap (with_back rows faults) (new ∙ ap (with_new ends) same)

-- ---- the session

abbrev pub at : Told → Option (ℕ → ℕ) → Parts → Point Parts
at link coming desk = record { link = link; coming = coming; desk = desk }

abbrev pub outside_behind : Told → Parts → Outside → Outside
outside_behind link last old = record old {
  link = link;
  stores = handed_back last.rows last.faults old.stores;
}

pub replays_at : (first last : Parts) (old new : Outside) (told link : Told)
    (clocked later : Option (ℕ → ℕ)) (served : Served) (ending : Status)
    → ending ≡ status_of served → served ≢ ended.Stopped
    → told ≡ old.link → clocked ≡ old.coming → new ≡ outside_behind link last old → DesksLast
    → Session Act false (at told clocked first) (at link later last) served
    → ReplaysAt first old ending new
replays_at first last old new told link clocked later served ending is goes_on told_is clock new_is
    lasts session =
    let by_link : Session Act false (at old.link clocked first) (at link later last) served =
    subst (λ l. Session Act false (at l clocked first) (at link later last) served) told_is session
    in
    let by_clock : Session Act false (start first old) (at link later last) served =
    subst (λ m. Session Act false (at old.link m first) (at link later last) served) clock by_link
    in
    let link_is : link ≡ new.link = sym (ap (λ (o : Outside). o.link) new_is) in
    record {
      served = served;
      later = later;
      last = last;
      ending_is = is;
      goes_on = goes_on;
      session =
          subst (λ l. Session Act false (start first old) (at l later last) served) link_is by_clock;
      rows = (lasts first last session.turns session.acts).rows;
      is =
          new_is ∙ ap (λ (l : Told). outside_behind l last old) link_is;
    }

-- ---- at a service that was just opened

pub replayed : (admin : Digest) (path : Option (List ℕ)) (told : Option (List Row)) (first : Parts)
    (old mid new : Outside) (ending : Status) → BeginsWith path old.stores.rows told
    → IsBegun admin first.rows (past first) → WhereTold told first.rows AreSame
    → first.faults ≡ 0 → IsSound (opened admin) → IsOrderly (opened admin)
    → AreKept (new_state admin) [] → mid ≡ with_store path old → ReplaysAt first mid ending new
    → Replays admin path old ending new
replayed admin path told first old mid new ending begins begun given quiet sound orderly kept mid_is
    replays = inr (inr (record {
      told = told;
      begins = begins;
      first = first;
      begun = begun;
      as_given = given;
      quiet = quiet;
      anew = λ none.
          anew admin (past first) (subst (λ rows. IsBegun admin rows (past first)) none begun);
      sound = sound;
      orderly = orderly;
      kept = kept;
      replays = subst (λ o. ReplaysAt first o ending new) mid_is replays;
    }))
