-- What a legal history makes sure of, entry after entry.
use Rattle.std.proofs.Common.{◌≡◌, ◌+◌, ◌≤◌, ◌||◌, ℕ, List, [], ◌∷◌, ◌++◌, Option, Some, None}
use Rattle.std.proofs.Common.{length, max, refl, sym, ap, subst, ◌∙◌, arith}
use Rattle.std.specs.Prelude.{nat_le, nat_lt}
use Rattle.std.specs.Option.{option_map_or}
use Rattle.std.proofs.lemmas.Bool.{ltb-false, or_parts}
use Rattle.std.proofs.lemmas.List.{append-nil, append_assoc, flat_map_more}
use Rattle.std.proofs.lemmas.Option.{none-some}
use Rattle.pl_base.specs.declared.digest.Digest.{Digest}
use Rattle.pl_history.proofs.Longer.{made_last}
use Rattle.pl_facts.specs.Sizes.{size_with}
use Rattle.pl_facts.specs.declared.entry.Entry.{Entry}
use Rattle.pl_facts.specs.declared.fact.Event.{Event}
use Rattle.pl_facts.specs.declared.fact.Event.TheVariants as event
use Rattle.pl_facts.specs.declared.fact.Fact.{Fact}
use Rattle.pl_history.specs.Legal.{Follows, Legal, LegalFrom}
use Rattle.pl_history.specs.History.{Opening, facts_of, held_of, log_of, opened}
use Rattle.pl_journal.specs.About.{latest_also}
use Rattle.pl_journal.specs.Log.{Log, last_run, version}
use Rattle.pl_journal.specs.Runs.{number_told, queueing, stage_start}
use Rattle.pl_journal.specs.Settings.{by}
use Rattle.pl_log.specs.Keys.{Queue}
use Rattle.pl_step.specs.Below.pl_queueing.specs.Queueing.{Made}
use Rattle.pl_requests.specs.declared.call.Call.{Call}
use Rattle.pl_requests.specs.declared.request.Request.{Request}
use Rattle.pl_requests.specs.declared.request.Request.TheVariants as request
use Rattle.pl_granting_laws.specs.Below.pl_settling.proofs.Adding.{added_so, kept_along}
use Rattle.pl_history.specs.Access.{HoldAlone, IsSound, StartAsNext}
use Rattle.pl_granting_laws.specs.Below.pl_settling.specs.Laws.{Along, HasOneHolder, NextIfStart, StartsAsNext, StillOneHolder}
use Rattle.pl_granting_laws.specs.Below.pl_settling.specs.Settles.{Adds}
use Rattle.pl_step.specs.Full.{is_large, last_number, most_bytes, most_entries, next_change}
use Rattle.pl_step.specs.Full.{with_facts}
use Rattle.pl_step.specs.Step.{SettlesFor, happened}
use Rattle.pl_step.specs.declared.held.Held.{Held}
use Rattle.pl_history.proofs.Entering.{IsEntered, entered_by}
use Rattle.pl_history.proofs.Happening.{Happens, MayHappen, happens}
use Rattle.pl_history.proofs.Keeping.{Sound, due_keeps, with_one}
use Rattle.pl_history.proofs.Requesting.{request_keeps}

-- ---- along facts

along_append : (R : List Fact → Fact → Type 0) (facts xs ys : List Fact) → Along R facts xs →
    Along R (facts ++ xs) ys → Along R facts (xs ++ ys)
along_append R facts [] ys left right =
    subst (λ (fs : List Fact). Along R fs ys) (append-nil facts) right
along_append R facts (x ∷ xs) ys left right = (
  left.0,
  along_append R (facts ++ x ∷ []) xs ys left.1
      (subst (λ (fs : List Fact). Along R fs ys) (sym (append_assoc facts (x ∷ []) xs)) right),
)

along_weaker : (R S : List Fact → Fact → Type 0) →
    ((facts : List Fact) (one : Fact) → R facts one → S facts one) → (facts xs : List Fact) →
    Along R facts xs → Along S facts xs
along_weaker R S weaker facts [] along = tt
along_weaker R S weaker facts (x ∷ xs) along =
    (weaker facts x along.0, along_weaker R S weaker (facts ++ x ∷ []) xs along.1)

pub along_last : (K : List Fact → Type 0) (facts xs : List Fact) → K facts →
    Along (λ before one. K (before ++ one ∷ [])) facts xs → K (facts ++ xs)
along_last K facts [] holds along = subst K (sym (append-nil facts)) holds
along_last K facts (x ∷ xs) holds along =
    subst K (append_assoc facts (x ∷ []) xs)
    (along_last K (facts ++ x ∷ []) xs along.0 along.1)

-- ---- the facts of one entry

adds_for : (asked : Request) (moment : ℕ) (facts due : List Fact) →
    SettlesFor asked moment facts due → Adds moment facts due
adds_for request.Shutdown moment facts due none = subst (Adds moment facts) (sym none) tt
adds_for _ moment facts due settles = added_so moment facts due settles

starts_none : (log : Log) (facts : List Fact) (moment : ℕ) (told : Event) → Happens log told →
    NextIfStart facts moment told
starts_none log facts moment (event.StageStarted run stage) none = absurd none
starts_none log facts moment _ happens = tt

happened_starts : (log : Log) (facts : List Fact) (moment : ℕ) (told : Option Event) →
    MayHappen log told → Along StartsAsNext facts (happened moment told)
happened_starts log facts moment None may = tt
happened_starts log facts moment (Some told) may =
    (starts_none log facts moment told may, tt)

module _ (held : Held) (log : Log) (call : Call) (made : Made) (added : List Fact)
    (is : IsEntered held log call made added) where
  pub may : MayHappen (with_facts log is.due) is.answer.event
  may = happens (with_facts log is.due) call.moment is.who made call.request is.answer is.answers

  pub adds : Adds call.moment log.facts is.due
  adds = adds_for call.request call.moment log.facts is.due is.settles

  entry_starts : ((moment : ℕ) (facts xs : List Fact) → Adds moment facts xs →
      Along StartsAsNext facts xs) → Along StartsAsNext log.facts added
  entry_starts next =
      subst (Along StartsAsNext log.facts) (sym is.are)
      (along_append StartsAsNext log.facts is.due (happened call.moment is.answer.event)
      (next call.moment log.facts is.due adds)
      (happened_starts (with_facts log is.due) (log.facts ++ is.due) call.moment is.answer.event
      may))

  not_long : last_run (with_facts log added) ≤ last_number
  not_long =
      let room = or_parts (is_large held (with_facts log added) call.request added)
      (nat_lt last_number (next_change held log added)) is.room in
      let parts = or_parts (nat_le most_entries held.entries)
      (nat_lt most_bytes (held.size + size_with call.request added)
      || (nat_lt last_number (last_run (with_facts log added))
      || nat_lt last_number (version (with_facts log added)))) room.0 in
      let more = or_parts (nat_lt most_bytes (held.size + size_with call.request added))
      (nat_lt last_number (last_run (with_facts log added))
      || nat_lt last_number (version (with_facts log added))) parts.1 in
      let last = or_parts (nat_lt last_number (last_run (with_facts log added)))
      (nat_lt last_number (version (with_facts log added))) more.1 in
      ltb-false last_number (last_run (with_facts log added)) last.0

  -- where something happens by the request, it is one fact behind those that were due

  abbrev pub one_for : Event → Fact
  one_for told = record { moment = call.moment; event = told }

  pub all_with : (told : Event) → added ≡ is.due ++ happened call.moment (Some told) →
      log.facts ++ added ≡ (log.facts ++ is.due) ++ one_for told ∷ []
  all_with told are = ap (λ (more : List Fact). log.facts ++ more) are
      ∙ sym (append_assoc log.facts is.due (one_for told ∷ []))

  pub few_with : (told : Event) → added ≡ is.due ++ happened call.moment (Some told) →
      last_run (with_one (with_facts log is.due) (one_for told)) ≤ last_number
  few_with told are =
      subst (λ (facts : List Fact). last_run (record log { facts = facts }) ≤ last_number)
      (all_with told are) not_long

  abbrev SoundAt : List Fact → Type 0
  SoundAt facts = Sound (record log { facts = facts })

  each_due : Sound log →
      Along (λ before one. SoundAt (before ++ one ∷ [])) log.facts is.due
  each_due sound = kept_along SoundAt call.moment
      (λ facts one at gives holds.
      due_keeps (record log { facts = facts }) call.moment one at gives holds) log.facts is.due
      adds sound

  each_happened : Sound log →
      Along (λ before one. SoundAt (before ++ one ∷ [])) (log.facts ++ is.due)
      (happened call.moment is.answer.event)
  each_happened sound =
      go is.answer.event may is.are
      (along_last SoundAt log.facts is.due sound (each_due sound))
    where
      go : (told : Option Event) → MayHappen (with_facts log is.due) told →
          added ≡ is.due ++ happened call.moment told → SoundAt (log.facts ++ is.due) →
          Along (λ before one. SoundAt (before ++ one ∷ [])) (log.facts ++ is.due)
          (happened call.moment told)
      go None fits are holds = tt
      go (Some told) fits are holds = (
        request_keeps (with_facts log is.due) (one_for told) fits (few_with told are) holds,
        tt,
      )

  each_added : Sound log → Along (λ before one. SoundAt (before ++ one ∷ [])) log.facts added
  each_added sound =
      subst (Along (λ before one. SoundAt (before ++ one ∷ [])) log.facts) (sym is.are)
      (along_append (λ before one. SoundAt (before ++ one ∷ [])) log.facts is.due
      (happened call.moment is.answer.event) (each_due sound) (each_happened sound))

  entry_holds : Sound log → Along StillOneHolder log.facts added
  entry_holds sound = along_weaker (λ before one. SoundAt (before ++ one ∷ [])) StillOneHolder
      (λ facts one holds. holds.one) log.facts added (each_added sound)

  entry_sound : Sound log → Sound (with_facts log added)
  entry_sound sound = along_last SoundAt log.facts added sound (each_added sound)

-- ---- the whole history

pub entered : (opening : Opening) (before : List Entry) (entry : Entry) →
    Follows opening before entry → (made : Made)
    × IsEntered (held_of opening before) (log_of opening before) entry.call made entry.facts
entered opening before entry follows = (
  follows.made,
  entered_by (held_of opening before) (log_of opening before) entry.call follows.made follows.reply
      entry.facts follows.adds follows.steps,
)

facts_are : (opening : Opening) (before : List Entry) →
    (log_of opening before).facts ≡ opening.facts ++ facts_of before
unfolding log_of
facts_are opening before = refl

pub facts_more : (opening : Opening) (before : List Entry) (entry : Entry) →
    (log_of opening before).facts ++ entry.facts ≡ (log_of opening (before ++ entry ∷ [])).facts
facts_more opening before entry =
    ap (λ (fs : List Fact). fs ++ entry.facts) (facts_are opening before)
    ∙ flat_map_more (λ (one : Entry). one.facts) opening.facts before entry
    ∙ sym (facts_are opening (before ++ entry ∷ []))

starts_from : ((moment : ℕ) (facts xs : List Fact) → Adds moment facts xs →
    Along StartsAsNext facts xs) → (opening : Opening) (before entries : List Entry) →
    LegalFrom opening before entries →
    Along StartsAsNext (log_of opening before).facts (facts_of entries)
starts_from next opening before [] legal = tt
starts_from next opening before (entry ∷ entries) legal =
    let is = entered opening before entry legal.0 in
    along_append StartsAsNext (log_of opening before).facts entry.facts (facts_of entries)
    (entry_starts (held_of opening before) (log_of opening before) entry.call is.0 entry.facts is.1 next)
    (subst (λ (fs : List Fact). Along StartsAsNext fs (facts_of entries))
    (sym (facts_more opening before entry))
    (starts_from next opening (before ++ entry ∷ []) entries legal.1))

sound_installed : (log : Log) (count : ℕ) → Sound log → Sound (record log { installed = count })
sound_installed log count sound =
    record { one = sound.one; queued = sound.queued; numbers = sound.numbers }

sound_more : (opening : Opening) (before : List Entry) (entry : Entry) →
    Sound (with_facts (log_of opening before) entry.facts) →
    Sound (log_of opening (before ++ entry ∷ []))
sound_more opening before entry sound =
    subst Sound (made_last opening before entry)
    (sound_installed (with_facts (log_of opening before) entry.facts)
    (length (with_facts (log_of opening before) entry.facts).facts) sound)

holds_from : (opening : Opening) (before entries : List Entry) → Sound (log_of opening before) →
    LegalFrom opening before entries →
    Along StillOneHolder (log_of opening before).facts (facts_of entries)
holds_from opening before [] sound legal = tt
holds_from opening before (entry ∷ entries) sound legal =
    let is = entered opening before entry legal.0 in
    along_append StillOneHolder (log_of opening before).facts entry.facts (facts_of entries)
    (entry_holds (held_of opening before) (log_of opening before) entry.call is.0 entry.facts is.1 sound)
    (subst (λ (fs : List Fact). Along StillOneHolder fs (facts_of entries))
    (sym (facts_more opening before entry))
    (holds_from opening (before ++ entry ∷ []) entries
    (sound_more opening before entry
    (entry_sound (held_of opening before) (log_of opening before) entry.call is.0 entry.facts is.1 sound))
    legal.1))

-- ---- from what the service was opened with

last_above : (run : ℕ) (found : Option ℕ) → run ≤ option_map_or (λ one. max run one) found run
last_above run None = omega arith
last_above run (Some one) = omega arith

module _ (opening : Opening) where
  pub first_facts : (log_of opening []).facts ≡ opening.facts
  first_facts = facts_are opening [] ∙ append-nil opening.facts

  pub first_last : opening.run ≤ last_run (log_of opening [])
  unfolding log_of
  first_last = last_above opening.run (by number_told (latest_also Queue (log_of opening []).facts))

  first_sound : IsSound opening → Sound (log_of opening [])
  first_sound sound = record {
    one = subst HasOneHolder (sym first_facts) sound.one;
    queued =
        subst (λ (fs : List Fact). (run stage : ℕ) → ¬ (stage_start run stage fs ≡ None) →
        ¬ (queueing run fs ≡ None)) (sym first_facts) sound.queued;
    numbers = λ run there.
        let was : ¬ (queueing run opening.facts ≡ None) =
        subst (λ (fs : List Fact). ¬ (queueing run fs ≡ None)) first_facts there in
        omega (arith, sound.numbers run was, first_last);
  }

  pub starts_all : ((moment : ℕ) (facts xs : List Fact) → Adds moment facts xs →
      Along StartsAsNext facts xs) → (entries : List Entry) → Legal opening entries →
      StartAsNext opening entries
  starts_all next entries legal =
      subst (λ (fs : List Fact). Along StartsAsNext fs (facts_of entries)) first_facts
      (starts_from next opening [] entries legal)

  pub holds_all : (entries : List Entry) → IsSound opening → Legal opening entries →
      HoldAlone opening entries
  holds_all entries sound legal =
      subst (λ (fs : List Fact). Along StillOneHolder fs (facts_of entries)) first_facts
      (holds_from opening [] entries (first_sound sound) legal)

pub new_sound : (admin : Digest) → IsSound (opened admin)
new_sound admin = record {
  one = λ key run stage r s left right. absurd (none-some left.0 left.2.queued);
  queued = λ run stage started. absurd (started refl);
  numbers = λ run there. absurd (there refl);
}
