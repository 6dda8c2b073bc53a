-- How the state stays kept while facts are prepared, taken back and installed.
use Rattle.std.proofs.Common.{◌≡◌, ℕ, ◌+◌, ◌≤◌, ◌⊎◌, inl, List, [], ◌++◌, length, refl, sym}
use Rattle.std.proofs.Common.{ap, subst, ◌∙◌, arith}
use Rattle.std.proofs.Math.Seq.{take-append_seam, drop-append_seam}
use Rattle.std.proofs.lemmas.List.{append-nil, length-append, take-append-le}
use Rattle.std.proofs.lemmas.List.Elements.{All-take}
use Rattle.pl_core.specs.Kept.{AreNumbers, IsKept, opening_of, pending_of}
use Rattle.pl_core.specs.State.{State, log as log_now}
use Rattle.pl_history.specs.Below.pl_due.specs.Fit.{AreFit, IsFit, last_moment}
use Rattle.pl_facts.specs.declared.entry.Entry.{Entry}
use Rattle.pl_facts.specs.declared.fact.Fact.{Fact}
use Rattle.pl_history.specs.Legal.{Legal}
use Rattle.pl_history.specs.History.{Opening, facts_of, log_of}
use Rattle.pl_journal.specs.Log.{Log}
use Rattle.pl_history.specs.Below.pl_step.specs.Full.{back, with_facts}
use Rattle.pl_snapshots.specs.Gathering.{IsGathered}
use Rattle.pl_snapshots.specs.declared.gathering.Gathered.{Gathered}

-- ---- what the journal tells of the opening and of what was prepared

pub opening_told : (opening : Opening) (entries : List Entry) (more : List Fact) →
    opening_of opening.change (with_facts (log_of opening entries) more) ≡ opening
unfolding log_of
opening_told opening entries more =
    let facts = facts_of entries in
    let within : length opening.facts ≤ length (opening.facts ++ facts) =
    omega (arith, length-append opening.facts facts) in
    ap (λ (told : List Fact). record {
      admin = opening.admin;
      moment = opening.moment;
      run = opening.run;
      version = opening.version;
      change = opening.change;
      facts = told;
    }) (take-append-le (length opening.facts) (opening.facts ++ facts) more within
    ∙ take-append_seam opening.facts facts)

pub pending_told : (opening : Opening) (entries : List Entry) (more : List Fact) →
    pending_of (with_facts (log_of opening entries) more) ≡ more
unfolding log_of
pending_told opening entries more = drop-append_seam (opening.facts ++ facts_of entries) more

-- ---- facts are taken back, and installed

pub taken_back : (opening : Opening) (entries : List Entry) (more : List Fact) →
    back (with_facts (log_of opening entries) more) ≡ log_of opening entries
unfolding log_of
taken_back opening entries more =
    ap (λ (facts : List Fact). record (log_of opening entries) { facts = facts })
    (take-append_seam (opening.facts ++ facts_of entries) more)

pub nothing_behind : (log : Log) → with_facts log [] ≡ log
nothing_behind log = ap (λ (facts : List Fact). record log { facts = facts }) (append-nil log.facts)

-- ---- a journal that is one of entries, and of facts behind theirs

moment_told : (opening : Opening) (entries : List Entry) →
    (log_of opening entries).opening.moment ≡ opening.moment
unfolding log_of
moment_told opening entries = refl

pub all_installed : (opening : Opening) (entries : List Entry) →
    (log_of opening entries).installed ≡ length (log_of opening entries).facts
unfolding log_of
all_installed opening entries = refl

module _ (new : Log) (entries : List Entry) (more : List Fact) (opening : Opening)
    (is : new ≡ with_facts (log_of opening entries) more) where
  pub opening_behind : opening_of opening.change new ≡ opening
  opening_behind = ap (opening_of opening.change) is ∙ opening_told opening entries more

  pub pending_behind : pending_of new ≡ more
  pending_behind = ap pending_of is ∙ pending_told opening entries more

  pub kept_behind : Legal opening entries → AreFit new.facts → opening.moment ≤ last_moment →
      IsKept opening.change new entries
  kept_behind legal fit within =
      record {
        journal =
            is
            ∙ ap (λ (o : Opening). with_facts (log_of o entries) more) (sym opening_behind)
            ∙ ap (λ (facts : List Fact). with_facts (log_of (opening_of opening.change new) entries) facts)
            (sym pending_behind);
        legal = subst (λ (o : Opening). Legal o entries) (sym opening_behind) legal;
        fit = fit;
        within =
            subst (λ moment. moment ≤ last_moment)
            (sym (ap (λ (l : Log). l.opening.moment) is ∙ moment_told opening entries)) within;
      }

  pub numbers_behind : (size moment files change : ℕ) →
      AreNumbers opening entries size moment files change →
      AreNumbers (opening_of opening.change new) entries size moment files change
  numbers_behind size moment files change numbers =
      subst (λ (o : Opening). AreNumbers o entries size moment files change) (sym opening_behind)
      numbers

  pub gathered_behind : (gathered : Gathered) → IsGathered (log_of opening entries).facts gathered →
      IsGathered (log_of (opening_of opening.change new) entries).facts gathered
  gathered_behind gathered is =
      subst (λ (o : Opening). IsGathered (log_of o entries).facts gathered) (sym opening_behind) is

-- ---- what isn't installed is taken back

pub went_back : (first : ℕ) (log : Log) (entries : List Entry) → IsKept first log entries →
    back log ≡ log_of (opening_of first log) entries
went_back first log entries kept =
    ap back kept.journal ∙ taken_back (opening_of first log) entries (pending_of log)

module _ (first : ℕ) (log new : Log) (entries : List Entry) (kept : IsKept first log entries)
    (is : new ≡ back log) where
  pub back_behind : new ≡ with_facts (log_of (opening_of first log) entries) []
  back_behind = is ∙ went_back first log entries kept
      ∙ sym (nothing_behind (log_of (opening_of first log) entries))

  pub back_fit : AreFit new.facts
  back_fit = subst (λ (facts : List Fact). AreFit facts) (ap (λ (l : Log). l.facts) (sym is))
      (All-take IsFit log.installed log.facts kept.fit)

  pub back_gathered : (gathered : Gathered) →
      IsGathered (log_of (opening_of first log) entries).facts gathered →
      IsGathered new.facts gathered
  back_gathered gathered gathers =
      subst (λ (l : Log). IsGathered l.facts gathered) (sym (is ∙ went_back first log entries kept))
      gathers

  pub gathered_back : (gathered : Gathered) → IsGathered new.facts gathered →
      IsGathered (log_of (opening_of first log) entries).facts gathered
  gathered_back gathered gathers =
      subst (λ (l : Log). IsGathered l.facts gathered) (is ∙ went_back first log entries kept)
      gathers

  pub back_kept : IsKept first new entries
  back_kept = kept_behind new entries [] (opening_of first log) back_behind kept.legal back_fit
      kept.within

  -- all of it: nothing is pending, and other files may be gathered
  pub back_whole : (gathered : Gathered) (size moment files change : ℕ) (Room : Type 0)
      (es : List Entry) → es ≡ entries → IsGathered new.facts gathered →
      AreNumbers (opening_of first log) entries size moment files change →
      IsKept first new es × AreNumbers (opening_of first new) es size moment files change ×
      ((pending_of new ≡ []) ⊎ Room) × IsGathered (log_of (opening_of first new) es).facts gathered
  back_whole gathered size moment files change Room es same gathers numbers =
      let opening = opening_of first log in (
        subst (λ (es : List Entry). IsKept first new es) (sym same) back_kept,
        subst (λ (es : List Entry). AreNumbers (opening_of first new) es size moment files change)
            (sym same)
            (numbers_behind new entries [] opening back_behind size moment files change numbers),
        inl (pending_behind new entries [] opening back_behind),
        subst (λ (es : List Entry). IsGathered (log_of (opening_of first new) es).facts gathered)
            (sym same)
            (gathered_behind new entries [] opening back_behind gathered
            (gathered_back gathered gathers)),
      )

-- ---- the state by its parts

pub state_is : (a b : Opening) (xs ys : List Entry) (p q : List Fact) → a ≡ b → xs ≡ ys → p ≡ q →
    let left : State = record { opening = a; entries = xs; pending = p } in
    let right : State = record { opening = b; entries = ys; pending = q } in left ≡ right
state_is a b xs ys p q opening entries pending =
    ap (λ (o : Opening). let made : State =
    record { opening = o; entries = xs; pending = p } in made) opening
    ∙ ap (λ (es : List Entry). let made : State =
    record { opening = b; entries = es; pending = p } in made) entries
    ∙ ap (λ (fs : List Fact). let made : State =
    record { opening = b; entries = ys; pending = fs } in made) pending

-- ---- where nothing is pending the journal is that of the state

pub nothing_pending : (first : ℕ) (log : Log) (entries : List Entry) (state : State) →
    IsKept first log entries → (let seen : State = record {
      opening = opening_of first log;
      entries = entries;
      pending = pending_of log;
    } in
    seen ≡ state) → state.pending ≡ [] → log ≡ log_now state
nothing_pending first log entries state kept seen none =
    let base = log_of (opening_of first log) entries in
    kept.journal
    ∙ ap (λ (facts : List Fact). with_facts base facts)
    (ap (λ (s : State). s.pending) seen ∙ none)
    ∙ nothing_behind base
    ∙ ap (λ (s : State). log_of s.opening s.entries) seen

pub gathered_now : (first : ℕ) (log : Log) (entries : List Entry) (state : State)
    (gathered : Gathered) → IsKept first log entries → (let seen : State = record {
      opening = opening_of first log;
      entries = entries;
      pending = pending_of log;
    } in
    seen ≡ state) → state.pending ≡ [] →
    IsGathered (log_of (opening_of first log) entries).facts gathered →
    IsGathered log.facts gathered
gathered_now first log entries state gathered kept seen none is =
    subst (λ (l : Log). IsGathered l.facts gathered)
    (ap (λ (s : State). log_of s.opening s.entries) seen
    ∙ sym (nothing_pending first log entries state kept seen none)) is
