-- What installing leaves.
use Rattle.std.proofs.Common.{◌≡◌, ◌≤◌, ◌⊎◌, ◌+◌, ℕ, max, min, true, List, [], ◌∷◌, ◌++◌, Option}
use Rattle.std.proofs.Common.{Some}
use Rattle.std.proofs.Common.{None, length, refl, sym, ap, subst, ◌∙◌, inl, inr, arith}
use Rattle.std.specs.List.{AllByRecursion}
use Rattle.std.specs.Option.{option_map_or, option_or}
use Rattle.std.proofs.lemmas.List.Elements.{All-take, recursion_from_All}
use Rattle.pl_core.specs.Kept.{AreNumbers, IsKept, change_behind, opening_of, pending_of}
use Rattle.pl_history.specs.Below.pl_due.specs.Fit.{AreFit, IsFit, last_moment}
use Rattle.pl_facts.specs.Sizes.{counted, size_of, total}
use Rattle.pl_facts.specs.declared.entry.Entry.{Entry}
use Rattle.pl_facts.specs.declared.fact.Fact.{Fact}
use Rattle.pl_history.specs.Legal.{Follows}
use Rattle.pl_history.specs.History.{Opening, log_of, next_change}
use Rattle.pl_all_rows.specs.Below.pl_row_changes.specs.Counting.{row_changes}
use Rattle.pl_history.proofs.Longer.{legal_more, made_last}
use Rattle.pl_history.proofs.Within.{one_more}
use Rattle.pl_journal.specs.Log.{Log, version}
use Rattle.pl_journal.specs.Log as journal
use Rattle.pl_log.specs.Latest.{latest}
use Rattle.pl_history.specs.Below.pl_step.specs.Full.{back, with_facts}
use Rattle.pl_snapshots.proofs.FactByFact.{more_gathered}
use Rattle.pl_snapshots.specs.Gathering.{IsGathered}
use Rattle.pl_snapshots.specs.declared.gathering.Gathered.{Gathered}
use Rattle.pl_core.proofs.Keeping.{kept_behind, nothing_behind}
use Rattle.pl_core.proofs.Keeping.{opening_behind}
use Rattle.pl_core.proofs.Keeping.{pending_behind, went_back}

-- ---- the last moment is one that a clock tells

later_within : (start : ℕ) (one : Fact) (found : Option Fact) →
    option_map_or (λ fact. max start fact.moment) found start ≤ last_moment →
    start ≤ last_moment → one.moment ≤ last_moment →
    option_map_or (λ fact. max start fact.moment) (option_or found (Some one)) start ≤ last_moment
later_within start one None within begins is = omega (arith, begins, is)
later_within start one (Some fact) within begins is = within

last_within : (start : ℕ) (facts : List Fact) → AllByRecursion IsFit facts →
    start ≤ last_moment →
    option_map_or (λ fact. max start fact.moment) (latest (λ _. true) facts) start ≤ last_moment
last_within start [] fit begins = begins
last_within start (one ∷ facts) fit begins =
    later_within start one (latest (λ _. true) facts) (last_within start facts fit.1 begins) begins
    fit.0.moment

pub moment_within : (first : ℕ) (log : Log) (entries : List Entry) → IsKept first log entries →
    journal.last_moment (log_of (opening_of first log) entries) ≤ last_moment
moment_within first log entries kept =
    subst (λ (l : Log). journal.last_moment l ≤ last_moment) (went_back first log entries kept)
    (last_within log.opening.moment (back log).facts
    (recursion_from_All IsFit (back log).facts
    (All-take IsFit log.installed log.facts kept.fit)) kept.within)

-- ---- one entry more

total_more : (entries : List Entry) (entry : Entry) →
    total size_of (entries ++ entry ∷ []) ≡ total size_of entries + size_of entry
total_more [] entry = omega arith
total_more (one ∷ entries) entry = omega (arith, total_more entries entry)

pub size_more : (entries : List Entry) (entry : Entry) (size one sum : ℕ) →
    size ≡ counted (total size_of entries) → one ≡ counted (size_of entry) →
    sum ≡ min (size + one) 18446744073709551615 →
    sum ≡ counted (total size_of (entries ++ entry ∷ []))
size_more entries entry size one sum size_is one_is sum_is =
    omega (arith, total_more entries entry, size_is, one_is, sum_is)

module _ (first : ℕ) (log new : Log) (entries : List Entry) (entry : Entry)
    (kept : IsKept first log entries)
    (pending : pending_of log ≡ entry.facts)
    (is : new ≡ record log { installed = length log.facts }) where
  was : log ≡ with_facts (log_of (opening_of first log) entries) entry.facts
  was = kept.journal
      ∙ ap (λ (facts : List Fact). with_facts (log_of (opening_of first log) entries) facts) pending

  pub now_is : new ≡ log_of (opening_of first log) (entries ++ entry ∷ [])
  now_is = is
      ∙ ap (λ (l : Log). record l { installed = length l.facts }) was
      ∙ made_last (opening_of first log) entries entry

  now_behind : new ≡ with_facts (log_of (opening_of first log) (entries ++ entry ∷ [])) []
  now_behind = now_is ∙ sym (nothing_behind (log_of (opening_of first log) (entries ++ entry ∷ [])))

  now_fit : AreFit new.facts
  now_fit =
      subst (λ (facts : List Fact). AreFit facts) (ap (λ (l : Log). l.facts) (sym is))
      kept.fit

  pub opening_stays : opening_of first new ≡ opening_of first log
  opening_stays = opening_behind new (entries ++ entry ∷ []) [] (opening_of first log) now_behind

  pub none_pending : pending_of new ≡ []
  none_pending = pending_behind new (entries ++ entry ∷ []) [] (opening_of first log) now_behind

  pub kept_more : Follows (opening_of first log) entries entry → IsKept first new (entries ++ entry ∷ [])
  kept_more follows = kept_behind new (entries ++ entry ∷ []) [] (opening_of first log) now_behind
      (legal_more (opening_of first log) [] entries entry kept.legal follows) now_fit kept.within

  pub gathered_more : (gathered : Gathered) →
      IsGathered (log_of (opening_of first log) entries).facts gathered →
      IsGathered (log_of (opening_of first new) (entries ++ entry ∷ [])).facts gathered
  gathered_more gathered gathers =
      subst (λ (l : Log). IsGathered l.facts gathered)
      (now_is ∙ ap (λ (o : Opening). log_of o (entries ++ entry ∷ [])) (sym opening_stays))
      (subst (λ (l : Log). IsGathered l.facts gathered) (sym is)
      (subst (λ (l : Log). IsGathered l.facts gathered) (sym was)
      (more_gathered (log_of (opening_of first log) entries).facts entry.facts gathered gathers)))

  next_more : next_change (opening_of first log) (entries ++ entry ∷ []) ≡
      next_change (opening_of first log) entries
      + row_changes (log_of (opening_of first log) entries).facts entry.facts
  next_more = one_more (opening_of first log) entries entry

  pub numbers_more : (size moment files change : ℕ) →
      size ≡ counted (total size_of (entries ++ entry ∷ [])) → moment ≡ journal.last_moment new →
      files ≡ counted (version new) →
      change ≡ change_behind (opening_of first log) entries (pending_of log) →
      AreNumbers (opening_of first new) (entries ++ entry ∷ []) size moment files change
  numbers_more size moment files change size_is moment_is files_is change_is =
      let log_is : new ≡ log_of (opening_of first new) (entries ++ entry ∷ []) =
      now_is ∙ ap (λ (o : Opening). log_of o (entries ++ entry ∷ [])) (sym opening_stays) in
      record {
        size_is = size_is;
        moment_is = moment_is ∙ ap (λ (l : Log). journal.last_moment l) log_is;
        files_is = files_is ∙ ap (λ (l : Log). counted (version l)) log_is;
        change_is = change_is
            ∙ ap (λ (facts : List Fact). change_behind (opening_of first log) entries facts) pending
            ∙ ap counted (sym next_more)
            ∙ ap (λ (o : Opening). counted (next_change o (entries ++ entry ∷ [])))
            (sym opening_stays);
      }

-- where facts were prepared, the number behind them was kept
pub number_behind : (first : ℕ) (log : Log) (entries : List Entry) (entry : Entry) (behind : ℕ)
    (Room : Type 0) → pending_of log ≡ entry.facts →
    (pending_of log ≡ []) ⊎ (Room × (behind ≡
    change_behind (opening_of first log) entries (pending_of log))) → ¬ (entry.facts ≡ []) →
    behind ≡ change_behind (opening_of first log) entries (pending_of log)
number_behind first log entries entry behind Room pending (inl none) adds =
    absurd (adds (sym pending ∙ none))
number_behind first log entries entry behind Room pending (inr kept) adds = kept.1
