-- The facts of whole rows are in the order of their moments, and none is later than the numbers say.
use Rattle.std.proofs.Common.{◌≡◌, ◌≤◌, ◌<◌, ℕ, zero, suc, max, List, [], ◌∷◌, ◌++◌, true, Option}
use Rattle.std.proofs.Common.{Some, None, refl, sym, ap, subst, ◌∙◌, arith}
use Rattle.std.proofs.lemmas.List.Elements.{recursion_from_All}
use Rattle.std.proofs.lemmas.List.Sorted.{IsNonDecreasingBy-from_sort}
use Rattle.std.specs.List.{flat_map, AllByRecursion}
use Rattle.std.specs.List.Sorted.{IsNonDecreasingBy}
use Rattle.std.specs.Option.{option_map, option_map_or, option_to_list}
use Rattle.pl_base.specs.declared.digest.Digest.{Digest}
use Rattle.pl_base.specs.declared.row.Row.{Row}
use Rattle.pl_facts.specs.declared.fact.Event.{Event}
use Rattle.pl_facts.specs.declared.fact.Fact.{Fact}
use Rattle.pl_never_torn.specs.Below.pl_history.specs.History.{log_of, Opening}
use Rattle.pl_never_torn.specs.Below.pl_history.proofs.Standing.{first_facts}
use Rattle.pl_journal.specs.Log.{last_moment}
use Rattle.pl_keeper.specs.declared.records.Meta.{Meta}
use Rattle.pl_keeper.specs.declared.records.Record.{Record}
use Rattle.pl_log.specs.Latest.{latest}
use Rattle.pl_never_torn.specs.Holders.{Rise}
use Rattle.pl_never_torn.specs.Rising.{NoneLater}
use Rattle.pl_opened.specs.Opened.{AreFactsOf, IsOpened}
use Rattle.pl_opened.specs.Told.{at, setting_facts, setting_in, setting_of}
use Rattle.pl_opening_laws.specs.Below.pl_opening.specs.Below.pl_opened_laws.proofs.Fitting.{fact_fit, tell_all}
use Rattle.pl_opening_laws.specs.Below.pl_opening.specs.Below.pl_opened_laws.proofs.Known.{AreOpened}
use Rattle.pl_opening_laws.specs.Below.pl_opening.specs.Below.pl_opened_laws.proofs.Lists.{comes_of, in_each, in_option, In}
use Rattle.pl_opening_laws.specs.Below.pl_opening.specs.Below.pl_opened_laws.proofs.Telling.{fact_told}
use Rattle.pl_torn.specs.declared.seen.Seen.{Seen}

-- ---- in order

rise_of : (facts : List Fact) → IsNonDecreasingBy (λ (fact : Fact). fact.moment) facts → Rise facts
rise_of [] up = tt
rise_of (fact ∷ facts) up = (
  recursion_from_All (λ (later : Fact). fact.moment ≤ later.moment) facts
      (λ k d within. up 0 (suc k) d (omega arith) (omega (arith, within))),
  rise_of facts (λ i j d below within. up (suc i) (suc j) d (omega (arith, below))
      (omega (arith, within))),
)

-- facts without a moment stand in front of any
least : (fact : Fact) → fact.moment ≡ 0 → (facts : List Fact) →
    AllByRecursion (λ (later : Fact). fact.moment ≤ later.moment) facts
least fact e [] = tt
least fact e (one ∷ facts) = (omega (arith, e), least fact e facts)

rise_behind : (facts dated : List Fact) → AllByRecursion (λ (fact : Fact). fact.moment ≡ 0) facts →
    Rise dated → Rise (facts ++ dated)
rise_behind [] dated none rise = rise
rise_behind (fact ∷ facts) dated none rise =
    (least fact none.0 (facts ++ dated), rise_behind facts dated none.1 rise)

setting_moment : (kept : Option Record) (fact : Fact) →
    In fact (option_map_or setting_facts kept []) → fact.moment ≡ 0
setting_moment None fact among = absurd among
setting_moment (Some told) fact among =
    let found = in_option (at 0) (setting_in told) fact among in
    ap (λ (f : Fact). f.moment) (sym found.2)

settings_first : (all : List Seen) →
    AllByRecursion (λ (fact : Fact). fact.moment ≡ 0) (flat_map setting_of all)
settings_first all = in_each (λ (fact : Fact). fact.moment ≡ 0) (flat_map setting_of all)
    (λ fact among. let from = comes_of setting_of all fact among in
    setting_moment from.one.kept fact from.among)

pub facts_rise : (all : List Seen) (facts : List Fact) → AreFactsOf all facts → Rise facts
facts_rise all facts are = subst Rise (sym are.whole)
    (rise_behind (flat_map setting_of all) are.dated (settings_first all)
    (rise_of are.dated (IsNonDecreasingBy-from_sort (λ (fact : Fact). fact.moment) are.dated
    are.sorted.rise)))

-- ---- none is later

not_before : (moment : ℕ) (o : Option Fact) →
    moment ≤ option_map_or (λ (fact : Fact). max moment fact.moment) o moment
not_before moment None = omega arith
not_before moment (Some fact) = omega arith

first_moment : (opening : Opening) → opening.moment ≤ last_moment (log_of opening [])
unfolding log_of
first_moment opening = not_before opening.moment (latest (λ _. true) (log_of opening []).facts)

module _ (admin : Digest) (rows : List Row) (all : List Seen) (opening : Opening)
    (opens : AreOpened admin rows all opening.facts)
    (is : IsOpened admin all opening.moment opening.run opening.version opening.change
    opening.facts) where
  within : (fact : Fact) → In fact opening.facts → fact.moment ≤ last_moment (log_of opening [])
  within fact among =
      let by = fact_told all opening.facts opens.are fact among in
      let tell = tell_all admin rows all opens.seen opens.none by.one by.there in
      let one = fact_fit opens tell fact among in
      let here : opening.moment ≡ tell.numbers.moment = is.moment_is
      ∙ ap (λ (o : Option Meta). option_map_or (λ (told : Meta). told.moment) o 0) tell.told in
      omega (arith, here, one.moment, first_moment opening)

  pub none_later : NoneLater (log_of opening [])
  none_later = subst
      (AllByRecursion (λ (fact : Fact). fact.moment ≤ last_moment (log_of opening [])))
      (sym (first_facts opening))
      (in_each (λ (fact : Fact). fact.moment ≤ last_moment (log_of opening [])) opening.facts
      within)
