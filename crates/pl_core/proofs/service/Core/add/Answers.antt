use Rattle.std.proofs.Common.{◌≡◌, List, ap, sym, subst, ◌∙◌, inl}
use Rattle.pl_core.specs.Kept.{AreNumbers, IsKept, opening_of, pending_of}
use Rattle.pl_core.specs.State.{State}
use Rattle.pl_facts.specs.declared.entry.Entry.{Entry}
use Rattle.pl_facts.specs.Sizes.{counted}
use Rattle.pl_history.specs.Legal.{Follows}
use Rattle.pl_history.specs.History.{Opening, log_of}
use Rattle.pl_journal.specs.Log.{Log, last_moment, version}
use Rattle.pl_snapshots.specs.Gathering.{IsGathered}
use Rattle.pl_core.proofs.Installing.{gathered_more, kept_more, none_pending, number_behind}
use Rattle.pl_core.proofs.Installing.{numbers_more, size_more}
use Rattle.pl_core.proofs.service.Core.add.Goals as goal

pub invariant_of-self : goal.invariant_of-self
invariant_of-self c =
    let log = c.self.inside.journal in
    let new = c.install.new.self in
    let entries = c.self.inside.entries.items in
    let kept = c.self.invariant.0 in
    let pending : pending_of log ≡ c.args.entry.facts =
    ap (λ (state : State). state.pending) c.self.view_is ∙ c.requires.1 in
    let follows : Follows (opening_of c.self.inside.first log) entries c.args.entry =
    subst (λ (es : List Entry). Follows (opening_of c.self.inside.first log) es c.args.entry)
    (sym (ap (λ (state : State). state.entries) c.self.view_is))
    (subst (λ (o : Opening). Follows o c.args.self.now.entries c.args.entry)
    (sym (ap (λ (state : State). state.opening) c.self.view_is)) c.requires.0) in
    let size = size_more entries c.args.entry _ _ _ c.self.invariant.1.size_is c.size_of.ensures
    c.saturating_add-self-inside.ensures in
    let moment = c.last_moment-self-inside.ensures
    ∙ ap (λ (l : Log). last_moment l) c.journal.ensures in
    let files = c.version-self-inside.ensures
    ∙ ap (λ (l : Log). counted (version l)) c.journal-2.ensures in
    let behind = number_behind c.self.inside.first log entries c.args.entry c.self.inside.behind _
    pending c.self.invariant.2 c.requires.0.adds in (
      subst (λ (es : List Entry). IsKept c.self.inside.first new es) (sym c.push_reserved.ensures.items)
          (kept_more c.self.inside.first log new entries c.args.entry kept pending c.install.ensures follows),
      subst (λ (es : List Entry). AreNumbers (opening_of c.self.inside.first new) es
          c.saturating_add-self-inside.result c.last_moment-self-inside.result
          c.version-self-inside.result c.self.inside.behind) (sym c.push_reserved.ensures.items)
          (numbers_more c.self.inside.first log new entries c.args.entry kept pending
          c.install.ensures _ _ _ _ size moment files behind),
      inl (none_pending c.self.inside.first log new entries c.args.entry kept pending c.install.ensures),
      subst (λ (es : List Entry).
          IsGathered (log_of (opening_of c.self.inside.first new) es).facts c.self.inside.gathered)
          (sym c.push_reserved.ensures.items)
          (gathered_more c.self.inside.first log new entries c.args.entry kept pending
          c.install.ensures c.self.inside.gathered c.self.invariant.3),
    )
