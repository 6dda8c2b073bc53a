use Rattle.std.proofs.Common.{ap, ◌∙◌, inl}
use Rattle.pl_core.specs.Kept.{opening_of}
use Rattle.pl_core.specs.State.{State}
use Rattle.pl_core.proofs.Keeping.{back_behind, back_kept, gathered_behind, numbers_behind, opening_behind}
use Rattle.pl_core.proofs.Keeping.{pending_behind, state_is}
use Rattle.pl_core.proofs.service.Core.back.Goals as goal

pub invariant_of-self : goal.invariant_of-self
invariant_of-self c =
    let log = c.self.inside.journal in
    let entries = c.self.inside.entries.items in
    let behind = back_behind c.self.inside.first log c.back_to_installed.new.self entries c.self.invariant.0
    c.back_to_installed.ensures in (
      back_kept c.self.inside.first log c.back_to_installed.new.self entries c.self.invariant.0
          c.back_to_installed.ensures,
      numbers_behind c.back_to_installed.new.self entries _ (opening_of c.self.inside.first log) behind _ _ _ _
          c.self.invariant.1,
      inl (pending_behind c.back_to_installed.new.self entries _ (opening_of c.self.inside.first log) behind),
      gathered_behind c.back_to_installed.new.self entries _ (opening_of c.self.inside.first log) behind
          c.self.inside.gathered c.self.invariant.3,
    )

pub returns : goal.returns
returns c =
    let log = c.self.inside.journal in
    let entries = c.self.inside.entries.items in
    let behind = back_behind c.self.inside.first log c.back_to_installed.new.self entries c.self.invariant.0
    c.back_to_installed.ensures in
    state_is _ _ _ _ _ _
    (opening_behind c.back_to_installed.new.self entries _ (opening_of c.self.inside.first log) behind
    ∙ ap (λ (state : State). state.opening) c.self.view_is)
    (ap (λ (state : State). state.entries) c.self.view_is)
    (pending_behind c.back_to_installed.new.self entries _ (opening_of c.self.inside.first log) behind)
