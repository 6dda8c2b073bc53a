use Rattle.std.proofs.Common.{◌≡◌, IfOk, refl, subst, ap, sym, ◌∙◌}
use Rattle.std.specs.Option.{option_copied, option_map}
use Rattle.pl_eval.specs.declared.parts.RootPart.{RootPart}
use Rattle.pl_eval.specs.LookUps.{found_behind, part_of}
use Rattle.pl_frame.proofs.Named.{from_loop, from_context}
use Rattle.pl_frame.proofs.names.FrameNamesNames.part.Goals as goal

pub returns-in-Some : goal.returns-in-Some
returns-in-Some c =
    let P : RootPart → Type 0 = λ meant. IfOk c.part_behind.result (λ part. part ≡ meant) in
    subst P
    (ap (λ node. part_of (option_map (found_behind c.args.path.now) node))
    (from_loop c.args.self.now.frame.now c.args.self.now.place.now c.args.root.now
    c.in-Some.item.now
    (sym (ap option_copied c.in-Some.is) ∙ c.in_ok-found.ensures)))
    c.part_behind.ensures

pub returns-in-None : goal.returns-in-None
returns-in-None c =
    let P : RootPart → Type 0 = λ meant. IfOk c.context_part.result (λ part. part ≡ meant) in
    subst P
    (ap (λ node. part_of (option_map (found_behind c.args.path.now) node))
    (from_context c.args.self.now.frame.now c.args.self.now.place.now c.args.root.now _
    (sym (ap option_copied c.in-None.is) ∙ c.in_ok-found.ensures) refl))
    c.context_part.ensures
