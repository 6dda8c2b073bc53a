use Rattle.std.proofs.Common.{◌∷◌, [], map, ap, sym, ◌∙◌}
use Rattle.std.proofs.lemmas.List.{map-append}
use Rattle.pl_frame.proofs.Named.{loop_found, loop_passed}
use Rattle.pl_frame.proofs.members.loop_named.Goals as goal

pub returns-then-is_named : goal.returns-then-is_named
returns-then-is_named c =
    loop_found _ _ (map (λ one. one.now) c.pop.new.self.items) c.in-Some.innermost.now _
    (ap (map (λ one. one.now)) c.in-Some.ensures.items
    ∙ map-append _ c.pop.new.self.items (c.in-Some.innermost ∷ []))
    (sym c.if-is_named.ensures) c.loop-innermost.invariant

pub loop-innermost-preserved : goal.loop-innermost-preserved
loop-innermost-preserved c =
    loop_passed _ _ (map (λ one. one.now) c.pop.new.self.items) c.in-Some.innermost.now _
    (ap (map (λ one. one.now)) c.in-Some.ensures.items
    ∙ map-append _ c.pop.new.self.items (c.in-Some.innermost ∷ []))
    (sym c.if-is_named.ensures) c.loop-innermost.invariant
