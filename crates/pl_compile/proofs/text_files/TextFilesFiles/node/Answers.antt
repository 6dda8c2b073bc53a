use Rattle.std.proofs.Common.{◌≡◌, ◌∙◌, ap, subst, sym}
use Rattle.std.specs.FinMap as finite
use Rattle.std.specs.Prelude.{IfOk}
use Rattle.pl_step_origins.specs.Below.pl_expand.specs.Below.pl_root.specs.Reading.{parsed}
use Rattle.pl_compile.proofs.Reading.{Stored, absent, all_are, found}
use Rattle.pl_compile.proofs.text_files.TextFilesFiles.node.Goals as goal

pub returns-in_default-get-clause-file : goal.returns-in_default-get-clause-file
returns-in_default-get-clause-file c =
    absent c.self.inside.texts.now c.args.self.now c.args.key.now c.self.view_is
    c.in_default-get.ensures

stored :
    (c : goal.After-node-2) → Stored c.self.inside.texts.now c.node-2.new.self c.args.key.now
stored c = record {
  old = c.self.inside.read;
  text = c.in-Some-get.text.now;
  are = c.self.invariant;
  there = sym c.in-Some-get.ensures;
  new_is =
      c.node-2.ensures.same
      ∙ (c.in_ok-put.ensures.ok
      ∙ (ap (λ read. finite.insert read c.args.key.now
      (parsed c.args.key.now c.as_slice.result.now)) c.node.ensures.same
      ∙ ap (λ text. finite.insert c.self.inside.read c.args.key.now
      (parsed c.args.key.now text)) c.as_slice.ensures));
}

pub invariant_of-self-2 : goal.invariant_of-self-2
invariant_of-self-2 c =
    all_are c.self.inside.texts.now c.node-2.new.self c.args.key.now (stored c)

pub returns-clause-file : goal.returns-clause-file
returns-clause-file c =
    subst (λ file. IfOk c.node-2.result (λ told. told ≡ file))
    (ap (λ read. finite.get read c.args.key.now) (sym c.node-2.ensures.same)
    ∙ found c.self.inside.texts.now c.args.self.now c.node-2.new.self c.args.key.now
    c.self.view_is (stored c))
    c.node-2.ensures.file
