use Rattle.std.proofs.Common.{◌∙◌, refl, subst}
use Rattle.pl_bundle.specs.Bundles.{bundle_of}
use Rattle.pl_streams.specs.Flows.{inflow, outflow}
use Rattle.pl_streams.specs.Whole.{IsBegun, IsSent}
use Rattle.pl_offline.specs.Output.{IsOutput}
use Rattle.pl_offline.proofs.Telling.{line_held, line_told, plan_held, plan_told}
use Rattle.pl_offline.proofs.running.compile_bundle.Goals as goal

pub returns-in-Ok-write_all : goal.returns-in-Ok-write_all
returns-in-Ok-write_all g c = (
  c.in-Ok-Plan.text,
  plan_held c.args.arguments.now c.in-Ok.bytes c.in-Ok.bytes
      (inflow g.S.Source c.args.source.now) (inflow g.S.Source c.read_to_end.new.source)
      refl c.in-Ok.ensures c.in-Ok-Plan.text
      (subst (IsOutput (bundle_of c.in-Ok.bytes) c.args.arguments.now)
      c.in-Ok-Plan.field-0-is c.in-Ok-Plan.ensures),
  subst (λ text. IsSent text (outflow g.K.Sink c.args.sink.now)
      (outflow g.K.Sink c.write_all.new.sink))
      (c.as_bytes.ensures.value ∙ c.as_str.ensures) c.in-Ok-write_all.ensures,
)

pub returns-in-Ok-Plan : goal.returns-in-Ok-Plan
returns-in-Ok-Plan g c = (
  c.in-Ok-Plan.text,
  plan_told c.args.arguments.now c.in-Ok-Plan.text (inflow g.S.Source c.args.source.now)
      (inflow g.S.Source c.read_to_end.new.source)
      (plan_held c.args.arguments.now c.in-Ok.bytes c.in-Ok.bytes
      (inflow g.S.Source c.args.source.now) (inflow g.S.Source c.read_to_end.new.source)
      refl c.in-Ok.ensures c.in-Ok-Plan.text
      (subst (IsOutput (bundle_of c.in-Ok.bytes) c.args.arguments.now)
      c.in-Ok-Plan.field-0-is c.in-Ok-Plan.ensures)),
  subst (λ text. IsBegun text (outflow g.K.Sink c.args.sink.now)
      (outflow g.K.Sink c.write_all.new.sink))
      (c.as_bytes.ensures.value ∙ c.as_str.ensures) c.in-Err-write_all.ensures,
)

pub returns-in-Ok-write_all-2 : goal.returns-in-Ok-write_all-2
returns-in-Ok-write_all-2 g c = (
  c.in-Ok-Line.line,
  line_held c.args.arguments.now c.in-Ok.bytes c.in-Ok.bytes
      (inflow g.S.Source c.args.source.now) (inflow g.S.Source c.read_to_end.new.source)
      refl c.in-Ok.ensures c.in-Ok-Line.line
      (subst (IsOutput (bundle_of c.in-Ok.bytes) c.args.arguments.now)
      c.in-Ok-Line.field-0-is c.in-Ok-Line.ensures),
  subst (λ text. IsSent text (outflow g.K.Sink c.args.sink.now)
      (outflow g.K.Sink c.write_all-in-Ok-Line.new.sink))
      (c.as_bytes-in-Ok-Line.ensures.value ∙ c.as_str-in-Ok-Line.ensures)
      c.in-Ok-write_all-2.ensures,
)

pub returns-in-Ok-Line : goal.returns-in-Ok-Line
returns-in-Ok-Line g c = (
  c.in-Ok-Line.line,
  line_told c.args.arguments.now c.in-Ok-Line.line (inflow g.S.Source c.args.source.now)
      (inflow g.S.Source c.read_to_end.new.source)
      (line_held c.args.arguments.now c.in-Ok.bytes c.in-Ok.bytes
      (inflow g.S.Source c.args.source.now) (inflow g.S.Source c.read_to_end.new.source)
      refl c.in-Ok.ensures c.in-Ok-Line.line
      (subst (IsOutput (bundle_of c.in-Ok.bytes) c.args.arguments.now)
      c.in-Ok-Line.field-0-is c.in-Ok-Line.ensures)),
  subst (λ text. IsBegun text (outflow g.K.Sink c.args.sink.now)
      (outflow g.K.Sink c.write_all-in-Ok-Line.new.sink))
      (c.as_bytes-in-Ok-Line.ensures.value ∙ c.as_str-in-Ok-Line.ensures)
      c.in-Err-write_all-2.ensures,
)
