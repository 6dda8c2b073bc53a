-- What sources and sinks tell.
use Rattle.pl_base.specs.declared.sink.Sink as the_sink
use Rattle.pl_base.specs.declared.source.Source as the_source
use Rattle.pl_streams.specs.Whole.{Inflow, Outflow}

abbrev pub inflow : {S : Type 0} → the_source.Ghosts S → S → Inflow
inflow members self = record {
  left = members.left self;
  ended = members.ended self;
  faults = members.faults self;
}

abbrev pub outflow : {S : Type 0} → the_sink.Ghosts S → S → Outflow
outflow members self = record { held = members.held self; faults = members.faults self }
