-- The replies to what is no request: a status, and the rule that is broken.
use Rattle.std.specs.Prelude.{codes}
use Rattle.pl_requests.specs.declared.reply.Reply.{Reply}
use Rattle.pl_requests.specs.Replies.{refusal}
use Rattle.pl_heads.specs.declared.fault.HttpFault.{HttpFault}
use Rattle.pl_heads.specs.declared.fault.HttpFault.TheVariants.{HeadBad, HeadLarge, LengthMissing}
use Rattle.pl_heads.specs.declared.fault.HttpFault.TheVariants.{BodyLarge}
use Rattle.pl_wire.specs.declared.message.RequestFault.{RequestFault}
use Rattle.pl_wire.specs.declared.message.RequestFault.TheVariants.{RouteUnknown, MethodUnknown}
use Rattle.pl_wire.specs.declared.message.RequestFault.TheVariants.{BodyBad}

-- to bytes that are no message
abbrev pub reply_to_fault : HttpFault → Reply
reply_to_fault HeadBad = refusal 400 (codes "head.bad")
reply_to_fault HeadLarge = refusal 431 (codes "head.large")
reply_to_fault LengthMissing = refusal 411 (codes "length.missing")
reply_to_fault BodyLarge = refusal 413 (codes "body.large")

-- to a message that is no request
abbrev pub reply_to_refused : RequestFault → Reply
reply_to_refused RouteUnknown = refusal 404 (codes "route.unknown")
reply_to_refused MethodUnknown = refusal 405 (codes "method.unknown")
reply_to_refused BodyBad = refusal 400 (codes "body.bad")
