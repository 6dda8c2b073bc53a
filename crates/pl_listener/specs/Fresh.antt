-- What a link tells when it is given.
use Rattle.std.specs.Prelude.{◌≡◌, false, []}
use Rattle.std.specs.Option.{IfSome}
use Rattle.pl_sessions.specs.Told.{Told}

-- nothing was read of the link, nothing was written to it, and nothing failed
pub record IsFresh (link : Told) : Type 0 where
  pub running : link.ended ≡ false
  pub unwritten : IfSome link.held (λ bytes. bytes ≡ [])
  pub read_faults : link.read_faults ≡ 0
  pub write_faults : link.write_faults ≡ 0
