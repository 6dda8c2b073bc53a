-- What `httparse` says of the front of bytes, with room for 64 headers.
use Rattle.std.specs.Prelude.{ℕ, List}
use Rattle.httparse.specs.declared.spans.HeaderSpan.{HeaderSpan}
use Rattle.httparse.specs.Grammar.{HasNoRequest, NeverHasRequest, MayBecomeRequest}
use Rattle.httparse.specs.Spans.{IsRequestOf, IsRequestWithin, RequestExceeds}
use Rattle.pl_heads.specs.declared.reading.Reading.{Reading}
use Rattle.pl_heads.specs.declared.reading.Reading.TheVariants.{Whole, Partial, Never, Many}
use Rattle.pl_heads.specs.Heads.{field_limit}

abbrev pub IsReading : List ℕ → List HeaderSpan → Reading → Type 0
IsReading bytes headers (Whole spans) = IsRequestWithin bytes headers spans ×
    IsRequestOf bytes headers spans
IsReading bytes headers Partial = HasNoRequest bytes × MayBecomeRequest bytes
IsReading bytes headers Never = NeverHasRequest bytes
IsReading bytes headers Many = RequestExceeds field_limit bytes
