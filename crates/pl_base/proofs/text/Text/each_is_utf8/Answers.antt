use Rattle.std.proofs.Common.{◌≡◌, sym, ◌∙◌, ap}
use Rattle.std.proofs.lemmas.Str.{is_utf8-from_IsUtf8}
use Rattle.pl_base.proofs.text.Text.each_is_utf8.Goals as goal

pub returns : goal.returns
returns c = rw (sym c.as_str-text.ensures) (is_utf8-from_IsUtf8 c.as_str-text.result.now
    c.as_str-text.utf8)
