use Rattle.std.proofs.Common.{◌∙◌, ◌-◌, ap, drop, length, sym, take}
use Rattle.pl_words.specs.Options.{and_more, begins_as_an_option, options_of}
use Rattle.pl_words.proofs.Fronts.{bytes_of, two_words}
use Rattle.pl_words.proofs.options.apart.Goals as goal

pub returns-in-len1-up-clause-front : goal.returns-in-len1-up-clause-front
returns-in-len1-up-clause-front c =
    two_words c.args.name.now c.args.words.now c.value-item.result c.in-len1-up.len_at_least
    c.value-item.is c.requires
    (ap begins_as_an_option (sym c.as_str.ensures.value) ∙ sym c.begins_as_an_option.ensures
    ∙ c.if-not-begins_as_an_option.true)
    ∙ ap (λ v. and_more (record { name = c.args.name.now; value = v })
    (options_of (bytes_of (take (length c.args.words.now - 1) (drop 1 c.args.words.now)))))
    (sym c.as_str-value.ensures.value)
