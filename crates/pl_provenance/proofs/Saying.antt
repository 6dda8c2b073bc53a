-- What a place may say, said again: as a key, as the text of a key, as a variable's keys.
use Rattle.std.proofs.Common.{◌≡◌, inl, inr, ℕ, List, refl, ap, subst, sym, ◌∙◌, rules}
use Rattle.pl_base.specs.declared.place.FileKey.{FileKey}
use Rattle.pl_base.specs.declared.place.Place.{Place}
use Rattle.pl_base.specs.declared.value.Value.{Value, Str, the_lemmas}
use Rattle.pl_expr.specs.Conversions.{cast_text}
use Rattle.pl_params.specs.declared.kind.ParamKind.TheVariants as kind
use Rattle.pl_eval_laws.specs.Marks.{Said}
use Rattle.pl_eval_laws.specs.Marks.{key as key_said, scalar}
use Rattle.pl_eval_laws.proofs.Trees.{Asked as Wanted}
use Rattle.pl_origins.proofs.Frames.{Keeps, Reads}
use Rattle.pl_expand.specs.Tree.{Set}
use Rattle.pl_provenance.specs.Texts.{MaySay, Says, value_said}
use Rattle.pl_provenance.specs.Known.{IsCalling, as_written, by_expression}
use Rattle.pl_provenance.proofs.Standing.{IsIn, stood_is}

str_text : (text : List ℕ) → cast_text (Str text) ≡ text
str_text text = search (rules, the_lemmas)

-- what is written may be said as it is
itself : (written : Said) → MaySay (value_said written) written
itself (scalar one) = inl (record { of = kind.Object; is = refl })
itself (key_said name) =
    inl (record {
      one = Str name;
      read = record { of = kind.Object; is = refl };
      is = str_text name;
    })

-- the text of what is said
cast_again : (written one : Value) → MaySay written (scalar one) →
    MaySay written (key_said (cast_text one))
cast_again written one (inl read) = inl (record { one = one; read = read; is = refl })
cast_again written one (inr text) =
    subst (λ name. MaySay written (key_said name))
    (sym_cast text.name one text.is) text.key
  where
    sym_cast : (name : List ℕ) (one : Value) → one ≡ Str name → name ≡ cast_text one
    sym_cast name one is =
        let same : cast_text one ≡ name = ap cast_text is ∙ str_text name in cc

module _ (files : Set) where
  pub saying_keeps : Keeps (Says files)
  saying_keeps = record {
    cast =
        λ place one says. record {
          written = says.written;
          stands = says.stands;
          says = cast_again (value_said says.written) one says.says;
        };
    text =
        λ place name says. record {
          written = says.written;
          stands = says.stands;
          says = inr (record { name = name; key = says.says; is = refl });
        };
    name =
        λ place name says. record {
          written = says.written;
          stands = says.stands;
          says = inr (inl refl);
        };
    value =
        λ place name says. record {
          written = says.written;
          stands = says.stands;
          says = inr (inr refl);
        };
  }

  -- an item that calls by a path there, as a value
  abbrev pub Calls : Place → Place → Value → Type 0
  Calls at from one = IsCalling files at from (cast_text one)

  pub saying_reads :
      (P : Wanted) → ((place : Place) (said : Said) → Says files place said → P.says place said) →
      ((at from : Place) (one : Value) → Calls at from one → P.calls at from one) →
      Keeps P.says → (key : FileKey) → Reads (IsIn files key) P
  saying_reads P holds calling keeps key = record {
    says =
        λ place said spot. holds place said (record {
          written = said;
          stands = spot;
          says = itself said;
        });
    default =
        λ place of before after spot is. holds place (scalar after) (record {
          written = scalar before;
          stands = spot;
          says = inl (record { of = of; is = is });
        });
    calls =
        λ at from text begins. calling at from (Str text)
        (subst (IsCalling files at from) (sym (str_text text)) (as_written begins));
    asked =
        λ at from one asks. calling at from one (by_expression (record {
          text = asks.text;
          written = asks.written;
          is_in = asks.is_in;
          stands = stood_is files key at asks.written asks.stands;
          expression = asks.expression;
        }));
    keeps = keeps;
  }
