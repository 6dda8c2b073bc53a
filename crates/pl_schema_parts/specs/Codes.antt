-- The codes of what is wrong with a pipeline.
use Rattle.std.specs.Prelude.{ℕ, List, codes}
use Rattle.pl_schema_parts.specs.declared.fault.SchemaCode.{SchemaCode}
use Rattle.pl_schema_parts.specs.declared.fault.SchemaCode.TheVariants.{UnknownKey, MissingKey}
use Rattle.pl_schema_parts.specs.declared.fault.SchemaCode.TheVariants.{WrongShape, BadName}
use Rattle.pl_schema_parts.specs.declared.fault.SchemaCode.TheVariants.{FirstKey}
use Rattle.pl_schema_parts.specs.declared.fault.SchemaCode.TheVariants.{NameTwice, TwoForms}
use Rattle.pl_schema_parts.specs.declared.fault.SchemaCode.TheVariants.{BadNumber}
use Rattle.pl_schema_parts.specs.declared.fault.SchemaCode.TheVariants.{BadCondition}

abbrev pub code_of : SchemaCode → List ℕ
code_of UnknownKey = codes "S1"
code_of MissingKey = codes "S2"
code_of WrongShape = codes "S3"
code_of BadName = codes "S4"
code_of FirstKey = codes "S5"
code_of NameTwice = codes "S6"
code_of TwoForms = codes "S7"
code_of BadNumber = codes "S8"
code_of BadCondition = codes "S9"
