-- What a blob says, as a function of the bytes, and the law that leads from it to the values that are spelled.
use Rattle.std.specs.Prelude.{◌≡◌, ◌↔◌, ℕ, List, [], ◌∷◌, Ok, Err}
use Rattle.attr_blob.specs.Attrs.{ReadsAttr}
use Rattle.attr_blob.specs.Needs.{AttrNeeds}
use Rattle.attr_blob.specs.inner.Steps.{Found}
use Rattle.attr_blob.specs.inner.Reading.{value_at}
use Rattle.attr_blob.specs.declared.stop.Stop.TheVariants.{Lacks, Fails}
use Rattle.attr_blob.specs.declared.value.EnumWidth.{EnumWidth}
use Rattle.attr_blob.specs.declared.value.ArgType.{ArgType}
use Rattle.attr_blob.specs.declared.value.AttrValue.{AttrValue}
use Rattle.attr_blob.specs.declared.value.AttrRead.{AttrRead}
use Rattle.attr_blob.specs.declared.value.AttrRead.TheVariants.{Value, Unknown, Bad}

-- a value with bytes behind it is bad
abbrev pub whole_blob : AttrValue → List ℕ → AttrRead
whole_blob value [] = Value value
whole_blob value (b ∷ rest) = Bad

abbrev pub answer_of : Found AttrValue → AttrRead
answer_of (Ok x) = whole_blob x.0 x.1
answer_of (Err (Lacks name)) = Unknown name
answer_of (Err Fails) = Bad

unfoldable pub attr_at : List ArgType → List EnumWidth → List ℕ → AttrRead
attr_at params widths blob = answer_of (value_at params widths blob)

-- `Value` exactly where a value with these types and widths spells the whole blob
abbrev pub ValueExactly : Type 0
ValueExactly = (params : List ArgType) (widths : List EnumWidth) (blob : List ℕ) (value : AttrValue)
    → (attr_at params widths blob ≡ Value value) ↔ ReadsAttr params widths value blob

-- `Unknown` exactly where the width of the enum of that name is needed next
abbrev pub UnknownExactly : Type 0
UnknownExactly = (params : List ArgType) (widths : List EnumWidth) (blob name : List ℕ)
    → (attr_at params widths blob ≡ Unknown name) ↔ AttrNeeds params widths name blob
