-- What each key of an edited graph holds where it is not at fault: ECMA-335 II.22 to II.25.
use Rattle.std.specs.Prelude.{ℕ, ◌≡◌, ◌<◌, ◌^◌, true, List, if◌then◌else◌}
use Rattle.std.specs.List.{AllByRecursion, IsDistinct}
use Rattle.cil_base.specs.Token.{Token}
use Rattle.il_code.specs.Writable.{Writable}
use Rattle.md_heaps.specs.LaidHeaps.{IsText}
use Rattle.md_schema.specs.Link.{link_table_of}
use Rattle.pe_image.specs.declared.facts.Facts.{Facts as FactsOf}
use Rattle.sig_tree.specs.Bounds.{IsBoundedSig}
use Rattle.sig_tree.specs.declared.tree.SigTree.{SigTree}
use Rattle.node_model.specs.Keys.{is_row, same_token}
use Rattle.node_model.specs.Nodes.{Nodes}
use Rattle.node_model.specs.Signatures.{sort_fits}
use Rattle.node_model.specs.declared.key.Key.{Key}
use Rattle.node_model.specs.declared.key.Key.TheVariants.{Row, Sig, Owned, Linked, Body, Data, Resource, Facts}
use Rattle.node_model.specs.declared.value.BodyValue.{BodyValue}
use Rattle.node_model.specs.declared.value.BodyValue.TheVariants.{Il}
use Rattle.node_model.specs.declared.value.ResourceValue.{ResourceValue}
use Rattle.node_model.specs.declared.value.ResourceValue.TheVariants.{Elsewhere}
use Rattle.node_model.specs.declared.value.Value.{Value}
use Rattle.node_model.specs.declared.value.Value.TheVariants as values
use Rattle.graph_facts.specs.RowHolds.{HoldsRow}

-- a signature that can be spelled, of a sort that the table has
pub record HoldsSig (t : Token) (sig : SigTree) : Type 0 where
  pub sort : sort_fits t.table sig ≡ true
  pub bounded : IsBoundedSig sig

-- a row of the table, which may have been removed
pub record IsRowOfTable (n : Nodes) (table : ℕ) (t : Token) : Type 0 where
  pub table_is : t.table ≡ table
  pub there : is_row n.rows t ≡ true

-- rows of one table, each once
pub record ListsRows (n : Nodes) (table : ℕ) (ts : List Token) : Type 0 where
  pub rows : AllByRecursion (IsRowOfTable n table) ts
  pub once : IsDistinct same_token ts

-- a body whose operands, targets and handlers are sound, or none, or native code
abbrev pub HoldsBody : BodyValue → Type 0
HoldsBody (Il body) = Writable body
HoldsBody _ = Unit {0}

-- bytes, or an offset of four bytes
abbrev pub HoldsResource : ResourceValue → Type 0
HoldsResource (Elsewhere offset) = offset < 2 ^ 32
HoldsResource _ = Unit {0}

-- numbers of the widths that the headers have (II.25.2.2, II.25.2.3, II.25.3.3), and a version without a zero byte
pub record HoldsFacts (facts : FactsOf) : Type 0 where
  pub machine : facts.machine < 2 ^ 16
  pub time : facts.time < 2 ^ 32
  pub characteristics : facts.characteristics < 2 ^ 16
  pub base : facts.base < (if facts.plus then 2 ^ 64 else 2 ^ 32)
  pub subsystem : facts.subsystem < 2 ^ 16
  pub dll : facts.dll < 2 ^ 16
  pub runtime_major : facts.runtime_major < 2 ^ 16
  pub runtime_minor : facts.runtime_minor < 2 ^ 16
  pub flags : facts.flags < 2 ^ 32
  pub entry_table : facts.entry.table < 2 ^ 8
  pub entry_rid : facts.entry.rid < 2 ^ 24
  pub version : IsText facts.version

-- by the key. Data are any bytes. Signatures and bodies may name rows that are not there
abbrev pub HoldsValue : Nodes → Key → Value → Type 0
HoldsValue n (Row t) (values.Row row) = HoldsRow n t row
HoldsValue n (Sig t) (values.Sig sig) = HoldsSig t sig
HoldsValue n (Owned t table) (values.Tokens ts) = ListsRows n table ts
HoldsValue n (Linked t l) (values.Tokens ts) = ListsRows n (link_table_of l) ts
HoldsValue n (Body t) (values.Body body) = HoldsBody body
HoldsValue n (Data t) (values.Data bytes) = Unit {0}
HoldsValue n (Resource t) (values.Resource value) = HoldsResource value
HoldsValue n Facts (values.Facts facts) = HoldsFacts facts
HoldsValue n _ _ = ⊥
