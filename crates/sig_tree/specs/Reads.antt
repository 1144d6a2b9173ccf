-- Which signature a blob reads as.
use Rattle.std.specs.Prelude.{◌≡◌, ℕ, List, [], Some, Bool, true, false}
use Rattle.sig_tree.specs.Spelling.{strip}
use Rattle.sig_tree.specs.Bounds.{IsBoundedSig}
use Rattle.sig_tree.specs.declared.tree.SigTree.{SigTree}
use Rattle.sig_tree.specs.declared.tree.SigTree.TheVariants.{Method, Field, Locals, Property, Inst as MethodInst, Plain}

-- whether the signature is a type alone
abbrev pub is_plain : SigTree → Bool
is_plain (Plain t) = true
is_plain (Method m) = false
is_plain (Field t) = false
is_plain (Locals ts) = false
is_plain (Property this t params) = false
is_plain (MethodInst args) = false

-- the signature is spelled by the whole of the bytes, keeps its bounds, and is of the wanted sort
pub record ReadsSig (plain : Bool) (sig : SigTree) (bytes : List ℕ) : Type 0 where
  pub whole : strip sig bytes ≡ Some []
  pub bounded : IsBoundedSig sig
  pub sort : is_plain sig ≡ plain
