-- The signature that the whole of a blob spells: the one definition of a blob's signature, and the law on it.
use Rattle.std.specs.Prelude.{◌≡◌, ◌↔◌, ℕ, ◌==◌, List, [], ◌∷◌, Option, Some, None, Bool, true, false, ◌&&◌, length}
use Rattle.std.specs.Prelude.{option_and_then, if◌then◌else◌}
use Rattle.sig_tree.specs.Bounds.{depth_limit}
use Rattle.sig_tree.specs.Fronts.{after_value, wrap, many_at, counted_at}
use Rattle.cil_base.specs.inner.Reading.{compressed_at}
use Rattle.sig_tree.specs.Parsing.{type_sig_at, method_at}
use Rattle.sig_tree.specs.Reads.{ReadsSig}
use Rattle.sig_tree.specs.declared.tree.Sentinel.{Sentinel}
use Rattle.sig_tree.specs.declared.tree.Sentinel.TheVariants.{None as no_sentinel, Before}
use Rattle.sig_tree.specs.declared.tree.MethodSig.{MethodSig}
use Rattle.sig_tree.specs.declared.tree.SigTree.{SigTree}
use Rattle.sig_tree.specs.declared.tree.SigTree.TheVariants.{Method, Field, Locals, Property, Inst as MethodInst, Plain}

-- a value that takes all of the bytes
abbrev pub whole : {A : Type 0} → Option (A × List ℕ) → Option A
whole {A} found = option_and_then {T = A × List ℕ} {U = A} (λ x. if length x.1 == 0 then Some x.0 else None) found

abbrev pub last_sentinel : MethodSig → Sentinel → Option SigTree
last_sentinel m no_sentinel = Some (Method (record m { sentinel = Before (length m.params) }))
last_sentinel m (Before n) = None

-- the method with the sentinel after its last parameter, where that byte alone is left and no other sentinel stands
abbrev pub ends_method : MethodSig × List ℕ → Option SigTree
ends_method (m, []) = Some (Method m)
ends_method (m, b ∷ s) = if b == 0x41 && length s == 0 then last_sentinel m m.sentinel else None

abbrev pub property_at : Bool → List ℕ → Option (SigTree × List ℕ)
property_at this s = after_value (compressed_at s) (λ n r. after_value (type_sig_at depth_limit r) (λ t r.
    wrap (λ params. Property this t params) (many_at (type_sig_at depth_limit) n r)))

-- the signature of the whole blob after its first byte, if it is no type alone
unfoldable pub sort_at : ℕ → List ℕ → Option SigTree
sort_at b s =
    if b == 0x06 then whole (wrap Field (type_sig_at depth_limit s)) else
    (if b == 0x07 then whole (wrap Locals (counted_at (type_sig_at depth_limit) s)) else
    (if b == 0x08 then whole (property_at false s) else (if b == 0x28 then whole (property_at true s) else
    (if b == 0x0a then whole (wrap MethodInst (counted_at (type_sig_at depth_limit) s)) else
    option_and_then ends_method (method_at (type_sig_at depth_limit) (b ∷ s))))))

-- the signature of the whole blob: a type alone where `plain` is true, and else one of another sort
unfoldable pub tree_at : Bool → List ℕ → Option SigTree
tree_at true s = whole (wrap Plain (type_sig_at depth_limit s))
tree_at false [] = None
tree_at false (b ∷ s) = sort_at b s

-- it is exactly the signature that reads the blob
abbrev pub TreeReads : Type 0
TreeReads =
    (plain : Bool) (bytes : List ℕ) (sig : SigTree) → (tree_at plain bytes ≡ Some sig) ↔ ReadsSig plain sig bytes
