use Rattle.std.proofs.Common.{◌≡◌, ◌++◌, drop}
use Rattle.sig_tree.specs.Replaced.{types_with}
use Rattle.sig_tree.proofs.replace.+place.Given as goal

abbrev pub invariant-place_types-loop-ty : goal.invariant-place_types-loop-ty
invariant-place_types-loop-ty l = record {
  placed : (types_with l.types l.initial.rest).0 ≡ l.all ++ (types_with (drop l.ty-index l.types) l.rest).0;
  left : (types_with l.types l.initial.rest).1 ≡ (types_with (drop l.ty-index l.types) l.rest).1;
}
