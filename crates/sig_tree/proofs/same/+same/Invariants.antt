use Rattle.std.proofs.Common.{◌≡◌, drop}
use Rattle.sig_tree.proofs.same.+same.Given as goal

abbrev pub invariant-same_types-loop-ty : goal.invariant-same_types-loop-ty
invariant-same_types-loop-ty l = record {
  equal : drop l.ty-index l.a ≡ l.others → l.a ≡ l.initial.others;
  still : l.a ≡ l.initial.others → drop l.ty-index l.a ≡ l.others;
}
