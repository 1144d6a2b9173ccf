use Rattle.std.proofs.Common.{◌≡◌, ◌++◌, ◌≤◌, take, length}
use Rattle.std.specs.List.{AllByRecursion, flat_map, enumerate_from}
use Rattle.il_code.specs.CodeBytes.{numbered_bytes}
use Rattle.il_code.specs.CodePlaces.{instr_place}
use Rattle.il_write.specs.inner.Ranges.{InstrFits}
use Rattle.il_code.specs.Writable.{texts_of}
use Rattle.il_write.proofs.write_code.write_code.Given as goal

abbrev pub invariant-loop-i : goal.invariant-loop-i
invariant-loop-i l = record {
  written : l.out ≡ l.initial.out ++ flat_map (numbered_bytes (instr_place l.places) l.texts l.code) (take l.i (enumerate_from 0 l.code));
  named : l.named ≡ length (texts_of (take l.i l.code));
  few : l.named ≤ l.i;
  fits : AllByRecursion InstrFits (take l.i l.code);
}
