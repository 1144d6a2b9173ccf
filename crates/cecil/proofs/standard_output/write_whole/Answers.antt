use Rattle.std.proofs.Common.{◌≡◌, subst, ◌++◌, [], take, append-nil, rules}
use Rattle.std.specs.Io.KnownBytes.{Appends}
use Rattle.std.proofs.KnownBytes.{Appends-kept, Appends-trans}
use Rattle.cecil.proofs.WriteLemmas.{moves_front, on_err, part_of}
use Rattle.cecil.proofs.standard_output.write_whole.Goals as goal

pub returns-in_err-count-clause-part : goal.returns-in_err-count-clause-part
returns-in_err-count-clause-part g c =
    let (done, split, added) = c.loop-rest.invariant in
    on_err c.from_residual.result _ (part_of _ _ done c.loop-rest.rest.now c.args.bytes.now split (Appends-kept _ _ _ done added c.in_err-count.ensures.bytes))

pub returns-then-count-eq0-clause-part : goal.returns-then-count-eq0-clause-part
returns-then-count-eq0-clause-part g c =
    let (done, split, added) = c.loop-rest.invariant in
    let zero : c.in_ok-count.count ≡ 0 = search rules in
    let none = rw zero at c.in_ok-count.ensures.bytes in
    part_of _ _ done c.loop-rest.rest.now c.args.bytes.now split (subst (Appends _ _) (append-nil done) (Appends-trans _ _ _ done [] added none))

pub loop-rest-preserved : goal.loop-rest-preserved
loop-rest-preserved g c =
    let (done, split, added) = c.loop-rest.invariant in
    let rest = c.loop-rest.rest.now in
    let n = c.in_ok-count.count in
    (done ++ take n rest, moves_front _ done rest n split, Appends-trans _ _ _ _ _ added c.in_ok-count.ensures.bytes)
