use Rattle.byteorder.specs.Endian.{little_bytes}
use Rattle.il_code.specs.SectionBytes.{clause_bytes}
use Rattle.il_write.proofs.LayoutLemmas.{six-put}
use Rattle.il_write.proofs.write_section.write_small.Goals as goal

pub returns : goal.returns
unfolding clause_bytes
returns c = record {
  ok = six-put c.args.out.now c.put.new.out c.put-2.new.out c.put-3.new.out c.put-4.new.out c.put-5.new.out c.put-6.new.out
      (little_bytes 2 c.args.clause.now.flags) (little_bytes 2 c.args.clause.now.try_offset) (little_bytes 1 c.args.clause.now.try_len) (little_bytes 2 c.args.clause.now.offset) (little_bytes 1 c.args.clause.now.len) (little_bytes 4 c.args.clause.now.last)
      c.in_ok-put.ensures.ok c.in_ok-put-2.ensures.ok c.in_ok-put-3.ensures.ok c.in_ok-put-4.ensures.ok c.in_ok-put-5.ensures.ok c.in_ok-put-6.ensures.ok;
}
