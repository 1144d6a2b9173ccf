use Rattle.std.proofs.Common.{◌≡◌, ◌++◌, take, ap, subst, ◌∙◌}
use Rattle.std.specs.Prelude.{OnOk}
use Rattle.byteorder.specs.Endian.{little_bytes}
use Rattle.byteorder.proofs.Bytes.{take-bytes_low_first}
use Rattle.md_write.proofs.number.push_number.Goals as goal

pub returns : goal.returns
returns c =
    let cut : take c.args.width c.to_le_bytes-bytes.result ≡ little_bytes c.args.width c.args.number = ap (take c.args.width) c.to_le_bytes-bytes.ensures ∙ take-bytes_low_first 0 4 c.args.width c.args.number c.requires in
    subst (λ z. OnOk c.extend.result (c.extend.new.self ≡ c.args.out.now ++ z)) cut c.extend.ensures.ok
