use Rattle.std.proofs.Common.{◌≡◌, ℕ, List, ◌++◌, ◌-◌, take, drop, ap, subst, ◌∙◌}
use Rattle.std.specs.Int.{bytes_high_first}
use Rattle.std.specs.List.{flat_map}
use Rattle.std.specs.Prelude.{OnOk}
use Rattle.byteorder.proofs.Bytes.{between-bytes_high_first}
use Rattle.cil_base.specs.Escape.{hex_pair}
use Rattle.dump_text.specs.Pieces.{hex_number}
use Rattle.cecil_top.proofs.end_text.add_bits.Goals as goal

pub returns : goal.returns
unfolding hex_number
returns c =
    let cut : take (8 - (8 - c.args.width)) (drop (8 - c.args.width) c.to_be_bytes-bytes.result) ≡ bytes_high_first c.args.width c.args.bits =
    ap (λ (s : List ℕ). take (8 - (8 - c.args.width)) (drop (8 - c.args.width) s)) c.to_be_bytes-bytes.ensures
    ∙ between-bytes_high_first 8 c.args.width c.args.bits c.requires in
    subst (λ z. OnOk c.add_hex.result (c.add_hex.new.text ≡ c.args.text.now ++ flat_map hex_pair z)) cut c.add_hex.ensures
