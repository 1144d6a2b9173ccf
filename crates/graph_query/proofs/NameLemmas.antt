-- The name of a type, a level at a time.
use Rattle.std.proofs.Common.{◌≡◌, ap, ℕ, zero, suc, ◌<◌, ◌-◌, arith}
use Rattle.cil_base.specs.Token.{Token}
use Rattle.node_model.specs.Nodes.{Nodes}
use Rattle.node_model.specs.RowNames.{type_name_level, type_name_walk}

pub name_step : (n : Nodes) (d : ℕ) (t : Token) → 0 < d → type_name_walk n d t ≡ type_name_level n (type_name_walk n (d - 1)) t
name_step n zero t e = absurd (omega arith)
name_step n (suc d) t e =
    let same : d ≡ suc d - 1 = omega arith in
    ap (λ x. type_name_level n (type_name_walk n x) t) same
