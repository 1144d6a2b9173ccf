use Rattle.std.proofs.Common.{◌∙◌, ap, length, Some}
use Rattle.std.proofs.lemmas.List.FromFn.{length-map-range_with_len}
use Rattle.turn_lock.specs.Passes.{new_pass}
use Rattle.cecil_top.proofs.opening.open_one.Goals as goal

pub hand_out-requires : goal.hand_out-requires
hand_out-requires c =
    let l = c.in_ok-shared.shared in
    ap length c.in_ok-shared.ensures.passes ∙ length-map-range_with_len (new_pass l.id (Some l.base)) 0 l.callers ∙ c.in_ok-shared.ensures.shared.0
