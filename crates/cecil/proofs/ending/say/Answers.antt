use Rattle.std.proofs.Common.{◌∷◌, []}
use Rattle.std.proofs.KnownBytes.{Appends-trans}
use Rattle.cecil.proofs.WriteLemmas.{on_ok}
use Rattle.cecil.proofs.ending.say.Goals as goal

pub returns : goal.returns
returns g c =
    on_ok c.write_whole-2.result _ _ (λ end. Appends-trans _ _ _ c.args.text.now (0x0a ∷ []) c.in_ok-write_whole.ensures.all end) c.write_whole-2.ensures.all
