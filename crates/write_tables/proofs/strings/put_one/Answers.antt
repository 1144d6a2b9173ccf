use Rattle.std.proofs.Common.{ℕ, ◌∙◌, [], ◌∷◌, ◌++◌, ap}
use Rattle.write_tables.specs.Contents.{AsUser}
use Rattle.write_tables.specs.UserTokens.{string_token}
use Rattle.write_tables.proofs.GatherLemmas.{gathers_alone}
use Rattle.write_tables.proofs.strings.put_one.Goals as goal

pub returns : goal.returns
returns c =
    gathers_alone ℕ c.args.heaps.now c.put_string.new.heaps (AsUser c.args.units.now ∷ []) (λ later. string_token later.users c.args.units.now)
    c.in_ok-token.token c.push.new.self (c.in_ok-push.ensures.ok ∙ ap (λ front. front ++ c.in_ok-token.token ∷ []) c.new-tokens.ensures)
    c.in_ok-token.ensures
