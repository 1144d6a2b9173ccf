-- What a handler is for, as commands give it: ECMA-335 II.25.4.6.
use Rattle.std.specs.Prelude.{ℕ, ◌^◌, List, Option, Some, None, bytes_eq, codes, if◌then◌else◌, option_map}
use Rattle.cil_base.specs.Token.{root}
use Rattle.il_code.specs.declared.handler.HandlerKind.{HandlerKind}
use Rattle.il_code.specs.declared.handler.HandlerKind.TheVariants as kinds
use Rattle.serde_json.specs.Data.{Data}
use Rattle.job_text.specs.Tokens.{given_token}
use Rattle.job_text.specs.Values.{is_null, given_number}
use Rattle.job_text.specs.declared.command.Command.{Command}

-- the kind of that name, whose type or filter is still to come
unfoldable pub kind_named : List ℕ → Option HandlerKind
kind_named text =
    if bytes_eq text (codes "typed") then Some (kinds.Typed root)
    else (if bytes_eq text (codes "filter") then Some (kinds.Filter 0)
    else (if bytes_eq text (codes "finally") then Some kinds.Finally
    else (if bytes_eq text (codes "fault") then Some kinds.Fault else None)))

-- the kind with its type or its filter; null for one that has neither
unfoldable pub kind_with : ℕ → List Command → HandlerKind → Data → Option HandlerKind
kind_with m before (kinds.Typed _) d = option_map (λ t. kinds.Typed t.token) (given_token m before d)
kind_with m before (kinds.Filter _) d = option_map kinds.Filter (given_number (2 ^ 32) d)
kind_with m before kinds.Finally d = if is_null d then Some kinds.Finally else None
kind_with m before kinds.Fault d = if is_null d then Some kinds.Fault else None
