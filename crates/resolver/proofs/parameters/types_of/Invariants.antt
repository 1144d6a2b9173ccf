use Rattle.std.proofs.Common.{◌≡◌, ◌++◌, List, drop}
use Rattle.std.specs.Option.{option_map}
use Rattle.attr_blob.specs.declared.value.ArgType.{ArgType}
use Rattle.resolver.specs.Parameters.{types_of}
use Rattle.resolver.proofs.parameters.types_of.Given as goal

-- the types so far, with those behind the place
abbrev pub invariant-loop-param : goal.invariant-loop-param
invariant-loop-param l = option_map (λ (rest : List ArgType). l.types ++ rest) (types_of (drop l.param-index l.params) l.rest) ≡ types_of l.params l.names
