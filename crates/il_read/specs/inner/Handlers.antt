-- Lists that are read one by one: the decoder's own words. No public contract cites them.
use Rattle.std.specs.Prelude.{◌++◌, List, [], ◌∷◌, Option, option_map}
use Rattle.il_code.specs.declared.handler.Handler.{Handler}

-- the handlers read so far, and one more
abbrev pub with_last : List Handler → Option Handler → Option (List Handler)
with_last front read = option_map (λ h. front ++ h ∷ []) read

-- the handlers read so far, and those to come
abbrev pub after_front : List Handler → Option (List Handler) → Option (List Handler)
after_front front read = option_map (λ rest. front ++ rest) read
