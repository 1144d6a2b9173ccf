-- Parts of a list, as they are gathered.
use Rattle.std.specs.Prelude.{List, [], ◌∷◌, ◌++◌}

-- the parts with these items before the first
abbrev pub glued : {X : Type 0} → List X → List (List X) → List (List X)
glued front [] = front ∷ []
glued front (part ∷ parts) = (front ++ part) ∷ parts
