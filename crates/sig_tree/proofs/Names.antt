-- Names in the places of tokens.
use Rattle.std.proofs.Common.{◌≡◌, List, [], ◌∷◌, ◌++◌, map, refl, ap}
use Rattle.std.specs.List.{flat_map}
use Rattle.sig_tree.specs.Printed.{piece_text, piece_token, filled_pieces, own_text}
use Rattle.sig_tree.specs.declared.piece.Piece.{Piece}
use Rattle.sig_tree.specs.declared.piece.Piece.TheVariants.{Char, Name}

-- pieces filled with their own tokens' texts
pub own_texts : (ps : List Piece) → filled_pieces ps (map own_text (flat_map piece_token ps)) ≡ flat_map piece_text ps
own_texts [] = refl
own_texts (Char c ∷ ps) = ap (λ rest. c ∷ rest) (own_texts ps)
own_texts (Name t ∷ ps) = ap (λ rest. own_text t ++ rest) (own_texts ps)
