-- How an entry of a history is printed.
use Rattle.std.specs.Prelude.{ℕ, List, ◌∷◌, ◌++◌, codes}
use Rattle.std.specs.Fmt.{decimal}
use Rattle.node_model.specs.declared.entry.By.{By}
use Rattle.node_model.specs.declared.entry.Entry.{Entry}
use Rattle.node_model.specs.declared.entry.Entry.TheVariants.{Fill, Edit}
use Rattle.node_model.specs.declared.key.Key.{Key}
use Rattle.dump_text.specs.KeyTexts.{key_text}

abbrev pub command_text : By → List ℕ
command_text by = decimal by.caller ++ 0x2e ∷ decimal by.command

-- a fill with its step, and how many entries there were when the key was found not filled
abbrev pub fill_text : By → ℕ → Key → List ℕ
fill_text by point key =
    codes "fill " ++ key_text key ++ codes " by " ++ command_text by ++ 0x2e ∷ decimal by.step ++ codes " after "
    ++ decimal point

unfoldable pub entry_text : Entry → List ℕ
entry_text (Fill by point why key) = fill_text by point key
entry_text (Edit by edits) = codes "edit by " ++ command_text by
