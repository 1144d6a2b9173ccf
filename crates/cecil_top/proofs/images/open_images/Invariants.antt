use Rattle.std.proofs.Common.{◌≡◌, ◌≤◌}
use Rattle.cecil_top.specs.inner.ToolSteps.{AreTakenTo}
use Rattle.cecil_top.proofs.images.open_images.Given as goal

-- the images so far are taken, and the folder tells the same files and has met no fewer faults
abbrev pub invariant-loop-name : goal.invariant-loop-name
invariant-loop-name g l =
    AreTakenTo (g.F.Folder.files l.initial.folder) l.names l.cores l.name-index
    × (g.F.Folder.files l.folder ≡ g.F.Folder.files l.initial.folder)
    × (g.F.Folder.faults l.initial.folder ≤ g.F.Folder.faults l.folder)
