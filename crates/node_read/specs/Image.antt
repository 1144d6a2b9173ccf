-- Which files are images, and what opening one answers: ECMA-335 II.24.2, II.25.
use Rattle.std.specs.Prelude.{◌≡◌, ◌≢◌, ℕ, List, Result, Ok, Err, IsOk}
use Rattle.md_schema.specs.Layout.{IsWhole}
use Rattle.md_tables.specs.Refusal.{RefusesTables}
use Rattle.pe_image.specs.Layout.{pe_layout}
use Rattle.pe_image.specs.Streams.{stream}
use Rattle.pe_image.specs.declared.stream.StreamName.TheVariants as streams
use Rattle.node_read.specs.declared.image.OpenRefusal.{OpenRefusal}
use Rattle.node_read.specs.declared.image.OpenRefusal.TheVariants as refusals

-- the file has a layout as an image, and its tables are whole
pub record IsImageFile (b : List ℕ) : Type 0 where
  pub laid : IsOk (pe_layout b)
  pub whole : IsWhole (stream b streams.Tables)

-- when each refusal comes: one of the layout, and else one of the tables
abbrev pub RefusesImage : List ℕ → OpenRefusal → Type 0
RefusesImage b (refusals.Pe refusal) = pe_layout b ≡ Err refusal
RefusesImage b (refusals.Tables refusal) = IsOk (pe_layout b) × RefusesTables (stream b streams.Tables) refusal
RefusesImage b refusals.NoMemory = Unit {0}

-- what opening answers: the image of the file, or its refusal, but for want of memory
abbrev pub OpensImage : Result (List ℕ) OpenRefusal → List ℕ → Type 0
OpensImage (Ok image) b = (image ≡ b) × IsImageFile b
OpensImage (Err refusal) b = RefusesImage b refusal

-- a file is an image, or has one refusal
abbrev pub ImageIsNotRefused : Type 0
ImageIsNotRefused =
    (b : List ℕ) (refusal other : OpenRefusal)
    → refusal ≢ refusals.NoMemory → other ≢ refusals.NoMemory
    → RefusesImage b refusal
    → (IsImageFile b → ⊥) × (RefusesImage b other → refusal ≡ other)
