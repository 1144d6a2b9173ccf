-- The statuses as a number and as a line on standard error.
use Rattle.std.specs.Prelude.{ℕ, List, [], ◌∷◌, ◌++◌, codes}
use Rattle.std.specs.Fmt.{decimal}
use Rattle.cil_base.specs.Escape.{escaped}
use Rattle.job_text.specs.declared.job.JobRefusal.{JobRefusal}
use Rattle.job_text.specs.declared.job.JobRefusal.TheVariants as jobs
use Rattle.md_tables.specs.declared.tables.TablesRefusal.{TablesRefusal}
use Rattle.md_tables.specs.declared.tables.TablesRefusal.TheVariants as tables
use Rattle.pe_image.specs.declared.refusal.PeRefusal.{PeRefusal}
use Rattle.pe_image.specs.declared.refusal.PeRefusal.TheVariants as pe
use Rattle.cecil_inspect.specs.declared.status.Status.{Status}
use Rattle.cecil_inspect.specs.declared.status.Status.TheVariants.{Ok, Usage, Job, File, ReadFault, WriteFault, NoMemory}
use Rattle.cecil_inspect.specs.declared.status.FileCause.{FileCause}
use Rattle.cecil_inspect.specs.declared.status.FileCause.TheVariants.{Missing, TooLong, Refused}
use Rattle.node_read.specs.declared.image.OpenRefusal.{OpenRefusal}
use Rattle.node_read.specs.declared.image.OpenRefusal.TheVariants as opens

abbrev pub number_of : Status → ℕ
number_of Ok = 0
number_of Usage = 2
number_of (Job _) = 3
number_of (File _ _) = 4
number_of ReadFault = 6
number_of WriteFault = 7
number_of NoMemory = 8

-- a refusal with its number, its name and, in brackets, its own number where it has one
abbrev pub pe_refusal_text : PeRefusal → List ℕ
pe_refusal_text pe.TooLarge = codes "1 TooLarge"
pe_refusal_text pe.NoDos = codes "2 NoDos"
pe_refusal_text pe.NoPe = codes "3 NoPe"
pe_refusal_text (pe.BadMagic n) = codes "4 BadMagic(" ++ decimal n ++ codes ")"
pe_refusal_text pe.BadSections = codes "5 BadSections"
pe_refusal_text pe.NoCli = codes "6 NoCli"
pe_refusal_text pe.BadCli = codes "7 BadCli"
pe_refusal_text pe.BadRoot = codes "8 BadRoot"
pe_refusal_text pe.BadStreams = codes "9 BadStreams"
pe_refusal_text pe.NoTables = codes "10 NoTables"

abbrev pub tables_refusal_text : TablesRefusal → List ℕ
tables_refusal_text (tables.UnsupportedTable n) = codes "11 UnsupportedTable(" ++ decimal n ++ codes ")"
tables_refusal_text (tables.BadHeapSizes n) = codes "12 BadHeapSizes(" ++ decimal n ++ codes ")"
tables_refusal_text tables.BadTables = codes "13 BadTables"

-- what is said of a file, after its name; want of memory has a line of its own
abbrev pub refusal_text : OpenRefusal → List ℕ
refusal_text (opens.Pe refusal) = pe_refusal_text refusal
refusal_text (opens.Tables refusal) = tables_refusal_text refusal
refusal_text opens.NoMemory = []

abbrev pub cause_text : FileCause → List ℕ
cause_text Missing = codes ": missing"
cause_text TooLong = codes ": too long"
cause_text (Refused refusal) = codes ": refused " ++ refusal_text refusal

abbrev pub file_text : List ℕ → FileCause → List ℕ
file_text name (Refused opens.NoMemory) = codes "cecil: no memory"
file_text name cause = codes "cecil: file " ++ escaped name ++ cause_text cause

-- why a job file is none
abbrev pub job_refusal_text : JobRefusal → List ℕ
job_refusal_text jobs.NotJson = codes "not JSON"
job_refusal_text jobs.Shape = codes "not a job"
job_refusal_text (jobs.OverLimit n) = codes "over the limit " ++ decimal n
job_refusal_text (jobs.NotACommand actor command) =
    codes "no command at " ++ decimal actor ++ 0x2e ∷ decimal command

abbrev pub job_line : JobRefusal → List ℕ
job_line refusal = codes "cecil: job: " ++ job_refusal_text refusal

-- the line, without a line feed
abbrev pub status_text : Status → List ℕ
status_text Ok = []
status_text Usage = codes "cecil: usage: dump FILE | show FILE TOKEN | run JOB | gen N"
status_text (Job refusal) = job_line refusal
status_text (File name cause) = file_text name cause
status_text ReadFault = codes "cecil: read fault"
status_text WriteFault = codes "cecil: write fault"
status_text NoMemory = codes "cecil: no memory"
