-- The printed texts, and the exit numbers.
use Rattle.std.specs.Prelude.{ℕ, suc, List, [], ◌∷◌, ◌++◌, codes, flat_map, ℤ, pos, negsuc}
use Rattle.std.specs.Fmt.{decimal}
use Rattle.rip_report.specs.Kinds.{cue_kind_text, layout_kind_text, layout_part_text, list_kind_text, record_kind_text, response_kind_text, wav_kind_text}
use Rattle.disc_toc.specs.declared.difference.LayoutPart.{LayoutPart}
use Rattle.column_map.specs.declared.candidate.Candidate.{Candidate}
use Rattle.rip_report.specs.declared.status.Status.{Status}
use Rattle.rip_report.specs.declared.status.Status.TheVariants.{Done, Usage, Missing, CueRefused, WavRefused, LayoutRefused, NoRecord, RecordRefused, OutExists, OtherLayout, Sealed, NoCandidate, Several, NotNear, Mendable, SealDiffers, NoResponse, ResponseRefused, BadRecords, ListRefused, BatchFailed, ReadFault, WriteFault, SinkFault, WantOfMemory}

-- each line ends with a line feed
abbrev pub line : List ℕ → List ℕ
line text = text ++ 10 ∷ []

-- an offset with its sign, where 0 is +0
abbrev pub offset_text : ℤ → List ℕ
offset_text (pos d) = codes "+" ++ decimal d
offset_text (negsuc d) = codes "-" ++ decimal (suc d)

abbrev pub read_fault_line : List ℕ
read_fault_line = line (codes "read fault")

abbrev pub write_fault_line : List ℕ
write_fault_line = line (codes "write fault")

-- the line of a cue sheet that is refused, counted from 1, or 0 for the whole sheet, and the kind of refusal
abbrev pub cue_line : ℕ → List ℕ → List ℕ
cue_line number kind = line (codes "cue line " ++ decimal number ++ codes " " ++ kind)

-- a file that is refused, the kind of refusal and the place in bytes where that shows
abbrev pub wav_line : List ℕ → List ℕ → ℕ → List ℕ
wav_line name kind at = line (codes "wav " ++ name ++ codes " at " ++ decimal at ++ codes " " ++ kind)

-- the line of an offset at which a rip is near a record
abbrev pub candidate_line : ℤ → ℕ → ℕ → List ℕ
candidate_line offset errors columns = line (codes "offset " ++ offset_text offset ++ codes " errors " ++ decimal errors ++ codes " columns " ++ decimal columns)

-- the line of two layouts that differ: the part, and what each of them has there
abbrev pub other_layout_line : LayoutPart → ℕ → ℕ → List ℕ
other_layout_line part rip kept = line (codes "other layout " ++ layout_part_text part ++ codes " rip " ++ decimal rip ++ codes " kept " ++ decimal kept)

-- two offsets at which a rip is near a record
abbrev pub several_line : ℤ → ℤ → List ℕ
several_line first second = line (codes "several " ++ offset_text first ++ codes " " ++ offset_text second)

-- The lines of a refusal. Success, bad records and failed discs have texts of their commands' own, and the last two statuses print nothing.
abbrev pub refusal_line : Status → List ℕ
refusal_line (Usage word) = line (codes "usage word " ++ decimal word)
refusal_line (Missing name) = line (codes "missing " ++ name)
refusal_line (CueRefused number kind) = cue_line number (cue_kind_text kind)
refusal_line (WavRefused name kind at) = wav_line name (wav_kind_text kind) at
refusal_line (LayoutRefused kind) = line (codes "layout " ++ layout_kind_text kind)
refusal_line (NoRecord name) = line (codes "no record " ++ name)
refusal_line (RecordRefused kind) = line (codes "record " ++ record_kind_text kind)
refusal_line (OutExists name) = line (codes "exists " ++ name)
refusal_line (OtherLayout differs) = other_layout_line differs.part differs.rip differs.kept
refusal_line (Sealed name) = line (codes "sealed " ++ name)
refusal_line NoCandidate = line (codes "no candidate")
refusal_line (Several first second) = several_line first second
refusal_line (NotNear column) = line (codes "not near column " ++ decimal column)
refusal_line (Mendable offset errors columns) = candidate_line offset errors columns ++ line (codes "mendable")
refusal_line SealDiffers = line (codes "seal differs")
refusal_line (NoResponse name) = line (codes "no response " ++ name)
refusal_line (ResponseRefused kind) = line (codes "response " ++ response_kind_text kind)
refusal_line (ListRefused kind) = line (codes "list " ++ list_kind_text kind)
refusal_line (ReadFault call) = read_fault_line
refusal_line (WriteFault call) = write_fault_line
refusal_line (BadRecords bad) = []
refusal_line (BatchFailed failed) = []
refusal_line Done = []
refusal_line SinkFault = []
refusal_line WantOfMemory = []

-- what `register` prints: the record's name, the rip's sectors and the parity words of a column
abbrev pub registered_line : List ℕ → ℕ → ℕ → List ℕ
registered_line name sectors count = line (codes "registered " ++ name ++ codes " sectors " ++ decimal sectors ++ codes " npar " ++ decimal count)

-- the line of a candidate
abbrev pub line_of : Candidate → List ℕ
line_of at = candidate_line at.offset at.errors at.columns

-- what `verify` prints where the rip has no wrong word
abbrev pub verified_text : Candidate → List ℕ
verified_text at = line_of at ++ line (codes "verified")

-- what `verify` prints where the rip has wrong words
abbrev pub mendable_text : Candidate → List ℕ
mendable_text at = line_of at ++ line (codes "mendable")

-- what `offsets` prints: a line for each candidate
abbrev pub offsets_text : List Candidate → List ℕ
offsets_text found = flat_map line_of found

-- what `repair` prints
abbrev pub written_text : Candidate → List ℕ → List ℕ
written_text at name = line_of at ++ line (codes "written " ++ name)

-- what `upgrade` prints
abbrev pub upgraded_text : Candidate → List ℕ → List ℕ
upgraded_text at name = line_of at ++ line (codes "upgraded " ++ name)

-- what `split` prints: the folder, and how many tracks stand in it
abbrev pub split_line : List ℕ → ℕ → List ℕ
split_line folder tracks = line (codes "split " ++ folder ++ codes " tracks " ++ decimal tracks)

-- what `join` prints: the file's name and its sectors
abbrev pub joined_line : List ℕ → ℕ → List ℕ
joined_line name sectors = line (codes "joined " ++ name ++ codes " sectors " ++ decimal sectors)

-- what `batch` prints of a disc: a line with its number in the list, counted from 1, and that of its status, and then the disc's own text
abbrev pub disc_part : ℕ → ℕ → List ℕ → List ℕ
disc_part disc number text = line (codes "disc " ++ decimal disc ++ codes " number " ++ decimal number) ++ text

-- what `batch` prints last: how many discs the list has, and how many of them weren't done
abbrev pub batch_line : ℕ → ℕ → List ℕ
batch_line discs failed = line (codes "batch discs " ++ decimal discs ++ codes " failed " ++ decimal failed)

-- the number with which the program ends
abbrev pub exit_number : Status → ℕ
exit_number Done = 0
exit_number (Usage word) = 10
exit_number (Missing name) = 11
exit_number (CueRefused number kind) = 12
exit_number (WavRefused name kind at) = 13
exit_number (LayoutRefused kind) = 14
exit_number (NoRecord name) = 15
exit_number (RecordRefused kind) = 16
exit_number (OutExists name) = 17
exit_number (OtherLayout differs) = 18
exit_number (Sealed name) = 19
exit_number NoCandidate = 20
exit_number (Several first second) = 21
exit_number (NotNear column) = 22
exit_number (Mendable offset errors columns) = 23
exit_number SealDiffers = 24
exit_number (NoResponse name) = 25
exit_number (ResponseRefused kind) = 26
exit_number (BadRecords bad) = 27
exit_number (ListRefused kind) = 28
exit_number (BatchFailed failed) = 29
exit_number (ReadFault call) = 30
exit_number (WriteFault call) = 31
exit_number SinkFault = 32
exit_number WantOfMemory = 40
