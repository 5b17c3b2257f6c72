-- The steps of a command: each refuses with a status, or finds what the next one goes on with.
use Rattle.std.specs.Prelude.{◌≡◌, ℕ, ◌+◌, ◌<◌, ◌≤◌, Bool, List, [], ◌∷◌, ◌++◌, length, vec_len, Result, Ok, Err, Option, None, Some, is_some, nat_lt, if◌then◌else◌}
use Rattle.std.specs.List.{find, list_any}
use Rattle.std.specs.Str.{bytes_eq}
use Rattle.std.specs.FinMap.{get}
use Rattle.rip_outside.specs.Files.{Files}
use Rattle.rip_outside.specs.Causes.{Rose, IsReadCall, IsWriteCall}
use Rattle.rip_outside.specs.declared.fault.ShelfCall.{ShelfCall}
use Rattle.disc_toc.specs.Toc.{Toc}
use Rattle.disc_toc.specs.declared.reading.LayoutKind.TheVariants.{TooShort}
use Rattle.disc_toc.specs.Difference.{difference_of}
use Rattle.disc_toc.specs.declared.difference.Differs.{Differs}
use Rattle.parity_store.specs.Naming.{record_name_of}
use Rattle.parity_store.specs.Reading.{Stored, record_reading}
use Rattle.parity_store.specs.declared.reading.RecordKind.{RecordKind}
use Rattle.parity_store.specs.declared.storing.PutFail.{PutFail}
use Rattle.parity_store.specs.declared.storing.PutFail.TheVariants.{WriteFault, Oom}
use Rattle.image_mender.specs.declared.mending.MendFail.{MendFail}
use Rattle.image_mender.specs.declared.mending.MendFail.TheVariants.{ReadFault as MendReadFault, WriteFault as MendWriteFault, Oom as MendOom}
use Rattle.rip_inputs.specs.Opening.{Opened, rip_reading}
use Rattle.rip_inputs.specs.declared.rip.RipFail.{RipFail}
use Rattle.rip_inputs.specs.declared.rip.RipFail.TheVariants.{Missing as NoFile, CueRefused as BadSheet, WavRefused as BadWav, LayoutRefused as BadLayout, ReadFault as RipFault, Oom as RipOom}
use Rattle.rip_outside.specs.Outputs.{part_of}
use Rattle.rip_report.specs.declared.status.Status.{Status}
use Rattle.rip_report.specs.declared.status.Status.TheVariants.{Done, Missing, CueRefused, WavRefused, LayoutRefused, NoRecord, RecordRefused, OutExists, OtherLayout, ReadFault, WriteFault as PutFault, SinkFault, WantOfMemory}
use Rattle.engine_steps.specs.declared.files.Found.{Found}
use Rattle.engine_steps.specs.declared.files.Found.TheVariants.{Absent, TooLong, Bytes}
use Rattle.engine_steps.specs.declared.steps.Answer.{Answer}
use Rattle.engine_steps.specs.declared.steps.Stop.{Stop}
use Rattle.engine_steps.specs.declared.steps.Stop.TheVariants.{Refused, ReadFault as ReadStop, WriteFault as WriteStop, Oom as WantStop}

-- ---- the steps

-- a step after a step
abbrev pub and_then : {A B : Type 0} → Result A Status → (A → Result B Status) → Result B Status
and_then (Err status) next = Err status
and_then (Ok found) next = next found

-- the status by which a rip is refused
abbrev pub rip_status : RipFail → Status
rip_status (NoFile name) = Missing name
rip_status (BadSheet line kind) = CueRefused line kind
rip_status (BadWav name kind at) = WavRefused name kind at
rip_status (BadLayout kind) = LayoutRefused kind
rip_status (RipFault call) = ReadFault call
rip_status RipOom = WantOfMemory

abbrev pub rip_read : Result Opened RipFail → Result Opened Status
rip_read (Ok rip) = Ok rip
rip_read (Err fail) = Err (rip_status fail)

-- the rip that INPUT names: its layout, its words, and the names that are read
abbrev pub opened : List ℕ → Files → Result Opened Status
opened input files = rip_read (rip_reading input files)

-- parity needs 30 sectors
abbrev pub long_enough : Opened → Result Opened Status
long_enough rip = if nat_lt rip.toc.sectors 30 then Err (LayoutRefused (TooShort rip.toc.sectors)) else Ok rip

-- the rip, where it is long enough for parity
abbrev pub measured : List ℕ → Files → Result Opened Status
measured input files = and_then (opened input files) long_enough

-- what a record's bytes say
abbrev pub record_read : Result Stored RecordKind → Result Stored Status
record_read (Ok stored) = Ok stored
record_read (Err kind) = Err (RecordRefused kind)

abbrev pub record_found : List ℕ → Option (List ℕ) → Result Stored Status
record_found name None = Err (NoRecord name)
record_found name (Some bytes) = record_read (record_reading bytes)

-- the record under a name
abbrev pub recorded : List ℕ → Files → Result Stored Status
recorded name files = record_found name (get files name)

abbrev pub none_differs : Option Differs → Result (Unit {0}) Status
none_differs None = Ok tt
none_differs (Some differs) = Err (OtherLayout differs)

-- the rip's layout is the record's
abbrev pub same_layout : Toc → Toc → Result (Unit {0}) Status
same_layout rip kept = none_differs (difference_of rip kept)

-- what is known of a rip and a record of its disc: the sectors, the rip's words, the stored parity of `count` words for each column, and
-- the seal of the disc, if the record has one
pub record Known : Type 0 where
  pub sectors : ℕ
  pub words : List ℕ
  pub count : ℕ
  pub stored : List (List ℕ)
  pub seal : Option (List ℕ)

-- by its parts
abbrev pub known_from : ℕ → List ℕ → ℕ → List (List ℕ) → Option (List ℕ) → Known
known_from sectors words count stored seal = record { sectors = sectors; words = words; count = count; stored = stored; seal = seal }

-- of a rip that was opened and a record that was read
abbrev pub known_by : Opened → Stored → Known
known_by rip stored = known_from rip.toc.sectors rip.words stored.count stored.rows stored.seal

-- what is known of the rip and the record, which are of one layout, and the names that are read
abbrev pub compared : List ℕ → List ℕ → Files → Result (Known × List (List ℕ)) Status
compared input rec files =
    and_then (measured input files) (λ rip.
    and_then (recorded (record_name_of rec rip.toc) files) (λ stored.
    and_then (same_layout rip.toc stored.toc) (λ _. Ok (known_by rip stored, rip.names ++ record_name_of rec rip.toc ∷ []))))

-- a name that isn't held, and whose part is read or isn't
abbrev pub freed : Bool → List ℕ → Files → Result (Unit {0}) Status
freed is_read out files = if is_some (get files out) then Err (OutExists out) else (if is_read then Err (OutExists (part_of out)) else Ok tt)

-- the first of these names whose part is one of the names that the run reads
abbrev pub part_read : List (List ℕ) → List (List ℕ) → Option (List ℕ)
part_read outs read = find (λ out. list_any (bytes_eq (part_of out)) read) outs

-- a name that is taken is named, or else a part that is read
abbrev pub first_taken : Option (List ℕ) → Option (List ℕ) → Result (Unit {0}) Status
first_taken (Some out) part = Err (OutExists out)
first_taken None (Some out) = Err (OutExists (part_of out))
first_taken None None = Ok tt

-- The outputs' names are free: none is held, and no part of them is one of the names that the run reads.
abbrev pub free : List (List ℕ) → List (List ℕ) → Files → Result (Unit {0}) Status
free outs read files = first_taken (find (λ out. is_some (get files out)) outs) (part_read outs read)

-- what stands under a name of which at most so many bytes are read
abbrev pub IsFound : ℕ → Option (List ℕ) → Found → Type 0
IsFound most held Absent = held ≡ None
IsFound most held TooLong = (bytes : List ℕ) × (held ≡ Some bytes) × (most < length bytes)
IsFound most held (Bytes bytes) = held ≡ Some bytes.items

-- what was read has at most so many bytes
abbrev pub HasAtMost : ℕ → Found → Type 0
HasAtMost most Absent = Unit {0}
HasAtMost most TooLong = Unit {0}
HasAtMost most (Bytes bytes) = vec_len bytes ≤ most

-- ---- what a call that does a step answers

-- It answers what the step finds or refuses. A fault and want of memory say nothing of the step.
abbrev pub Does : {T A : Type 0} → (T → A) → Result T Stop → Result A Status → Type 0
Does view (Ok found) step = step ≡ Ok (view found)
Does view (Err (Refused status)) step = step ≡ Err status
Does view (Err (ReadStop call)) step = Unit {0}
Does view (Err (WriteStop call)) step = Unit {0}
Does view (Err WantStop) step = Unit {0}

-- the same of a step that is stated as a relation to what it finds or refuses
abbrev pub Meets : {T A : Type 0} → (T → A) → Result T Stop → (Result A Status → Type 0) → Type 0
Meets view (Ok found) step = step (Ok (view found))
Meets view (Err (Refused status)) step = step (Err status)
Meets view (Err (ReadStop call)) step = Unit {0}
Meets view (Err (WriteStop call)) step = Unit {0}
Meets view (Err WantStop) step = Unit {0}

-- the status is neither a fault nor want of memory
abbrev pub IsAnswered : Status → Type 0
IsAnswered (ReadFault call) = ⊥
IsAnswered (PutFault call) = ⊥
IsAnswered SinkFault = ⊥
IsAnswered WantOfMemory = ⊥
IsAnswered _ = Unit {0}

-- a status by which a step refuses
abbrev pub IsStepRefusal : Status → Type 0
IsStepRefusal Done = ⊥
IsStepRefusal (ReadFault call) = ⊥
IsStepRefusal (PutFault call) = ⊥
IsStepRefusal SinkFault = ⊥
IsStepRefusal WantOfMemory = ⊥
IsStepRefusal _ = Unit {0}

-- a fault is passed on only where its own count rose
abbrev pub StopsWithCause : {T : Type 0} → (ShelfCall → ℕ) → (ShelfCall → ℕ) → Result T Stop → Type 0
StopsWithCause before now (Ok found) = Unit {0}
StopsWithCause before now (Err (Refused status)) = IsStepRefusal status
StopsWithCause before now (Err (ReadStop call)) = IsReadCall call × Rose (before call) (now call)
StopsWithCause before now (Err (WriteStop call)) = IsWriteCall call × Rose (before call) (now call)
StopsWithCause before now (Err WantStop) = Unit {0}

-- a command ends with a status that is its own, or stops; a fault is passed on only where its own count rose
abbrev pub EndsWithCause : (ShelfCall → ℕ) → (ShelfCall → ℕ) → Result Answer Stop → Type 0
EndsWithCause before now (Ok answer) = IsAnswered answer.status
EndsWithCause before now (Err (Refused status)) = IsStepRefusal status
EndsWithCause before now (Err (ReadStop call)) = IsReadCall call × Rose (before call) (now call)
EndsWithCause before now (Err (WriteStop call)) = IsWriteCall call × Rose (before call) (now call)
EndsWithCause before now (Err WantStop) = Unit {0}

-- a call that only reads: it stops for no fault of writing
abbrev pub ReadsWithCause : {T : Type 0} → (ShelfCall → ℕ) → (ShelfCall → ℕ) → Result T Stop → Type 0
ReadsWithCause before now (Ok found) = Unit {0}
ReadsWithCause before now (Err (Refused status)) = IsStepRefusal status
ReadsWithCause before now (Err (ReadStop call)) = IsReadCall call × Rose (before call) (now call)
ReadsWithCause before now (Err (WriteStop call)) = ⊥
ReadsWithCause before now (Err WantStop) = Unit {0}

-- a call past the last refusal: it stops for a fault of reading or want of memory alone
abbrev pub ReadsOnly : {T : Type 0} → (ShelfCall → ℕ) → (ShelfCall → ℕ) → Result T Stop → Type 0
ReadsOnly before now (Ok found) = Unit {0}
ReadsOnly before now (Err (Refused status)) = ⊥
ReadsOnly before now (Err (ReadStop call)) = IsReadCall call × Rose (before call) (now call)
ReadsOnly before now (Err (WriteStop call)) = ⊥
ReadsOnly before now (Err WantStop) = Unit {0}

-- a call that makes no call of the shelf: it stops for a refusal or want of memory alone
abbrev pub OnlyRefuses : {T : Type 0} → Result T Stop → Type 0
OnlyRefuses (Ok found) = Unit {0}
OnlyRefuses (Err (Refused status)) = IsStepRefusal status
OnlyRefuses (Err (ReadStop call)) = ⊥
OnlyRefuses (Err (WriteStop call)) = ⊥
OnlyRefuses (Err WantStop) = Unit {0}

-- it answers or refuses: it ends neither in a fault nor for want of memory
abbrev pub ComesToEnd : {T : Type 0} → Result T Stop → Type 0
ComesToEnd (Ok found) = Unit {0}
ComesToEnd (Err (Refused status)) = Unit {0}
ComesToEnd (Err (ReadStop call)) = ⊥
ComesToEnd (Err (WriteStop call)) = ⊥
ComesToEnd (Err WantStop) = ⊥

-- how a rip's failure is passed on
abbrev pub rip_stop : RipFail → Stop
rip_stop (RipFault call) = ReadStop call
rip_stop RipOom = WantStop
rip_stop fail = Refused (rip_status fail)

-- how a put's failure is passed on
abbrev pub stop_of : PutFail → Stop
stop_of (WriteFault call) = WriteStop call
stop_of Oom = WantStop

-- how a mending's failure is passed on
abbrev pub mend_stop : MendFail → Stop
mend_stop (MendReadFault call) = ReadStop call
mend_stop (MendWriteFault call) = WriteStop call
mend_stop MendOom = WantStop

-- ---- the bytes that are taken

-- unless a call that reads failed, at most so many bytes are taken
abbrev pub Takes : {T : Type 0} → ℕ → Result T Stop → ℕ → ℕ → Type 0
Takes most (Err (ReadStop call)) before now = Unit {0}
Takes most result before now = now ≤ before + most
