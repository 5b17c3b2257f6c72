-- What a look at an entry answers.
use Rattle.std.specs.Prelude.{◌≡◌, ℕ, ◌+◌, ◌≤◌, Bool, true, false, List, length, take, min, IsSomeAnd, Option, None, Some, Result, Ok, Err}
use Rattle.std.specs.Str.{IsUtf8}
use Rattle.rip_outside.specs.declared.fault.ShelfCall.{ShelfCall}
use Rattle.rip_outside.specs.Causes.{Rose, IsReadCall}
use Rattle.parity_store.specs.Reading.{most_bytes, stored_of}
use Rattle.store_upkeep.specs.Entries.{EntryState, Good as GoodState, Bad as BadState, Misnamed as MisnamedState}
use Rattle.store_upkeep.specs.declared.looking.Seen.{Seen}
use Rattle.store_upkeep.specs.declared.looking.Seen.TheVariants.{Good, Bad, Misnamed}
use Rattle.store_upkeep.specs.declared.looking.LookFail.{LookFail}
use Rattle.store_upkeep.specs.declared.looking.LookFail.TheVariants.{ReadFault}

-- what was seen
abbrev pub state_seen : Seen → EntryState
state_seen (Good rec) = GoodState (stored_of rec)
state_seen (Bad kind) = BadState kind
state_seen (Misnamed key) = MisnamedState key.0

-- It is seen as what it is. A fault and want of memory say nothing of it.
abbrev pub Sees : Result Seen LookFail → EntryState → Type 0
Sees (Ok seen) state = state ≡ state_seen seen
Sees (Err fail) state = Unit {0}

-- a key that was seen is a text
abbrev pub HasTextKey : Seen → Type 0
HasTextKey (Good rec) = Unit {0}
HasTextKey (Bad kind) = Unit {0}
HasTextKey (Misnamed key) = IsUtf8 key.0

-- whether an entry is a record under the name of its key
abbrev pub is_good : EntryState → Bool
is_good (GoodState stored) = true
is_good (BadState kind) = false
is_good (MisnamedState key) = false

-- No file has the name; or the file has so many bytes, and the first of them stand at the front of the buffer.
abbrev pub IsReadInto : List ℕ → Option (List ℕ) → Option ℕ → Type 0
IsReadInto buffer file None = file ≡ None
IsReadInto buffer file (Some size) = IsSomeAnd file (λ bytes. (length bytes ≡ size) × (take (min size most_bytes) buffer ≡ take most_bytes bytes))

-- The entry is good, and its bytes are the first ones of the buffer; or it is bad.
abbrev pub IsCopied : EntryState → List ℕ → List ℕ → Option ℕ → Type 0
IsCopied state bytes buffer (Some size) = (is_good state ≡ true) × (take size buffer ≡ bytes)
IsCopied state bytes buffer None = is_good state ≡ false

-- a fault is of a reading call whose count rose
abbrev pub LookFaultHasCause : {T : Type 0} → (ShelfCall → ℕ) → (ShelfCall → ℕ) → Result T LookFail → Type 0
LookFaultHasCause before now (Err (ReadFault call)) = IsReadCall call × Rose (before call) (now call)
LookFaultHasCause before now result = Unit {0}

-- but for a fault, at most so many bytes are handed out
abbrev pub LookTakes : {T : Type 0} → ℕ → Result T LookFail → ℕ → ℕ → Type 0
LookTakes most (Err (ReadFault call)) before now = Unit {0}
LookTakes most result before now = now ≤ before + most
