-- Refusals of a store, as they are shown.
use Rattle.std.specs.Prelude.{◌≡◌, ℕ, Some, None, List, ◌++◌, codes, decimal}
use Rattle.fault.specs.declared.refusal.Refusal.{Refusal}
use Rattle.fault.specs.Refusal.{shown}
use Rattle.fault.specs.declared.refusal.Refusal.TheVariants.{StoreFault, NoMemory, LogFull}
use Rattle.keep.specs.Errors.{refusal_of}
use Rattle.keep.specs.declared.error.StoreError.{StoreError}
use Rattle.store.specs.declared.device.DeviceError.{DeviceError}
use Rattle.store.specs.declared.device.DeviceError.TheVariants.{Full, Failed}
use Rattle.store.specs.declared.device.DeviceError.TheVariants as devices
use Rattle.store.specs.declared.refusal.StoreRefusal.{StoreRefusal}
use Rattle.store.specs.declared.refusal.StoreRefusal.TheVariants.{DiskFull, TooFew, NoStore, Version, InUse, Altered, BadJournal, NotEmpty, Unsynced, OtherScript, Refused}

-- the number, a space and the text
abbrev pub refusal_text : StoreRefusal → List ℕ
refusal_text DiskFull = codes "38 disk full"
refusal_text TooFew = codes "39 too few databases"
refusal_text NoStore = codes "46 no store"
refusal_text (Version version) = codes "47 store of version " ++ decimal version
refusal_text InUse = codes "48 store in use"
refusal_text (Altered member None) = codes "49 altered database of node " ++ decimal member
refusal_text (Altered member (Some entry)) = codes "49 altered database of node " ++ decimal member ++ codes " at entry " ++ decimal entry
refusal_text (BadJournal journal at) = codes "55 bad journal " ++ decimal journal ++ codes " at byte " ++ decimal at
refusal_text NotEmpty = codes "56 folder in use"
refusal_text Unsynced = codes "57 unsynced databases"
refusal_text OtherScript = codes "61 script of another store"
refusal_text (Refused refusal) = shown refusal

-- how a failure of the journal's device is told
abbrev pub device_refusal : DeviceError → StoreRefusal
device_refusal Full = DiskFull
device_refusal Failed = Refused StoreFault
device_refusal devices.NoMemory = Refused NoMemory

-- how an error of a database is told
abbrev pub error_refusal : StoreError → StoreRefusal
error_refusal error = Refused (refusal_of error)

-- how want of memory is told
abbrev pub no_memory : StoreRefusal
no_memory = Refused NoMemory

-- how a log without room is told
abbrev pub log_full : StoreRefusal
log_full = Refused LogFull

-- the journal can't be written, or memory is refused
abbrev pub IsOfJournal : StoreRefusal → Type 0
IsOfJournal r = (failure : DeviceError) × (r ≡ device_refusal failure)

-- any other refusal
abbrev pub other_refusal : Refusal → StoreRefusal
other_refusal refusal = Refused refusal
