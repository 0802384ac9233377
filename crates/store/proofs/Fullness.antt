-- A log without room.
use Rattle.std.proofs.Common.{◌≡◌}
use Rattle.store.specs.declared.device.DeviceError.{DeviceError}
use Rattle.store.specs.declared.device.DeviceError.TheVariants.{Full, Failed, NoMemory}
use Rattle.store.specs.Refusals.{device_refusal, log_full}

-- a failure of the journal is told otherwise
pub room_left : (failure : DeviceError) → device_refusal failure ≡ log_full → ⊥
room_left Full e = absurd (cc e)
room_left Failed e = absurd (cc e)
room_left NoMemory e = absurd (cc e)
