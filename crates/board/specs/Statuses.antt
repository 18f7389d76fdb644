-- The numbers handed back: document 01, "Numbers handed back"; -3 is request E1's.
use Rattle.std.specs.Prelude.{ℤ, pos, neg_ℤ, Result, Ok, Err}
use Rattle.board.specs.declared.status.CallRefusal.{CallRefusal}
use Rattle.board.specs.declared.status.CallRefusal.TheVariants.{
  FuncNotSupported,
  BadVendorId,
  DeviceNotFound,
  BadRegisterNumber,
  SetFailed,
  BufferTooSmall,
  GeneralError,
  BadHandle,
}

abbrev pub refusal_number : CallRefusal → ℤ
refusal_number FuncNotSupported = neg_ℤ (pos 2)
refusal_number BadVendorId = neg_ℤ (pos 3)
refusal_number DeviceNotFound = neg_ℤ (pos 4)
refusal_number BadRegisterNumber = neg_ℤ (pos 5)
refusal_number SetFailed = neg_ℤ (pos 6)
refusal_number BufferTooSmall = neg_ℤ (pos 7)
refusal_number GeneralError = neg_ℤ (pos 8)
refusal_number BadHandle = neg_ℤ (pos 9)

-- 0 where a call is accepted, whatever else it hands back
abbrev pub number_of : {A : Type 0} → Result A CallRefusal → ℤ
number_of (Ok v) = pos 0
number_of (Err r) = refusal_number r

-- a call that hands back nothing else
abbrev pub Status : Type 0
Status = Result Unit CallRefusal

abbrev pub successful : Status
successful = Ok tt

abbrev pub func_not_supported : Status
func_not_supported = Err FuncNotSupported

abbrev pub bad_vendor_id : Status
bad_vendor_id = Err BadVendorId

abbrev pub device_not_found : Status
device_not_found = Err DeviceNotFound

abbrev pub bad_register_number : Status
bad_register_number = Err BadRegisterNumber

abbrev pub set_failed : Status
set_failed = Err SetFailed

abbrev pub buffer_too_small : Status
buffer_too_small = Err BufferTooSmall

abbrev pub general_error : Status
general_error = Err GeneralError

abbrev pub bad_handle : Status
bad_handle = Err BadHandle
