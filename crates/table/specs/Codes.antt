-- The byte of each error code.
use Rattle.std.specs.Prelude.{ℕ}
use Rattle.table.specs.declared.codes.ErrorCode.{ErrorCode}
use Rattle.table.specs.declared.codes.ErrorCode.TheVariants.{InvalidCommand, InvalidLength, InvalidNumber, TimeOut, Busy, InvalidChannel, Other}

abbrev pub code_number : ErrorCode → ℕ
code_number InvalidCommand = 0x01
code_number InvalidLength = 0x03
code_number InvalidNumber = 0x04
code_number TimeOut = 0x05
code_number Busy = 0x06
code_number InvalidChannel = 0x0B
code_number Other = 0x7F
