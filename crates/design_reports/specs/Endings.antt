-- How an answer ends: the status, and the line on the error output.
use Rattle.std.specs.Prelude.{ℕ, List, [], ◌∷◌, codes}
use Rattle.design_lines.specs.declared.command.Reason.{Reason}
use Rattle.design_lines.specs.declared.command.Reason.TheVariants.{Missing, Unknown, Spelling, Surplus, OutOfBounds}
use Rattle.design_lines.specs.Printed.{counted_line, line_of}
use Rattle.design_io.specs.declared.reading.ReadEnd.{ReadEnd}
use Rattle.design_io.specs.declared.reading.ReadEnd.TheVariants.{Failed, TooLong, Memory}
use Rattle.design_reports.specs.declared.ending.Ending.{Ending}
use Rattle.design_reports.specs.declared.ending.Ending.TheVariants.{Yes, No, Unknown as UnknownEnding, Refused, NotBuilt, BadInput, ReadFault, CatalogueFault, NoMemory, WriteFault}
use Rattle.design_reports.specs.declared.status.Status.{Status}
use Rattle.design_reports.specs.declared.status.Status.TheVariants.{Yes as YesStatus, No as NoStatus, Unknown as UnknownStatus, Usage as UsageStatus, BadInput as BadInputStatus, ReadFault as ReadFaultStatus, CatalogueFault as CatalogueFaultStatus, NoMemory as NoMemoryStatus, WriteFault as WriteFaultStatus}

-- the number that the program ends with
abbrev pub number_of : Status → ℕ
number_of YesStatus = 0
number_of NoStatus = 1
number_of UnknownStatus = 2
number_of UsageStatus = 64
number_of BadInputStatus = 65
number_of ReadFaultStatus = 66
number_of CatalogueFaultStatus = 69
number_of NoMemoryStatus = 71
number_of WriteFaultStatus = 74

abbrev pub status_of : Ending → Status
status_of Yes = YesStatus
status_of No = NoStatus
status_of UnknownEnding = UnknownStatus
status_of (Refused reason) = UsageStatus
status_of NotBuilt = UsageStatus
status_of (BadInput line) = BadInputStatus
status_of ReadFault = ReadFaultStatus
status_of (CatalogueFault number) = CatalogueFaultStatus
status_of NoMemory = NoMemoryStatus
status_of WriteFault = WriteFaultStatus

-- what is said of words that are refused
abbrev pub refusal_line : Reason → List ℕ
refusal_line (Missing at) = counted_line (codes "usage: missing word at") at
refusal_line (Unknown at) = counted_line (codes "usage: unknown word at") at
refusal_line (Spelling at) = counted_line (codes "usage: number spelling at") at
refusal_line (Surplus at) = counted_line (codes "usage: surplus word at") at
refusal_line OutOfBounds = line_of (codes "usage: out of bounds" ∷ [])

-- the line on the error output, or nothing
unfoldable pub message_of : Ending → List ℕ
message_of Yes = []
message_of No = []
message_of UnknownEnding = []
message_of (Refused reason) = refusal_line reason
message_of NotBuilt = line_of (codes "usage: not built" ∷ [])
message_of (BadInput line) = counted_line (codes "bad input at line") line
message_of ReadFault = line_of (codes "read fault" ∷ [])
message_of (CatalogueFault number) = counted_line (codes "catalogue fault at") number
message_of NoMemory = line_of (codes "no memory" ∷ [])
message_of WriteFault = line_of (codes "write fault" ∷ [])

-- how an answer ends where the input was not read
abbrev pub ending_at : ReadEnd → Ending
ending_at Failed = ReadFault
ending_at (TooLong line) = BadInput line
ending_at Memory = NoMemory
