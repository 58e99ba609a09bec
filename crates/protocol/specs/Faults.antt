-- The reasons of a protocol error, and what is shown of faults.
use Rattle.std.specs.Prelude.{ℕ, cond, List, [], ◌++◌, codes, decimal, ◌==◌}
use Rattle.protocol.specs.declared.error.TransportFault.{TransportFault}
use Rattle.protocol.specs.declared.error.ProtocolReason.{ProtocolReason}
use Rattle.protocol.specs.declared.error.ProtocolReason.TheVariants.{ErrorEvent, Malformed, UnknownObject, WrongInterface, UnusableNumber, NoSlot}
use Rattle.protocol.specs.declared.error.ErrorInterface.{ErrorInterface}
use Rattle.protocol.specs.declared.error.ErrorInterface.TheVariants.{Empty, Known, Unknown}
use Rattle.protocol.specs.declared.error.ProtocolError.{ProtocolError}
use Rattle.protocol.specs.declared.error.WaylandError.{WaylandError}
use Rattle.protocol.specs.declared.error.WaylandError.TheVariants.{Io, Protocol}

-- the number of each reason
abbrev pub reason_number : ProtocolReason → ℕ
reason_number (ErrorEvent n) = 1
reason_number Malformed = 2
reason_number (UnknownObject n) = 3
reason_number (WrongInterface n e f) = 4
reason_number (UnusableNumber i n) = 5
reason_number (NoSlot i n) = 6

-- what is shown of a fault with a code at a layer: 11, 32 and 7 have words of their own
abbrev pub code_text : ℕ → ℕ → List ℕ
code_text c l =
    cond (c == 11) (codes "would block")
    (cond (c == 32) (codes "broken pipe")
    (cond (c == 7) (codes "too big at layer " ++ decimal l)
    (codes "system error " ++ decimal c)))

-- what is shown of a transport fault
abbrev pub fault_text : TransportFault → List ℕ
fault_text x = code_text x.code x.layer

-- what is shown of a reason
abbrev pub reason_text : ProtocolReason → List ℕ
reason_text (ErrorEvent n) = codes "error event"
reason_text Malformed = codes "malformed frame"
reason_text (UnknownObject n) = codes "unknown object " ++ decimal n
reason_text (WrongInterface n e f) = codes "object " ++ (decimal n ++ codes " of another interface")
reason_text (UnusableNumber i n) = codes "unusable new number " ++ decimal n
reason_text (NoSlot i n) = codes "no slot for the new number " ++ decimal n

-- what is shown of the interface that an error is about
abbrev pub interface_text : ErrorInterface → List ℕ
interface_text Empty = []
interface_text (Known i) = codes "interface " ++ decimal i
interface_text Unknown = codes "<unknown>"

-- what is shown of a protocol error
abbrev pub protocol_text : ProtocolError → List ℕ
protocol_text x =
    codes "Protocol error " ++ (decimal x.code ++ (codes " on object " ++ (interface_text x.object_interface ++ (codes "@" ++ (decimal x.object_id ++ (codes ": " ++ reason_text x.reason))))))

-- what is shown of a fault of a connection
abbrev pub error_text : WaylandError → List ℕ
error_text (Io x) = codes "Io error: " ++ fault_text x
error_text (Protocol x) = protocol_text x
