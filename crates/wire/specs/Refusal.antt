-- The number of each refusal, from 1 on: the lowest that applies is told, but 7 goes before all others.
use Rattle.std.specs.Prelude.{ℕ}
use Rattle.wire.specs.declared.refusal.Refusal.{Refusal}
use Rattle.wire.specs.declared.refusal.Refusal.TheVariants.{PacketLength, ReplyRoom, MessageRoom, WrongPhase, WrongTicket, WrongLength, Invalid, TooLong}

abbrev pub refusal_number : Refusal → ℕ
refusal_number PacketLength = 1
refusal_number ReplyRoom = 2
refusal_number MessageRoom = 3
refusal_number WrongPhase = 4
refusal_number WrongTicket = 5
refusal_number WrongLength = 6
refusal_number Invalid = 7
refusal_number TooLong = 8
