-- What a call in the code comes to, in the words of the definitions.
use Rattle.std.specs.Prelude.{◌≡◌, ℕ, ◌≤◌, true, false, List, length, take, Some, None, Ok, Err, sum_by, Option, Result}
use Rattle.protocol.specs.declared.refusal.Refusal.{Refusal}
use Rattle.protocol.specs.declared.refusal.Refusal.TheVariants.{BadRoom}
use Rattle.protocol.specs.Descriptions.{Message, message_of}
use Rattle.protocol.specs.declared.interface.MessageDesc.{MessageDesc}
use Rattle.object_map.specs.Map.{Map, fits, lookup, lawful}
use Rattle.transport.specs.Drafts.{draft_of, with_child, spoken, Whole}
use Rattle.std.specs.List.{slice_get}
use Rattle.transport.specs.Ends.{End, Grounded, Waiting, take_of, leaving, putting}
use Rattle.transport.specs.Wire as wire
use Rattle.transport.specs.Layout.{args_of, laid, written}
use Rattle.transport.specs.Wire.{Arg, message, clipped, texts}
use Rattle.transport.specs.declared.outgoing.Outgoing.{Outgoing}
use Rattle.client.specs.Calls.{interface_found, with_put}
use Rattle.client.specs.Events.{Walked, Passing, Passed}
use Rattle.client.specs.Requests.{Table, Request, Sending, Child, placing}
use Rattle.client.specs.Runs.{creation, created, Run}
use Rattle.client.specs.declared.requests.Sending.{Sending as CodeSending}
use Rattle.client.specs.declared.object.Object.{Object}
use Rattle.client.specs.declared.requests.Request.{Request as CodeRequest}
use Rattle.client.specs.State.{Conn, conn_of, with_serial, Moment, moment_of, Rooms, Reply, done, waits, round, faulted, quiet, handed_out, over, settled, sent, Left}
use Rattle.client.specs.declared.connection.Connection.{Connection}
use Rattle.client.specs.declared.error.CallError.{CallError}
use Rattle.client.specs.declared.error.CallError.TheVariants.{Refused, Fault as CallFault}
use Rattle.protocol.specs.declared.argument.Argument.{Argument}
use Rattle.protocol.specs.declared.argument.Argument.TheVariants.{Int as IntArg, Uint as UintArg, Fixed as FixedArg, Str as StrArg, Object as ObjectArg, NewId as NewIdArg, Array as ArrayArg, Fd as FdArg}
use Rattle.protocol.specs.declared.argument.ArgumentType.{ArgumentType}
use Rattle.protocol.specs.declared.error.ProtocolReason.TheVariants.{ErrorEvent}
use Rattle.protocol.specs.declared.error.WaylandError.{WaylandError}
use Rattle.protocol.specs.declared.error.WaylandError.TheVariants.{Protocol}
use Rattle.protocol.specs.declared.error.ProtocolReason.{ProtocolReason}
use Rattle.protocol.specs.declared.id.ObjectId.{ObjectId}
use Rattle.client.specs.declared.next.NextAnswer.{NextAnswer}
use Rattle.client.specs.declared.next.NextAnswer.TheVariants.{Quiet, Handed as HandedOut, Over as RoundOver}
use Rattle.client.specs.declared.passing.Passing.{Passing as CodePassing}
use Rattle.client.specs.declared.reads.ReadAnswer.{ReadAnswer}
use Rattle.client.specs.declared.reads.ReadAnswer.TheVariants.{Waits, Round as OpenRound, Fault}
use Rattle.client.specs.declared.reads.ResumeAnswer.{ResumeAnswer}
use Rattle.client.specs.declared.reads.ResumeAnswer.TheVariants.{Waits as StillWaits, Over, Fault as ResumeFault}
use Rattle.client.specs.declared.sending.Sent.{Sent}
use Rattle.client.specs.declared.settling.Settled.{Settled}

-- an answer of the code's as a reply
abbrev pub replied : {A : Type 0} → (A → Reply) → Result A Refusal → Result Reply Refusal
replied f (Ok x) = Ok (f x)
replied f (Err e) = Err e

-- the same where a refusal gives a token back
abbrev pub replied_with : {A B : Type 0} → (A → Reply) → Result A (Refusal × B) → Result Reply Refusal
replied_with f (Ok x) = Ok (f x)
replied_with f (Err p) = Err p.0

-- and that token is this one
abbrev pub GivesBack : {A B : Type 0} → B → Result A (Refusal × B) → Type 0
GivesBack x (Ok _) = Unit {0}
GivesBack x (Err p) = p.1 ≡ x

-- this is what is left
abbrev pub Leaves : Left → Result Reply Refusal → Moment → Rooms → Type 0
Leaves x a m r = x ≡ record { answer = a; moment = m; rooms = r }

-- the answers of read and resume
abbrev pub read_reply : ReadAnswer → Reply
read_reply (Waits w) = waits w
read_reply (OpenRound r) = round r
read_reply (Fault f) = faulted f

abbrev pub resume_reply : ResumeAnswer → Reply
resume_reply (StillWaits w) = waits w
resume_reply Over = done
resume_reply (ResumeFault f) = faulted f

-- the answers of settle and flush
abbrev pub settled_reply : Settled → Reply
settled_reply s = settled s.round s.notice

abbrev pub flush_reply : Result (Unit {0}) CallError → Result Reply Refusal
flush_reply (Ok _) = Ok done
flush_reply (Err (Refused e)) = Err e
flush_reply (Err (CallFault f)) = Ok (faulted f)

-- what a request in the code says
abbrev pub request_of : CodeRequest → Request
request_of r = record { sender = r.sender; opcode = r.opcode; args = r.args.now; text = r.text.now; content = r.«data»; child = r.child }

-- a message in the code is this request, whole, with whatever child
abbrev pub Carries : CodeRequest → Outgoing → Type 0
Carries r o = (draft_of o ≡ record { written = message r.sender.number r.opcode (args_of r.args.now r.text.now); child = 0 }) × Whole (draft_of o)

-- a sender, its description and the message in the code, or a refusal, as the definitions have them
abbrev pub DescribedAs : CodeRequest → Result (Object × MessageDesc × Outgoing) Refusal → Result (Object × Message) Refusal → Type 0
DescribedAs r (Ok (o, d, m)) x = (x ≡ Ok (o, message_of d)) × Carries r m
DescribedAs r (Err e) x = x ≡ Err e

-- an accepted request in the code, or a refusal
abbrev pub SentAs : CodeRequest → Result CodeSending Refusal → Result Sending Refusal → Type 0
SentAs r (Ok x) y = (y ≡ Ok (record { by = x.by; desc = message_of x.desc; child = x.child })) × Carries r x.message
SentAs r (Err e) y = y ≡ Err e

abbrev pub sent_reply : Sent → Reply
sent_reply s = sent s.child s.notice

-- a message in the code with a child in its placeholder's place
abbrev pub outgoing_with : ℕ → Outgoing → wire.Message
outgoing_with n o = clipped (spoken (with_child n (draft_of o)))

-- it is put, and a fault is stored
abbrev pub Puts : wire.Message → Connection → End → Connection → End → Type 0
Puts m c e c' e' = (conn_of c' ≡ with_put (putting m e).0 (conn_of c)) × (c'.map ≡ c.map) × (e' ≡ (putting m e).1)

-- a child is placed, if there is one, and rooms that fit go on to fit
abbrev pub Places : Option Child → Map Object → Map Object → Type 0
Places c m m' = (m' ≡ placing c m) × (fits m' ≡ true)

-- how far the passing of an event's arguments has come, in the code
abbrev pub passing_of : CodePassing → Connection → Map Object → Passing
passing_of p c m = record { slots = m; last = c.last_serial; child = p.child; wants = p.wants.now }

-- a handle in the code, or why there is none, as an argument that was passed
abbrev pub HandleAs : (ObjectId → Argument ObjectId) → Result ObjectId ProtocolReason → Passing → Passed → Type 0
HandleAs f (Ok h) p x = x ≡ (Ok (f h), p)
HandleAs f (Err r) p x = x ≡ (Err r, p)

-- arguments that were passed in the code: the answer, the room, the last serial and the slots
abbrev pub WalkedAs : Result (Option ℕ) ProtocolReason → List (Argument ObjectId) → ℕ → Map Object → Walked Passing (Argument ObjectId) ProtocolReason → Type 0
WalkedAs (Ok child) args last m w = (w.stop ≡ None) × (w.state.child ≡ child) × (w.room ≡ args) × (w.state.last ≡ last) × (w.state.slots ≡ m)
WalkedAs (Err r) args last m w = (w.stop ≡ Some r) × (w.room ≡ args) × (w.state.last ≡ last) × (w.state.slots ≡ m)

-- of the connection only the last serial and the map change
abbrev pub KeepsConn : Connection → Connection → Type 0
KeepsConn c c' = conn_of c' ≡ with_serial c'.last_serial (conn_of c)

-- the answer of next
abbrev pub next_reply : NextAnswer → Reply
next_reply (Quiet r) = quiet r
next_reply (HandedOut e h o) = handed_out e h o
next_reply (RoundOver a) = over a

abbrev pub over_fault : WaylandError → Reply
over_fault f = over (Err f)

-- how many bytes of text arguments name in all
abbrev pub text_in : Argument ObjectId → ℕ
text_in (IntArg x) = 0
text_in (UintArg x) = 0
text_in (FixedArg x) = 0
text_in (StrArg None) = 0
text_in (StrArg (Some s)) = s.len
text_in (ObjectArg h) = 0
text_in (NewIdArg h) = 0
text_in (ArrayArg s) = s.len
text_in (FdArg x) = 0

abbrev pub text_lens : List (Argument ObjectId) → ℕ
text_lens args = sum_by text_in args

-- the number that an argument in a room carries
abbrev pub number_of : Option (Argument ObjectId) → ℕ
number_of None = 0
number_of (Some (IntArg x)) = 0
number_of (Some (UintArg n)) = n
number_of (Some (FixedArg x)) = 0
number_of (Some (StrArg t)) = 0
number_of (Some (ObjectArg h)) = h.number
number_of (Some (NewIdArg h)) = h.number
number_of (Some (ArrayArg s)) = 0
number_of (Some (FdArg n)) = n

abbrev pub number_given : List (Argument ObjectId) → ℕ → ℕ
number_given args i = number_of (slice_get args i)

-- the fault that an error event tells, by its arguments in the room
abbrev pub error_given : Map Object → List (Argument ObjectId) → WaylandError
error_given m args = Protocol (record { code = number_given args 1; object_id = number_given args 0; object_interface = interface_found (lookup (number_given args 0) m); reason = ErrorEvent (text_lens args) })

-- the first frame is taken into two rooms, where it fits a signature; its text is no longer than a frame's
pub record Taking (signature : List ArgumentType) (e : End) (args : List (Argument ObjectId)) (text : List ℕ) (n : ℕ) (e' : End) (args' : List (Argument ObjectId)) (text' : List ℕ) : Type 0 where
  pub values : List Arg
  pub behind : Waiting
  pub first : take_of signature e.waiting ≡ Some (values, behind)
  pub short : length (texts values) ≤ 1024
  pub count : n ≡ length values
  pub fit : n ≤ length args'
  pub end : e' ≡ leaving behind e
  pub args_are : args' ≡ written (laid 0 values) args
  pub text_is : text' ≡ written (texts values) text

abbrev pub TakesAs : List ArgumentType → End → List (Argument ObjectId) → List ℕ → Option ℕ → End → List (Argument ObjectId) → List ℕ → Type 0
TakesAs signature e args text None e' args' text' = (take_of signature e.waiting ≡ None) × (e' ≡ e) × (args' ≡ args) × (text' ≡ text)
TakesAs signature e args text (Some n) e' args' text' = Taking signature e args text n e' args' text'

-- two rooms hold these values from their start
abbrev pub Holding : List Arg → List (Argument ObjectId) → List ℕ → Type 0
Holding xs args text = (args ≡ laid 0 xs) × (length (texts xs) ≤ 1024) × (take (length (texts xs)) text ≡ texts xs)

-- the rooms that next is lent
abbrev pub rooms_in : List (Argument ObjectId) → List ℕ → List ℕ → Rooms
rooms_in args text fault_text = record { args = args; text = text; fault_text = fault_text }

-- a creation: over lawful rooms a connection as it is created, over whatever transport; others are refused and stay
abbrev pub Created : ℕ → List (Option Object) → List (Option Object) → Result Connection Refusal → List (Option Object) → List (Option Object) → Type 0
Created number c s (Ok k) c' s' = (lawful c s ≡ true) × ((e : End) → moment_of k c' s' e ≡ created number c s e)
Created number c s (Err r) c' s' = (lawful c s ≡ false) × (r ≡ BadRoom) × (c' ≡ c) × (s' ≡ s)

-- and a run begins there
abbrev pub Begins : ℕ → List (Option Object) → List (Option Object) → Result Connection Refusal → List (Option Object) → List (Option Object) → Type 0
Begins number c s (Ok k) c' s' = (t : Table) (e : End) → Grounded e → Run t (creation number (length c) (length s)) (moment_of k c' s' e)
Begins number c s (Err r) c' s' = Unit {0}

-- the connection alone becomes this: its map stays
abbrev pub Becomes : Connection → Conn → Connection → Type 0
Becomes c k c' = (conn_of c' ≡ k) × (c'.map ≡ c.map)
