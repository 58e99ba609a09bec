-- A run in which a number is used again.
use Rattle.std.proofs.Common.{◌≡◌, replicate, None, refl, arith}
use Rattle.protocol.specs.Core.{core}
use Rattle.protocol.specs.Words.{Sound}
use Rattle.protocol.proofs.Decisions.{sound_decides}
use Rattle.transport.specs.Ends.{End, Grounded}
use Rattle.transport.specs.Lists.{fresh, end_of}
use Rattle.transport.specs.Wire.{Message}
use Rattle.client.specs.Calls.{prepare, read, next, settle}
use Rattle.client.specs.Cases.{brought, start, intent, open_round, rooms, handed_event, sync, done_to, delete_id}
use Rattle.client.specs.Reached.{Reused}
use Rattle.client.specs.Runs.{History, creation, Run, made, world, called}
use Rattle.client.specs.State.{Moment}

core_sound : Sound core
core_sound = (sound_decides core).0 refl

-- an end at the bottom that never stopped
unstopped : (e : End) → e.height ≡ 0 → e.read_stop ≡ 0 → e.write_stop ≡ 0 → Grounded e
unstopped e a b c = record { low = λ _. a; reads = λ s. omega arith; stops = λ s. omega arith }

begun : Run core (creation 9 8 2) start
begun = made 9 (replicate 8 None) (replicate 2 None) (end_of (fresh 4 4)) refl (unstopped (end_of (fresh 4 4)) refl refl refl)

-- the world brings a frame
bring : {h : History} {m : Moment} → Run core h m → (f : Message) → m.end.height ≡ 0 → m.end.read_stop ≡ 0 → m.end.write_stop ≡ 0 → Run core h (brought m f)
bring {m = m} r f a b c = world r (record { conn = refl; slots = refl; hold = refl; height = refl; grounded = unstopped (brought m f).end a b c })

pub reused : Reused
reused = (
  core_sound,
  (
    _,
    (
      _,
      (
        called (called (bring (called (called (called (called (bring (called begun (sync 5)) (done_to 2) refl refl refl) prepare) (read intent)) (next open_round rooms)) (settle (handed_event 2 1) 0)) (delete_id 2) refl refl refl) (next open_round rooms)) (sync 6),
        refl,
        refl,
        refl,
      ),
    ),
  ),
)
