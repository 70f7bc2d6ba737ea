-- How many notes an actor may still make before it can ask for room.
use Rattle.std.specs.Prelude.{Bool, true, false, ◌≤◌, ℕ, ◌+◌, ◌*◌, length}
use Rattle.co_program.specs.declared.script.Script.{Script}
use Rattle.co_object.specs.declared.op.Op.TheVariants.{Call, Run}
use Rattle.co_object.specs.declared.queue.QOp.TheVariants.{Scan}
use Rattle.co_program.specs.declared.action.Asked.{Asked}
use Rattle.co_program.specs.declared.action.Asked.TheVariants.{Callout, Itself, Queue}
use Rattle.co_program.specs.Actors.{acts_at}
use Rattle.co_program.specs.Stages.{Stage, Ready, Waiting, Popping, Picking, Locking, Beginning, Unlocking, Firing, Releasing, Ending, Freeing, Drained}

-- no function has more acts
abbrev pub AreShort : Script → ℕ → Type 0
AreShort s longest = (func : ℕ) → length (acts_at s.funcs func) ≤ longest

-- a service is not left off: from its Pop on there is room for its notes, of which a section makes at most three
abbrev pub room_at : ℕ → Stage → ℕ
room_at longest Ready = 0
room_at longest (Waiting n took) = 0
room_at longest (Popping act) = 0
room_at longest (Picking v) = 7 + 6 * longest
room_at longest (Locking v) = 6 + 6 * longest
room_at longest (Beginning v) = 6 + 6 * longest
room_at longest (Unlocking v acts) = 3 * length acts + 3 + 3 * longest
room_at longest (Firing v acts) = 3 * length acts + 3 + 3 * longest
room_at longest (Releasing v) = 3 + 3 * longest
room_at longest (Ending v) = 3 + 3 * longest
room_at longest (Freeing v drain next) = 2 + 3 * longest
room_at longest (Drained v acts) = 3 * length acts

-- an actor at this stage is within a function
abbrev pub is_serving : Stage → Bool
is_serving (Firing v acts) = true
is_serving (Drained v acts) = true
is_serving stage = false

-- an actor at this stage is between two services, and within no function
abbrev pub is_resting : Stage → Bool
is_resting Ready = true
is_resting (Waiting n took) = true
is_resting (Popping act) = true
is_resting stage = false

-- the room for the notes of what is asked: a step of a service has it already, and a Pop takes that of a whole service
abbrev pub room_for : ℕ → Asked → ℕ
room_for longest (Itself kind) = 1
room_for longest (Callout i (Call op)) = 3
room_for longest (Callout i (Run op)) = 0
room_for longest (Queue cpu (Scan now)) = 1
room_for longest (Queue cpu op) = 8 + 6 * longest
