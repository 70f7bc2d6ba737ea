-- How much is left to do: it falls with every step that is made, so round robin ends.
-- It counts steps, and whatever may bring about more of them.
use Rattle.std.specs.Prelude.{ℕ, ◌+◌, ◌*◌, ◌==◌, if◌then◌else◌, max, List, [], ◌∷◌, length, Option, Some, None}
use Rattle.std.specs.List.{range_with_len, sum_by}
use Rattle.co_object.specs.declared.State.{State}
use Rattle.co_object.specs.Drain.{serviced}
use Rattle.co_object.specs.Queue.{Queue}
use Rattle.co_program.specs.declared.Act.{Act}
use Rattle.co_program.specs.declared.Script.{Script}
use Rattle.co_program.specs.Actors.{actor_count, all_actors}
use Rattle.co_program.specs.declared.Task.{Task}
use Rattle.co_program.specs.Stages.{Stage, Ready, Waiting, Picking, Locking, Beginning, Unlocking, Firing, Releasing, Ending, Freeing, Drained}
use Rattle.co_program.specs.Cursor.{Cursor}
use Rattle.co_program.specs.Action.{drained_of}
use Rattle.co_program.specs.Advance.{tail_of}
use Rattle.co_world.specs.World.{World}

-- ---- a round: the service of one callout, from its Pop to the last act of a drain function

-- the length of the longest function
abbrev pub longest : List (List Act) → ℕ
longest [] = 0
longest (acts ∷ funcs) = max (length acts) (longest funcs)

-- the steps of a function: two for an act, since the callout that it arms may land in a step of its own
abbrev pub steps_for : List Act → ℕ
steps_for acts = 2 * length acts

abbrev pub most_steps : Script → ℕ
most_steps s = 2 * longest s.funcs

-- what is left of a round at each stage: a function is to come until it begins, and a drain function until the Free.
-- A Pick gives each actor that waits in a drain one more try
abbrev pub round_left : Script → Stage → ℕ
round_left s (Picking v) = most_steps s + most_steps s + 9 + actor_count s
round_left s (Locking v) = most_steps s + most_steps s + 8
round_left s (Beginning v) = most_steps s + most_steps s + 6
round_left s (Unlocking v acts) = steps_for acts + most_steps s + 5
round_left s (Firing v acts) = steps_for acts + most_steps s + 4
round_left s (Releasing v) = most_steps s + 4
round_left s (Ending v) = most_steps s + 3
round_left s (Freeing v drain next) = most_steps s + 2
round_left s (Drained v acts) = steps_for acts
round_left s stage = 0

-- all of it, from the Pop on
unfoldable pub whole_round : Script → ℕ
whole_round s = most_steps s + most_steps s + 10 + actor_count s

-- ---- an actor

-- an act: at most three steps of its own, and a round for each callout, which a scan may bring to service
unfoldable pub whole_act : Script → ℕ
whole_act s = 3 + length s.timers * whole_round s

-- the tries left of a drain whose last Wait named arming n: the next one may Wait again where a service has another arming
abbrev pub tries : ℕ → Option ℕ → ℕ
tries n None = 1
tries n (Some m) = if m == n then 1 else 2

-- the acts left, of which the first may be under way
abbrev pub steps_left : Script → (ℕ → State) → List Task → Stage → ℕ
steps_left s states left Ready = whole_act s * length left
steps_left s states left (Waiting n took) = whole_act s * length (tail_of left) + tries n (serviced (states (drained_of left)).run)
steps_left s states left stage = whole_act s * length (tail_of left) + 1 + round_left s stage

abbrev pub one_for : {T : Type 0} → Option T → ℕ
one_for None = 0
one_for (Some x) = 1

-- with a lock that it has to release, and a callout that has to land
abbrev pub actor_left : Script → (ℕ → State) → Cursor → ℕ
actor_left s states c = steps_left s states c.left c.stage + one_for c.hold + one_for c.parcel

-- ---- a queue: a round for each callout that has come due

abbrev pub queue_left : Script → Queue → ℕ
queue_left s q = whole_round s * (length q.expired + length q.urgent)

-- ---- the world

abbrev pub measure : Script → World → ℕ
measure s w =
    sum_by (λ a. actor_left s (λ i. (w.timers i).state) (w.actors a).cursor) (all_actors s)
    + sum_by (λ cpu. queue_left s (w.cpus cpu).queue) (range_with_len 0 s.cpus)
