-- What an actor serves, told by its own entries alone.
use Rattle.std.specs.Prelude.{ℕ, Bool, true, false, List}
use Rattle.std.specs.declared.option.Option.{Option}
use Rattle.std.specs.declared.option.Option.TheVariants.{Some, None}
use Rattle.std.specs.List.{fold}
use Rattle.co_object.specs.declared.note.Entry.{Entry}
use Rattle.co_object.specs.declared.note.QEntry.{QEntry}
use Rattle.co_object.specs.declared.op.Op.{Op}
use Rattle.co_object.specs.declared.op.Op.TheVariants.{Call, Run}
use Rattle.co_object.specs.declared.op.RunOp.TheVariants.{Pick, Begin, End}
use Rattle.co_object.specs.declared.reply.Reply.{Reply}
use Rattle.co_object.specs.declared.reply.Reply.TheVariants.{Hold}
use Rattle.co_object.specs.declared.queue.QOp.{QOp}
use Rattle.co_object.specs.declared.queue.QOp.TheVariants.{Pop, Free, PopDirect, FreeDirect}
use Rattle.co_object.specs.declared.queue.QReply.{QReply}
use Rattle.co_object.specs.declared.queue.QReply.TheVariants.{Got}
use Rattle.co_object.specs.Queue.{Queue, Due}
use Rattle.co_object.specs.Actors.{Actors, cpu_actor, interrupt_actor}

abbrev pub got : Option Due → QReply → Option Due
got s (Got i n at) = Some (record { i = i; n = n })
got s _ = s

-- what the CPU has in service after an entry of its journal, or its interrupt where `direct`
abbrev pub served : Bool → Option Due → QOp → QReply → Option Due
served false s Pop r = got s r
served false s Free r = None
served true s PopDirect r = got s r
served true s FreeDirect r = None
served direct s _ r = s

-- what is in service after these entries
abbrev pub served_from : Bool → Option Due → List QEntry → Option Due
served_from direct s J = fold (λ s e. served direct s e.op e.reply) s J

abbrev pub served_in : Bool → List QEntry → Option Due
served_in direct J = served_from direct None J

-- the actor that serves a CPU's queue, or its urgent list where `direct`
abbrev pub lane_actor : Bool → Actors → ℕ → ℕ
lane_actor false actors cpu = cpu_actor actors cpu
lane_actor true actors cpu = interrupt_actor actors cpu

abbrev pub slot : Bool → Queue → Option Due
slot false q = q.serving
slot true q = q.directing

-- how far a service is
pub data ServiceStage : Type 0 where
  -- there is none
  Idle : ServiceStage
  -- arming n was picked, and waits for the callout's lock
  Waits : (n : ℕ) → ServiceStage
  -- arming n is to end: its function runs, or it was skipped
  Runs : (n : ℕ) → ServiceStage

abbrev pub stage_picked : ℕ → Reply → ServiceStage
stage_picked n Hold = Waits n
stage_picked n _ = Runs n

abbrev pub begun : ServiceStage → ServiceStage
begun Idle = Idle
begun (Waits n) = Runs n
begun (Runs n) = Runs n

abbrev pub service_after : ServiceStage → Op → Reply → ServiceStage
service_after v (Call op) r = v
service_after v (Run (Pick n cpu at)) r = stage_picked n r
service_after v (Run (Begin n cpu)) r = begun v
service_after v (Run (End n cpu)) r = Idle

-- how far the service of a callout is after these entries
abbrev pub service_in : List Entry → ServiceStage
service_in H = fold (λ v e. service_after v e.op e.reply) Idle H
