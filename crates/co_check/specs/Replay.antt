-- The histories of timers and of CPUs, line by line: whether the actor may make the entry, and whether the operation is possible
-- and has this reply after the lines above.
use Rattle.std.specs.Prelude.{ℕ, Bool, true, false, ◌==◌, List, [], ◌∷◌, ◌++◌, Option, Some, None}
use Rattle.co_object.specs.declared.Spec.{Spec}
use Rattle.co_object.specs.declared.Op.{Op}
use Rattle.co_object.specs.declared.Op.TheVariants.{Call, Run}
use Rattle.co_object.specs.declared.QOp.{QOp}
use Rattle.co_object.specs.declared.QOp.TheVariants.{Insert, Remove, Scan, Pop, Free, PopDirect, FreeDirect}
use Rattle.co_object.specs.declared.Reply.{Reply}
use Rattle.co_object.specs.declared.QReply.{QReply}
use Rattle.co_object.specs.declared.Place.{Place}
use Rattle.co_object.specs.declared.Place.TheVariants as place
use Rattle.co_object.specs.declared.AnyEntry.{AnyEntry}
use Rattle.co_object.specs.declared.AnyEntry.TheVariants as of
use Rattle.co_object.specs.declared.Entry.{Entry}
use Rattle.co_object.specs.declared.QEntry.{QEntry}
use Rattle.co_object.specs.declared.State.{State}
use Rattle.co_object.specs.Queue.{Queue}
use Rattle.co_object.specs.Actors.{Actors, cpu_actor, interrupt_actor}
use Rattle.co_object.specs.Callout.{step}
use Rattle.co_object.specs.History.{server, cpu_of, state, reply_of}
use Rattle.co_object.specs.Journal.{scanner, queue}
use Rattle.co_object.specs.Journal as journal
use Rattle.co_program.specs.declared.script.Script.{Script}
use Rattle.co_program.specs.Action.{spec_at}
use Rattle.co_program.specs.Runs.{actors_of, are_direct}
use Rattle.co_report.specs.declared.line.Line.{Line}
use Rattle.co_check.specs.declared.verdict.Unfit.{Unfit}
use Rattle.co_check.specs.declared.verdict.Unfit.TheVariants.{Actor, Illegal}
use Rattle.co_check.specs.Same.{same_reply, same_answer}
use Rattle.co_check.specs.Shown.{callout_history, cpu_journal}

-- ---- who may make an entry

abbrev pub may_serve : Actors → Spec → ℕ → Op → Bool
may_serve actors spec actor (Call op) = true
may_serve actors spec actor (Run op) = actor == server actors spec (cpu_of op)

abbrev pub may_work : Actors → (cpu actor : ℕ) → QOp → Bool
may_work actors cpu actor (Insert i n t) = true
may_work actors cpu actor (Remove i) = true
may_work actors cpu actor (Scan now) = actor == scanner actors cpu
may_work actors cpu actor Pop = actor == cpu_actor actors cpu
may_work actors cpu actor Free = actor == cpu_actor actors cpu
may_work actors cpu actor PopDirect = actor == interrupt_actor actors cpu
may_work actors cpu actor FreeDirect = actor == interrupt_actor actors cpu

-- ---- one line

abbrev pub is_reply : Option Reply → Reply → Bool
is_reply None given = false
is_reply (Some reply) given = same_reply reply given

abbrev pub is_answer : Option QReply → QReply → Bool
is_answer None given = false
is_answer (Some reply) given = same_answer reply given

abbrev pub unfit_unless : (actor legal : Bool) → Option Unfit
unfit_unless false legal = Some Actor
unfit_unless true false = Some Illegal
unfit_unless true true = None

-- what is wrong with an entry of a callout in this state, and of a CPU with this queue
abbrev pub callout_unfit : Actors → Spec → State → Entry → Option Unfit
callout_unfit actors spec at e = unfit_unless (may_serve actors spec e.actor e.op) (is_reply (reply_of (step spec at e.op)) e.reply)

abbrev pub queue_unfit : Actors → (cpu m : ℕ) → List Bool → Queue → QEntry → Option Unfit
queue_unfit actors cpu m direct q e = unfit_unless (may_work actors cpu e.actor e.op) (is_answer (journal.reply_of (journal.step m direct q e.op)) e.reply)

-- the state of callout i, and the queue of a CPU, after these lines
abbrev pub state_after : Script → List Line → ℕ → State
state_after s above i = state (spec_at s i) (callout_history i above)

abbrev pub queue_after : Script → List Line → ℕ → Queue
queue_after s above cpu = queue s.buckets (are_direct s) (cpu_journal cpu above)

-- what is wrong with an entry in this place after these lines
abbrev pub unfit_at : Script → List Line → Place → AnyEntry → Option Unfit
unfit_at s above (place.Timer i) (of.Timer e) = callout_unfit (actors_of s) (spec_at s i) (state_after s above i) e
unfit_at s above (place.Cpu cpu) (of.Cpu e) = queue_unfit (actors_of s) cpu s.buckets (are_direct s) (queue_after s above cpu) e
unfit_at s above place entry = None

-- ---- all lines

-- a bad line, and what is wrong with it
pub record Bad : Type 0 where
  pub line : ℕ
  pub cause : Unfit

abbrev pub bad_or : Option Unfit → ℕ → Option Bad → Option Bad
bad_or (Some cause) line rest = Some (record { line = line; cause = cause })
bad_or None line rest = rest

-- the first line, after these lines above, that is bad in this way
abbrev pub first_bad : (List Line → Line → Option Unfit) → List Line → List Line → Option Bad
first_bad wrong above [] = None
first_bad wrong above (l ∷ ls) = bad_or (wrong above l) l.line (first_bad wrong (above ++ l ∷ []) ls)

abbrev pub first_unfit : Script → List Line → Option Bad
first_unfit s lines = first_bad (λ above l. unfit_at s above l.place l.entry) [] lines
