-- Worked reports, evaluated on the definition of the verdict.
use Rattle.std.proofs.Common.{◌≡◌, ℕ, [], ◌∷◌, false, pos, refl}
use Rattle.std.specs.declared.option.Option.TheVariants.{None}
use Rattle.co_object.specs.declared.LockUse.TheVariants.{Free}
use Rattle.co_object.specs.declared.PlainOp.TheVariants as op
use Rattle.co_object.specs.declared.CallOp.TheVariants.{Plain}
use Rattle.co_object.specs.declared.RunOp.TheVariants.{Pick, End}
use Rattle.co_object.specs.declared.Op.TheVariants.{Call, Run}
use Rattle.co_object.specs.declared.Reply.TheVariants.{Armed, Go, Ended}
use Rattle.co_object.specs.declared.QOp.TheVariants as queue
use Rattle.co_object.specs.declared.QReply.TheVariants.{At, Count, Got, Empty, Freed}
use Rattle.co_object.specs.declared.Place.TheVariants as place
use Rattle.co_object.specs.declared.AnyEntry.TheVariants as of
use Rattle.co_program.specs.declared.act.Act.TheVariants.{Reset, Tick}
use Rattle.co_program.specs.declared.act.Who.TheVariants.{Timer}
use Rattle.co_program.specs.declared.act.When.TheVariants as at
use Rattle.co_program.specs.declared.act.Where.TheVariants.{Home}
use Rattle.co_program.specs.declared.script.Script.{Script}
use Rattle.co_report.specs.declared.line.Line.{Line}
use Rattle.co_check.specs.declared.verdict.Unfit.TheVariants.{Actor, Illegal, Number, Follows, Missing}
use Rattle.co_check.specs.declared.verdict.Verdict.TheVariants.{Legal, Not}
use Rattle.co_check.specs.Verdict.{verdict_of}

-- one and a half seconds
abbrev due : ℕ
due = 6442450944

-- a client arms the callout, and the CPU ticks when it is due
abbrev script : Script
script = record {
  version = 1;
  hz = 1000;
  cpus = 1;
  buckets = 256;
  locks = [];
  timers = (record { lock = Free; returns_unlocked = false; direct = false }) ∷ [];
  funcs = [] ∷ [];
  clients = (Reset (Timer 0) 0 (at.At due) 7 Home 0 ∷ []) ∷ [];
  ticks = (Tick due ∷ []) ∷ [];
  turns = [];
}

abbrev reset : (line number : ℕ) → Line
reset line number = record { line = line; place = place.Timer 0; number = number; entry = of.Timer (record { actor = 0; act = 0; op = Call (Plain (op.Reset due 0 0 7 None)); reply = Armed (pos 0) 0 0 None }) }

abbrev pick : (line number actor : ℕ) → Line
pick line number actor = record { line = line; place = place.Timer 0; number = number; entry = of.Timer (record { actor = actor; act = 0; op = Run (Pick 0 0 due); reply = Go 0 7 }) }

abbrev end : (line number : ℕ) → Line
end line number = record { line = line; place = place.Timer 0; number = number; entry = of.Timer (record { actor = 1; act = 0; op = Run (End 0 0); reply = Ended None None false }) }

abbrev insert : (line number : ℕ) → Line
insert line number = record { line = line; place = place.Cpu 0; number = number; entry = of.Cpu (record { actor = 0; act = 0; op = queue.Insert 0 0 due; reply = At due }) }

abbrev scan : (line number actor act : ℕ) → Line
scan line number actor act = record { line = line; place = place.Cpu 0; number = number; entry = of.Cpu (record { actor = actor; act = act; op = queue.Scan due; reply = Count 1 }) }

abbrev got : (line number : ℕ) → Line
got line number = record { line = line; place = place.Cpu 0; number = number; entry = of.Cpu (record { actor = 1; act = 0; op = queue.Pop; reply = Got 0 0 due }) }

abbrev free : (line number : ℕ) → Line
free line number = record { line = line; place = place.Cpu 0; number = number; entry = of.Cpu (record { actor = 1; act = 0; op = queue.Free; reply = Freed }) }

abbrev empty : (line number : ℕ) → Line
empty line number = record { line = line; place = place.Cpu 0; number = number; entry = of.Cpu (record { actor = 1; act = 0; op = queue.Pop; reply = Empty }) }

-- the report of the run
one_firing : verdict_of script (reset 15 0 ∷ pick 16 2 1 ∷ end 17 3 ∷ insert 19 1 ∷ scan 20 0 1 0 ∷ got 21 1 ∷ free 22 4 ∷ empty 23 5 ∷ []) 26 ≡ Legal
one_firing = refl

-- a line again: the callout fires twice
double_firing : verdict_of script (reset 15 0 ∷ pick 16 2 1 ∷ pick 17 2 1 ∷ end 18 3 ∷ insert 20 1 ∷ scan 21 0 1 0 ∷ got 22 1 ∷ free 23 4 ∷ empty 24 5 ∷ []) 27 ≡ Not 17 Illegal
double_firing = refl

-- without its last note the CPU's tick is not over
without_the_last : verdict_of script (reset 15 0 ∷ pick 16 2 1 ∷ end 17 3 ∷ insert 19 1 ∷ scan 20 0 1 0 ∷ got 21 1 ∷ free 22 4 ∷ []) 25 ≡ Not 25 Missing
without_the_last = refl

-- an arming is not picked by a client, whatever else is wrong with the line
picked_by_a_client : verdict_of script (pick 15 0 0 ∷ []) 20 ≡ Not 15 Actor
picked_by_a_client = refl

scanned_by_a_client : verdict_of script (reset 15 0 ∷ insert 19 1 ∷ scan 20 2 0 0 ∷ []) 23 ≡ Not 20 Actor
scanned_by_a_client = refl

-- two notes change places: the insert has a Pop above it, where the queue is empty
swapped_pair : verdict_of script (reset 15 0 ∷ pick 16 2 1 ∷ end 17 3 ∷ scan 19 0 1 0 ∷ insert 20 1 ∷ got 21 1 ∷ free 22 4 ∷ empty 23 5 ∷ []) 26 ≡ Not 19 Illegal
swapped_pair = refl

-- a number twice, one that is too high, and one below another of its place
number_again : verdict_of script (reset 15 0 ∷ pick 16 2 1 ∷ end 17 2 ∷ insert 19 1 ∷ scan 20 0 1 0 ∷ got 21 1 ∷ free 22 4 ∷ empty 23 5 ∷ []) 26 ≡ Not 17 Number
number_again = refl

number_beyond : verdict_of script (reset 15 0 ∷ pick 16 6 1 ∷ end 17 3 ∷ insert 19 1 ∷ scan 20 0 1 0 ∷ got 21 1 ∷ free 22 4 ∷ empty 23 5 ∷ []) 26 ≡ Not 16 Number
number_beyond = refl

number_falls : verdict_of script (reset 15 0 ∷ pick 16 3 1 ∷ end 17 2 ∷ insert 19 1 ∷ scan 20 0 1 0 ∷ got 21 1 ∷ free 22 4 ∷ empty 23 5 ∷ []) 26 ≡ Not 17 Number
number_falls = refl

-- the insert stands before the reset in the client's list
insert_first : verdict_of script (reset 15 1 ∷ pick 16 2 1 ∷ end 17 3 ∷ insert 19 0 ∷ scan 20 0 1 0 ∷ got 21 1 ∷ free 22 4 ∷ empty 23 5 ∷ []) 26 ≡ Not 19 Follows
insert_first = refl

-- another act's number
another_act : verdict_of script (reset 15 0 ∷ pick 16 2 1 ∷ end 17 3 ∷ insert 19 1 ∷ scan 20 0 1 1 ∷ got 21 1 ∷ free 22 4 ∷ empty 23 5 ∷ []) 26 ≡ Not 20 Follows
another_act = refl

-- what does not follow comes before what is missing of an actor before it
nothing_of_the_client : verdict_of script (scan 17 0 1 1 ∷ []) 20 ≡ Not 17 Illegal
nothing_of_the_client = refl

no_notes : verdict_of script [] 18 ≡ Not 18 Missing
no_notes = refl
