-- What the program promises: for each status what was read, and what was written.
use Rattle.std.specs.Prelude.{◌≡◌, ℕ, ◌<◌, ◌≤◌, ◌⊎◌, List, length, Option, Some, None, Result, Ok, Err, IfSome}
use Rattle.co_object.specs.declared.note.Note.{Note}
use Rattle.co_program.specs.declared.script.Script.{Script}
use Rattle.co_program.specs.Actors.{actor_count, role_of}
use Rattle.co_program.specs.Programs.{AreOfProgram}
use Rattle.co_program.specs.Runs.{IsRunOf, notes_by, shown_histories}
use Rattle.co_text.specs.Fallible.{Refusal}
use Rattle.co_text.specs.Values.{Word}
use Rattle.co_script.specs.Reading.{script_of}
use Rattle.co_script.specs.Canonical.{canonical}
use Rattle.co_world.specs.Walk.{IsWalk}
use Rattle.co_report.specs.Reading.{report_read}
use Rattle.co_print.specs.Reports.{report_of}
use Rattle.co_report.specs.declared.line.Report.{Report}
use Rattle.co_check.specs.Verdict.{verdict}
use Rattle.co_check.specs.declared.verdict.Verdict.{Verdict}
use Rattle.co_check.specs.declared.verdict.Verdict.TheVariants.{Legal, Not}
use Rattle.co_service.specs.Closing.{ClosingView}
use Rattle.co_run.specs.Ran.{shown_timers, shown_cpus}
use Rattle.co_event_text.specs.Answers.{event_text}
use Rattle.co_batch_text.specs.Kq.Answers.{kq_text}
use Rattle.co_batch_text.specs.Kq.Ends.{EndsRun as EndsKq}
use Rattle.co_batch_text.specs.Sleep.Answers.{sleep_text}
use Rattle.co_batch_text.specs.Sleep.Ends.{EndsRun as EndsSleep}
use Rattle.co_batch_text.specs.Itimer.Answers.{itimer_text}
use Rattle.co_batch_text.specs.Itimer.Ends.{EndsRun as EndsItimer}
use Rattle.co_gen.specs.Generator.{generated}
use Rattle.co_gen.specs.Soak.{counts_of, soak_line}
use Rattle.co_top.specs.declared.command.Command.{Command}
use Rattle.co_top.specs.declared.command.Command.TheVariants.{Read, Serve, Make}
use Rattle.co_top.specs.declared.command.Reading.{Reading}
use Rattle.co_top.specs.declared.command.Reading.TheVariants.{Steps, Check, Event}
use Rattle.co_top.specs.declared.command.Serving.{Serving}
use Rattle.co_top.specs.declared.command.Serving.TheVariants.{Run, Kq, Sleep, Itimer}
use Rattle.co_top.specs.declared.command.Making.{Making}
use Rattle.co_top.specs.declared.command.Making.TheVariants.{Gen, Soak}
use Rattle.co_top.specs.declared.status.Finish.{Finish}
use Rattle.co_top.specs.declared.status.Status.{Status}
use Rattle.co_top.specs.declared.status.Status.TheVariants.{Done, BadScript, Usage, ReadFault, WriteFault, NoMemory, NotLegal}
use Rattle.co_front.specs.Texts.{refusal_text, fault_text}
use Rattle.co_top.specs.Commands.{command_of, usage_text, legal_text, unfit_word}
use Rattle.co_front.specs.Outside.{Outside, ReadsToEnd, Reads, ReadFails, Writes, WriteFails, WritesFront}

-- ---- `steps` and `run`

-- the text is a report, and its verdict is Legal
pub record IsLegalReport (text : List ℕ) : Type 0 where
  pub report : Report
  pub read : report_read text ≡ Ok report
  pub legal : verdict report ≡ Legal

-- each actor's list is that of its program: the notes of its acts, each once and in order, and no others
abbrev pub AreOfPrograms : Script → List (List Note) → Type 0
AreOfPrograms s lists = (a : ℕ) → a < actor_count s → AreOfProgram s (shown_histories lists) a (role_of s a) (notes_by lists a)

-- the text is the report of these lists, which are a run of the script: every callout has one legal history of that callout alone
-- and every CPU one of a plain timer queue, made of exactly the steps of the script's actors, which are told by their acts. It is
-- legal, where it is not too long for a report
pub record IsReportOf (script : Script) (lists : List (List Note)) (text : List ℕ) : Type 0 where
  pub run : IsRunOf script lists
  pub programs : AreOfPrograms script lists
  pub shown : text ≡ report_of script lists
  pub legal : length text ≤ 268435456 → IsLegalReport text

-- the text is the report of the script's walk
pub record IsReportOfWalk (script : Script) (text : List ℕ) : Type 0 where
  pub lists : List (List Note)
  pub walk : IsWalk script lists
  pub report : IsReportOf script lists text

-- the text is the report of whichever run the script's actors made on their threads, over the service that came to this closing
pub record IsReportOfRun (script : Script) (closing : ClosingView) (text : List ℕ) : Type 0 where
  -- the notes of each actor
  pub lists : List (List Note)
  -- the text is their report
  pub report : IsReportOf script lists text
  -- the callouts of the service have exactly the histories that the notes show
  pub timers : closing.timers ≡ shown_timers script lists
  -- and so have its CPUs
  pub cpus : closing.cpus ≡ shown_cpus script lists

-- the bytes are a script, of which this holds
pub record IsScriptOf (bytes : List ℕ) (Holds : Script → Type 0) : Type 0 where
  pub script : Script
  pub read : script_of bytes ≡ Ok script
  pub holds : Holds script

-- the bytes are no script, no report or no text of this command, and the text says which line is bad, and why
pub record IsRefused {X : Type 0} (meaning : Result X Refusal) (text : List ℕ) : Type 0 where
  pub refusal : Refusal
  pub refused : meaning ≡ Err refusal
  pub said : text ≡ refusal_text refusal

-- ---- `check`

-- what a verdict comes to: `legal`, or which line of the report is wrong, and why
abbrev pub IsJudged : Verdict → Status → List ℕ → Type 0
IsJudged Legal status text = (status ≡ Done) × (text ≡ legal_text)
IsJudged (Not number cause) status text = (status ≡ NotLegal) × (text ≡ fault_text number (unfit_word cause))

-- the bytes are a report, and the text says its verdict
pub record IsVerdict (bytes : List ℕ) (status : Status) (text : List ℕ) : Type 0 where
  pub report : Report
  pub read : report_read bytes ≡ Ok report
  pub judged : IsJudged (verdict report) status text

-- ---- what is made of the bytes that are read: the status, and the text for it

abbrev pub Gives : Reading → List ℕ → Status → List ℕ → Type 0
Gives Steps bytes Done text = IsScriptOf bytes (λ script. IsReportOfWalk script text)
Gives Steps bytes BadScript text = IsRefused (script_of bytes) text
Gives Check bytes Done text = IsVerdict bytes Done text
Gives Check bytes NotLegal text = IsVerdict bytes NotLegal text
Gives Check bytes BadScript text = IsRefused (report_read bytes) text
Gives Event bytes Done text = event_text bytes ≡ Ok text
Gives Event bytes BadScript text = IsRefused (event_text bytes) text
Gives reading bytes status text = ⊥

-- the text is what the bytes mean, and the service that the command worked on came to its end: its CPU scanned at the ticks, and its
-- callouts were called as often as the answers count
pub record IsBatchDone (meaning : Result (List ℕ) Refusal) (Ends : Type 0) (text : List ℕ) : Type 0 where
  pub text_is : meaning ≡ Ok text
  pub ends : Ends

-- what a command on a running service makes of an accepted input: its text, and the closing of the service
abbrev pub Serves : Serving → List ℕ → ClosingView → List ℕ → Type 0
Serves Run bytes closing text = IsScriptOf bytes (λ script. IsReportOfRun script closing text)
Serves Kq bytes closing text = IsBatchDone (kq_text bytes) (EndsKq bytes closing) text
Serves Sleep bytes closing text = IsBatchDone (sleep_text bytes) (EndsSleep bytes closing) text
Serves Itimer bytes closing text = IsBatchDone (itimer_text bytes) (EndsItimer bytes closing) text

-- its text for one that it refuses
abbrev pub Refuses : Serving → List ℕ → List ℕ → Type 0
Refuses Run bytes text = IsRefused (script_of bytes) text
Refuses Kq bytes text = IsRefused (kq_text bytes) text
Refuses Sleep bytes text = IsRefused (sleep_text bytes) text
Refuses Itimer bytes text = IsRefused (itimer_text bytes) text

-- there is a closing exactly where it is done
abbrev pub GivesServed : Serving → List ℕ → Status → Option ClosingView → List ℕ → Type 0
GivesServed serving bytes Done (Some closing) text = Serves serving bytes closing text
GivesServed serving bytes BadScript None text = Refuses serving bytes text
GivesServed serving bytes status closing text = ⊥

-- the most bytes that an input has: of a script 64 MiB, of a report 256 MiB, of a text of commands 16 MiB
abbrev pub limit_of : Reading → ℕ
limit_of Steps = 67108864
limit_of Check = 268435456
limit_of Event = 16777216

abbrev pub served_limit : Serving → ℕ
served_limit Run = 67108864
served_limit Kq = 16777216
served_limit Sleep = 16777216
served_limit Itimer = 16777216

-- ---- `gen` and `soak`: the text of a seed

-- the line of the generated script's walk
pub record IsSoakOf (seed : ℕ) (text : List ℕ) : Type 0 where
  pub lists : List (List Note)
  pub walk : IsWalk (generated seed) lists
  pub run : IsRunOf (generated seed) lists
  pub shown : text ≡ soak_line seed (counts_of (generated seed) lists)

abbrev pub IsMadeOf : Making → List ℕ → Type 0
IsMadeOf (Gen seed) text = text ≡ canonical (generated seed)
IsMadeOf (Soak seed) text = IsSoakOf seed text

-- ---- the statuses

module _ (before after : Outside) where
  -- the source stays unread
  abbrev pub IsUnread : Type 0
  IsUnread = after.input ≡ before.input

  -- of what was read: all of it where the text is of a script or a report; else all, or more than the limit
  abbrev pub HasRead : ℕ → Status → List ℕ → Type 0
  HasRead limit BadScript bytes = Reads before.input after.input limit bytes
  HasRead limit status bytes = ReadsToEnd before.input after.input bytes

  -- the words come to this status and this closing, for which this text is to be written
  abbrev pub ComesTo : Option Command → Status → Option ClosingView → List ℕ → Type 0
  ComesTo None Usage None text = IsUnread × (text ≡ usage_text)
  ComesTo (Some (Read reading)) status None text = (bytes : List ℕ) × HasRead (limit_of reading) status bytes × Gives reading bytes status text
  ComesTo (Some (Serve serving)) status closing text = (bytes : List ℕ) × HasRead (served_limit serving) status bytes × GivesServed serving bytes status closing text
  ComesTo (Some (Make making)) Done None text = IsUnread × IsMadeOf making text
  ComesTo command status closing text = ⊥

  -- the text of this status was written
  abbrev pub Answers : Option Command → Status → Option ClosingView → Type 0
  Answers command status closing = (text : List ℕ) × ComesTo command status closing text × Writes before.output after.output text

  -- the sink failed in the text of some status
  abbrev pub FailsIn : Option Command → Type 0
  FailsIn command = (status : Status) × (closing : Option ClosingView) × (text : List ℕ) × ComesTo command status closing text × WritesFront before.output after.output text

  -- a read failed of a command that reads
  abbrev pub FailsToRead : Option Command → Type 0
  FailsToRead (Some (Read reading)) = ReadFails before.input after.input
  FailsToRead (Some (Serve serving)) = ReadFails before.input after.input
  FailsToRead command = ⊥

  -- there was too little memory for a command, and those that don't read have read nothing
  abbrev pub LacksMemory : Option Command → Type 0
  LacksMemory None = ⊥
  LacksMemory (Some (Read reading)) = Unit {0}
  LacksMemory (Some (Serve serving)) = Unit {0}
  LacksMemory (Some (Make making)) = IsUnread

  -- nothing was written
  abbrev pub IsUnwritten : Type 0
  IsUnwritten = after.output ≡ before.output

  -- what a status says, and that there is a closing exactly where a command on a running service is done
  abbrev pub Says : Option Command → Status → Option ClosingView → Type 0
  Says command Done closing = Answers command Done closing
  Says command BadScript closing = Answers command BadScript closing
  Says command Usage closing = Answers command Usage closing
  Says command NotLegal closing = Answers command NotLegal closing
  Says command ReadFault None = FailsToRead command × IsUnwritten
  Says command WriteFault None = FailsIn command
  Says command NoMemory None = LacksMemory command × IsUnwritten
  Says command status (Some closing) = ⊥

-- what a call with these words says by how it ends
abbrev pub IsHeadline : List Word → Outside → Outside → Finish → Type 0
IsHeadline words before after finish = Says before after (command_of words) finish.status finish.closing

-- a call without a running service ends with its status alone
abbrev pub plain : Status → Finish
plain status = record { status = status; closing = None }

-- ---- completeness

abbrev pub script_status : Result Script Refusal → Status
script_status (Ok script) = Done
script_status (Err refusal) = BadScript

abbrev pub verdict_status : Verdict → Status
verdict_status Legal = Done
verdict_status (Not number cause) = NotLegal

abbrev pub report_status : Result Report Refusal → Status
report_status (Ok report) = verdict_status (verdict report)
report_status (Err refusal) = BadScript

abbrev pub text_status : Result (List ℕ) Refusal → Status
text_status (Ok text) = Done
text_status (Err refusal) = BadScript

-- what an input comes to: a script is answered by its report, a report by its verdict, a text of commands by their answers, and
-- another input by its refusal
abbrev pub status_of : Reading → List ℕ → Status
status_of Steps bytes = script_status (script_of bytes)
status_of Check bytes = report_status (report_read bytes)
status_of Event bytes = text_status (event_text bytes)

abbrev pub served_status : Serving → List ℕ → Status
served_status Run bytes = script_status (script_of bytes)
served_status Kq bytes = text_status (kq_text bytes)
served_status Sleep bytes = text_status (sleep_text bytes)
served_status Itimer bytes = text_status (itimer_text bytes)

-- the statuses of a command that reads, where neither end has a fault
abbrev pub IsWork : Reading → Status → Type 0
IsWork reading Done = Unit {0}
IsWork reading BadScript = Unit {0}
IsWork Check NotLegal = Unit {0}
IsWork reading NoMemory = Unit {0}
IsWork reading status = ⊥

-- a command that reads answers what its input comes to, where there is memory
pub record IsReadAnswered (reading : Reading) (before : Outside) (status : Status) : Type 0 where
  pub told : IfSome before.input.left (λ bytes. (status ≡ status_of reading bytes) ⊎ (status ≡ NoMemory))
  pub untold : IsWork reading status

-- and so does one that works on a running service
pub record IsServedAnswered (serving : Serving) (before : Outside) (status : Status) : Type 0 where
  pub told : IfSome before.input.left (λ bytes. (status ≡ served_status serving bytes) ⊎ (status ≡ NoMemory))
  pub untold : IsWork Steps status

-- no read failed, and no write failed in a text that the command comes to: over a sink that counts no fault and tells room for
-- each of them none does
pub record HasNoFault (before after : Outside) (command : Command) : Type 0 where
  pub reads : ¬ ReadFails before.input after.input
  pub writes : (status : Status) (closing : Option ClosingView) (text : List ℕ) → ComesTo before after (Some command) status closing text → ¬ WriteFails before.output after.output text

-- what a command answers, without a fault at either end
abbrev pub IsCommandAnswered : Command → Outside → Status → Type 0
IsCommandAnswered (Read reading) before status = IsReadAnswered reading before status
IsCommandAnswered (Serve serving) before status = IsServedAnswered serving before status
IsCommandAnswered (Make making) before status = (status ≡ Done) ⊎ (status ≡ NoMemory)

abbrev pub IsComplete : List Word → Outside → Outside → Status → Type 0
IsComplete words before after status = IfSome (command_of words) (λ command. HasNoFault before after command → IsCommandAnswered command before status)
