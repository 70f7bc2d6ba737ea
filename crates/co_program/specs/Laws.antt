-- What holds of every run of a script.
use Rattle.std.specs.Prelude.{◌≡◌, ◌⊎◌, ℕ, ◌+◌, ◌<◌, ◌≤◌, Bool, true, List, [], ◌∷◌, ◌++◌, take, None}
use Rattle.co_object.specs.declared.Note.{Note}
use Rattle.co_object.specs.declared.Place.TheVariants as place
use Rattle.co_object.specs.declared.Op.TheVariants.{Call}
use Rattle.co_object.specs.declared.CallOp.{CallOp}
use Rattle.co_object.specs.declared.CallOp.TheVariants.{DrainTry}
use Rattle.co_object.specs.declared.QReply.TheVariants.{Empty}
use Rattle.co_object.specs.declared.Reply.{Reply}
use Rattle.co_object.specs.Lists.{cpu_journal}
use Rattle.co_lock.specs.Covers.{covers}
use Rattle.co_program.specs.declared.act.Act.{Act}
use Rattle.co_program.specs.declared.script.Script.{Script}
use Rattle.co_program.specs.declared.program.Task.{Task}
use Rattle.co_program.specs.declared.program.Task.TheVariants.{Soft}
use Rattle.co_program.specs.declared.cursor.InService.{InService}
use Rattle.co_program.specs.declared.action.Asked.{Asked}
use Rattle.co_program.specs.declared.action.Asked.TheVariants.{Callout}
use Rattle.co_program.specs.Action.{Nothing, Asks, action_for, spec_at, pop_of}
use Rattle.co_program.specs.Actors.{actor_count, cpu_of, role_of}
use Rattle.co_program.specs.Cursor.{Cursor, start_of}
use Rattle.co_program.specs.Follows.{cursor_after, scan_count, at_next_note}
use Rattle.co_program.specs.Groups.{IsCallOf, IsDrainOf, AreActsOf, IsRoundOf, IsNote, turns}
use Rattle.co_program.specs.Names.{FuncsExist, AllNotesName}
use Rattle.co_program.specs.Programs.{AreOfProgram}
use Rattle.co_program.specs.Runs.{notes_by, shown_histories, IsRunOf}
use Rattle.co_program.specs.Scripts.{IsScript}
use Rattle.co_program.specs.Stages.{Ready, Popping, Firing, Drained}

-- what the notes of a run name exists, where the functions that the script's acts name do
abbrev pub RunsNameWhatExists : Type 0
RunsNameWhatExists = (s : Script) (lists : List (List Note)) → IsScript s → FuncsExist s → IsRunOf s lists → AllNotesName s lists

-- ---- what the list of an actor looks like

-- the list of an actor is that of its program: the notes of its acts, each once and in order, and no others
abbrev pub ActsMakeTheirNotes : Type 0
ActsMakeTheirNotes = (s : Script) (lists : List (List Note)) (a : ℕ) → IsScript s → IsRunOf s lists → a < actor_count s → AreOfProgram s (shown_histories lists) a (role_of s a) (notes_by lists a)

-- the actor's cursor after these notes, past the steps that make none: before its next note
abbrev pub cursor_before_next : Script → List (List Note) → ℕ → List Note → Cursor
cursor_before_next s lists a notes = at_next_note s a (cursor_after s (shown_histories lists) a (start_of s a) notes)

-- nothing is left to do, no lock is held, no stage of an act is open and no callout is on its way
pub record HasNothingLeft (c : Cursor) : Type 0 where
  pub left : c.left ≡ []
  pub hold : c.hold ≡ None
  pub stage : c.stage ≡ Ready
  pub parcel : c.parcel ≡ None

-- wherever the notes of its list lead, the actor's program has ended exactly where that is so; and so it is after all of them
pub record EndsWhereNothingIsLeft (s : Script) (lists : List (List Note)) (a : ℕ) : Type 0 where
  pub ends : (before after : List Note) → notes_by lists a ≡ before ++ after → action_for s a (cursor_before_next s lists a before) ≡ Nothing → HasNothingLeft (cursor_before_next s lists a before)
  pub only : (before : List Note) → HasNothingLeft (cursor_before_next s lists a before) → action_for s a (cursor_before_next s lists a before) ≡ Nothing
  pub ended : HasNothingLeft (cursor_before_next s lists a (notes_by lists a))

abbrev pub ProgramsEndWhereNothingIsLeft : Type 0
ProgramsEndWhereNothingIsLeft = (s : Script) (lists : List (List Note)) (a : ℕ) → IsScript s → IsRunOf s lists → a < actor_count s → EndsWhereNothingIsLeft s lists a

-- after these notes of its list, the actor's program asks this next
pub record IsDueNext (s : Script) (lists : List (List Note)) (a : ℕ) (before after : List Note) (act : ℕ) (asked : Asked) : Type 0 where
  pub run : IsRunOf s lists
  pub actor : a < actor_count s
  pub notes : notes_by lists a ≡ before ++ after
  pub next : action_for s a (cursor_before_next s lists a before) ≡ Asks act asked
  -- and no note of that has been made
  pub begins : (cursor_before_next s lists a before).removed ≡ None

-- the notes begin so
pub record Begin (Is : List Note → Type 0) (notes : List Note) : Type 0 where
  pub front : List Note
  pub rest : List Note
  pub split : notes ≡ front ++ rest
  pub is : Is front

-- where a call comes next, it is covered by what the actor holds, and the next notes are the call's group
pub record IsCovered (s : Script) (lists : List (List Note)) (a : ℕ) (before after : List Note) (act i : ℕ) (op : CallOp) : Type 0 where
  pub hold : covers (cursor_before_next s lists a before).hold (spec_at s i) op ≡ true
  pub reply : Reply
  pub notes : Begin (IsCallOf s (shown_histories lists) a act i op reply) after

abbrev pub CallsAreGroups : Type 0
CallsAreGroups = (s : Script) (lists : List (List Note)) (a : ℕ) (before after : List Note) (act i : ℕ) (op : CallOp) →
    IsDueNext s lists a before after act (Callout i (Call op)) → IsCovered s lists a before after act i op

-- where a drain comes next, the next notes are the groups of its tries: those that wait, and one that is done
abbrev pub DrainsAreGroups : Type 0
DrainsAreGroups = (s : Script) (lists : List (List Note)) (a : ℕ) (before after : List Note) (act i : ℕ) (took : Bool) →
    IsDueNext s lists a before after act (Callout i (Call (DrainTry took))) → Begin (IsDrainOf s (shown_histories lists) a act i took) after

-- after these notes of its list, these acts are left of the function, or of the drain function, that the actor makes in a service
pub record IsInFunction (s : Script) (lists : List (List Note)) (a : ℕ) (before after : List Note) (v : InService) (acts : List Act) : Type 0 where
  pub run : IsRunOf s lists
  pub actor : a < actor_count s
  pub notes : notes_by lists a ≡ before ++ after
  pub stage : ((cursor_before_next s lists a before).stage ≡ Firing v acts) ⊎ ((cursor_before_next s lists a before).stage ≡ Drained v acts)
  -- and no note of the first of them has been made, and no callout is on its way
  pub begins : (cursor_before_next s lists a before).removed ≡ None
  pub parcel : (cursor_before_next s lists a before).parcel ≡ None

-- where these acts come next, the next notes are theirs: for each the group of its call, or NotHeld where that is not covered
abbrev pub FunctionsMakeTheirActs : Type 0
FunctionsMakeTheirActs = (s : Script) (lists : List (List Note)) (a : ℕ) (before after : List Note) (v : InService) (acts : List Act) → IsScript s → IsInFunction s lists a before after v acts →
    Begin (AreActsOf s (shown_histories lists) a (cpu_of s (role_of s a)) v (cursor_before_next s lists a before).hold (cursor_before_next s lists a before).act acts) after

-- after these notes of its list, the actor is about to take the next callout from its queue
pub record IsPopping (s : Script) (lists : List (List Note)) (a : ℕ) (before after : List Note) (act : ℕ) : Type 0 where
  pub run : IsRunOf s lists
  pub actor : a < actor_count s
  pub notes : notes_by lists a ≡ before ++ after
  pub stage : (cursor_before_next s lists a before).stage ≡ Popping act
  pub begins : (cursor_before_next s lists a before).removed ≡ None
  pub parcel : (cursor_before_next s lists a before).parcel ≡ None

-- the next notes, in this act, are those of a round of services, whose function's acts are numbered from first on, or a Pop that finds nothing
abbrev pub IsRoundOrEmpty : Script → List (List Note) → ℕ → List Note → List Note → ℕ → ℕ → Type 0
IsRoundOrEmpty s lists a before after act first =
    Begin (IsRoundOf s (shown_histories lists) a (role_of s a) act first (cursor_before_next s lists a before).hold) after
    ⊎ Begin (IsNote (turns s (shown_histories lists) a act (cpu_of s (role_of s a)) (pop_of (role_of s a)) Empty)) after

abbrev pub RoundsAreOfServices : Type 0
RoundsAreOfServices = (s : Script) (lists : List (List Note)) (a : ℕ) (before after : List Note) (act : ℕ) → IsScript s → IsPopping s lists a before after act →
    IsRoundOrEmpty s lists a before after act (cursor_before_next s lists a before).act

-- after these notes of its list, soft act j of the actor's program is due
pub record IsSoftDue (s : Script) (lists : List (List Note)) (a : ℕ) (before after : List Note) (j : ℕ) : Type 0 where
  pub run : IsRunOf s lists
  pub actor : a < actor_count s
  pub notes : notes_by lists a ≡ before ++ after
  pub stage : (cursor_before_next s lists a before).stage ≡ Ready
  pub later : List Task
  pub left : (cursor_before_next s lists a before).left ≡ Soft j ∷ later
  pub begins : (cursor_before_next s lists a before).removed ≡ None
  pub parcel : (cursor_before_next s lists a before).parcel ≡ None

-- it begins with a Pop, before which at least j + 1 Scans stand in the history of the actor's CPU; and that Pop, in the act of
-- the next number, begins a round of services or finds nothing
pub record IsSoftBegun (s : Script) (lists : List (List Note)) (a : ℕ) (before after : List Note) (j : ℕ) : Type 0 where
  pub pop : Note
  pub rest : List Note
  pub split : after ≡ pop ∷ rest
  pub stands : pop.place ≡ place.Cpu (cpu_of s (role_of s a))
  pub scanned : j + 1 ≤ scan_count (take pop.pos (cpu_journal (cpu_of s (role_of s a)) lists))
  pub round : IsRoundOrEmpty s lists a before after (cursor_before_next s lists a before).act ((cursor_before_next s lists a before).act + 1)

abbrev pub SoftActsBeginWithRounds : Type 0
SoftActsBeginWithRounds = (s : Script) (lists : List (List Note)) (a : ℕ) (before after : List Note) (j : ℕ) → IsScript s → IsSoftDue s lists a before after j → IsSoftBegun s lists a before after j
