-- Worked texts, read by computation: a report without notes, and the refusals of others.
use Rattle.std.proofs.Common.{◌≡◌, ℕ, true, false, List, [], ◌∷◌, ◌++◌, refl}
use Rattle.std.specs.Prelude.{codes, Result, Ok, Err}
use Rattle.std.specs.Fmt.{digits}
use Prim.Native.String.{String}
use Rattle.co_object.specs.declared.LockUse.TheVariants.{Free}
use Rattle.co_object.specs.declared.PlainOp.TheVariants.{Retire}
use Rattle.co_object.specs.declared.CallOp.TheVariants.{Plain}
use Rattle.co_object.specs.declared.Op.TheVariants.{Call}
use Rattle.co_object.specs.declared.Reply.TheVariants.{InUse}
use Rattle.co_object.specs.declared.QOp.TheVariants.{PopDirect}
use Rattle.co_object.specs.declared.QReply.TheVariants.{Empty}
use Rattle.co_object.specs.declared.OwnKind.TheVariants.{Holding}
use Rattle.co_object.specs.declared.AnyEntry.TheVariants as entry
use Rattle.co_object.specs.declared.Place.TheVariants as place
use Rattle.co_program.specs.declared.Script.{Script}
use Rattle.co_text.specs.Fallible.{Refusal}
use Rattle.co_text.specs.declared.cause.Cause.{Cause}
use Rattle.co_text.specs.declared.cause.Cause.TheVariants as cause
use Rattle.co_script.specs.Reading.{script_of}
use Rattle.co_script.specs.Canonical.{canonical, canonical_lines}
use Rattle.co_report.specs.declared.line.Report.{Report}
use Rattle.co_notes.specs.NoteForms.{run_forms, op_forms, valued_replies, reply_forms, queue_forms, answer_forms}
use Rattle.co_report.specs.Reading.{report_read}

abbrev text_of : List String → List ℕ
text_of [] = []
text_of (s ∷ ss) = codes s ++ 10 ∷ text_of ss

abbrev refused : ℕ → Cause → Result Report Refusal
refused k c = Err (record { line = k; cause = c })

abbrev script : Script
script = record { version = 1; hz = 1000; cpus = 1; buckets = 256; locks = []; timers = record { lock = Free; returns_unlocked = false; direct = false } ∷ []; funcs = []; clients = []; ticks = [] ∷ []; turns = [] }

abbrev head : List String
head = "callout-report 1" ∷ "callout 1" ∷ "hz 1000" ∷ "cpus 1" ∷ "wheel 256" ∷ "funcs 0" ∷ "timer 0 mpsafe" ∷ "cpu 0" ∷ "histories" ∷ []

nothing : report_read [] ≡ refused 0 cause.Version
unfolding report_read
nothing = refl

cut : report_read (text_of ("callout-report 2" ∷ []) ++ codes "end") ≡ refused 2 cause.Cut
unfolding report_read
cut = refl

other_version : report_read (text_of ("callout-report 01" ∷ [])) ≡ refused 1 cause.Version
unfolding report_read
other_version = refl

no_histories : report_read (text_of ("callout-report 1" ∷ "end" ∷ [])) ≡ refused 0 cause.Note
unfolding report_read
no_histories = refl

bad_script : report_read (text_of ("callout-report 1" ∷ "callout 1" ∷ "hz 0" ∷ "histories" ∷ [])) ≡ refused 3 cause.Number
unfolding report_read script_of
bad_script = refl

no_timer : report_read (text_of ("callout-report 1" ∷ "callout 1" ∷ "histories" ∷ [])) ≡ refused 0 cause.Timer
unfolding report_read script_of
no_timer = refl

not_canonical : report_read (text_of ("callout-report 1" ∷ "callout 1" ∷ "timer 0 mpsafe" ∷ "histories" ∷ [])) ≡ refused 3 cause.Form
unfolding report_read script_of canonical canonical_lines digits
not_canonical = refl

without_notes : report_read (text_of (head ++ "timer 0" ∷ "wheel 0" ∷ "actor p0" ∷ "end" ∷ [])) ≡ Ok (record { script = script; lines = []; end = 13 })
unfolding report_read script_of canonical canonical_lines digits
without_notes = refl

behind_end : report_read (text_of (head ++ "timer 0" ∷ "wheel 0" ∷ "actor p0" ∷ "end" ∷ "end" ∷ [])) ≡ refused 14 cause.Note
unfolding report_read script_of canonical canonical_lines digits
behind_end = refl

without_end : report_read (text_of (head ++ "timer 0" ∷ "wheel 0" ∷ "actor p0" ∷ [])) ≡ refused 13 cause.Note
unfolding report_read script_of canonical canonical_lines digits
without_end = refl

minus_zero : report_read (text_of (head ++ "timer 0" ∷ "0 p0/0 stop = stopped -1 off -" ∷ "1 p0/0 stop = stopped -0 off -" ∷ [])) ≡ refused 12 cause.Note
unfolding report_read script_of canonical canonical_lines digits run_forms op_forms valued_replies reply_forms queue_forms answer_forms
minus_zero = refl

no_callout : report_read (text_of (head ++ "timer 0" ∷ "wheel 0" ∷ "0 p0/0 remove i0 = off" ∷ "1 p0/0 remove i1 = off" ∷ [])) ≡ refused 13 cause.Note
unfolding report_read script_of canonical canonical_lines digits run_forms op_forms valued_replies reply_forms queue_forms answer_forms
no_callout = refl

-- a note of each kind of place
notes : report_read (text_of (head ++ "timer 0" ∷ "0 p0/0 retire = inuse 1 0" ∷ "wheel 0" ∷ "2 p0/1 pop direct = empty" ∷ "actor p0" ∷ "1 p0/1 holding" ∷ "end" ∷ [])) ≡ Ok (record {
  script = script;
  lines =
      record { line = 11; place = place.Timer 0; number = 0; entry = entry.Timer (record { actor = 0; act = 0; op = Call (Plain Retire); reply = InUse true false }) }
      ∷ record { line = 13; place = place.Cpu 0; number = 2; entry = entry.Cpu (record { actor = 0; act = 1; op = PopDirect; reply = Empty }) }
      ∷ record { line = 15; place = place.Actor 0; number = 1; entry = entry.Own (record { actor = 0; act = 1; kind = Holding }) }
      ∷ [];
  end = 16;
})
unfolding report_read script_of canonical canonical_lines digits run_forms op_forms valued_replies reply_forms queue_forms answer_forms
notes = refl
