-- Notes that name what exists, with values that their types allow, are notes that a report may have; so are those of a run.
use Rattle.std.proofs.Common.{◌≡◌, ℕ, Bool, true, false, cond, List, [], ◌∷◌, length, ◌<◌, ◌^◌, max, subst, refl}
use Rattle.std.specs.Prelude.{Option, Some, None}
use Rattle.std.specs.List.{AllByRecursion}
use Rattle.co_object.specs.declared.QOp.{QOp}
use Rattle.co_object.specs.declared.QOp.TheVariants as queue
use Rattle.co_object.specs.declared.QReply.{QReply}
use Rattle.co_object.specs.declared.QReply.TheVariants as answer
use Rattle.co_object.specs.declared.AnyEntry.{AnyEntry}
use Rattle.co_object.specs.declared.AnyEntry.TheVariants as of
use Rattle.co_object.specs.declared.Place.{Place}
use Rattle.co_object.specs.declared.Place.TheVariants as place
use Rattle.co_object.specs.declared.Note.{Note}
use Rattle.co_object.specs.Queue.{Queue, Due, holds}
use Rattle.co_object.specs.Journal.{step, reply_of, scan, pop_first, pop_unless, free_if, pop_urgent, pop_direct_unless, free_direct_if}
use Rattle.co_program.specs.declared.Script.{Script}
use Rattle.co_program.specs.Names.{EntryNames, NotesName, AllNotesName}
use Rattle.co_program.specs.Runs.{IsRunOf, are_direct}
use Rattle.co_program.proofs.RunsName.{runs_name}
use Rattle.co_script.specs.Fits.{fits}
use Rattle.co_script.proofs.Accepted.{fits-accepted}
use Rattle.co_script.proofs.FuncsFit.{funcs_exist}
use Rattle.co_notes.specs.NoteForms.{may_answer}
use Rattle.co_notes.specs.NoteFits.{EntryFits}
use Rattle.co_report.specs.Laws.{ListsFit}
use Rattle.co_report.specs.Typed.{EntryTyped, ListsTyped}

-- ---- the answers of a queue

module _ (m : ℕ) (direct : List Bool) where
  abbrev Answers : QOp → Option (Queue × QReply) → QReply → Type 0
  Answers o outcome r = reply_of outcome ≡ Some r → may_answer o r ≡ true

  this : (o : QOp) (q : Queue) (a r : QReply) → may_answer o a ≡ true → Answers o (Some (q, a)) r
  this o q a r may h = let same : a ≡ r = cc in subst (λ (x : QReply). may_answer o x ≡ true) same may

  never : (o : QOp) (r : QReply) → Answers o None r
  never o r h = cc

  inserted : (i n t : ℕ) (b : Bool) (q : Queue) (u : ℕ) (r : QReply) → Answers (queue.Insert i n t) (cond b None (Some (q, answer.At u))) r
  inserted i n t true q u r = never (queue.Insert i n t) r
  inserted i n t false q u r = this (queue.Insert i n t) q (answer.At u) r refl

  removed : (i : ℕ) (b : Bool) (q p : Queue) (r : QReply) → Answers (queue.Remove i) (Some (cond b (q, answer.Off) (p, answer.Missing))) r
  removed i true q p r = this (queue.Remove i) q answer.Off r refl
  removed i false q p r = this (queue.Remove i) p answer.Missing r refl

  took : (q : Queue) (ds : List Due) (r : QReply) → Answers queue.Pop (Some (pop_first q ds)) r
  took q [] r = this queue.Pop q answer.Empty r refl
  took q (d ∷ ds) r = this queue.Pop (record q { expired = ds; serving = Some d }) (answer.Got d.i d.n q.last) r refl

  popped : (q : Queue) (serving : Option Due) (r : QReply) → Answers queue.Pop (pop_unless q serving) r
  popped q None r = took q q.expired r
  popped q (Some d) r = never queue.Pop r

  took_urgent : (q : Queue) (ds : List Due) (r : QReply) → Answers queue.PopDirect (Some (pop_urgent q ds)) r
  took_urgent q [] r = this queue.PopDirect q answer.Empty r refl
  took_urgent q (d ∷ ds) r = this queue.PopDirect (record q { urgent = ds; directing = Some d }) (answer.Got d.i d.n q.last) r refl

  popped_urgent : (q : Queue) (directing : Option Due) (r : QReply) → Answers queue.PopDirect (pop_direct_unless q directing) r
  popped_urgent q None r = took_urgent q q.urgent r
  popped_urgent q (Some d) r = never queue.PopDirect r

  freed : (q : Queue) (serving : Option Due) (r : QReply) → Answers queue.Free (free_if q serving) r
  freed q None r = never queue.Free r
  freed q (Some d) r = this queue.Free (record q { serving = None }) answer.Freed r refl

  freed_direct : (q : Queue) (directing : Option Due) (r : QReply) → Answers queue.FreeDirect (free_direct_if q directing) r
  freed_direct q None r = never queue.FreeDirect r
  freed_direct q (Some d) r = this queue.FreeDirect (record q { directing = None }) answer.Freed r refl

  answered : (q : Queue) (o : QOp) (r : QReply) → Answers o (step m direct q o) r
  answered q (queue.Insert i n t) r = inserted i n t (holds q i) _ (max t q.last) r
  answered q (queue.Remove i) r = removed i (holds q i) _ q r
  answered q (queue.Scan now) r = this (queue.Scan now) (scan m direct q now).0 (scan m direct q now).1 r refl
  answered q queue.Pop r = popped q q.serving r
  answered q queue.PopDirect r = popped_urgent q q.directing r
  answered q queue.Free r = freed q q.serving r
  answered q queue.FreeDirect r = freed_direct q q.directing r

module _ (s : Script) where
  entry_fits : (p : Place) (e : AnyEntry) → EntryNames s p e → EntryTyped e → EntryFits s p e
  entry_fits (place.Timer i) (of.Timer e) n t = ((n.0, t.0), ((t.1.0, n.1.0), (t.1.1, n.1.1)))
  entry_fits (place.Cpu c) (of.Cpu e) n t = ((n.0, t.0), (((t.1.0, n.1.op), (t.1.1, n.1.reply)), answered s.buckets (are_direct s) n.1.queue e.op e.reply n.1.answers))
  entry_fits (place.Actor a) (of.Own e) n t = ((n.0, t), n.1)
  entry_fits p e n t = absurd n

  notes_fit : (notes : List Note) → NotesName s notes → AllByRecursion (λ note. EntryTyped note.entry) notes → AllByRecursion (λ note. EntryFits s note.place note.entry) notes
  notes_fit [] n t = tt
  notes_fit (x ∷ notes) n t = (entry_fits x.place x.entry n.0 t.0, notes_fit notes n.1 t.1)

  all_fit : (lists : List (List Note)) → AllNotesName s lists → ListsTyped lists → AllByRecursion (λ notes. AllByRecursion (λ note. EntryFits s note.place note.entry) notes) lists
  all_fit [] n t = tt
  all_fit (notes ∷ lists) n t = (notes_fit notes n.0 t.0.entries, all_fit lists n.1 t.1)

  all_short : (lists : List (List Note)) → ListsTyped lists → AllByRecursion (λ notes. length notes < 2 ^ 64) lists
  all_short [] t = tt
  all_short (notes ∷ lists) t = (t.0.short, all_short lists t.1)

  pub lists_fit : (lists : List (List Note)) → AllNotesName s lists → ListsTyped lists → ListsFit s lists
  lists_fit lists n t = record { notes = all_fit lists n t; short = all_short lists t }

-- of a script that fits, what the notes of a run name exists
pub run_fits : (s : Script) (lists : List (List Note)) → fits s ≡ true → IsRunOf s lists → ListsTyped lists → ListsFit s lists
run_fits s lists f run typed = lists_fit s lists (runs_name s lists (fits-accepted s f) (funcs_exist s f) run) typed
