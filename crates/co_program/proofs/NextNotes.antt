-- The note that comes next where a queue's turn is asked, or the callout of a service.
use Rattle.std.proofs.Common.{◌≡◌, ℕ, ◌+◌, Bool, false, List, ◌∷◌, take, sym, ap, subst, ◌∙◌, Some, None}
use Rattle.co_object.specs.declared.State.{State}
use Rattle.co_object.specs.declared.Note.{Note}
use Rattle.co_object.specs.declared.Place.{Place}
use Rattle.co_object.specs.declared.Place.TheVariants as place
use Rattle.co_object.specs.declared.AnyEntry.{AnyEntry}
use Rattle.co_object.specs.declared.AnyEntry.TheVariants as entry
use Rattle.co_object.specs.declared.Entry.{Entry}
use Rattle.co_object.specs.declared.QEntry.{QEntry}
use Rattle.co_object.specs.declared.Op.TheVariants.{Run}
use Rattle.co_object.specs.declared.RunOp.{RunOp}
use Rattle.co_object.specs.declared.QOp.{QOp}
use Rattle.co_object.specs.declared.QReply.{QReply}
use Rattle.co_object.specs.declared.Reply.{Reply}
use Rattle.co_object.specs.Callout.{step}
use Rattle.co_object.specs.Group.{placed}
use Rattle.co_object.specs.History.{state}
use Rattle.co_object.specs.Journal as journal
use Rattle.co_object.specs.Queue.{Queue}
use Rattle.co_program.specs.declared.script.Script.{Script}
use Rattle.co_program.specs.declared.cursor.InService.{InService}
use Rattle.co_program.specs.declared.action.Asked.TheVariants.{Callout, Queue as IsQueue}
use Rattle.co_program.specs.Cursor.{Cursor}
use Rattle.co_program.specs.Action.{Asks, spec_at, action_for}
use Rattle.co_program.specs.Advance.{advance_callout, advance_queue, advance}
use Rattle.co_program.specs.Follows.{Histories, FitsCallout, FitsQueue, goes_on, at_next_note, listed_after}
use Rattle.co_program.specs.Groups.{serves, turns}
use Rattle.co_program.specs.Runs.{are_direct}
use Rattle.co_program.proofs.Rests.{IsKnownEntry, KnownAt, IsRest, first}

module _ (s : Script) (H : Histories) (a : ℕ) where
  pub record IsTurnFirst (d : Cursor) (act cpu : ℕ) (op : QOp) (notes : List Note) : Type 0 where
    pub note : Note
    pub rest : List Note
    pub split : notes ≡ note ∷ rest
    pub reply : QReply
    pub at : placed note ≡ turns s H a act cpu op reply
    pub queue : Queue
    pub answers : journal.reply_of (journal.step s.buckets (are_direct s) queue op) ≡ Some reply
    pub later : IsRest s H a (at_next_note s a (advance_queue s d cpu op reply)) rest

  pub turn-first : (d : Cursor) (act cpu : ℕ) (op : QOp) (notes : List Note) → IsRest s H a d notes → action_for s a d ≡ Asks act (IsQueue cpu op) → IsTurnFirst d act cpu op notes
  turn-first d act cpu op notes rest is =
      let f = first s H a d notes act (IsQueue cpu op) rest is in
      by f.note.place f.note.pos f.note.entry f.rest f.split f.fits f.known f.later where
        by : (p : Place) (pos : ℕ) (x : AnyEntry) (later : List Note) → notes ≡ record { place = p; pos = pos; entry = x } ∷ later →
            FitsQueue a act cpu op p x → KnownAt s H pos p x → IsRest s H a (at_next_note s a (goes_on s H d (record { place = p; pos = pos; entry = x }))) later → IsTurnFirst d act cpu op notes
        by (place.Cpu x) pos (entry.Cpu e) later split fits known on = record {
          note = record { place = place.Cpu x; pos = pos; entry = entry.Cpu e };
          rest = later;
          split = split;
          reply = e.reply;
          at = ap (λ (k : ℕ). (place.Cpu k, entry.Cpu e)) fits.0 ∙ ap (λ (y : QEntry). (place.Cpu cpu, entry.Cpu y)) fits.1;
          queue = known.queue;
          answers = subst (λ (y : QEntry). journal.reply_of (journal.step s.buckets (are_direct s) known.queue y.op) ≡ Some e.reply) fits.1 known.answers;
          later = subst (λ (c : Cursor). IsRest s H a (at_next_note s a c) later) (ap (λ (y : QEntry). advance s d false (place.Cpu x) (entry.Cpu y)) fits.1 ∙ ap (λ (k : ℕ). advance_queue s d k op e.reply) fits.0) on;
        }
        by p pos x later split fits known on = absurd fits

  pub record IsServeFirst (d : Cursor) (v : InService) (op : RunOp) (notes : List Note) : Type 0 where
    pub note : Note
    pub rest : List Note
    pub split : notes ≡ note ∷ rest
    pub reply : Reply
    pub at : placed note ≡ serves s H a v op reply
    pub before : State
    pub after : State
    pub answers : step (spec_at s v.i) before (Run op) ≡ Some (after, reply)
    pub listed : Bool
    pub later : IsRest s H a (at_next_note s a (advance_callout s (record d { removed = None }) v.i listed (Run op) reply d.stage)) rest

  pub serve-first : (d : Cursor) (v : InService) (op : RunOp) (notes : List Note) → IsRest s H a d notes → action_for s a d ≡ Asks v.act (Callout v.i (Run op)) → IsServeFirst d v op notes
  serve-first d v op notes rest is =
      let f = first s H a d notes v.act (Callout v.i (Run op)) rest is in
      by f.note.place f.note.pos f.note.entry f.rest f.split f.fits f.known f.later where
        by : (p : Place) (pos : ℕ) (x : AnyEntry) (later : List Note) → notes ≡ record { place = p; pos = pos; entry = x } ∷ later →
            FitsCallout a v.act v.i (Run op) d.removed p x → KnownAt s H pos p x → IsRest s H a (at_next_note s a (goes_on s H d (record { place = p; pos = pos; entry = x }))) later → IsServeFirst d v op notes
        by (place.Timer j) pos (entry.Timer e) later split fits known on =
            let same : record { place = place.Timer j; pos = pos; entry = entry.Timer e } ≡ record { place = place.Timer v.i; pos = pos; entry = entry.Timer (record { actor = a; act = v.act; op = Run op; reply = e.reply }) } =
            ap (λ (k : ℕ). record { place = place.Timer k; pos = pos; entry = entry.Timer e }) fits.0 ∙ ap (λ (y : Entry). record { place = place.Timer v.i; pos = pos; entry = entry.Timer y }) fits.1 in
            let here : IsKnownEntry s H v.i pos e = subst (λ (k : ℕ). IsKnownEntry s H k pos e) fits.0 known in
            record {
              note = record { place = place.Timer j; pos = pos; entry = entry.Timer e };
              rest = later;
              split = split;
              reply = e.reply;
              at = ap placed same;
              before = here.before;
              after = state (spec_at s v.i) (take (pos + 1) (H.timers v.i));
              answers = sym (ap (step (spec_at s v.i) here.before) (ap (λ (y : Entry). y.op) fits.1)) ∙ here.answers;
              listed = listed_after s H (place.Timer v.i) pos;
              later = subst (λ (n : Note). IsRest s H a (at_next_note s a (goes_on s H d n)) later) same on;
            }
        by p pos x later split fits known on = absurd fits
