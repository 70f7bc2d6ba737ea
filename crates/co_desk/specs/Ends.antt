-- What the end of a service did, of the CPU's or of its interrupt's where `direct`.
use Rattle.std.specs.Prelude.{◌≡◌, ℕ, Bool, List, ◌∷◌}
use Rattle.std.specs.declared.option.Option.{Option}
use Rattle.std.specs.declared.option.Option.TheVariants.{None}
use Rattle.co_object.specs.declared.note.Note.{Note}
use Rattle.co_object.specs.declared.op.Op.TheVariants.{Run}
use Rattle.co_object.specs.declared.op.RunOp.TheVariants.{End}
use Rattle.co_object.specs.declared.queue.QReply.TheVariants.{Freed}
use Rattle.co_object.specs.Queue.{Due}
use Rattle.co_wheel.specs.declared.outs.EndOut.{EndOut}
use Rattle.co_wheel.specs.Turns.{free_of}
use Rattle.co_desk.specs.declared.finished.Finished.{Finished}
use Rattle.co_desk.specs.Call.{insertion_told}
use Rattle.co_desk.specs.Moving.{IsOfService, MovingView, target_of}
use Rattle.co_desk.specs.Outcomes.{noted_entry, noted_turn}
use Rattle.co_desk.specs.Services.{IsEndedBut}
use Rattle.co_desk.specs.Views.{PassesView}

-- the notes of what was told: the End, the Free, and the Insert of what landed
abbrev pub finished_notes : (actor act : ℕ) → Finished → List Note
finished_notes actor act f =
    noted_entry f.i (record { actor = actor; act = act; op = Run (End f.n f.cpu); reply = f.out.reply }) f.entry
    ∷ noted_turn actor act f.cpu (free_of f.direct) Freed f.freed
    ∷ insertion_told actor act f.i f.insertion

-- what a desk tells of an end
abbrev pub end_told : (direct : Bool) (cpu i n : ℕ) → EndOut → (entry freed : ℕ) → Finished
end_told direct cpu i n out entry freed = record { out = out; direct = direct; cpu = cpu; i = i; n = n; entry = entry; freed = freed; insertion = None }

-- a desk has ended the service of this arming
pub record IsFinished (direct : Bool) (p : PassesView) (cpu act : ℕ) (d : Due) (f : Finished) (gone : Option MovingView) (q : PassesView) : Type 0 where
  pub ended : IsEndedBut direct p cpu act d f.out.reply (target_of gone) (finished_notes p.actor act f) q
  pub callout : f.i ≡ d.i
  -- where the callout goes on to another CPU, its Insert is still to come
  pub room : f.insertion ≡ None
  pub leaves : IsOfService p.params d.i gone
