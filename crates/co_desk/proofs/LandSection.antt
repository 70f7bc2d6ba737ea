-- The section of a landing on a desk: what its wheel and its books have after it.
use Rattle.std.proofs.Common.{◌≡◌, ℕ, ◌<◌, true, false, List, [], ◌∷◌, ◌++◌, length, set, refl, sym, ap, ◌∙◌, subst, arith}
use Rattle.std.specs.Prelude.{is_some, slice_set}
use Rattle.std.specs.declared.option.Option.{Option}
use Rattle.std.specs.declared.option.Option.TheVariants.{Some, None}
use Rattle.co_object.specs.declared.alone.Alone.{Alone}
use Rattle.co_object.specs.declared.note.Entry.{Entry}
use Rattle.co_object.specs.declared.note.QEntry.{QEntry}
use Rattle.co_object.specs.declared.queue.QOp.{QOp}
use Rattle.co_object.specs.declared.queue.QReply.{QReply}
use Rattle.co_object.specs.declared.queue.QOp.TheVariants.{Insert}
use Rattle.co_object.specs.declared.queue.QReply.TheVariants.{At}
use Rattle.co_object.specs.declared.state.Arming.{Arming}
use Rattle.co_object.specs.Stand.{listed_cpu, stand_of, is_idle}
use Rattle.co_wheel.specs.Callouts.{Callouts}
use Rattle.co_wheel.specs.Cpu.{Cpu}
use Rattle.co_wheel.specs.Parcel.{Parcel}
use Rattle.co_wheel.specs.Sections.{IsLanding}
use Rattle.co_desk.specs.declared.params.Params.{Params}
use Rattle.co_desk.specs.Books.{BooksView, is_kept}
use Rattle.co_desk.specs.Desk.{IsAtCpu, IsDesk, Owes, StandsAs, alone_after, is_scan}
use Rattle.co_desk.proofs.CallJoined.{idle_free}
use Rattle.co_desk.proofs.CallKept.{some_off}
use Rattle.co_desk.proofs.CalledDesk.{of_changed, stand_after}
use Rattle.co_desk.proofs.DeskKept.{owes_next, owes_turns, scans_same}

-- what comes to a desk: its state is what its history gives, no service has it, and it is armed at this CPU
pub record Comes (b : BooksView) (parcel : Parcel) (H : List Entry) (n due : ℕ) : Type 0 where
  pub below : parcel.i < length b.timers
  pub absent : is_kept b parcel.i ≡ false
  pub callout_is : parcel.callout ≡ alone_after b.params parcel.i H
  pub idle : is_idle parcel.callout.state.run ≡ true
  pub armed : parcel.callout.state.armed ≡ Some parcel.arming
  pub here : parcel.arming.cpu ≡ b.cpu
  pub number : n ≡ parcel.arming.n
  pub due_is : due ≡ parcel.arming.due

-- a callout whose history isn't there has no record
pub absent_at : (p : Params) (i : ℕ) (o : Option Alone) (h : Option (List Entry)) → StandsAs p i o h → is_some h ≡ false → is_some o ≡ false
absent_at p i None h st none = refl
absent_at p i (Some a) None st none = absurd st
absent_at p i (Some a) (Some H) st none = absurd (cc)

module _ (w : Cpu) (b : BooksView) (scans : ℕ) (parcel : Parcel) (H : List Entry) (n due : ℕ) (desk : IsDesk w b scans) (is : Comes b parcel H n due) where
  at_here : IsAtCpu b.cpu parcel.callout
  at_here = record {
    runs = idle_free parcel.callout.state.run b.cpu is.idle;
    listed = λ x listed. (some_off parcel.arming parcel.callout.state.run x (ap (λ (o : Option Arming). listed_cpu (stand_of o parcel.callout.state.run)) (sym is.armed) ∙ listed)).1 ∙ is.here;
  }

  module _ (w' : Cpu) (time : ℕ) (lands : IsLanding w w' parcel time) where
    pub owes_insert : Owes ((Insert parcel.i n due, At time) ∷ []) w' b
    owes_insert = subst (λ (t : ℕ × ℕ). Owes ((Insert parcel.i t.0 t.1, At time) ∷ []) w' b) (λ d. (sym is.number d, sym is.due_is d))
        (owes_turns w w' b ((Insert parcel.i parcel.arming.n parcel.arming.due, At time) ∷ []) desk.of desk.shown lands.queue)

    pub landed_desk : (e : QEntry) → e.op ≡ Insert parcel.i n due → e.reply ≡ At time → IsDesk w' (record b { timers = slice_set b.timers parcel.i (Some H); journal = b.journal ++ e ∷ [] }) scans
    landed_desk e op reply = record {
      of = of_changed w w' b parcel.i desk.of desk.stand is.below (Some parcel.callout) (Some H) (b.journal ++ e ∷ []) here_now _ lands.queue (ap (λ (c : Callouts). c.cpu) lands.callouts);
      stand = stand_after w w' b parcel.i desk.of desk.stand is.below (Some parcel.callout) (Some H) (b.journal ++ e ∷ []) here_now is.callout_is at_here;
      shown = record { takes = (owes_next b e [] w' (subst (λ (t : QOp × QReply). Owes (t ∷ []) w' b) (λ d. (sym op d, sym reply d)) owes_insert)).takes };
      counted = let same = scans_same b e (ap is_scan op) in let before = desk.counted in omega arith;
    } where
      here_now : w'.callouts.here ≡ set w.callouts.here parcel.i (Some parcel.callout)
      here_now = ap (λ (c : Callouts). c.here) lands.callouts
