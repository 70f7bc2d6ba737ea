-- The notes of a call are its group.
use Rattle.std.proofs.Common.{◌≡◌, ℕ, ℤ, Bool, true, false, cond, List, [], ◌∷◌, ◌++◌, refl, sym, ap, ◌∙◌, subst}
use Rattle.std.specs.declared.option.Option.{Option}
use Rattle.std.specs.declared.option.Option.TheVariants.{Some, None}
use Rattle.co_object.specs.declared.note.Entry.{Entry}
use Rattle.co_object.specs.declared.note.Place.TheVariants as at
use Rattle.co_object.specs.declared.note.AnyEntry.TheVariants as of
use Rattle.co_object.specs.declared.state.Arming.{Arming}
use Rattle.co_object.specs.declared.state.State.{State}
use Rattle.co_object.specs.declared.op.Op.{Op}
use Rattle.co_object.specs.declared.reply.Reply.{Reply}
use Rattle.co_object.specs.declared.reply.Reply.TheVariants.{Armed, NotArmed, NoHandler, Worn, Stopped, Wait, Drained, Busy, Yes, No, Done, Go, Hold, Skip, Ended, Live, Retired, InUse}
use Rattle.co_object.specs.declared.queue.QOp.TheVariants.{Insert}
use Rattle.co_object.specs.declared.queue.QReply.TheVariants.{At}
use Rattle.co_object.specs.Entries.{is_armed}
use Rattle.co_object.specs.Group.{Placed, off_of, group, removal_notes}
use Rattle.co_object.specs.Stand.{Stand, Nowhere, Listed, Deferred, stand_of, listed_cpu, is_free_at, off}

abbrev pub entry_of : (actor act : ℕ) → Op → Reply → Entry
entry_of actor act op r = record { actor = actor; act = act; op = op; reply = r }

module _ (i actor act : ℕ) (op : Op) (t : State) (time : ℕ) where
  abbrev pub head : Reply → List Placed
  head r = removal_notes i (entry_of actor act op r) (off_of r) ++ ((at.Timer i, of.Timer (entry_of actor act op r)) ∷ [])

  -- a call that arms nothing puts nothing in
  pub unarmed_group : (r : Reply) → is_armed r ≡ false → group i (entry_of actor act op r) t time ≡ head r
  unarmed_group (Armed code n cpu o) h = absurd (cc)
  unarmed_group (NotArmed code) h = refl
  unarmed_group NoHandler h = refl
  unarmed_group Worn h = refl
  unarmed_group (Stopped code None) h = refl
  unarmed_group (Stopped code (Some x)) h = refl
  unarmed_group (Wait n took None) h = refl
  unarmed_group (Wait n took (Some x)) h = refl
  unarmed_group (Drained code None) h = refl
  unarmed_group (Drained code (Some x)) h = refl
  unarmed_group Busy h = refl
  unarmed_group Yes h = refl
  unarmed_group No h = refl
  unarmed_group Done h = refl
  unarmed_group (Go func arg) h = refl
  unarmed_group Hold h = refl
  unarmed_group Skip h = refl
  unarmed_group (Ended drain next woke) h = refl
  unarmed_group Live h = refl
  unarmed_group Retired h = refl
  unarmed_group (InUse armed serviced) h = refl

  -- the Insert of an arming that is listed
  abbrev put_notes : Arming → Option ℕ → List Placed
  put_notes m None = []
  put_notes m (Some cpu) = (at.Cpu cpu, of.Cpu (record { actor = actor; act = act; op = Insert i m.n m.due; reply = At time })) ∷ []

  abbrev pub listed_notes : Arming → Stand → List Placed
  listed_notes m Nowhere = []
  listed_notes m (Deferred cpu) = []
  listed_notes m (Listed cpu) = (at.Cpu cpu, of.Cpu (record { actor = actor; act = act; op = Insert i m.n m.due; reply = At time })) ∷ []

  listed_put : (m : Arming) (st : Stand) → listed_notes m st ≡ put_notes m (listed_cpu st)
  listed_put m Nowhere = refl
  listed_put m (Deferred cpu) = refl
  listed_put m (Listed cpu) = refl

  at_free : (code : ℤ) (n cpu : ℕ) (o : Option ℕ) (m : Arming) (b : Bool) → is_free_at t.run m.cpu ≡ b → group i (entry_of actor act op (Armed code n cpu o)) (record t { armed = Some m }) time ≡ head (Armed code n cpu o) ++ listed_notes m (cond b (Listed m.cpu) (Deferred m.cpu))
  at_free code n cpu None m true is = rw is
  at_free code n cpu (Some x) m true is = rw is
  at_free code n cpu None m false is = rw is
  at_free code n cpu (Some x) m false is = rw is

  pub group_listed : (code : ℤ) (n cpu : ℕ) (o : Option ℕ) (m : Arming) → group i (entry_of actor act op (Armed code n cpu o)) (record t { armed = Some m }) time ≡ head (Armed code n cpu o) ++ listed_notes m (stand_of (Some m) t.run)
  group_listed code n cpu o m = at_free code n cpu o m (is_free_at t.run m.cpu) refl

  -- a call that arms puts in what is then listed
  pub armed_group : (code : ℤ) (n cpu : ℕ) (o : Option ℕ) (m : Arming) (x : Option ℕ) → t.armed ≡ Some m → off t ≡ x → group i (entry_of actor act op (Armed code n cpu o)) t time ≡ head (Armed code n cpu o) ++ put_notes m x
  armed_group code n cpu o m x armed is =
      subst (λ (a : Option Arming). (y : Option ℕ) → listed_cpu (stand_of a t.run) ≡ y → group i (entry_of actor act op (Armed code n cpu o)) (record t { armed = a }) time ≡ head (Armed code n cpu o) ++ put_notes m y) (sym armed)
      (λ y at. group_listed code n cpu o m ∙ ap (λ (ns : List Placed). head (Armed code n cpu o) ++ ns) (listed_put m (stand_of (Some m) t.run) ∙ ap (put_notes m) at)) x is
