-- The group of a call: one entry of its callout, and beside it entries of CPUs' journals.
use Rattle.std.proofs.Common.{◌≡◌, ℕ, ℤ, Bool, true, false, List, [], ◌∷◌, ◌++◌, refl}
use Rattle.std.specs.declared.option.Option.{Option}
use Rattle.std.specs.declared.option.Option.TheVariants.{Some, None}
use Rattle.co_object.specs.declared.note.AnyEntry.{AnyEntry}
use Rattle.co_object.specs.declared.note.AnyEntry.TheVariants as of
use Rattle.co_object.specs.declared.note.Entry.{Entry}
use Rattle.co_object.specs.declared.note.Place.{Place}
use Rattle.co_object.specs.declared.note.Place.TheVariants as at
use Rattle.co_object.specs.declared.op.Op.{Op}
use Rattle.co_object.specs.declared.reply.Reply.{Reply}
use Rattle.co_object.specs.declared.reply.Reply.TheVariants.{Armed}
use Rattle.co_object.specs.declared.state.Arming.{Arming}
use Rattle.co_object.specs.declared.state.State.{State}
use Rattle.co_object.specs.Entries.{is_armed}
use Rattle.co_object.specs.Group.{Placed, off_of, group}
use Rattle.co_object.specs.Stand.{off}
use Rattle.co_object.proofs.CallGroups.{armed_group, entry_of, insertion, removal, unarmed_group}

abbrev IsAside : Place → AnyEntry → Type 0
IsAside (at.Cpu c) (of.Cpu e) = Unit {0}
IsAside (at.Cpu c) (of.Timer e) = ⊥
IsAside (at.Cpu c) (of.Own e) = ⊥
IsAside (at.Timer i) e = ⊥
IsAside (at.Actor a) e = ⊥

-- entries of CPUs' journals alone
abbrev pub AreAside : List Placed → Type 0
AreAside [] = Unit {0}
AreAside (p ∷ ps) = IsAside p.0 p.1 × AreAside ps

-- callout i has this entry among these, and no other callout has one
pub record HasOne (i : ℕ) (e : Entry) (ps : List Placed) : Type 0 where
  pub before : List Placed
  pub after : List Placed
  pub aside : AreAside before
  pub aside_too : AreAside after
  pub is : ps ≡ before ++ (at.Timer i, of.Timer e) ∷ after

module _ (i actor act : ℕ) (op : Op) (t : State) (time : ℕ) where
  removal_aside : (o : Option ℕ) → AreAside (removal i actor act op t time o)
  removal_aside None = tt
  removal_aside (Some cpu) = (tt, tt)

  insertion_aside : (m : Arming) (o : Option ℕ) → AreAside (insertion i actor act op t time m o)
  insertion_aside m None = tt
  insertion_aside m (Some cpu) = (tt, tt)

  one_unarmed : (r : Reply) → is_armed r ≡ false → HasOne i (entry_of actor act op r) (group i (entry_of actor act op r) t time)
  one_unarmed r h = record {
    before = removal i actor act op t time (off_of r);
    after = [];
    aside = removal_aside (off_of r);
    aside_too = tt;
    is = unarmed_group i actor act op t time r h;
  }

one_armed : (i actor act : ℕ) (op : Op) (t : State) (time : ℕ) (code : ℤ) (n cpu : ℕ) (o : Option ℕ) (x : Option Arming) → HasOne i (entry_of actor act op (Armed code n cpu o)) (group i (entry_of actor act op (Armed code n cpu o)) (record t { armed = x }) time)
one_armed i actor act op t time code n cpu None None = record { before = []; after = []; aside = tt; aside_too = tt; is = refl }
one_armed i actor act op t time code n cpu (Some y) None = record { before = removal i actor act op t time (Some y); after = []; aside = (tt, tt); aside_too = tt; is = refl }
one_armed i actor act op t time code n cpu o (Some m) =
    let u : State = record t { armed = Some m } in record {
      before = removal i actor act op u time o;
      after = insertion i actor act op u time m (off u);
      aside = removal_aside i actor act op u time o;
      aside_too = insertion_aside i actor act op u time m (off u);
      is = armed_group i actor act op u time code n cpu o m (off u) refl refl;
    }

one_true : (i actor act : ℕ) (op : Op) (t : State) (time : ℕ) (r : Reply) → is_armed r ≡ true → HasOne i (entry_of actor act op r) (group i (entry_of actor act op r) t time)
one_true i actor act op t time (Armed code n cpu o) h = one_armed i actor act op t time code n cpu o t.armed
one_true i actor act op t time _ h = absurd cc

pub one_in_group : (i actor act : ℕ) (op : Op) (t : State) (time : ℕ) (r : Reply) → HasOne i (entry_of actor act op r) (group i (entry_of actor act op r) t time)
one_in_group i actor act op t time r = go (is_armed r) refl where
  go : (b : Bool) → is_armed r ≡ b → HasOne i (entry_of actor act op r) (group i (entry_of actor act op r) t time)
  go true h = one_true i actor act op t time r h
  go false h = one_unarmed i actor act op t time r h
