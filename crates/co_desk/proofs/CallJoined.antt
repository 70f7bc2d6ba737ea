-- The parts of a call, joined: what it took out, its entry, what it put in, and what leaves.
use Rattle.std.proofs.Common.{◌≡◌, ℕ, ℤ, ◌==◌, Bool, true, false, cond, not, ◌&&◌, [], ◌∷◌, ◌++◌, refl, sym, ap, ◌∙◌, subst, append_assoc}
use Rattle.std.specs.Prelude.{is_some}
use Rattle.std.specs.declared.option.Option.{Option}
use Rattle.std.specs.declared.option.Option.TheVariants.{Some, None}
use Rattle.co_object.specs.declared.alone.Alone.{Alone}
use Rattle.co_object.specs.declared.note.Entry.{Entry}
use Rattle.co_object.specs.declared.note.Place.TheVariants as at
use Rattle.co_object.specs.declared.note.AnyEntry.TheVariants as of
use Rattle.co_object.specs.declared.state.Arming.{Arming}
use Rattle.co_object.specs.declared.state.State.{State}
use Rattle.co_object.specs.declared.state.Run.{Run}
use Rattle.co_object.specs.declared.state.Run.TheVariants.{Idle, Picked, Cancelled, Running}
use Rattle.co_object.specs.declared.op.CallOp.{CallOp}
use Rattle.co_object.specs.declared.spec.Spec.{Spec}
use Rattle.co_object.specs.declared.op.Op.TheVariants.{Call}
use Rattle.co_object.specs.declared.reply.Reply.{Reply}
use Rattle.co_object.specs.declared.reply.Reply.TheVariants.{Armed, NotArmed, NoHandler, Worn, Stopped, Wait, Drained, Busy, Yes, No, Done, Go, Hold, Skip, Ended, Live, Retired, InUse}
use Rattle.co_object.specs.Entries.{is_armed}
use Rattle.co_object.specs.Group.{off_of, group, removal_notes}
use Rattle.co_object.specs.Stand.{Listed, Deferred, listed_cpu, stand_of, is_free_at, is_idle, off}
use Rattle.co_object.proofs.Numbers.{same_itself}
use Rattle.co_wheel.specs.Call.{is_away, called, reply}
use Rattle.co_wheel.specs.Callouts.{is_at, is_listed_of}
use Rattle.co_wheel.specs.Parcel.{parcel, parcel_to}
use Rattle.co_wheel.specs.Turns.{insertion, insertion_of}
use Rattle.co_wheel.proofs.Calls.{Shift, stays, goes, comes, shift}
use Rattle.co_wheel.proofs.AgreedAfter.{none-insertion}
use Rattle.co_desk.specs.Call.{call_entry, due_named, number_accepted, Target, landing, time_of, target_in, insert_turns, insertion_notes}
use Rattle.co_desk.specs.Desk.{IsAtCpu}
use Rattle.co_desk.specs.Views.{PassesView}
use Rattle.co_desk.proofs.CallArming.{IsDue, is_due}
use Rattle.co_desk.proofs.CallGroup.{unarmed_group, armed_group}
use Rattle.co_desk.proofs.CallKept.{at_after}

-- the turns of the queue are those of the arming that the reply and the operation name, and the notes are the call's
pub record Joins (p : PassesView) (act cpu i : ℕ) (e : Entry) (t : State) (n due : ℕ) (o : Option Alone) (inserted : Option ℕ) (leaves : Option Target) : Type 0 where
  pub turns : insertion i o inserted ≡ insert_turns i n due inserted
  pub time : ℕ
  pub group_is : (later : ℕ) → removal_notes i e (off_of e.reply) ++ (((at.Timer i, of.Timer e) ∷ []) ++ (insertion_notes p act cpu i n due inserted ++ landing p act i leaves later)) ≡ group i e t (time_of leaves time later)

pub idle_free : (r : Run) (cpu : ℕ) → is_idle r ≡ true → is_free_at r cpu ≡ true
idle_free Idle cpu idle = refl
idle_free (Picked a) cpu idle = absurd (cc)
idle_free (Cancelled n at) cpu idle = absurd (cc)
idle_free (Running n at) cpu idle = absurd (cc)

pub unarmed_stays : (cpu : ℕ) (r : Reply) (t : State) → is_armed r ≡ false → is_away cpu r t ≡ false
unarmed_stays cpu (Armed code n to o) t h = absurd (cc)
unarmed_stays cpu (NotArmed code) t h = refl
unarmed_stays cpu NoHandler t h = refl
unarmed_stays cpu Worn t h = refl
unarmed_stays cpu (Stopped code o) t h = refl
unarmed_stays cpu (Wait n took o) t h = refl
unarmed_stays cpu (Drained code o) t h = refl
unarmed_stays cpu Busy t h = refl
unarmed_stays cpu Yes t h = refl
unarmed_stays cpu No t h = refl
unarmed_stays cpu Done t h = refl
unarmed_stays cpu (Go func arg) t h = refl
unarmed_stays cpu Hold t h = refl
unarmed_stays cpu Skip t h = refl
unarmed_stays cpu (Ended drain next woke) t h = refl
unarmed_stays cpu Live t h = refl
unarmed_stays cpu Retired t h = refl
unarmed_stays cpu (InUse armed serviced) t h = refl

pub none_in : {A : Type 0} (o : Option A) (b : Bool) → is_some o ≡ b → b ≡ false → o ≡ None
none_in None b is never = refl
none_in (Some x) b is never = absurd (cc)

pub and_false : (a : Bool) → (a && false) ≡ false
and_false true = refl
and_false false = refl

pub both_first : (a b : Bool) → (a && b) ≡ true → a ≡ true
both_first true b h = refl
both_first false b h = absurd (cc)

not_here : (a b : Bool) → a ≡ false → (a && b) ≡ false
not_here true b h = absurd (cc)
not_here false b h = refl

pub same_due : (t : State) (b d : Arming) → t.armed ≡ Some b → t.armed ≡ Some d → b.due ≡ d.due
same_due t b d x y = let e : b ≡ d = cc in ap (λ (m : Arming). m.due) e

module _ (p : PassesView) (act cpu i : ℕ) (c : CallOp) where
  abbrev entry : Reply → Entry
  entry r = call_entry p act c r

  joins_none : (r : Reply) (t : State) (n due : ℕ) (o : Option Alone) → is_armed r ≡ false → Joins p act cpu i (entry r) t n due o None None
  joins_none r t n due o un = record {
    turns = none-insertion i o;
    time = 0;
    group_is = λ later. sym (unarmed_group i p.actor act (Call c) t 0 r un);
  }

  module _ (t : State) (a : Arming) (code : ℤ) (o : Option ℕ) (some : t.armed ≡ Some a) where
    -- listed at another CPU, it is still to land there
    joins_away : (q : Option Alone) → is_idle t.run ≡ true → Joins p act cpu i (entry (Armed code a.n a.cpu o)) t a.n a.due q None (Some (record { cpu = a.cpu; n = a.n; due = a.due }))
    joins_away q idle = record {
      turns = none-insertion i q;
      time = 0;
      group_is = λ later.
          sym (append_assoc (removal_notes i (entry (Armed code a.n a.cpu o)) o) ((at.Timer i, of.Timer (entry (Armed code a.n a.cpu o))) ∷ []) _)
          ∙ sym (armed_group i p.actor act (Call c) t later code a.n a.cpu o a (Some a.cpu) some (listed_at (is_free_at t.run a.cpu) refl (idle_free t.run a.cpu idle)));
    } where
      listed_at : (b : Bool) → is_free_at t.run a.cpu ≡ b → b ≡ true → off t ≡ Some a.cpu
      listed_at true is holds = ap (λ (x : Option Arming). listed_cpu (stand_of x t.run)) some ∙ ap (λ (b : Bool). listed_cpu (cond b (Listed a.cpu) (Deferred a.cpu))) is
      listed_at false is holds = absurd (cc)

    -- it stands here, or waits for the end of a service
    joins_here : (spec : Spec) (x inserted : Option ℕ) → off t ≡ x → is_some inserted ≡ is_at x cpu → ((y : ℕ) → x ≡ Some y → y ≡ cpu) → Joins p act cpu i (entry (Armed code a.n a.cpu o)) t a.n a.due (Some (record { spec = spec; state = t })) inserted None
    joins_here spec None None is stands here = record {
      turns = none-insertion i (Some (record { spec = spec; state = t }));
      time = 0;
      group_is = λ later.
          sym (append_assoc (removal_notes i (entry (Armed code a.n a.cpu o)) o) ((at.Timer i, of.Timer (entry (Armed code a.n a.cpu o))) ∷ []) [])
          ∙ sym (armed_group i p.actor act (Call c) t 0 code a.n a.cpu o a None some is);
    }
    joins_here spec None (Some z) is stands here = absurd (cc)
    joins_here spec (Some y) None is stands here = let e = same_itself y cpu (here y refl) in absurd (cc)
    joins_here spec (Some y) (Some z) is stands here = record {
      turns = ap (λ (x : Option Arming). insertion_of i x z) some;
      time = z;
      group_is = λ later.
          sym (append_assoc (removal_notes i (entry (Armed code a.n a.cpu o)) o) ((at.Timer i, of.Timer (entry (Armed code a.n a.cpu o))) ∷ []) _)
          ∙ sym (armed_group i p.actor act (Call c) t z code a.n a.cpu o a (Some cpu) some (is ∙ ap (λ (x : ℕ). Some x) (here y refl)));
    }

  module _ (a : Alone) (n due : ℕ) (inserted : Option ℕ) where
    abbrev stays_as : State → Bool → Option Alone
    stays_as t away = cond away None (Some (record { spec = a.spec; state = t }))

    abbrev goes_as : State → Bool → Option Target
    goes_as t away = target_in (cond away (parcel i (record { spec = a.spec; state = t })) None)

    abbrev AreJoined : State → Reply → Bool → Type 0
    AreJoined t r away = Joins p act cpu i (entry r) t n due (stays_as t away) inserted (goes_as t away)

    unarmed : (t : State) (r : Reply) (away : Bool) → is_armed r ≡ false → is_away cpu r t ≡ away → is_some inserted ≡ (is_armed r && is_listed_of cpu (stays_as t away)) → AreJoined t r away
    unarmed t r true un is stands = let never = unarmed_stays cpu r t un in absurd (cc)
    unarmed t r false un is stands =
        subst (λ (x : Option ℕ). Joins p act cpu i (entry r) t n due (stays_as t false) x None) (sym (none_in inserted _ stands (not_here (is_armed r) _ un)))
        (joins_none r t n due (stays_as t false) un)

    armed : (t : State) (b : Arming) (code : ℤ) (o : Option ℕ) (away : Bool) → t.armed ≡ Some b → n ≡ b.n → due ≡ b.due → (is_idle t.run && not (b.cpu == cpu)) ≡ away
        → is_some inserted ≡ is_listed_of cpu (stays_as t away) → (away ≡ false → (x : ℕ) → off t ≡ Some x → x ≡ cpu) → AreJoined t (Armed code b.n b.cpu o) away
    armed t b code o true some number time is stands here =
        subst (λ (x : Option ℕ × Option Target × ℕ × ℕ). Joins p act cpu i (entry (Armed code b.n b.cpu o)) t x.2 x.3 None x.0 x.1)
        (λ d. (sym (none_in inserted _ stands refl) d, target_in (parcel_to i (record { spec = a.spec; state = t }) (sym some d)), sym number d, sym time d))
        (joins_away t b code o some None (both_first (is_idle t.run) (not (b.cpu == cpu)) is))
    armed t b code o false some number time is stands here =
        subst (λ (x : ℕ × ℕ). Joins p act cpu i (entry (Armed code b.n b.cpu o)) t x.0 x.1 (stays_as t false) inserted None) (λ d. (sym number d, sym time d))
        (joins_here t b code o some a.spec (off t) inserted refl stands (here refl))

    by_shift : (t : State) (r : Reply) (away : Bool) → Shift a.state t r → IsDue (due_named c) r t.armed → n ≡ number_accepted r → due ≡ due_named c → is_away cpu r t ≡ away
        → is_some inserted ≡ (is_armed r && is_listed_of cpu (stays_as t away)) → (away ≡ false → (x : ℕ) → off t ≡ Some x → x ≡ cpu) → AreJoined t r away
    by_shift t r away (stays _ _ un _ _ _) at number time is stands here = unarmed t r away un is stands
    by_shift t r away (goes _ _ un _ _) at number time is stands here = unarmed t r away un is stands
    by_shift t r away (comes _ b code some _) at number time is stands here =
        armed t b code (off a.state) away some number (time ∙ (sym at.2 ∙ same_due t at.0 b at.1 some)) is stands here

    -- a call on a callout that is here
    pub joins : (away : Bool) → IsAtCpu cpu a → n ≡ number_accepted (reply a c) → due ≡ due_named c → is_away cpu (reply a c) (called a c).state ≡ away
        → is_some inserted ≡ (is_armed (reply a c) && is_listed_of cpu (cond away None (Some (called a c)))) → AreJoined (called a c).state (reply a c) away
    joins away here number time is stands =
        by_shift (called a c).state (reply a c) away (shift a.state c) (is_due a.state c) number time is stands (λ never. (at_after cpu a c here (is ∙ never)).listed)
