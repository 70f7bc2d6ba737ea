-- The notes of a call that comes next: its group, and then the rest.
use Rattle.std.proofs.Common.{◌≡◌, ℕ, ℤ, ◌+◌, ◌<◌, Bool, true, false, cond, List, [], ◌∷◌, ◌++◌, map, length, take, refl, sym, ap, subst, ◌∙◌, Option, Some, None, arith, length-append}
use Rattle.std.specs.Prelude.{is_some}
use Rattle.co_object.specs.declared.state.Arming.{Arming}
use Rattle.co_object.specs.declared.State.{State}
use Rattle.co_object.specs.declared.Note.{Note}
use Rattle.co_object.specs.declared.Place.{Place}
use Rattle.co_object.specs.declared.Place.TheVariants as place
use Rattle.co_object.specs.declared.AnyEntry.{AnyEntry}
use Rattle.co_object.specs.declared.AnyEntry.TheVariants as entry
use Rattle.co_object.specs.declared.Entry.{Entry}
use Rattle.co_object.specs.declared.QEntry.{QEntry}
use Rattle.co_object.specs.declared.Op.{Op}
use Rattle.co_object.specs.declared.Op.TheVariants.{Call}
use Rattle.co_object.specs.declared.CallOp.{CallOp}
use Rattle.co_object.specs.declared.QOp.TheVariants.{Insert, Remove}
use Rattle.co_object.specs.declared.QReply.{QReply}
use Rattle.co_object.specs.declared.QReply.TheVariants.{At, Off}
use Rattle.co_object.specs.declared.Reply.{Reply}
use Rattle.co_object.specs.declared.Reply.TheVariants.{Armed, NotArmed, NoHandler, Worn, Stopped, Wait, Drained as IsDrained, Busy, Yes, No, Done, Go, Hold, Skip, Ended, Live, Retired, InUse}
use Rattle.co_object.specs.Callout.{call}
use Rattle.co_object.specs.Entries.{is_armed}
use Rattle.co_object.specs.Group.{Placed, placed, off_of, group}
use Rattle.co_object.specs.History.{state}
use Rattle.co_object.specs.Journal as journal
use Rattle.co_object.specs.Queue.{Queue, holds}
use Rattle.co_object.specs.Stand.{off, is_free_at, listed_cpu, stand_of, Listed, Deferred}
use Rattle.co_object.proofs.CallGroups.{removal, its_entry, insertion, unarmed_group, armed_group}
use Rattle.co_program.specs.declared.script.Script.{Script}
use Rattle.co_program.specs.declared.cursor.PendingInsert.{PendingInsert}
use Rattle.co_program.specs.declared.action.Asked.TheVariants.{Callout, Queue as IsQueue}
use Rattle.co_program.specs.Stages.{Stage, Ready, Waiting, Popping, Picking, Locking, Beginning, Unlocking, Firing, Releasing, Ending, Freeing, Drained}
use Rattle.co_program.specs.Cursor.{Cursor}
use Rattle.co_program.specs.Action.{Action, Asks, action_for, action_with, action_in, spec_at}
use Rattle.co_program.specs.Actors.{role_of}
use Rattle.co_program.specs.Advance.{advance, advance_callout, act_over, call_made, due_of_call}
use Rattle.co_program.specs.Follows.{Histories, Fits, FitsCallout, goes_on, at_next_note}
use Rattle.co_program.specs.Groups.{IsCallOf, call_of}
use Rattle.co_program.specs.Runs.{are_direct}
use Rattle.co_program.proofs.Options.{some-is}
use Rattle.co_program.proofs.Arming.{IsArmed, is_armed as arming_of}
use Rattle.co_program.proofs.AskedCalls.{asked_call}
use Rattle.co_program.proofs.Removing.{due_removed}
use Rattle.co_program.proofs.Rests.{IsKnownEntry, IsKnownTurn, KnownAt, IsRest, first, at-next-asks}

-- ---- what a cursor keeps

over-parcel : (c : Cursor) (stage : Stage) → (act_over c stage).parcel ≡ c.parcel
over-parcel c (Firing v acts) = refl
over-parcel c (Drained v acts) = refl
over-parcel c Ready = refl
over-parcel c (Waiting n took) = refl
over-parcel c (Popping act) = refl
over-parcel c (Picking v) = refl
over-parcel c (Locking v) = refl
over-parcel c (Beginning v) = refl
over-parcel c (Unlocking v acts) = refl
over-parcel c (Releasing v) = refl
over-parcel c (Ending v) = refl
over-parcel c (Freeing v drain next) = refl

-- whether a callout is listed is told of an arming alone
called-alike : (c : Cursor) (i : ℕ) (b : Bool) (op : Op) (reply : Reply) → is_armed reply ≡ false → call_made c i b op reply ≡ call_made c i false op reply
called-alike c i false op reply h = refl
called-alike c i true op reply h = at_reply reply h where
  at_reply : (r : Reply) → is_armed r ≡ false → call_made c i true op r ≡ call_made c i false op r
  at_reply (Armed code n cpu o) h = absurd (let e : true ≡ false = h in cc)
  at_reply (NotArmed code) h = refl
  at_reply NoHandler h = refl
  at_reply Worn h = refl
  at_reply (Stopped code o) h = refl
  at_reply (Wait n took o) h = refl
  at_reply (IsDrained code o) h = refl
  at_reply Busy h = refl
  at_reply Yes h = refl
  at_reply No h = refl
  at_reply Done h = refl
  at_reply (Go func arg) h = refl
  at_reply Hold h = refl
  at_reply Skip h = refl
  at_reply (Ended drain next woke) h = refl
  at_reply Live h = refl
  at_reply Retired h = refl
  at_reply (InUse armed serviced) h = refl

-- what is due is a call, which is made in no section of a service
abbrev IsCall : Action → Type 0
IsCall (Asks act (Callout i (Call op))) = Unit {0}
IsCall action = ⊥

call-stage : (s : Script) (a : ℕ) (c : Cursor) (act i : ℕ) (op : CallOp) → action_for s a c ≡ Asks act (Callout i (Call op)) →
    (c.parcel ≡ None) × ((c' : Cursor) (j : ℕ) (b : Bool) (o : Op) (r : Reply) → advance_callout s c' j b o r c.stage ≡ call_made c' j b o r)
call-stage s a c act i op is = at_parcel c.parcel refl (subst IsCall (sym is) tt) where
  at_stage : (stage : Stage) → IsCall (action_in s (role_of s a) c stage) → (c' : Cursor) (j : ℕ) (b : Bool) (o : Op) (r : Reply) → advance_callout s c' j b o r stage ≡ call_made c' j b o r
  at_stage (Picking v) h = absurd h
  at_stage (Beginning v) h = absurd h
  at_stage (Ending v) h = absurd h
  at_stage Ready h = λ c' j b o r. refl
  at_stage (Waiting n took) h = λ c' j b o r. refl
  at_stage (Popping m) h = λ c' j b o r. refl
  at_stage (Locking v) h = λ c' j b o r. refl
  at_stage (Unlocking v acts) h = λ c' j b o r. refl
  at_stage (Firing v acts) h = λ c' j b o r. refl
  at_stage (Releasing v) h = λ c' j b o r. refl
  at_stage (Freeing v drain next) h = λ c' j b o r. refl
  at_stage (Drained v acts) h = λ c' j b o r. refl

  at_parcel : (p : Option PendingInsert) → c.parcel ≡ p → IsCall (action_with s (role_of s a) c p) →
      (c.parcel ≡ None) × ((c' : Cursor) (j : ℕ) (b : Bool) (o : Op) (r : Reply) → advance_callout s c' j b o r c.stage ≡ call_made c' j b o r)
  at_parcel None none h = (none, at_stage c.stage h)
  at_parcel (Some p) some h = absurd h

pub no-parcel : (s : Script) (a : ℕ) (c : Cursor) (act i : ℕ) (op : CallOp) → action_for s a c ≡ Asks act (Callout i (Call op)) → c.parcel ≡ None
no-parcel s a c act i op is = (call-stage s a c act i op is).0

-- ---- what is put into a queue

off-is : (t : State) (m : Arming) (at : ℕ) → t.armed ≡ Some m → off t ≡ Some at → at ≡ m.cpu
off-is t m at armed is = go (is_free_at t.run m.cpu) (ap (λ (x : Option Arming). listed_cpu (stand_of x t.run)) (sym armed) ∙ is) where
  go : (b : Bool) → listed_cpu (cond b (Listed m.cpu) (Deferred m.cpu)) ≡ Some at → at ≡ m.cpu
  go true h = cc
  go false h = cc

-- an Insert is answered with the time at which it stands
pub inserted-at : (m : ℕ) (direct : List Bool) (q : Queue) (i n t : ℕ) (r : QReply) → journal.reply_of (journal.step m direct q (Insert i n t)) ≡ Some r → (time : ℕ) × (r ≡ At time)
inserted-at m direct q i n t r h = go (holds q i) _ _ h where
  go : (b : Bool) (after : Queue) (at : ℕ) → journal.reply_of (cond b None (Some (after, At at))) ≡ Some r → (time : ℕ) × (r ≡ At time)
  go true after at h = absurd (no h) where
    no : None ≡ Some r → ⊥
    no e = cc
  go false after at h = (at, (let same : At at ≡ r = cc in sym same))

module _ (s : Script) (H : Histories) (a act i : ℕ) (op : CallOp) where
  abbrev state_at : ℕ → State
  state_at pos = state (spec_at s i) (take (pos + 1) (H.timers i))

  abbrev entry_note : Reply → ℕ → Note
  entry_note r pos = record { place = place.Timer i; pos = pos; entry = entry.Timer (call_of s H a act op r) }

  -- the place in the program after the call
  abbrev pub after : Cursor → Reply → Cursor
  after c r = call_made (record c { removed = None }) i false (Call op) r

  -- the entry, and the Insert where there is one
  record IsTail (c : Cursor) (r : Reply) (pos : ℕ) (notes : List Note) : Type 0 where
    pub front : List Note
    pub rest : List Note
    pub split : notes ≡ front ++ rest
    pub time : ℕ
    pub tail : List Placed
    pub shape : map placed front ≡ its_entry i a act (Call op) (state_at pos) time r ∷ tail
    pub whole : group i (call_of s H a act op r) (state_at pos) time ≡ removal i a act (Call op) (state_at pos) time (off_of r) ++ its_entry i a act (Call op) (state_at pos) time r ∷ tail
    pub later : IsRest s H a (at_next_note s a (after c r)) rest

  -- a call that puts nothing in
  ends : (c : Cursor) (r : Reply) (pos : ℕ) (rest : List Note) → group i (call_of s H a act op r) (state_at pos) 0 ≡ removal i a act (Call op) (state_at pos) 0 (off_of r) ++ its_entry i a act (Call op) (state_at pos) 0 r ∷ [] →
      IsRest s H a (at_next_note s a (after c r)) rest → IsTail c r pos (entry_note r pos ∷ rest)
  ends c r pos rest whole later = record { front = entry_note r pos ∷ []; rest = rest; split = refl; time = 0; tail = []; shape = refl; whole = whole; later = later }

  -- one that does
  module _ (c : Cursor) (none : c.parcel ≡ None) (act-is : act ≡ c.act) where
    abbrev base : Cursor
    base = record c { removed = None }

    abbrev parcel_of : (n cpu : ℕ) → PendingInsert
    parcel_of n cpu = record { act = c.act; i = i; n = n; due = due_of_call (Call op); cpu = cpu }

    abbrev sent : (n cpu : ℕ) → Cursor
    sent n cpu = record (act_over base c.stage) { parcel = Some (parcel_of n cpu) }

    arrived : (n cpu : ℕ) → record (sent n cpu) { parcel = None } ≡ act_over base c.stage
    arrived n cpu = ap (λ (p : Option PendingInsert). record (act_over base c.stage) { parcel = p }) (sym (over-parcel base c.stage ∙ none))

    inserts : (code : ℤ) (n cpu : ℕ) (o : Option ℕ) (m : Arming) (pos at : ℕ) (rest : List Note) →
        (state_at pos).armed ≡ Some m → m.n ≡ n → m.due ≡ due_of_call (Call op) → m.cpu ≡ cpu → off (state_at pos) ≡ Some at →
        IsRest s H a (at_next_note s a (sent n cpu)) rest → IsTail c (Armed code n cpu o) pos (entry_note (Armed code n cpu o) pos ∷ rest)
    inserts code n cpu o m pos at rest armed n-is due-is cpu-is listed later =
        let due : action_for s a (sent n cpu) ≡ Asks c.act (IsQueue cpu (Insert i n (due_of_call (Call op)))) = refl in
        let here = subst (λ (d : Cursor). IsRest s H a d rest) (at-next-asks s a (sent n cpu) c.act (IsQueue cpu (Insert i n (due_of_call (Call op)))) due) later in
        let f = first s H a (sent n cpu) rest c.act (IsQueue cpu (Insert i n (due_of_call (Call op)))) here due in
        by_note f.note.place f.note.pos f.note.entry f.rest f.split f.fits f.known f.later where
          r : Reply
          r = Armed code n cpu o

          at-is : at ≡ cpu
          at-is = off-is (state_at pos) m at armed listed ∙ cpu-is

          by_turn : (x p : ℕ) (e : QEntry) (later : List Note) → rest ≡ record { place = place.Cpu x; pos = p; entry = entry.Cpu e } ∷ later → x ≡ cpu →
              e ≡ record { actor = a; act = c.act; op = Insert i n (due_of_call (Call op)); reply = e.reply } → IsKnownTurn s H e → IsRest s H a (at_next_note s a (goes_on s H (sent n cpu) (record { place = place.Cpu x; pos = p; entry = entry.Cpu e }))) later →
              IsTail c r pos (entry_note r pos ∷ rest)
          by_turn x p e later split x-is e-is known on =
              let answer = inserted-at s.buckets (are_direct s) known.queue i n (due_of_call (Call op)) e.reply (subst (λ (y : QEntry). journal.reply_of (journal.step s.buckets (are_direct s) known.queue y.op) ≡ Some e.reply) e-is known.answers) in
              let whole-entry : e ≡ record { actor = a; act = act; op = Insert i m.n m.due; reply = At answer.0 } =
              e-is
              ∙ ap (λ (k : ℕ). record { actor = a; act = k; op = Insert i n (due_of_call (Call op)); reply = e.reply }) (sym act-is)
              ∙ ap (λ (k : ℕ). record { actor = a; act = act; op = Insert i k (due_of_call (Call op)); reply = e.reply }) (sym n-is)
              ∙ ap (λ (k : ℕ). record { actor = a; act = act; op = Insert i m.n k; reply = e.reply }) (sym due-is)
              ∙ ap (λ (k : QReply). record { actor = a; act = act; op = Insert i m.n m.due; reply = k }) answer.1 in
              let note : Note = record { place = place.Cpu x; pos = p; entry = entry.Cpu e } in
              record {
                front = entry_note r pos ∷ note ∷ [];
                rest = later;
                split = ap (λ (l : List Note). entry_note r pos ∷ l) split;
                time = answer.0;
                tail = insertion i a act (Call op) (state_at pos) answer.0 m (Some at);
                shape = ap (λ (y : Placed). its_entry i a act (Call op) (state_at pos) answer.0 r ∷ y ∷ [])
                    (ap (λ (k : ℕ). (place.Cpu k, entry.Cpu e)) (x-is ∙ sym at-is) ∙ ap (λ (y : QEntry). (place.Cpu at, entry.Cpu y)) whole-entry);
                whole = armed_group i a act (Call op) (state_at pos) answer.0 code n cpu o m (Some at) armed listed;
                later = subst (λ (d : Cursor). IsRest s H a (at_next_note s a d) later) (gone x p e e-is ∙ arrived n cpu) on;
              } where
                gone : (x p : ℕ) (e : QEntry) → e ≡ record { actor = a; act = c.act; op = Insert i n (due_of_call (Call op)); reply = e.reply } →
                    goes_on s H (sent n cpu) (record { place = place.Cpu x; pos = p; entry = entry.Cpu e }) ≡ record (sent n cpu) { parcel = None }
                gone x p e is = ap (λ (y : QEntry). advance s (sent n cpu) false (place.Cpu x) (entry.Cpu y)) is

          by_note : (at' : Place) (p : ℕ) (x : AnyEntry) (later : List Note) → rest ≡ record { place = at'; pos = p; entry = x } ∷ later →
              Fits a (sent n cpu) (Asks c.act (IsQueue cpu (Insert i n (due_of_call (Call op))))) at' x → KnownAt s H p at' x →
              IsRest s H a (at_next_note s a (goes_on s H (sent n cpu) (record { place = at'; pos = p; entry = x }))) later → IsTail c r pos (entry_note r pos ∷ rest)
          by_note (place.Cpu x) p (entry.Cpu e) later split fits known on = by_turn x p e later split fits.0 fits.1 known on
          by_note at' p x later split fits known on = absurd fits

  -- the entry comes first
  tail : (c : Cursor) → c.parcel ≡ None → act ≡ c.act → (r : Reply) (pos : ℕ) (rest : List Note) (before : State) → call before op ≡ (state_at pos, r) →
      IsRest s H a (at_next_note s a (call_made (record c { removed = None }) i (is_some (off (state_at pos))) (Call op) r)) rest → IsTail c r pos (entry_note r pos ∷ rest)
  tail c none act-is (Armed code n cpu o) pos rest before answers later =
      let armed : IsArmed (due_of_call (Call op)) (Armed code n cpu o) (state_at pos).armed = subst (λ (x : State × Reply). IsArmed (due_of_call (Call op)) x.1 x.0.armed) answers (arming_of before op) in
      at_off (off (state_at pos)) refl armed later where
        at_off : (x : Option ℕ) → off (state_at pos) ≡ x → IsArmed (due_of_call (Call op)) (Armed code n cpu o) (state_at pos).armed →
            IsRest s H a (at_next_note s a (call_made (record c { removed = None }) i (is_some x) (Call op) (Armed code n cpu o))) rest → IsTail c (Armed code n cpu o) pos (entry_note (Armed code n cpu o) pos ∷ rest)
        at_off None is armed l = ends c (Armed code n cpu o) pos rest (armed_group i a act (Call op) (state_at pos) 0 code n cpu o armed.0 None armed.1 is) l
        at_off (Some at) is armed l = inserts c none act-is code n cpu o armed.0 pos at rest armed.1 armed.2 armed.3 armed.4 is l
  tail c none act-is r pos rest before answers later =
      ends c r pos rest (unarmed_group i a act (Call op) (state_at pos) 0 r refl)
      (subst (λ (d : Cursor). IsRest s H a (at_next_note s a d) rest) (called-alike (record c { removed = None }) i (is_some (off (state_at pos))) (Call op) r refl) later)

  -- ---- the whole group

  pub record IsCallFirst (d : Cursor) (notes : List Note) : Type 0 where
    pub reply : Reply
    pub front : List Note
    pub rest : List Note
    pub split : notes ≡ front ++ rest
    pub call_is : IsCallOf s H a act i op reply front
    pub before : State
    pub answers : (call before op).1 ≡ reply
    pub shorter : length rest < length notes
    pub later : IsRest s H a (at_next_note s a (after d reply)) rest

  shorter-rest : (notes front rest : List Note) (x : Placed) (xs : List Placed) → notes ≡ front ++ rest → map placed front ≡ x ∷ xs → length rest < length notes
  shorter-rest notes [] rest x xs split shape = absurd (none shape) where
    none : [] ≡ x ∷ xs → ⊥
    none e = cc
  shorter-rest notes (n ∷ front) rest x xs split shape = omega (arith, ap length split, length-append front rest)

  -- a note of the callout is its entry
  record IsEntry (c : Cursor) (notes : List Note) : Type 0 where
    pub reply : Reply
    pub pos : ℕ
    pub known : IsKnownEntry s H i pos (call_of s H a act op reply)
    pub off_is : off_of reply ≡ c.removed
    pub tail_is : IsTail c reply pos notes

  entry-first : (c : Cursor) → action_for s a c ≡ Asks act (Callout i (Call op)) → (j pos : ℕ) (e : Entry) (rest notes : List Note) → notes ≡ record { place = place.Timer j; pos = pos; entry = entry.Timer e } ∷ rest →
      FitsCallout a act i (Call op) c.removed (place.Timer j) (entry.Timer e) → IsKnownEntry s H j pos e → IsRest s H a (at_next_note s a (goes_on s H c (record { place = place.Timer j; pos = pos; entry = entry.Timer e }))) rest → IsEntry c notes
  entry-first c is j pos e rest notes split fits known on =
      let r : Reply = e.reply in
      let stage = call-stage s a c act i op is in
      let same : record { place = place.Timer j; pos = pos; entry = entry.Timer e } ≡ entry_note r pos =
      ap (λ (k : ℕ). record { place = place.Timer k; pos = pos; entry = entry.Timer e }) fits.0 ∙ ap (λ (y : Entry). record { place = place.Timer i; pos = pos; entry = entry.Timer y }) fits.1 in
      let here : IsKnownEntry s H i pos (call_of s H a act op r) = subst (λ (y : Entry). IsKnownEntry s H i pos y) fits.1 (subst (λ (k : ℕ). IsKnownEntry s H k pos e) fits.0 known) in
      let later : IsRest s H a (at_next_note s a (advance s c (is_some (off (state_at pos))) (place.Timer i) (entry.Timer (call_of s H a act op r)))) rest = subst (λ (n : Note). IsRest s H a (at_next_note s a (goes_on s H c n)) rest) same on in
      let led = subst (λ (d : Cursor). IsRest s H a (at_next_note s a d) rest) (stage.1 (record c { removed = None }) i (is_some (off (state_at pos))) (Call op) r) later in
      let answers : call here.before op ≡ (state_at pos, r) = some-is here.answers in
      record {
        reply = r;
        pos = pos;
        known = here;
        off_is = fits.2;
        tail_is = subst (IsTail c r pos) (sym (split ∙ ap (λ (n : Note). n ∷ rest) same)) (tail c stage.0 (asked_call s a c act i op is).0 r pos rest here.before answers led);
      }

  whole-call : (d : Cursor) (notes : List Note) → IsEntry d notes → d.removed ≡ None → IsCallFirst d notes
  whole-call d notes e none =
      let t = e.tail_is in record {
        reply = e.reply;
        front = t.front;
        rest = t.rest;
        split = t.split;
        call_is = record {
          pos = e.pos;
          stands = e.known.stands;
          group = (t.time, t.shape ∙ sym (t.whole ∙ ap (λ (o : Option ℕ). removal i a act (Call op) (state_at e.pos) t.time o ++ its_entry i a act (Call op) (state_at e.pos) t.time e.reply ∷ t.tail) (e.off_is ∙ none)));
        };
        before = e.known.before;
        answers = reply-is e.known.answers;
        shorter = shorter-rest notes t.front t.rest _ _ t.split t.shape;
        later = t.later;
      } where
        reply-is : {x y : State × Reply} → Some x ≡ Some y → x.1 ≡ y.1
        reply-is h = let same : _ ≡ _ = h in cc

  removed-call : (d : Cursor) (x p : ℕ) (e : QEntry) (rest notes : List Note) → notes ≡ record { place = place.Cpu x; pos = p; entry = entry.Cpu e } ∷ rest →
      e ≡ record { actor = a; act = act; op = Remove i; reply = Off } → IsEntry (record d { removed = Some x }) rest → IsCallFirst d notes
  removed-call d x p e rest notes split e-is en =
      let t = en.tail_is in
      let n0 : Note = record { place = place.Cpu x; pos = p; entry = entry.Cpu e } in
      let split' : notes ≡ (n0 ∷ t.front) ++ t.rest = split ∙ ap (λ (l : List Note). n0 ∷ l) t.split in
      let shape : map placed (n0 ∷ t.front) ≡ removal i a act (Call op) (state_at en.pos) t.time (Some x) ++ its_entry i a act (Call op) (state_at en.pos) t.time en.reply ∷ t.tail =
      ap (λ (y : QEntry). (place.Cpu x, entry.Cpu y) ∷ map placed t.front) e-is ∙ ap (λ (l : List Placed). removal i a act (Call op) (state_at en.pos) t.time (Some x) ++ l) t.shape in
      record {
        reply = en.reply;
        front = n0 ∷ t.front;
        rest = t.rest;
        split = split';
        call_is = record {
          pos = en.pos;
          stands = en.known.stands;
          group = (t.time, shape ∙ sym (t.whole ∙ ap (λ (o : Option ℕ). removal i a act (Call op) (state_at en.pos) t.time o ++ its_entry i a act (Call op) (state_at en.pos) t.time en.reply ∷ t.tail) en.off_is));
        };
        before = en.known.before;
        answers = reply-is en.known.answers;
        shorter = omega (arith, ap length split', length-append t.front t.rest);
        later = t.later;
      } where
        reply-is : {x y : State × Reply} → Some x ≡ Some y → x.1 ≡ y.1
        reply-is h = let same : _ ≡ _ = h in cc

  pub call-first : (d : Cursor) (notes : List Note) → IsRest s H a d notes → action_for s a d ≡ Asks act (Callout i (Call op)) → d.removed ≡ None → IsCallFirst d notes
  call-first d notes rest is none =
      let f = first s H a d notes act (Callout i (Call op)) rest is in
      by_first f.note.place f.note.pos f.note.entry f.rest f.split f.fits f.known f.later where
        not-two : {x : ℕ} → Some x ≡ None → ⊥
        not-two e = cc

        by_second : (x : ℕ) (rest : List Note) → action_for s a (record d { removed = Some x }) ≡ Asks act (Callout i (Call op)) →
            (p : Place) (pos : ℕ) (y : AnyEntry) (later : List Note) → rest ≡ record { place = p; pos = pos; entry = y } ∷ later →
            FitsCallout a act i (Call op) (Some x) p y → KnownAt s H pos p y → IsRest s H a (at_next_note s a (goes_on s H (record d { removed = Some x }) (record { place = p; pos = pos; entry = y }))) later →
            IsEntry (record d { removed = Some x }) rest
        by_second x rest is' (place.Timer j) pos (entry.Timer e) later split fits known on = entry-first (record d { removed = Some x }) is' j pos e later rest split fits known on
        by_second x rest is' (place.Cpu k) pos (entry.Cpu e) later split fits known on = absurd (not-two fits.0)
        by_second x rest is' p pos y later split fits known on = absurd fits

        by_first : (p : Place) (pos : ℕ) (x : AnyEntry) (later : List Note) → notes ≡ record { place = p; pos = pos; entry = x } ∷ later →
            FitsCallout a act i (Call op) d.removed p x → KnownAt s H pos p x → IsRest s H a (at_next_note s a (goes_on s H d (record { place = p; pos = pos; entry = x }))) later → IsCallFirst d notes
        by_first (place.Timer j) pos (entry.Timer e) later split fits known on = whole-call d notes (entry-first d is j pos e later notes split fits known on) none
        by_first (place.Cpu x) pos (entry.Cpu e) later split fits known on =
            let is' = due_removed s a d (Some x) act (Callout i (Call op)) is in
            let gone : goes_on s H d (record { place = place.Cpu x; pos = pos; entry = entry.Cpu e }) ≡ record d { removed = Some x } = ap (λ (y : QEntry). advance s d false (place.Cpu x) (entry.Cpu y)) fits.1 in
            let here = subst (λ (c : Cursor). IsRest s H a c later) (ap (at_next_note s a) gone ∙ at-next-asks s a (record d { removed = Some x }) act (Callout i (Call op)) is') on in
            let g = first s H a (record d { removed = Some x }) later act (Callout i (Call op)) here is' in
            removed-call d x pos e later notes split fits.1 (by_second x later is' g.note.place g.note.pos g.note.entry g.rest g.split g.fits g.known g.later)
        by_first p pos x later split fits known on = absurd fits
