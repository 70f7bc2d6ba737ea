-- A call with its landing: its notes are its group.
use Rattle.std.proofs.Common.{◌≡◌, ℕ, Bool, List, [], ◌∷◌, ◌++◌, append_assoc, map, refl, sym, ap, ◌∙◌, subst}
use Rattle.std.specs.declared.option.Option.{Option}
use Rattle.std.specs.declared.option.Option.TheVariants.{Some, None}
use Rattle.co_object.specs.declared.note.Entry.{Entry}
use Rattle.co_object.specs.declared.note.QEntry.{QEntry}
use Rattle.co_object.specs.declared.note.Place.TheVariants.{Timer, Cpu}
use Rattle.co_object.specs.declared.note.Note.{Note}
use Rattle.co_object.specs.declared.note.AnyEntry.TheVariants as of
use Rattle.co_object.specs.declared.note.Place.TheVariants as at
use Rattle.co_object.specs.declared.op.RunOp.TheVariants.{End}
use Rattle.co_object.specs.declared.op.CallOp.{CallOp}
use Rattle.co_object.specs.declared.queue.QOp.TheVariants.{Insert}
use Rattle.co_object.specs.declared.queue.QReply.TheVariants.{At, Freed}
use Rattle.co_object.specs.declared.reply.Reply.{Reply}
use Rattle.co_object.specs.declared.op.Op.TheVariants.{Call}
use Rattle.co_object.specs.Group.{Placed, placed, group, off_of}
use Rattle.co_object.specs.History.{state}
use Rattle.co_object.specs.Queue.{Due}
use Rattle.co_wheel.specs.Turns.{free_of}
use Rattle.co_desk.specs.Params.{spec_at}
use Rattle.co_desk.specs.declared.params.Params.{Params}
use Rattle.co_desk.specs.declared.finished.Finished.{Finished}
use Rattle.co_desk.specs.declared.told.Inserted.{Inserted}
use Rattle.co_desk.specs.declared.told.Told.{Told}
use Rattle.co_desk.specs.Call.{IsAnswer, IsCalled, Target, call_entry, landing, noted_insert, removal_told, told_notes}
use Rattle.co_desk.specs.Ends.{IsFinished, finished_notes}
use Rattle.co_desk.specs.Moving.{IsDone, IsOfService, MovingView}
use Rattle.co_desk.specs.Outcomes.{noted_entry, queue_entry_by}
use Rattle.co_desk.specs.Services.{AreSame, IsEnded, IsEndedBut, IsLanded, run_entry}
use Rattle.co_desk.specs.Views.{PassesView, seen_of}
use Rattle.co_desk.specs.Writes.{WritesAt, Writes}
use Rattle.co_desk.proofs.Noting.{writes-append}
use Rattle.co_desk.proofs.SameActor.{writes_keep}

-- an entry of a CPU's journal leaves what was seen of the callouts
cpu_apart : (p q : PassesView) (cpu : ℕ) (e : QEntry) (pos i : ℕ) → WritesAt p (Cpu cpu) (of.Cpu e) pos q → seen_of q i ≡ seen_of p i
cpu_apart p q cpu e pos i w = ap (λ (v : PassesView). seen_of v i) w.1.passes

landed_apart : (p q : PassesView) (act i : ℕ) (t : Target) (x : Inserted) (l : IsLanded p act i t x q) → seen_of q i ≡ seen_of p i
landed_apart p q act i t x l = ap (λ (v : PassesView). seen_of v i) l.written.2 ∙ cpu_apart p l.written.0 x.cpu (queue_entry_by p act (Insert i x.n x.due) (At x.at)) x.pos i l.written.1

-- the note of what has landed is as its target says
landed_placed : (p q r : PassesView) (act i : ℕ) (t : Target) (x : Inserted) → q.actor ≡ p.actor → IsLanded q act i t x r → placed (noted_insert p.actor act i x) ∷ [] ≡ landing p act i (Some t) x.at
landed_placed p q r act i t x actor l = λ d. (at.Cpu (l.cpu d), of.Cpu (queue_entry_by p act (Insert i (l.number d) (l.due_is d)) (At x.at))) ∷ []

map_both : {A B : Type 0} (f : A → B) (xs ys : List A) → map f (xs ++ ys) ≡ map f xs ++ map f ys
map_both f [] ys = refl
map_both f (x ∷ xs) ys = ap (λ l. f x ∷ l) (map_both f xs ys)

module _ (p q : PassesView) (act i : ℕ) (op : CallOp) (reply : Reply) (notes : List Note) where
  -- nothing leaves
  pub whole_here : IsAnswer p act i op reply None notes q → IsCalled p act i op reply notes q
  whole_here a = record { time = a.group_but.time; group_is = sym (no_more (map placed notes)) ∙ a.group_but.group_is 0; written = a.written } where
    no_more : (xs : List Placed) → xs ++ [] ≡ xs
    no_more [] = refl
    no_more (x ∷ xs) = ap (λ (l : List Placed). x ∷ l) (no_more xs)

  -- what leaves lands
  pub whole_landed : (t : Target) (x : Inserted) (r : PassesView) → IsAnswer p act i op reply (Some t) notes q → IsLanded q act i t x r → IsCalled p act i op reply (notes ++ noted_insert p.actor act i x ∷ []) r
  whole_landed t x r a l =
      let actor = (writes_keep p q notes a.written).actor in
      record {
        time = x.at;
        group_is =
            map_both placed notes (noted_insert p.actor act i x ∷ [])
            ∙ (ap (λ (ns : List Placed). map placed notes ++ ns) (landed_placed p q r act i t x actor l)
            ∙ (a.group_but.group_is x.at
            ∙ ap (λ (H : List Entry). group i (call_entry p act op reply) (state (spec_at p.params i) H) x.at) (sym (landed_apart q r act i t x l))));
        written = writes-append p q r notes (noted_insert p.actor act i x ∷ []) a.written (subst (λ (n : ℕ). Writes q (noted_insert n act i x ∷ []) r) actor l.written);
      }

module _ (lane : Bool) (p q : PassesView) (cpu act : ℕ) (d : Due) (reply : Reply) (notes : List Note) where
  -- an end from which nothing leaves
  pub ended_here : IsEndedBut lane p cpu act d reply None notes q → IsEnded lane p cpu act d reply notes q
  ended_here e = record {
    time = 0;
    notes_are = e.notes_are ∙ ap (λ (t : Option Target). (at.Timer d.i, of.Timer (run_entry p act (End d.n cpu) reply)) ∷ (at.Cpu cpu, of.Cpu (queue_entry_by p act (free_of lane) Freed)) ∷ landing p act d.i t 0) e.leaves_is;
    written = e.written;
  }

  -- what leaves lands
  pub ended_landed : (t : Target) (x : Inserted) (r : PassesView) → IsEndedBut lane p cpu act d reply (Some t) notes q → IsLanded q act d.i t x r → IsEnded lane p cpu act d reply (notes ++ noted_insert p.actor act d.i x ∷ []) r
  ended_landed t x r e l =
      let actor = (writes_keep p q notes e.written).actor in
      record {
        time = x.at;
        notes_are =
            map_both placed notes (noted_insert p.actor act d.i x ∷ [])
            ∙ (ap (λ (ns : List Placed). map placed notes ++ ns) (landed_placed p q r act d.i t x actor l)
            ∙ (ap (λ (ns : List Placed). ns ++ landing p act d.i (Some t) x.at) e.notes_are
            ∙ ap (λ (o : Option Target). (at.Timer d.i, of.Timer (run_entry p act (End d.n cpu) reply)) ∷ (at.Cpu cpu, of.Cpu (queue_entry_by p act (free_of lane) Freed)) ∷ landing p act d.i o x.at) e.leaves_is));
        written = writes-append p q r notes (noted_insert p.actor act d.i x ∷ []) e.written (subst (λ (n : ℕ). Writes q (noted_insert n act d.i x ∷ []) r) actor l.written);
      }

-- what a call told, with the Insert of what has landed
pub told_landed : (actor act i : ℕ) (op : CallOp) (t : Told) (x : Inserted) → t.insertion ≡ None → told_notes actor act i op t ++ noted_insert actor act i x ∷ [] ≡ told_notes actor act i op (record t { insertion = Some x })
told_landed actor act i op t x none =
    ap (λ (o : Option Inserted). told_notes actor act i op (record t { insertion = o }) ++ noted_insert actor act i x ∷ []) none
    ∙ append_assoc (removal_told actor act i (off_of t.out.reply) t.removal) (noted_entry i (record { actor = actor; act = act; op = Call op; reply = t.out.reply }) t.entry ∷ []) (noted_insert actor act i x ∷ [])

-- what the end of a service told, with the Insert of what has landed
pub finished_landed : (actor act : ℕ) (f : Finished) (x : Inserted) (i : ℕ) → f.i ≡ i → f.insertion ≡ None → finished_notes actor act f ++ noted_insert actor act i x ∷ [] ≡ finished_notes actor act (record f { insertion = Some x })
finished_landed actor act f x i here none = λ k. finished_notes actor act (record f { insertion = none k }) ++ noted_insert actor act (sym here k) x ∷ []

-- a call that was made on a desk: the passes are the same actor's, and what leaves is its callout
module _ (p q : PassesView) (act i : ℕ) (op : CallOp) (told : Told) (gone : Option MovingView) (done : IsDone p act i op told gone q) where
  pub done_same : AreSame p q
  done_same = writes_keep p q (told_notes p.actor act i op told) done.answer.written

  pub done_leaves : IsOfService q.params i gone
  done_leaves = subst (λ (r : Params). IsOfService r i gone) (sym done_same.params) done.leaving

-- the end of a service on a desk: the passes are the same actor's, and what leaves is the callout that was told of
module _ (direct : Bool) (p q : PassesView) (cpu act : ℕ) (d : Due) (f : Finished) (gone : Option MovingView) (done : IsFinished direct p cpu act d f gone q) where
  pub finished_same : AreSame p q
  finished_same = writes_keep p q (finished_notes p.actor act f) done.ended.written

  pub finished_leaves : IsOfService q.params f.i gone
  finished_leaves = subst (λ (i : ℕ). IsOfService q.params i gone) (sym done.callout) (subst (λ (r : Params). IsOfService r d.i gone) (sym finished_same.params) done.leaves)
