-- The notes of a step are told: those of the world's actors, and the positions of each place count in their order.
use Rattle.std.proofs.Common.{◌≡◌, ℕ, ◌+◌, ◌<◌, ◌≤◌, ◌⊎◌, inl, inr, Bool, true, false, List, [], ◌∷◌, ◌++◌, length, drop, map, refl, sym, ap, subst, ◌∙◌, append_assoc}
use Rattle.std.specs.Prelude.{◌==◌, is_some, Option, Some, None, Result, Ok, Err, IfOk, OnOk}
use Rattle.std.specs.List.{range_with_len}
use Rattle.std.proofs.lemmas.Bool.Decides.{eqb_tells}
use Rattle.std.proofs.lemmas.List.{append-nil, length-map, map-append}
use Rattle.std.proofs.lemmas.List.FromFn.{length-map-range_with_len}
use Rattle.std.proofs.Math.Seq.{drop-append_seam}
use Rattle.co_object.specs.declared.State.{State}
use Rattle.co_object.specs.declared.Reply.{Reply}
use Rattle.co_object.specs.declared.Op.{Op}
use Rattle.co_object.specs.declared.QOp.{QOp}
use Rattle.co_object.specs.declared.QReply.{QReply}
use Rattle.co_object.specs.declared.Entry.{Entry}
use Rattle.co_object.specs.declared.QEntry.{QEntry}
use Rattle.co_object.specs.declared.Note.{Note}
use Rattle.co_object.specs.declared.AnyEntry.TheVariants as of
use Rattle.co_object.specs.declared.Place.{Place}
use Rattle.co_object.specs.declared.Place.TheVariants as place
use Rattle.co_object.specs.Lists.{notes_of, same_place}
use Rattle.co_object.specs.Stand.{off}
use Rattle.co_object.specs.Callout.{step as callout_step}
use Rattle.co_object.specs.Queue.{Queue as TimerQueue}
use Rattle.co_object.specs.Journal.{step as queue_step}
use Rattle.co_listener.specs.MadeNotes.{MadeNote, list_by, made_in}
use Rattle.co_listener.proofs.OneMore.{list_more, one, place_more}
use Rattle.co_program.specs.declared.Script.{Script}
use Rattle.co_program.specs.declared.Asked.{Asked}
use Rattle.co_program.specs.declared.Asked.TheVariants.{Callout, Queue, Itself}
use Rattle.co_program.specs.Action.{spec_at}
use Rattle.co_program.specs.Actors.{actor_count}
use Rattle.co_program.specs.Cursor.{Cursor}
use Rattle.co_core.specs.declared.engine.Engine.{Engine}
use Rattle.co_world.specs.declared.turn.Turn.{Turn}
use Rattle.co_core.specs.Acting.{HasStepped, Stands, StandsWith}
use Rattle.co_core.specs.Noting.{made_by}
use Rattle.co_world.specs.Step.{world_answers, are_direct, callout_answers, enters, enters_journal, note_of, note_of_cpu, note_of_own, notes_down, queue_answers, step, turn_of}
use Rattle.co_core.specs.Telling.{AreMade, TellsOn, HasNotes, IsTelling, MayTell, entry_count}
use Rattle.co_world.specs.Walk.{AllFinished, rounds, run}
use Rattle.co_world.specs.World.{Actor, World, lists_of, open_world, with_cursor}
use Rattle.co_core.specs.Written.{noted, with_lists}
use Rattle.co_world.proofs.shown.Lists.{Tells, entries_at, placed_entries, placed_notes, tells_callout, tells_own, tells_queue}
use Rattle.co_world.proofs.basics.Changes.{IsAt}
use Rattle.co_world.proofs.basics.Prefixes.{length_more}
use Rattle.co_world.proofs.measure.Rounds.{range-more}
use Rattle.co_world.proofs.schedules.AnyAnswers.{step_keeps}
use Rattle.co_core.proofs.tables.Values.{same}
use Rattle.co_core.proofs.written.Counting.{notes_at, notes_by}
use Rattle.co_core.proofs.written.Notes.{notes_after}

-- ---- one note more

entries_long : (w : World) (here : Place) → length (entries_at w here) ≡ entry_count w here
entries_long w (place.Timer i) = length-map (w.timers i).history of.Timer
entries_long w (place.Cpu cpu) = length-map (w.cpus cpu).journal of.Cpu
entries_long w (place.Actor a) = length-map (notes_of (place.Actor a) (w.actors a).notes) (λ (n : Note). n.entry)

module _ (s : Script) (old now : World) (made : List MadeNote) (a : ℕ) (note : Note) (are : AreMade s old made)
    (tells : Tells old now note) (notes : IsAt (notes_by old) a (notes_by old a ++ note ∷ []) (notes_by now)) where
  lists : (b : ℕ) → b < actor_count s → list_by (made ++ one a note ∷ []) b ≡ notes_by now b
  lists b within = go (eqb_tells a b) where
    go : ((a == b) ≡ true) × (a ≡ b) ⊎ ((a == b) ≡ false) × (a ≡ b → ⊥) → list_by (made ++ one a note ∷ []) b ≡ notes_by now b
    go (inl h) =
        list_more made a note b true h.0 ∙ ap (λ (l : List Note). l ++ note ∷ []) (are.lists b within)
        ∙ subst (λ (k : ℕ). notes_by old k ++ note ∷ [] ≡ notes_by now k) h.1 (sym notes.here)
    go (inr h) = list_more made a note b false h.0 ∙ append-nil (list_by made b) ∙ are.lists b within ∙ sym (notes.else b (λ e. h.1 (sym e)))

  order : (here : Place) → map (λ (n : Note). n.pos) (made_in (made ++ one a note ∷ []) here) ≡ range_with_len 0 (entry_count now here)
  order here = go (same_place note.place here) refl where
    go : (is : Bool) → same_place note.place here ≡ is → map (λ (n : Note). n.pos) (made_in (made ++ one a note ∷ []) here) ≡ range_with_len 0 (entry_count now here)
    go true is =
        let told = tells.here here is in
        let pos : note.pos ≡ entry_count old here = told.1 ∙ entries_long old here in
        let more : entry_count now here ≡ entry_count old here + 1 = sym (entries_long now here) ∙ ap length told.0 ∙ length_more (entries_at old here) note.entry ∙ ap (λ (n : ℕ). n + 1) (entries_long old here) in
        ap (map (λ (n : Note). n.pos)) (place_more made a note here true is)
        ∙ map-append (λ (n : Note). n.pos) (made_in made here) (note ∷ [])
        ∙ ap (λ (l : List ℕ). l ++ note.pos ∷ []) (are.order here)
        ∙ ap (λ (k : ℕ). range_with_len 0 (entry_count old here) ++ k ∷ []) pos
        ∙ range-more (entry_count old here)
        ∙ ap (range_with_len 0) (sym more)
    go false is =
        ap (map (λ (n : Note). n.pos)) (place_more made a note here false is ∙ append-nil (made_in made here))
        ∙ are.order here
        ∙ ap (range_with_len 0) (sym (entries_long old here) ∙ ap length (sym (tells.else here is)) ∙ entries_long now here)

  made_more : AreMade s now (made ++ one a note ∷ [])
  made_more = record { lists = lists; order = order }

-- ---- a step

-- an actor has made notes since, no other has, and they can be told
record Grows (s : Script) (w : World) (a : ℕ) (now : World) : Type 0 where
  notes : List Note
  own : notes_by now a ≡ notes_by w a ++ notes
  else : (b : ℕ) → (b ≡ a → ⊥) → notes_by now b ≡ notes_by w b
  told : (made : List MadeNote) → AreMade s w made → AreMade s now (made ++ made_by a notes)

module _ (s : Script) (w : World) (a : ℕ) where
  grows_not : Grows s w a w
  grows_not = record {
    notes = [];
    own = sym (append-nil (notes_by w a));
    else = λ b other. refl;
    told = λ made are. subst (AreMade s w) (sym (append-nil made)) are;
  }

  -- a note more
  note_grows : (v v' : World) (listed : Bool) (note : Note) → v'.actors ≡ v.actors → Tells v (notes_down s v' a listed note) note → Grows s w a v → Grows s w a (notes_down s v' a listed note)
  note_grows v v' listed note same tells g = record {
    notes = g.notes ++ note ∷ [];
    own = at.here ∙ ap (λ (l : List Note). l ++ note ∷ []) g.own ∙ append_assoc (notes_by w a) g.notes (note ∷ []);
    else = λ b other. at.else b other ∙ g.else b other;
    told = λ made are.
        (let more : made ++ made_by a (g.notes ++ note ∷ []) ≡ (made ++ made_by a g.notes) ++ one a note ∷ [] =
        ap (λ (l : List MadeNote). made ++ l) (map-append (one a) g.notes (note ∷ [])) ∙ sym (append_assoc made (made_by a g.notes) (one a note ∷ [])) in
        subst (AreMade s (notes_down s v' a listed note)) (sym more) (made_more s v (notes_down s v' a listed note) (made ++ made_by a g.notes) a note (g.told made are) tells at));
  } where
    at : IsAt (notes_by v) a (notes_by v a ++ note ∷ []) (notes_by (notes_down s v' a listed note))
    at = subst (λ (actors : ℕ → Actor). IsAt (λ b. (actors b).notes) a ((actors a).notes ++ note ∷ []) (notes_by (notes_down s v' a listed note))) same (notes_at s v' a listed note)

  callout_grows : (v : World) (act i : ℕ) (op : Op) (outcome : Option (State × Reply)) → Grows s w a v → Grows s w a (callout_answers s v a act i op outcome)
  callout_grows v act i op None g = g
  callout_grows v act i op (Some outcome) g =
      let e : Entry = record { actor = a; act = act; op = op; reply = outcome.1 } in
      note_grows v (enters v i outcome.0 e) (is_some (off outcome.0)) (note_of v i e) refl (tells_callout s v a i outcome.0 e (is_some (off outcome.0))) g

  queue_grows : (v : World) (act cpu : ℕ) (op : QOp) (outcome : Option (TimerQueue × QReply)) → Grows s w a v → Grows s w a (queue_answers s v a act cpu op outcome)
  queue_grows v act cpu op None g = g
  queue_grows v act cpu op (Some outcome) g =
      let e : QEntry = record { actor = a; act = act; op = op; reply = outcome.1 } in
      note_grows v (enters_journal v cpu outcome.0 e) false (note_of_cpu v cpu e) refl (tells_queue s v a cpu outcome.0 e false) g

  answer_grows : (v : World) (act : ℕ) (asked : Asked) → Grows s w a v → Grows s w a (world_answers s v a act asked)
  answer_grows v act (Callout i op) g = callout_grows v act i op (callout_step (spec_at s i) (v.timers i).state op) g
  answer_grows v act (Queue cpu op) g = queue_grows v act cpu op (queue_step s.buckets (are_direct s) (v.cpus cpu).queue op) g
  answer_grows v act (Itself kind) g = note_grows v v false (note_of_own s v a act kind) refl (tells_own s v a act kind false) g

  count_placed : (v : World) (b : ℕ) (to : Cursor) (here : Place) → entry_count v here ≡ entry_count (with_cursor v b to) here
  count_placed v b to here = sym (entries_long v here) ∙ ap length (sym (placed_entries v b to here)) ∙ entries_long (with_cursor v b to) here

  place_grows : (v : World) (b : ℕ) (to : Cursor) → Grows s w a v → Grows s w a (with_cursor v b to)
  place_grows v b to g = record {
    notes = g.notes;
    own = placed_notes v b to a ∙ g.own;
    else = λ k other. placed_notes v b to k ∙ g.else k other;
    told = λ made are.
        (let before = g.told made are in
        record {
          lists = λ k within. before.lists k within ∙ sym (placed_notes v b to k);
          order = λ here. before.order here ∙ ap (range_with_len 0) (count_placed v b to here);
        });
  }

  step_grows : Grows s w a (step s w a)
  step_grows =
      step_keeps s (λ b. b ≡ a) (Grows s w a) (λ v b act asked is g. subst (λ (k : ℕ). Grows s w a (world_answers s v k act asked)) (sym is) (answer_grows v act asked g))
      (λ v b to is g. place_grows v b to g) w a refl grows_not

-- a step, of whose notes the listener was told
pub step_told : (s : Script) {B : Type 0} (has : B → List MadeNote → Type 0) (before after : Engine) (old new : B) (w : World) (a : ℕ) (turn : Turn) → a < actor_count s →
    Stands s before w → HasStepped s has a turn before after old new → TellsOn s has after old new w (step s w a)
step_told s has before after old new w a turn may start stepped = record {
  told = subst (λ (lists : List (List Note)). StandsWith s after lists (step s w a)) ended.written.each_list ended;
  notes = λ notes. record {
    made = notes.made ++ made_by a stepped.notes;
    holds = stepped.heard notes.made notes.holds;
    are = subst (λ (l : List Note). AreMade s (step s w a) (notes.made ++ made_by a l)) (sym same_notes) (grown.told notes.made notes.are);
  };
} where
  grown : Grows s w a (step s w a)
  grown = step_grows s w a

  ended : StandsWith s after (noted (lists_of s w) a stepped.notes) (step s w a)
  ended = stepped.stands (lists_of s w) w start

  -- they are those that the world's actor has made
  same_notes : stepped.notes ≡ grown.notes
  same_notes =
      sym (drop-append_seam (notes_by w a) stepped.notes)
      ∙ ap (drop (length (notes_by w a))) (sym (notes_after s (with_lists before.ledger (lists_of s w)) (with_lists after.ledger (noted (lists_of s w) a stepped.notes)) w (step s w a) a stepped.notes may start.written ended.written refl) ∙ grown.own)
      ∙ drop-append_seam (notes_by w a) grown.notes

-- what a step of the engine answers says so
pub told_so : (s : Script) {B E : Type 0} (has : B → List MadeNote → Type 0) (before after : Engine) (old new : B) (a : ℕ) → a < actor_count s → (r : Result Turn E) →
    IfOk r (λ turn. HasStepped s has a turn before after old new) → OnOk r ((w : World) → Stands s before w → TellsOn s has after old new w (step s w a))
told_so s has before after old new a may (Ok turn) stepped = λ w h. step_told s has before after old new w a turn may h stepped
told_so s has before after old new a may (Err e) stepped = tt

pub answered : (s : Script) {B E : Type 0} (has : B → List MadeNote → Type 0) (before after : Engine) (old new : B) (a : ℕ) (r : Result Turn E) →
    IfOk r (λ turn. HasStepped s has a turn before after old new) → IfOk r (λ turn. (w : World) → Stands s before w → turn ≡ turn_of s w a)
answered s has before after old new a (Ok turn) stepped = λ w h. stepped.tells (lists_of s w) w h
answered s has before after old new a (Err e) stepped = tt

-- ---- one step after another

pub further : (s : Script) {B : Type 0} (has : B → List MadeNote → Type 0) (e e' : Engine) (first old new : B) (w v u : World) → TellsOn s has e first old w v → TellsOn s has e' old new v u → TellsOn s has e' first new w u
further s has e e' first old new w v u before after = record { told = after.told; notes = λ notes. after.notes (before.notes notes) }

-- what may be told goes on to a later engine, and a listener of as many actors
pub may_tell : (s : Script) (e e2 : Engine) (actors actors2 : ℕ) → MayTell s e actors → actors2 ≡ actors → (w : World) × Stands s e2 w → MayTell s e2 actors2
may_tell s e e2 actors actors2 may as_many at = record { script = may.script; room = subst (λ (n : ℕ). actor_count s ≤ n) (sym as_many) may.room; world = at.0; told = at.1 }

pub not_yet : (s : Script) {B : Type 0} (has : B → List MadeNote → Type 0) (e : Engine) (book : B) (w : World) → Stands s e w → TellsOn s has e book book w w
not_yet s has e book w told = record { told = told; notes = λ notes. notes }

-- ---- the whole walk

none_made : (s : Script) → AreMade s (open_world s) []
none_made s = record { lists = λ a within. refl; order = order } where
  order : (here : Place) → map (λ (n : Note). n.pos) (made_in [] here) ≡ range_with_len 0 (entry_count (open_world s) here)
  order (place.Timer i) = refl
  order (place.Cpu cpu) = refl
  order (place.Actor a) = refl

-- what is told of a walk to its end, from an empty listener
pub walk_told : (s : Script) {B : Type 0} (has : B → List MadeNote → Type 0) (e e' : Engine) (first old new : B) (number : ℕ) →
    TellsOn s has e first old (open_world s) (run s (open_world s) s.turns) → TellsOn s has e' old new (run s (open_world s) s.turns) (rounds s (run s (open_world s) s.turns) number) →
    AllFinished s (rounds s (run s (open_world s) s.turns) number) → has first [] → (made : List MadeNote) × has new made × IsTelling s made
walk_told s has e e' first old new number turns rest finished empty = (
  all.made,
  all.holds,
  record {
    walk = record {
      number = number;
      finished = finished;
      written = same (actor_count s) (list_by all.made) (λ (a : ℕ). (end.actors a).notes) (λ a within. sym (all.are.lists a within));
    };
    order = λ here. all.are.order here ∙ ap (range_with_len 0) (sym (in_place here));
  },
) where
  end : World
  end = rounds s (run s (open_world s) s.turns) number

  all : HasNotes s has new end
  all = rest.notes (turns.notes (record { made = []; holds = empty; are = none_made s }))

  in_place : (here : Place) → length (made_in all.made here) ≡ entry_count end here
  in_place here =
      sym (length-map (made_in all.made here) (λ (n : Note). n.pos)) ∙ ap length (all.are.order here)
      ∙ sym (length-map (range_with_len 0 (entry_count end here)) (λ (k : ℕ). k)) ∙ length-map-range_with_len (λ (k : ℕ). k) 0 (entry_count end here)
