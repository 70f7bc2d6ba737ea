-- After every schedule the positions of each place stand once each, and rise in each actor's list.
use Rattle.std.proofs.Common.{◌≡◌, ℕ, zero, suc, ◌+◌, ◌<◌, ◌≤◌, Bool, true, false, cond, List, [], ◌∷◌, ◌++◌, length, map, refl, sym, ap, subst, ◌∙◌, arith, Option, Some, None, lt-ltb, le-ltb}
use Rattle.std.specs.Prelude.{is_some, ◌==◌, nat_lt}
use Rattle.std.specs.List.{AllByRecursion, count_by, range_with_len}
use Rattle.std.proofs.lemmas.List.{append-nil, map-append}
use Rattle.std.proofs.lemmas.List.Sums.{sum_by-cons}
use Rattle.std.proofs.lemmas.Bool.Decides.{nat_tests}
use Rattle.co_object.specs.declared.State.{State}
use Rattle.co_object.specs.declared.Reply.{Reply}
use Rattle.co_object.specs.declared.Op.{Op}
use Rattle.co_object.specs.declared.QOp.{QOp}
use Rattle.co_object.specs.declared.QReply.{QReply}
use Rattle.co_object.specs.declared.Entry.{Entry}
use Rattle.co_object.specs.declared.QEntry.{QEntry}
use Rattle.co_object.specs.declared.Note.{Note}
use Rattle.co_object.specs.declared.AnyEntry.{AnyEntry}
use Rattle.co_object.specs.declared.Place.{Place}
use Rattle.co_object.specs.Stand.{off}
use Rattle.co_object.specs.Lists.{same_place, notes_of, all_notes_of, IsRising, IsWellFormed}
use Rattle.co_object.specs.Callout.{step as callout_step}
use Rattle.co_object.specs.Queue.{Queue as TimerQueue}
use Rattle.co_object.specs.Journal.{step as queue_step}
use Rattle.co_program.specs.declared.Script.{Script}
use Rattle.co_program.specs.Actors.{actor_count}
use Rattle.co_program.specs.Cursor.{Cursor}
use Rattle.co_program.specs.Action.{spec_at}
use Rattle.co_program.specs.declared.Asked.{Asked}
use Rattle.co_program.specs.declared.Asked.TheVariants.{Callout, Queue, Itself}
use Rattle.co_program.specs.Advance.{advance}
use Rattle.co_world.specs.World.{World, Actor, open_world, lists_of, with_cursor}
use Rattle.co_world.specs.Step.{notes_down, enters, enters_journal, note_of, note_of_cpu, note_of_own, are_direct, callout_answers, queue_answers, world_answers}
use Rattle.co_world.specs.Laws.{reached}
use Rattle.co_world.proofs.basics.Updates.{at_updated}
use Rattle.co_world.proofs.basics.Prefixes.{length_more}
use Rattle.co_world.proofs.shown.Histories.{OneMore, notes_here}
use Rattle.co_world.proofs.shown.Lists.{entries_at, Tells, tells_callout, tells_queue, tells_own, all_more, all_same, placed_entries, placed_notes, map_alike, no_notes, no_entries, shown_reached}
use Rattle.co_world.proofs.schedules.AnyAnswers.{run_keeps}

-- ---- lists of positions

abbrev Below : ℕ → List ℕ → Type 0
Below n xs = AllByRecursion (λ k. k < n) xs

up_more : (xs : List ℕ) (n : ℕ) → IsRising xs → Below n xs → IsRising (xs ++ n ∷ [])
up_more [] n up below = tt
up_more (x ∷ []) n up below = (below.0, tt)
up_more (x ∷ y ∷ ys) n up below = (up.0, up_more (y ∷ ys) n up.1 below.1)

below_more : (xs : List ℕ) (n : ℕ) → Below n xs → Below (n + 1) (xs ++ n ∷ [])
below_more [] n below = (omega arith, tt)
below_more (x ∷ xs) n below = (let h = below.0 in omega arith, below_more xs n below.1)

below_later : (xs : List ℕ) (n : ℕ) → Below n xs → Below (n + 1) xs
below_later [] n below = tt
below_later (x ∷ xs) n below = (let h = below.0 in omega arith, below_later xs n below.1)

count_between : {X : Type 0} (p : X → Bool) (xs ys : List X) (new : X) → count_by p (xs ++ new ∷ ys) ≡ cond (p new) 1 0 + count_by p (xs ++ ys)
count_between p [] ys new = sum_by-cons (λ x. cond (p x) 1 0) new ys
count_between p (x ∷ xs) ys new =
    let h = count_between p xs ys new in
    let a = sum_by-cons (λ y. cond (p y) 1 0) x (xs ++ new ∷ ys) in
    let b = sum_by-cons (λ y. cond (p y) 1 0) x (xs ++ ys) in
    omega (arith, h, a, b)

-- ---- the world

pub record IsOrdered (s : Script) (w : World) : Type 0 where
  pub once : (here : Place) (pos : ℕ) → count_by (λ note. note.pos == pos) (all_notes_of here (lists_of s w)) ≡ cond (nat_lt pos (length (entries_at w here))) 1 0
  pub up : (here : Place) (b : ℕ) → IsRising (map (λ note. note.pos) (notes_of here (w.actors b).notes))
  pub below : (here : Place) (b : ℕ) → Below (length (entries_at w here)) (map (λ note. note.pos) (notes_of here (w.actors b).notes))

one_position : (place pos long : ℕ) → place ≡ long → cond (place == pos) 1 0 + cond (nat_lt pos long) 1 0 ≡ cond (nat_lt pos (long + 1)) 1 0
one_position place pos long is = grind (arith, nat_tests)

positions_more : (here : Place) (notes : List Note) (note : Note) → map (λ (n : Note). n.pos) (notes_of here notes ++ note ∷ []) ≡ map (λ (n : Note). n.pos) (notes_of here notes) ++ note.pos ∷ []
positions_more here notes note = map-append (λ (n : Note). n.pos) (notes_of here notes) (note ∷ [])

module _ (s : Script) (w w' : World) (a : ℕ) (listed : Bool) (note : Note) (may : a < actor_count s) (same : w'.actors ≡ w.actors)
    (tells : Tells w (notes_down s w' a listed note) note) (ordered : IsOrdered s w) where
  abbrev now : World
  now = notes_down s w' a listed note

  long_now : (here : Place) → same_place note.place here ≡ true → length (entries_at now here) ≡ length (entries_at w here) + 1
  long_now here is = ap length (tells.here here is).0 ∙ length_more (entries_at w here) note.entry

  same_now : (here : Place) → same_place note.place here ≡ false → length (entries_at now here) ≡ length (entries_at w here)
  same_now here is = ap length (tells.else here is)

  abbrev noted : Place → List Note → Type 0
  noted here notes = IsRising (map (λ (n : Note). n.pos) (notes_of here notes)) × Below (length (entries_at now here)) (map (λ (n : Note). n.pos) (notes_of here notes))

  -- what the actor that notes has at a place
  noted_new : (here : Place) (b : Bool) → same_place note.place here ≡ b → noted here ((w.actors a).notes ++ note ∷ [])
  noted_new here true is =
      let positions : List ℕ = map (λ (n : Note). n.pos) (notes_of here (w.actors a).notes) in
      let all : map (λ (n : Note). n.pos) (notes_of here ((w.actors a).notes ++ note ∷ [])) ≡ positions ++ length (entries_at w here) ∷ [] =
      ap (map (λ (n : Note). n.pos)) (notes_here here (λ k. (w.actors k).notes) a note true is) ∙ positions_more here (w.actors a).notes note ∙ ap (λ (k : ℕ). positions ++ k ∷ []) (tells.here here is).1 in (
        subst IsRising (sym all) (up_more positions (length (entries_at w here)) (ordered.up here a) (ordered.below here a)),
        subst (λ (n : ℕ). Below n (map (λ (n : Note). n.pos) (notes_of here ((w.actors a).notes ++ note ∷ [])))) (sym (long_now here is))
            (subst (Below (length (entries_at w here) + 1)) (sym all) (below_more positions (length (entries_at w here)) (ordered.below here a))),
      )
  noted_new here false is =
      let all : notes_of here ((w.actors a).notes ++ note ∷ []) ≡ notes_of here (w.actors a).notes =
      notes_here here (λ k. (w.actors k).notes) a note false is ∙ append-nil (notes_of here (w.actors a).notes) in (
        subst (λ (notes : List Note). IsRising (map (λ (n : Note). n.pos) notes)) (sym all) (ordered.up here a),
        subst (λ (n : ℕ). Below n (map (λ (n : Note). n.pos) (notes_of here ((w.actors a).notes ++ note ∷ [])))) (sym (same_now here is))
            (subst (λ (notes : List Note). Below (length (entries_at w here)) (map (λ (n : Note). n.pos) notes)) (sym all) (ordered.below here a)),
      )

  -- and what any other has there
  noted_old : (here : Place) (c : ℕ) (b : Bool) → same_place note.place here ≡ b → noted here (w.actors c).notes
  noted_old here c true is = (
    ordered.up here c,
    subst (λ (n : ℕ). Below n (map (λ (n : Note). n.pos) (notes_of here (w.actors c).notes))) (sym (long_now here is))
        (below_later (map (λ (n : Note). n.pos) (notes_of here (w.actors c).notes)) (length (entries_at w here)) (ordered.below here c)),
  )
  noted_old here c false is = (
    ordered.up here c,
    subst (λ (n : ℕ). Below n (map (λ (n : Note). n.pos) (notes_of here (w.actors c).notes))) (sym (same_now here is)) (ordered.below here c),
  )

  noted_now : (here : Place) (c : ℕ) → noted here (now.actors c).notes
  noted_now here c =
      at_updated (λ k (x : Actor). noted here x.notes) w'.actors a
      (record { cursor = advance s (w'.actors a).cursor listed note.place note.entry; notes = (w'.actors a).notes ++ note ∷ [] }) c
      (subst (λ (actors : ℕ → Actor). noted here ((actors a).notes ++ note ∷ [])) (sym same) (noted_new here (same_place note.place here) refl))
      (subst (λ (actors : ℕ → Actor). noted here (actors c).notes) (sym same) (noted_old here c (same_place note.place here) refl))

  once_now : (here : Place) (pos : ℕ) (b : Bool) → same_place note.place here ≡ b → count_by (λ n. n.pos == pos) (all_notes_of here (lists_of s now)) ≡ cond (nat_lt pos (length (entries_at now here))) 1 0
  once_now here pos true is =
      let more : OneMore (all_notes_of here (lists_of s w)) note (all_notes_of here (lists_of s now)) =
      subst (λ (actors : ℕ → Actor). OneMore (all_notes_of here (map (λ b. (actors b).notes) (range_with_len 0 (actor_count s)))) note (all_notes_of here (lists_of s now))) same (all_more s w' a listed note here may is) in
      let long : length (entries_at now here) ≡ length (entries_at w here) + 1 = ap length (tells.here here is).0 ∙ length_more (entries_at w here) note.entry in
      ap (count_by (λ n. n.pos == pos)) more.after
      ∙ count_between (λ n. n.pos == pos) more.front more.back note
      ∙ ap (λ (k : ℕ). cond (note.pos == pos) 1 0 + k) (ap (count_by (λ n. n.pos == pos)) (sym more.before) ∙ ordered.once here pos)
      ∙ one_position note.pos pos (length (entries_at w here)) (tells.here here is).1
      ∙ ap (λ (k : ℕ). cond (nat_lt pos k) 1 0) (sym long)
  once_now here pos false is =
      ap (count_by (λ n. n.pos == pos)) (all_same s w' a listed note here is ∙ ap (λ (actors : ℕ → Actor). all_notes_of here (map (λ b. (actors b).notes) (range_with_len 0 (actor_count s)))) same)
      ∙ ordered.once here pos
      ∙ ap (λ (k : ℕ). cond (nat_lt pos k) 1 0) (ap length (sym (tells.else here is)))

  pub ordered_down : IsOrdered s now
  ordered_down = record {
    once = λ here pos. once_now here pos (same_place note.place here) refl;
    up = λ here c. (noted_now here c).0;
    below = λ here c. (noted_now here c).1;
  }

-- ---- every answer, and every step without a note

ordered_callout : (s : Script) (w : World) (a act i : ℕ) (op : Op) (outcome : Option (State × Reply)) → a < actor_count s → IsOrdered s w → IsOrdered s (callout_answers s w a act i op outcome)
ordered_callout s w a act i op None may ordered = ordered
ordered_callout s w a act i op (Some outcome) may ordered =
    let e : Entry = record { actor = a; act = act; op = op; reply = outcome.1 } in
    ordered_down s w (enters w i outcome.0 e) a (is_some (off outcome.0)) (note_of w i e) may refl (tells_callout s w a i outcome.0 e (is_some (off outcome.0))) ordered

ordered_queue : (s : Script) (w : World) (a act cpu : ℕ) (op : QOp) (outcome : Option (TimerQueue × QReply)) → a < actor_count s → IsOrdered s w → IsOrdered s (queue_answers s w a act cpu op outcome)
ordered_queue s w a act cpu op None may ordered = ordered
ordered_queue s w a act cpu op (Some outcome) may ordered =
    let e : QEntry = record { actor = a; act = act; op = op; reply = outcome.1 } in
    ordered_down s w (enters_journal w cpu outcome.0 e) a false (note_of_cpu w cpu e) may refl (tells_queue s w a cpu outcome.0 e false) ordered

ordered_answer : (s : Script) (w : World) (a act : ℕ) (asked : Asked) → a < actor_count s → IsOrdered s w → IsOrdered s (world_answers s w a act asked)
ordered_answer s w a act (Callout i op) may ordered = ordered_callout s w a act i op (callout_step (spec_at s i) (w.timers i).state op) may ordered
ordered_answer s w a act (Queue cpu op) may ordered = ordered_queue s w a act cpu op (queue_step s.buckets (are_direct s) (w.cpus cpu).queue op) may ordered
ordered_answer s w a act (Itself kind) may ordered = ordered_down s w w a false (note_of_own s w a act kind) may refl (tells_own s w a act kind false) ordered

ordered_place : (s : Script) (w : World) (a : ℕ) (to : Cursor) → a < actor_count s → IsOrdered s w → IsOrdered s (with_cursor w a to)
ordered_place s w a to may ordered = record {
  once = λ here pos.
      ap (λ (lists : List (List Note)). count_by (λ n. n.pos == pos) (all_notes_of here lists)) (map_alike (λ b. ((with_cursor w a to).actors b).notes) (λ b. (w.actors b).notes) (range_with_len 0 (actor_count s)) (placed_notes w a to))
      ∙ ordered.once here pos
      ∙ ap (λ (entries : List AnyEntry). cond {A = ℕ} (nat_lt pos (length entries)) 1 0) (sym (placed_entries w a to here));
  up = λ here b. subst (λ (notes : List Note). IsRising (map (λ (n : Note). n.pos) (notes_of here notes))) (sym (placed_notes w a to b)) (ordered.up here b);
  below = λ here b.
      subst (λ (notes : List Note). Below (length (entries_at (with_cursor w a to) here)) (map (λ (n : Note). n.pos) (notes_of here notes))) (sym (placed_notes w a to b))
      (subst (λ (entries : List AnyEntry). Below (length entries) (map (λ (n : Note). n.pos) (notes_of here (w.actors b).notes))) (sym (placed_entries w a to here)) (ordered.below here b));
}

ordered_open : (s : Script) → IsOrdered s (open_world s)
ordered_open s = record {
  once = λ here pos.
      ap (count_by (λ n. n.pos == pos)) (no_notes s here 0 (actor_count s))
      ∙ sym (ap (λ (b : Bool). cond {A = ℕ} b 1 0) (le-ltb pos 0 (omega arith)))
      ∙ ap (λ (entries : List AnyEntry). cond {A = ℕ} (nat_lt pos (length entries)) 1 0) (sym (no_entries s here));
  up = λ here b. tt;
  below = λ here b. tt;
}

pub ordered_reached : (s : Script) (schedule : List ℕ) → AllByRecursion (λ a. a < actor_count s) schedule → IsOrdered s (reached s schedule)
ordered_reached s schedule may = run_keeps s (λ a. a < actor_count s) (IsOrdered s) (ordered_answer s) (ordered_place s) schedule (open_world s) may (ordered_open s)

rising_lists : (s : Script) (w : World) → IsOrdered s w → (here : Place) (k n : ℕ) → AllByRecursion (λ notes. IsRising (map (λ note. note.pos) (notes_of here notes))) (map (λ a. (w.actors a).notes) (range_with_len k n))
rising_lists s w ordered here k zero = tt
rising_lists s w ordered here k (suc n) = (ordered.up here k, rising_lists s w ordered here (k + 1) n)

-- the lists are well formed
pub well_formed : (s : Script) (schedule : List ℕ) → AllByRecursion (λ a. a < actor_count s) schedule → IsWellFormed (lists_of s (reached s schedule))
well_formed s schedule may =
    let w : World = reached s schedule in
    let ordered : IsOrdered s w = ordered_reached s schedule may in
    record {
      once = λ here pos within.
          ordered.once here pos ∙ ap (λ (b : Bool). cond b 1 0) (lt-ltb pos (length (entries_at w here)) (subst (λ (n : ℕ). pos < n) (shown_reached s schedule may here).long within));
      others = λ here pos beyond.
          ordered.once here pos ∙ ap (λ (b : Bool). cond b 1 0) (le-ltb pos (length (entries_at w here)) (subst (λ (n : ℕ). n ≤ pos) (shown_reached s schedule may here).long beyond));
      rising = λ here. rising_lists s w ordered here 0 (actor_count s);
    }
