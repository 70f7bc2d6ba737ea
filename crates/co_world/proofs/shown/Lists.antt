-- After every schedule the lists of notes show the world's histories.
use Rattle.std.proofs.Common.{◌≡◌, ℕ, zero, suc, ◌+◌, ◌<◌, Bool, true, false, cond, List, [], ◌∷◌, ◌++◌, length, map, refl, sym, ap, subst, ◌∙◌, arith, eq-eqb, eqb-true, Option, Some, None}
use Rattle.std.specs.Prelude.{is_some, ◌==◌}
use Rattle.std.specs.List.{AllByRecursion, filter_map, flat_map, range_with_len, cons_option}
use Rattle.std.proofs.lemmas.List.{append-nil, length-map, map-append}
use Rattle.co_object.specs.declared.State.{State}
use Rattle.co_object.specs.declared.Reply.{Reply}
use Rattle.co_object.specs.declared.Op.{Op}
use Rattle.co_object.specs.declared.QOp.{QOp}
use Rattle.co_object.specs.declared.QOp.TheVariants.{Insert, Remove, Scan, Pop, Free, PopDirect, FreeDirect}
use Rattle.co_object.specs.declared.QReply.{QReply}
use Rattle.co_object.specs.declared.OwnKind.{OwnKind}
use Rattle.co_object.specs.declared.Entry.{Entry}
use Rattle.co_object.specs.declared.QEntry.{QEntry}
use Rattle.co_object.specs.declared.Note.{Note}
use Rattle.co_object.specs.declared.AnyEntry.{AnyEntry}
use Rattle.co_object.specs.declared.AnyEntry.TheVariants as of
use Rattle.co_object.specs.declared.Place.{Place}
use Rattle.co_object.specs.declared.Place.TheVariants as place
use Rattle.co_object.specs.Stand.{off}
use Rattle.co_object.specs.Lists.{same_place, notes_of, all_notes_of}
use Rattle.co_object.specs.Callout.{step as callout_step}
use Rattle.co_object.specs.Queue.{Queue as TimerQueue}
use Rattle.co_object.specs.Journal.{step as queue_step}
use Rattle.co_program.specs.declared.Script.{Script}
use Rattle.co_program.specs.Actors.{actor_count}
use Rattle.co_program.specs.Cursor.{Cursor}
use Rattle.co_program.specs.Action.{spec_at}
use Rattle.co_program.specs.declared.Asked.{Asked}
use Rattle.co_program.specs.declared.Asked.TheVariants.{Callout, Queue, Itself}
use Rattle.co_program.specs.Advance.{advance}
use Rattle.co_world.specs.World.{World, Actor, Timer, Cpu, open_world, lists_of, updated, with_cursor}
use Rattle.co_world.specs.Step.{notes_down, enters, enters_journal, landed, note_of, note_of_cpu, note_of_own, are_direct, callout_answers, queue_answers, world_answers}
use Rattle.co_world.specs.Laws.{AreOfLists, reached}
use Rattle.co_world.proofs.basics.Updates.{at_updated, updated_here, at_choice}
use Rattle.co_world.proofs.shown.Histories.{OneMore, Shows, shows_more, history_shown, L', flat_more, flat_same, notes_here}
use Rattle.co_world.proofs.schedules.AnyAnswers.{run_keeps}

-- the world's history of a place, as entries of any kind
abbrev pub entries_at : World → Place → List AnyEntry
entries_at w (place.Timer i) = map of.Timer (w.timers i).history
entries_at w (place.Cpu cpu) = map of.Cpu (w.cpus cpu).journal
entries_at w (place.Actor a) = map (λ note. note.entry) (notes_of (place.Actor a) (w.actors a).notes)

abbrev pub IsShown : Script → World → Type 0
IsShown s w = (here : Place) → Shows (all_notes_of here (lists_of s w)) (entries_at w here)

-- ---- the lists after a note

pub map_alike : {X Y : Type 0} (f g : X → Y) (xs : List X) → ((x : X) → f x ≡ g x) → map f xs ≡ map g xs
map_alike f g [] h = refl
map_alike f g (x ∷ xs) h = ap (λ y. y ∷ map f xs) (h x) ∙ ap (λ ys. g x ∷ ys) (map_alike f g xs h)

abbrev notes_by : World → ℕ → List Note
notes_by w b = (w.actors b).notes

choice_notes : (b : Bool) (x y : Actor) → (cond b x y).notes ≡ cond b x.notes y.notes
choice_notes true x y = refl
choice_notes false x y = refl

lists_down : (s : Script) (w : World) (a : ℕ) (listed : Bool) (note : Note) →
    lists_of s (notes_down s w a listed note) ≡ map (L' (place.Actor a) (notes_by w) a note) (range_with_len 0 (actor_count s))
lists_down s w a listed note =
    map_alike (λ b. ((notes_down s w a listed note).actors b).notes) (L' (place.Actor a) (notes_by w) a note) (range_with_len 0 (actor_count s))
    (λ b. choice_notes (b == a) (record { cursor = advance s (w.actors a).cursor listed note.place note.entry; notes = (w.actors a).notes ++ note ∷ [] }) (w.actors b))

pub all_more : (s : Script) (w : World) (a : ℕ) (listed : Bool) (note : Note) (here : Place) → a < actor_count s → same_place note.place here ≡ true →
    OneMore (all_notes_of here (lists_of s w)) note (all_notes_of here (lists_of s (notes_down s w a listed note)))
all_more s w a listed note here may is =
    subst (λ (lists : List (List Note)). OneMore (all_notes_of here (lists_of s w)) note (all_notes_of here lists)) (sym (lists_down s w a listed note))
    (flat_more here (notes_by w) a note 0 (actor_count s) (omega arith) (omega arith) is)

pub all_same : (s : Script) (w : World) (a : ℕ) (listed : Bool) (note : Note) (here : Place) → same_place note.place here ≡ false →
    all_notes_of here (lists_of s (notes_down s w a listed note)) ≡ all_notes_of here (lists_of s w)
all_same s w a listed note here is = ap (all_notes_of here) (lists_down s w a listed note) ∙ flat_same here (notes_by w) a note 0 (actor_count s) is

-- what changes of the world's histories with a note
pub record Tells (old now : World) (note : Note) : Type 0 where
  pub here : (at : Place) → same_place note.place at ≡ true → (entries_at now at ≡ entries_at old at ++ note.entry ∷ []) × (note.pos ≡ length (entries_at old at))
  pub else : (at : Place) → same_place note.place at ≡ false → entries_at now at ≡ entries_at old at

shown_down : (s : Script) (w w' : World) (a : ℕ) (listed : Bool) (note : Note) → a < actor_count s → w'.actors ≡ w.actors →
    Tells w (notes_down s w' a listed note) note → IsShown s w → IsShown s (notes_down s w' a listed note)
shown_down s w w' a listed note may same tells shown here = go (same_place note.place here) refl
  where
    go : (b : Bool) → same_place note.place here ≡ b → Shows (all_notes_of here (lists_of s (notes_down s w' a listed note))) (entries_at (notes_down s w' a listed note) here)
    go true is =
        let now : List Note = all_notes_of here (lists_of s (notes_down s w' a listed note)) in
        let more : OneMore (all_notes_of here (lists_of s w)) note now =
        subst (λ (actors : ℕ → Actor). OneMore (all_notes_of here (map (λ b. (actors b).notes) (range_with_len 0 (actor_count s)))) note now) same (all_more s w' a listed note here may is) in
        subst (λ (entries : List AnyEntry). Shows now entries) (sym (tells.here here is).0)
        (shows_more (all_notes_of here (lists_of s w)) now note (entries_at w here) more (tells.here here is).1 (shown here))
    go false is =
        subst (λ (entries : List AnyEntry). Shows (all_notes_of here (lists_of s (notes_down s w' a listed note))) entries) (sym (tells.else here is))
        (subst (λ (notes : List Note). Shows notes (entries_at w here))
        (sym (all_same s w' a listed note here is ∙ ap (λ (actors : ℕ → Actor). all_notes_of here (map (λ b. (actors b).notes) (range_with_len 0 (actor_count s)))) same))
        (shown here))

-- ---- the three kinds of notes

-- a note of another place is none of the actor's own
own_same : (w : World) (a : ℕ) (actor : Actor) (note : Note) (b : ℕ) → actor.notes ≡ (w.actors a).notes ++ note ∷ [] → same_place note.place (place.Actor b) ≡ false →
    notes_of (place.Actor b) (updated w.actors a actor b).notes ≡ notes_of (place.Actor b) (w.actors b).notes
own_same w a actor note b is other =
    at_updated (λ k (x : Actor). same_place note.place (place.Actor k) ≡ false → notes_of (place.Actor k) x.notes ≡ notes_of (place.Actor k) (w.actors k).notes) w.actors a actor b
    (λ h. ap (notes_of (place.Actor a)) is ∙ notes_here (place.Actor a) (λ k. (w.actors k).notes) a note false h ∙ append-nil (notes_of (place.Actor a) (w.actors a).notes))
    (λ h. refl) other

pub tells_callout : (s : Script) (w : World) (a i : ℕ) (after : State) (e : Entry) (listed : Bool) → Tells w (notes_down s (enters w i after e) a listed (note_of w i e)) (note_of w i e)
tells_callout s w a i after e listed = record {
  here = λ at is. here_at at is;
  else = λ at is. else_at at is;
}
  where
    here_at : (at : Place) → same_place (place.Timer i) at ≡ true → (entries_at (notes_down s (enters w i after e) a listed (note_of w i e)) at ≡ entries_at w at ++ of.Timer e ∷ []) × (length (w.timers i).history ≡ length (entries_at w at))
    here_at (place.Timer j) is =
        let same : i ≡ j = eqb-true i j is in (
          subst (λ (k : ℕ). map of.Timer (updated w.timers i (record (w.timers i) { state = after; history = (w.timers i).history ++ e ∷ [] }) k).history ≡ map of.Timer (w.timers k).history ++ of.Timer e ∷ []) same
              (ap (λ (timer : Timer). map of.Timer timer.history) (updated_here w.timers i (record (w.timers i) { state = after; history = (w.timers i).history ++ e ∷ [] }))
              ∙ map-append of.Timer (w.timers i).history (e ∷ [])),
          ap (λ (k : ℕ). length (w.timers k).history) same ∙ sym (length-map (w.timers j).history of.Timer),
        )
    here_at (place.Cpu cpu) is = cc
    here_at (place.Actor b) is = cc

    else_at : (at : Place) → same_place (place.Timer i) at ≡ false → entries_at (notes_down s (enters w i after e) a listed (note_of w i e)) at ≡ entries_at w at
    else_at (place.Timer j) is =
        at_choice (λ (timer : Timer). map of.Timer timer.history ≡ map of.Timer (w.timers j).history) (j == i) (record (w.timers i) { state = after; history = (w.timers i).history ++ e ∷ [] }) (w.timers j)
        (λ e. let same : i ≡ j = sym (eqb-true j i e) in cc (eq-eqb i j same)) (λ e. refl)
    else_at (place.Cpu cpu) is = refl
    else_at (place.Actor b) is = ap (map (λ (n : Note). n.entry)) (own_same w a (record { cursor = advance s (w.actors a).cursor listed (place.Timer i) (of.Timer e); notes = (w.actors a).notes ++ note_of w i e ∷ [] }) (note_of w i e) b refl is)

landed_same : (w : World) (cpu : ℕ) (op : QOp) (j : ℕ) → ((landed w cpu op) j).history ≡ (w.timers j).history
landed_same w cpu (Insert i n t) j = at_updated (λ k (timer : Timer). timer.history ≡ (w.timers k).history) w.timers i (record (w.timers i) { stand = cpu }) j refl refl
landed_same w cpu (Remove i) j = refl
landed_same w cpu (Scan now) j = refl
landed_same w cpu Pop j = refl
landed_same w cpu Free j = refl
landed_same w cpu PopDirect j = refl
landed_same w cpu FreeDirect j = refl

pub tells_queue : (s : Script) (w : World) (a cpu : ℕ) (q : TimerQueue) (e : QEntry) (listed : Bool) → Tells w (notes_down s (enters_journal w cpu q e) a listed (note_of_cpu w cpu e)) (note_of_cpu w cpu e)
tells_queue s w a cpu q e listed = record {
  here = λ at is. here_at at is;
  else = λ at is. else_at at is;
}
  where
    here_at : (at : Place) → same_place (place.Cpu cpu) at ≡ true → (entries_at (notes_down s (enters_journal w cpu q e) a listed (note_of_cpu w cpu e)) at ≡ entries_at w at ++ of.Cpu e ∷ []) × (length (w.cpus cpu).journal ≡ length (entries_at w at))
    here_at (place.Cpu j) is =
        let same : cpu ≡ j = eqb-true cpu j is in (
          subst (λ (k : ℕ). map of.Cpu (updated w.cpus cpu (record { queue = q; journal = (w.cpus cpu).journal ++ e ∷ [] }) k).journal ≡ map of.Cpu (w.cpus k).journal ++ of.Cpu e ∷ []) same
              (ap (λ (x : Cpu). map of.Cpu x.journal) (updated_here w.cpus cpu (record { queue = q; journal = (w.cpus cpu).journal ++ e ∷ [] }))
              ∙ map-append of.Cpu (w.cpus cpu).journal (e ∷ [])),
          ap (λ (k : ℕ). length (w.cpus k).journal) same ∙ sym (length-map (w.cpus j).journal of.Cpu),
        )
    here_at (place.Timer i) is = cc
    here_at (place.Actor b) is = cc

    else_at : (at : Place) → same_place (place.Cpu cpu) at ≡ false → entries_at (notes_down s (enters_journal w cpu q e) a listed (note_of_cpu w cpu e)) at ≡ entries_at w at
    else_at (place.Cpu j) is =
        at_choice (λ (x : Cpu). map of.Cpu x.journal ≡ map of.Cpu (w.cpus j).journal) (j == cpu) (record { queue = q; journal = (w.cpus cpu).journal ++ e ∷ [] }) (w.cpus j)
        (λ e. let same : cpu ≡ j = sym (eqb-true j cpu e) in cc (eq-eqb cpu j same)) (λ e. refl)
    else_at (place.Timer i) is = ap (map of.Timer) (landed_same w cpu e.op i)
    else_at (place.Actor b) is = ap (map (λ (n : Note). n.entry)) (own_same w a (record { cursor = advance s (w.actors a).cursor listed (place.Cpu cpu) (of.Cpu e); notes = (w.actors a).notes ++ note_of_cpu w cpu e ∷ [] }) (note_of_cpu w cpu e) b refl is)

pub tells_own : (s : Script) (w : World) (a act : ℕ) (kind : OwnKind) (listed : Bool) → Tells w (notes_down s w a listed (note_of_own s w a act kind)) (note_of_own s w a act kind)
tells_own s w a act kind listed = record {
  here = λ at is. here_at at is;
  else = λ at is. else_at at is;
}
  where
    here_at : (at : Place) → same_place (place.Actor a) at ≡ true →
        (entries_at (notes_down s w a listed (note_of_own s w a act kind)) at ≡ entries_at w at ++ (note_of_own s w a act kind).entry ∷ []) × (length (notes_of (place.Actor a) (w.actors a).notes) ≡ length (entries_at w at))
    here_at (place.Actor b) is =
        let same : a ≡ b = eqb-true a b is in
        let note : Note = note_of_own s w a act kind in
        let actor : Actor = record { cursor = advance s (w.actors a).cursor listed note.place note.entry; notes = (w.actors a).notes ++ note ∷ [] } in (
          subst (λ (k : ℕ). map (λ (n : Note). n.entry) (notes_of (place.Actor k) (updated w.actors a actor k).notes) ≡ map (λ (n : Note). n.entry) (notes_of (place.Actor k) (w.actors k).notes) ++ note.entry ∷ []) same
              (ap (λ (x : Actor). map (λ (n : Note). n.entry) (notes_of (place.Actor a) x.notes)) (updated_here w.actors a actor)
              ∙ ap (map (λ (n : Note). n.entry)) (notes_here (place.Actor a) (λ k. (w.actors k).notes) a note true (eq-eqb a a refl))
              ∙ map-append (λ (n : Note). n.entry) (notes_of (place.Actor a) (w.actors a).notes) (note ∷ [])),
          ap (λ (k : ℕ). length (notes_of (place.Actor k) (w.actors k).notes)) same ∙ sym (length-map (notes_of (place.Actor b) (w.actors b).notes) (λ (n : Note). n.entry)),
        )
    here_at (place.Timer i) is = cc
    here_at (place.Cpu cpu) is = cc

    else_at : (at : Place) → same_place (place.Actor a) at ≡ false → entries_at (notes_down s w a listed (note_of_own s w a act kind)) at ≡ entries_at w at
    else_at (place.Timer i) is = refl
    else_at (place.Cpu cpu) is = refl
    else_at (place.Actor b) is =
        let note : Note = note_of_own s w a act kind in
        ap (map (λ (n : Note). n.entry)) (own_same w a (record { cursor = advance s (w.actors a).cursor listed note.place note.entry; notes = (w.actors a).notes ++ note ∷ [] }) note b refl is)

-- ---- every answer, and every step without a note

shown_callout : (s : Script) (w : World) (a act i : ℕ) (op : Op) (outcome : Option (State × Reply)) → a < actor_count s → IsShown s w → IsShown s (callout_answers s w a act i op outcome)
shown_callout s w a act i op None may shown = shown
shown_callout s w a act i op (Some outcome) may shown =
    let e : Entry = record { actor = a; act = act; op = op; reply = outcome.1 } in
    shown_down s w (enters w i outcome.0 e) a (is_some (off outcome.0)) (note_of w i e) may refl (tells_callout s w a i outcome.0 e (is_some (off outcome.0))) shown

shown_queue : (s : Script) (w : World) (a act cpu : ℕ) (op : QOp) (outcome : Option (TimerQueue × QReply)) → a < actor_count s → IsShown s w → IsShown s (queue_answers s w a act cpu op outcome)
shown_queue s w a act cpu op None may shown = shown
shown_queue s w a act cpu op (Some outcome) may shown =
    let e : QEntry = record { actor = a; act = act; op = op; reply = outcome.1 } in
    shown_down s w (enters_journal w cpu outcome.0 e) a false (note_of_cpu w cpu e) may refl (tells_queue s w a cpu outcome.0 e false) shown

shown_answer : (s : Script) (w : World) (a act : ℕ) (asked : Asked) → a < actor_count s → IsShown s w → IsShown s (world_answers s w a act asked)
shown_answer s w a act (Callout i op) may shown = shown_callout s w a act i op (callout_step (spec_at s i) (w.timers i).state op) may shown
shown_answer s w a act (Queue cpu op) may shown = shown_queue s w a act cpu op (queue_step s.buckets (are_direct s) (w.cpus cpu).queue op) may shown
shown_answer s w a act (Itself kind) may shown = shown_down s w w a false (note_of_own s w a act kind) may refl (tells_own s w a act kind false) shown

pub placed_notes : (w : World) (a : ℕ) (to : Cursor) (b : ℕ) → ((with_cursor w a to).actors b).notes ≡ (w.actors b).notes
placed_notes w a to b = at_updated (λ k (x : Actor). x.notes ≡ (w.actors k).notes) w.actors a (record (w.actors a) { cursor = to }) b refl refl

pub placed_entries : (w : World) (a : ℕ) (to : Cursor) (here : Place) → entries_at (with_cursor w a to) here ≡ entries_at w here
placed_entries w a to (place.Timer i) = refl
placed_entries w a to (place.Cpu cpu) = refl
placed_entries w a to (place.Actor b) = ap (λ (notes : List Note). map (λ (n : Note). n.entry) (notes_of (place.Actor b) notes)) (placed_notes w a to b)

shown_place : (s : Script) (w : World) (a : ℕ) (to : Cursor) → a < actor_count s → IsShown s w → IsShown s (with_cursor w a to)
shown_place s w a to may shown here =
    subst (λ (entries : List AnyEntry). Shows (all_notes_of here (lists_of s (with_cursor w a to))) entries) (sym (placed_entries w a to here))
    (subst (λ (lists : List (List Note)). Shows (all_notes_of here lists) (entries_at w here))
    (sym (map_alike (λ b. ((with_cursor w a to).actors b).notes) (λ b. (w.actors b).notes) (range_with_len 0 (actor_count s)) (placed_notes w a to)))
    (shown here))

-- ---- the opening

pub no_notes : (s : Script) (here : Place) (k n : ℕ) → flat_map (notes_of here) (map (λ b. ((open_world s).actors b).notes) (range_with_len k n)) ≡ []
no_notes s here k zero = refl
no_notes s here k (suc n) = no_notes s here (k + 1) n

pub no_entries : (s : Script) (here : Place) → entries_at (open_world s) here ≡ []
no_entries s (place.Timer i) = refl
no_entries s (place.Cpu cpu) = refl
no_entries s (place.Actor a) = refl

shown_nothing : Shows [] []
shown_nothing = record { long = refl; at = λ pos. refl }

shown_open : (s : Script) → IsShown s (open_world s)
shown_open s here =
    subst (λ (entries : List AnyEntry). Shows (all_notes_of here (lists_of s (open_world s))) entries) (sym (no_entries s here))
    (subst (λ (notes : List Note). Shows notes []) (sym (no_notes s here 0 (actor_count s))) shown_nothing)

-- ---- every schedule of the script's actors

pub shown_reached : (s : Script) (schedule : List ℕ) → AllByRecursion (λ a. a < actor_count s) schedule → IsShown s (reached s schedule)
shown_reached s schedule may = run_keeps s (λ a. a < actor_count s) (IsShown s) (shown_answer s) (shown_place s) schedule (open_world s) may (shown_open s)

back_map : {X : Type 0} (f : AnyEntry → Option X) (g : X → AnyEntry) (xs : List X) → ((x : X) → f (g x) ≡ Some x) → filter_map f (map g xs) ≡ xs
back_map f g [] h = refl
back_map f g (x ∷ xs) h = ap (λ o. cons_option o (filter_map f (map g xs))) (h x) ∙ ap (λ ys. x ∷ ys) (back_map f g xs h)

-- the histories of the lists are those of the world
pub lists_show : (s : Script) (schedule : List ℕ) → AllByRecursion (λ a. a < actor_count s) schedule → AreOfLists s (reached s schedule)
lists_show s schedule may =
    let w : World = reached s schedule in
    record {
      timers = λ i. ap (filter_map _) (history_shown (place.Timer i) (lists_of s w) (map of.Timer (w.timers i).history) (shown_reached s schedule may (place.Timer i))) ∙ back_map _ of.Timer (w.timers i).history (λ e. refl);
      cpus = λ cpu. ap (filter_map _) (history_shown (place.Cpu cpu) (lists_of s w) (map of.Cpu (w.cpus cpu).journal) (shown_reached s schedule may (place.Cpu cpu))) ∙ back_map _ of.Cpu (w.cpus cpu).journal (λ e. refl);
    }
