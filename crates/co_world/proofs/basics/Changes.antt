-- One step changes one callout, one queue and one actor's place: what that leaves of the others.
use Rattle.std.proofs.Common.{◌≡◌, ℕ, Bool, true, false, ◌⊎◌, [], ◌∷◌, ◌++◌, inl, inr, refl, sym, ap, subst, eqb-true, eq-eqb}
use Rattle.std.specs.Prelude.{◌==◌}
use Rattle.co_object.specs.declared.State.{State}
use Rattle.co_object.specs.declared.QOp.{QOp}
use Rattle.co_object.specs.declared.QOp.TheVariants.{Insert, Remove, Scan, Pop, Free, PopDirect, FreeDirect}
use Rattle.co_object.specs.declared.Entry.{Entry}
use Rattle.co_object.specs.declared.QEntry.{QEntry}
use Rattle.co_object.specs.declared.Note.{Note}
use Rattle.co_object.specs.Queue.{Queue as TimerQueue}
use Rattle.co_program.specs.declared.Script.{Script}
use Rattle.co_program.specs.Cursor.{Cursor}
use Rattle.co_program.specs.Advance.{advance}
use Rattle.co_world.specs.World.{World, Actor, Timer, Cpu, updated, with_cursor}
use Rattle.co_world.specs.Step.{notes_down, enters, enters_journal, landed}
use Rattle.co_world.proofs.basics.Updates.{updated_here, updated_elsewhere, at_updated}
use Rattle.co_world.proofs.kept.Invariant.{states_of, queues_of, cursors_of}

-- g is f but for one value
pub record IsAt {X : Type 0} (f : ℕ → X) (i : ℕ) (x : X) (g : ℕ → X) : Type 0 where
  pub here : g i ≡ x
  pub else : (j : ℕ) → (j ≡ i → ⊥) → g j ≡ f j

pub decide : (i j : ℕ) → (i ≡ j) ⊎ (i ≡ j → ⊥)
decide i j = go (i == j) refl where
  go : (b : Bool) → (i == j) ≡ b → (i ≡ j) ⊎ (i ≡ j → ⊥)
  go true e = inl (eqb-true i j e)
  go false e = inr (λ same. (let yes : (i == j) ≡ true = eq-eqb i j same in cc))

-- what holds of the new value, and of the old ones elsewhere, holds of all
pub at_all : {X : Type 0} (P : ℕ → X → Type 0) (f : ℕ → X) (i : ℕ) (x : X) (g : ℕ → X) → IsAt f i x g → P i x → ((j : ℕ) → (j ≡ i → ⊥) → P j (f j)) → (j : ℕ) → P j (g j)
at_all P f i x g is new old j = go (decide j i) where
  go : (j ≡ i) ⊎ (j ≡ i → ⊥) → P j (g j)
  go (inl same) = subst (λ k. P k (g k)) (sym same) (subst (P i) (sym is.here) new)
  go (inr other) = subst (P j) (sym (is.else j other)) (old j other)

pub at_updated_is : {X : Type 0} (f : ℕ → X) (i : ℕ) (x : X) → IsAt f i x (updated f i x)
at_updated_is f i x = record { here = updated_here f i x; else = updated_elsewhere f i x }

-- the same of what is read from each value
pub at_read : {X Y : Type 0} (read : X → Y) (f : ℕ → X) (i : ℕ) (x : X) (g : ℕ → X) → IsAt f i x g → IsAt (λ j. read (f j)) i (read x) (λ j. read (g j))
at_read read f i x g is = record { here = ap read is.here; else = λ j other. ap read (is.else j other) }

-- an actor's place alone
pub cursor_at : (w : World) (a : ℕ) (to : Cursor) → IsAt (cursors_of w) a to (cursors_of (with_cursor w a to))
cursor_at w a to = at_read (λ (x : Actor). x.cursor) w.actors a (record (w.actors a) { cursor = to }) (with_cursor w a to).actors (at_updated_is w.actors a (record (w.actors a) { cursor = to }))

pub note_at : (s : Script) (w : World) (a : ℕ) (listed : Bool) (note : Note) → IsAt (cursors_of w) a (advance s (cursors_of w a) listed note.place note.entry) (cursors_of (notes_down s w a listed note))
note_at s w a listed note =
    let new : Actor = record (w.actors a) { cursor = advance s (cursors_of w a) listed note.place note.entry; notes = (w.actors a).notes ++ note ∷ [] } in
    at_read (λ (x : Actor). x.cursor) w.actors a new (notes_down s w a listed note).actors (at_updated_is w.actors a new)

pub state_at : (w : World) (i : ℕ) (state : State) (e : Entry) → IsAt (states_of w) i state (states_of (enters w i state e))
state_at w i state e =
    let new : Timer = record (w.timers i) { state = state; history = (w.timers i).history ++ e ∷ [] } in
    at_read (λ (x : Timer). x.state) w.timers i new (enters w i state e).timers (at_updated_is w.timers i new)

pub queue_at : (w : World) (cpu : ℕ) (queue : TimerQueue) (e : QEntry) → IsAt (queues_of w) cpu queue (queues_of (enters_journal w cpu queue e))
queue_at w cpu queue e =
    let new : Cpu = record { queue = queue; journal = (w.cpus cpu).journal ++ e ∷ [] } in
    at_read (λ (x : Cpu). x.queue) w.cpus cpu new (enters_journal w cpu queue e).cpus (at_updated_is w.cpus cpu new)

-- an entry of a queue changes no callout's state
pub states_landed : (w : World) (cpu : ℕ) (op : QOp) (j : ℕ) → ((landed w cpu op) j).state ≡ states_of w j
states_landed w cpu (Insert i n t) j = at_updated (λ k (x : Timer). x.state ≡ (w.timers k).state) w.timers i (record (w.timers i) { stand = cpu }) j refl refl
states_landed w cpu (Remove i) j = refl
states_landed w cpu (Scan now) j = refl
states_landed w cpu Pop j = refl
states_landed w cpu Free j = refl
states_landed w cpu PopDirect j = refl
states_landed w cpu FreeDirect j = refl
