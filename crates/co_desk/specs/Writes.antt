-- What one entry does to the passes of the actor that makes it.
use Rattle.std.specs.Prelude.{◌≡◌, ℕ, ◌+◌, ◌<◌, List, [], ◌∷◌, length, slice_set}
use Rattle.std.specs.List.{All}
use Rattle.co_life.specs.Seen.{Extends}
use Rattle.co_object.specs.declared.note.Entry.{Entry}
use Rattle.co_object.specs.declared.note.QEntry.{QEntry}
use Rattle.co_object.specs.declared.note.AnyEntry.{AnyEntry}
use Rattle.co_object.specs.declared.note.AnyEntry.TheVariants as of
use Rattle.co_object.specs.declared.note.Place.{Place}
use Rattle.co_object.specs.declared.note.Place.TheVariants.{Timer, Cpu, Actor}
use Rattle.co_object.specs.declared.note.Note.{Note}
use Rattle.co_desk.specs.declared.params.Params.{Params}
use Rattle.co_desk.specs.Params.{actor_count}
use Rattle.co_desk.specs.Kinds.{KindOf, cpu_kind, seen, timer_kind}
use Rattle.co_desk.specs.Views.{PassesView, IsPlace}

-- the actor's entry ends the history, which begins with what the actor had seen, followed by entries of others
pub record Adds {E : Type 0} (made_by : E → ℕ) (Legal : Params → ℕ → List E → Type 0) (p : Params) (actor i : ℕ) (e : E) (pos : ℕ) (seen after : List E) : Type 0 where
  pub own : made_by e ≡ actor
  pub extends : Extends made_by actor seen e after
  pub legal : Legal p i after
  pub place : (before : ℕ) → before + 1 ≡ length after → IsPlace pos before
  pub actors : All (λ x. made_by x < actor_count p) after

-- an entry in the history of place i of this kind, which is then `after`. The passes of all other places stay
pub record WritesEntry {E : Type 0} (kind : KindOf E) (p : PassesView) (i : ℕ) (e : E) (pos : ℕ) (after : List E) (q : PassesView) : Type 0 where
  pub below : i < length (kind.all p)
  pub adds : Adds kind.made_by kind.Legal p.params p.actor i e pos (seen kind p i) after
  pub passes : q ≡ kind.with_all p (slice_set (kind.all p) i after)

abbrev pub WritesAt : PassesView → Place → AnyEntry → ℕ → PassesView → Type 0
WritesAt p (Timer i) (of.Timer e) pos q = (after : List Entry) × WritesEntry timer_kind p i e pos after q
WritesAt p (Cpu cpu) (of.Cpu e) pos q = (after : List QEntry) × WritesEntry cpu_kind p cpu e pos after q
WritesAt p (Actor a) e pos q = ⊥
WritesAt p (Timer i) (of.Cpu e) pos q = ⊥
WritesAt p (Timer i) (of.Own e) pos q = ⊥
WritesAt p (Cpu cpu) (of.Timer e) pos q = ⊥
WritesAt p (Cpu cpu) (of.Own e) pos q = ⊥

-- the entries of these notes, one after the other, and nothing else, stand between the passes before and after
abbrev pub Writes : PassesView → List Note → PassesView → Type 0
Writes p [] q = q ≡ p
Writes p (n ∷ ns) q = (between : PassesView) × WritesAt p n.place n.entry n.pos between × Writes between ns q
