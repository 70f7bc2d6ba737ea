-- What an entry adds to the counts.
use Rattle.std.proofs.Common.{◌≡◌, ℕ, ◌+◌, Bool, true, false, cond, List, [], ◌∷◌, refl, arith}
use Rattle.co_object.specs.declared.Entry.{Entry}
use Rattle.co_object.specs.Fate.{Fate, Pending, Fired, Superseded, Stopped, fate_by}
use Rattle.co_object.specs.Laws.OneFate.{is_fired}
use Rattle.co_object.proofs.Passing.{passing}
use Rattle.co_gen.specs.declared.counts.Counts.{Counts}
use Rattle.co_gen.specs.declared.fates.ToFire.{ToFire}
use Rattle.co_gen.specs.Soak.{is_superseded, is_stopped}
use Rattle.co_gen.specs.Fates.{decides, fate_counted, fate_told, accepted, counted_if, after_entry}
use Rattle.co_gen.proofs.FatesMet.{one_if, accepts}

-- from c to d these fates and this number of armings are added
pub record Adds (c d : Counts) (fs : List Fate) (a : ℕ) : Type 0 where
  pub notes : d.notes ≡ c.notes
  pub armed : d.armed ≡ c.armed + a
  pub fired : d.fired ≡ c.fired + passing is_fired fs
  pub superseded : d.superseded ≡ c.superseded + passing is_superseded fs
  pub stopped : d.stopped ≡ c.stopped + passing is_stopped fs

adds-fate : (c : Counts) (f : Fate) → Adds c (fate_counted c f) (f ∷ []) 0
adds-fate c Pending = record { notes = refl; armed = omega arith; fired = omega arith; superseded = omega arith; stopped = omega arith }
adds-fate c Fired = record { notes = refl; armed = omega arith; fired = omega arith; superseded = omega arith; stopped = omega arith }
adds-fate c Superseded = record { notes = refl; armed = omega arith; fired = omega arith; superseded = omega arith; stopped = omega arith }
adds-fate c Stopped = record { notes = refl; armed = omega arith; fired = omega arith; superseded = omega arith; stopped = omega arith }

adds-if : (c : Counts) (b : Bool) (f : Fate) → Adds c (counted_if b c f) (cond b (f ∷ []) []) 0
adds-if c true f = adds-fate c f
adds-if c false f = record { notes = refl; armed = omega arith; fired = omega arith; superseded = omega arith; stopped = omega arith }

adds-armed : (c : Counts) (a : Bool) (d : Counts) (fs : List Fate) → Adds (cond a (record c { armed = c.armed + 1 }) c) d fs 0 → Adds c d fs (one_if a)
adds-armed c true d fs h = record { notes = h.notes; armed = omega (arith, h.armed); fired = h.fired; superseded = h.superseded; stopped = h.stopped }
adds-armed c false d fs h = record { notes = h.notes; armed = omega (arith, h.armed); fired = h.fired; superseded = h.superseded; stopped = h.stopped }

pub adds-entry : (c : Counts) (x : ToFire) (e : Entry) → Adds c (after_entry c x e) (fate_told x e) (one_if (accepts e))
adds-entry c x e = adds-armed c (accepts e) (after_entry c x e) (fate_told x e) (adds-if (accepted c e.reply) (decides x e.op e.reply) (fate_by e.op))
