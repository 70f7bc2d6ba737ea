-- The wheel's calls that take a callout out of its list, said of the queue's fields: each by what its lists became.
use Rattle.std.proofs.Common.{◌≡◌, ℕ, ◌+◌, ◌<◌, true, false, sym, ◌∙◌, arith, get_or}
use Rattle.std.specs.declared.option.Option.TheVariants.{Some}
use Rattle.co_object.specs.declared.queue.QOp.TheVariants.{Remove, Pop, PopDirect}
use Rattle.co_object.specs.declared.queue.QReply.TheVariants.{Off, Missing, Got}
use Rattle.co_queue.specs.Timers.{stands}
use Rattle.co_queue.specs.StandsFor.{Answers}
use Rattle.co_bucket.specs.declared.rings.Rings.{Rings}
use Rattle.co_bucket.specs.declared.wheel_queue.WheelQueue.TheInside.{Inside}
use Rattle.co_bucket.specs.Rings.{Become, first_of, is_listed, list_of, without}
use Rattle.co_bucket.specs.Wheel.{wheel_timers, IsWheelQueue}
use Rattle.co_bucket.proofs.Linked.{listed-of}
use Rattle.co_bucket.proofs.Ops.{stands-listed, some-first, first-listed, timely-removed, answer-removed, answer-missing, answer-pop, answer-pop_direct}

module _ (a : Inside) (w : IsWheelQueue a) where
  pub stands-is : (i : ℕ) → stands (wheel_timers a) i ≡ is_listed a.rings i
  stands-is i = stands-listed a.buckets a.direct.items a.n.items a.t.items a.last a.rings w.count w.linked i

  pub missing : (i : ℕ) → is_listed a.rings i ≡ false → Answers (wheel_timers a) (wheel_timers a) (Remove i) Missing
  missing i free = answer-missing a.buckets a.direct.items a.n.items a.t.items a.last a.rings w.count w.linked i free

  module _ (then : Rings) (i : ℕ) (out : Become a.rings then (λ k. without i (list_of a.rings k))) where
    pub kept : IsWheelQueue (record a { rings = then })
    kept = record {
      linked = out.linked;
      count = out.count ∙ w.count;
      timely = timely-removed a.buckets a.direct.items a.n.items a.t.items a.last a.rings w.count w.linked then i out w.timely;
      n_long = w.n_long ∙ sym out.size;
      t_long = w.t_long ∙ sym out.size;
      direct_long = w.direct_long ∙ sym out.size;
      small = omega (arith, out.size, w.small);
      some = w.some;
      few = w.few;
    }

    pub removed : is_listed a.rings i ≡ true → Answers (wheel_timers a) (wheel_timers (record a { rings = then })) (Remove i) Off
    removed there = answer-removed a.buckets a.direct.items a.n.items a.t.items a.last a.rings w.count w.linked then i out there

    pub popped : first_of (list_of a.rings a.buckets) ≡ Some i → Answers (wheel_timers a) (wheel_timers (record a { rings = then })) Pop (Got i (get_or a.n.items i 0) a.last)
    popped is =
        let first = some-first (list_of a.rings a.buckets) i is in
        answer-pop a.buckets a.direct.items a.n.items a.t.items a.last a.rings w.count w.linked then i out first.0 first.1

    pub popped_direct : first_of (list_of a.rings (a.buckets + 1)) ≡ Some i → Answers (wheel_timers a) (wheel_timers (record a { rings = then })) PopDirect (Got i (get_or a.n.items i 0) a.last)
    popped_direct is =
        let first = some-first (list_of a.rings (a.buckets + 1)) i is in
        answer-pop_direct a.buckets a.direct.items a.n.items a.t.items a.last a.rings w.count w.linked then i out first.0 first.1

  -- the first of a list stands in it
  module _ (k i : ℕ) (in' : k < a.buckets + 2) (is : first_of (list_of a.rings k) ≡ Some i) where
    first-in : (i < a.rings.size) × (get_or a.rings.place.items i 0 ≡ k)
    first-in = let first = some-first (list_of a.rings k) i is in first-listed a.buckets a.direct.items a.n.items a.t.items a.last a.rings w.count w.linked k i first.0 in' first.1

    pub first-below : i < a.rings.size
    first-below = first-in.0

    pub first-is_listed : is_listed a.rings i ≡ true
    first-is_listed = listed-of a.rings i first-in.0 (omega (arith, first-in.1, w.count))
