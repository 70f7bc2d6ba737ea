use Rattle.std.proofs.Common.{◌≡◌, ◌-◌, ◌≤◌, ◌++◌, length, take}
use Rattle.co_kq.specs.Kevents.{events_in, left_in}
use Rattle.co_kq.proofs.kq.Kq.events.Given as goal

abbrev pub invariant-loop-count : goal.invariant-loop-count
invariant-loop-count g l = record {
  room : l.self.room ≡ l.fn.self.room;
  work : l.self.work ≡ l.fn.self.work;
  passes : l.self.passes ≡ l.fn.self.passes;
  clock : l.self.list.clock ≡ l.fn.self.list.clock;
  within : l.count ≤ length l.out;
  told : take l.count l.out ++ events_in (length l.out - l.count) l.self.list.knotes ≡ events_in (length l.out) l.fn.self.list.knotes;
  left : left_in (length l.out - l.count) l.self.list.knotes ≡ left_in (length l.out) l.fn.self.list.knotes;
}

abbrev pub decreases-loop-count : goal.decreases-loop-count
decreases-loop-count g l = length l.out - l.count
