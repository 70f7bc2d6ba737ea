use Rattle.std.proofs.Common.{◌≢◌, ℕ, ◌<◌}
use Rattle.co_single.specs.Seen.{AddsEntries}
use Rattle.co_kq.specs.declared.numbers.Use.TheVariants.{Stale}
use Rattle.co_kq.specs.Numbers.{use_at}
use Rattle.co_kq.specs.Ticks.{AreCleared}
use Rattle.co_kq.proofs.ticks.clear_all.Given as goal

-- none so far is stale
abbrev pub invariant-loop-number : goal.invariant-loop-number
invariant-loop-number g l = record {
  cleared : AreCleared l.fn.uses l.fn.single l.uses l.single;
  entries : AddsEntries l.fn.single l.act l.single;
  none : (t : ℕ) → t < l.number → use_at l.uses t ≢ Stale;
}
