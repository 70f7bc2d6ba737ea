-- No note is counted yet.
use Rattle.std.proofs.Common.{List, ap, length, replicate, ◌∙◌}
use Rattle.co_object.specs.declared.Spec.{Spec}
use Rattle.co_gen.specs.declared.fates.ToFire.TheVariants.{Nothing}
use Rattle.co_gen.proofs.AllCounted.{nothing-counted, none-to-fire}
use Rattle.co_gen.proofs.tally.Tally.new.Goals as goal

pub returns : goal.returns
returns c = record {
  actors = tt;
  callouts =
      c.into_vec.ensures
      ∙ (c.in_ok-callouts.ensures
      ∙ (ap (λ (timers : List Spec). replicate (length timers) Nothing) c.as_slice-timers.ensures ∙ none-to-fire 0 (length c.args.script.now.timers)));
  counts = nothing-counted c.args.script.now;
}
