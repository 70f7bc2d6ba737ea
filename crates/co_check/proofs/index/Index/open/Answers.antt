-- Before the first line no slot is taken, and no number has come.
use Rattle.std.proofs.Common.{ℕ, map, replicate, ap, ◌∙◌}
use Rattle.std.specs.Prelude.{Option}
use Rattle.co_program.specs.Places.{place_count}
use Rattle.co_check.proofs.Indexing.{opened-index, zeros}
use Rattle.co_check.proofs.index.Index.open.Goals as goal

pub returns : goal.returns
returns c lines counted =
    opened-index c.args.script.now lines c.args.counts.now c.in_ok-widths.widths _
    counted.long counted.each
    (c.in_ok-slots.ensures ∙ ap (λ (slot : Option ℕ). map (λ n. replicate n slot) c.args.counts.now) c.free.ensures)
    (c.in_ok-widths.ensures ∙ (ap (λ n. replicate n c.actor_count.result) c.place_count.ensures ∙ ap (replicate (place_count c.args.script.now)) c.actor_count.ensures))
    (c.in_ok-latest.ensures ∙ ap (map zeros) c.as_slice.ensures)
