use Rattle.std.proofs.Common.{Ok, refl, ap, sym, ◌∙◌, ◌^◌, arith}
use Rattle.co_notes.proofs.PlainParts.{below_bound, not_below}
use Rattle.co_notes.proofs.reading.values.units_of.Goals as goal

pub returns-in-Some : goal.returns-in-Some
returns-in-Some c = below_bound (2 ^ 63) c.args.units (omega arith) c.in-Some.ensures.found.1 ∙ ap Ok (sym c.in-Some.ensures.found.0)

pub returns-in-None : goal.returns-in-None
returns-in-None c = not_below (2 ^ 63) c.args.units (omega arith) (c.in-None.ensures.none refl)
