-- The calls of the acts so far are made.
use Rattle.std.proofs.Common.{take}
use Rattle.std.specs.Option.{option_copied}
use Rattle.co_hand.specs.Functions.{Makes, scene_of}
use Rattle.co_hand.proofs.func_table.make_each.Given as goal

abbrev pub invariant-loop-act : goal.invariant-loop-act
invariant-loop-act g l = Makes l.hz (scene_of l.fire) (take l.act-index l.acts) (option_copied l.hold) (g.P.Port.state l.initial.port) (g.P.Port.state l.port)
