-- The functions are the script's, which are sound.
use Rattle.co_hand.proofs.Sound.{sound}
use Rattle.co_hand.proofs.func_table.FuncTable.new.Goals as goal

pub invariant_of-result : goal.invariant_of-result
invariant_of-result c = rw (c.as_slice-2.ensures, c.in_ok-funcs.ensures, c.as_slice.ensures) (sound c.args.script.now c.requires)
