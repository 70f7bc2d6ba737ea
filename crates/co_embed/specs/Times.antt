-- Times and CPUs as numbers.
use Rattle.std.specs.Prelude.{ℕ, Bool, ◌==◌, ◌&&◌, ◌^◌, nat_lt, if◌then◌else◌}
use Rattle.std.specs.declared.option.Option.{Option}
use Rattle.std.specs.declared.option.Option.TheVariants.{Some, None}
use Rattle.co_object.specs.declared.op.CallOp.{CallOp}
use Rattle.co_object.specs.declared.op.CallOp.TheVariants.{Plain}
use Rattle.co_object.specs.declared.op.PlainOp.TheVariants.{Reset, Schedule}
use Rattle.co_embed.specs.declared.times.When.{When}

-- both are times
abbrev pub are_times : When → Bool
are_times when = nat_lt when.due (2 ^ 63) && nat_lt when.prec (2 ^ 63)

-- the CPU that is meant: none is the callout's own
abbrev pub cpu_meant : (here cpu : ℕ) → Option ℕ
cpu_meant here cpu = if cpu == 4294967295 then None else if cpu == 4294967294 then Some here else Some cpu

-- the operations of a wheel at CPU `here`: the function's number is always 0, and its word is kept beside
abbrev pub reset_op : (here : ℕ) → When → (arg : ℕ) → CallOp
reset_op here when arg = Plain (Reset when.due when.prec 0 arg (cpu_meant here when.cpu))

abbrev pub schedule_op : (here : ℕ) → When → CallOp
schedule_op here when = Plain (Schedule when.due when.prec (cpu_meant here when.cpu))
