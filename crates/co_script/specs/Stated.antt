-- Lines of the frame by what they state.
use Rattle.std.specs.Prelude.{ℕ, List, Result, Ok}
use Rattle.co_text.specs.Fallible.{◌>>=◌}
use Rattle.co_text.specs.Values.{Word, number}
use Rattle.co_text.specs.Taking.{lone}
use Rattle.co_text.specs.declared.Cause.{Cause}
use Rattle.co_grammar.specs.declared.Kind.{Kind}
use Rattle.co_grammar.specs.declared.Kind.TheVariants as kind
use Rattle.co_grammar.specs.Statements.{Statement}
use Rattle.co_grammar.specs.Statements as states
use Rattle.co_script.specs.Drafts.{Draft, closed}
use Rattle.co_script.specs.Refusals.{draft_after}

-- what a number states, by its kind of line: of a kind that has none, as of a CPU's section
abbrev pub numbered : Kind → ℕ → Statement
numbered kind.Hz n = states.Hz n
numbered kind.Cpus n = states.Cpus n
numbered kind.Wheel n = states.Wheel n
numbered kind.Funcs n = states.Funcs n
numbered kind.Func n = states.Func n
numbered kind.Client n = states.Client n
numbered _ n = states.Cpu n

abbrev pub number_form : Kind → List Word → Result Statement Cause
number_form k ws = lone number ws >>= λ n. Ok (numbered k n)

-- a line that states this: it closes the open section
abbrev pub stated_line : Draft → Result Statement Cause → Result Draft Cause
stated_line d stated = stated >>= draft_after d (closed d)
