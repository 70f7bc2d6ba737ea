-- The callouts, functions and CPUs of a script, and what is written of them, are read exactly from their words.
use Rattle.std.proofs.Common.{[], ◌∷◌, length, refl, arith}
use Rattle.std.specs.Prelude.{codes}
use Rattle.co_program.specs.declared.Script.{Script}
use Rattle.co_program.specs.Existing.{CpuExists}
use Rattle.co_program.specs.Names.{FuncExists}
use Rattle.co_text.specs.Written.{units_word, func_word, argument_word}
use Rattle.co_text.specs.Taking.{next}
use Rattle.co_notes.specs.declared.reading.names.Names.{Names}
use Rattle.co_notes.specs.NoteTexts.{callout_word, arming_word, cpu_word, cpu_or_dash, func_or_dash}
use Rattle.co_notes.specs.NoteValues.{names_of, IsSmallScript, given, callout_value, func_of, cpu_in, or_dash}
use Rattle.co_notes.specs.NoteForms.{both, due_and_precision, target, arming_and_cpu}
use Rattle.co_notes.specs.NoteFits.{IsTime, IsLong, IsCallout, IsFunc, IsCpu}
use Rattle.co_notes.proofs.Exact.{IsSpelling, Exact, lit, one, two, behind}
use Rattle.co_notes.proofs.ExactValues.{letters, times, armings, arguments, or_dashes}

module _ (s : Script) (small : IsSmallScript s) where
  abbrev names : Names
  names = names_of s

  -- ---- values

  pub callouts : IsSpelling (IsCallout s) callout_word (callout_value names)
  callouts = letters 105 (length s.timers) refl (omega (arith, small.timers))

  pub funcs : IsSpelling (IsFunc s) func_word (func_of names)
  funcs = letters 102 (length s.funcs) refl (omega (arith, small.funcs))

  cpus : IsSpelling (IsCpu s) cpu_word (cpu_in names)
  cpus = letters 112 s.cpus refl (omega (arith, small.cpus))

  pub some_cpus : IsSpelling (CpuExists s) cpu_or_dash (or_dash (cpu_in names))
  some_cpus = or_dashes (IsCpu s) (CpuExists s) cpu_word (cpu_in names) tt (λ x h. h) (λ x h. h) cpus (λ x. refl)

  pub some_funcs : IsSpelling (FuncExists s) func_or_dash (or_dash (func_of names))
  some_funcs = or_dashes (IsFunc s) (FuncExists s) func_word (func_of names) tt (λ x h. h) (λ x h. h) funcs (λ x. refl)

  pub due_exact : Exact (λ p. IsTime p.0 × IsTime p.1) (λ p. units_word p.0 ∷ codes "pr" ∷ units_word p.1 ∷ []) due_and_precision
  due_exact = two (one times) (behind (codes "pr") refl (lit (codes "pr") refl) (one times))

  pub target_exact : Exact (CpuExists s) (λ o. codes "cpu" ∷ cpu_or_dash o ∷ []) (target names)
  target_exact = behind (codes "cpu") refl (lit (codes "cpu") refl) (one some_cpus)

  pub arming_exact : Exact (λ p. IsLong p.0 × IsCpu s p.1) (λ p. arming_word p.0 ∷ cpu_word p.1 ∷ []) (arming_and_cpu names)
  arming_exact = two (one armings) (one cpus)

  pub func_exact : Exact (λ p. IsFunc s p.0 × IsLong p.1) (λ p. func_word p.0 ∷ argument_word p.1 ∷ []) (both (next (func_of names)) (next given))
  func_exact = two (one funcs) (one arguments)
