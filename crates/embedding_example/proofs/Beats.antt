-- The heart beats as often as a turn says that functions were called.
use Rattle.std.proofs.Common.{◌≡◌, ℕ, ◌+◌, ◌≤◌, Bool, true, false, [], ◌∷◌, sym, ap, ◌∙◌, arith}
use Rattle.std.specs.Prelude.{is_some}
use Rattle.std.specs.declared.option.Option.{Option}
use Rattle.std.specs.declared.option.Option.TheVariants.{None, Some}
use Rattle.co_hand.specs.declared.fire.Fire.{Fire}
use Rattle.co_life.specs.Rule.{capped}
use Rattle.co_lock.specs.declared.held.Held.{Held}
use Rattle.co_object.specs.Queue.{Due}
use Rattle.co_timers.specs.declared.turned.Round.{Round}
use Rattle.co_timers.specs.declared.turned.Served.{Served}
use Rattle.co_timers.specs.declared.turned.Turned.{Turned}
use Rattle.co_timers.specs.Handles.{HandleView}
use Rattle.co_timers.specs.Rounds.{AreRounds, DrainsIf, IsRound, RunsIf, again, called_by, counted_where, fire_of, start}
use Rattle.co_timers.specs.Turns.{CpuView, IsTurned}
use Rattle.embedding_example.specs.declared.parts.Heart.{Heart}
use Rattle.embedding_example.specs.Example.{AreAllBeats, BeatsOrRests, called_in, example_needs}

-- 2^64 - 1 at most
abbrev IsCount : ℕ → Type 0
IsCount n = n ≤ 18446744073709551615

ran : (d : Due) (cpu at : ℕ) (call : Option (ℕ × ℕ)) (before : Heart) (hold : Option Held) (p : HandleView) (after : Heart) (q : HandleView)
    → RunsIf example_needs BeatsOrRests before (fire_of d cpu at call) hold p after q → after.beats ≡ counted_where (is_some call) before.beats
ran d cpu at None before hold p after q is = ap (λ (h : Heart). h.beats) is.0
ran d cpu at (Some call) before hold p after q is = is.ran.counted

drained : (fire : ℕ → Fire) (drain : Option ℕ) (before : Heart) (p : HandleView) (after : Heart) (q : HandleView)
    → DrainsIf example_needs BeatsOrRests before fire drain p after q → after.beats ≡ before.beats
drained fire None before p after q is = ap (λ (h : Heart). h.beats) is.0
drained fire (Some func) before p after q is = ap (λ (h : Heart). h.beats) is.ran

one_more : (b : Bool) (first called between after : ℕ) → between ≡ capped (first + called) → after ≡ counted_where b between → after ≡ capped (first + counted_where b called)
one_more true first called between after so_far is = omega (arith, so_far, is)
one_more false first called between after so_far is = is ∙ so_far

module _ (direct : Bool) (cpu act : ℕ) where
  round : (before : Heart) (p : HandleView) (one : Round) (after : Heart) (q : HandleView) → IsRound example_needs BeatsOrRests direct cpu act before p one after q → after.beats ≡ counted_where one.called before.beats
  round before p one after q is =
      let s = is.serves in
      let rest = drained _ _ s.between _ after q s.drain in
      let beat = ran _ cpu is.time (called_by s.said) before _ _ s.between s.ran s.function in
      rest ∙ (beat ∙ ap (λ (b : Bool). counted_where b before.beats) (sym s.called))

  rounds : (before : Heart) (p : HandleView) (served : Served) (after : Heart) (q : HandleView) → IsCount before.beats → AreRounds example_needs BeatsOrRests direct cpu act before p served after q → after.beats ≡ capped (before.beats + served.called)
  rounds before p served after q few start = omega (arith, few)
  rounds before p served after q few (again s one between last r t so_far is) =
      one_more one.called before.beats s.called between.beats last.beats (rounds before p s between r few so_far) (round between r one last t is)

pub beats_once : (before : Heart) (p : CpuView) (now : ℕ) (turned : Turned) (after : Heart) (q : CpuView) → IsCount before.beats → IsTurned example_needs BeatsOrRests before p now turned after q
    → after.beats ≡ capped (before.beats + called_in turned)
beats_once before p now turned after q few is =
    let first : is.between.beats ≡ capped (before.beats + turned.direct.called) = rounds true p.cpu p.direct.act before _ turned.direct is.between _ few is.direct.rounds in
    let second : after.beats ≡ capped (is.between.beats + turned.others.called) = rounds false p.cpu p.others.act is.between _ turned.others after _ (omega (arith, first)) is.others.rounds in
    omega (arith, first, second)

-- of three turns, one after the other
pub beats_thrice : (first : Heart) (p q r s : CpuView) (now then last : ℕ) (one two three : Turned) (second third after : Heart) → first.beats ≡ 0
    → IsTurned example_needs BeatsOrRests first p now one second q → IsTurned example_needs BeatsOrRests second q then two third r → IsTurned example_needs BeatsOrRests third r last three after s
    → AreAllBeats after.beats (one ∷ two ∷ three ∷ [])
beats_thrice first p q r s now then last one two three second third after zero is_one is_two is_three =
    let a = beats_once first p now one second q (omega (arith, zero)) is_one in
    let b = beats_once second q then two third r (omega (arith, a)) is_two in
    let c = beats_once third r last three after s (omega (arith, b)) is_three in
    omega (arith, zero, a, b, c)
