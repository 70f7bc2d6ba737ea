-- A note of an actor's own: the others are of the kind of their place.
use Rattle.std.proofs.Common.{subst, ◌∙◌}
use Rattle.co_check.specs.Lines.{IsOfKind}
use Rattle.co_check.proofs.Noted.{not-timer, not-cpu}
use Rattle.co_check.proofs.Taken.{taken-own}
use Rattle.co_check.proofs.replay.Replay.take.Goals as goal
use Rattle.co_check.proofs.replay.Replay.take.Goals.{in_default-via-in-Timer+in_default, in_default-via-in-Cpu+in_default, in_default-via-in_default}

pub returns-in_default : goal.returns-in_default
returns-in_default c above l there is h =
    let e = c.args.entry.now in
    let line = c.requires.line in
    let kind : IsOfKind c.args.place e = subst (λ p. IsOfKind p e) line.1 (subst (IsOfKind line.0.place) line.2 line.3.kind) in
    elim c.in_default.branch [
      | in_default-via-in-Timer+in_default w ↦ absurd (not-timer w.in_default.field-0-0 e (subst (λ p. IsOfKind p e) w.in_default.is-0 kind) w.in_default.not-Timer-1)
      | in_default-via-in-Cpu+in_default w ↦ absurd (not-cpu w.in_default.field-0-0 e (subst (λ p. IsOfKind p e) w.in_default.is-0 kind) w.in_default.not-Cpu-1)
      | in_default-via-in_default w ↦ taken-own c.args.script.now above l w.in_default.field-0-0 c.args.self.now (there ∙ w.in_default.is-0) h c.new-nothing.result c.new-nothing.ensures
    ]
