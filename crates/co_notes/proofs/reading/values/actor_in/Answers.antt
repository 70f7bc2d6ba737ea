-- The letter of a client, a CPU or an interrupt is read, and the rest is its number.
use Rattle.std.proofs.Common.{rules, ap, sym, subst, arith}
use Rattle.std.proofs.lemmas.List.{take_rest}
use Rattle.std.specs.Prelude.{ℕ, Result}
use Rattle.co_text.specs.Fallible.{Gives}
use Rattle.co_text.specs.declared.Cause.{Cause}
use Rattle.co_notes.specs.NoteValues.{actor_in}
use Rattle.co_notes.proofs.PlainParts.{front_read}
use Rattle.co_notes.proofs.reading.values.actor_in.Goals as goal

pub returns-in-99 : goal.returns-in-99
returns-in-99 c =
    let begins = front_read c.args.word.now _ 99 (omega arith) (search rules) (take_rest c.args.word.now 1) in
    subst (λ (r : Result ℕ Cause). Gives (λ (a : ℕ). a) c.index.result r) (sym (ap (actor_in c.args.names.now) begins)) c.index.ensures.value

pub returns-in-112 : goal.returns-in-112
returns-in-112 c =
    let begins = front_read c.args.word.now _ 112 (omega arith) (search rules) (take_rest c.args.word.now 1) in
    subst (λ (r : Result ℕ Cause). Gives (λ (a : ℕ). a) c.cpu_actor.result r) (sym (ap (actor_in c.args.names.now) begins)) c.cpu_actor.ensures

pub returns-in-104 : goal.returns-in-104
returns-in-104 c =
    let begins = front_read c.args.word.now _ 104 (omega arith) (search rules) (take_rest c.args.word.now 1) in
    subst (λ (r : Result ℕ Cause). Gives (λ (a : ℕ). a) c.interrupt_actor.result r) (sym (ap (actor_in c.args.names.now) begins)) c.interrupt_actor.ensures
