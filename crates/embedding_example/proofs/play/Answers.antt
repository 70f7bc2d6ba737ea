-- Each turn counts its beats.
use Rattle.std.proofs.Common.{refl}
use Rattle.embedding_example.specs.declared.parts.Heart.{Heart}
use Rattle.embedding_example.proofs.Beats.{beats_thrice}
use Rattle.embedding_example.proofs.play.Goals as goal

pub returns-clause-beats : goal.returns-clause-beats
returns-clause-beats g c =
    let first : Heart = record { beats = 0; arg = 0 } in
    beats_thrice first c.args.cpu.now c.turn-first.new.self c.turn-second.new.self c.turn-third.new.self _ _ _ c.turn-first.result c.turn-second.result c.turn-third.result
    c.turn-first.new.handler c.turn-second.new.handler c.turn-third.new.handler refl c.turn-first.ensures.turned c.turn-second.ensures.turned c.turn-third.ensures.turned
