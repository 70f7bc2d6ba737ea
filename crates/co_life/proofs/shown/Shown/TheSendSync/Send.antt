use denote.RattleType.{RattleType}
use denote.Param.Send.{IsSend}
use Rattle.co_life.proofs.Sent.{shown_send}
use Rattle.co_life.specs.contracts.shown.Shown.{the_row}

pub send : (T : RattleType) → IsSend (the_row T)
send = shown_send
