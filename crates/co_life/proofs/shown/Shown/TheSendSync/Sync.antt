use denote.RattleType.{RattleType}
use denote.Param.Send.{IsSync}
use Rattle.co_life.proofs.Sent.{shown_sync}
use Rattle.co_life.specs.contracts.shown.Shown.{the_row}

pub sync : (T : RattleType) → IsSync (the_row T)
sync = shown_sync
