-- An actor that has to wait has not finished.
use Rattle.std.proofs.Common.{◌≡◌, true, false}
use Rattle.co_core.proofs.telling.is_finished.Goals as goal

pub returns-in-Blocked : goal.returns-in-Blocked
returns-in-Blocked c = λ said. absurd (let clash : false ≡ true = said in cc)
