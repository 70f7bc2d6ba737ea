use Rattle.co_service.proofs.service.Service.hold_desk.Goals as goal

pub returns-then-cpu : goal.returns-then-cpu
returns-then-cpu g c = cc
