use Rattle.std.proofs.Common.{rules, ◌≡◌}
use Rattle.std.proofs.lemmas.List.{get_or_read}
use Rattle.co_core.specs.Stored.{wheel_at}
use Rattle.co_core.proofs.depot.Depot.scan.Goals as goal

pub returns : goal.returns
returns c =
    let read : c.index_mut-wheel.result.now ≡ wheel_at c.args.self.now c.args.cpu = search (rules, get_or_read) in
    (c.scan.new.wheel, search rules, search rules)
