use Rattle.co_service.proofs.FirstDesk.{first_desk}
use Rattle.co_service.proofs.desk_parts.DeskParts.into_desk.Goals as goal

pub new-requires-clause-books : goal.new-requires-clause-books
new-requires-clause-books g c = record { own = c.requires.own; each = c.requires.first.each }

pub new-requires-clause-desk : goal.new-requires-clause-desk
new-requires-clause-desk g c = first_desk g.N.Name.name c.args.params.now c.args.cpu c.args.self.wheel c.args.self.keepers.items c.args.self.journal c.requires
