-- The identity of a life. A life, its keeper and its passes carry it wherever they are moved, and no other life has it.
use Rattle.std.specs.Coded.{Coded}
use Rattle.atomic_table.specs.Seated.{TableId, table_id_coded}

abbrev pub LifeId : Type 0
LifeId = TableId

abbrev pub life_coded : Coded LifeId
life_coded = table_id_coded
