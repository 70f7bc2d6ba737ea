use Rattle.co_notes.specs.NoteValues.{func_of}
use Rattle.co_notes.proofs.PlainParts.{dash_failed}
use Rattle.co_notes.proofs.reading.values.func_or_none.Goals as goal

pub returns-in-Err : goal.returns-in-Err
returns-in-Err c = dash_failed (func_of c.args.names.now) _ c.args.parts.now _ _ c.in-Err.cause c.as_slice.ensures c.option.ensures c.if-option.false c.in-Err.ensures
