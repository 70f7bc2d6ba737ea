-- What a report that is read stands for are lines as the checker wants them: in places of the script, of their kinds and of
-- the script's actors, naming its callouts.
use Rattle.std.proofs.Common.{◌<◌, List, [], ◌∷◌, length}
use Rattle.std.specs.List.{AllByRecursion}
use Rattle.co_object.specs.declared.Place.{Place}
use Rattle.co_object.specs.declared.Place.TheVariants as place
use Rattle.co_object.specs.declared.AnyEntry.{AnyEntry}
use Rattle.co_object.specs.declared.AnyEntry.TheVariants as of
use Rattle.co_object.specs.declared.QOp.{QOp}
use Rattle.co_object.specs.declared.QOp.TheVariants as queue
use Rattle.co_program.specs.declared.Script.{Script}
use Rattle.co_program.specs.Actors.{actor_count}
use Rattle.co_program.specs.Existing.{QOpExists}
use Rattle.co_report.specs.declared.line.Line.{Line}
use Rattle.co_notes.specs.NoteFits.{EntryFits}
use Rattle.co_report.specs.LineFits.{LineFits}
use Rattle.co_check.specs.Cpu.{NamesCallout}
use Rattle.co_check.specs.Lines.{IsLineOf, AreLinesOf, IsOfKind, NamesExist}
use Rattle.co_check.specs.Shown.{actor_of}

module _ (s : Script) where
  names : (op : QOp) → QOpExists s op → NamesCallout (length s.timers) op
  names (queue.Insert i n t) h = h
  names op h = tt

  stands : (p : Place) (e : AnyEntry) → EntryFits s p e → IsOfKind p e × ((actor_of e < actor_count s) × NamesExist s e)
  stands (place.Timer i) (of.Timer e) h = (tt, (h.0.0, tt))
  stands (place.Cpu c) (of.Cpu e) h = (tt, (h.0.0, names e.op h.1.0.0.1))
  stands (place.Actor a) (of.Own e) h = (tt, (h.0.0, tt))
  stands p e h = absurd h

  line_of : (l : Line) → LineFits s l → IsLineOf s l
  line_of l h = let x = stands l.place l.entry h.entry in record { place = h.place; kind = x.0; actor = x.1.0; names = x.1.1 }

  pub lines_of : (ls : List Line) → AllByRecursion (LineFits s) ls → AreLinesOf s ls
  lines_of [] h = tt
  lines_of (l ∷ ls) h = (line_of l h.0, lines_of ls h.1)
