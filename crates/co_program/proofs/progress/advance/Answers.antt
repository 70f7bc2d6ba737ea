use Rattle.std.proofs.Common.{None, ap, sym, subst, ◌∙◌}
use Rattle.co_object.specs.declared.AnyEntry.TheVariants as entry
use Rattle.co_object.specs.declared.Place.TheVariants as place
use Rattle.co_program.specs.declared.role.Role.TheVariants.{Cpu}
use Rattle.co_program.specs.Actors.{role_of}
use Rattle.co_program.specs.Cursor.{Cursor}
use Rattle.co_program.specs.Existing.{EntryExists, IsIn}
use Rattle.co_program.specs.Indexed.{cursor_as, cursor_of}
use Rattle.co_program.proofs.Existing.{advance_exists, over_in}
use Rattle.co_program.proofs.Keeping.{over_keeps, callout_keeps, queue_keeps}
use Rattle.co_program.proofs.progress.advance.Goals as goal

pub returns-in-Timer-Timer-clause-existing : goal.returns-in-Timer-Timer-clause-existing
returns-in-Timer-Timer-clause-existing c actor inside exists =
    let s = c.args.script.now in
    let note : EntryExists s (place.Timer c.in-Timer-Timer.i) (entry.Timer c.in-Timer-Timer.e) = rw (c.in-Timer-Timer.is-0, c.in-Timer-Timer.is-1) at exists in
    subst (IsIn s) (sym (c.advance_callout.ensures.cursor (role_of s actor)))
    (advance_exists s c.requires.script (cursor_of s actor c.args.cursor.now) c.args.listed (place.Timer c.in-Timer-Timer.i) (entry.Timer c.in-Timer-Timer.e) inside note)

pub returns-in-Cpu-Cpu-clause-existing : goal.returns-in-Cpu-Cpu-clause-existing
returns-in-Cpu-Cpu-clause-existing c actor inside exists =
    let s = c.args.script.now in
    let note : EntryExists s (place.Cpu c.in-Cpu-Cpu.cpu) (entry.Cpu c.in-Cpu-Cpu.e) = rw (c.in-Cpu-Cpu.is-0, c.in-Cpu-Cpu.is-1) at exists in
    subst (IsIn s) (sym (c.advance_queue.ensures.cursor (role_of s actor)))
    (advance_exists s c.requires.script (cursor_of s actor c.args.cursor.now) c.args.listed (place.Cpu c.in-Cpu-Cpu.cpu) (entry.Cpu c.in-Cpu-Cpu.e) inside note)

pub returns-in_default-clause-existing : goal.returns-in_default-clause-existing
returns-in_default-clause-existing c actor inside exists =
    let s = c.args.script.now in
    let cursor = cursor_of s actor c.args.cursor.now in
    subst (IsIn s) (sym (c.act_over.ensures.cursor (role_of s actor))) (over_in s c.requires.script cursor cursor.stage inside.left inside.stage inside.parcel)

-- what the actor holds is the same at any role, so it is read at one
pub returns-in-Timer-Timer-clause-hold : goal.returns-in-Timer-Timer-clause-hold
returns-in-Timer-Timer-clause-hold c =
    let s = c.args.script.now in
    let from : Cursor = record (cursor_as s (Cpu 0) c.args.cursor.now) { removed = None } in
    ap (λ (x : Cursor). x.hold) (c.advance_callout.ensures.cursor (Cpu 0)) ∙ callout_keeps s from c.in-Timer-Timer.i c.args.listed c.in-Timer-Timer.e.op c.in-Timer-Timer.e.reply from.stage

pub returns-in-Cpu-Cpu-clause-hold : goal.returns-in-Cpu-Cpu-clause-hold
returns-in-Cpu-Cpu-clause-hold c =
    let s = c.args.script.now in
    let from : Cursor = cursor_as s (Cpu 0) c.args.cursor.now in
    ap (λ (x : Cursor). x.hold) (c.advance_queue.ensures.cursor (Cpu 0)) ∙ queue_keeps s from c.in-Cpu-Cpu.cpu c.in-Cpu-Cpu.e.op c.in-Cpu-Cpu.e.reply

pub returns-in_default-clause-hold : goal.returns-in_default-clause-hold
returns-in_default-clause-hold c =
    let from : Cursor = cursor_as c.args.script.now (Cpu 0) c.args.cursor.now in
    ap (λ (x : Cursor). x.hold) (c.act_over.ensures.cursor (Cpu 0)) ∙ over_keeps from from.stage
