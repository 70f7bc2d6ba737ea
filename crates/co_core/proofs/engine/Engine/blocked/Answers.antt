-- What an actor does next decides what it waits for, and all that it names exists.
use Rattle.co_core.proofs.steps.Waits.{call_known, call_blocked, stand_below, queue_known, queue_blocked, scan_row}
use Rattle.co_world.specs.World.{lists_of}
use Rattle.co_core.specs.Written.{with_lists}
use Rattle.co_core.proofs.engine.Engine.blocked.Goals as goal

pub call_waits-requires-clause-stand : goal.call_waits-requires-clause-stand
call_waits-requires-clause-stand c =
    let s = c.requires.runs.running in
    (stand_below c.args.script.now c.requires.runs.running.script (with_lists c.args.self.now.ledger (lists_of c.args.script.now s.world)) c.args.self.now.depot s.world s.stands c.args.actor c.requires.runs.actor c.in-Callout.i
    (call_known c.args.script.now c.requires.runs.running.script (with_lists c.args.self.now.ledger (lists_of c.args.script.now s.world)) c.args.self.now.depot s.world s.stands c.args.actor c.requires.runs.actor
    c.args.cursor.now c.args.action.now c.requires.cursor c.requires.action c.in-Asks.act c.in-Asks.asked c.in-Asks.is
    c.in-Callout.i c.in-Callout.op c.in-Call.field-0 c.in-Callout.is c.in-Call.is)).0

pub call_waits-requires-clause-wheel : goal.call_waits-requires-clause-wheel
call_waits-requires-clause-wheel c =
    let s = c.requires.runs.running in
    (stand_below c.args.script.now c.requires.runs.running.script (with_lists c.args.self.now.ledger (lists_of c.args.script.now s.world)) c.args.self.now.depot s.world s.stands c.args.actor c.requires.runs.actor c.in-Callout.i
    (call_known c.args.script.now c.requires.runs.running.script (with_lists c.args.self.now.ledger (lists_of c.args.script.now s.world)) c.args.self.now.depot s.world s.stands c.args.actor c.requires.runs.actor
    c.args.cursor.now c.args.action.now c.requires.cursor c.requires.action c.in-Asks.act c.in-Asks.asked c.in-Asks.is
    c.in-Callout.i c.in-Callout.op c.in-Call.field-0 c.in-Callout.is c.in-Call.is)).1

pub tick_waits-requires : goal.tick_waits-requires
tick_waits-requires c =
    let s = c.requires.runs.running in
    scan_row c.args.script.now c.requires.runs.running.script (with_lists c.args.self.now.ledger (lists_of c.args.script.now s.world)) c.args.self.now.depot s.world s.stands c.args.actor c.requires.runs.actor c.in-Queue.cpu
    (queue_known c.args.script.now c.requires.runs.running.script (with_lists c.args.self.now.ledger (lists_of c.args.script.now s.world)) c.args.self.now.depot s.world s.stands c.args.actor c.requires.runs.actor
    c.args.cursor.now c.args.action.now c.requires.cursor c.requires.action c.in-Asks.act c.in-Asks.asked c.in-Asks.is
    c.in-Queue.cpu c.in-Queue.op c.in-Queue.is)

pub returns-in-Call : goal.returns-in-Call
returns-in-Call c = λ w h.
    (let known = call_known c.args.script.now c.requires.runs.running.script (with_lists c.args.self.now.ledger (lists_of c.args.script.now w)) c.args.self.now.depot w h c.args.actor c.requires.runs.actor
    c.args.cursor.now c.args.action.now c.requires.cursor c.requires.action c.in-Asks.act c.in-Asks.asked c.in-Asks.is
    c.in-Callout.i c.in-Callout.op c.in-Call.field-0 c.in-Callout.is c.in-Call.is in
    call_blocked c.args.script.now c.requires.runs.running.script (with_lists c.args.self.now.ledger (lists_of c.args.script.now w)) c.args.self.now.depot w h c.args.actor c.requires.runs.actor
    c.args.cursor.now c.args.action.now c.requires.cursor c.requires.action c.in-Asks.act c.in-Asks.asked c.in-Asks.is
    c.in-Callout.i c.in-Callout.op c.in-Call.field-0 c.in-Callout.is c.in-Call.is
    c.call_waits.result (c.call_waits.ensures c.args.script.now w c.requires.runs.running.script h known))

pub returns-in-Queue : goal.returns-in-Queue
returns-in-Queue c = λ w h.
    (let known = queue_known c.args.script.now c.requires.runs.running.script (with_lists c.args.self.now.ledger (lists_of c.args.script.now w)) c.args.self.now.depot w h c.args.actor c.requires.runs.actor
    c.args.cursor.now c.args.action.now c.requires.cursor c.requires.action c.in-Asks.act c.in-Asks.asked c.in-Asks.is
    c.in-Queue.cpu c.in-Queue.op c.in-Queue.is in
    queue_blocked c.args.script.now c.requires.runs.running.script (with_lists c.args.self.now.ledger (lists_of c.args.script.now w)) c.args.self.now.depot w h c.args.actor c.requires.runs.actor
    c.args.cursor.now c.args.action.now c.requires.cursor c.requires.action c.in-Asks.act c.in-Asks.asked c.in-Asks.is
    c.in-Queue.cpu c.in-Queue.op c.in-Queue.is
    c.scans_first.result c.scans_first.ensures c.tick_waits.result (c.tick_waits.ensures c.args.script.now w h.written known))
