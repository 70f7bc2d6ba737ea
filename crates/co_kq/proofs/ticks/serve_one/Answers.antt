use Rattle.std.proofs.Common.{◌∙◌, ap, sym, arith}
use Rattle.co_single.proofs.OfAct.{adds_more}
use Rattle.co_kq.specs.Numbers.{is_held}
use Rattle.co_kq.proofs.Serving.{first_ready, served_armed, served_bare}
use Rattle.co_kq.proofs.ticks.serve_one.Goals as goal

pub key_of-key-requires-clause-held : goal.key_of-key-requires-clause-held
key_of-key-requires-clause-held g c =
    ap is_held (first_ready c.args.now c.args.knotes.now.slots c.args.uses.now c.args.single.now c.fire.new.self c.in-Some.fired.i c.in-Some.fired.arg c.requires c.in-Some.ensures.some).held

pub arm-requires-clause-made : goal.arm-requires-clause-made
arm-requires-clause-made g c =
    let ready = first_ready c.args.now c.args.knotes.now.slots c.args.uses.now c.args.single.now c.fire.new.self c.in-Some.fired.i c.in-Some.fired.arg c.requires c.in-Some.ensures.some in
    omega (arith, ready.made, c.in-Some.ensures.some.made)

pub returns-in-Some-expire_at-clause-served : goal.returns-in-Some-expire_at-clause-served
returns-in-Some-expire_at-clause-served g c is =
    served_armed c.args.now c.args.knotes.now.slots c.expire_at.new.self.slots c.args.uses.now c.args.single.now c.fire.new.self c.arm.new.self c.in-Some.fired.i c.in-Some.fired.arg c.key_of-key.result c.requires c.in-Some.ensures.some
    c.key_of-key.ensures c.expire_at.ensures.slots c.in-Some-expire_at.next (sym c.expire_at.ensures.next ∙ c.in-Some-expire_at.is) c.arm.ensures.armed

pub returns-in_default-expire_at-clause-served : goal.returns-in_default-expire_at-clause-served
returns-in_default-expire_at-clause-served g c is =
    served_bare c.args.now c.args.knotes.now.slots c.expire_at.new.self.slots c.args.uses.now c.args.single.now c.fire.new.self c.in-Some.fired.i c.in-Some.fired.arg c.key_of-key.result c.requires c.in-Some.ensures.some
    c.key_of-key.ensures c.expire_at.ensures.slots (sym c.expire_at.ensures.next ∙ c.in_default-expire_at.is)

pub returns-in-Some-expire_at-clause-entries : goal.returns-in-Some-expire_at-clause-entries
returns-in-Some-expire_at-clause-entries g c = adds_more c.args.single.now c.fire.new.self c.arm.new.self c.args.act c.fire.ensures.entries c.arm.ensures.entries
