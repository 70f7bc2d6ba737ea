-- The list has room for one lock more.
use Rattle.std.proofs.Common.{◌≡◌, ◌+◌, true, [], ◌∷◌, length, ap, arith, length-append}
use Rattle.co_grammar.specs.Checks.{is_next_of}
use Rattle.co_script.proofs.drafts.Order.{next-of}
use Rattle.co_script.proofs.draft.Draft.lock.Goals as goal

pub invariant_of-self-2 : goal.invariant_of-self-2
invariant_of-self-2 c =
    let before = c.self.invariant in
    let next : is_next_of 256 (length c.self.inside.script.locks) c.args.number ≡ true = cc in
    let more : length c.push.new.self ≡ length c.self.inside.script.locks + 1 = omega (arith, ap length c.in_ok-push.ensures.ok, length-append c.self.inside.script.locks (c.args.kind ∷ [])) in
    record {
      script = record {
        locks = omega (arith, more, next-of 256 (length c.self.inside.script.locks) c.args.number next);
        timers = before.script.timers;
        cpus = before.script.cpus;
        funcs_fit = before.script.funcs_fit;
      };
      clients = before.clients;
    }
