-- The section begins where the draft's last line ends, and no line of it is counted twice.
use Rattle.std.proofs.Common.{rules, ◌≡◌, arith}
use Rattle.co_script.proofs.by_threads.put_section.Goals as goal

pub returns-in-Some-clause-spot : goal.returns-in-Some-clause-spot
returns-in-Some-clause-spot c =
    let here : c.args.from.at ≡ c.args.section.at = search rules in
    record {
      within = c.requires.section.within;
      few = omega (arith, c.requires.from.few, c.requires.section.few, here);
    }

pub returns-in-Some-clause-same : goal.returns-in-Some-clause-same
returns-in-Some-clause-same c = search rules
