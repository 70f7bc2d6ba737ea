use Rattle.std.proofs.Common.{sym, ap, ◌∙◌, subst}
use Rattle.co_desk.specs.Outcomes.{IsScan}
use Rattle.co_desk.specs.Views.{AreOf, PassesView}
use Rattle.co_service.proofs.Lasts.{scanned_keeps}
use Rattle.co_service.proofs.service.Service.scan.Goals.{After-drop-iterator}
use Rattle.co_service.proofs.service.Service.scan.Goals as goal

-- the scan, by the passes before the wait
scanned : (g : _) (c : After-drop-iterator g) → IsScan c.args.passes.now c.args.cpu c.args.act c.args.now c.in-Some-scan_locked.out c.scan_locked.new.passes
scanned g c = subst (λ (p : PassesView). IsScan p c.args.cpu c.args.act c.args.now c.in-Some-scan_locked.out c.scan_locked.new.passes) c.loop.invariant c.in-Some-scan_locked.ensures.some

pub returns-in-Some-scan_locked-clause-scanned : goal.returns-in-Some-scan_locked-clause-scanned
returns-in-Some-scan_locked-clause-scanned g c = scanned g c

pub returns-in-Some-scan_locked-clause-kept : goal.returns-in-Some-scan_locked-clause-kept
returns-in-Some-scan_locked-clause-kept g c =
    scanned_keeps c.args.passes.now c.scan_locked.new.passes c.args.cpu c.args.act c.args.now c.in-Some-scan_locked.out (scanned g c) g.N.Name.name c.args.self.now c.requires.passes

pub scan_locked-requires : goal.scan_locked-requires
scan_locked-requires g c =
    let same = c.loop.invariant in
    record {
      cpu_is = c.requires.cpu;
      passes = subst (AreOf g.N.Name.name c.args.self.now) (sym same) c.requires.passes;
      scanner = ap (λ (p : PassesView). p.actor) same ∙ c.requires.scanner;
    }

pub loop-preserved : goal.loop-preserved
loop-preserved g c = c.in_default.ensures.none ∙ c.loop.invariant
