use Rattle.std.proofs.Common.{◌≡◌, ◌<◌, sym, subst}
use Rattle.co_object.specs.Journal.{scanner}
use Rattle.co_desk.specs.declared.params.Params.{Params}
use Rattle.co_desk.specs.Outcomes.{IsScan}
use Rattle.co_desk.specs.Params.{actors_of}
use Rattle.co_desk.specs.Views.{AreOf, PassesView}
use Rattle.co_service.proofs.Lasts.{scanned_keeps}
use Rattle.co_service.proofs.service.Service.scan_alone.Goals as goal

pub scan_here-requires : goal.scan_here-requires
scan_here-requires g c = record { cpu_is = c.requires.cpu; passes = c.requires.passes; scanner = c.requires.scanner }

pub returns-in-Some-clause-scanned : goal.returns-in-Some-clause-scanned
returns-in-Some-clause-scanned g c = c.in-Some.ensures.asked.some

pub returns-in-Some-clause-kept : goal.returns-in-Some-clause-kept
returns-in-Some-clause-kept g c = record {
  params_are = c.in-Some.ensures.params;
  keeps = scanned_keeps c.args.passes.now c.scan_here.new.passes c.args.cpu c.args.act c.args.now c.in-Some.out c.in-Some.ensures.asked.some g.N.Name.name c.args.self.now c.requires.passes;
}

pub scan-requires-clause-cpu : goal.scan-requires-clause-cpu
scan-requires-clause-cpu g c = subst (λ (r : Params). c.args.cpu < r.cpus) (sym c.in_default.ensures.params) c.requires.cpu

pub scan-requires-clause-passes : goal.scan-requires-clause-passes
scan-requires-clause-passes g c = subst (λ (t : Params × PassesView). AreOf g.N.Name.name t.0 t.1) (λ d. (sym c.in_default.ensures.params d, sym c.in_default.ensures.asked.none d)) c.requires.passes

pub scan-requires-clause-scanner : goal.scan-requires-clause-scanner
scan-requires-clause-scanner g c =
    subst (λ (t : Params × PassesView). t.1.actor ≡ scanner (actors_of t.0) c.args.cpu) (λ d. (sym c.in_default.ensures.params d, sym c.in_default.ensures.asked.none d)) c.requires.scanner

pub returns-clause-scanned : goal.returns-clause-scanned
returns-clause-scanned g c = subst (λ (p : PassesView). IsScan p c.args.cpu c.args.act c.args.now c.scan.result c.scan.new.passes) c.in_default.ensures.asked.none c.scan.ensures.scanned

pub returns-clause-kept : goal.returns-clause-kept
returns-clause-kept g c =
    let scanned = subst (λ (p : PassesView). IsScan p c.args.cpu c.args.act c.args.now c.scan.result c.scan.new.passes) c.in_default.ensures.asked.none c.scan.ensures.scanned in
    record {
      params_are = c.in_default.ensures.params;
      keeps = scanned_keeps c.args.passes.now c.scan.new.passes c.args.cpu c.args.act c.args.now c.scan.result scanned g.N.Name.name c.args.self.now c.requires.passes;
    }
