use Rattle.std.proofs.Common.{sym, ap, ◌∙◌, subst, arith}
use Rattle.std.specs.Prelude.{Result, Ok, Err, OnOk}
use Rattle.co_service.specs.declared.desk_parts.DeskParts.{DeskParts}
use Rattle.co_service.specs.Booted.{AreFirstKeepers}
use Rattle.co_service.proofs.FirstKeepers.{none_first}
use Rattle.co_service.proofs.desk_parts.add_parts.Goals as goal

-- what is known where the last push is
where_ok : {A E P Q : Type 0} (r : Result A E) → (P → Q) → OnOk r P → OnOk r Q
where_ok (Ok x) f p = f p
where_ok (Err e) f p = tt

pub returns-clause-parts : goal.returns-clause-parts
returns-clause-parts c =
    let parts : DeskParts = record { wheel = c.in_ok-wheel.wheel; keepers = c.replace-keepers.result; journal = c.args.journal } in
    where_ok c.push.result (λ pushed. (
      parts,
      pushed,
      record {
        wheel = c.in_ok-wheel.ensures;
        first = subst (AreFirstKeepers c.args.places.now.timers c.args.params.now c.args.cpu) (ap (λ v. v.items) (sym c.replace-keepers.ensures.value)) c.requires.here;
        own = c.requires.journal.kept;
        nothing = c.requires.journal.nothing;
      },
    )) c.push.ensures.pushed

pub returns-clause-here : goal.returns-clause-here
returns-clause-here c =
    where_ok c.push.result (λ _. none_first c.args.places.now.timers c.args.params.now c.args.cpu _ c.replace-keepers.new.dest.items
    (let n = c.requires.here.size in let m = c.args.here.now.ok.0 in let k = c.len.ensures in omega arith)
    (ap (λ v. v.items) c.replace-keepers.ensures.after ∙ c.in_ok-others.ensures)) c.push.ensures.pushed
