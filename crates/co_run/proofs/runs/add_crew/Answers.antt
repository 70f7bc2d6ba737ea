-- Each group is of the actors that come next.
use Rattle.std.proofs.Common.{◌≡◌, ap, length, map, subst, sym, ◌+◌, ◌∙◌, IfOk, List, [], ℕ}
use Rattle.co_program.specs.Actors.{actor_count, client_count}
use Rattle.co_desk.specs.Views.{PassesView}
use Rattle.co_run.specs.Jobs.{HavePlayed}
use Rattle.co_run.specs.Over.{AreOver}
use Rattle.co_run.proofs.groups.Seats.{group_at}
use Rattle.co_run.proofs.runs.add_crew.Goals as goal

pub add_group-requires : goal.add_group-requires
add_group-requires g c =
    let s = c.args.script.now in
    let name = g.N.Name.name in
    record {
      over = subst (λ (qs : List PassesView). AreOver s name 0 qs (map g.B.Book.notes c.new-2.result)) (sym c.new.ensures)
          (subst (λ (books : List _). AreOver s name 0 [] (map g.B.Book.notes books)) (sym c.new-2.ensures) tt);
      group = group_at (HavePlayed g.B.Book.notes s name) 0 _ (client_count s) _ c.args.crew.clients.items (sym (ap length c.new-2.ensures)) (sym (ap length c.as_slice.ensures)) c.requires.crew.of_clients;
    }

pub add_group-requires-2 : goal.add_group-requires-2
add_group-requires-2 g c =
    let s = c.args.script.now in
    let clients = ap length c.as_slice.ensures in
    record {
      over = c.in_ok-of_clients.ensures.over;
      group = group_at (HavePlayed g.B.Book.notes s g.N.Name.name) (client_count s) _ (client_count s + s.cpus) _ c.args.crew.cpus.items
          (sym (c.in_ok-of_clients.ensures.count ∙ clients)) (sym (ap (λ (n : ℕ). n + s.cpus) clients)) c.requires.crew.of_cpus;
    }

pub add_group-requires-3 : goal.add_group-requires-3
add_group-requires-3 g c =
    let s = c.args.script.now in
    let clients = ap length c.as_slice.ensures in
    record {
      over = c.in_ok-with_cpus.ensures.over;
      group = group_at (HavePlayed g.B.Book.notes s g.N.Name.name) (client_count s + s.cpus) _ (actor_count s) _ c.args.crew.interrupts.items
          (sym (c.in_ok-with_cpus.ensures.count ∙ ap (λ (n : ℕ). n + s.cpus) clients)) (sym c.actor_count.ensures) c.requires.crew.of_interrupts;
    }

pub returns-clause-over : goal.returns-clause-over
returns-clause-over g c = c.add_group-3.ensures.over

pub returns-clause-count : goal.returns-clause-count
returns-clause-count g c = subst (λ (n : ℕ). IfOk c.add_group-3.result (λ all. length all.books ≡ n)) c.actor_count.ensures c.add_group-3.ensures.count
