-- The passes and the books are as many as the actors, and each kind of actor takes its own.
use Rattle.std.proofs.Common.{◌≡◌, ◌+◌, ◌≤◌, length, subst, sym, ap, ◌∙◌, arith}
use Rattle.co_program.specs.Actors.{actor_count, client_count}
use Rattle.co_run.specs.Acting.{params_of}
use Rattle.co_run.specs.Jobs.{AreEmptyBooks, AreJobs, AreUnseen}
use Rattle.co_run.proofs.groups.Deals.{booted_count, booted_first, most_named}
use Rattle.co_run.proofs.groups.Seats.{group_at}
use Rattle.co_run.proofs.jobs.deal_all.Goals as goal

pub deal-requires-clause-left : goal.deal-requires-clause-left
deal-requires-clause-left g c =
    let s = c.args.script.now in
    let count : length c.into_vec-passes.result.items ≡ actor_count s = ap length c.into_vec-passes.ensures ∙ booted_count s c.requires.script g.N.Name.name c.args.passes c.requires.passes in
    let books : length c.into_vec-books.result.items ≡ actor_count s = ap length c.into_vec-books.ensures ∙ c.requires.books.count in
    record {
      few = omega (arith, count);
      count = books ∙ sym count;
      first = subst (AreUnseen g.N.Name.name (params_of s)) (sym c.into_vec-passes.ensures) (booted_first s c.requires.script g.N.Name.name c.args.passes c.requires.passes);
      empty = subst (AreEmptyBooks g.B.Book.notes g.B.Book.spare) (sym c.into_vec-books.ensures) c.requires.books.empty;
    }

pub deal-requires-clause-enough : goal.deal-requires-clause-enough
deal-requires-clause-enough g c =
    let s = c.args.script.now in
    let all : length c.into_vec-passes.result.items ≡ actor_count s = ap length c.into_vec-passes.ensures ∙ booted_count s c.requires.script g.N.Name.name c.args.passes c.requires.passes in
    omega (arith, all, c.actor_count.ensures)

pub deal-requires-2 : goal.deal-requires-2
deal-requires-2 g c =
    let s = c.args.script.now in
    let all : length c.into_vec-passes.result.items ≡ actor_count s = ap length c.into_vec-passes.ensures ∙ booted_count s c.requires.script g.N.Name.name c.args.passes c.requires.passes in
    let most : client_count s + s.cpus ≤ actor_count s = most_named s in
    let clients : length c.as_slice.result.now ≡ client_count s = ap length c.as_slice.ensures in
    record {
      enough = omega (arith, all, most, c.actor_count.ensures, clients, c.in_ok-interrupts.ensures.less);
      left = c.in_ok-interrupts.ensures.left;
    }

pub deal-requires-3 : goal.deal-requires-3
deal-requires-3 g c =
    let s = c.args.script.now in
    let all : length c.into_vec-passes.result.items ≡ actor_count s = ap length c.into_vec-passes.ensures ∙ booted_count s c.requires.script g.N.Name.name c.args.passes c.requires.passes in
    let most : client_count s + s.cpus ≤ actor_count s = most_named s in
    let clients : length c.as_slice.result.now ≡ client_count s = ap length c.as_slice.ensures in
    record {
      enough = omega (arith, all, most, c.actor_count.ensures, clients, c.in_ok-interrupts.ensures.less, c.in_ok-cpus.ensures.less);
      left = c.in_ok-cpus.ensures.left;
    }

pub overflow_sub-others : goal.overflow_sub-others
overflow_sub-others g c =
    let s = c.args.script.now in
    let most : client_count s + s.cpus ≤ actor_count s = most_named s in
    let clients : length c.as_slice.result.now ≡ client_count s = ap length c.as_slice.ensures in
    omega (arith, most, c.actor_count.ensures, clients)

pub returns : goal.returns
returns g c =
    let s = c.args.script.now in
    let Are = AreJobs s g.N.Name.name g.B.Book.notes g.B.Book.spare in
    let all : length c.into_vec-passes.result.items ≡ actor_count s = ap length c.into_vec-passes.ensures ∙ booted_count s c.requires.script g.N.Name.name c.args.passes c.requires.passes in
    let most : client_count s + s.cpus ≤ actor_count s = most_named s in
    let count : c.actor_count.result ≡ actor_count s = c.actor_count.ensures in
    let clients : length c.as_slice.result.now ≡ client_count s = ap length c.as_slice.ensures in
    let first = c.in_ok-interrupts.ensures.less in
    let second = c.in_ok-cpus.ensures.less in
    let third = c.in_ok-clients.ensures.less in
    let named : length c.deal.new.passes.items ≡ client_count s + s.cpus = omega (arith, all, most, count, clients, first) in
    let left : length c.deal-2.new.passes.items ≡ client_count s = omega (arith, named, second) in
    let none : length c.deal-3.new.passes.items ≡ 0 = omega (arith, left, clients, third) in
    record {
      of_clients = group_at Are _ 0 _ (client_count s) c.in_ok-clients.clients.items none left c.in_ok-clients.ensures.dealt;
      of_cpus = group_at Are _ (client_count s) _ (client_count s + s.cpus) c.in_ok-cpus.cpus.items left named c.in_ok-cpus.ensures.dealt;
      of_interrupts = group_at Are _ (client_count s + s.cpus) _ (actor_count s) c.in_ok-interrupts.interrupts.items named all c.in_ok-interrupts.ensures.dealt;
    }
