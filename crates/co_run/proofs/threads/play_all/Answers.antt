-- The seats stand one kind behind the other while they are played.
use Rattle.std.proofs.Common.{◌≡◌, ◌++◌, ◌∙◌, ap, drop, length, take, arith}
use Rattle.co_run.proofs.groups.Seats.{crew_played, crew_seats, written}
use Rattle.co_run.proofs.threads.play_all.Goals as goal

pub play_seats-requires-after_bounds : goal.play_seats-requires-after_bounds
play_seats-requires-after_bounds g c κs within =
    crew_seats c.args.shared.now.script.now g.N.Name.name g.B.Book.notes g.B.Book.spare c.args.crew c.append.new.self.items c.append-2.new.self.items c.as_mut_slice.result.now
    c.requires c.in_ok-append.ensures.items c.in_ok-append-2.ensures.items c.as_mut_slice.ensures.value

pub returns : goal.returns
returns g c =
    let cpus : c.len-cpus.result ≡ length c.args.crew.cpus.items = omega (arith, c.len-cpus.ensures, c.args.crew.cpus.ok.0) in
    let others : c.len-others.result ≡ length c.args.crew.interrupts.items = omega (arith, c.len-others.ensures, c.args.crew.interrupts.ok.0) in
    let played = c.play_seats.new.seats in
    let back : take c.append-2.new.self.len (played ++ drop (length played) c.append-2.new.self.items) ≡ played = written played _ _ (omega (arith, c.as_mut_slice.ensures.len, c.play_seats.auto.seats)) in
    let behind = c.in_ok-interrupts.ensures.tail ∙ ap (λ xs. drop c.len-cpus.result xs) back in
    crew_played c.args.shared.now.script.now g.N.Name.name g.B.Book.notes g.B.Book.spare c.args.crew _ c.append.new.self.items c.append-2.new.self.items c.as_mut_slice.result.now played c.len-cpus.result c.len-others.result
    c.requires c.in_ok-append.ensures.items c.in_ok-append-2.ensures.items c.as_mut_slice.ensures.value
    (c.play_seats.auto.seats, c.play_seats.ensures) cpus others
    (c.in_ok-interrupts.ensures.items ∙ ap (λ xs. take c.len-cpus.result xs) back)
    (c.in_ok-clients.ensures.items ∙ ap (λ xs. take c.len-others.result xs) behind)
    (c.in_ok-clients.ensures.tail ∙ ap (λ xs. drop c.len-others.result xs) behind)
