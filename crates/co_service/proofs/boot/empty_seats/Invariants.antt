use Rattle.std.proofs.Common.{◌≡◌, ℕ, ◌<◌, [], vec_len}
use Rattle.co_desk.specs.Seats.{fresh_seats}
use Rattle.co_service.specs.Booted.{seats_at}
use Rattle.co_service.proofs.boot.empty_seats.Given as goal

abbrev pub invariant-loop-actor : goal.invariant-loop-actor
invariant-loop-actor g l = record { count : vec_len l.all ≡ l.actor; each : (k : ℕ) → k < l.actor → seats_at l.all.items k ≡ fresh_seats [] k }
