-- What a take leaves: fewer windows, and all of them end later.
use Rattle.std.proofs.Common.{◌≡◌, ℕ, ◌<◌, ◌≤◌, Bool, true, false, length, refl, sym, arith, nat_lt, nat_le, IfSome}
use Rattle.std.specs.List.{filter, list_any}
use Rattle.std.specs.declared.option.Option.{Option}
use Rattle.std.specs.declared.option.Option.TheVariants.{Some, None}
use Rattle.std.proofs.lemmas.Bool.Decides.{nat_tests}
use Rattle.std.proofs.lemmas.List.Sums.{length-filter}
use Rattle.std.proofs.lemmas.List.Filters.{length-filter_both}
use Rattle.co_object.proofs.Each.{Each, each-all, each-filter}
use Rattle.co_object.proofs.Passing.{count-passing, passing-some}
use Rattle.co_queue.proofs.Lists.{each-false}
use Rattle.co_event.specs.Events.{Events, deadline, next_moment}
use Rattle.co_event.specs.Calls.{take_at}
use Rattle.co_event.proofs.Lists.{each-both}
use Rattle.co_event.proofs.Moment.{moment-one}
use Rattle.co_event.proofs.Standing.{Sound, later-not_due}

lower : (a b c : ℕ) → nat_lt a b ≡ true → b ≤ c → a < c
lower a b c h g = grind (arith, nat_tests)

over : (a b c : ℕ) → nat_le b a ≡ false → b ≤ c → a < c
over a b c h g = grind (arith, nat_tests)

pub later-of : (e : Events) (moment : ℕ) (next : Option ℕ) → next ≡ next_moment (take_at e (Some moment)).0 → Sound e → IfSome next (λ n. moment < n)
later-of e moment next is h = at_next next is where
  at_next : (x : Option ℕ) → x ≡ next_moment (take_at e (Some moment)).0 → IfSome x (λ n. moment < n)
  at_next None is = tt
  at_next (Some n) is =
      moment-one (λ n. moment < n) (filter (λ w. nat_lt moment w.due) e.pending) n (sym is)
      (each-filter (λ w. w.due ≤ deadline w) (λ w. moment < deadline w) (λ w. nat_lt moment w.due) (λ w kept ends. lower moment w.due (deadline w) kept ends) e.pending h.windows)

-- the window that ends first has begun by then
pub fewer : (e : Events) (moment : ℕ) → next_moment e ≡ Some moment → Sound e → length (take_at e (Some moment)).0.pending < length e.pending
fewer e moment is h = at_test (list_any (λ w. nat_le w.due moment) e.pending) refl where
  at_test : (b : Bool) → list_any (λ w. nat_le w.due moment) e.pending ≡ b → length (filter (λ w. nat_lt moment w.due) e.pending) < length e.pending
  at_test true some = omega (
    arith,
    length-filter_both (λ w. nat_le w.due moment) (λ w. nat_lt moment w.due) (λ w. later-not_due moment w.due) e.pending,
    length-filter (λ w. nat_le w.due moment) e.pending,
    count-passing (λ w. nat_le w.due moment) e.pending,
    passing-some (λ w. nat_le w.due moment) e.pending some,
  )
  at_test false none =
      let ends : Each (λ w. moment < deadline w) e.pending =
      each-all (λ w. (nat_le w.due moment ≡ false) × (w.due ≤ deadline w)) (λ w. moment < deadline w) (λ w both. over moment w.due (deadline w) both.0 both.1) e.pending
      (each-both (λ w. nat_le w.due moment ≡ false) (λ w. w.due ≤ deadline w) e.pending (each-false (λ w. nat_le w.due moment) e.pending none) h.windows) in
      let self : moment < moment = moment-one (λ n. moment < n) e.pending moment is ends in
      absurd (omega (arith, self))
