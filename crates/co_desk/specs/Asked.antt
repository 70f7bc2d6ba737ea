-- What a desk answers that was asked for a section, and why where it doesn't answer.
use Rattle.std.specs.Prelude.{◌≡◌, ℕ, Bool, true, false, IfNone, IfSome}
use Rattle.std.specs.declared.option.Option.{Option}
use Rattle.std.specs.declared.option.Option.TheVariants.{None}
use Rattle.co_object.specs.Queue.{Due}
use Rattle.co_desk.specs.declared.finished.Finished.{Finished}
use Rattle.co_desk.specs.declared.popped.Popped.{Popped}
use Rattle.co_desk.specs.Ends.{IsFinished}
use Rattle.co_desk.specs.Moving.{MovingView}
use Rattle.co_desk.specs.Services.{FollowsScans, IsServing, IsTaken, taken_of}
use Rattle.co_desk.specs.Serving.{Runs}
use Rattle.co_desk.specs.Views.{PassesView, journal_seen}

-- a desk was asked: where it doesn't answer nothing has changed, and else this holds of the answer
pub record IsAsked {A : Type 0} (p : PassesView) (out : Option A) (told : A → Type 0) (q : PassesView) : Type 0 where
  pub none : IfNone out (q ≡ p)
  pub some : IfSome out told

-- what came due first was taken into service, after so many Scans
pub record IsStarted (direct : Bool) (p : PassesView) (cpu act scans : ℕ) (out : Popped) (q : PassesView) : Type 0 where
  pub taken : IsTaken direct p cpu act (taken_of direct p.actor act cpu out) q
  pub follows : FollowsScans scans (journal_seen q cpu)

-- a desk was asked for the end of a service: where it doesn't end it nothing has changed
pub record IsEndTried (direct : Bool) (p : PassesView) (cpu act : ℕ) (ended : Bool) (told : Finished) (gone : Option MovingView) (q : PassesView) : Type 0 where
  pub none : ended ≡ false → (q ≡ p) × (gone ≡ None)
  pub some : ended ≡ true → (d : Due) → IsServing direct p cpu d (Runs d.n) → IsFinished direct p cpu act d told gone q

-- a desk was asked, and this is why where it doesn't answer
pub record Answers {A : Type 0} (p : PassesView) (out : Option A) (Why : Type 0) (told : A → Type 0) (q : PassesView) : Type 0 where
  pub asked : IsAsked p out told q
  pub why : IfNone out Why

-- the same of the end of a service
pub record AnswersEnd (direct : Bool) (p : PassesView) (cpu act : ℕ) (ended : Bool) (Why : Type 0) (told : Finished) (gone : Option MovingView) (q : PassesView) : Type 0 where
  pub tried : IsEndTried direct p cpu act ended told gone q
  pub why : ended ≡ false → Why
