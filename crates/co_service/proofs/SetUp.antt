-- The places of a service that all actors have opened.
use Rattle.std.proofs.Common.{◌≡◌, ℕ, zero, suc, ◌+◌, ◌<◌, ◌≤◌, List, [], refl, sym, ◌∙◌, subst, arith}
use Rattle.std.specs.declared.option.Option.TheVariants.{Some}
use Rattle.co_life.specs.Identity.{LifeId}
use Rattle.co_life.specs.Views.{KeeperView}
use Rattle.co_object.specs.declared.note.Entry.{Entry}
use Rattle.co_object.specs.declared.note.QEntry.{QEntry}
use Rattle.co_desk.specs.declared.params.Params.{Params}
use Rattle.co_desk.specs.declared.line.Line.{Line}
use Rattle.co_desk.specs.declared.line.Line.TheVariants.{Opening, Made}
use Rattle.co_service.specs.Booted.{ArePlaces, AreSetUp, IsOpened, opener}
use Rattle.co_desk.specs.Lines.{opening_of, IsStory}
use Rattle.co_desk.specs.Params.{actor_count}
use Rattle.co_desk.specs.Seats.{SeatsView}
use Rattle.co_desk.specs.Stories.{IsHistory, IsJournal, timer_actor, cpu_actor}
use Rattle.co_service.proofs.Signing.{opened_seated}

-- a history of opening entries alone is of either story
pub story_opened : {E : Type 0} (Legal : Params → ℕ → List E → Type 0) (p : Params) (i n : ℕ) (h : List (Line E)) → Legal p i [] → IsOpened p i n h → IsStory Legal h
story_opened Legal p i n h none at = record { params = p; place = i; carry = at.carry; legal = subst (Legal p i) (sym at.nothing) none }

pub no_history : (p : Params) (i : ℕ) → IsHistory p i []
no_history p i = record { legal = tt }

pub no_journal : (p : Params) (cpu : ℕ) → IsJournal p cpu []
no_journal p cpu = record { legal = tt }

pub timer_opener : (l : Line Entry) → opener l (timer_actor l)
timer_opener (Opening a i q) = refl
timer_opener (Made e) = tt

pub cpu_opener : (l : Line QEntry) → opener l (cpu_actor l)
cpu_opener (Opening a i q) = refl
cpu_opener (Made e) = tt

module _ {E : Type 0} where
  first_opened : (p : Params) (i n : ℕ) (h : List (Line E)) → 1 ≤ n → IsOpened p i n h → opening_of h ≡ Some (p, i)
  first_opened p i zero h some at = absurd (omega arith)
  first_opened p i (suc n) h some at = (opened_seated p i n h (subst (λ (m : ℕ). IsOpened p i m h) (let e : suc n ≡ n + 1 = omega arith in e) at)).opened

  -- places that all actors have opened
  pub set_up : (Legal : Params → ℕ → List E → Type 0) (p : Params) (count actors : ℕ) (lives : List LifeId) (ks : List (KeeperView (Line E))) (all : List (SeatsView (Line E))) → ((i : ℕ) → Legal p i []) → actors ≡ actor_count p → 1 ≤ actors
      → ArePlaces p count actors lives ks all → AreSetUp Legal p count lives ks all
  set_up Legal p count actors lives ks all none n some at = record {
    lives_are = at.lives_are;
    keepers_are = at.keepers_are;
    begun = record {
      each = λ i k is. let r = at.ready i k is in record {
        life = r.life;
        actors = r.actors_are ∙ n;
        opened = first_opened p i actors k.history some r.opened;
        carry = r.opened.carry;
        count = r.opened.count ∙ n;
        legal = subst (Legal p i) (sym r.opened.nothing) (none i);
      };
      nothing = λ i k is. (at.ready i k is).opened.nothing;
    };
    left = record {
      count = at.seated.count ∙ n;
      left = λ k from below. at.seated.behind k from (subst (λ (m : ℕ). k < m) (sym n) below);
    };
  }
