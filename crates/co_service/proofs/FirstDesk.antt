-- A desk before the first call.
use Rattle.std.proofs.Common.{◌≡◌, ℕ, ◌<◌, ◌≤◌, ◌⊎◌, inl, inr, true, false, List, length, refl, sym, ap, ◌∙◌, subst}
use Rattle.std.specs.Prelude.{nat_le, slice_index_or}
use Rattle.std.specs.declared.option.Option.{Option}
use Rattle.std.specs.declared.option.Option.TheVariants.{None}
use Rattle.std.proofs.lemmas.Bool.Decides.{leb_tells}
use Rattle.std.proofs.lemmas.List.{length-map}
use Rattle.co_life.specs.Rule.{capped}
use Rattle.co_life.specs.Views.{KeeperView}
use Rattle.co_object.specs.declared.alone.Alone.{Alone}
use Rattle.co_object.specs.declared.note.Entry.{Entry}
use Rattle.co_object.specs.declared.note.QEntry.{QEntry}
use Rattle.co_object.specs.Journal as journal
use Rattle.co_object.specs.Queue.{empty_queue}
use Rattle.co_queue.specs.Timers.{Timers, empty_timers}
use Rattle.co_queue.specs.StandsFor.{StandsFor}
use Rattle.co_queue.proofs.Standing.{stands_for-empty}
use Rattle.co_wheel.specs.Callouts.{callout}
use Rattle.co_wheel.specs.Cpu.{Cpu}
use Rattle.co_wheel.specs.Turns.{Shows}
use Rattle.co_desk.specs.declared.params.Params.{Params}
use Rattle.co_desk.specs.declared.line.Line.{Line}
use Rattle.co_desk.specs.Books.{BooksView, books_of, history_at, kept_of}
use Rattle.co_service.specs.Booted.{IsDeskParts, come_to}
use Rattle.co_desk.specs.Desk.{IsHere, IsDesk, StandsAs, scans_in}
use Rattle.co_desk.specs.Name.{ServiceName}
use Rattle.co_desk.specs.Params.{directs}
use Rattle.co_service.proofs.Coming.{AreCome, first_come}
use Rattle.co_desk.proofs.Writing.{index-map}

module _ (name : ServiceName) (p : Params) (cpu : ℕ) (w : Cpu) (ks : List (Option (KeeperView (Line Entry)))) (j : KeeperView (Line QEntry)) (is : IsDeskParts name p cpu w ks j) where
  abbrev b : BooksView
  b = books_of p cpu ks j

  history_is : (i : ℕ) → history_at b i ≡ kept_of (slice_index_or ks i None)
  history_is i = index-map kept_of ks i None

  come : AreCome p.specs (come_to cpu p.specs) w.callouts.here
  come = subst (λ (v : Cpu). AreCome p.specs (come_to cpu p.specs) v.callouts.here) (sym is.wheel) (first_come cpu p.specs)

  timers_are : w.timers ≡ empty_timers (length p.specs) p.buckets (directs p)
  timers_are = ap (λ (v : Cpu). v.timers) is.wheel

  stands : (i : ℕ) → StandsAs p i (callout w.callouts i) (history_at b i)
  stands i = go (leb_tells (come_to cpu p.specs) i) where
    go : ((nat_le (come_to cpu p.specs) i ≡ true) × (come_to cpu p.specs ≤ i)) ⊎ ((nat_le (come_to cpu p.specs) i ≡ false) × (i < come_to cpu p.specs)) → StandsAs p i (callout w.callouts i) (history_at b i)
    go (inl from) = subst (λ (t : Option Alone × Option (List Entry)). StandsAs p i t.0 t.1) (λ d. (sym (come.missing i from.1) d, sym (history_is i ∙ is.first.missing i from.1) d)) tt
    go (inr less) = subst (λ (t : Option Alone × Option (List Entry)). StandsAs p i t.0 t.1) (λ d. (sym (come.come i less.1) d, sym (history_is i ∙ is.first.come i less.1) d)) refl

  here : (i : ℕ) → IsHere cpu (callout w.callouts i)
  here i = go (leb_tells (come_to cpu p.specs) i) where
    go : ((nat_le (come_to cpu p.specs) i ≡ true) × (come_to cpu p.specs ≤ i)) ⊎ ((nat_le (come_to cpu p.specs) i ≡ false) × (i < come_to cpu p.specs)) → IsHere cpu (callout w.callouts i)
    go (inl from) = subst (IsHere cpu) (sym (come.missing i from.1)) tt
    go (inr less) = subst (IsHere cpu) (sym (come.come i less.1)) record { runs = refl; listed = λ at h. absurd (cc) }

  pub first_desk : IsDesk w b 0
  first_desk = record {
    of = record {
      cpu = ap (λ (v : Cpu). v.callouts.cpu) is.wheel;
      size = come.count ∙ (sym is.first.size ∙ sym (length-map ks kept_of));
      buckets = ap (λ (t : Timers). t.buckets) timers_are;
      direct = ap (λ (t : Timers). t.direct) timers_are;
    };
    stand = record { each = stands; here = here };
    shown = record {
      takes = subst (λ (J : List QEntry). Shows w (journal.queue p.buckets (directs p) J)) (sym is.nothing) record {
        timers = subst (λ (t : Timers). StandsFor t empty_queue) (sym timers_are) (stands_for-empty (length p.specs) p.buckets (directs p));
        serving = ap (λ (v : Cpu). v.callouts.serving) (sym is.wheel);
        directing = ap (λ (v : Cpu). v.callouts.directing) (sym is.wheel);
      };
    };
    counted = ap (λ (J : List QEntry). capped (scans_in J)) (sym is.nothing);
  }
