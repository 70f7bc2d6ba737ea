-- The two stories: of a callout, and of a CPU.
use Rattle.std.specs.Prelude.{ℕ, List, [], ◌∷◌, ◌++◌}
use Rattle.co_object.specs.declared.note.Entry.{Entry}
use Rattle.co_object.specs.declared.note.QEntry.{QEntry}
use Rattle.co_object.specs.Callout.{opening}
use Rattle.co_object.specs.History.{IsLegal, next, May}
use Rattle.co_object.specs.Queue.{empty_queue}
use Rattle.co_object.specs.Journal as journal
use Rattle.co_object.specs.Journal.{IsLegalQueue}
use Rattle.co_object.proofs.Histories.{legal-front}
use Rattle.co_desk.specs.declared.params.Params.{Params}
use Rattle.co_desk.specs.declared.line.Line.{Line}
use Rattle.co_desk.specs.declared.line.Line.TheVariants.{Opening, Made}
use Rattle.co_desk.specs.Params.{actors_of, spec_at, directs, no_params}
use Rattle.co_desk.specs.Lines.{made, AllCarry, IsStory, actor_in}

abbrev pub by : Entry → ℕ
by e = e.actor

abbrev pub queue_by : QEntry → ℕ
queue_by e = e.actor

abbrev pub timer_actor : Line Entry → ℕ
timer_actor l = actor_in by l

abbrev pub cpu_actor : Line QEntry → ℕ
cpu_actor l = actor_in queue_by l

-- a legal history of callout i
pub record IsHistory (p : Params) (i : ℕ) (H : List Entry) : Type 0 where
  pub legal : IsLegal (actors_of p) (spec_at p i) H

-- a legal journal of a CPU
pub record IsJournal (p : Params) (cpu : ℕ) (J : List QEntry) : Type 0 where
  pub legal : IsLegalQueue (actors_of p) cpu p.buckets (directs p) J

abbrev pub IsTimerStory : List (Line Entry) → Type 0
IsTimerStory h = IsStory IsHistory h

abbrev pub IsCpuStory : List (Line QEntry) → Type 0
IsCpuStory h = IsStory IsJournal h

pub IsTimerStory-empty : IsTimerStory []
IsTimerStory-empty = record { params = no_params; place = 0; carry = tt; legal = record { legal = tt } }

pub IsCpuStory-empty : IsCpuStory []
IsCpuStory-empty = record { params = no_params; place = 0; carry = tt; legal = record { legal = tt } }

module _ {E : Type 0} (p : Params) (i : ℕ) where
  AllCarry-front : (xs ys : List (Line E)) → AllCarry p i (xs ++ ys) → AllCarry p i xs
  AllCarry-front [] ys c = tt
  AllCarry-front (Opening a place q ∷ xs) ys c = (c.0, c.1, AllCarry-front xs ys c.2)
  AllCarry-front (Made e ∷ xs) ys c = AllCarry-front xs ys c

  -- what holds of the front of a history holds of the front's entries
  made-front : (P : List E → Type 0) → ((H G : List E) → P (H ++ G) → P H) → (xs ys : List (Line E)) → P (made (xs ++ ys)) → P (made xs)
  made-front P front [] ys h = front [] (made ys) h
  made-front P front (Opening a place q ∷ xs) ys h = made-front P front xs ys h
  made-front P front (Made e ∷ xs) ys h = made-front (λ H. P (e ∷ H)) (λ H G. front (e ∷ H) G) xs ys h

  pub IsStory-front : (Legal : Params → ℕ → List E → Type 0) → ((H G : List E) → Legal p i (H ++ G) → Legal p i H) → (xs ys : List (Line E)) → AllCarry p i (xs ++ ys) → Legal p i (made (xs ++ ys)) → IsStory Legal xs
  IsStory-front Legal front xs ys carry legal = record {
    params = p;
    place = i;
    carry = AllCarry-front xs ys carry;
    legal = made-front (Legal p i) front xs ys legal;
  }

pub IsHistory-front : (p : Params) (i : ℕ) (H G : List Entry) → IsHistory p i (H ++ G) → IsHistory p i H
IsHistory-front p i H G h = record { legal = legal-front (next (spec_at p i)) (May (actors_of p) (spec_at p i)) (opening 0) H G h.legal }

pub IsJournal-front : (p : Params) (cpu : ℕ) (H G : List QEntry) → IsJournal p cpu (H ++ G) → IsJournal p cpu H
IsJournal-front p cpu H G h = record { legal = legal-front (journal.next p.buckets (directs p)) (journal.May (actors_of p) cpu p.buckets (directs p)) empty_queue H G h.legal }

pub IsTimerStory-prefix : (xs ys : List (Line Entry)) → IsTimerStory (xs ++ ys) → IsTimerStory xs
IsTimerStory-prefix xs ys s = IsStory-front s.params s.place IsHistory (IsHistory-front s.params s.place) xs ys s.carry s.legal

pub IsCpuStory-prefix : (xs ys : List (Line QEntry)) → IsCpuStory (xs ++ ys) → IsCpuStory xs
IsCpuStory-prefix xs ys s = IsStory-front s.params s.place IsJournal (IsJournal-front s.params s.place) xs ys s.carry s.legal
