-- A callout after an operation that may let it leave the desk: the books without what leaves, and what leaves.
use Rattle.std.proofs.Common.{◌≡◌, ℕ, ◌<◌, Bool, true, false, cond, List, [], ◌∷◌, ◌++◌, length, set, refl, sym, ap, ◌∙◌, subst}
use Rattle.std.specs.Prelude.{is_some, slice_set}
use Rattle.std.specs.declared.option.Option.{Option}
use Rattle.std.specs.declared.option.Option.TheVariants.{Some, None}
use Rattle.co_life.specs.Rule.{capped}
use Rattle.co_object.specs.declared.alone.Alone.{Alone}
use Rattle.co_object.specs.declared.note.Entry.{Entry}
use Rattle.co_object.specs.declared.state.Arming.{Arming}
use Rattle.co_object.specs.declared.state.State.{State}
use Rattle.co_object.specs.Stand.{is_idle}
use Rattle.co_wheel.specs.Cpu.{Cpu}
use Rattle.co_wheel.specs.Parcel.{Parcel, parcel, parcel_to}
use Rattle.co_wheel.specs.Turns.{Turn, Turns}
use Rattle.co_desk.specs.declared.params.Params.{Params}
use Rattle.co_desk.specs.Books.{BooksView, history_at, entries_in, entries_at, is_kept, with_history}
use Rattle.co_desk.specs.Call.{target_in}
use Rattle.co_desk.specs.Desk.{IsAtCpu, IsHere, IsDesk, Owes, StandsAs, alone_after, scans_in}
use Rattle.co_desk.specs.Moving.{MayDepart, departed, moving_from, target_of, IsOfService}
use Rattle.co_desk.proofs.CalledDesk.{of_changed, stand_after, within_history}
use Rattle.co_desk.proofs.Items.{index_set, set_set}

-- what leaves, by its numbers
pub target_same : (b : BooksView) (n due : ℕ) (leaves : Option Parcel) → MayDepart b n due leaves → target_of (moving_from b n due leaves) ≡ target_in leaves
target_same b n due None m = refl
target_same b n due (Some q) m = λ d. Some (record { cpu = q.arming.cpu; n = m.number d; due = m.due_is d })

owes_departed : (b : BooksView) (w : Cpu) (leaves : Option Parcel) → Owes [] w b → Owes [] w (departed b leaves)
owes_departed b w None o = o
owes_departed b w (Some q) o = record { takes = o.takes }

scans_departed : (b : BooksView) (leaves : Option Parcel) (n : ℕ) → n ≡ capped (scans_in b.journal) → n ≡ capped (scans_in (departed b leaves).journal)
scans_departed b None n is = is
scans_departed b (Some q) n is = is

of_service : (b : BooksView) (n due i : ℕ) (p : Params) (leaves : Option Parcel) → b.params ≡ p → ((q : Parcel) → leaves ≡ Some q → q.i ≡ i) → IsOfService p i (moving_from b n due leaves)
of_service b n due i p None params here = tt
of_service b n due i p (Some q) params here = (params, here q refl)

-- an arming that leaves, with its number and its due time: no service has it
pub record IsLeaving (t : State) (n due : ℕ) : Type 0 where
  pub arming : Arming
  pub armed : t.armed ≡ Some arming
  pub idle : is_idle t.run ≡ true
  pub number : n ≡ arming.n
  pub due_is : due ≡ arming.due

-- callout i was here, and is now so after entry e; where it goes, it is armed and in no service, and where it stays, it is at this CPU
pub record Goes (w w' : Cpu) (b : BooksView) (i : ℕ) (H : List Entry) (e : Entry) (now : Alone) (go : Bool) (leaves : Option Parcel) (n due : ℕ) (turns : List Turn) : Type 0 where
  pub kept : history_at b i ≡ Some H
  pub here : w'.callouts.here ≡ set w.callouts.here i (cond go None (Some now))
  pub cpu : w'.callouts.cpu ≡ w.callouts.cpu
  pub turns_are : Turns w turns w'
  pub now_is : now ≡ alone_after b.params i (H ++ e ∷ [])
  pub leaves_is : leaves ≡ cond go (parcel i now) None
  pub goes_so : go ≡ true → IsLeaving now.state n due
  pub stays_so : go ≡ false → IsAtCpu b.cpu now

module _ (w w' : Cpu) (b : BooksView) (scans i : ℕ) (H : List Entry) (e : Entry) (now : Alone) (go : Bool) (leaves : Option Parcel) (n due : ℕ) (turns : List Turn) (desk : IsDesk w b scans) (is : Goes w w' b i H e now go leaves n due turns)
    (b' : BooksView) (wrote : b' ≡ record (with_history b i (Some (entries_at b i ++ e ∷ []))) { journal = b'.journal }) where
  same_entries : H ≡ entries_at b i
  same_entries = ap entries_in (sym is.kept)

  within : i < length b.timers
  within = within_history b.timers i H is.kept

  params_now : b'.params ≡ b.params
  params_now = ap (λ (v : BooksView). v.params) wrote

  entries_now : entries_at b' i ≡ H ++ e ∷ []
  entries_now = ap (λ (v : BooksView). entries_at v i) wrote ∙ (ap entries_in (index_set b.timers i (Some (entries_at b i ++ e ∷ [])) None within) ∙ ap (λ (G : List Entry). G ++ e ∷ []) (sym same_entries))

  kept_now : is_kept b' i ≡ true
  kept_now = ap (λ (v : BooksView). is_kept v i) wrote ∙ ap is_some (index_set b.timers i (Some (entries_at b i ++ e ∷ [])) None within)

  departs_as : IsLeaving now.state n due → MayDepart b' n due (parcel i now)
  departs_as l = subst (λ (o : Option Arming). MayDepart b' n due (parcel_to i now o)) (sym l.armed) record {
    here = kept_now;
    callout = is.now_is ∙ (λ d. alone_after (sym params_now d) i (sym entries_now d));
    idle = l.idle;
    armed = l.armed;
    number = l.number;
    due_is = l.due_is;
  }

  may_if : (x : Bool) → go ≡ x → MayDepart b' n due (cond x (parcel i now) None)
  may_if true h = departs_as (is.goes_so h)
  may_if false h = tt

  pub may_depart : MayDepart b' n due leaves
  may_depart = subst (MayDepart b' n due) (sym is.leaves_is) (may_if go refl)

  parcel_here : (o : Option Arming) (q : Parcel) → parcel_to i now o ≡ Some q → q.i ≡ i
  parcel_here None q h = absurd (cc)
  parcel_here (Some m) q h = let e : record { i = i; callout = now; arming = m } ≡ q = cc in ap (λ (x : Parcel). x.i) (sym e)

  leaves_here : (x : Bool) (q : Parcel) → cond x (parcel i now) None ≡ Some q → q.i ≡ i
  leaves_here true q h = parcel_here now.state.armed q h
  leaves_here false q h = absurd (cc)

  pub goes_of_service : (p : Params) → b.params ≡ p → IsOfService p i (moving_from b' n due leaves)
  goes_of_service p same = of_service b' n due i p leaves (params_now ∙ same) (λ q h. leaves_here go q (sym is.leaves_is ∙ h))

  abbrev history_now : Option (List Entry)
  history_now = cond go None (Some (H ++ e ∷ []))

  abbrev books_now : BooksView
  books_now = record b { timers = slice_set b.timers i history_now; journal = b'.journal }

  stays_wrote : b' ≡ record b { timers = slice_set b.timers i (Some (H ++ e ∷ [])); journal = b'.journal }
  stays_wrote = wrote ∙ (λ d. record b { timers = slice_set b.timers i (Some (sym same_entries d ++ e ∷ [])); journal = b'.journal })

  gone_wrote : with_history b' i None ≡ record b { timers = slice_set b.timers i None; journal = b'.journal }
  gone_wrote = ap (λ (v : BooksView). with_history v i None) stays_wrote ∙ (λ d. record b { timers = set_set b.timers i (Some (H ++ e ∷ [])) None d; journal = b'.journal })

  departed_if : (x : Bool) (o : Option Arming) → (x ≡ true → is_some o ≡ true) → departed b' (cond x (parcel_to i now o) None) ≡ record b { timers = slice_set b.timers i (cond x None (Some (H ++ e ∷ []))); journal = b'.journal }
  departed_if true None some = let h = some refl in absurd (cc)
  departed_if true (Some m) some = gone_wrote
  departed_if false o some = stays_wrote

  departed_now : departed b' leaves ≡ books_now
  departed_now = ap (departed b') is.leaves_is ∙ departed_if go now.state.armed (λ h. ap is_some (is.goes_so h).armed)

  stands_if : (x : Bool) → StandsAs b.params i (cond x None (Some now)) (cond x None (Some (H ++ e ∷ [])))
  stands_if true = tt
  stands_if false = is.now_is

  here_if : (x : Bool) → go ≡ x → IsHere b.cpu (cond x None (Some now))
  here_if true h = tt
  here_if false h = is.stays_so h

  pub goes_desk : Owes [] w' b' → scans ≡ capped (scans_in b'.journal) → IsDesk w' (departed b' leaves) scans
  goes_desk owes counted = subst (λ (v : BooksView). IsDesk w' v scans) (sym departed_now) record {
    of = of_changed w w' b i desk.of desk.stand within (cond go None (Some now)) history_now b'.journal is.here turns is.turns_are is.cpu;
    stand = stand_after w w' b i desk.of desk.stand within (cond go None (Some now)) history_now b'.journal is.here (stands_if go) (here_if go refl);
    shown = subst (Owes [] w') departed_now (owes_departed b' w' leaves owes);
    counted = subst (λ (v : BooksView). scans ≡ capped (scans_in v.journal)) departed_now (scans_departed b' leaves scans counted);
  }
