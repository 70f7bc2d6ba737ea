-- The section of a call on a desk: what its wheel, its books and its caller have after it.
use Rattle.std.proofs.Common.{◌≡◌, ℕ, ◌==◌, Bool, true, false, cond, not, ◌&&◌, List, [], ◌∷◌, ◌++◌, map, refl, sym, ap, ◌∙◌, subst, append_assoc}
use Rattle.std.specs.Prelude.{is_some}
use Rattle.std.specs.declared.option.Option.{Option}
use Rattle.std.specs.declared.option.Option.TheVariants.{Some, None}
use Rattle.std.proofs.lemmas.List.{get_or-set_same}
use Rattle.co_life.specs.Rule.{capped}
use Rattle.co_object.specs.declared.alone.Alone.{Alone}
use Rattle.co_object.specs.declared.note.Entry.{Entry}
use Rattle.co_object.specs.declared.note.Note.{Note}
use Rattle.co_object.specs.declared.note.Place.TheVariants as at
use Rattle.co_object.specs.declared.note.AnyEntry.TheVariants as of
use Rattle.co_object.specs.declared.op.CallOp.{CallOp}
use Rattle.co_object.specs.declared.reply.Reply.{Reply}
use Rattle.co_object.specs.declared.state.State.{State}
use Rattle.co_object.specs.Callout.{call}
use Rattle.co_object.specs.Entries.{is_armed}
use Rattle.co_object.specs.Group.{Placed, placed, off_of, group, removal_notes}
use Rattle.co_object.specs.History.{state}
use Rattle.co_object.specs.Stand.{is_idle}
use Rattle.co_wheel.specs.declared.outs.CallOut.{CallOut}
use Rattle.co_wheel.specs.Call.{is_away, called, reply}
use Rattle.co_wheel.specs.Callouts.{Callouts, callout, is_listed_of}
use Rattle.co_wheel.specs.Cpu.{Cpu}
use Rattle.co_wheel.specs.Parcel.{Parcel, parcel}
use Rattle.co_wheel.specs.Sections.{IsCall}
use Rattle.co_wheel.specs.Turns.{Turn, Turns, removal, insertion}
use Rattle.co_wheel.proofs.Calls.{Shift, stays, goes, comes, shift}
use Rattle.co_desk.specs.declared.params.Params.{Params}
use Rattle.co_desk.specs.Params.{spec_at}
use Rattle.co_desk.specs.Books.{BooksView, history_at, entries_in, entries_at, with_history}
use Rattle.co_desk.specs.Call.{IsAnswer, Target, call_entry, call_turns, due_named, insertion_notes, landing, number_accepted, section_notes, target_in, time_of}
use Rattle.co_desk.specs.Desk.{IsAtCpu, IsDesk, Owes, alone_after, scans_in}
use Rattle.co_desk.specs.May.{state_at}
use Rattle.co_desk.specs.Moving.{MayDepart, departed, moving_from, target_of, IsOfService}
use Rattle.co_desk.specs.Views.{PassesView, seen_of}
use Rattle.co_desk.specs.Writes.{Writes}
use Rattle.co_desk.proofs.CallArming.{IsDue, is_due}
use Rattle.co_desk.proofs.CallJoined.{Joins, and_false, joins, both_first, none_in, same_due, unarmed_stays}
use Rattle.co_desk.proofs.CallKept.{at_after, removed_here}
use Rattle.co_desk.proofs.CalledDesk.{IsAnsweredBy, answered_by, alone_next, at_now, there_now, within_callout}
use Rattle.co_desk.proofs.DeskKept.{owes_turns}
use Rattle.co_desk.proofs.Departing.{Goes, IsLeaving, goes_desk, goes_of_service, may_depart, target_same}

leaving : (cpu due : ℕ) (s t : State) (r : Reply) → Shift s t r → IsDue due r t.armed → is_away cpu r t ≡ true → IsLeaving t (number_accepted r) due
leaving cpu due s t r (stays _ _ un _ _ _) at is = let never = unarmed_stays cpu r t un in absurd (cc)
leaving cpu due s t r (goes _ _ un _ _) at is = let never = unarmed_stays cpu r t un in absurd (cc)
leaving cpu due s t r (comes _ b code some _) at is = record {
  arming = b;
  armed = some;
  idle = both_first (is_idle t.run) (not (b.cpu == cpu)) is;
  number = refl;
  due_is = sym at.2 ∙ same_due t at.0 b at.1 some;
}

module _ (w w' : Cpu) (b : BooksView) (scans i : ℕ) (op : CallOp) (out : CallOut) (H : List Entry) (desk : IsDesk w b scans) (kept : history_at b i ≡ Some H) (is : IsCall w w' i op out) where
  abbrev before : Alone
  before = alone_after b.params i H

  abbrev now : Alone
  now = called before op

  there : callout w.callouts i ≡ Some before
  there = there_now w b i H desk.stand kept

  here : IsAtCpu b.cpu before
  here = at_now w b i H desk.stand kept

  abbrev Answered : Bool → Type 0
  Answered away = IsAnsweredBy w.callouts w'.callouts i op before out.reply out.leaves away

  answered : (away : Bool) × Answered away
  answered = answered_by w.callouts w'.callouts i op before out.reply out.leaves there is.callouts

  abbrev away : Bool
  away = answered.0

  same_entries : H ≡ entries_at b i
  same_entries = ap entries_in (sym kept)

  reply_is : out.reply ≡ reply before op
  reply_is = answered.1.reply_is

  pub reply_here : out.reply ≡ (call (state_at b i) op).1
  reply_here = reply_is ∙ ap (λ (G : List Entry). (call (state (spec_at b.params i) G) op).1) same_entries

  pub off_here : (x : ℕ) → off_of out.reply ≡ Some x → x ≡ b.cpu
  off_here x off = removed_here b.cpu before op here x (ap off_of (sym reply_is) ∙ off)

  abbrev after : Option Alone
  after = cond away None (Some now)

  callout_now : callout w'.callouts i ≡ after
  callout_now = ap (λ (c : Callouts). callout c i) answered.1.callouts ∙ get_or-set_same w.callouts.here i after None (within_callout w.callouts.here i before there)

  cpu_now : w'.callouts.cpu ≡ b.cpu
  cpu_now = ap (λ (c : Callouts). c.cpu) answered.1.callouts ∙ desk.of.cpu

  away_here : is_away b.cpu (reply before op) now.state ≡ away
  away_here = ap (λ (c : ℕ). is_away c (reply before op) now.state) (sym desk.of.cpu) ∙ answered.1.away_is

  listed_now : is_some out.inserted ≡ (is_armed (reply before op) && is_listed_of b.cpu after)
  listed_now = is.inserted ∙ (λ d. is_armed (reply_is d) && is_listed_of (cpu_now d) (callout_now d))

  joined : (p : PassesView) (act : ℕ) → Joins p act b.cpu i (call_entry p act op out.reply) now.state (number_accepted out.reply) (due_named op) after out.inserted (target_in out.leaves)
  joined p act =
      subst (λ (t : Reply × Option Parcel). Joins p act b.cpu i (call_entry p act op t.0) now.state (number_accepted out.reply) (due_named op) after out.inserted (target_in t.1)) (λ d. (sym reply_is d, sym answered.1.leaves_is d))
      (joins p act b.cpu i op before (number_accepted out.reply) (due_named op) out.inserted away here (ap number_accepted reply_is) refl away_here listed_now)

  abbrev nobody : PassesView
  nobody = record { name = record { timers = []; cpus = [] }; params = b.params; actor = 0; timers = []; cpus = [] }

  turns_are : Turns w (call_turns i op out.reply out.inserted) w'
  turns_are =
      subst (λ (ts : List Turn). Turns w (removal i (off_of out.reply) ++ ts) w')
      (ap (λ (o : Option Alone). insertion i o out.inserted) callout_now ∙ (joined nobody 0).turns) is.queue

  pub owes_section : Owes (call_turns i op out.reply out.inserted) w' b
  owes_section = owes_turns w w' b (call_turns i op out.reply out.inserted) desk.of desk.shown turns_are

  leaves_so : away ≡ true → IsLeaving now.state (number_accepted out.reply) (due_named op)
  leaves_so go = subst (λ (r : Reply). IsLeaving now.state (number_accepted r) (due_named op)) (sym reply_is) (leaving b.cpu (due_named op) before.state now.state (reply before op) (shift before.state op) (is_due before.state op) (away_here ∙ go))

  none_if : (x : Bool) → is_some (cond x (parcel i now) None) ≡ true → is_some out.inserted ≡ (is_armed (reply before op) && is_listed_of b.cpu (cond x None (Some now))) → out.inserted ≡ None
  none_if true some listed = none_in out.inserted (is_armed (reply before op) && false) listed (and_false (is_armed (reply before op)))
  none_if false some listed = absurd (cc)

  some_moving : (v : BooksView) (n due : ℕ) (o : Option Parcel) → is_some (moving_from v n due o) ≡ true → is_some o ≡ true
  some_moving v n due None some = absurd (cc)
  some_moving v n due (Some q) some = refl

  -- where it leaves, nothing was put in here
  pub leaves_nothing : (v : BooksView) (n due : ℕ) → is_some (moving_from v n due out.leaves) ≡ true → out.inserted ≡ None
  leaves_nothing v n due some = none_if away (ap is_some (sym answered.1.leaves_is) ∙ some_moving v n due out.leaves some) listed_now

  module _ (p : PassesView) (act : ℕ) (b' : BooksView) (wrote : b' ≡ record (with_history b i (Some (entries_at b i ++ call_entry p act op out.reply ∷ []))) { journal = b'.journal }) where
    abbrev entry : Entry
    entry = call_entry p act op out.reply

    now_is : now ≡ alone_after b.params i (H ++ entry ∷ [])
    now_is = alone_next b.params i H op entry refl

    goes_now : Goes w w' b i H entry now away out.leaves (number_accepted out.reply) (due_named op) (call_turns i op out.reply out.inserted)
    goes_now = record {
      kept = kept;
      here = ap (λ (c : Callouts). c.here) answered.1.callouts;
      cpu = ap (λ (c : Callouts). c.cpu) answered.1.callouts;
      turns_are = turns_are;
      now_is = now_is;
      leaves_is = answered.1.leaves_is;
      goes_so = leaves_so;
      stays_so = λ never. at_after b.cpu before op here (away_here ∙ never);
    }

    pub may_section : MayDepart b' (number_accepted out.reply) (due_named op) out.leaves
    may_section = may_depart w w' b scans i H entry now away out.leaves (number_accepted out.reply) (due_named op) (call_turns i op out.reply out.inserted) desk goes_now b' wrote

    pub desk_section : Owes [] w' b' → scans ≡ capped (scans_in b'.journal) → IsDesk w' (departed b' out.leaves) scans
    desk_section = goes_desk w w' b scans i H entry now away out.leaves (number_accepted out.reply) (due_named op) (call_turns i op out.reply out.inserted) desk goes_now b' wrote

    pub service_section : (r : Params) → b.params ≡ r → IsOfService r i (moving_from b' (number_accepted out.reply) (due_named op) out.leaves)
    service_section = goes_of_service w w' b scans i H entry now away out.leaves (number_accepted out.reply) (due_named op) (call_turns i op out.reply out.inserted) desk goes_now b' wrote

    pub answer_section : (q : PassesView) (notes : List Note) → b.params ≡ p.params → map placed notes ≡ section_notes p act b.cpu i op out.reply out.inserted → seen_of q i ≡ entries_at b i ++ entry ∷ [] → Writes p notes q
        → IsAnswer p act i op out.reply (target_of (moving_from b' (number_accepted out.reply) (due_named op) out.leaves)) notes q
    answer_section q notes params placed_as seen wrote_as = subst (λ (t : Option Target). IsAnswer p act i op out.reply t notes q) (sym (target_same b' (number_accepted out.reply) (due_named op) out.leaves may_section)) record {
      group_but = record {
        time = (joined p act).time;
        group_is = λ later.
            ap (λ (ns : List Placed). ns ++ landing p act i (target_in out.leaves) later) placed_as
            ∙ (append_assoc (removal_notes i entry (off_of out.reply) ++ ((at.Timer i, of.Timer entry) ∷ [])) (insertion_notes p act b.cpu i (number_accepted out.reply) (due_named op) out.inserted) (landing p act i (target_in out.leaves) later)
            ∙ (append_assoc (removal_notes i entry (off_of out.reply)) ((at.Timer i, of.Timer entry) ∷ []) (insertion_notes p act b.cpu i (number_accepted out.reply) (due_named op) out.inserted ++ landing p act i (target_in out.leaves) later)
            ∙ ((joined p act).group_is later
            ∙ ap (λ (s : State). group i entry s (time_of (target_in out.leaves) (joined p act).time later)) state_is)));
      };
      written = wrote_as;
    } where
      state_is : now.state ≡ state (spec_at p.params i) (seen_of q i)
      state_is = ap (λ (x : Alone). x.state) now_is ∙ (λ d. state (spec_at (params d) i) ((ap (λ (G : List Entry). G ++ entry ∷ []) same_entries ∙ sym seen) d))
