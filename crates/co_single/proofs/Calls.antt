-- What a caller's operation on a calm callout does, and what the one actor's passes are after it.
use Rattle.std.proofs.Common.{◌≡◌, ◌≢◌, ℕ, ◌<◌, ◌^◌, ℤ, Bool, true, false, cond, not, ◌==◌, ◌||◌, ◌&&◌, List, [], ◌∷◌, ◌++◌, length, refl, ap, ◌∙◌, arith, set, get_or}
use Rattle.std.specs.Prelude.{is_some}
use Rattle.std.specs.declared.option.Option.{Option}
use Rattle.std.specs.declared.option.Option.TheVariants.{Some, None}
use Rattle.std.proofs.lemmas.List.{get_or-set_same, get_or-set_other, length-set}
use Rattle.co_object.specs.declared.op.CallOp.TheVariants.{Plain}
use Rattle.co_object.specs.declared.op.PlainOp.TheVariants.{Reset, Stop}
use Rattle.co_object.specs.declared.op.Op.{Op}
use Rattle.co_object.specs.declared.reply.Reply.{Reply}
use Rattle.co_object.specs.declared.reply.Reply.TheVariants.{Armed, Worn}
use Rattle.co_object.specs.declared.note.Entry.{Entry}
use Rattle.co_object.specs.declared.note.QEntry.{QEntry}
use Rattle.co_object.specs.declared.note.AnyEntry.{AnyEntry}
use Rattle.co_object.specs.declared.note.AnyEntry.TheVariants as of
use Rattle.co_object.specs.declared.note.Place.{Place}
use Rattle.co_object.specs.declared.note.Place.TheVariants as at
use Rattle.co_object.specs.declared.state.Arming.{Arming}
use Rattle.co_object.specs.declared.state.Run.{Run}
use Rattle.co_object.specs.declared.state.Run.TheVariants.{Idle}
use Rattle.co_object.specs.declared.state.State.{State}
use Rattle.co_object.specs.Arm.{arm, cancel, made_max, is_draining, refuse}
use Rattle.co_object.specs.Stop.{stop}
use Rattle.co_object.specs.Callout.{call, live_call, retired_call}
use Rattle.co_object.specs.Entries.{is_armed}
use Rattle.co_object.specs.Group.{Placed, group, off_of}
use Rattle.co_object.specs.Stand.{off, is_idle, stand_of, listed_cpu}
use Rattle.co_object.proofs.CallGroups.{entry_of, removal, insertion, unarmed_group, armed_group}
use Rattle.co_object.proofs.Numbers.{same_number}
use Rattle.co_desk.specs.Views.{PassesView, seen_of, journal_seen}
use Rattle.co_single.specs.Rest.{IsCalm, IsPlainArming}
use Rattle.co_single.specs.Seen.{with_entry, with_entries}

-- ---- the callout alone

below_max : (a : ℕ) → a < 2 ^ 62 → (a == made_max) ≡ false
below_max a h = go (a == made_max) refl where
  go : (b : Bool) → (a == made_max) ≡ b → b ≡ false
  go false is = refl
  go true is = let same : a ≡ made_max = same_number a made_max is in absurd (omega (arith, same, h))

module _ (s : State) (c : IsCalm s) where
  not_draining : (is_draining s && not (is_idle s.run)) ≡ false
  not_draining = ap (λ w. (w || is_some s.adrain) && not (is_idle s.run)) c.waiting ∙ ap (λ (a : Option ℕ). is_some a && not (is_idle s.run)) c.adrain

  -- a calm callout that is not worn is armed
  pub reset_is : (due prec arg : ℕ) → s.made < 2 ^ 62 → call s (Plain (Reset due prec 0 arg None)) ≡ arm s due prec 0 arg 0
  reset_is due prec arg low =
      let op = Reset due prec 0 arg None in
      ap (λ b. cond b (live_call s op) (retired_call s op)) c.live
      ∙ (ap (λ b. cond b (s, Worn) (cond (is_draining s && not (is_idle s.run)) (refuse s) (arm s due prec 0 arg s.home))) (below_max s.made low)
      ∙ (ap (λ b. cond b (refuse s) (arm s due prec 0 arg s.home)) not_draining
      ∙ ap (λ home. arm s due prec 0 arg home) c.home))

  pub stop_is : call s (Plain Stop) ≡ stop s
  stop_is = ap (λ b. cond b (live_call s Stop) (retired_call s Stop)) c.live

  pub calm_armed : (due prec arg : ℕ) → IsCalm (arm s due prec 0 arg 0).0
  calm_armed due prec arg = record {
    live = c.live;
    run = ap cancel c.run;
    waiting = c.waiting;
    adrain = c.adrain;
    home = refl;
    armed = (refl, refl);
  }

  pub calm_stopped : IsCalm (stop s).0
  calm_stopped = record {
    live = c.live;
    run = ap cancel c.run;
    waiting = c.waiting;
    adrain = c.adrain;
    home = c.home;
    armed = tt;
  }

-- the CPU in whose queue a calm callout stands, where it is armed
abbrev pub at_zero : Option Arming → Option ℕ
at_zero None = None
at_zero (Some a) = Some 0

off_idle : (o : Option Arming) → IsPlainArming o → listed_cpu (stand_of o Idle) ≡ at_zero o
off_idle None h = refl
off_idle (Some a) h = ap Some h.0

pub off_calm : (s : State) → IsCalm s → off s ≡ at_zero s.armed
off_calm s c = ap (λ (r : Run). listed_cpu (stand_of s.armed r)) c.run ∙ off_idle s.armed c.armed

-- ---- entries at CPUs leave what is seen of the callouts

abbrev pub IsAtCpu : Place → Type 0
IsAtCpu (at.Cpu cpu) = Unit {0}
IsAtCpu (at.Timer i) = ⊥
IsAtCpu (at.Actor a) = ⊥

abbrev pub AreAtCpus : List Placed → Type 0
AreAtCpus [] = Unit {0}
AreAtCpus (n ∷ ns) = IsAtCpu n.0 × AreAtCpus ns

cpu_keeps : (p : PassesView) (place : Place) (e : AnyEntry) → IsAtCpu place → (with_entry p place e).timers ≡ p.timers
cpu_keeps p (at.Cpu cpu) (of.Timer e) h = refl
cpu_keeps p (at.Cpu cpu) (of.Cpu e) h = refl
cpu_keeps p (at.Cpu cpu) (of.Own e) h = refl
cpu_keeps p (at.Timer i) e h = absurd h
cpu_keeps p (at.Actor a) e h = absurd h

pub cpus_keep : (p : PassesView) (ns : List Placed) → AreAtCpus ns → (with_entries p ns).timers ≡ p.timers
cpus_keep p [] h = refl
cpus_keep p (n ∷ ns) h = cpus_keep (with_entry p n.0 n.1) ns h.1 ∙ cpu_keeps p n.0 n.1 h.0

pub with-append : (p : PassesView) (xs ys : List Placed) → with_entries p (xs ++ ys) ≡ with_entries (with_entries p xs) ys
with-append p [] ys = refl
with-append p (x ∷ xs) ys = with-append (with_entry p x.0 x.1) xs ys

-- a list of entries has one of a callout, and its others at CPUs
pub record HasOne (x : Placed) (ns : List Placed) : Type 0 where
  pub before : List Placed
  pub after : List Placed
  pub at_cpus : AreAtCpus before
  pub at_cpus_too : AreAtCpus after
  pub is : ns ≡ before ++ x ∷ after

pub one_seen : (p : PassesView) (i : ℕ) (e : Entry) (ns : List Placed) → HasOne (at.Timer i, of.Timer e) ns → (with_entries p ns).timers ≡ set p.timers i (seen_of p i ++ e ∷ [])
one_seen p i e ns h =
    let b = with_entries p h.before in
    let first : b.timers ≡ p.timers = cpus_keep p h.before h.at_cpus in
    ap (λ l. (with_entries p l).timers) h.is
    ∙ (ap (λ (v : PassesView). v.timers) (with-append p h.before ((at.Timer i, of.Timer e) ∷ h.after))
    ∙ (cpus_keep (with_entry b (at.Timer i) (of.Timer e)) h.after h.at_cpus_too
    ∙ ap (λ (ts : List (List Entry)). set ts i (get_or ts i [] ++ e ∷ [])) first))

module _ (i actor act : ℕ) (op : Op) (t : State) (time : ℕ) where
  removal_cpus : (o : Option ℕ) → AreAtCpus (removal i actor act op t time o)
  removal_cpus None = tt
  removal_cpus (Some cpu) = (tt, tt)

  insertion_cpus : (m : Arming) (o : Option ℕ) → AreAtCpus (insertion i actor act op t time m o)
  insertion_cpus m None = tt
  insertion_cpus m (Some cpu) = (tt, tt)

  one_unarmed : (r : Reply) → is_armed r ≡ false → HasOne (at.Timer i, of.Timer (entry_of actor act op r)) (group i (entry_of actor act op r) t time)
  one_unarmed r h = record {
    before = removal i actor act op t time (off_of r);
    after = [];
    at_cpus = removal_cpus (off_of r);
    at_cpus_too = tt;
    is = unarmed_group i actor act op t time r h;
  }

one_armed : (i actor act : ℕ) (op : Op) (t : State) (time : ℕ) (code : ℤ) (n cpu : ℕ) (o : Option ℕ) (x : Option Arming) → HasOne (at.Timer i, of.Timer (entry_of actor act op (Armed code n cpu o))) (group i (entry_of actor act op (Armed code n cpu o)) (record t { armed = x }) time)
one_armed i actor act op t time code n cpu None None = record { before = []; after = []; at_cpus = tt; at_cpus_too = tt; is = refl }
one_armed i actor act op t time code n cpu (Some y) None = record { before = removal i actor act op t time (Some y); after = []; at_cpus = (tt, tt); at_cpus_too = tt; is = refl }
one_armed i actor act op t time code n cpu o (Some m) =
    let u : State = record t { armed = Some m } in record {
      before = removal i actor act op u time o;
      after = insertion i actor act op u time m (off u);
      at_cpus = removal_cpus i actor act op u time o;
      at_cpus_too = insertion_cpus i actor act op u time m (off u);
      is = armed_group i actor act op u time code n cpu o m (off u) refl refl;
    }

one_true : (i actor act : ℕ) (op : Op) (t : State) (time : ℕ) (r : Reply) → is_armed r ≡ true → HasOne (at.Timer i, of.Timer (entry_of actor act op r)) (group i (entry_of actor act op r) t time)
one_true i actor act op t time (Armed code n cpu o) h = one_armed i actor act op t time code n cpu o t.armed
one_true i actor act op t time _ h = absurd cc

-- a call makes one entry of its callout
pub one_in_group : (i actor act : ℕ) (op : Op) (t : State) (time : ℕ) (r : Reply) → HasOne (at.Timer i, of.Timer (entry_of actor act op r)) (group i (entry_of actor act op r) t time)
one_in_group i actor act op t time r = go (is_armed r) refl where
  go : (b : Bool) → is_armed r ≡ b → HasOne (at.Timer i, of.Timer (entry_of actor act op r)) (group i (entry_of actor act op r) t time)
  go true h = one_true i actor act op t time r h
  go false h = one_unarmed i actor act op t time r h

-- ---- one callout's history goes on

-- what is seen of callout i has these entries more, and of the others no more
pub record GoesOn (p : PassesView) (i : ℕ) (es : List Entry) (q : PassesView) : Type 0 where
  pub count : length q.timers ≡ length p.timers
  pub here : seen_of q i ≡ seen_of p i ++ es
  pub others : (j : ℕ) → j ≢ i → seen_of q j ≡ seen_of p j

pub goes_on : (p q : PassesView) (i : ℕ) (es : List Entry) → i < length p.timers → q.timers ≡ set p.timers i (seen_of p i ++ es) → GoesOn p i es q
goes_on p q i es low is = record {
  count = ap (λ (ts : List (List Entry)). length ts) is ∙ length-set p.timers i (seen_of p i ++ es);
  here = ap (λ ts. get_or ts i []) is ∙ get_or-set_same p.timers i (seen_of p i ++ es) [] low;
  others = λ j other. ap (λ ts. get_or ts j []) is ∙ get_or-set_other p.timers i j (seen_of p i ++ es) [] other;
}

-- an entry more in the journal of the one CPU
pub journal_on : (p : PassesView) (x : QEntry) → 0 < length p.cpus → journal_seen (with_entry p (at.Cpu 0) (of.Cpu x)) 0 ≡ journal_seen p 0 ++ x ∷ []
journal_on p x low = get_or-set_same p.cpus 0 (journal_seen p 0 ++ x ∷ []) [] low

pub cpus_still : (p : PassesView) (x : QEntry) → length p.cpus ≡ 1 → length (with_entry p (at.Cpu 0) (of.Cpu x)).cpus ≡ 1
cpus_still p x one = length-set p.cpus 0 (journal_seen p 0 ++ x ∷ []) ∙ one
