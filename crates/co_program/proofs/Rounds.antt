-- The notes of a round of services that comes next, from the Pop that takes an arming to the acts of a drain function.
use Rattle.std.proofs.Common.{◌≡◌, ℕ, inl, inr, Bool, true, false, cond, List, [], ◌∷◌, ◌++◌, ◌+◌, length, refl, sym, ap, subst, ◌∙◌, Option, Some, None, append_assoc}
use Rattle.co_object.specs.declared.Next.{Next}
use Rattle.co_object.specs.declared.Note.{Note}
use Rattle.co_object.specs.declared.Op.TheVariants.{Run}
use Rattle.co_object.specs.declared.RunOp.TheVariants.{Pick, Begin, End}
use Rattle.co_object.specs.declared.QOp.TheVariants.{Insert}
use Rattle.co_object.specs.declared.QReply.{QReply}
use Rattle.co_object.specs.declared.QReply.TheVariants.{Got, Freed}
use Rattle.co_object.specs.declared.Reply.{Reply}
use Rattle.co_object.specs.declared.Reply.TheVariants.{Go, Hold, Ended}
use Rattle.co_object.specs.Group.{placed}
use Rattle.co_object.specs.Serve.{taken}
use Rattle.co_lock.specs.declared.Held.{Held}
use Rattle.co_program.specs.declared.act.Act.{Act}
use Rattle.co_program.specs.declared.script.Script.{Script}
use Rattle.co_program.specs.declared.role.Role.{Role}
use Rattle.co_program.specs.declared.role.Role.TheVariants.{Client, Cpu, Interrupt}
use Rattle.co_program.specs.declared.program.Task.{Task}
use Rattle.co_program.specs.declared.cursor.PendingInsert.{PendingInsert}
use Rattle.co_program.specs.declared.cursor.InService.{InService}
use Rattle.co_program.specs.declared.action.Asked.{Asked}
use Rattle.co_program.specs.declared.action.Asked.TheVariants.{Callout, Queue as IsQueue}
use Rattle.co_program.specs.Actors.{role_of, cpu_of, acts_at}
use Rattle.co_program.specs.Stages.{Stage, Popping, Picking, Locking, Beginning, Unlocking, Releasing, Ending, Freeing}
use Rattle.co_program.specs.Cursor.{Cursor}
use Rattle.co_program.specs.Action.{Take, Asks, spec_at, firing, draining, locks, action_for, pop_of, free_of}
use Rattle.co_program.specs.Advance.{advance_callout, advance_queue, service_picked, service_begun, drain_acts, popped, freed}
use Rattle.co_program.specs.Follows.{Histories, at_next_note}
use Rattle.co_program.specs.Groups.{AreActsOf, serves, turns, IsRun, at_once, under_lock, skipped, IsSent, IsRoundOf}
use Rattle.co_program.specs.Runs.{are_direct}
use Rattle.co_program.specs.Scripts.{IsScript}
use Rattle.co_program.proofs.Endings.{AreCalls, some-call, drain-calls}
use Rattle.co_program.proofs.FunctionActs.{in_act, AreFirst, acts-first, asks-some}
use Rattle.co_program.proofs.Groups.{inserted-at}
use Rattle.co_program.proofs.Rests.{IsRest, at-next-asks, at-next-silent, at-next-take}
use Rattle.co_program.proofs.NextNotes.{IsTurnFirst, turn-first, IsServeFirst, serve-first}
use Rattle.co_program.proofs.ServiceReplies.{Picks, pick-replies, Begins, begin-replies, end-replies, free-replies}

pub after-pop : (s : Script) (d : Cursor) (cpu : ℕ) (role : Role) (reply : QReply) → advance_queue s d cpu (pop_of role) reply ≡ popped d reply d.stage
after-pop s d cpu (Client c) reply = refl
after-pop s d cpu (Cpu x) reply = refl
after-pop s d cpu (Interrupt x) reply = refl

after-free : (s : Script) (d : Cursor) (cpu : ℕ) (role : Role) (reply : QReply) → advance_queue s d cpu (free_of role) reply ≡ freed s d d.stage
after-free s d cpu (Client c) reply = refl
after-free s d cpu (Cpu x) reply = refl
after-free s d cpu (Interrupt x) reply = refl

-- ---- the round

module _ (s : Script) (ok : IsScript s) (H : Histories) (a : ℕ) (left : List Task) (now : ℕ) (v : InService) where
  abbrev role : Role
  role = role_of s a

  abbrev at_cpu : ℕ
  at_cpu = cpu_of s (role_of s a)

  abbrev here : Option Held → ℕ → Stage → Cursor
  here hold n stage = in_act s H a left now v hold n stage

  -- the end of the service, and what comes after it
  record IsEnd (n : ℕ) (notes : List Note) : Type 0 where
    end : Note
    free : Note
    sent : List Note
    acts : List Note
    rest : List Note
    split : notes ≡ end ∷ free ∷ sent ++ (acts ++ rest)
    drain : Option ℕ
    next : Option Next
    woke : Bool
    ended : placed end ≡ serves s H a v (End v.n at_cpu) (Ended drain next woke)
    freed_is : placed free ≡ turns s H a v.act at_cpu (free_of role) Freed
    sent_on : IsSent s H a v next sent
    drained : AreActsOf s H a at_cpu v None n (drain_acts s drain) acts
    over : ℕ
    over_is : over ≡ n + length (drain_acts s drain)
    later : IsRest s H a (at_next_note s a (here None over (Popping v.act))) rest

  record IsSending (n : ℕ) (drain : Option ℕ) (next : Option Next) (notes : List Note) : Type 0 where
    sent : List Note
    acts : List Note
    rest : List Note
    split : notes ≡ sent ++ (acts ++ rest)
    sent_on : IsSent s H a v next sent
    drained : AreActsOf s H a at_cpu v None n (drain_acts s drain) acts
    over : ℕ
    over_is : over ≡ n + length (drain_acts s drain)
    later : IsRest s H a (at_next_note s a (here None over (Popping v.act))) rest

  drained-first : (n : ℕ) (drain : Option ℕ) (notes : List Note) → IsRest s H a (at_next_note s a (here None n (draining v (drain_acts s drain)))) notes → AreFirst s H a left now v None (draining v) (λ n y ys. refl) (λ n y ys. refl) (drain_acts s drain) n notes
  drained-first n drain notes rest = acts-first s H a left now v None (draining v) (λ n y ys. refl) (λ n y ys. refl) (drain_acts s drain) n notes (drain-calls s ok drain) rest

  sending : (n : ℕ) (drain : Option ℕ) (next : Option Next) (notes : List Note) → IsRest s H a (at_next_note s a (freed s (here None n (Freeing v drain next)) (Freeing v drain next))) notes → IsSending n drain next notes
  sending n drain None notes rest =
      let f = drained-first n drain notes rest in
      record { sent = []; acts = f.front; rest = f.rest; split = f.split; sent_on = refl; drained = f.are; over = f.last; over_is = f.last_is; later = f.later }
  sending n drain (Some nx) notes rest =
      let d : Cursor = record (here None n (draining v (drain_acts s drain))) { parcel = Some (record { act = v.act; i = v.i; n = nx.n; due = nx.due; cpu = nx.cpu }) } in
      let t = turn-first s H a d v.act nx.cpu (Insert v.i nx.n nx.due) notes (subst (λ (c : Cursor). IsRest s H a c notes) (at-next-asks s a d v.act (IsQueue nx.cpu (Insert v.i nx.n nx.due)) refl) rest) refl in
      let time = inserted-at s.buckets (are_direct s) t.queue v.i nx.n nx.due t.reply t.answers in
      let f = drained-first n drain t.rest t.later in
      record {
        sent = t.note ∷ [];
        acts = f.front;
        rest = f.rest;
        split = t.split ∙ ap (λ (l : List Note). t.note ∷ l) f.split;
        sent_on = (time.0, t.at ∙ ap (turns s H a v.act nx.cpu (Insert v.i nx.n nx.due)) time.1);
        drained = f.are;
        over = f.last;
        over_is = f.last_is;
        later = f.later;
      }

  ending-first : (n : ℕ) (notes : List Note) → IsRest s H a (at_next_note s a (here None n (Ending v))) notes → IsEnd n notes
  ending-first n notes rest =
      let c : Cursor = here None n (Ending v) in
      let e = serve-first s H a c v (End v.n at_cpu) notes (subst (λ (c : Cursor). IsRest s H a c notes) (at-next-asks s a c v.act (Callout v.i (Run (End v.n at_cpu))) refl) rest) refl in
      let r = end-replies e.before e.before.run v.n at_cpu e.after e.reply e.answers in
      let d : Cursor = here None n (Freeing v r.0 r.1) in
      let on = subst (λ (x : Reply). IsRest s H a (at_next_note s a (advance_callout s c v.i e.listed (Run (End v.n at_cpu)) x (Ending v))) e.rest) r.3 e.later in
      let f = turn-first s H a d v.act at_cpu (free_of role) e.rest (subst (λ (c : Cursor). IsRest s H a c e.rest) (at-next-asks s a d v.act (IsQueue at_cpu (free_of role)) refl) on) refl in
      let free_is = free-replies s.buckets (are_direct s) role f.queue f.reply f.answers in
      let more = sending n r.0 r.1 f.rest (subst (λ (c : Cursor). IsRest s H a (at_next_note s a c) f.rest) (after-free s d at_cpu role f.reply) f.later) in
      record {
        end = e.note;
        free = f.note;
        sent = more.sent;
        acts = more.acts;
        rest = more.rest;
        split = e.split ∙ ap (λ (l : List Note). e.note ∷ l) (f.split ∙ ap (λ (l : List Note). f.note ∷ l) more.split);
        drain = r.0;
        next = r.1;
        woke = r.2;
        ended = e.at ∙ ap (serves s H a v (End v.n at_cpu)) r.3;
        freed_is = f.at ∙ ap (turns s H a v.act at_cpu (free_of role)) free_is;
        sent_on = more.sent_on;
        drained = more.drained;
        over = more.over;
        over_is = more.over_is;
        later = more.later;
      }

  -- ---- what runs

  record IsBody (idle : Option Held) (n : ℕ) (reply : Reply) (notes : List Note) : Type 0 where
    runs : List Note
    rest : List Note
    split : notes ≡ runs ++ rest
    last : ℕ
    ran : IsRun s H a at_cpu v idle n reply last runs
    later : IsRest s H a (at_next_note s a (here None last (Ending v))) rest

  still-ending : (n : ℕ) (c : Cursor) (notes : List Note) → at_next_note s a c ≡ here None n (Ending v) → IsRest s H a (at_next_note s a c) notes → IsRest s H a (at_next_note s a (here None n (Ending v))) notes
  still-ending n c notes is rest = subst (λ (d : Cursor). IsRest s H a d notes) (is ∙ sym (at-next-asks s a (here None n (Ending v)) v.act (Callout v.i (Run (End v.n at_cpu))) refl)) rest

  to-ending : (hold : Option Held) (n : ℕ) (notes : List Note) → IsRest s H a (at_next_note s a (here hold n (firing v hold []))) notes → IsRest s H a (at_next_note s a (here None n (Ending v))) notes
  to-ending None n notes rest = rest
  to-ending (Some held) n notes rest =
      still-ending n (here (Some held) n (Releasing v)) notes (at-next-silent s a (here (Some held) n (Releasing v)) (here None n (Ending v)) v.act (Callout v.i (Run (End v.n at_cpu))) refl refl) rest

  fired : (hold : Option Held) (func n : ℕ) (notes : List Note) → IsRest s H a (at_next_note s a (here hold n (firing v hold (acts_at s.funcs func)))) notes → AreFirst s H a left now v hold (firing v hold) (λ n y ys. refl) (λ n y ys. refl) (acts_at s.funcs func) n notes
  fired hold func n notes rest = acts-first s H a left now v hold (firing v hold) (λ n y ys. refl) (λ n y ys. refl) (acts_at s.funcs func) n notes (ok.funcs func) rest

  -- past the release before the acts
  unlocked : (n : ℕ) (acts : List Act) (notes : List Note) (hold : Option Held) → AreCalls acts → IsRest s H a (at_next_note s a (here hold n (Unlocking v acts))) notes → IsRest s H a (at_next_note s a (here None n (firing v None acts))) notes
  unlocked n acts notes hold all rest =
      let asks = asks-firing acts all in
      let is = at-next-silent s a (here hold n (Unlocking v acts)) (here None n (firing v None acts)) asks.0 asks.1 refl asks.2 in
      subst (λ (d : Cursor). IsRest s H a d notes) (is ∙ sym (at-next-asks s a (here None n (firing v None acts)) asks.0 asks.1 asks.2)) rest where
        asks-firing : (acts : List Act) → AreCalls acts → (m : ℕ) × (asked : Asked) × (action_for s a (here None n (firing v None acts)) ≡ Asks m asked)
        asks-firing [] all = (v.act, Callout v.i (Run (End v.n at_cpu)), refl)
        asks-firing (x ∷ acts) all =
            let o = asks-some s H a left now v None n _ (some-call x s.hz (record { time = v.at; here = at_cpu; me = v.i }) all.0) in (n, o.0, o.1)

  body-first : (idle : Option Held) (n : ℕ) (reply : Reply) (notes : List Note) → Picks (spec_at s v.i) reply → IsRest s H a (at_next_note s a (service_picked s (here idle n (Picking v)) v reply)) notes → IsBody idle n reply notes
  body-first idle n reply notes (inl at_go) rest =
      let f = fired idle at_go.0 n notes (subst (λ (r : Reply). IsRest s H a (at_next_note s a (service_picked s (here idle n (Picking v)) v r)) notes) at_go.2 rest) in
      record {
        runs = f.front;
        rest = f.rest;
        split = f.split;
        ran = subst (λ (r : Reply). IsRun s H a at_cpu v idle n r f.last f.front) (sym at_go.2) (subst (λ (k : ℕ). IsRun s H a at_cpu v idle n (Go at_go.0 at_go.1) k f.front) (sym f.last_is) (at_once at_go.0 at_go.1 f.front f.are));
        last = f.last;
        later = to-ending idle f.last f.rest f.later;
      }
  body-first idle n reply notes (inr waits) rest =
      let held : Held = waits.1.0 in
      let c : Cursor = here (Some held) n (Beginning v) in
      let on = subst (λ (r : Reply). IsRest s H a (at_next_note s a (service_picked s (here idle n (Picking v)) v r)) notes) waits.0 rest in
      let take : action_for s a (here idle n (Locking v)) ≡ Take held c = ap (locks s (here idle n (Locking v)) v) waits.1.1 in
      let there = subst (λ (d : Cursor). IsRest s H a d notes) (at-next-take s a (here idle n (Locking v)) c held v.act (Callout v.i (Run (Begin v.n at_cpu))) take refl) on in
      let b = serve-first s H a c v (Begin v.n at_cpu) notes there refl in
      at_begin b (begin-replies b.before b.before.run v.n at_cpu b.after b.reply b.answers) where
        at_begin : (b : IsServeFirst s H a (here (Some waits.1.0) n (Beginning v)) v (Begin v.n at_cpu) notes) → Begins b.reply → IsBody idle n reply notes
        at_begin b (inr skip) =
            let on = subst (λ (r : Reply). IsRest s H a (at_next_note s a (service_begun s (here (Some waits.1.0) n (Beginning v)) v r)) b.rest) skip b.later in
            record {
              runs = b.note ∷ [];
              rest = b.rest;
              split = b.split;
              ran = subst (λ (r : Reply). IsRun s H a at_cpu v idle n r n (b.note ∷ [])) (sym waits.0) (skipped waits.1.0 b.note waits.1.1 (b.at ∙ ap (serves s H a v (Begin v.n at_cpu)) skip));
              last = n;
              later = still-ending n (here (Some waits.1.0) n (Releasing v)) b.rest (at-next-silent s a (here (Some waits.1.0) n (Releasing v)) (here None n (Ending v)) v.act (Callout v.i (Run (End v.n at_cpu))) refl refl) on;
            }
        at_begin b (inl at_go) =
            let on = subst (λ (r : Reply). IsRest s H a (at_next_note s a (service_begun s (here (Some waits.1.0) n (Beginning v)) v r)) b.rest) at_go.2 b.later in
            at_lock (spec_at s v.i).returns_unlocked refl on where
              acts_of : List Act
              acts_of = acts_at s.funcs at_go.0

              at_lock : (u : Bool) → (spec_at s v.i).returns_unlocked ≡ u → IsRest s H a (at_next_note s a (here (Some waits.1.0) n (cond u (Unlocking v (acts_at s.funcs at_go.0)) (firing v (Some waits.1.0) (acts_at s.funcs at_go.0))))) b.rest → IsBody idle n reply notes
              at_lock true is on =
                  let f = fired None at_go.0 n b.rest (unlocked n (acts_at s.funcs at_go.0) b.rest (Some waits.1.0) (ok.funcs at_go.0) on) in
                  record {
                    runs = b.note ∷ f.front;
                    rest = f.rest;
                    split = b.split ∙ ap (λ (l : List Note). b.note ∷ l) f.split;
                    ran = subst (λ (r : Reply). IsRun s H a at_cpu v idle n r f.last (b.note ∷ f.front)) (sym waits.0) (subst (λ (k : ℕ). IsRun s H a at_cpu v idle n Hold k (b.note ∷ f.front)) (sym f.last_is) (under_lock waits.1.0 at_go.0 at_go.1 b.note f.front waits.1.1 (b.at ∙ ap (serves s H a v (Begin v.n at_cpu)) at_go.2)
                        (subst (λ (u : Bool). AreActsOf s H a at_cpu v (cond u None (Some waits.1.0)) n (acts_at s.funcs at_go.0) f.front) (sym is) f.are)));
                    last = f.last;
                    later = to-ending None f.last f.rest f.later;
                  }
              at_lock false is on =
                  let f = fired (Some waits.1.0) at_go.0 n b.rest on in
                  record {
                    runs = b.note ∷ f.front;
                    rest = f.rest;
                    split = b.split ∙ ap (λ (l : List Note). b.note ∷ l) f.split;
                    ran = subst (λ (r : Reply). IsRun s H a at_cpu v idle n r f.last (b.note ∷ f.front)) (sym waits.0) (subst (λ (k : ℕ). IsRun s H a at_cpu v idle n Hold k (b.note ∷ f.front)) (sym f.last_is) (under_lock waits.1.0 at_go.0 at_go.1 b.note f.front waits.1.1 (b.at ∙ ap (serves s H a v (Begin v.n at_cpu)) at_go.2)
                        (subst (λ (u : Bool). AreActsOf s H a at_cpu v (cond u None (Some waits.1.0)) n (acts_at s.funcs at_go.0) f.front) (sym is) f.are)));
                    last = f.last;
                    later = to-ending (Some waits.1.0) f.last f.rest f.later;
                  }

module _ (s : Script) (ok : IsScript s) (H : Histories) (a : ℕ) (d : Cursor) (act first i n at : ℕ) (notes : List Note) where
  abbrev v : InService
  v = record { act = act; i = i; n = n; at = at }

  abbrev cpu_is : ℕ
  cpu_is = cpu_of s (role_of s a)

  pub record IsRoundFirst : Type 0 where
    pub front : List Note
    pub rest : List Note
    pub split : notes ≡ front ++ rest
    pub round : IsRoundOf s H a (role_of s a) act first d.hold front
    -- and after it the next callout, in an act of this number
    pub over : ℕ
    pub over_is : over ≡ round.last + length (drain_acts s round.drain)
    pub later : IsRest s H a (at_next_note s a (in_act s H a d.left d.now v None over (Popping act))) rest

  pub round-first : (t : IsTurnFirst s H a d act cpu_is (pop_of (role_of s a)) notes) → t.reply ≡ Got i n at → popped d (Got i n at) d.stage ≡ record d { act = first; stage = Picking v } → d.parcel ≡ None → d.removed ≡ None → IsRoundFirst
  round-first t got taken unsent unmade =
      let c : Cursor = in_act s H a d.left d.now v d.hold first (Picking v) in
      let same : record d { act = first; stage = Picking v } ≡ c = ap (λ (p : Option PendingInsert). record d { act = first; stage = Picking v; parcel = p }) unsent ∙ ap (λ (r : Option ℕ). record d { act = first; stage = Picking v; parcel = None; removed = r }) unmade in
      let gone : advance_queue s d cpu_is (pop_of (role_of s a)) t.reply ≡ c = after-pop s d cpu_is (role_of s a) t.reply ∙ ap (λ (r : QReply). popped d r d.stage) got ∙ taken ∙ same in
      let rest = subst (λ (x : Cursor). IsRest s H a x t.rest) (ap (at_next_note s a) gone ∙ at-next-asks s a c act (Callout i (Run (Pick n cpu_is at))) refl) t.later in
      let k = serve-first s H a c v (Pick n cpu_is at) t.rest rest refl in
      let b = body-first s ok H a d.left d.now v d.hold first k.reply k.rest (pick-replies (spec_at s i) k.before k.before.armed n cpu_is at k.after k.reply k.answers) k.later in
      let e = ending-first s ok H a d.left d.now v b.last b.rest b.later in
      let tail : List Note = e.end ∷ e.free ∷ e.sent ++ e.acts in
      let split-tail : b.rest ≡ tail ++ e.rest = e.split ∙ ap (λ (l : List Note). e.end ∷ e.free ∷ l) (sym (append_assoc e.sent e.acts e.rest)) in
      record {
        front = t.note ∷ k.note ∷ b.runs ++ tail;
        rest = e.rest;
        split = t.split ∙ ap (λ (l : List Note). t.note ∷ l) (k.split ∙ ap (λ (l : List Note). k.note ∷ l) (b.split ∙ ap (λ (l : List Note). b.runs ++ l) split-tail ∙ sym (append_assoc b.runs tail e.rest)));
        round = record {
          service = v;
          its_act = refl;
          pop = t.note;
          pick = k.note;
          end = e.end;
          free = e.free;
          runs = b.runs;
          sent = e.sent;
          acts = e.acts;
          all = refl;
          popped = t.at ∙ ap (turns s H a act cpu_is (pop_of (role_of s a))) got;
          reply = k.reply;
          picked = k.at;
          ran = b.ran;
          drain = e.drain;
          next = e.next;
          woke = e.woke;
          ended = e.ended;
          freed = e.freed_is;
          sent_on = e.sent_on;
          last = b.last;
          drained = e.drained;
        };
        over = e.over;
        over_is = e.over_is;
        later = e.later;
      }
