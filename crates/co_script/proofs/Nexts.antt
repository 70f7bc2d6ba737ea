-- A line at a place of a text, read before it is cut, or by its words.
use Rattle.std.proofs.Common.{◌≡◌, ℕ, ◌+◌, ◌-◌, ◌<◌, ◌≤◌, Bool, true, false, ◌&&◌, List, [], ◌∷◌, ◌++◌, length, drop, refl, ap, sym, subst, ◌∙◌, arith, length-append}
use Rattle.std.specs.Prelude.{Option, Some, None, Result, Ok, Err, IfOk, MatchOption, nat_lt, slice_get}
use Rattle.std.proofs.lemmas.Bool.Decides.{nat_tests}
use Rattle.std.proofs.lemmas.List.{length-drop}
use Rattle.co_text.specs.Fallible.{◌>>=◌, ◌>>◌, unless, at_line, fault_at, LineFails, Faults}
use Rattle.co_text.specs.Lines.{Line, lines_of, content, words}
use Rattle.co_text.specs.Values.{Word}
use Rattle.co_text.specs.declared.Cause.{Cause}
use Rattle.co_text.specs.declared.Cause.TheVariants as cause
use Rattle.co_text.specs.declared.LineFault.{LineFault}
use Rattle.co_text.specs.declared.LineFault.TheVariants as fault
use Rattle.co_text.proofs.LinesBack.{and_left, and_right, and_both}
use Rattle.co_program.specs.declared.Script.{Script}
use Rattle.co_program.specs.declared.Act.{Act}
use Rattle.co_program.specs.declared.Act.TheVariants as act
use Rattle.co_program.specs.declared.Who.{Who}
use Rattle.co_program.specs.declared.Who.TheVariants as callout
use Rattle.co_program.specs.declared.Where.{Where}
use Rattle.co_program.specs.declared.Where.TheVariants as cpu
use Rattle.co_program.specs.Scripts.{who_exists, cpu_exists}
use Rattle.co_grammar.specs.Ahead.{SaysAhead}
use Rattle.co_grammar.specs.Checks.{act_fits, act_kind_fits, act_rises, is_rw}
use Rattle.co_grammar.specs.Forms.{act_form}
use Rattle.co_grammar.specs.Keywords.{act_kind, verb_of, is_section, is_func, may_act}
use Rattle.co_grammar.specs.Statements as states
use Rattle.co_grammar.specs.declared.Kind.{Kind}
use Rattle.co_grammar.specs.declared.Kind.TheVariants as kind
use Rattle.co_grammar.specs.declared.Verb.{Verb}
use Rattle.co_grammar.specs.declared.Opener.{Opener}
use Rattle.co_grammar.specs.declared.Opener.TheVariants as opener
use Rattle.co_script.specs.Beside.{StandAlike, Grows, SaysAct, SaysNext, IsLine, TakesNext, ReadsNext, with_acts}
use Rattle.co_script.specs.Drafts.{Draft, time_after}
use Rattle.co_script.specs.Reading.{line_after, line_read, lines_read, act_line, opened_line, opener_by, opener_of, may_stand}
use Rattle.co_script.specs.Refusals.{draft_with, draft_after, most_acts, has_room_for_act, AddsAct}
use Rattle.co_script.proofs.Beside.{frame-same}
use Rattle.co_script.proofs.WholeLines.{behind}

-- the draft with one more act of its open section
abbrev pub added : Draft → Act → Draft
added d a = draft_with d d.script (states.Does a)

line-is : (o e : Draft) (l : Line) (part : List ℕ) (first : Word) (others : List Word) → content l ≡ Ok part → words part ≡ first ∷ others → line_after o first others ≡ Ok e → line_read (Some o) l ≡ Ok (Some e)
line-is o e l part first others reads splits said = rw (reads, splits, said) refl

pub grows-added : (d : Draft) (l : Line) (part : List ℕ) (first : Word) (others : List Word) (a : Act) → content l ≡ Ok part → words part ≡ first ∷ others → SaysAct d first others a → Grows l d (added d a)
grows-added d l part first others a reads splits says = record {
  frame = record { version = refl; cpus = refl; locks = refl; timers = refl; funcs = refl };
  kind = refl;
  more = omega (arith, length-append d.acts (a ∷ []));
  reads = λ o alike room.
      let one = length-append d.acts (a ∷ []) in
      let few : o.count < 262144 = omega (arith, room, one) in
      let count : o.count + 1 ≡ o.count + length (d.acts ++ a ∷ []) - length d.acts = omega (arith, one) in
      line-is o (added o a) l part first others reads splits (says.reads o alike few)
      ∙ (ap (λ acts. Ok (Some (with_acts o (acts ++ a ∷ []) (time_after o.clock a) (o.count + 1)))) (sym alike.acts)
      ∙ (ap (λ t. Ok (Some (with_acts o (d.acts ++ a ∷ []) (time_after t a) (o.count + 1)))) (sym alike.clock)
      ∙ ap (λ n. Ok (Some (with_acts o (d.acts ++ a ∷ []) (time_after d.clock a) n))) count));
}

room-few : (a : Bool) (n : ℕ) → (a && nat_lt n 262144) ≡ true → n < 262144
room-few a n e = let f : nat_lt n 262144 ≡ true = and_right a _ e in grind (arith, nat_tests)

reads-added : (d : Draft) (l : Line) (part : List ℕ) (first : Word) (others : List Word) (a : Act) → content l ≡ Ok part → words part ≡ first ∷ others → SaysAct d first others a → line_read (Some d) l ≡ Ok (Some (added d a))
reads-added d l part first others a reads splits says =
    let alike : StandAlike d d = record { frame = frame-same d; stage = refl; acts = refl; clock = refl } in
    line-is d (added d a) l part first others reads splits (says.reads d alike (room-few _ d.count says.room))

-- the line that is read up to what stands behind it
line-up : (text after : List ℕ) (at : ℕ) (l : Line) → at ≤ length text → lines_of (drop at text) ≡ l ∷ lines_of after → length after < length (drop at text) → IsLine text at (length text - length after) l
line-up text after at l within lines shorter = record {
  lines = lines ∙ ap (λ t. l ∷ lines_of t) (behind text after at l within lines);
  further = omega (arith, within, shorter, length-drop {A = ℕ} at text);
  within = omega arith;
}

pub takes : (text after : List ℕ) (at : ℕ) (d e : Draft) (a : Act) → at ≤ length text → SaysNext d (drop at text) a after → e ≡ added d a → TakesNext text d e at (length text - length after)
takes text after at d e a within s is =
    let l : Line = s.has.line in
    record {
      line = l;
      is = line-up text after at l within s.has.lines s.has.shorter;
      grows = subst (λ x. Grows l d x) (sym is) (grows-added d l s.has.part s.first s.others a s.has.reads s.has.splits s.says);
      reads = reads-added d l s.has.part s.first s.others a s.has.reads s.has.splits s.says ∙ ap (λ x. Ok (Some x)) (sym is);
    }

-- how the first word is read
section-of : (k : Kind) (v : Verb) → may_act k v ≡ true → is_section k ≡ true
section-of kind.Func v e = refl
section-of kind.Client v e = refl
section-of kind.Cpu v e = refl
section-of kind.Callout v e = cc
section-of kind.Hz v e = cc
section-of kind.Cpus v e = cc
section-of kind.Wheel v e = cc
section-of kind.Funcs v e = cc
section-of kind.Lock v e = cc
section-of kind.Timer v e = cc
section-of kind.Turns v e = cc

opens-by : (k : Option Kind) (v : Verb) → opener_by true k (Some v) ≡ Ok (opener.Act v)
opens-by None v = refl
opens-by (Some k) v = refl

opens : (d : Draft) (first : Word) (v : Verb) → may_act d.stage v ≡ true → verb_of d.script.version first ≡ Some v → opener_of d first ≡ Ok (opener.Act v)
opens d first v may is = rw (section-of d.stage v may, is) (opens-by (act_kind first) v)

-- what fits a draft fits one that stands alike

who-alike : (s t : Script) (w : Who) → length s.timers ≡ length t.timers → who_exists s w ≡ who_exists t w
who-alike s t (callout.Timer i) timers = ap (λ n. nat_lt i n) timers
who-alike s t callout.Me timers = refl

cpu-alike : (s t : Script) (c : Where) → s.cpus ≡ t.cpus → cpu_exists s c ≡ cpu_exists t c
cpu-alike s t cpu.Home cpus = refl
cpu-alike s t (cpu.Cpu c) cpus = ap (λ n. nat_lt c n) cpus
cpu-alike s t cpu.Here cpus = refl

fits-alike : (m n : ℕ) (s t : Script) (a : Act) → m ≡ n → length s.locks ≡ length t.locks → length s.timers ≡ length t.timers → s.cpus ≡ t.cpus → act_fits m s a ≡ act_fits n t a
fits-alike m n s t (act.Reset w f k a c p) funcs locks timers cpus = rw (who-alike s t w timers, cpu-alike s t c cpus, funcs) refl
fits-alike m n s t (act.Ticks w k f a c) funcs locks timers cpus = rw (who-alike s t w timers, cpu-alike s t c cpus, funcs) refl
fits-alike m n s t (act.Schedule w k c p) funcs locks timers cpus = rw (who-alike s t w timers, cpu-alike s t c cpus) refl
fits-alike m n s t (act.Stop w) funcs locks timers cpus = rw (who-alike s t w timers) refl
fits-alike m n s t (act.Drain i) funcs locks timers cpus = rw timers refl
fits-alike m n s t (act.AsyncDrain w f) funcs locks timers cpus = rw (who-alike s t w timers, funcs) refl
fits-alike m n s t (act.Active w) funcs locks timers cpus = rw (who-alike s t w timers) refl
fits-alike m n s t (act.Pending w) funcs locks timers cpus = rw (who-alike s t w timers) refl
fits-alike m n s t (act.Deactivate w) funcs locks timers cpus = rw (who-alike s t w timers) refl
fits-alike m n s t (act.Init w) funcs locks timers cpus = rw (who-alike s t w timers) refl
fits-alike m n s t (act.Retire w) funcs locks timers cpus = rw (who-alike s t w timers) refl
fits-alike m n s t (act.Lock l) funcs locks timers cpus = rw locks refl
fits-alike m n s t (act.ReadLock l) funcs locks timers cpus = rw locks refl
fits-alike m n s t (act.Now u) funcs locks timers cpus = refl
fits-alike m n s t (act.Tick u) funcs locks timers cpus = refl
fits-alike m n s t act.Unlock funcs locks timers cpus = refl

kind-alike : (s t : Script) (a : Act) → s.locks ≡ t.locks → act_kind_fits s a ≡ act_kind_fits t a
kind-alike s t (act.ReadLock l) locks = ap (λ ls. is_rw (slice_get ls l)) locks
kind-alike s t a locks = refl

passes : (f k r m : Bool) (x y : Draft) → (unless f cause.Number >> (unless k cause.Kind >> (unless r cause.Falls >> (unless m cause.Many >> Ok x)))) ≡ Ok y → (k ≡ true) × (r ≡ true)
passes false k r m x y e = cc
passes true false r m x y e = cc
passes true true false m x y e = cc
passes true true true m x y e = (refl, refl)

few-test : (n : ℕ) → n < 262144 → nat_lt n 262144 ≡ true
few-test n few = grind (arith, nat_tests)

added-alike : (d o : Draft) (a : Act) → StandAlike d o → AddsAct d a → o.count < 262144 → draft_after o o.script (states.Does a) ≡ Ok (added o a)
added-alike d o a alike adds few =
    let f = alike.frame in
    let passed = passes (act_fits d.funcs d.script a) (act_kind_fits d.script a) (act_rises d.clock a) (has_room_for_act d) (added d a) (added d a) adds.adds in
    let fits : act_fits o.funcs o.script a ≡ true = sym (fits-alike d.funcs o.funcs d.script o.script a f.funcs (ap length f.locks) f.timers f.cpus) ∙ adds.fits in
    let kind : act_kind_fits o.script a ≡ true = sym (kind-alike d.script o.script a f.locks) ∙ passed.0 in
    let rises : act_rises o.clock a ≡ true = ap (λ t. act_rises t a) (sym alike.clock) ∙ passed.1 in
    let section : nat_lt (length o.acts) (most_acts (is_func o.stage)) ≡ true = ap (λ l. nat_lt (length l) (most_acts (is_func o.stage))) (sym alike.acts)
    ∙ (ap (λ k. nat_lt (length d.acts) (most_acts (is_func k))) (sym alike.stage) ∙ and_left (nat_lt (length d.acts) (most_acts (is_func d.stage))) (nat_lt d.count 262144) adds.room) in
    let room : has_room_for_act o ≡ true = and_both (nat_lt (length o.acts) (most_acts (is_func o.stage))) (nat_lt o.count 262144) section (few-test o.count few) in
    rw (fits, kind, rises, room) refl

line-by : (o e : Draft) (first : Word) (others : List Word) (op : Opener) → opener_of o first ≡ Ok op → may_stand o.stage op ≡ true → opened_line o op others ≡ Ok e → line_after o first others ≡ Ok e
line-by o e first others op is may line =
    ap (λ (r : Result Opener Cause). r >>= λ p. unless (may_stand o.stage p) cause.Order >> opened_line o p others) is
    ∙ (ap (λ b. unless b cause.Order >> opened_line o op others) may ∙ line)

says-act : (d : Draft) (first : Word) (others : List Word) (v : Verb) (a : Act) → may_act d.stage v ≡ true → ((version : ℕ) → verb_of version first ≡ Some v) → ((serviced : Bool) → act_form serviced v others ≡ Ok a) → AddsAct d a
    → SaysAct d first others a
says-act d first others v a may verb form adds = record {
  room = adds.room;
  reads = λ o alike few.
      let here : may_act o.stage v ≡ true = ap (λ k. may_act k v) (sym alike.stage) ∙ may in
      let line : act_line o v others ≡ Ok (added o a) = ap (λ (r : Result Act Cause). r >>= λ b. draft_after o o.script (states.Does b)) (form (is_func o.stage)) ∙ added-alike d o a alike adds few in
      line-by o (added o a) first others (opener.Act v) (opens o first v here (verb o.script.version)) here line;
}

pub says-next : (d : Draft) (text after : List ℕ) (v : Verb) (a : Act) → SaysAhead text v a after → may_act d.stage v ≡ true → AddsAct d a → SaysNext d text a after
says-next d text after v a s may adds = record { first = s.first; others = s.others; has = s.has; says = says-act d s.first s.others v a may s.verb s.form adds }

-- a line that is refused refuses the text from there on
pub refused : (k : ℕ) (d : Option Draft) (l : Line) (ls : List Line) (f : LineFault) → LineFails f (line_read d l) → Faults (fault_at k f) (lines_read k d (l ∷ ls))
refused k d l ls fault.NoMemory h = tt
refused k d l ls (fault.Bad cause) h = ap (λ r. at_line k r >>= λ e. lines_read (k + 1) e ls) h

-- a draft that was taken further, where the draft is an optional one
pub taken : {E : Type 0} (r : Result (Option ℕ) E) (text : List ℕ) (d e : Draft) (at : ℕ) → IfOk r (λ b. MatchOption b (e ≡ d) (λ to. TakesNext text d e at to))
    → IfOk r (λ b. MatchOption b (Some e ≡ Some d) (λ to. ReadsNext text (Some d) (Some e) at to))
taken (Ok (Some to)) text d e at h = record { line = h.line; is = h.is; reads = h.reads }
taken (Ok None) text d e at h = ap (λ x. Some x) h
taken (Err x) text d e at h = tt
