-- Each act that is read is of its verb, names `me` only in a function, and has times that are times.
use Rattle.std.proofs.Common.{◌≡◌, ℕ, Bool, true, false, not, ◌||◌, List, refl, subst}
use Rattle.std.specs.Prelude.{ℤ, Result, Ok}
use Rattle.std.proofs.lemmas.Bool.{and_from}
use Rattle.co_text.specs.Fallible.{◌>>=◌}
use Rattle.co_text.specs.Values.{Word, number, time, func, argument, signed}
use Rattle.co_text.specs.Taking.{next, ended, lone}
use Rattle.co_text.specs.declared.Cause.{Cause}
use Rattle.co_program.specs.declared.Act.{Act}
use Rattle.co_program.specs.declared.Act.TheVariants as act
use Rattle.co_program.specs.declared.Who.{Who}
use Rattle.co_program.specs.declared.When.{When}
use Rattle.co_program.specs.declared.Where.{Where}
use Rattle.co_grammar.specs.declared.Verb.{Verb}
use Rattle.co_grammar.specs.declared.Verb.TheVariants as verb
use Rattle.co_grammar.specs.Keywords.{verb_of_act}
use Rattle.co_grammar.specs.Operands.{moment, who}
use Rattle.co_grammar.specs.Forms.{optional_cpu, optional_precision, reset_form, ticks_form, schedule_form, drain_form, act_form}
use Rattle.co_script.specs.Fits.{is_time, is_moment, has_times}
use Rattle.co_program.specs.Calls.{is_me, names_me}
use Rattle.co_script.proofs.told.Steps.{bind-ok, next-ok, lone-ok}
use Rattle.co_script.proofs.told.Times.{time-ok}
use Rattle.co_script.proofs.told.Operands.{moment-ok, who-ok, precision-ok}

-- what the form of an act tells of it
pub record IsFormed (serviced : Bool) (v : Verb) (a : Act) : Type 0 where
  pub verb : verb_of_act a ≡ v
  pub me : (serviced || not (names_me a)) ≡ true
  pub times : has_times a ≡ true

-- an act with one operand, which tells all there is to tell
one_operand : {X : Type 0} (serviced : Bool) (v : Verb) (value : Word → Result X Cause) (make : X → Act) (ws : List Word) (a : Act)
    → ((w : Word) (x : X) → value w ≡ Ok x → IsFormed serviced v (make x))
    → (lone value ws >>= λ x. Ok (make x)) ≡ Ok a → IsFormed serviced v a
one_operand serviced v value make ws a formed h =
    let b = bind-ok (lone value ws) (λ x. Ok (make x)) a h in
    let w = lone-ok value ws b.0 b.1 in
    let same : make b.0 ≡ a = cc in
    subst (λ y. IsFormed serviced v y) same (formed w.0 b.0 w.1)

-- or with no times and no `me`
plain : (serviced : Bool) (a : Act) → names_me a ≡ false → has_times a ≡ true → IsFormed serviced (verb_of_act a) a
plain serviced a me times = record { verb = refl; me = rw me (go serviced); times = times } where
  go : (s : Bool) → (s || true) ≡ true
  go true = refl
  go false = refl

-- or with the callout alone
about : (serviced : Bool) (w : Word) (x : Who) (a : Act) → names_me a ≡ is_me x → has_times a ≡ true → who serviced w ≡ Ok x → IsFormed serviced (verb_of_act a) a
about serviced w x a me times h = record { verb = refl; me = rw me (who-ok serviced w x h); times = times }

module _ (serviced : Bool) where
  abbrev reset_ends : Who → When → ℕ → ℕ → Where → ℕ → List Word → Result Act Cause
  reset_ends w m f a c p ws = ended ws >>= λ _. Ok (act.Reset w f m a c p)

  abbrev reset_from_cpu : Who → When → ℕ → ℕ → Where → List Word → Result Act Cause
  reset_from_cpu w m f a c ws = optional_precision ws >>= λ p. reset_ends w m f a c p.0 p.1

  abbrev reset_from_argument : Who → When → ℕ → ℕ → List Word → Result Act Cause
  reset_from_argument w m f a ws = optional_cpu ws >>= λ c. reset_from_cpu w m f a c.0 c.1

  abbrev reset_from_func : Who → When → ℕ → List Word → Result Act Cause
  reset_from_func w m f ws = next argument ws >>= λ a. reset_from_argument w m f a.0 a.1

  abbrev reset_from_moment : Who → When → List Word → Result Act Cause
  reset_from_moment w m ws = next func ws >>= λ f. reset_from_func w m f.0 f.1

  abbrev reset_from_who : Who → List Word → Result Act Cause
  reset_from_who w ws = next moment ws >>= λ m. reset_from_moment w m.0 m.1

  reset-ok : (ws : List Word) (x : Act) → reset_form serviced ws ≡ Ok x → IsFormed serviced verb.Reset x
  reset-ok ws x h =
      let w = bind-ok (next (who serviced) ws) (λ w. reset_from_who w.0 w.1) x h in
      let m = bind-ok (next moment w.0.1) (λ m. reset_from_moment w.0.0 m.0 m.1) x w.2 in
      let f = bind-ok (next func m.0.1) (λ f. reset_from_func w.0.0 m.0.0 f.0 f.1) x m.2 in
      let a = bind-ok (next argument f.0.1) (λ a. reset_from_argument w.0.0 m.0.0 f.0.0 a.0 a.1) x f.2 in
      let c = bind-ok (optional_cpu a.0.1) (λ c. reset_from_cpu w.0.0 m.0.0 f.0.0 a.0.0 c.0 c.1) x a.2 in
      let p = bind-ok (optional_precision c.0.1) (λ p. reset_ends w.0.0 m.0.0 f.0.0 a.0.0 c.0.0 p.0 p.1) x c.2 in
      let e = bind-ok (ended p.0.1) (λ _. Ok (act.Reset w.0.0 f.0.0 m.0.0 a.0.0 c.0.0 p.0.0)) x p.2 in
      let same : act.Reset w.0.0 f.0.0 m.0.0 a.0.0 c.0.0 p.0.0 ≡ x = cc in
      let who_read = next-ok (who serviced) ws w.0 w.1 in
      let moment_read = next-ok moment w.0.1 m.0 m.1 in
      subst (λ y. IsFormed serviced verb.Reset y) {x = act.Reset w.0.0 f.0.0 m.0.0 a.0.0 c.0.0 p.0.0} same (record {
        verb = refl {a = verb.Reset};
        me = who-ok serviced who_read.0 w.0.0 who_read.1;
        times = and_from (is_moment m.0.0) (is_time p.0.0) (moment-ok moment_read.0 m.0.0 moment_read.1) (precision-ok c.0.1 p.0 p.1);
      })

  abbrev ticks_ends : Who → ℤ → ℕ → ℕ → Where → List Word → Result Act Cause
  ticks_ends w k f a c ws = ended ws >>= λ _. Ok (act.Ticks w k f a c)

  abbrev ticks_from_argument : Who → ℤ → ℕ → ℕ → List Word → Result Act Cause
  ticks_from_argument w k f a ws = optional_cpu ws >>= λ c. ticks_ends w k f a c.0 c.1

  abbrev ticks_from_func : Who → ℤ → ℕ → List Word → Result Act Cause
  ticks_from_func w k f ws = next argument ws >>= λ a. ticks_from_argument w k f a.0 a.1

  abbrev ticks_from_count : Who → ℤ → List Word → Result Act Cause
  ticks_from_count w k ws = next func ws >>= λ f. ticks_from_func w k f.0 f.1

  abbrev ticks_from_who : Who → List Word → Result Act Cause
  ticks_from_who w ws = next signed ws >>= λ k. ticks_from_count w k.0 k.1

  ticks-ok : (ws : List Word) (x : Act) → ticks_form serviced ws ≡ Ok x → IsFormed serviced verb.Ticks x
  ticks-ok ws x h =
      let w = bind-ok (next (who serviced) ws) (λ w. ticks_from_who w.0 w.1) x h in
      let k = bind-ok (next signed w.0.1) (λ k. ticks_from_count w.0.0 k.0 k.1) x w.2 in
      let f = bind-ok (next func k.0.1) (λ f. ticks_from_func w.0.0 k.0.0 f.0 f.1) x k.2 in
      let a = bind-ok (next argument f.0.1) (λ a. ticks_from_argument w.0.0 k.0.0 f.0.0 a.0 a.1) x f.2 in
      let c = bind-ok (optional_cpu a.0.1) (λ c. ticks_ends w.0.0 k.0.0 f.0.0 a.0.0 c.0 c.1) x a.2 in
      let e = bind-ok (ended c.0.1) (λ _. Ok (act.Ticks w.0.0 k.0.0 f.0.0 a.0.0 c.0.0)) x c.2 in
      let same : act.Ticks w.0.0 k.0.0 f.0.0 a.0.0 c.0.0 ≡ x = cc in
      let who_read = next-ok (who serviced) ws w.0 w.1 in
      subst (λ y. IsFormed serviced verb.Ticks y) {x = act.Ticks w.0.0 k.0.0 f.0.0 a.0.0 c.0.0} same (record { verb = refl {a = verb.Ticks}; me = who-ok serviced who_read.0 w.0.0 who_read.1; times = refl {a = true} })

  abbrev schedule_ends : Who → When → Where → ℕ → List Word → Result Act Cause
  schedule_ends w m c p ws = ended ws >>= λ _. Ok (act.Schedule w m c p)

  abbrev schedule_from_cpu : Who → When → Where → List Word → Result Act Cause
  schedule_from_cpu w m c ws = optional_precision ws >>= λ p. schedule_ends w m c p.0 p.1

  abbrev schedule_from_moment : Who → When → List Word → Result Act Cause
  schedule_from_moment w m ws = optional_cpu ws >>= λ c. schedule_from_cpu w m c.0 c.1

  abbrev schedule_from_who : Who → List Word → Result Act Cause
  schedule_from_who w ws = next moment ws >>= λ m. schedule_from_moment w m.0 m.1

  schedule-ok : (ws : List Word) (x : Act) → schedule_form serviced ws ≡ Ok x → IsFormed serviced verb.Schedule x
  schedule-ok ws x h =
      let w = bind-ok (next (who serviced) ws) (λ w. schedule_from_who w.0 w.1) x h in
      let m = bind-ok (next moment w.0.1) (λ m. schedule_from_moment w.0.0 m.0 m.1) x w.2 in
      let c = bind-ok (optional_cpu m.0.1) (λ c. schedule_from_cpu w.0.0 m.0.0 c.0 c.1) x m.2 in
      let p = bind-ok (optional_precision c.0.1) (λ p. schedule_ends w.0.0 m.0.0 c.0.0 p.0 p.1) x c.2 in
      let e = bind-ok (ended p.0.1) (λ _. Ok (act.Schedule w.0.0 m.0.0 c.0.0 p.0.0)) x p.2 in
      let same : act.Schedule w.0.0 m.0.0 c.0.0 p.0.0 ≡ x = cc in
      let who_read = next-ok (who serviced) ws w.0 w.1 in
      let moment_read = next-ok moment w.0.1 m.0 m.1 in
      subst (λ y. IsFormed serviced verb.Schedule y) {x = act.Schedule w.0.0 m.0.0 c.0.0 p.0.0} same (record {
        verb = refl {a = verb.Schedule};
        me = who-ok serviced who_read.0 w.0.0 who_read.1;
        times = and_from (is_moment m.0.0) (is_time p.0.0) (moment-ok moment_read.0 m.0.0 moment_read.1) (precision-ok c.0.1 p.0 p.1);
      })

  abbrev drain_ends : Who → ℕ → List Word → Result Act Cause
  drain_ends w f ws = ended ws >>= λ _. Ok (act.AsyncDrain w f)

  abbrev drain_from_who : Who → List Word → Result Act Cause
  drain_from_who w ws = next func ws >>= λ f. drain_ends w f.0 f.1

  drain-ok : (ws : List Word) (x : Act) → drain_form serviced ws ≡ Ok x → IsFormed serviced verb.AsyncDrain x
  drain-ok ws x h =
      let w = bind-ok (next (who serviced) ws) (λ w. drain_from_who w.0 w.1) x h in
      let f = bind-ok (next func w.0.1) (λ f. drain_ends w.0.0 f.0 f.1) x w.2 in
      let e = bind-ok (ended f.0.1) (λ _. Ok (act.AsyncDrain w.0.0 f.0.0)) x f.2 in
      let same : act.AsyncDrain w.0.0 f.0.0 ≡ x = cc in
      let who_read = next-ok (who serviced) ws w.0 w.1 in
      subst (λ y. IsFormed serviced verb.AsyncDrain y) same (record { verb = refl; me = who-ok serviced who_read.0 w.0.0 who_read.1; times = refl })

-- each act that is read
pub act-ok : (serviced : Bool) (v : Verb) (ws : List Word) (a : Act) → act_form serviced v ws ≡ Ok a → IsFormed serviced v a
act-ok s verb.Now ws a h = one_operand s verb.Now time (λ t. act.Now t) ws a (λ w t k. plain s (act.Now t) refl (time-ok w t k)) h
act-ok s verb.Lock ws a h = one_operand s verb.Lock number (λ l. act.Lock l) ws a (λ w l k. plain s (act.Lock l) refl refl) h
act-ok s verb.ReadLock ws a h = one_operand s verb.ReadLock number (λ l. act.ReadLock l) ws a (λ w l k. plain s (act.ReadLock l) refl refl) h
act-ok s verb.Unlock ws a h =
    let e = bind-ok (ended ws) (λ _. Ok act.Unlock) a h in
    let same : act.Unlock ≡ a = cc in
    subst (λ y. IsFormed s verb.Unlock y) same (plain s act.Unlock refl refl)
act-ok s verb.Reset ws a h = reset-ok s ws a h
act-ok s verb.Ticks ws a h = ticks-ok s ws a h
act-ok s verb.Schedule ws a h = schedule-ok s ws a h
act-ok s verb.Stop ws a h = one_operand s verb.Stop (who s) (λ x. act.Stop x) ws a (λ w x k. about s w x (act.Stop x) refl refl k) h
act-ok s verb.Drain ws a h = one_operand s verb.Drain number (λ i. act.Drain i) ws a (λ w i k. plain s (act.Drain i) refl refl) h
act-ok s verb.AsyncDrain ws a h = drain-ok s ws a h
act-ok s verb.Active ws a h = one_operand s verb.Active (who s) (λ x. act.Active x) ws a (λ w x k. about s w x (act.Active x) refl refl k) h
act-ok s verb.Pending ws a h = one_operand s verb.Pending (who s) (λ x. act.Pending x) ws a (λ w x k. about s w x (act.Pending x) refl refl k) h
act-ok s verb.Deactivate ws a h = one_operand s verb.Deactivate (who s) (λ x. act.Deactivate x) ws a (λ w x k. about s w x (act.Deactivate x) refl refl k) h
act-ok s verb.Init ws a h = one_operand s verb.Init (who s) (λ x. act.Init x) ws a (λ w x k. about s w x (act.Init x) refl refl k) h
act-ok s verb.Retire ws a h = one_operand s verb.Retire (who s) (λ x. act.Retire x) ws a (λ w x k. about s w x (act.Retire x) refl refl k) h
act-ok s verb.Tick ws a h = one_operand s verb.Tick time (λ t. act.Tick t) ws a (λ w t k. plain s (act.Tick t) refl (time-ok w t k)) h
