-- What the form of a line of the frame tells of what it states.
use Rattle.std.proofs.Common.{◌≡◌, ℕ, true, List, [], ◌∷◌, subst}
use Rattle.std.specs.Prelude.{Ok}
use Rattle.std.specs.List.{list_all}
use Rattle.co_text.specs.Fallible.{◌>>=◌}
use Rattle.co_text.specs.Values.{Word, number}
use Rattle.co_text.specs.Taking.{next, ended, lone}
use Rattle.co_grammar.specs.declared.Kind.{Kind}
use Rattle.co_grammar.specs.declared.Kind.TheVariants as kind
use Rattle.co_grammar.specs.Turns.{Turn}
use Rattle.co_grammar.specs.Statements.{Statement}
use Rattle.co_grammar.specs.Statements as states
use Rattle.co_grammar.specs.Forms.{lock_kind, spec, lock_form, timer_form, all_turns, turns_form, frame_form}
use Rattle.co_script.proofs.told.Steps.{bind-ok}
use Rattle.co_script.proofs.told.Specs.{IsSpecFormed, spec-ok}
use Rattle.co_script.proofs.told.Turns.{is_role_of, turns-ok}

-- what the form of a line of the frame tells of what it states
abbrev pub IsStated : ℕ → Kind → Statement → Type 0
IsStated version kind.Hz (states.Hz n) = Unit {0}
IsStated version kind.Cpus (states.Cpus n) = Unit {0}
IsStated version kind.Wheel (states.Wheel n) = Unit {0}
IsStated version kind.Funcs (states.Funcs n) = Unit {0}
IsStated version kind.Lock (states.Lock n k) = Unit {0}
IsStated version kind.Timer (states.Timer n x) = IsSpecFormed version x
IsStated version kind.Func (states.Func n) = Unit {0}
IsStated version kind.Client (states.Client n) = Unit {0}
IsStated version kind.Cpu (states.Cpu n) = Unit {0}
IsStated version kind.Turns (states.Turns ts) = list_all (λ (t : Turn). is_role_of version t.who) ts ≡ true
IsStated version k s = ⊥

one_number : (version : ℕ) (k : Kind) (make : ℕ → Statement) (ws : List Word) (s : Statement) → ((n : ℕ) → IsStated version k (make n))
    → (lone number ws >>= λ n. Ok (make n)) ≡ Ok s → IsStated version k s
one_number version k make ws s stated h =
    let b = bind-ok (lone number ws) (λ n. Ok (make n)) s h in
    let same : make b.0 ≡ s = cc in
    subst (λ t. IsStated version k t) same (stated b.0)

lock-ok : (version : ℕ) (ws : List Word) (s : Statement) → lock_form ws ≡ Ok s → IsStated version kind.Lock s
lock-ok version ws s h =
    let n = bind-ok (next number ws) (λ n. next lock_kind n.1 >>= λ k. ended k.1 >>= λ _. Ok (states.Lock n.0 k.0)) s h in
    let k = bind-ok (next lock_kind n.0.1) (λ k. ended k.1 >>= λ _. Ok (states.Lock n.0.0 k.0)) s n.2 in
    let e = bind-ok (ended k.0.1) (λ _. Ok (states.Lock n.0.0 k.0.0)) s k.2 in
    let same : states.Lock n.0.0 k.0.0 ≡ s = cc in
    subst (λ t. IsStated version kind.Lock t) same tt

timer-ok : (version : ℕ) (ws : List Word) (s : Statement) → timer_form version ws ≡ Ok s → IsStated version kind.Timer s
timer-ok version ws s h =
    let n = bind-ok (next number ws) (λ n. spec version n.1 >>= λ x. ended x.1 >>= λ _. Ok (states.Timer n.0 x.0)) s h in
    let x = bind-ok (spec version n.0.1) (λ x. ended x.1 >>= λ _. Ok (states.Timer n.0.0 x.0)) s n.2 in
    let e = bind-ok (ended x.0.1) (λ _. Ok (states.Timer n.0.0 x.0.0)) s x.2 in
    let same : states.Timer n.0.0 x.0.0 ≡ s = cc in
    subst (λ t. IsStated version kind.Timer t) same (spec-ok version n.0.1 x.0 x.1)

turns_line-ok : (version : ℕ) (ws : List Word) (s : Statement) → turns_form version ws ≡ Ok s → IsStated version kind.Turns s
turns_line-ok version [] s h = cc
turns_line-ok version (w ∷ ws) s h =
    let ts = bind-ok (all_turns version (w ∷ ws)) (λ ts. Ok (states.Turns ts)) s h in
    let same : states.Turns ts.0 ≡ s = cc in
    subst (λ t. IsStated version kind.Turns t) same (turns-ok version (w ∷ ws) ts.0 ts.1)

-- each line of the frame that is read
pub frame-ok : (version : ℕ) (k : Kind) (ws : List Word) (s : Statement) → frame_form version k ws ≡ Ok s → IsStated version k s
frame-ok version kind.Callout ws s h = cc
frame-ok version kind.Hz ws s h = one_number version kind.Hz (λ n. states.Hz n) ws s (λ n. tt) h
frame-ok version kind.Cpus ws s h = one_number version kind.Cpus (λ n. states.Cpus n) ws s (λ n. tt) h
frame-ok version kind.Wheel ws s h = one_number version kind.Wheel (λ n. states.Wheel n) ws s (λ n. tt) h
frame-ok version kind.Funcs ws s h = one_number version kind.Funcs (λ n. states.Funcs n) ws s (λ n. tt) h
frame-ok version kind.Lock ws s h = lock-ok version ws s h
frame-ok version kind.Timer ws s h = timer-ok version ws s h
frame-ok version kind.Func ws s h = one_number version kind.Func (λ n. states.Func n) ws s (λ n. tt) h
frame-ok version kind.Client ws s h = one_number version kind.Client (λ n. states.Client n) ws s (λ n. tt) h
frame-ok version kind.Cpu ws s h = one_number version kind.Cpu (λ n. states.Cpu n) ws s (λ n. tt) h
frame-ok version kind.Turns ws s h = turns_line-ok version ws s h
