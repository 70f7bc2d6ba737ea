-- No line of an act or of the frame has more than 150 bytes.
use Rattle.std.proofs.Common.{ℕ, zero, suc, ◌+◌, ◌≤◌, Bool, true, false, List, [], ◌∷◌, ◌++◌, length, arith, decimal}
use Rattle.std.specs.Prelude.{codes}
use Rattle.co_text.specs.Lines.{line_text}
use Rattle.co_text.specs.Values.{Word}
use Rattle.co_text.proofs.Sizes.{weight, line-weight, number-short, time-short, signed-short}
use Rattle.co_object.specs.declared.LockUse.{LockUse}
use Rattle.co_object.specs.declared.LockUse.TheVariants.{Free, Mtx, Rw, RwShared}
use Rattle.co_lock.specs.declared.LockKind.{LockKind}
use Rattle.co_lock.specs.declared.LockKind.TheVariants as lock
use Rattle.co_program.specs.declared.Act.{Act}
use Rattle.co_program.specs.declared.Act.TheVariants as act
use Rattle.co_program.specs.declared.Who.{Who}
use Rattle.co_program.specs.declared.Who.TheVariants as callout
use Rattle.co_program.specs.declared.When.{When}
use Rattle.co_program.specs.declared.When.TheVariants as when
use Rattle.co_program.specs.declared.Where.{Where}
use Rattle.co_program.specs.declared.Where.TheVariants as cpu
use Rattle.co_grammar.specs.Spelling.{who_word, moment_word, cpu_words, precision_words, act_words, numbered, lock_words, use_words, word_if}
use Rattle.co_grammar.proofs.ActsBack.{IsShort, IsTime, WhoStands, MomentStands, WhereStands, ActStands}
use Rattle.co_grammar.proofs.FrameBack.{SpecStands}

-- operands

who-short : (serviced : Bool) (w : Who) → WhoStands serviced w → length (who_word w) ≤ 20
who-short serviced (callout.Timer i) h = number-short i h
who-short serviced callout.Me h = omega arith

moment-short : (m : When) → MomentStands m → length (moment_word m) ≤ 21
moment-short (when.After t) h = omega (arith, time-short t h)
moment-short (when.At t) h = omega (arith, time-short t h)

precision-weight : (p : ℕ) → IsTime p → weight (precision_words p) ≤ 25
precision-weight zero h = omega arith
precision-weight (suc p) h = omega (arith, time-short (suc p) h)

cpu-weight : (c : Where) (ws : List Word) → WhereStands c → weight (cpu_words c ++ ws) ≤ 25 + weight ws
cpu-weight cpu.Home ws h = omega arith
cpu-weight (cpu.Cpu c) ws h = omega (arith, number-short c h)
cpu-weight cpu.Here ws h = omega arith

home-weight : (c : Where) → WhereStands c → weight (cpu_words c) ≤ 26
home-weight cpu.Home h = omega arith
home-weight (cpu.Cpu c) h = omega (arith, number-short c h)
home-weight cpu.Here h = omega arith

-- acts

who-act : (serviced : Bool) (w : Who) (word : Word) → length word ≤ 10 → WhoStands serviced w → weight (word ∷ who_word w ∷ []) ≤ 150
who-act serviced w word few h = omega (arith, few, who-short serviced w h)

act-weight : (serviced : Bool) (a : Act) → ActStands serviced a → weight (act_words a) ≤ 150
act-weight serviced (act.Now t) h = omega (arith, time-short t h)
act-weight serviced (act.Lock l) h = omega (arith, number-short l h)
act-weight serviced (act.ReadLock l) h = omega (arith, number-short l h)
act-weight serviced act.Unlock h = omega arith
act-weight serviced (act.Reset w f m a c p) h =
    omega (arith, who-short serviced w h.0, moment-short m h.1, number-short f h.2, number-short a h.3, cpu-weight c (precision_words p) h.4, precision-weight p h.5)
act-weight serviced (act.Ticks w k f a c) h = omega (arith, who-short serviced w h.0, signed-short k h.1, number-short f h.2, number-short a h.3, home-weight c h.4)
act-weight serviced (act.Schedule w m c p) h = omega (arith, who-short serviced w h.0, moment-short m h.1, cpu-weight c (precision_words p) h.2, precision-weight p h.3)
act-weight serviced (act.Stop w) h = who-act serviced w (codes "stop") (omega arith) h
act-weight serviced (act.Drain i) h = omega (arith, number-short i h)
act-weight serviced (act.AsyncDrain w f) h = omega (arith, who-short serviced w h.0, number-short f h.1)
act-weight serviced (act.Active w) h = who-act serviced w (codes "active") (omega arith) h
act-weight serviced (act.Pending w) h = who-act serviced w (codes "pending") (omega arith) h
act-weight serviced (act.Deactivate w) h = who-act serviced w (codes "deactivate") (omega arith) h
act-weight serviced (act.Init w) h = who-act serviced w (codes "init") (omega arith) h
act-weight serviced (act.Retire w) h = who-act serviced w (codes "retire") (omega arith) h
act-weight serviced (act.Tick t) h = omega (arith, time-short t h)

pub act-short : (serviced : Bool) (a : Act) → ActStands serviced a → length (line_text (act_words a)) ≤ 150
act-short serviced a h = omega (arith, line-weight (act_words a), act-weight serviced a h)

-- the frame

pub numbered-short : (w : Word) (n : ℕ) → length w ≤ 10 → IsShort n → length (line_text (numbered w n)) ≤ 150
numbered-short w n few h = omega (arith, few, line-weight (numbered w n), number-short n h)

kind-short : (k : LockKind) → length (lock_words k) ≤ 3
kind-short lock.Mtx = omega arith
kind-short lock.Rw = omega arith

pub lock-short : (n : ℕ) (k : LockKind) → IsShort n → length (line_text (codes "lock" ∷ decimal n ∷ lock_words k ∷ [])) ≤ 150
lock-short n k h = omega (arith, line-weight (codes "lock" ∷ decimal n ∷ lock_words k ∷ []), number-short n h, kind-short k)

abbrev flags : Bool → Bool → List Word
flags direct returns = word_if direct (codes "direct") ++ word_if returns (codes "returnunlocked")

flags-weight : (direct returns : Bool) → weight (flags direct returns) ≤ 30
flags-weight true true = omega arith
flags-weight true false = omega arith
flags-weight false true = omega arith
flags-weight false false = omega arith

use-weight : (version : ℕ) (l : LockUse) (returns direct : Bool) (ws : List Word) → SpecStands version l returns direct → weight (use_words l ++ ws) ≤ 40 + weight ws
use-weight version Free returns direct ws h = omega arith
use-weight version (Mtx l) returns direct ws h = omega (arith, number-short l h.1)
use-weight version (Rw l) returns direct ws h = omega (arith, number-short l h.1)
use-weight version (RwShared l) returns direct ws h = omega (arith, number-short l h.1)

pub timer-short : (version n : ℕ) (l : LockUse) (returns direct : Bool) → IsShort n → SpecStands version l returns direct → length (line_text (codes "timer" ∷ decimal n ∷ (use_words l ++ (word_if direct (codes "direct") ++ word_if returns (codes "returnunlocked"))))) ≤ 150
timer-short version n l returns direct short h =
    omega (arith, line-weight (codes "timer" ∷ decimal n ∷ (use_words l ++ flags direct returns)), number-short n short, use-weight version l returns direct (flags direct returns) h, flags-weight direct returns)
