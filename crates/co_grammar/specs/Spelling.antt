-- The words that acts, lines of the frame and actors are written by: the canonical text's.
use Rattle.std.specs.Prelude.{ℕ, zero, suc, Bool, true, false, List, [], ◌∷◌, ◌++◌, codes, decimal}
use Rattle.std.specs.Fmt.{signed_decimal}
use Rattle.co_object.specs.declared.Spec.{Spec}
use Rattle.co_object.specs.declared.LockUse.{LockUse}
use Rattle.co_object.specs.declared.LockUse.TheVariants.{Free, Mtx, Rw, RwShared}
use Rattle.co_lock.specs.declared.LockKind.{LockKind}
use Rattle.co_lock.specs.declared.LockKind.TheVariants as lock
use Rattle.co_program.specs.declared.Script.{Script}
use Rattle.co_program.specs.declared.Act.{Act}
use Rattle.co_program.specs.declared.Act.TheVariants as act
use Rattle.co_program.specs.declared.Who.{Who}
use Rattle.co_program.specs.declared.Who.TheVariants as callout
use Rattle.co_program.specs.declared.When.{When}
use Rattle.co_program.specs.declared.When.TheVariants as when
use Rattle.co_program.specs.declared.Where.{Where}
use Rattle.co_program.specs.declared.Where.TheVariants as cpu
use Rattle.co_program.specs.Actors.{role_of}
use Rattle.co_program.specs.declared.Role.{Role}
use Rattle.co_program.specs.declared.Role.TheVariants.{Client, Cpu, Interrupt}
use Rattle.co_text.specs.Values.{Word}
use Rattle.co_text.specs.Written.{units_word, func_word, argument_word}

-- the words of values

abbrev pub who_word : Who → Word
who_word (callout.Timer i) = decimal i
who_word callout.Me = codes "me"

abbrev pub moment_word : When → Word
moment_word (when.After t) = 43 ∷ units_word t
moment_word (when.At t) = 61 ∷ units_word t

abbrev pub cpu_words : Where → List Word
cpu_words cpu.Home = []
cpu_words (cpu.Cpu c) = codes "cpu" ∷ decimal c ∷ []
cpu_words cpu.Here = codes "cpu" ∷ codes "here" ∷ []

abbrev pub precision_words : ℕ → List Word
precision_words zero = []
precision_words (suc p) = codes "pr" ∷ units_word (suc p) ∷ []

-- the words of an act
abbrev pub act_words : Act → List Word
act_words (act.Now t) = codes "now" ∷ units_word t ∷ []
act_words (act.Lock l) = codes "lock" ∷ decimal l ∷ []
act_words (act.ReadLock l) = codes "rlock" ∷ decimal l ∷ []
act_words act.Unlock = codes "unlock" ∷ []
act_words (act.Reset w f m a c p) = codes "reset" ∷ who_word w ∷ moment_word m ∷ func_word f ∷ argument_word a ∷ (cpu_words c ++ precision_words p)
act_words (act.Ticks w k f a c) = codes "ticks" ∷ who_word w ∷ signed_decimal k ∷ func_word f ∷ argument_word a ∷ cpu_words c
act_words (act.Schedule w m c p) = codes "schedule" ∷ who_word w ∷ moment_word m ∷ (cpu_words c ++ precision_words p)
act_words (act.Stop w) = codes "stop" ∷ who_word w ∷ []
act_words (act.Drain i) = codes "drain" ∷ decimal i ∷ []
act_words (act.AsyncDrain w f) = codes "adrain" ∷ who_word w ∷ func_word f ∷ []
act_words (act.Active w) = codes "active" ∷ who_word w ∷ []
act_words (act.Pending w) = codes "pending" ∷ who_word w ∷ []
act_words (act.Deactivate w) = codes "deactivate" ∷ who_word w ∷ []
act_words (act.Init w) = codes "init" ∷ who_word w ∷ []
act_words (act.Retire w) = codes "retire" ∷ who_word w ∷ []
act_words (act.Tick t) = codes "tick" ∷ units_word t ∷ []

-- the words of the frame

abbrev pub numbered : Word → ℕ → List Word
numbered w n = w ∷ decimal n ∷ []

abbrev pub lock_words : LockKind → Word
lock_words lock.Mtx = codes "mtx"
lock_words lock.Rw = codes "rw"

abbrev pub use_words : LockUse → List Word
use_words Free = codes "mpsafe" ∷ []
use_words (Mtx l) = codes "mtx" ∷ decimal l ∷ []
use_words (Rw l) = codes "rw" ∷ decimal l ∷ []
use_words (RwShared l) = codes "rw" ∷ decimal l ∷ codes "shared" ∷ []

-- a word that stands where the test passes
abbrev pub word_if : Bool → Word → List Word
word_if true w = w ∷ []
word_if false w = []

abbrev pub spec_words : Spec → List Word
spec_words s = use_words s.lock ++ (word_if s.direct (codes "direct") ++ word_if s.returns_unlocked (codes "returnunlocked"))

abbrev pub lock_line : ℕ → LockKind → List (List Word)
lock_line n k = (codes "lock" ∷ decimal n ∷ lock_words k ∷ []) ∷ []

abbrev pub timer_line : ℕ → Spec → List (List Word)
timer_line n s = (codes "timer" ∷ decimal n ∷ spec_words s) ∷ []

-- `cN`, `pN` or `hN`
abbrev pub role_word : Role → Word
role_word (Client n) = 99 ∷ decimal n
role_word (Cpu n) = 112 ∷ decimal n
role_word (Interrupt n) = 104 ∷ decimal n

-- the word of an actor, by its number
abbrev pub actor_word : Script → ℕ → Word
actor_word s a = role_word (role_of s a)
