-- What a section adds is the same in each draft of the same frame.
use Rattle.std.proofs.Common.{◌≡◌, ℕ, ◌+◌, ◌-◌, ◌≤◌, Bool, true, false, ◌&&◌, List, [], ◌∷◌, length, drop, refl, ap, sym, subst, ◌∙◌, arith}
use Rattle.std.specs.Prelude.{Some, Result, Ok, Err, IfOk}
use Rattle.std.specs.Cmp.Lexicographic.{pointwise}
use Rattle.co_program.specs.declared.Act.{Act}
use Rattle.co_grammar.specs.declared.Kind.{Kind}
use Rattle.co_text.specs.Lines.{Line, lines_of}
use Rattle.co_script.specs.declared.sections.Section.{Section}
use Rattle.co_script.specs.Drafts.{Draft}
use Rattle.co_script.specs.Reading.{line_read, lines_read}
use Rattle.co_script.specs.Beside.{HaveOneFrame, StandAlike, Begins, Grows, Reads, HasTaken, IsSection, with_acts}
use Rattle.co_script.proofs.LinesFold.{lines-cons}

pub frame-between : (f d e : Draft) → HaveOneFrame f d → HaveOneFrame f e → HaveOneFrame d e
frame-between f d e h k = record {
  version = sym h.version ∙ k.version;
  cpus = sym h.cpus ∙ k.cpus;
  locks = sym h.locks ∙ k.locks;
  timers = sym h.timers ∙ k.timers;
  funcs = sym h.funcs ∙ k.funcs;
}

pub frame-further : (f d e : Draft) → HaveOneFrame f d → HaveOneFrame d e → HaveOneFrame f e
frame-further f d e h k = record {
  version = h.version ∙ k.version;
  cpus = h.cpus ∙ k.cpus;
  locks = h.locks ∙ k.locks;
  timers = h.timers ∙ k.timers;
  funcs = h.funcs ∙ k.funcs;
}

frame-held : (d e : Draft) (acts : List Act) (clock count : ℕ) → HaveOneFrame d e → HaveOneFrame d (with_acts e acts clock count)
frame-held d e acts clock count h = record { version = h.version; cpus = h.cpus; locks = h.locks; timers = h.timers; funcs = h.funcs }

-- a section that has just begun
pub reads-none : (f e : Draft) (stage : Kind) (lines : List Line) → Begins stage e → Reads f stage lines e.acts e.clock 0 lines
reads-none f e stage lines b d k same begins few =
    let acts : e.acts ≡ d.acts = b.acts ∙ sym begins.acts in
    let clock : e.clock ≡ d.clock = b.clock ∙ sym begins.clock in
    let count : d.count + length e.acts ≡ d.count = omega (arith, ap length b.acts) in
    let number : k + 0 ≡ k = omega arith in
    sym (ap (λ n. lines_read n (Some (with_acts d e.acts e.clock (d.count + length e.acts))) lines) number
    ∙ (ap (λ n. lines_read k (Some (with_acts d e.acts e.clock n)) lines) count
    ∙ (ap (λ (l : List Act). lines_read k (Some (with_acts d l e.clock d.count)) lines) acts
    ∙ ap (λ t. lines_read k (Some (with_acts d d.acts t d.count)) lines) clock)))

-- one more line of it
pub reads-more : (f d e : Draft) (stage : Kind) (lines rest after : List Line) (l : Line) (n : ℕ) → HaveOneFrame f d → d.stage ≡ stage → rest ≡ l ∷ after
    → Reads f stage lines d.acts d.clock n rest → Grows l d e → Reads f stage lines e.acts e.clock (n + 1) after
reads-more f d e stage lines rest after l n same kind is reads g o k frame begins few =
    let p : Draft = with_acts o d.acts d.clock (o.count + length d.acts) in
    let alike : StandAlike d p = record { frame = frame-held d o d.acts d.clock (o.count + length d.acts) (frame-between f d o same frame); stage = kind ∙ sym begins.kind; acts = refl; clock = refl } in
    let room : p.count + length e.acts ≤ 262144 + length d.acts = omega (arith, few) in
    let fits : o.count + length d.acts ≤ 262144 = omega (arith, few, g.more) in
    let count : p.count + length e.acts - length d.acts ≡ o.count + length e.acts = omega arith in
    let read : line_read (Some p) l ≡ Ok (Some (with_acts o e.acts e.clock (o.count + length e.acts))) = g.reads p alike room ∙ ap (λ c. Ok (Some (with_acts o e.acts e.clock c))) count in
    let number : (k + n) + 1 ≡ k + (n + 1) = omega arith in
    reads o k frame begins fits
    ∙ (ap (λ ls. lines_read (k + n) (Some p) ls) is
    ∙ (lines-cons (k + n) (Some p) (Some (with_acts o e.acts e.clock (o.count + length e.acts))) l after read
    ∙ ap (λ m. lines_read m (Some (with_acts o e.acts e.clock (o.count + length e.acts))) after) number))

pub frame-same : (d : Draft) → HaveOneFrame d d
frame-same d = record { version = refl; cpus = refl; locks = refl; timers = refl; funcs = refl }

-- a section that was read in a draft of the frame
reads-framed : (f d : Draft) (stage : Kind) (lines rest : List Line) (acts : List Act) (clock count : ℕ) → HaveOneFrame f d → d.stage ≡ stage → Reads d d.stage lines acts clock count rest → Reads f stage lines acts clock count rest
reads-framed f d stage lines rest acts clock count h is reads o k frame begins few =
    reads o k (frame-between f d o h frame) (subst (λ s. Begins s o) (sym is) begins) few

-- a section that has just begun, and has taken lines
pub section-read : (text : List ℕ) (d e : Draft) (stage : Kind) (from to count : ℕ) (said : List Act × ℕ) → Begins stage d → HasTaken text d e from to count → said ≡ (e.acts, e.clock)
    → IsSection text d (record { stage = stage; at = from; end = to; lines = count; acts = said.0; clock = said.1 })
section-read text d e stage from to count said begins took is =
    let taken : IsSection text d (record { stage = stage; at = from; end = to; lines = count; acts = e.acts; clock = e.clock }) = record {
      reads = reads-framed d d stage (lines_of (drop from text)) (lines_of (drop to text)) e.acts e.clock count (frame-same d) begins.kind took.reads;
      within = took.within;
      few = took.few;
    } in
    subst (λ (p : List Act × ℕ). IsSection text d (record { stage = stage; at = from; end = to; lines = count; acts = p.0; clock = p.1 })) (sym is) taken

-- the same in each draft of the frame
pub section-framed : {E : Type 0} (text : List ℕ) (f d : Draft) (r : Result Section E) → HaveOneFrame f d → IfOk r (IsSection text d) → IfOk r (IsSection text f)
section-framed text f d (Ok s) same h = record {
  reads = λ o k frame begins few. h.reads o k (frame-between f d o same frame) begins few;
  within = h.within;
  few = h.few;
}
section-framed text f d (Err e) same h = tt

-- two drafts of one frame, seen by their parts
both_pass : (a b : Bool) → (a && b) ≡ true → (a ≡ true) × (b ≡ true)
both_pass true b h = (refl, h)
both_pass false b h = cc

-- lists that a test finds alike, item by item
pub same_by : {K : Type 0} (E : K → K → Bool) → ((x y : K) → E x y ≡ true → x ≡ y) → (xs ys : List K) → pointwise E xs ys ≡ true → xs ≡ ys
same_by E told [] [] h = refl
same_by E told [] (y ∷ ys) h = cc
same_by E told (x ∷ xs) [] h = cc
same_by E told (x ∷ xs) (y ∷ ys) h =
    let b = both_pass (E x y) (pointwise E xs ys) h in
    ap (λ z. z ∷ xs) (told x y b.0) ∙ ap (λ zs. y ∷ zs) (same_by E told xs ys b.1)

pub frame_of_parts : (d e f g : Draft) → d ≡ f → e ≡ g → d.script.version ≡ e.script.version → d.script.cpus ≡ e.script.cpus → d.script.locks ≡ e.script.locks → length d.script.timers ≡ length e.script.timers → d.funcs ≡ e.funcs → HaveOneFrame f g
frame_of_parts d e f g p q version cpus locks timers funcs =
    subst (λ x. HaveOneFrame x g) p (subst (λ x. HaveOneFrame d x) q (record { version = version; cpus = cpus; locks = locks; timers = timers; funcs = funcs }))
