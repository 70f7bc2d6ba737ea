-- The note whose numbers they are.
use Rattle.std.proofs.Common.{ℕ, ◌≡◌, ◌<◌, ◌+◌, ◌*◌, ◌/◌, ◌%◌, ◌^◌, List, [], ◌∷◌, get_or, take, refl, arith}
use Rattle.std.proofs.lemmas.List.{get_or-take}
use Rattle.co_object.specs.Lists.{actor_of}
use Rattle.co_object.specs.declared.note.Note.{Note}
use Rattle.co_packed.specs.declared.kinds.Sort.{Sort}
use Rattle.co_packed.specs.declared.kinds.Sort.TheVariants as sorts
use Rattle.co_packed.specs.declared.kinds.Whose.{Whose}
use Rattle.co_packed.specs.declared.words.OpWords.{OpWords}
use Rattle.co_packed.specs.declared.words.ReplyWords.{ReplyWords}
use Rattle.co_packed.specs.Numbered.{sort_at, whose_at, code_at, short_at, time_at, op_words_at, reply_words_at, numbered_head, numbered_note}
use Rattle.co_packed.specs.Heads.{head_of}
use Rattle.co_packed.specs.Parts.{entry_of, place_of}

short_again : (n : ℕ) → n < 2 ^ 32 → short_at n ≡ n
unfolding short_at
short_again n h = omega arith

time_again : (n : ℕ) → n < 2 ^ 63 → time_at n ≡ n
unfolding time_at
time_again n h = omega arith

-- what the numbers of an operation and of a reply are below
pub record OpFits (w : OpWords) : Type 0 where
  pub time : w.time < 2 ^ 63
  pub prec : w.prec < 2 ^ 63
  pub number : w.number < 2 ^ 32
  pub cpu : w.cpu < 2 ^ 32

pub record ReplyFits (w : ReplyWords) : Type 0 where
  pub time : w.time < 2 ^ 63
  pub number : w.number < 2 ^ 32
  pub off : w.off < 2 ^ 32

op_words_again : (w : OpWords) (a b c d e f : ℕ) (rest : List ℕ) → OpFits w → op_words_at (a ∷ b ∷ c ∷ d ∷ e ∷ f ∷ w.time ∷ w.prec ∷ w.word ∷ w.number ∷ w.cpu ∷ rest) ≡ w
unfolding op_words_at
op_words_again w a b c d e f rest h = rw (time_again w.time h.time, time_again w.prec h.prec, short_again w.number h.number, short_again w.cpu h.cpu) refl

reply_words_again : (w : ReplyWords) (a b c d e f g h i j k code : ℕ) → ReplyFits w → code_at code ≡ w.code → reply_words_at (a ∷ b ∷ c ∷ d ∷ e ∷ f ∷ g ∷ h ∷ i ∷ j ∷ k ∷ w.time ∷ w.word ∷ code ∷ w.number ∷ w.off ∷ []) ≡ w
unfolding reply_words_at
reply_words_again w a b c d e f g h i j k code fits is = rw (time_again w.time fits.time, is, short_again w.number fits.number, short_again w.off fits.off) refl

pub note_again : (note : Note) (whose : Whose) (sort : Sort) (op : OpWords) (reply : ReplyWords) (w k answer act place actor code : ℕ)
    → k < 27 → whose_at w ≡ whose → sort_at k answer ≡ sort → code_at code ≡ reply.code
    → place < 2 ^ 32 → actor < 2 ^ 32 → OpFits op → ReplyFits reply
    → place_of whose place ≡ note.place → entry_of sort actor act op reply ≡ note.entry
    → numbered_note ((32 * w + k) ∷ note.pos ∷ place ∷ actor ∷ answer ∷ act ∷ op.time ∷ op.prec ∷ op.word ∷ op.number ∷ op.cpu ∷ reply.time ∷ reply.word ∷ code ∷ reply.number ∷ reply.off ∷ []) ≡ note
unfolding numbered_note
note_again note whose sort op reply w k answer act place actor code few whose_is sort_is code_is place_fits actor_fits op_fits reply_fits at said =
    let high : (32 * w + k) / 32 ≡ w = omega arith in
    let low : (32 * w + k) % 32 ≡ k = omega arith in
    let op_is = op_words_again op (32 * w + k) note.pos place actor answer act (reply.time ∷ reply.word ∷ code ∷ reply.number ∷ reply.off ∷ []) op_fits in
    let reply_is = reply_words_again reply (32 * w + k) note.pos place actor answer act op.time op.prec op.word op.number op.cpu code reply_fits code_is in
    rw (op_is, reply_is, high, low, whose_is, sort_is, short_again place place_fits, short_again actor actor_fits, at, said) refl

-- a number stands where it is put, and is below a limit
pub record IsPut (limit put n : ℕ) : Type 0 where
  pub same : put ≡ n
  pub bounded : put < limit

below : (limit put n : ℕ) → IsPut limit put n → n < limit
below limit put n p = omega arith

-- the same where the numbers are put by calls, each of which gives its number again
pub numbers_again : (note : Note) (whose : Whose) (sort : Sort) (op : OpWords) (reply : ReplyWords) (w k answer act place actor code : ℕ)
    → (place_put actor_put time_put prec_put number_put cpu_put reply_time_put reply_number_put off_put : ℕ)
    → k < 27 → whose_at w ≡ whose → sort_at k answer ≡ sort → code_at code ≡ reply.code
    → IsPut (2 ^ 32) place_put place → IsPut (2 ^ 32) actor_put actor
    → IsPut (2 ^ 63) time_put op.time → IsPut (2 ^ 63) prec_put op.prec → IsPut (2 ^ 32) number_put op.number → IsPut (2 ^ 32) cpu_put op.cpu
    → IsPut (2 ^ 63) reply_time_put reply.time → IsPut (2 ^ 32) reply_number_put reply.number → IsPut (2 ^ 32) off_put reply.off
    → place_of whose place ≡ note.place → entry_of sort actor act op reply ≡ note.entry
    → numbered_note ((32 * w + k) ∷ note.pos ∷ place_put ∷ actor_put ∷ answer ∷ act ∷ time_put ∷ prec_put ∷ op.word ∷ number_put ∷ cpu_put ∷ reply_time_put ∷ reply.word ∷ code ∷ reply_number_put ∷ off_put ∷ []) ≡ note
numbers_again note whose sort op reply w k answer act place actor code place_put actor_put time_put prec_put number_put cpu_put reply_time_put reply_number_put off_put few whose_is sort_is code_is pl ac ti pr nu cp rt rn of at said =
    rw (pl.same, ac.same, ti.same, pr.same, nu.same, cp.same, rt.same, rn.same, of.same)
    (note_again note whose sort op reply w k answer act place actor code few whose_is sort_is code_is (below (2 ^ 32) place_put place pl) (below (2 ^ 32) actor_put actor ac)
    (record { time = below (2 ^ 63) time_put op.time ti; prec = below (2 ^ 63) prec_put op.prec pr; number = below (2 ^ 32) number_put op.number nu; cpu = below (2 ^ 32) cpu_put op.cpu cp })
    (record { time = below (2 ^ 63) reply_time_put reply.time rt; number = below (2 ^ 32) reply_number_put reply.number rn; off = below (2 ^ 32) off_put reply.off of })
    at said)

actor_is : (sort : Sort) (actor act : ℕ) (op : OpWords) (reply : ReplyWords) → actor_of (entry_of sort actor act op reply) ≡ actor
actor_is (sorts.Timer kind answer) actor act op reply = refl
actor_is (sorts.Cpu kind answer) actor act op reply = refl
actor_is (sorts.Own kind) actor act op reply = refl

-- the head of the note is that of its first numbers
pub head_again : (ns : List ℕ) → numbered_head (take 4 ns) ≡ head_of (numbered_note ns)
unfolding numbered_head numbered_note
head_again ns =
    rw (actor_is (sort_at (get_or ns 0 0 % 32) (get_or ns 4 0)) (short_at (get_or ns 3 0)) (get_or ns 5 0) (op_words_at ns) (reply_words_at ns), get_or-take 4 ns 0 0 (omega arith), get_or-take 4 ns 1 0 (omega arith), get_or-take 4 ns 2 0 (omega arith), get_or-take 4 ns 3 0 (omega arith)) refl
