-- One more turn goes over from the rest of the line to what is summed.
use Rattle.std.proofs.Common.{◌≡◌, ℕ, ◌+◌, ◌≤◌, min, Bool, true, false, ◌&&◌, List, [], ◌∷◌, refl, ap, sym, ◌∙◌, arith, rules}
use Rattle.std.specs.Prelude.{Result, Ok, Err, sum_by}
use Rattle.std.specs.List.{list_all}
use Rattle.std.proofs.lemmas.List.Sums.{sum_by-cons}
use Rattle.co_text.specs.Fallible.{◌>>=◌}
use Rattle.co_text.specs.Values.{Word}
use Rattle.co_text.specs.declared.Cause.{Cause}
use Rattle.co_program.specs.declared.Script.{Script}
use Rattle.co_grammar.specs.Turns.{Turn, turn}
use Rattle.co_grammar.specs.Forms.{all_turns}
use Rattle.co_grammar.specs.Views.{turn_view}
use Rattle.co_script.specs.declared.turns.Summary.{Summary}
use Rattle.co_script.specs.Refusals.{turn_fits, times_of}
use Rattle.co_script.specs.TurnsTaken.{summary_of, summed}
use Rattle.co_script.proofs.turns.summarize.Goals as goal

-- the summary of turns that are read behind an earlier one
abbrev behind : Script → Bool → ℕ → Result (List Turn) Cause → Result Summary Cause
behind s fits total r = (r >>= λ ts. Ok (summary_of s ts)) >>= λ b. Ok (summed (record { fits = fits; total = total }) b)

abbrev summary : Bool → ℕ → Summary
summary fits total = record { fits = fits; total = total }

and-and : (a b c : Bool) → (a && (b && c)) ≡ ((a && b) && c)
and-and true b c = refl
and-and false b c = refl

and-true : (a : Bool) → (a && true) ≡ a
and-true true = refl
and-true false = refl

both : (a b : Bool) (m n : ℕ) → a ≡ b → m ≡ n → summary a m ≡ summary b n
both a b m n e f = cc

one_more : (s : Script) (fits : Bool) (total : ℕ) (t : Turn) (r : Result (List Turn) Cause) → behind s fits total (r >>= λ ts. Ok (t ∷ ts)) ≡ behind s (fits && turn_fits s t) (min (total + t.times) 1000001) r
one_more s fits total t (Err e) = refl
one_more s fits total t (Ok ts) =
    ap (λ (b : Summary). Ok b) (both _ _ _ _ (and-and fits (turn_fits s t) (list_all (turn_fits s) ts)) (sums total t.times (sum_by times_of ts) (sum_by times_of (t ∷ ts)) (sum_by-cons times_of t ts)))
  where
    sums : (a b c d : ℕ) → d ≡ b + c → min (a + min d 1000001) 1000001 ≡ min (min (a + b) 1000001 + min c 1000001) 1000001
    sums a b c d e = omega arith

step : (v : ℕ) (s : Script) (fits : Bool) (total : ℕ) (w : Word) (ws : List Word) (t : Turn) → turn v w ≡ Ok t → behind s fits total (all_turns v (w ∷ ws)) ≡ behind s (fits && turn_fits s t) (min (total + t.times) 1000001) (all_turns v ws)
step v s fits total w ws t e =
    ap (λ r. behind s fits total (r >>= λ t. all_turns v ws >>= λ ts. Ok (t ∷ ts))) e ∙ one_more s fits total t (all_turns v ws)

ended : (s : Script) (fits : Bool) (total : ℕ) → total ≤ 1000001 → behind s fits total (Ok []) ≡ Ok (record { fits = fits; total = total })
ended s fits total small = ap (λ (b : Summary). Ok b) (both _ _ _ _ (and-true fits) (let n : min (total + min 0 1000001) 1000001 ≡ total = omega arith in n))

pub loop-word-preserved : goal.loop-word-preserved
loop-word-preserved c =
    let s = c.args.script.now in
    let v = c.args.version in
    let t = turn_view c.in_ok-turn.turn in
    let before = c.loop-word in
    let rest = all_turns v c.next.new.self in
    let fits : c.if-fits.fits ≡ (before.fits && turn_fits s t) = search rules in record {
      same = ap (λ f. behind s f c.counted-total.result rest) fits
          ∙ ap (λ n. behind s (before.fits && turn_fits s t) n rest) c.counted-total.ensures
          ∙ sym (step v s before.fits before.total c.in-Some.word.now c.next.new.self t c.in_ok-turn.ensures)
          ∙ ap (λ ws. behind s before.fits before.total (all_turns v ws)) (sym c.in-Some.ensures)
          ∙ before.invariant.same;
      small = omega arith;
    }

pub returns : goal.returns
returns c =
    sym c.loop-word.invariant.same
    ∙ ap (λ ws. behind c.args.script.now c.loop-word.fits c.loop-word.total (all_turns c.args.version ws)) c.in_default.ensures
    ∙ ended c.args.script.now c.loop-word.fits c.loop-word.total c.loop-word.invariant.small
