-- The order of lines, by their ranks, and the number that comes next.
use Rattle.std.proofs.Common.{◌≡◌, ℕ, ◌+◌, ◌<◌, ◌≤◌, Bool, true, false, not, ◌&&◌, ◌||◌, refl, arith}
use Rattle.std.specs.Prelude.{◌==◌, nat_lt}
use Rattle.std.proofs.lemmas.Bool.{ltb-true, eqb-true}
use Rattle.co_object.proofs.Changes.{both_true}
use Rattle.co_grammar.specs.declared.Kind.{Kind}
use Rattle.co_grammar.specs.declared.Opener.TheVariants.{Frame}
use Rattle.co_grammar.specs.Keywords.{rank, is_single}
use Rattle.co_grammar.specs.Checks.{is_next_of}
use Rattle.co_script.specs.Reading.{may_stand}

pub rank-rises : (stage k : Kind) → may_stand stage (Frame k) ≡ true → rank stage ≤ rank k
rank-rises stage k h = go (nat_lt (rank stage) (rank k)) (rank stage == rank k) refl refl h where
  go : (a b : Bool) → nat_lt (rank stage) (rank k) ≡ a → (rank stage == rank k) ≡ b → (a || (b && not (is_single k))) ≡ true → rank stage ≤ rank k
  go true b less same h = let below : rank stage < rank k = ltb-true (rank stage) (rank k) less in omega (arith, below)
  go false true less same h = let equal : rank stage ≡ rank k = eqb-true (rank stage) (rank k) same in omega (arith, equal)
  go false false less same h = cc

pub rank-after : (stage k : Kind) → is_single k ≡ true → may_stand stage (Frame k) ≡ true → rank stage < rank k
rank-after stage k single h = go (nat_lt (rank stage) (rank k)) (rank stage == rank k) refl (is_single k) single h where
  go : (a b : Bool) → nat_lt (rank stage) (rank k) ≡ a → (c : Bool) → c ≡ true → (a || (b && not c)) ≡ true → rank stage < rank k
  go true b less c single h = ltb-true (rank stage) (rank k) less
  go false true less true single h = cc
  go false true less false single h = cc
  go false false less c single h = cc

pub next-of : (most count n : ℕ) → is_next_of most count n ≡ true → count + 1 ≤ most
next-of most count n h =
    let both = both_true (n == count) (nat_lt n most) h in
    let same : n ≡ count = eqb-true n count both.0 in
    let less : n < most = ltb-true n most both.1 in
    omega (arith, same, less)
