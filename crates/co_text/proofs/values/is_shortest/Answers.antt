-- Of more than one digit the first decides.
use Rattle.std.proofs.Common.{◌≡◌, ◌<◌, false, not, ◌==◌, [], ◌∷◌, length, get_or, refl, ap, sym, rules, tests, arith}
use Rattle.std.specs.Prelude.{◌||◌}
use Rattle.co_text.specs.Values.{Word, is_shortest}
use Rattle.co_text.proofs.values.is_shortest.Goals as goal

first_decides : (w : Word) → 1 < length w → not (get_or w 0 0 == 48) ≡ is_shortest w
first_decides [] h = refl
first_decides (c ∷ []) h = absurd (omega (arith, h))
first_decides (c ∷ (d ∷ w)) h =
    let some : (length (d ∷ w) == 0) ≡ false = search (tests, arith) in
    sym (ap (λ b. b || not (c == 48)) some)

pub returns-else-is_empty : goal.returns-else-is_empty
returns-else-is_empty c =
    let long : 1 < length c.args.word.now = search (rules, tests, arith) in
    first_decides c.args.word.now long
