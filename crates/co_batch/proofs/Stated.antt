-- A command of one value, which stands alone.
use Rattle.std.proofs.Common.{◌≡◌, Bool, true, false, List, sym, subst, ap, Result, Ok, Err}
use Rattle.std.specs.Result.{IsOkAnd, MatchResult}
use Rattle.co_text.specs.Fallible.{◌>>=◌, ◌>>◌, unless, Gives}
use Rattle.co_text.specs.Taking.{lone}
use Rattle.co_text.specs.Values.{Word}
use Rattle.co_text.specs.declared.Cause.{Cause}
use Rattle.co_text.specs.declared.Cause.TheVariants as cause
use Rattle.co_batch.specs.Stated.{in_range, stated, lone_of}

-- a value, as a command
abbrev as_command : {X C : Type 0} → (X → C) → Result X Cause → Result C Cause
as_command make (Ok x) = Ok (make x)
as_command make (Err e) = Err e

-- what `map` says of a value and a command
abbrev pub IsMapped : {X C : Type 0} → (X → C) → Result X Cause → Result C Cause → Type 0
IsMapped make r m = MatchResult r (λ x. IsOkAnd m (λ y. y ≡ make x)) (λ e. m ≡ Err e)

mapped-is : {X C : Type 0} (make : X → C) (r : Result X Cause) (m : Result C Cause) → IsMapped make r m → m ≡ as_command make r
mapped-is make (Ok x) (Ok y) h = ap Ok h
mapped-is make (Ok x) (Err e) h = absurd h
mapped-is make (Err e) m h = h

module _ {X C : Type 0} (value : Word → Result X Cause) (make : X → C) (fits : C → Bool) (ws : List Word) where
  -- where its number is in its range exactly where that of the command is
  in_range-command : (test : X → Bool) → ((x : X) → fits (make x) ≡ test x) → (r : Result X Cause) → Gives (λ x. x) r (stated test (lone value ws)) → Gives (λ c. c) (as_command make r) (stated fits (lone_of value make ws))
  in_range-command test same r gives = at_read (lone value ws) r gives where
    at_test : (b : Bool) (x : X) (r : Result X Cause) → Gives (λ x. x) r (unless b cause.Number >> Ok x) → Gives (λ c. c) (as_command make r) (unless b cause.Number >> Ok (make x))
    at_test true x (Ok y) g = let is : x ≡ y = cc in ap (λ z. Ok (make z)) is
    at_test true x (Err e) g = cc
    at_test false x (Ok y) g = cc
    at_test false x (Err e) g = let is : cause.Number ≡ e = cc in ap Err is

    at_read : (read : Result X Cause) (r : Result X Cause) → Gives (λ x. x) r (read >>= in_range test) → Gives (λ c. c) (as_command make r) ((read >>= λ x. Ok (make x)) >>= in_range fits)
    at_read (Ok x) r g = subst (λ b. Gives (λ c. c) (as_command make r) (unless b cause.Number >> Ok (make x))) (sym (same x)) (at_test (test x) x r g)
    at_read (Err e) (Ok y) g = cc
    at_read (Err e) (Err d) g = let is : e ≡ d = cc in ap Err is

  -- where it has no number, or its number is always in its range
  any-command : ((x : X) → fits (make x) ≡ true) → (r : Result X Cause) → Gives (λ x. x) r (lone value ws) → Gives (λ c. c) (as_command make r) (stated fits (lone_of value make ws))
  any-command always r gives = at_read (lone value ws) r gives where
    at_read : (read : Result X Cause) (r : Result X Cause) → Gives (λ x. x) r read → Gives (λ c. c) (as_command make r) ((read >>= λ x. Ok (make x)) >>= in_range fits)
    at_read (Ok x) (Ok y) g =
        let is : x ≡ y = cc in
        subst (λ b. (unless b cause.Number >> Ok (make x)) ≡ Ok (make y)) (sym (always x)) (ap (λ z. Ok (make z)) is)
    at_read (Ok x) (Err e) g = cc
    at_read (Err e) (Ok y) g = cc
    at_read (Err e) (Err d) g = let is : e ≡ d = cc in ap Err is

  -- of a `map`
  module _ (r : Result X Cause) (m : Result C Cause) (mapped : IsMapped make r m) where
    pub in_range-mapped : (test : X → Bool) → ((x : X) → fits (make x) ≡ test x) → Gives (λ x. x) r (stated test (lone value ws)) → Gives (λ c. c) m (stated fits (lone_of value make ws))
    in_range-mapped test same gives = subst (λ n. Gives (λ c. c) n (stated fits (lone_of value make ws))) (sym (mapped-is make r m mapped)) (in_range-command test same r gives)

    pub any-mapped : ((x : X) → fits (make x) ≡ true) → Gives (λ x. x) r (lone value ws) → Gives (λ c. c) m (stated fits (lone_of value make ws))
    any-mapped always gives = subst (λ n. Gives (λ c. c) n (stated fits (lone_of value make ws))) (sym (mapped-is make r m mapped)) (any-command always r gives)
