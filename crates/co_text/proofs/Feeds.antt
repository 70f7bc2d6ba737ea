-- The first byte that passes a test, as the search for a byte gives it.
use Rattle.std.proofs.Common.{◌≡◌, ℕ, Bool, true, false, List, length, refl, sym, arith}
use Rattle.std.specs.List.{position_or_len}
use Rattle.std.proofs.lemmas.List.Sums.{position_or_len_is}
use Rattle.memchr.specs.Find.{Nowhere, NoneBefore, Passes, is_byte}
use Rattle.co_text.specs.Lines.{is_feed}

fails : (b : Bool) → ¬ (b ≡ true) → b ≡ false
fails true h = absurd (h refl)
fails false h = refl

pub none_is_first : (bs : List ℕ) → Nowhere (Passes (is_byte 10) bs) 0 (length bs) → length bs ≡ position_or_len is_feed bs
none_is_first bs none = sym (position_or_len_is is_feed bs (length bs) 0 (omega arith) (λ k h. fails _ (none k (omega arith) h)) (λ h. absurd (omega (arith, h))))

pub first_is_first : (bs : List ℕ) (k : ℕ) → NoneBefore (Passes (is_byte 10) bs) 0 (length bs) k → Passes (is_byte 10) bs k → k ≡ position_or_len is_feed bs
first_is_first bs k at here = sym (position_or_len_is is_feed bs k 0 (omega (arith, at.high)) (λ j h. fails _ (at.before j (omega arith) h)) (λ h. here))
