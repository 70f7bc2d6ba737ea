use Rattle.std.proofs.Common.{ℕ, ◌≡◌, ◌+◌, ◌-◌, ◌++◌, List, length, take, ap, ◌∙◌, arith}
use Rattle.std.proofs.lemmas.Slice.{drop-put_mid}
use Rattle.co_packed.proofs.Again.{bytes_of_word, length_of_bytes}
use Rattle.co_packed.proofs.Widths.{word_put}
use Rattle.co_packed.specs.Numbers.{bytes_of}
use Rattle.co_packed.proofs.numbers.put_word.Goals as goal

pub returns-clause-written : goal.returns-clause-written
returns-clause-written c =
    let is : c.copy_from_slice.new.self ≡ bytes_of 8 c.args.word = c.copy_from_slice.ensures.after ∙ c.to_le_bytes.ensures ∙ bytes_of_word c.args.word in
    let long : length c.copy_from_slice.new.self ≡ 8 = ap length is ∙ length_of_bytes 8 c.args.word in
    word_put c.args.buffer.now c.copy_from_slice.new.self _ c.args.at (omega arith) long
    ∙ ap (λ (xs : List ℕ). take c.args.at c.args.buffer.now ++ xs) is

pub returns-clause-behind : goal.returns-clause-behind
returns-clause-behind c =
    let is : c.copy_from_slice.new.self ≡ bytes_of 8 c.args.word = c.copy_from_slice.ensures.after ∙ c.to_le_bytes.ensures ∙ bytes_of_word c.args.word in
    let long : length c.copy_from_slice.new.self ≡ 8 = ap length is ∙ length_of_bytes 8 c.args.word in
    let long_too : length c.copy_from_slice.new.self ≡ c.args.at + 8 - c.args.at = omega (arith, long) in
    drop-put_mid c.args.at (c.args.at + 8 - c.args.at) c.args.buffer.now c.copy_from_slice.new.self (c.args.at + 8) (omega arith) (omega arith) long_too
